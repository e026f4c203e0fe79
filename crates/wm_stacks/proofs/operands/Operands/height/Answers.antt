-- There is a kind for each operand.
use Rattle.std.proofs.Common.{sym, ◌∙◌}
use Rattle.wm_stacks.proofs.KindsAndWidths.{height_same}
use Rattle.wm_stacks.proofs.operands.Operands.height.Goals as goal

pub returns-clause-height : goal.returns-clause-height
returns-clause-height c = c.height.ensures.height ∙ sym (height_same c.self.inside.packed c.self.inside.widths c.args.self.now c.self.view_is)
