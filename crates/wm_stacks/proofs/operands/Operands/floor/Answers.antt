-- The floor is that of the kinds.
use Rattle.std.proofs.Common.{◌∙◌}
use Rattle.wm_stacks.proofs.KindsAndWidths.{floor_same}
use Rattle.wm_stacks.proofs.operands.Operands.floor.Goals as goal

pub returns : goal.returns
returns c = c.floor.ensures ∙ floor_same c.self.inside.packed c.self.inside.widths c.args.self.now c.self.view_is
