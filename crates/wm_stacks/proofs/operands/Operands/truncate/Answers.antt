-- The kinds above the height are removed.
use Rattle.wm_stacks.proofs.KindsAndWidths.{cut}
use Rattle.wm_stacks.proofs.operands.Operands.truncate.Goals as goal

pub returns : goal.returns
returns c =
    let s = c.self.inside in
    cut s.packed c.truncate.new.self s.widths c.args.self.now c.args.height c.self.view_is c.truncate.ensures
