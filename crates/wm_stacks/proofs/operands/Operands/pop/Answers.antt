-- One kind is removed, if there is one.
use Rattle.wm_stacks.proofs.KindsAndWidths.{popped}
use Rattle.wm_stacks.proofs.operands.Operands.pop.Goals as goal

pub returns : goal.returns
returns c =
    let s = c.self.inside in
    popped s.packed c.pop.new.self s.widths c.args.self.now c.self.view_is c.pop.ensures
