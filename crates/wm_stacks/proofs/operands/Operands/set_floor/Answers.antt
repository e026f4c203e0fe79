-- The kinds are unchanged.
use Rattle.wm_stacks.proofs.KindsAndWidths.{floor_set}
use Rattle.wm_stacks.proofs.operands.Operands.set_floor.Goals as goal

pub returns : goal.returns
returns c =
    let s = c.self.inside in
    floor_set s.packed c.set_floor.new.self s.widths c.args.self.now c.args.floor c.self.view_is c.set_floor.ensures
