use Rattle.wm_bodies.proofs.Groups.{same_of}
use Rattle.wm_bodies.proofs.type_uses.same.Goals as goal

pub returns : goal.returns
returns c = same_of c.same_list.result c.args.written.now c.args.types.now c.same_list.ensures
