use Rattle.wm_typing.proofs.WholeBodies.{one_place}
use Rattle.wm_typing.proofs.laws.one_place.Goals as goal

pub returns : goal.returns
returns c = one_place
