use Rattle.wm_floats.proofs.Bridge.{one_nearest}
use Rattle.wm_floats.proofs.laws.one_nearest.Goals as goal

pub returns : goal.returns
returns c = one_nearest
