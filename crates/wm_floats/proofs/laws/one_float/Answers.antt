use Rattle.wm_floats.proofs.Written.{one_float}
use Rattle.wm_floats.proofs.laws.one_float.Goals as goal

pub returns : goal.returns
returns c = one_float
