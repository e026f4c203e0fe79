use Rattle.wm_floats.proofs.Written.{float_found, float_more}
use Rattle.wm_floats.proofs.laws.floats_are_read_as_written.Goals as goal

pub returns : goal.returns
returns c w bits a = (float_found w bits a, float_more w bits a)
