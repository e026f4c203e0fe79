use Rattle.std.proofs.Common.{ap}
use Rattle.wm_write.specs.Canon.{canon}
use Rattle.wm_write.proofs.RoundTrip.{one_value}
use Rattle.wm_write.proofs.laws.loaded_modules_by_their_bytes.Goals as goal

pub returns : goal.returns
returns c = λ m n l k. (one_value m n l k, λ e. ap canon e)
