use Rattle.std.proofs.Common.{arith}
use Rattle.wm_bodies.proofs.Numbers.{below_all}
use Rattle.wm_bodies.proofs.literals.any_exponent.Goals as goal

pub loop-e-init : goal.loop-e-init
loop-e-init c = record { within = omega arith; same = below_all c.args.n }
