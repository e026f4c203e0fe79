use Rattle.std.proofs.Common.{◌≡◌, ◌≤◌}
use Rattle.wm_bodies.specs.exact.Reading.{exponent_below, exponent_of}
use Rattle.wm_bodies.proofs.literals.any_exponent.Given as goal

abbrev pub invariant-loop-e : goal.invariant-loop-e
invariant-loop-e l = record { within : l.e ≤ 32; same : exponent_below l.e l.n ≡ exponent_of l.n }

abbrev pub decreases-loop-e : goal.decreases-loop-e
decreases-loop-e l = l.e
