use Rattle.std.proofs.Common.{◌≡◌, length, false}
use Rattle.wm_floats.specs.exact.Atoms.{are_digits}
use Rattle.wm_floats.proofs.digits.are_digits.Given as goal

abbrev pub invariant-loop-c : goal.invariant-loop-c
invariant-loop-c l = are_digits l.base l.after l.rest ≡ are_digits l.base false l.text

abbrev pub decreases-loop-c : goal.decreases-loop-c
decreases-loop-c l = length l.rest
