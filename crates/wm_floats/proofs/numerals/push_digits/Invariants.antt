use Rattle.std.proofs.Common.{◌≡◌, ◌++◌, length}
use Rattle.wm_floats.specs.exact.Atoms.{plain}
use Rattle.wm_floats.proofs.numerals.push_digits.Given as goal

abbrev pub invariant-loop-rest : goal.invariant-loop-rest
invariant-loop-rest l = l.text.items ++ plain l.rest ≡ l.fn.text.items ++ plain l.digits

abbrev pub decreases-loop-rest : goal.decreases-loop-rest
decreases-loop-rest l = length l.rest
