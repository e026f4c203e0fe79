use Rattle.std.proofs.Common.{◌≡◌, ℕ, ◌<◌, get_or, false}
use Rattle.wm_floats.specs.exact.Atoms.{is_mark}
use Rattle.wm_floats.proofs.parts.mark_at.Given as goal

abbrev pub invariant-loop-i : goal.invariant-loop-i
invariant-loop-i l = (k : ℕ) → k < l.i → is_mark l.x l.y (get_or l.text k 0) ≡ false
