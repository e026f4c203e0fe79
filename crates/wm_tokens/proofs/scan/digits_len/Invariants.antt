use Rattle.std.proofs.Common.{◌≡◌, ℕ, ◌<◌, ◌≤◌, get_or, length, true, ◌-◌}
use Rattle.wm_tokens.specs.Tokens.{is_digit}
use Rattle.wm_tokens.proofs.scan.digits_len.Given as goal

abbrev pub invariant-loop-i : goal.invariant-loop-i
invariant-loop-i l = record { within : l.i ≤ length l.text; digits : (k : ℕ) → k < l.i → is_digit (get_or l.text k 0) ≡ true }

abbrev pub decreases-loop-i : goal.decreases-loop-i
decreases-loop-i l = length l.text - l.i
