use Rattle.std.proofs.Common.{◌≡◌, ℕ, ◌<◌, ◌≤◌, get_or, length, true, ◌-◌}
use Rattle.wm_tokens.specs.Tokens.{is_id_char}
use Rattle.wm_tokens.proofs.scan.atom_end.Given as goal

abbrev pub invariant-loop-i : goal.invariant-loop-i
invariant-loop-i l = record { within : l.i ≤ length l.text; known : (k : ℕ) → k < l.i → is_id_char (get_or l.text k 0) ≡ true }

abbrev pub decreases-loop-i : goal.decreases-loop-i
decreases-loop-i l = length l.text - l.i
