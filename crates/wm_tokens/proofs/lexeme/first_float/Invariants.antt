use Rattle.std.proofs.Common.{◌≤◌, false, length}
use Rattle.wm_tokens.specs.inner.Places.{Steps}
use Rattle.wm_tokens.proofs.lexeme.first_float.Given as goal

abbrev pub invariant-loop-more : goal.invariant-loop-more
invariant-loop-more l = record { steps : Steps false l.text l.rest; within : length l.rest ≤ length l.text }

abbrev pub decreases-loop-more : goal.decreases-loop-more
decreases-loop-more l = length l.rest
