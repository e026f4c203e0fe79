use Rattle.std.proofs.Common.{◌≡◌, ◌≤◌, length}
use Rattle.wm_tokens.specs.exact.Scan.{lexed}
use Rattle.wm_tokens.proofs.Whole.{Spaced}
use Rattle.wm_tokens.proofs.lexeme.skip_space.Given as goal

abbrev pub invariant-loop-more : goal.invariant-loop-more
invariant-loop-more l = record { left : lexed l.rest ≡ lexed l.text; within : length l.rest ≤ length l.text; spaced : Spaced l.text l.rest }

abbrev pub decreases-loop-more : goal.decreases-loop-more
decreases-loop-more l = length l.rest
