use Rattle.std.proofs.Common.{◌≡◌, ◌≤◌, length}
use Rattle.wm_tokens.specs.exact.Scan.{lexed}
use Rattle.wm_tokens.proofs.lexeme.any_token.Given as goal

abbrev pub invariant-loop-more : goal.invariant-loop-more
invariant-loop-more l = record { left : lexed l.rest ≡ lexed l.text; within : length l.rest ≤ length l.text }

abbrev pub decreases-loop-more : goal.decreases-loop-more
decreases-loop-more l = length l.rest
