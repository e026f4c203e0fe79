use Rattle.std.proofs.Common.{◌≡◌, true, length}
use Rattle.wm_tokens.specs.exact.Scan.{has_tokens}
use Rattle.wm_tokens.specs.inner.Places.{Steps}
use Rattle.wm_tokens.proofs.lexeme.check_whole.Given as goal

abbrev pub invariant-loop-more : goal.invariant-loop-more
invariant-loop-more l = record { left : has_tokens l.rest ≡ has_tokens l.text; steps : Steps true l.text l.rest }

abbrev pub decreases-loop-more : goal.decreases-loop-more
decreases-loop-more l = length l.rest
