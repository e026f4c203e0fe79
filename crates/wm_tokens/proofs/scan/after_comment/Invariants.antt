use Rattle.std.proofs.Common.{◌≡◌, zero, ◌+◌, ◌≤◌, length}
use Rattle.wm_tokens.specs.exact.Scan.{after_comment}
use Rattle.wm_tokens.proofs.scan.after_comment.Given as goal

abbrev pub invariant-loop-more : goal.invariant-loop-more
invariant-loop-more l = record { left : after_comment l.open l.rest ≡ after_comment zero l.text; room : l.open + length l.rest ≤ length l.text }

abbrev pub decreases-loop-more : goal.decreases-loop-more
decreases-loop-more l = length l.rest
