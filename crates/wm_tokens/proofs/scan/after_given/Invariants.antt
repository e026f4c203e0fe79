use Rattle.std.proofs.Common.{◌≡◌, ◌≤◌, length}
use Rattle.wm_tokens.specs.exact.Scan.{rest_of, string_in, why_in}
use Rattle.wm_tokens.specs.declared.scan.Mode.TheVariants.{Plain}
use Rattle.wm_tokens.proofs.scan.after_given.Given as goal

abbrev pub invariant-loop-more : goal.invariant-loop-more
invariant-loop-more l = record { left : rest_of (string_in Plain l.rest) ≡ rest_of (string_in Plain l.text); why : why_in Plain l.rest ≡ why_in Plain l.text; within : length l.rest ≤ length l.text }

abbrev pub decreases-loop-more : goal.decreases-loop-more
decreases-loop-more l = length l.rest
