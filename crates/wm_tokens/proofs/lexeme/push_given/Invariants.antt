use Rattle.std.proofs.Common.{◌≡◌, ◌≤◌, ◌++◌, length}
use Rattle.wm_tokens.specs.exact.Scan.{given_in}
use Rattle.wm_tokens.specs.declared.scan.Mode.TheVariants.{Plain}
use Rattle.wm_tokens.proofs.lexeme.push_given.Given as goal

abbrev pub invariant-loop-byte : goal.invariant-loop-byte
invariant-loop-byte l = record { left : l.bytes.items ++ given_in Plain l.rest ≡ l.fn.bytes.items ++ given_in Plain l.text; within : length l.rest ≤ length l.text }

abbrev pub decreases-loop-byte : goal.decreases-loop-byte
decreases-loop-byte l = length l.rest
