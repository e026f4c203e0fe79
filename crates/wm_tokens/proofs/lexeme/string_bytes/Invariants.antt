use Rattle.std.proofs.Common.{◌≡◌, ◌++◌, length}
use Rattle.wm_tokens.specs.exact.Scan.{given_in}
use Rattle.wm_tokens.specs.inner.Lexemes.{IsMode}
use Rattle.wm_tokens.specs.declared.scan.Mode.TheVariants.{Plain}
use Rattle.wm_tokens.proofs.lexeme.string_bytes.Given as goal

abbrev pub invariant-loop-rest : goal.invariant-loop-rest
invariant-loop-rest l = record { left : l.bytes.items ++ given_in l.mode l.rest ≡ given_in Plain l.text; mode : IsMode l.mode }

abbrev pub decreases-loop-rest : goal.decreases-loop-rest
decreases-loop-rest l = length l.rest
