use Rattle.std.proofs.Common.{◌≡◌, length}
use Rattle.wm_tokens.specs.exact.Scan.{rest_of, string_in, why_in}
use Rattle.wm_tokens.specs.inner.Lexemes.{IsMode}
use Rattle.wm_tokens.specs.declared.scan.Mode.TheVariants.{Plain}
use Rattle.wm_tokens.proofs.scan.after_string.Given as goal

abbrev pub invariant-loop-rest : goal.invariant-loop-rest
invariant-loop-rest l = record { left : rest_of (string_in l.mode l.rest) ≡ rest_of (string_in Plain l.text); why : why_in l.mode l.rest ≡ why_in Plain l.text; mode : IsMode l.mode }

abbrev pub decreases-loop-rest : goal.decreases-loop-rest
decreases-loop-rest l = length l.rest
