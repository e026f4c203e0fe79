use Rattle.std.proofs.Common.{◌≡◌, length, false, ◌<◌}
use Rattle.wm_tokens.specs.exact.Scan.{digits_in}
use Rattle.wm_tokens.proofs.scan.short_decimal.Given as goal

abbrev pub invariant-loop-rest : goal.invariant-loop-rest
invariant-loop-rest l = record { left : digits_in 10 l.n l.after l.rest ≡ digits_in 10 0 false l.text; small : l.n < 1_000_000_000 }

abbrev pub decreases-loop-rest : goal.decreases-loop-rest
decreases-loop-rest l = length l.rest
