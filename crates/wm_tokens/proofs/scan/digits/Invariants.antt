use Rattle.std.proofs.Common.{◌≡◌, length, false, ◌≤◌}
use Rattle.wm_tokens.specs.exact.Scan.{number_in}
use Rattle.wm_tokens.proofs.scan.digits.Given as goal

abbrev pub invariant-loop-c : goal.invariant-loop-c
invariant-loop-c l = record { left : number_in l.base l.n l.after l.rest ≡ number_in l.base 0 false l.text; small : l.n ≤ 0x1_0000_0000_0000_0000 }

abbrev pub decreases-loop-c : goal.decreases-loop-c
decreases-loop-c l = length l.rest
