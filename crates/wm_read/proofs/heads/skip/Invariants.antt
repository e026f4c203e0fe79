use Rattle.std.proofs.Common.{◌≡◌, ◌≤◌, ◌+◌, length}
use Rattle.wm_read.specs.exact.FirstReading.{skip}
use Rattle.wm_tokens.specs.exact.Scan.{lexed}
use Rattle.wm_read.proofs.heads.skip.Given as goal

abbrev pub invariant-loop-open : goal.invariant-loop-open
invariant-loop-open l = record { same : skip l.«open» (lexed l.rest) ≡ skip l.depth (lexed l.text); room : l.«open» + length l.rest ≤ 2 + length l.text }

abbrev pub decreases-loop-open : goal.decreases-loop-open
decreases-loop-open l = length l.rest
