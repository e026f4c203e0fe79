use Rattle.std.proofs.Common.{◌≡◌, length}
use Rattle.wm_read.specs.exact.FirstReading.{heads_at, names_at, names_in}
use Rattle.wm_tokens.specs.exact.Scan.{lexed}
use Rattle.wm_read.specs.inner.Heads.{noted_of}
use Rattle.wm_read.proofs.heads.read_heads.Given as goal

abbrev pub invariant-loop-alloc : goal.invariant-loop-alloc
invariant-loop-alloc l = names_in (heads_at l.profile (noted_of l.noted) (lexed l.rest)) ≡ names_at l.profile (lexed l.text)

abbrev pub decreases-loop-alloc : goal.decreases-loop-alloc
decreases-loop-alloc l = length (lexed l.rest)
