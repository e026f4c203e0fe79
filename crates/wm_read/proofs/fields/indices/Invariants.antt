use Rattle.std.proofs.Common.{◌≡◌, length}
use Rattle.wm_tokens.specs.exact.Scan.{lexed}
use Rattle.wm_bodies.specs.exact.Reading.{labels_at}
use Rattle.wm_bodies.proofs.Tables.{with_front}
use Rattle.wm_read.proofs.fields.indices.Given as goal

abbrev pub invariant-loop-rest : goal.invariant-loop-rest
invariant-loop-rest l = with_front l.indices.items (labels_at l.space (lexed l.rest)) ≡ labels_at l.space (lexed l.text)

abbrev pub decreases-loop-rest : goal.decreases-loop-rest
decreases-loop-rest l = length (lexed l.rest)
