-- A number has no more bytes than it is allowed to have.
use Rattle.wm_syntax.proofs.NumberLoops.{signed_short_after}
use Rattle.wm_syntax.proofs.chunk.Chunk.push_signed.Goals as goal

pub returns-then-value-ge0-clause-short : goal.returns-then-value-ge0-clause-short
returns-then-value-ge0-clause-short c = signed_short_after _ _ _ _ c.push_positive.ensures

pub returns-else-value-ge0-clause-short : goal.returns-else-value-ge0-clause-short
returns-else-value-ge0-clause-short c = signed_short_after _ _ _ _ c.push_negative.ensures
