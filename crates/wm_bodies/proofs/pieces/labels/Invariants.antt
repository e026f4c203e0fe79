use Rattle.std.proofs.Common.{◌≡◌, ◌≤◌, length}
use Rattle.wm_tokens.specs.exact.Scan.{lexed}
use Rattle.wm_bodies.specs.inner.Pieces.{labels}
use Rattle.wm_bodies.specs.exact.Reading.{labels_at}
use Rattle.wm_bodies.proofs.Tables.{with_front}
use Rattle.wm_bodies.proofs.pieces.labels.Given as goal

abbrev pub invariant-loop-labels : goal.invariant-loop-labels
invariant-loop-labels l = record {
  read : with_front l.labels.items (labels_at (labels l.blocks) (lexed l.rest)) ≡ labels_at (labels l.blocks) (lexed l.text);
  few : length l.labels.items ≤ l.most;
}

abbrev pub decreases-loop-labels : goal.decreases-loop-labels
decreases-loop-labels l = length l.rest
