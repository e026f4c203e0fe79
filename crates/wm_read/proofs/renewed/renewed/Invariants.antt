use Rattle.std.proofs.Common.{List, ℕ, ◌++◌, length}
use Rattle.wm_read.specs.inner.Renewed.{Renewed}
use Rattle.wm_read.proofs.renewed.renewed.Given as goal

abbrev pub invariant-loop-part : goal.invariant-loop-part
invariant-loop-part l = (out : List ℕ) → Renewed l.rest out → Renewed l.text (l.bytes.items ++ out)

abbrev pub decreases-loop-part : goal.decreases-loop-part
decreases-loop-part l = length l.rest
