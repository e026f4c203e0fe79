use Rattle.std.proofs.Common.{length, ◌-◌, ◌≡◌, ◌≤◌, false, take}
use Rattle.std.specs.Io.KnownBytes.{Appends}
use Rattle.wm_syntax.proofs.io.put_all.Given as goal

abbrev pub invariant-loop-from : goal.invariant-loop-from
invariant-loop-from g l = (l.from ≤ length l.bytes) × Appends (g.W.Dest.contents l.fn.w) (g.W.Dest.contents l.w) (take l.from l.bytes) × (g.W.Dest.has_failed l.w ≡ false)

abbrev pub decreases-loop-from : goal.decreases-loop-from
decreases-loop-from g l = length l.initial.bytes - l.from
