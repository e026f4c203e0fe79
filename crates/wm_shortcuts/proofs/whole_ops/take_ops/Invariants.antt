use Rattle.std.proofs.Common.{◌-◌, ◌≡◌, ◌≤◌, length}
use Rattle.wm_shortcuts.specs.exact.WholeOps.{OpsTaken}
use Rattle.wm_shortcuts.proofs.whole_ops.take_ops.Given as goal

abbrev pub invariant-loop-used : goal.invariant-loop-used
invariant-loop-used g l = record {
  one : l.end ≡ 0 → l.used ≡ 0;
  within : l.used ≤ l.room;
  inside : l.used ≤ length l.bytes;
  ran : OpsTaken g.S.Sink.after l.fn.profile l.bytes l.room 0 l.start (g.S.Sink.held l.initial.sink) l.used l.depth (g.S.Sink.held l.sink);
}

abbrev pub decreases-loop-used : goal.decreases-loop-used
decreases-loop-used g l = l.end - l.used
