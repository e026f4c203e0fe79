use Rattle.std.proofs.Common.{◌-◌, ◌≤◌, None, length}
use Rattle.wm_shortcuts.specs.exact.Shortcuts.{Advances}
use Rattle.wm_shortcuts.specs.exact.Indices.{before_index, followed_indices, index_room, indices_past}
use Rattle.wm_shortcuts.proofs.whole_indices.whole_indices.Given as goal

abbrev pub invariant-loop-count : goal.invariant-loop-count
invariant-loop-count g l = record {
  within : l.used ≤ length l.bytes;
  room : l.used ≤ index_room l.before;
  followed : l.count ≤ followed_indices l.before;
  advanced : Advances g.S.Sink.after g.S.Sink.may_run_out l.fn.profile l.bytes (before_index l.before) (g.S.Sink.held l.fn.sink)
      (record { used = l.used; refused = None }) (before_index (indices_past l.before l.used l.count)) (g.S.Sink.held l.sink);
}

abbrev pub decreases-loop-count : goal.decreases-loop-count
decreases-loop-count g l = l.followed - l.count
