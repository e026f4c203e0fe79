use Rattle.std.proofs.Common.{◌≤◌, None, length}
use Rattle.wm_shortcuts.specs.exact.Heads.{head_after, in_head}
use Rattle.wm_shortcuts.specs.exact.Shortcuts.{Advances}
use Rattle.wm_shortcuts.proofs.heads.give_runs.Given as goal

abbrev pub invariant-loop-runs : goal.invariant-loop-runs
invariant-loop-runs g l = record {
  within : l.used ≤ length l.bytes;
  section : l.used ≤ l.fn.start.more;
  own : l.used ≤ l.fn.start.rest;
  advanced : Advances g.S.Sink.after g.S.Sink.may_run_out l.fn.profile l.bytes (in_head l.fn.start) (g.S.Sink.held l.fn.sink)
      (record { used = l.used; refused = None }) (in_head (head_after l.fn.start l.used l.runs)) (g.S.Sink.held l.sink);
}

abbrev pub decreases-loop-runs : goal.decreases-loop-runs
decreases-loop-runs g l = l.runs
