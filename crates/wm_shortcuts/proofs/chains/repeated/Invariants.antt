use Rattle.std.proofs.Common.{◌-◌, ◌≤◌, None, length}
use Rattle.wm_shortcuts.specs.exact.Shortcuts.{Advances}
use Rattle.wm_shortcuts.proofs.chains.repeated.Given as goal

abbrev pub invariant-loop-used : goal.invariant-loop-used
invariant-loop-used g l = record {
  within : l.used ≤ length l.bytes;
  advanced : Advances g.S.Sink.after g.S.Sink.may_run_out l.fn.profile l.bytes l.fn.machine (g.S.Sink.held l.fn.sink)
      (record { used = l.used; refused = None }) l.machine (g.S.Sink.held l.sink);
}

abbrev pub decreases-loop-used : goal.decreases-loop-used
decreases-loop-used g l = length l.bytes - l.used
