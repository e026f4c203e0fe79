use Rattle.std.proofs.Common.{◌≤◌, None, length}
use Rattle.wm_shortcuts.specs.exact.TypeStarts.{in_params, params_after}
use Rattle.wm_shortcuts.specs.exact.Shortcuts.{Advances}
use Rattle.wm_shortcuts.proofs.function_types.give_params.Given as goal

abbrev pub invariant-loop-params : goal.invariant-loop-params
invariant-loop-params g l = record {
  within : l.used ≤ length l.bytes;
  section : l.used ≤ l.fn.start.more;
  advanced : Advances g.S.Sink.after g.S.Sink.may_run_out l.fn.profile l.bytes (in_params l.fn.start) (g.S.Sink.held l.fn.sink)
      (record { used = l.used; refused = None }) (in_params (params_after l.fn.start l.used l.params)) (g.S.Sink.held l.sink);
}

abbrev pub decreases-loop-params : goal.decreases-loop-params
decreases-loop-params g l = l.params
