use Rattle.wm_shortcuts.proofs.Advances.{advances_by}
use Rattle.wm_shortcuts.proofs.heads.runs.Goals as goal

pub returns : goal.returns
returns g c = advances_by g.S.Sink.after g.S.Sink.may_run_out c.args.profile _ _ _ _ _ _ _ _ c.in-Some.ensures c.after.ensures c.give_runs-given.ensures.advances
