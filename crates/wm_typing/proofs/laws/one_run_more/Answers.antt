-- The new locals lengthen the last run, or are a new one.
use Rattle.wm_typing.proofs.FewRuns.{run_count_more}
use Rattle.wm_typing.proofs.laws.one_run_more.Goals as goal

pub returns : goal.returns
returns c locals count t = run_count_more locals count t
