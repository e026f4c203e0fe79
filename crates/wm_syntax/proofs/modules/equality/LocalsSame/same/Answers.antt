-- A list of types has one list of maximal runs.
use Rattle.std.proofs.Common.{◌∙◌, sym, ap}
use Rattle.wm_syntax.specs.inner.Runs.{types_in}
use Rattle.wm_syntax.proofs.RunLists.{one_list}
use Rattle.wm_syntax.proofs.modules.equality.LocalsSame.same.Goals as goal

pub returns : goal.returns
returns c = (
  λ r. sym c.as_runs.ensures.types ∙ ap (types_in 0) (c.same_list.ensures.0 r) ∙ c.as_runs-2.ensures.types,
  λ e. c.same_list.ensures.1 (one_list _ _ c.as_runs.ensures.runs c.as_runs-2.ensures.runs (c.as_runs.ensures.types ∙ e ∙ sym c.as_runs-2.ensures.types)),
)
