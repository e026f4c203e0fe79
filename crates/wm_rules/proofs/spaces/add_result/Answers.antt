-- The last type has a result already.
use Rattle.std.proofs.Common.{sym, ◌∙◌}
use Rattle.wm_rules.proofs.LastTypes.{two_results}
use Rattle.wm_rules.proofs.spaces.add_result.Goals as goal

pub returns-then-is_some-clause-taken : goal.returns-then-is_some-clause-taken
returns-then-is_some-clause-taken c =
    λ no. two_results c.args.ty c.args.types.now c.in-Some.last.params.now c.in-Some.last.result c.in-Some.ensures (sym c.is_some.ensures ∙ c.if-is_some.true)
