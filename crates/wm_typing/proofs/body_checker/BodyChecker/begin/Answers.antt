-- Only the function's frame is open.
use Rattle.std.proofs.Common.{[], sym, subst}
use Rattle.wm_typing.specs.inner.Checking.{BodyAfter}
use Rattle.wm_typing.proofs.AfterCalls.{after_begun}
use Rattle.wm_typing.proofs.body_checker.BodyChecker.begin.Goals as goal

pub returns-clause-after : goal.returns-clause-after
returns-clause-after c =
    subst (λ z. BodyAfter c.args.context.now c.args.type_index [] [] z) (sym c.reset.ensures) (after_begun c.args.context.now c.args.type_index)
