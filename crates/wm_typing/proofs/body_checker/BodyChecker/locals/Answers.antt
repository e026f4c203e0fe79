-- More locals before the first op do not change the frames.
use Rattle.wm_typing.proofs.AfterCalls.{locals_said}
use Rattle.wm_typing.proofs.body_checker.BodyChecker.locals.Goals as goal

pub returns-clause-after : goal.returns-clause-after
returns-clause-after c d x locals a =
    locals_said d x c.args.count c.args.ty locals c.args.self.now c.declare.new.self _ c.declare.result a c.declare.ensures.exact
