-- The result of `advance` agrees with the typing.
use Rattle.std.proofs.Common.{◌∷◌, ◌++◌, [], length}
use Rattle.wm_typing.proofs.AfterCalls.{within_after, stats_said, after_said, typed_said, ended_said, denotes_said, empty_said, ended_twice, nested_said, controls_said, on_ok}
use Rattle.wm_typing.proofs.body_checker.BodyChecker.step.Goals as goal

pub returns-clause-within : goal.returns-clause-within
returns-clause-within c x locals ops a =
    within_after c.args.context.now (length ops) c.args.self.now c.args.op c.advance.new.self a.within
    (stats_said c.args.context.now c.args.self.now c.args.op c.advance.new.self c.advance.result a.unrefused c.advance.ensures.exact)
    c.advance.ensures.adds.0 c.advance.ensures.adds.1

pub returns-clause-after : goal.returns-clause-after
returns-clause-after c x locals ops a =
    after_said c.args.context.now x locals ops c.args.self.now c.args.op c.advance.new.self a (c.requires a.unrefused)
    (returns-clause-within c x locals ops a) c.advance.result c.advance.ensures.exact

pub returns-clause-typed : goal.returns-clause-typed
returns-clause-typed c x locals ops a =
    typed_said c.args.context.now x locals ops c.args.self.now c.args.op c.advance.new.self a (c.requires a.unrefused)
    (returns-clause-within c x locals ops a) c.advance.result c.advance.ensures.exact

pub returns-clause-ended : goal.returns-clause-ended
returns-clause-ended c x locals ops a =
    ended_said c.args.context.now x locals ops c.args.self.now c.args.op c.advance.new.self a (c.requires a.unrefused)
    (returns-clause-within c x locals ops a) c.advance.result c.advance.ensures.exact c.advance.ensures.progress

pub returns-clause-denotes : goal.returns-clause-denotes
returns-clause-denotes c x locals ops a i =
    denotes_said c.args.context.now x locals ops c.args.self.now c.args.op c.advance.new.self a (c.requires a.unrefused)
    (returns-clause-within c x locals ops a) c.advance.result c.advance.ensures.exact c.advance.ensures.progress i

pub returns-clause-empty : goal.returns-clause-empty
returns-clause-empty c x locals ops a i =
    empty_said c.args.context.now x locals ops c.args.self.now c.args.op c.advance.new.self a (c.requires a.unrefused)
    (returns-clause-within c x locals ops a) c.advance.result c.advance.ensures.exact c.advance.ensures.progress i

pub returns-clause-nested : goal.returns-clause-nested
returns-clause-nested c x locals ops a = on_ok c.advance.result (returns-clause-after c x locals ops a) (nested_said c.args.context.now x locals (ops ++ c.args.op ∷ []) c.advance.new.self)

pub returns-clause-controls : goal.returns-clause-controls
returns-clause-controls c x locals ops a = on_ok c.advance.result (returns-clause-after c x locals ops a) (controls_said c.args.context.now x locals (ops ++ c.args.op ∷ []) c.advance.new.self)

pub returns-clause-twice : goal.returns-clause-twice
returns-clause-twice c x locals ops a i =
    ended_twice c.args.context.now x locals ops c.args.self.now c.args.op c.advance.new.self a (c.requires a.unrefused)
    (returns-clause-within c x locals ops a) c.advance.result c.advance.ensures.exact c.advance.ensures.progress i
