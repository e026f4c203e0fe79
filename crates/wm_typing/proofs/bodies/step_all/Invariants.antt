-- The ops so far were taken, and the body has not ended.
use Rattle.std.proofs.Common.{◌<◌, length, take}
use Rattle.wm_typing.specs.inner.Checking.{BodyAfter}
use Rattle.wm_typing.proofs.bodies.step_all.Given as goal

abbrev pub invariant-loop-i : goal.invariant-loop-i
invariant-loop-i l = record {
  after : BodyAfter l.context l.fn.checker.type_index l.fn.checker.declared (take l.i l.ops) l.checker;
  inside : 0 < length l.checker.state.stacks.frames;
}
