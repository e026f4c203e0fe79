-- The locals of the runs so far are declared.
use Rattle.std.proofs.Common.{◌<◌, ◌^◌, ℕ, [], length, take}
use Rattle.wm_typing.specs.Typing.{Context}
use Rattle.wm_syntax.specs.Modules.{locals_of}
use Rattle.wm_typing.specs.inner.Checking.{BodyAfter}
use Rattle.wm_typing.proofs.bodies.declare_all.Given as goal

abbrev pub invariant-loop-run : goal.invariant-loop-run
invariant-loop-run l = record {
  after : (c : Context) (x : ℕ) → BodyAfter c x [] [] l.fn.checker → BodyAfter c x (locals_of (take l.run-index l.runs)) [] l.checker;
  few : (c : Context) (x : ℕ) → BodyAfter c x [] [] l.fn.checker → length (locals_of (take l.run-index l.runs)) < 2 ^ 32;
}
