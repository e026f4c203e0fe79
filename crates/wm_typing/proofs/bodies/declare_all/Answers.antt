-- The locals of the runs so far are a front of all locals.
use Rattle.std.proofs.Common.{take_all, ◌<◌, ◌^◌, [], ◌^◌, take, length, sym, subst, inl, inr}
use Rattle.std.proofs.lemmas.Result.{err_from_is_err_and}
use Rattle.wm_typing.specs.inner.Checking.{BodyAfter}
use Rattle.wm_syntax.specs.Modules.{locals_of}
use Rattle.wm_typing.proofs.Ends.{next_run, front_longer, front_few}
use Rattle.wm_typing.proofs.bodies.declare_all.Goals as goal

pub returns-in_err-locals-clause-too_many : goal.returns-in_err-locals-clause-too_many
returns-in_err-locals-clause-too_many c d x a =
    let p = err_from_is_err_and c.from_residual.result c.from_residual.ensures.1 in
    rw (p.1, p.2)
    (elim (c.in_err-locals.ensures.declared d x (locals_of (take c.loop-run.run-index c.args.runs.now)) (c.loop-run.invariant.after d x a)) [
      | inl m ↦ inl m
      | inr n ↦ inr (front_longer c.args.runs.now c.loop-run.run-index _ c.loop-run-test.true n)
    ])

pub loop-run-preserved : goal.loop-run-preserved
loop-run-preserved c = record {
  after = λ d x a.
      subst (λ z. BodyAfter d x z [] c.locals.new.self) (sym (next_run c.args.runs.now c.loop-run.run-index _ c.loop-run-test.true))
      (c.in_ok-locals.ensures.after d x (locals_of (take c.loop-run.run-index c.args.runs.now)) (c.loop-run.invariant.after d x a));
  few = λ d x a.
      front_few c.args.runs.now c.loop-run.run-index _ c.loop-run-test.true
      (c.in_ok-locals.ensures.declared d x (locals_of (take c.loop-run.run-index c.args.runs.now)) (c.loop-run.invariant.after d x a));
}

pub returns-clause-after : goal.returns-clause-after
returns-clause-after c d x a =
    subst (λ z. BodyAfter d x (locals_of z) [] c.loop-run.checker) (take_all c.loop-run.run-index c.args.runs.now c.loop-run-test.false) (c.loop-run.invariant.after d x a)

pub returns-clause-few : goal.returns-clause-few
returns-clause-few c d x a =
    subst (λ z. length (locals_of z) < 2 ^ 32) (take_all c.loop-run.run-index c.args.runs.now c.loop-run-test.false) (c.loop-run.invariant.few d x a)
