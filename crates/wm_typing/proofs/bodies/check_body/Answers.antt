-- The checker holds the function and the locals of the call.
use Rattle.std.proofs.Common.{ap, ◌∙◌, sym, arith, subst, inl, inr}
use Rattle.std.proofs.lemmas.Result.{err_from_is_err_and}
use Rattle.wm_typing.specs.TypedBodies.{IsTypedBody}
use Rattle.wm_typing.specs.Bodies.{Twice}
use Rattle.wm_syntax.specs.Modules.{locals_of}
use Rattle.wm_typing.proofs.AfterCalls.{as_held, held_context, controls_said, twice_said}
use Rattle.wm_typing.proofs.bodies.check_body.Goals as goal

pub returns-in_err-declare_all-clause-typed : goal.returns-in_err-declare_all-clause-typed
returns-in_err-declare_all-clause-typed c =
    let p = err_from_is_err_and c.from_residual.result c.from_residual.ensures.1 in
    rw (p.1, p.2)
    (elim (c.in_err-declare_all.ensures.too_many c.args.context.now c.args.type_index c.begin.ensures.after) [ inl m ↦ inl m | inr n ↦ inr (inl n) ])

pub step_all-requires : goal.step_all-requires
step_all-requires c =
    as_held c.args.context.now c.args.type_index (locals_of c.args.runs.now) c.declare_all.new.checker
    (c.in_ok-declare_all.ensures.after c.args.context.now c.args.type_index c.begin.ensures.after)

pub returns-in_err-step_all-clause-typed : goal.returns-in_err-step_all-clause-typed
returns-in_err-step_all-clause-typed c =
    let a = c.in_ok-declare_all.ensures.after c.args.context.now c.args.type_index c.begin.ensures.after in
    let e = held_context c.args.context.now c.args.type_index (locals_of c.args.runs.now) c.declare_all.new.checker a in
    let p = err_from_is_err_and c.from_residual-in_err-step_all.result c.from_residual-in_err-step_all.ensures.1 in
    rw (p.1, p.2)
    (elim c.in_err-step_all.ensures.typed [ inl m ↦ inl m | inr n ↦ inr (inr (subst (λ d. IsTypedBody d c.args.ops.now → ⊥) e n)) ])

pub returns-clause-typed : goal.returns-clause-typed
returns-clause-typed c =
    let a = c.in_ok-declare_all.ensures.after c.args.context.now c.args.type_index c.begin.ensures.after in
    let e = held_context c.args.context.now c.args.type_index (locals_of c.args.runs.now) c.declare_all.new.checker a in (
      c.in_ok-declare_all.ensures.few c.args.context.now c.args.type_index c.begin.ensures.after,
      subst (λ d. IsTypedBody d c.args.ops.now) e c.in_ok-step_all.ensures.typed,
    )

pub returns-clause-controls : goal.returns-clause-controls
returns-clause-controls c body h =
    ap (λ s. s.controls) c.stats.ensures
    ∙ controls_said c.args.context.now c.declare_all.new.checker.type_index c.declare_all.new.checker.declared c.args.ops.now c.step_all.new.checker
    c.in_ok-step_all.ensures.after body h

pub returns-clause-twice : goal.returns-clause-twice
returns-clause-twice c =
    let a = c.in_ok-step_all.ensures.after in
    let w = a.within in
    subst Twice (sym c.stats.ensures)
    (twice_said c.args.context.now c.declare_all.new.checker.type_index c.declare_all.new.checker.declared c.args.ops.now c.step_all.new.checker a
    c.in_ok-step_all.ensures.typed (omega (arith, w.counts, w.moves, c.requires.bounded)))
