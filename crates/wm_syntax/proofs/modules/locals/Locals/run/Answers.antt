-- The runs are the maximal runs of the list of types.
use Rattle.std.proofs.Common.{ℕ, ◌≡◌, ◌∙◌, ◌-◌, ◌<◌, None, Some, List, length, get_or, true, false, slice_get, ap, sym, subst, arith}
use Rattle.std.proofs.lemmas.Option.{slice_get-get_or}
use Rattle.wm_syntax.specs.declared.modules.locals.Run.{Run}
use Rattle.wm_syntax.specs.Runs.{runs_of}
use Rattle.wm_syntax.specs.inner.Runs.{start_at}
use Rattle.wm_syntax.proofs.RunLists.{no_run, run_at, starts_before}
use Rattle.wm_syntax.proofs.modules.locals.Locals.run.Goals as goal

found : (xs ys : List Run) (i : ℕ) (r : Run) → xs ≡ ys → i < length xs → r ≡ get_or xs i r → slice_get ys i ≡ Some r
found xs ys i r e l g = ap (λ z. slice_get z i) (sym e) ∙ slice_get-get_or xs i r l ∙ ap (λ z. Some z) (sym g)

pub overflow_sub-result : goal.overflow_sub-result
overflow_sub-result c =
    omega (
      arith,
      c.start_of.ensures,
      ap (λ z. start_at 0 z c.args.index) c.deref-in-Some.ensures.value,
      starts_before c.self.inside.runs.items None 0 c.args.index c.in-Some.run'.now c.self.invariant (found _ _ _ _ c.deref.ensures.value c.in-Some.ensures.lookup.3.0 (c.in-Some.ensures.lookup.3.1 c.in-Some.run'.now)),
    )

pub returns-in-Some : goal.returns-in-Some
returns-in-Some c =
    ap (λ z. Some (c.in-Some.run'.now.end - z, c.in-Some.run'.now.ty)) (c.start_of.ensures ∙ ap (λ z. start_at 0 z c.args.index) c.deref-in-Some.ensures.value)
    ∙ run_at c.self.inside.runs.items c.args.index c.in-Some.run'.now c.self.invariant (found _ _ _ _ c.deref.ensures.value c.in-Some.ensures.lookup.3.0 (c.in-Some.ensures.lookup.3.1 c.in-Some.run'.now))
    ∙ ap (λ z. slice_get (runs_of z) c.args.index) c.self.view_is

pub returns-in-None : goal.returns-in-None
returns-in-None c =
    let past : c.args.index < length c.self.inside.runs.items → ⊥ =
    λ l.
    let k : c.args.index < length c.deref.result.now = subst (λ z. c.args.index < length z) (sym c.deref.ensures.value) l in
    let e : false ≡ true = c.in-None.ensures.lookup.2 k in
    cc
    in
    no_run c.self.inside.runs.items c.args.index c.self.invariant past ∙ ap (λ z. slice_get (runs_of z) c.args.index) c.self.view_is
