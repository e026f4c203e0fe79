-- Either the last run becomes longer, or there is one more run.
use Rattle.std.proofs.Common.{sym, subst, Bool, true, false, IsTrue, List, None, Some, ◌≡◌, ◌∙◌, ◌-◌, ap, length, slice_set, refl}
use Rattle.wm_syntax.specs.declared.types.ValType.{ValType}
use Rattle.wm_syntax.specs.declared.modules.locals.Run.{Run}
use Rattle.wm_syntax.specs.inner.Runs.{last_type}
use Rattle.wm_syntax.proofs.RunLists.{Grown, longer, one_more, one_more_count}
use Rattle.wm_syntax.proofs.modules.locals.Locals.append.Goals as goal

grown : (c : goal.After-self-1)
    → Grown c.args.self.now c.args.end c.args.ty (slice_set c.self.inside.runs.items (c.len-last.result - 1) (record { end = c.args.end; ty = c.index_mut.result.now.ty }))
grown c =
    let rs = c.self.inside.runs.items in
    let t : last_type None rs ≡ Some c.args.ty = ap (last_type None) (sym c.deref.ensures.value) ∙ c.if-ends_with.ensures.0 refl in
    let n : c.len-last.result ≡ length rs = c.len-last.ensures ∙ sym c.deref.ensures.len ∙ ap length c.deref.ensures.value in
    longer rs c.args.self.now c.len-last.result c.args.end c.args.ty c.index_mut.result.now c.self.invariant c.self.view_is n c.index_mut.ensures.value t c.requires
    c.ranges.end.fits

pub invariant_of-self : goal.invariant_of-self
invariant_of-self c = (grown c).runs

pub returns-then-ends_with-clause-ok : goal.returns-then-ends_with-clause-ok
returns-then-ends_with-clause-ok c = (grown c).types

-- In both proofs below, the last type is another type.
no_last : (rs ds : List Run) (ty : ValType) (b : Bool) → ds ≡ rs → b ≡ false → (last_type None ds ≡ Some ty → IsTrue b) → last_type None rs ≡ Some ty → ⊥
no_last rs ds ty b e f h t =
    let x : IsTrue b = h (ap (last_type None) e ∙ t) in
    let y : true ≡ false = sym x ∙ f in
    cc

pub returns-in_default-clause-new_run : goal.returns-in_default-clause-new_run
returns-in_default-clause-new_run c =
    let rs = c.self.inside.runs.items in
    one_more_count rs c.args.self.now c.args.end c.args.ty c.self.invariant c.self.view_is
    (no_last rs c.deref.result.now c.args.ty c.ends_with.result c.deref.ensures.value c.if-ends_with.false c.ends_with.ensures.1) c.requires c.ranges.end.fits

more : (c : goal.In-Ok) → Grown c.args.self.now c.args.end c.args.ty c.push.new.self.items
more c =
    let rs = c.self.inside.runs.items in
    subst (Grown c.args.self.now c.args.end c.args.ty) (sym c.in-Ok.ensures.items)
    (one_more rs c.args.self.now c.args.end c.args.ty c.self.invariant c.self.view_is
    (no_last rs c.deref.result.now c.args.ty c.ends_with.result c.deref.ensures.value c.if-ends_with.false c.ends_with.ensures.1) c.requires c.ranges.end.fits)

pub invariant_of-self-2 : goal.invariant_of-self-2
invariant_of-self-2 c = (more c).runs

pub returns-clause-ok : goal.returns-clause-ok
returns-clause-ok c = (more c).types
