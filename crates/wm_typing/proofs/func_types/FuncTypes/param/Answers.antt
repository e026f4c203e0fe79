-- The parameters of a type are where its entry says.
use Rattle.std.proofs.Common.{ℕ, ◌≡◌, ◌+◌, ◌<◌, ◌∙◌, ap, sym, List, Some, length, slice_get, get_or, arith, rules}
use Rattle.std.proofs.lemmas.Option.{slice_get-get_or}
use Rattle.wm_syntax.specs.declared.types.ValType.TheVariants as t
use Rattle.wm_typing.specs.declared.func_types.TypeEntry.{TypeEntry}
use Rattle.wm_typing.proofs.FuncTypeLists.{entry_within, length-params, param_at, params_at}
use Rattle.wm_typing.proofs.func_types.FuncTypes.param.Goals as goal

found : (xs ys : List TypeEntry) (i : ℕ) (e : TypeEntry) → xs ≡ ys → i < length xs → e ≡ get_or xs i e → slice_get ys i ≡ Some e
found xs ys i e is l g = ap (λ z. slice_get z i) (sym is) ∙ slice_get-get_or xs i e l ∙ ap (λ z. Some z) (sym g)

pub overflow_add-result : goal.overflow_add-result
overflow_add-result c =
    let at = found _ _ _ _ c.deref.ensures.value (search (rules, c.in-Some.ensures.lookup.0)) c.in-Some.ensures.lookup.1 in
    omega (arith, entry_within _ _ _ _ c.self.invariant at, c.as_slice-params.type_inv.0, ap length c.as_slice-params.ensures.value)

pub bounds-params-entry : goal.bounds-params-entry
bounds-params-entry c =
    let at = found _ _ _ _ c.deref.ensures.value (search (rules, c.in-Some.ensures.lookup.0)) c.in-Some.ensures.lookup.1 in
    omega (arith, entry_within _ _ _ _ c.self.invariant at, ap length c.as_slice-params.ensures.value)

pub returns-then-at-entry : goal.returns-then-at-entry
returns-then-at-entry c =
    let ps = c.self.inside.params.items in
    let e = c.in-Some.entry.now in
    let i = e.start + c.args.index in
    let at = found _ _ _ _ c.deref.ensures.value (search (rules, c.in-Some.ensures.lookup.0)) c.in-Some.ensures.lookup.1 in
    let within = entry_within _ _ _ _ c.self.invariant at in
    let b : i < length ps = omega (arith, within) in
    ap (λ ts. slice_get ts c.args.index) (params_at ps c.self.inside.entries.items c.args.ty e c.args.self.now at c.self.view_is)
    ∙ param_at ps e c.args.index (get_or ps i t.I32) within c.if-at-entry.true (slice_get-get_or ps i t.I32 b)
    ∙ ap (λ xs. Some (get_or xs i t.I32)) (sym c.as_slice-params.ensures.value)

pub returns-else-at-entry : goal.returns-else-at-entry
returns-else-at-entry c =
    let ps = c.self.inside.params.items in
    let e = c.in-Some.entry.now in
    let at = found _ _ _ _ c.deref.ensures.value (search (rules, c.in-Some.ensures.lookup.0)) c.in-Some.ensures.lookup.1 in
    let within = entry_within _ _ _ _ c.self.invariant at in
    omega (arith, ap length (params_at ps c.self.inside.entries.items c.args.ty e c.args.self.now at c.self.view_is), length-params ps e within)
