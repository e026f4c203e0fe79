-- The parameters of a type are where its entry says.
use Rattle.std.proofs.Common.{ℕ, ◌≡◌, ◌+◌, ◌<◌, ◌≤◌, ◌∙◌, ap, sym, List, Some, length, slice_get, get_or, arith, rules}
use Rattle.std.proofs.lemmas.Option.{slice_get-get_or}
use Rattle.wm_typing.specs.declared.func_types.TypeEntry.{TypeEntry}
use Rattle.wm_typing.proofs.FuncTypeLists.{entry_within, type_at}
use Rattle.wm_typing.proofs.func_types.FuncTypes.get.Goals as goal

found : (xs ys : List TypeEntry) (i : ℕ) (e : TypeEntry) → xs ≡ ys → i < length xs → e ≡ get_or xs i e → slice_get ys i ≡ Some e
found xs ys i e is l g = ap (λ z. slice_get z i) (sym is) ∙ slice_get-get_or xs i e l ∙ ap (λ z. Some z) (sym g)

-- the entry, and that its parameters are there
at : (c : goal.After-deref-2) → slice_get c.self.inside.entries.items c.args.index ≡ Some c.in_ok-entry.field-0.now
at c = found _ _ _ _ c.deref.ensures.value (search (rules, c.in_ok-entry.ensures.lookup.0)) c.in_ok-entry.ensures.lookup.1

within : (c : goal.After-deref-2) → c.in_ok-entry.field-0.now.start + c.in_ok-entry.field-0.now.count ≤ length c.deref-2.result.now
within c =
    let k = entry_within _ _ _ _ c.self.invariant (at c) in
    omega (arith, k, ap length c.deref-2.ensures.value)

pub overflow_add-result : goal.overflow_add-result
overflow_add-result c = omega (arith, within c, c.deref-2.type_inv.0)

pub slice_bounds-result-end : goal.slice_bounds-result-end
slice_bounds-result-end c = omega (arith, within c)

pub returns : goal.returns
returns c =
    ap (λ z. slice_get z c.args.index) (sym c.self.view_is)
    ∙ rw c.deref-2.ensures.value (type_at c.self.inside.params.items c.self.inside.entries.items c.args.index c.in_ok-entry.field-0.now
    (found _ _ _ _ c.deref.ensures.value (search (rules, c.in_ok-entry.ensures.lookup.0)) c.in_ok-entry.ensures.lookup.1))
