-- The growth of the index spaces item by item, and the items that leave them unchanged.
use Rattle.std.proofs.Common.{◌≡◌, ℕ, suc, ◌≤◌, ◌<◌, List, [], ◌∷◌, ◌++◌, length, map, refl, sym, ◌∙◌, ap, subst, arith, length-append}
use Rattle.wm_syntax.specs.declared.types.ValType.{ValType}
use Rattle.wm_syntax.specs.declared.instructions.Op.{Op}
use Rattle.wm_syntax.specs.declared.modules.ImportDesc.TheVariants as desc
use Rattle.wm_syntax.specs.Types.{Signature}
use Rattle.wm_machine.specs.Flat.{code_items}
use Rattle.wm_machine.specs.Items.{Item, new_type, param, one_result, import_desc, global, const_op, element, body, body_op, segment}
use Rattle.wm_machine.proofs.EntryBytes.{run_part}
use Rattle.wm_rules.specs.Holding.{IndexSpaces}
use Rattle.wm_rules.specs.Meanings.{InEntry, IsConstantOf, context_so_far, no_spaces, so_far, with_item, with_items, with_last_type}
use Rattle.wm_rules.proofs.EntryItems.{ConstantItems, HasType}

last_length : (f : Signature → Signature) (ts : List Signature) → length (with_last_type f ts) ≡ length ts
last_length f [] = refl
last_length f (t ∷ []) = refl
last_length f (t ∷ u ∷ ts) = ap suc (last_length f (u ∷ ts))

record Grows (s z : IndexSpaces) : Type 0 where
  types : length s.types ≤ length z.types
  globals : length s.globals ≤ length z.globals
  imported : s.imported_globals ≤ length s.globals → z.imported_globals ≤ length z.globals

still : (s z : IndexSpaces) → z.types ≡ s.types → z.globals ≡ s.globals → z.imported_globals ≡ s.imported_globals → Grows s z
still s z t g i =
    let n = ap length t in
    let m = ap length g in
    record { types = omega (arith, n); globals = omega (arith, m); imported = λ h. omega (arith, h, m, i) }

item_grows : (s : IndexSpaces) (x : Item) → Grows s (with_item s x)
item_grows s new_type =
    let n = length-append s.types (record { params = []; results = [] } ∷ []) in
    record { types = omega (arith, n); globals = omega arith; imported = λ h. h }
item_grows s (param t) =
    let n = last_length (λ f. record f { params = f.params ++ t ∷ [] }) s.types in
    record { types = omega (arith, n); globals = omega arith; imported = λ h. h }
item_grows s (one_result t) =
    let n = last_length (λ f. record f { results = f.results ++ t ∷ [] }) s.types in
    record { types = omega (arith, n); globals = omega arith; imported = λ h. h }
item_grows s (import_desc (desc.Func x)) = still s (with_item s (import_desc (desc.Func x))) refl refl refl
item_grows s (import_desc (desc.Table l)) = still s (with_item s (import_desc (desc.Table l))) refl refl refl
item_grows s (import_desc (desc.Memory l)) = still s (with_item s (import_desc (desc.Memory l))) refl refl refl
item_grows s (import_desc (desc.Global g)) =
    let n = length-append s.globals (g ∷ []) in
    record { types = omega arith; globals = omega (arith, n); imported = λ h. omega (arith, h, n) }
item_grows s (global g) =
    let n = length-append s.globals (g ∷ []) in
    record { types = omega arith; globals = omega (arith, n); imported = λ h. omega (arith, h, n) }
item_grows s x = still s (with_item s x) refl refl refl

items_grow : (items : List Item) (s : IndexSpaces) → Grows s (with_items s items)
items_grow [] s = still s s refl refl refl
items_grow (x ∷ items) s =
    let a = item_grows s x in
    let b = items_grow items (with_item s x) in
    record { types = omega (arith, a.types, b.types); globals = omega (arith, a.globals, b.globals); imported = λ h. b.imported (a.imported h) }

with_more : (xs ys : List Item) (s : IndexSpaces) → with_items s (xs ++ ys) ≡ with_items (with_items s xs) ys
with_more [] ys s = refl
with_more (x ∷ xs) ys s = with_more xs ys (with_item s x)

-- where a type has begun, there is one
pub some_type : (items : List Item) → HasType items → 0 < length (so_far items).types
some_type items h =
    let e = ap so_far h.2 ∙ with_more h.0 (new_type ∷ h.1) no_spaces in
    let n = length-append (so_far h.0).types (record { params = []; results = [] } ∷ []) in
    let g = items_grow h.1 (with_item (so_far h.0) new_type) in
    subst (λ (z : IndexSpaces). 0 < length z.types) (sym e) (omega (arith, n, g.types))

-- runs and ops tell nothing of them
ops_still : (ops : List Op) (s : IndexSpaces) → with_items s (map body_op ops) ≡ s
ops_still [] s = refl
ops_still (o ∷ ops) s = ops_still ops s

runs_still : (runs : List (ℕ × ValType)) (ops : List Op) (s : IndexSpaces) → with_items s (map run_part runs ++ map body_op ops) ≡ s
runs_still [] ops s = ops_still ops s
runs_still (r ∷ runs) ops s = runs_still runs ops s

constants_still : (ops : List Op) (s : IndexSpaces) → with_items s (map const_op ops) ≡ s
constants_still [] s = refl
constants_still (o ∷ ops) s = constants_still ops s

-- so the context in an entry is that before it
pub entry_context : (items : List Item) (e : InEntry items) → context_so_far (so_far items) ≡ context_so_far (so_far e.before)
entry_context items e =
    ap (λ z. context_so_far (so_far z)) e.whole
    ∙ (ap context_so_far (with_more e.before (code_items e.code) no_spaces)
    ∙ ap context_so_far (runs_still e.code.runs e.code.ops (with_item (so_far e.before) body)))

-- the globals that a constant may name are there
of_few : (s : IndexSpaces) (x : Item) (t : ValType) (n : ℕ) → s.imported_globals ≤ length s.globals → IsConstantOf s x t n → n ≤ length s.globals
of_few s (global g) t n l o = omega (arith, l, o.1)
of_few s (element x) t n l o = omega (arith, o.1)
of_few s (segment x) t n l o = omega (arith, o.1)
of_few s x t n l o = absurd o

pub few_globals : (items : List Item) (c : ConstantItems items) (t : ValType) (n : ℕ) → IsConstantOf (so_far c.before) c.opening t n → n ≤ length (so_far items).globals
few_globals items c t n o =
    let few = of_few (so_far c.before) c.opening t n ((items_grow c.before no_spaces).imported (omega arith)) o in
    let e = ap so_far c.whole ∙ (with_more c.before (c.opening ∷ map const_op c.ops) no_spaces ∙ constants_still c.ops (with_item (so_far c.before) c.opening)) in
    let g = item_grows (so_far c.before) c.opening in
    subst (λ (z : IndexSpaces). n ≤ length z.globals) (sym e) (omega (arith, few, g.globals))
