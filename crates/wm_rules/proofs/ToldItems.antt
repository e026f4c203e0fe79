-- The index spaces and the names of a checker are those of its items.
use Rattle.std.proofs.Common.{◌≡◌, ℕ, ◌+◌, ◌^◌, cond, Bool, true, false, List, [], ◌∷◌, ◌++◌, Option, Some, None, Result, Ok, Err, length, inl, inr, ◌⊎◌, ◌||◌, refl, sym, ◌∙◌, ap, subst, nat_lt, nat_eq}
use Rattle.wm_machine.specs.Items.{passive_element, passive_segment}
use Rattle.wm_syntax.specs.declared.why.Why.{Why}
use Rattle.wm_syntax.specs.declared.why.Why.TheVariants as why
use Rattle.wm_syntax.specs.declared.types.ValType.TheVariants.{I32}
use Rattle.wm_syntax.specs.declared.instructions.Op.{Op}
use Rattle.wm_syntax.specs.declared.modules.ImportDesc.{ImportDesc}
use Rattle.wm_syntax.specs.declared.modules.ImportDesc.TheVariants as desc
use Rattle.wm_syntax.specs.declared.modules.ExportKind.TheVariants as kind
use Rattle.wm_syntax.specs.Types.{Signature}
use Rattle.wm_typing.specs.Bodies.{Body}
use Rattle.wm_typing.specs.declared.body_checker.Progress.{Progress}
use Rattle.wm_typing.specs.declared.body_checker.Progress.TheVariants.{Inside, Ended}
use Rattle.wm_typing.specs.exact.Bodies.{declared_more, progress_at, body_after_op}
use Rattle.wm_typing.specs.Typing.{function_type}
use Rattle.wm_machine.specs.Items.{Item, new_type, param, result_count, one_result, import_module, import_name, import_desc, function, table, memory, global, const_op, export_name, export, start, element, element_function, data_count, body, locals, body_op, segment, data_byte}
use Rattle.wm_machine.specs.Sinks.{all_taken, and_then}
use Rattle.wm_rules.specs.declared.constants.Constant.{Constant}
use Rattle.wm_rules.specs.Holding.{IndexSpaces, Held}
use Rattle.wm_rules.specs.exact.Constants.{constant_after}
use Rattle.wm_rules.specs.exact.Spaces.{on_last, one_param_more, one_result_more, with_types, type_begun, param_added, result_added, function_added, table_added, memory_added, import_added, global_added, is_within, index_check, plain, context_of, next_type}
use Rattle.std.specs.Str.{bytes_eq}
use Rattle.std.proofs.lemmas.Slice.Eq.{bytes_eq-Decides}
use Rattle.wm_rules.proofs.NewNames.{taken_put}
use Rattle.wm_rules.specs.exact.Checking.{after, is_taken, put_name, body_begun, constant_begun, empty_checker, in_constant, with_constant, in_names, in_spaces, one_at_most, checker_after_op, where_ok, with_body, with_element, with_progress}
use Rattle.wm_rules.specs.Meanings.{IsRepeated, with_item, with_items, with_last_type, so_far}
use Rattle.wm_rules.proofs.MemberFolds.{ok_then}

ok_same : {A : Type 0} (x y : A) → ◌≡◌ {A = Result A Why} (Ok x) (Ok y) → x ≡ y
ok_same x y e = cc

-- what is held of the index spaces and of names
abbrev Told : Held → IndexSpaces → List (List ℕ) → Type 0
Told g s names = (g.spaces ≡ s) × (g.names ≡ names)

itself : (k g : Held) → ◌≡◌ {A = Result Held Why} (Ok k) (Ok g) → Told g k.spaces k.names
itself k g e = subst (λ (y : Held). Told y k.spaces k.names) (ok_same k g e) (refl, refl)

of_spaces : (h g : Held) (r : Result IndexSpaces Why) (s : IndexSpaces) → ((z : IndexSpaces) → r ≡ Ok z → z ≡ s) → in_spaces h r ≡ Ok g → Told g s h.names
of_spaces h g (Ok z) s k e = subst (λ y. Told g y h.names) (k z refl) (itself (record h { spaces = z }) g e)
of_spaces h g (Err w) s k e = absurd (cc)

where_same : (h g : Held) (r : Result (Unit {0}) Why) → where_ok h r ≡ Ok g → Told g h.spaces h.names
where_same h g (Ok u) e = itself h g e
where_same h g (Err w) e = absurd (cc)

named_same : (h g : Held) (name : List ℕ) (b : Bool) → in_names h (cond b (Err why.DuplicateExport) (Ok (put_name name h.names))) ≡ Ok g → Told g h.spaces (put_name name h.names)
named_same h g name true e = absurd (cc)
named_same h g name false e = itself (record h { names = put_name name h.names }) g e

constant_same : (o : Op) (h g : Held) (k : Option Constant) → in_constant o h k ≡ Ok g → Told g h.spaces h.names
constant_same o h g None e = absurd (cc)
constant_same o h g (Some k) e = go (constant_after h.spaces.globals o k) e
  where
    go : (r : Result (Option Constant) Why) → with_constant h r ≡ Ok g → Told g h.spaces h.names
    go (Ok c) e = itself (record h { constant = c }) g e
    go (Err w) e = absurd (cc)

offset_same : (k g : Held) (r : Result (Unit {0}) Why) → and_then r (λ u. Ok k) ≡ Ok g → Told g k.spaces k.names
offset_same k g (Ok u) e = itself k g e
offset_same k g (Err w) e = absurd (cc)

cond_same : {A : Type 0} (b : Bool) (x : A) (w : Why) (z : A) → cond b (Ok x) (Err w) ≡ Ok z → z ≡ x
cond_same true x w z e = sym (ok_same x z e)
cond_same false x w z e = absurd (cc)

sized_same : (b c : Bool) (s z : IndexSpaces) → cond b (Err why.Second) (cond c (Ok s) (Err why.Limits)) ≡ Ok z → z ≡ s
sized_same true c s z e = absurd (cc)
sized_same false c s z e = cond_same c s why.Limits z e

last_same : (f : Signature → Result Signature Why) (k : Signature → Signature) → ((x y : Signature) → f x ≡ Ok y → y ≡ k x) → (xs ys : List Signature) → on_last f xs ≡ Ok ys → ys ≡ with_last_type k xs
last_same f k h [] ys e = absurd (cc)
last_same f k h (x ∷ []) ys e =
    let s = ok_then (f x) (λ (y : Signature). Ok (y ∷ [])) ys e in
    sym (ok_same (s.0 ∷ []) ys s.2) ∙ ap (λ (y : Signature). y ∷ []) (h x s.0 s.1)
last_same f k h (x ∷ y ∷ xs) ys e =
    let s = ok_then (on_last f (y ∷ xs)) (λ (zs : List Signature). Ok (x ∷ zs)) ys e in
    sym (ok_same (x ∷ s.0) ys s.2) ∙ ap (λ (zs : List Signature). x ∷ zs) (last_same f k h (y ∷ xs) s.0 s.1)

types_same : (s z : IndexSpaces) (r : Result (List Signature) Why) (ts : List Signature) → ((xs : List Signature) → r ≡ Ok xs → xs ≡ ts) → with_types s r ≡ Ok z → z ≡ record s { types = ts }
types_same s z (Ok xs) ts k e = sym (ok_same (record s { types = xs }) z e) ∙ ap (λ (y : List Signature). record s { types = y }) (k xs refl)
types_same s z (Err w) ts k e = absurd (cc)

import_same : (d : ImportDesc) (s z : IndexSpaces) → import_added d s ≡ Ok z → z ≡ with_item s (import_desc d)
import_same (desc.Func x) s z e =
    let f = ok_then (function_added x s) (λ (y : IndexSpaces). Ok (record y { imported_functions = y.imported_functions + 1 })) z e in
    sym (ok_same _ z f.2) ∙ ap (λ (y : IndexSpaces). record y { imported_functions = y.imported_functions + 1 }) (cond_same (nat_lt x (length s.types)) (record s { functions = s.functions ++ x ∷ [] }) why.Index f.0 f.1)
import_same (desc.Table l) s z e = sized_same s.has_table (is_within (2 ^ 32) l) (record s { has_table = true }) z e
import_same (desc.Memory l) s z e = sized_same s.has_memory (is_within (2 ^ 16) l) (record s { has_memory = true }) z e
import_same (desc.Global g) s z e = sym (ok_same _ z e)

begun_same : (h g : Held) (x : Option ℕ) → body_begun h x ≡ Ok g → Told g (with_item h.spaces body) h.names
begun_same h g None e = absurd (cc)
begun_same h g (Some x) e = itself _ g e

locals_same : (h g : Held) (b : Bool) (r : Result Body Why) → cond b (with_body h r) (Err why.Index) ≡ Ok g → Told g h.spaces h.names
locals_same h g true (Ok d) e = itself (record h { body = d }) g e
locals_same h g true (Err w) e = absurd (cc)
locals_same h g false r e = absurd (cc)

op_same : (h g : Held) (b : Bool) (r : Result Body Why) → cond b (checker_after_op h r) (Err why.Index) ≡ Ok g → Told g h.spaces h.names
op_same h g true (Ok d) e = go (progress_at d.state.stacks.frames) e
  where
    go : (p : Progress) → ◌≡◌ {A = Result Held Why} (Ok (with_progress h d p)) (Ok g) → Told g h.spaces h.names
    go Inside e = itself (with_progress h d Inside) g e
    go Ended e = itself (with_progress h d Ended) g e
op_same h g true (Err w) e = absurd (cc)
op_same h g false r e = absurd (cc)

-- the names after an item
abbrev names_after : List (List ℕ) → Item → List (List ℕ)
names_after names (export_name n) = put_name n names
names_after names x = names

item_told : (h g : Held) (x : Item) → after h x ≡ Ok g → Told g (with_item h.spaces x) (names_after h.names x)
item_told h g new_type e = of_spaces h g (type_begun h.spaces) _ (λ z i. sym (ok_same _ z i)) e
item_told h g (param t) e =
    of_spaces h g (param_added t h.spaces) _ (λ z i. types_same h.spaces z (on_last (one_param_more t) h.spaces.types) _ (last_same (one_param_more t) _ (λ x y q. sym (ok_same _ y q)) h.spaces.types) i) e
item_told h g (one_result t) e =
    of_spaces h g (result_added t h.spaces) _ (λ z i. types_same h.spaces z (on_last (one_result_more t) h.spaces.types) _
    (last_same (one_result_more t) _ (λ x y q. cond_same (nat_eq (length x.results) 0) (record x { results = x.results ++ t ∷ [] }) why.Arity y q) h.spaces.types) i) e
item_told h g (result_count n) e = where_same h g (one_at_most n) e
item_told h g (import_module name) e = itself h g e
item_told h g (import_name name) e = itself h g e
item_told h g (import_desc d) e = of_spaces h g (import_added d h.spaces) _ (import_same d h.spaces) e
item_told h g (function x) e = of_spaces h g (function_added x h.spaces) _ (cond_same (nat_lt x (length h.spaces.types)) (record h.spaces { functions = h.spaces.functions ++ x ∷ [] }) why.Index) e
item_told h g (table l) e = of_spaces h g (table_added l h.spaces) _ (sized_same h.spaces.has_table (is_within (2 ^ 32) l) (record h.spaces { has_table = true })) e
item_told h g (memory l) e = of_spaces h g (memory_added l h.spaces) _ (sized_same h.spaces.has_memory (is_within (2 ^ 16) l) (record h.spaces { has_memory = true })) e
item_told h g (global t) e = of_spaces (constant_begun t.ty h.spaces.imported_globals h) g (global_added t h.spaces) _ (λ z i. sym (ok_same _ z i)) e
item_told h g (const_op o) e = constant_same o h g h.constant e
item_told h g (export_name name) e = named_same h g name (is_taken name h.names) e
item_told h g (export k x) e = where_same h g (index_check k x h.spaces) e
item_told h g (start x) e = where_same h g (plain (function_type (context_of h.spaces) x)) e
item_told h g (element x) e = offset_same (constant_begun I32 (length h.spaces.globals) (with_element h)) g (index_check kind.Table x h.spaces) e
item_told h g passive_element e = itself (with_element h) g e
item_told h g (element_function x) e = where_same h g (index_check kind.Func x h.spaces) e
item_told h g (data_count n) e = itself (record h { spaces = record h.spaces { segments = n } }) g e
item_told h g body e = begun_same h g (next_type h.spaces) e
item_told h g (locals n t) e = locals_same h g h.in_body (declared_more n t h.body) e
item_told h g (body_op o) e = op_same h g h.in_body (body_after_op (context_of h.spaces) o h.body) e
item_told h g (segment x) e = offset_same (constant_begun I32 (length h.spaces.globals) h) g (index_check kind.Memory x h.spaces) e
item_told h g passive_segment e = itself h g e
item_told h g (data_byte c) e = itself h g e

items_told : (items : List Item) (h g : Held) → all_taken after h items ≡ Ok g → g.spaces ≡ with_items h.spaces items
items_told [] h g e = sym (ap (λ (y : Held). y.spaces) (ok_same h g e))
items_told (x ∷ items) h g e =
    let s = ok_then (after h x) (λ k. all_taken after k items) g e in
    items_told items s.0 g s.2 ∙ ap (λ (y : IndexSpaces). with_items y items) (item_told h s.0 x s.1).0

-- what is held of the index spaces is what the items tell
pub spaces_are_told : (items : List Item) (h : Held) → all_taken after empty_checker items ≡ Ok h → h.spaces ≡ so_far items
spaces_are_told items h e = items_told items empty_checker h e

-- a name that is taken was told
module _ (n : List ℕ) where
  abbrev IsTaken : List (List ℕ) → Type 0
  IsTaken names = is_taken n names ≡ true

  abbrev IsIn : List Item → Type 0
  IsIn items = IsRepeated items (export_name n)

  put_or : (m : List ℕ) (names : List (List ℕ)) (b : Bool) → bytes_eq n m ≡ b → (b || is_taken n names) ≡ true → (n ≡ m) ⊎ IsTaken names
  put_or m names true e h = inl ((bytes_eq-Decides n m).0 e)
  put_or m names false e h = inr h

  put_taken : (m : List ℕ) (names : List (List ℕ)) → IsTaken (put_name m names) → (n ≡ m) ⊎ IsTaken names
  put_taken m names h = put_or m names (bytes_eq n m) refl (sym (taken_put n m names) ∙ h)

  item_taken : (x : Item) (names : List (List ℕ)) → IsTaken (names_after names x) → (x ≡ export_name n) ⊎ IsTaken names
  item_taken (export_name m) names h = elim (put_taken m names h) [ inl e ↦ inl (ap export_name (sym e)) | inr i ↦ inr i ]
  item_taken x names h = inr h

  items_taken : (items : List Item) (h g : Held) → all_taken after h items ≡ Ok g → IsTaken g.names → IsTaken h.names ⊎ IsIn items
  items_taken [] h g e i = inl (subst (λ (y : Held). IsTaken y.names) (sym (ok_same h g e)) i)
  items_taken (x ∷ items) h g e i =
      let s = ok_then (after h x) (λ k. all_taken after k items) g e in
      elim (items_taken items s.0 g s.2 i) [
        | inl j ↦ elim (item_taken x h.names (subst IsTaken (item_told h s.0 x s.1).1 j)) [
          | inl e ↦ inr ([], items, ap (λ y. y ∷ items) e)
          | inr k ↦ inl k
        ]
        | inr r ↦ inr (x ∷ r.0, r.1, ap (λ y. x ∷ y) r.2)
      ]

  pub taken_is_told : (items : List Item) (h : Held) → all_taken after empty_checker items ≡ Ok h → IsTaken h.names → IsIn items
  taken_is_told items h e i = elim (items_taken items empty_checker h e i) [ inl j ↦ absurd (cc) | inr r ↦ r ]
