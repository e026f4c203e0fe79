-- An item outside code entries changes neither the body at hand nor the figures. No type gets a second result.
use Rattle.std.proofs.Common.{ℕ, ◌+◌, ◌≡◌, ◌≤◌, List, [], ◌∷◌, ◌++◌, Option, Some, None, Bool, true, false, cond, Result, Ok, Err, length, refl, sym, subst, arith, length-append, nat_eq, nat_lt}
use Rattle.wm_machine.specs.Items.{passive_element, passive_segment}
use Rattle.std.specs.List.{AllByRecursion}
use Rattle.std.proofs.lemmas.Bool.{eqb-true}
use Rattle.wm_syntax.specs.declared.types.ValType.{ValType}
use Rattle.wm_syntax.specs.declared.types.ValType.TheVariants.{I32}
use Rattle.wm_syntax.specs.declared.instructions.Op.{Op}
use Rattle.wm_syntax.specs.declared.modules.ImportDesc.{ImportDesc}
use Rattle.wm_syntax.specs.declared.modules.ImportDesc.TheVariants as desc
use Rattle.wm_syntax.specs.declared.why.Why.{Why}
use Rattle.wm_syntax.specs.declared.why.Why.TheVariants as why
use Rattle.wm_syntax.specs.Types.{Signature}
use Rattle.wm_syntax.proofs.ProfileLaws.{all_append}
use Rattle.wm_machine.specs.Items.{Item, new_type, param, result_count, one_result, import_module, import_name, import_desc, function, table, memory, global, const_op, export_name, export, start, element, element_function, data_count, body, locals, body_op, segment, data_byte}
use Rattle.wm_machine.specs.Sinks.{all_taken, and_then}
use Rattle.wm_typing.specs.declared.body_checker.Progress.{Progress}
use Rattle.wm_typing.specs.declared.body_checker.Progress.TheVariants.{Inside, Ended}
use Rattle.wm_typing.specs.Bodies.{Body}
use Rattle.wm_typing.specs.exact.Bodies.{body_at_start, progress_at}
use Rattle.wm_rules.specs.declared.constants.Constant.{Constant}
use Rattle.wm_rules.specs.exact.Spaces.{segments_counted, on_last, one_param_more, one_result_more, type_begun, param_added, result_added, function_added, global_added, table_added, memory_added, import_added, context_of, next_type, with_types}
use Rattle.wm_rules.specs.Holding.{IndexSpaces, Held}
use Rattle.wm_rules.specs.exact.Checking.{after, body_begun, checker_after_op, with_body, with_progress, constant_begun, in_constant, in_names, in_spaces, where_ok, with_constant, with_element}
use Rattle.wm_rules.proofs.CodeMembers.{OneResults}
use Rattle.wm_rules.proofs.MemberFolds.{cond_ok, ok_then}

pub record Calm (h g : Held) : Type 0 where
  pub body : g.body ≡ h.body
  pub in_body : g.in_body ≡ h.in_body
  pub most : g.most ≡ h.most
  pub one : OneResults h → OneResults g

-- items outside code entries
abbrev pub IsOutside : Item → Type 0
IsOutside body = ⊥
IsOutside (locals n t) = ⊥
IsOutside (body_op o) = ⊥
IsOutside _ = Unit {0}

abbrev One : List Signature → Type 0
One types = AllByRecursion (λ f. length f.results ≤ 1) types

last_one : (k : Signature → Result Signature Why) → ((x y : Signature) → length x.results ≤ 1 → k x ≡ Ok y → length y.results ≤ 1)
    → (xs ys : List Signature) → on_last k xs ≡ Ok ys → One xs → One ys
last_one k keeps [] ys e h = absurd (cc)
last_one k keeps (x ∷ []) ys e h =
    let s = ok_then (k x) (λ (y : Signature). Ok (y ∷ [])) ys e in
    let is : s.0 ∷ [] ≡ ys = cc (s.2) in
    subst One is (keeps x s.0 h.0 s.1, tt)
last_one k keeps (x ∷ y ∷ xs) ys e h =
    let s = ok_then (on_last k (y ∷ xs)) (λ (zs : List Signature). Ok (x ∷ zs)) ys e in
    let is : x ∷ s.0 ≡ ys = cc (s.2) in
    subst One is (h.0, last_one k keeps (y ∷ xs) s.0 s.1 h.1)

param_one : (t : ValType) (x y : Signature) → length x.results ≤ 1 → one_param_more t x ≡ Ok y → length y.results ≤ 1
param_one t x y n e = let is : record x { params = x.params ++ t ∷ [] } ≡ y = cc in subst (λ (z : Signature). length z.results ≤ 1) is n

result_one : (t : ValType) (x y : Signature) → length x.results ≤ 1 → one_result_more t x ≡ Ok y → length y.results ≤ 1
result_one t x y n e =
    let c = cond_ok (nat_eq (length x.results) 0) (record x { results = x.results ++ t ∷ [] }) y why.Arity e in
    let none : length x.results ≡ 0 = eqb-true (length x.results) 0 c.0 in
    subst (λ (z : Signature). length z.results ≤ 1) c.1 (omega (arith, none, length-append x.results (t ∷ [])))

-- what a change of the index spaces makes of the types
abbrev Keeps : IndexSpaces → Result IndexSpaces Why → Type 0
Keeps s r = (z : IndexSpaces) → r ≡ Ok z → One s.types → One z.types

types_one : (k : Signature → Result Signature Why) (s : IndexSpaces) → ((x y : Signature) → length x.results ≤ 1 → k x ≡ Ok y → length y.results ≤ 1) → Keeps s (with_types s (on_last k s.types))
types_one k s keeps z e h = go (on_last k s.types) refl e
  where
    go : (r : Result (List Signature) Why) → on_last k s.types ≡ r → with_types s r ≡ Ok z → One z.types
    go (Ok ts) is e = let same : record s { types = ts } ≡ z = cc in subst (λ (y : IndexSpaces). One y.types) same (last_one k keeps s.types ts is h)
    go (Err w) is e = absurd (cc)

-- the types stay
stays : (s t : IndexSpaces) → t.types ≡ s.types → (b : Bool) (w : Why) → Keeps s (cond b (Ok t) (Err w))
stays s t same b w z e h = let c = cond_ok b t z w e in subst (λ (y : IndexSpaces). One y.types) c.1 (subst One (sym same) h)

sized : (s : IndexSpaces) (b c : Bool) (t : IndexSpaces) → t.types ≡ s.types → Keeps s (cond b (Err why.Second) (cond c (Ok t) (Err why.Limits)))
sized s true c t same z e h = absurd (cc)
sized s false c t same z e h = stays s t same c why.Limits z e h

import_one : (d : ImportDesc) (s : IndexSpaces) → Keeps s (import_added d s)
import_one (desc.Func x) s z e h =
    let f = ok_then (function_added x s) (λ (y : IndexSpaces). Ok (record y { imported_functions = y.imported_functions + 1 })) z e in
    let is : record f.0 { imported_functions = f.0.imported_functions + 1 } ≡ z = cc (f.2) in
    subst (λ (y : IndexSpaces). One y.types) is (stays s (record s { functions = s.functions ++ x ∷ [] }) refl (nat_lt x (length s.types)) why.Index f.0 f.1 h)
import_one (desc.Table l) s z e h = sized s s.has_table _ (record s { has_table = true }) refl z e h
import_one (desc.Memory l) s z e h = sized s s.has_memory _ (record s { has_memory = true }) refl z e h
import_one (desc.Global g) s z e h = let is : record s { globals = s.globals ++ g ∷ []; imported_globals = s.imported_globals + 1 } ≡ z = cc in subst (λ (y : IndexSpaces). One y.types) is h

-- what a change of one field makes of what is held
spaces_calm : (h g : Held) (r : Result IndexSpaces Why) → Keeps h.spaces r → in_spaces h r ≡ Ok g → Calm h g
spaces_calm h g (Ok s) k e =
    let is : record h { spaces = s } ≡ g = cc in
    subst (Calm h) is (record { body = refl; in_body = refl; most = refl; one = λ o. k s refl o })
spaces_calm h g (Err w) k e = absurd (cc)

itself : (h k g : Held) → Calm h k → ◌≡◌ {A = Result Held Why} (Ok k) (Ok g) → Calm h g
itself h k g c e = let is : k ≡ g = cc in subst (Calm h) is c

same : (h : Held) → Calm h h
same h = record { body = refl; in_body = refl; most = refl; one = λ o. o }

where_calm : (h g : Held) (r : Result (Unit {0}) Why) → where_ok h r ≡ Ok g → Calm h g
where_calm h g (Ok u) e = itself h h g (same h) e
where_calm h g (Err w) e = absurd (cc)

constant_calm : (o : Op) (h g : Held) (k : Option Constant) → in_constant o h k ≡ Ok g → Calm h g
constant_calm o h g None e = absurd (cc)
constant_calm o h g (Some k) e = go _ e
  where
    go : (r : Result (Option Constant) Why) → with_constant h r ≡ Ok g → Calm h g
    go (Ok c) e = itself h (record h { constant = c }) g (record { body = refl; in_body = refl; most = refl; one = λ o. o }) e
    go (Err w) e = absurd (cc)

names_calm : (h g : Held) (r : Result (List (List ℕ)) Why) → in_names h r ≡ Ok g → Calm h g
names_calm h g (Ok ns) e = itself h (record h { names = ns }) g (record { body = refl; in_body = refl; most = refl; one = λ o. o }) e
names_calm h g (Err w) e = absurd (cc)

offset_calm : (h g k : Held) (r : Result (Unit {0}) Why) → Calm h k → and_then r (λ u. Ok k) ≡ Ok g → Calm h g
offset_calm h g k (Ok u) c e = itself h k g c e
offset_calm h g k (Err w) c e = absurd (cc)

begun_calm : (t : ValType) (sees : ℕ) (h : Held) → Calm h (constant_begun t sees h)
begun_calm t sees h = record { body = refl; in_body = refl; most = refl; one = λ o. o }

pub part_calm : (h g : Held) (x : Item) → IsOutside x → after h x ≡ Ok g → Calm h g
part_calm h g new_type i e = spaces_calm h g (type_begun h.spaces) (λ z q o. let is : record h.spaces { types = h.spaces.types ++ record { params = []; results = [] } ∷ [] } ≡ z = cc in
    subst (λ (y : IndexSpaces). One y.types) is (all_append (λ (f : Signature). length f.results ≤ 1) h.spaces.types (record { params = []; results = [] } ∷ []) o (omega arith, tt))) e
part_calm h g (param t) i e = spaces_calm h g (param_added t h.spaces) (types_one (one_param_more t) h.spaces (param_one t)) e
part_calm h g (result_count n) i e = where_calm h g _ e
part_calm h g (one_result t) i e = spaces_calm h g (result_added t h.spaces) (types_one (one_result_more t) h.spaces (result_one t)) e
part_calm h g (import_module name) i e = itself h h g (same h) e
part_calm h g (import_name name) i e = itself h h g (same h) e
part_calm h g (import_desc d) i e = spaces_calm h g (import_added d h.spaces) (import_one d h.spaces) e
part_calm h g (function x) i e = spaces_calm h g (function_added x h.spaces) (stays h.spaces (record h.spaces { functions = h.spaces.functions ++ x ∷ [] }) refl (nat_lt x (length h.spaces.types)) why.Index) e
part_calm h g (table l) i e = spaces_calm h g (table_added l h.spaces) (sized h.spaces h.spaces.has_table _ (record h.spaces { has_table = true }) refl) e
part_calm h g (memory l) i e = spaces_calm h g (memory_added l h.spaces) (sized h.spaces h.spaces.has_memory _ (record h.spaces { has_memory = true }) refl) e
part_calm h g (global t) i e =
    let k = constant_begun t.ty h.spaces.imported_globals h in
    let c = spaces_calm k g (global_added t h.spaces) (λ z q o. let is : record h.spaces { globals = h.spaces.globals ++ t ∷ [] } ≡ z = cc in subst (λ (y : IndexSpaces). One y.types) is o) e in
    record { body = c.body; in_body = c.in_body; most = c.most; one = c.one }
part_calm h g (const_op o) i e = constant_calm o h g h.constant e
part_calm h g (export_name name) i e = names_calm h g _ e
part_calm h g (export k x) i e = where_calm h g _ e
part_calm h g (start x) i e = where_calm h g _ e
part_calm h g (element x) i e = offset_calm h g (constant_begun I32 (length h.spaces.globals) (with_element h)) _ (record { body = refl; in_body = refl; most = refl; one = λ o. o }) e
part_calm h g passive_element i e = itself h (with_element h) g (record { body = refl; in_body = refl; most = refl; one = λ o. o }) e
part_calm h g (element_function x) i e = where_calm h g _ e
part_calm h g (data_count n) i e = itself h (record h { spaces = segments_counted n h.spaces }) g (record { body = refl; in_body = refl; most = refl; one = λ o. o }) e
part_calm h g body i e = absurd i
part_calm h g (locals n t) i e = absurd i
part_calm h g (body_op o) i e = absurd i
part_calm h g (segment x) i e = offset_calm h g _ _ (begun_calm _ _ h) e
part_calm h g passive_segment i e = itself h h g (same h) e
part_calm h g (data_byte c) i e = itself h h g (same h) e

-- no item gives a type a second result
with_body_one : (h g : Held) (b : Bool) (r : Result Body Why) → cond b (with_body h r) (Err why.Index) ≡ Ok g → OneResults h → OneResults g
with_body_one h g true (Ok d) e o = let is : record h { body = d } ≡ g = cc in subst OneResults is o
with_body_one h g true (Err w) e o = absurd (cc)
with_body_one h g false r e o = absurd (cc)

progress_one : (h : Held) (d : Body) (p : Progress) → OneResults h → OneResults (with_progress h d p)
progress_one h d Inside o = o
progress_one h d Ended o = o

op_one : (h g : Held) (b : Bool) (r : Result Body Why) → cond b (checker_after_op h r) (Err why.Index) ≡ Ok g → OneResults h → OneResults g
op_one h g true (Ok d) e o = let is : with_progress h d (progress_at d.state.stacks.frames) ≡ g = cc in subst OneResults is (progress_one h d (progress_at d.state.stacks.frames) o)
op_one h g true (Err w) e o = absurd (cc)
op_one h g false r e o = absurd (cc)

begun_one : (h g : Held) (x : Option ℕ) → body_begun h x ≡ Ok g → OneResults h → OneResults g
begun_one h g None e o = absurd (cc)
begun_one h g (Some x) e o = let is : record h { spaces = record h.spaces { bodies = h.spaces.bodies + 1 }; body = body_at_start (context_of h.spaces) x; in_body = true } ≡ g = cc in subst OneResults is o

part_one : (h g : Held) (x : Item) → after h x ≡ Ok g → OneResults h → OneResults g
part_one h g body e o = begun_one h g (next_type h.spaces) e o
part_one h g (locals n t) e o = with_body_one h g h.in_body _ e o
part_one h g (body_op x) e o = op_one h g h.in_body _ e o
part_one h g new_type e o = (part_calm h g new_type tt e).one o
part_one h g (param t) e o = (part_calm h g (param t) tt e).one o
part_one h g (result_count n) e o = (part_calm h g (result_count n) tt e).one o
part_one h g (one_result t) e o = (part_calm h g (one_result t) tt e).one o
part_one h g (import_module name) e o = (part_calm h g (import_module name) tt e).one o
part_one h g (import_name name) e o = (part_calm h g (import_name name) tt e).one o
part_one h g (import_desc d) e o = (part_calm h g (import_desc d) tt e).one o
part_one h g (function x) e o = (part_calm h g (function x) tt e).one o
part_one h g (table l) e o = (part_calm h g (table l) tt e).one o
part_one h g (memory l) e o = (part_calm h g (memory l) tt e).one o
part_one h g (global t) e o = (part_calm h g (global t) tt e).one o
part_one h g (const_op x) e o = (part_calm h g (const_op x) tt e).one o
part_one h g (export_name name) e o = (part_calm h g (export_name name) tt e).one o
part_one h g (export k x) e o = (part_calm h g (export k x) tt e).one o
part_one h g (start x) e o = (part_calm h g (start x) tt e).one o
part_one h g (element x) e o = (part_calm h g (element x) tt e).one o
part_one h g passive_element e o = (part_calm h g passive_element tt e).one o
part_one h g (element_function x) e o = (part_calm h g (element_function x) tt e).one o
part_one h g (data_count n) e o = (part_calm h g (data_count n) tt e).one o
part_one h g (segment x) e o = (part_calm h g (segment x) tt e).one o
part_one h g passive_segment e o = (part_calm h g passive_segment tt e).one o
part_one h g (data_byte c) e o = (part_calm h g (data_byte c) tt e).one o

pub parts_one : (ps : List Item) (h g : Held) → all_taken after h ps ≡ Ok g → OneResults h → OneResults g
parts_one [] h g e o = let is : h ≡ g = cc in subst OneResults is o
parts_one (x ∷ ps) h g e o = let s = ok_then (after h x) (λ k. all_taken after k ps) g e in parts_one ps s.0 g s.2 (part_one h s.0 x s.1 o)
