-- The number of retained entries is the weight of the items that were taken.
use Rattle.std.proofs.Common.{ℕ, ◌+◌, ◌≡◌, List, [], ◌∷◌, ◌++◌, Option, Some, None, Bool, true, false, cond, Result, Ok, Err, length, refl, subst, arith, length-append, sum_by, nat_eq, nat_lt}
use Rattle.wm_machine.specs.Items.{passive_element, passive_segment}
use Rattle.std.proofs.lemmas.List.Sums.{sum_by-cons, sum_by_push}
use Rattle.wm_syntax.specs.declared.types.ValType.{ValType}
use Rattle.wm_syntax.specs.declared.types.GlobalType.{GlobalType}
use Rattle.wm_syntax.specs.declared.instructions.Op.{Op}
use Rattle.wm_syntax.specs.declared.modules.ImportDesc.{ImportDesc}
use Rattle.wm_syntax.specs.declared.modules.ImportDesc.TheVariants as desc
use Rattle.wm_syntax.specs.declared.why.Why.{Why}
use Rattle.wm_syntax.specs.declared.why.Why.TheVariants as why
use Rattle.wm_syntax.specs.Types.{Signature}
use Rattle.wm_typing.specs.declared.body_checker.Progress.{Progress}
use Rattle.wm_typing.specs.declared.body_checker.Progress.TheVariants.{Inside, Ended}
use Rattle.wm_typing.specs.Bodies.{Body}
use Rattle.wm_machine.specs.Items.{Item, new_type, param, result_count, one_result, import_module, import_name, import_desc, function, table, memory, global, const_op, export_name, export, start, element, element_function, data_count, body, locals, body_op, segment, data_byte}
use Rattle.wm_machine.specs.Sinks.{and_then, all_taken}
use Rattle.wm_rules.specs.declared.constants.Constant.{Constant}
use Rattle.wm_rules.specs.exact.Spaces.{segments_counted, on_last, one_param_more, one_result_more, type_begun, param_added, result_added, function_added, function_imported, global_added, global_imported, table_added, memory_added, import_added, with_types}
use Rattle.wm_rules.specs.Holding.{IndexSpaces, Held}
use Rattle.wm_rules.specs.exact.Checking.{after, constant_begun, empty_checker, in_constant, in_names, in_spaces, names_with, checker_after_op, where_ok, with_body, with_constant, with_element, with_progress, body_begun}
use Rattle.wm_rules.specs.Kept.{entries_in, list_entries, item_weight, width}
use Rattle.wm_rules.proofs.MemberFolds.{cond_ok, ok_then}
use Rattle.wm_rules.proofs.NewNames.{names_more}

-- in the index spaces
abbrev Grows : IndexSpaces → ℕ → IndexSpaces → Type 0
Grows s n z = entries_in z ≡ entries_in s + n

last_wider : (f : Signature → Result Signature Why) → ((x y : Signature) → f x ≡ Ok y → width y ≡ width x + 1) → (xs ys : List Signature) → on_last f xs ≡ Ok ys → sum_by width ys + length ys ≡ sum_by width xs + length xs + 1
last_wider f wider [] ys e = absurd (cc)
last_wider f wider (x ∷ []) ys e =
    let s = ok_then (f x) (λ (y : Signature). Ok (y ∷ [])) ys e in
    let is : s.0 ∷ [] ≡ ys = cc (s.2) in
    subst (λ zs. sum_by width zs + length zs ≡ sum_by width (x ∷ []) + length (x ∷ []) + 1) is
    (omega (arith, wider x s.0 s.1, sum_by-cons width x [], sum_by-cons width s.0 []))
last_wider f wider (x ∷ y ∷ xs) ys e =
    let s = ok_then (on_last f (y ∷ xs)) (λ (zs : List Signature). Ok (x ∷ zs)) ys e in
    let is : x ∷ s.0 ≡ ys = cc (s.2) in
    let rest = last_wider f wider (y ∷ xs) s.0 s.1 in
    subst (λ zs. sum_by width zs + length zs ≡ sum_by width (x ∷ y ∷ xs) + length (x ∷ y ∷ xs) + 1) is
    (omega (arith, rest, sum_by-cons width x (y ∷ xs), sum_by-cons width x s.0))

param_wider : (t : ValType) (x y : Signature) → one_param_more t x ≡ Ok y → width y ≡ width x + 1
param_wider t x y e =
    let is : record x { params = x.params ++ t ∷ [] } ≡ y = cc in
    subst (λ z. width z ≡ width x + 1) is (omega (arith, length-append x.params (t ∷ [])))

result_wider : (t : ValType) (x y : Signature) → one_result_more t x ≡ Ok y → width y ≡ width x + 1
result_wider t x y e =
    let c = cond_ok (nat_eq (length x.results) 0) (record x { results = x.results ++ t ∷ [] }) y why.Arity e in
    subst (λ z. width z ≡ width x + 1) c.1 (omega (arith, length-append x.results (t ∷ [])))

wider_types : (f : Signature → Result Signature Why) (s z : IndexSpaces) → ((x y : Signature) → f x ≡ Ok y → width y ≡ width x + 1) → with_types s (on_last f s.types) ≡ Ok z → Grows s 1 z
wider_types f s z wider e = go (on_last f s.types) refl e
  where
    go : (r : Result (List Signature) Why) → on_last f s.types ≡ r → with_types s r ≡ Ok z → Grows s 1 z
    go (Ok ts) is e =
        let same : record s { types = ts } ≡ z = cc in
        let w = last_wider f wider s.types ts is in
        subst (Grows s 1) same (omega (arith, w))
    go (Err w) is e = absurd (cc)

type_grows : (s z : IndexSpaces) → type_begun s ≡ Ok z → Grows s 1 z
type_grows s z e =
    let same : record s { types = s.types ++ record { params = []; results = [] } ∷ [] } ≡ z = cc in
    subst (Grows s 1) same (omega (arith, length-append s.types (record { params = []; results = [] } ∷ []), sum_by_push width s.types (record { params = []; results = [] })))

function_grows : (x : ℕ) (s z : IndexSpaces) → function_added x s ≡ Ok z → Grows s 1 z
function_grows x s z e =
    let c = cond_ok (nat_lt x (length s.types)) (record s { functions = s.functions ++ x ∷ [] }) z why.Index e in
    subst (Grows s 1) c.1 (omega (arith, length-append s.functions (x ∷ [])))

imported_grows : (x : ℕ) (s z : IndexSpaces) → function_imported x s ≡ Ok z → Grows s 1 z
imported_grows x s z e =
    let a = ok_then (function_added x s) (λ (y : IndexSpaces). Ok (record y { imported_functions = y.imported_functions + 1 })) z e in
    let same : record (a.0) { imported_functions = a.0.imported_functions + 1 } ≡ z = cc (a.2) in
    subst (Grows s 1) same (function_grows x s a.0 a.1)

global_grows : (g : GlobalType) (s z : IndexSpaces) → global_added g s ≡ Ok z → Grows s 1 z
global_grows g s z e =
    let same : record s { globals = s.globals ++ g ∷ [] } ≡ z = cc in
    subst (Grows s 1) same (omega (arith, length-append s.globals (g ∷ [])))

global_import_grows : (g : GlobalType) (s z : IndexSpaces) → global_imported g s ≡ Ok z → Grows s 1 z
global_import_grows g s z e =
    let same : record s { globals = s.globals ++ g ∷ []; imported_globals = s.imported_globals + 1 } ≡ z = cc in
    subst (Grows s 1) same (omega (arith, length-append s.globals (g ∷ [])))

sized_stays : (has good : Bool) (s y z : IndexSpaces) → entries_in y ≡ entries_in s → cond has (Err why.Second) (cond good (Ok y) (Err why.Limits)) ≡ Ok z → Grows s 0 z
sized_stays true good s y z n e = absurd (cc)
sized_stays false true s y z n e = let same : y ≡ z = cc in subst (Grows s 0) same (omega (arith, n))
sized_stays false false s y z n e = absurd (cc)

import_grows : (d : ImportDesc) (s z : IndexSpaces) → import_added d s ≡ Ok z → Grows s (item_weight (import_desc d)) z
import_grows (desc.Func x) s z e = imported_grows x s z e
import_grows (desc.Table l) s z e = sized_stays s.has_table _ s (record s { has_table = true }) z refl e
import_grows (desc.Memory l) s z e = sized_stays s.has_memory _ s (record s { has_memory = true }) z refl e
import_grows (desc.Global g) s z e = global_import_grows g s z e

-- an item that is taken adds its weight
abbrev Adds : Held → ℕ → Held → Type 0
Adds h n g = list_entries g ≡ list_entries h + n

spaces_add : (h g : Held) (r : Result IndexSpaces Why) (n : ℕ) → ((z : IndexSpaces) → r ≡ Ok z → Grows h.spaces n z) → in_spaces h r ≡ Ok g → Adds h n g
spaces_add h g (Ok z) n grows e =
    let same : record h { spaces = z } ≡ g = cc in
    let more = grows z refl in
    subst (Adds h n) same (omega (arith, more))
spaces_add h g (Err w) n grows e = absurd (cc)

abbrev taken_as : Held → Result Held Why
taken_as h = Ok h

stays : (h g k : Held) → list_entries k ≡ list_entries h → taken_as k ≡ Ok g → Adds h 0 g
stays h g k n e = let same : k ≡ g = cc in subst (Adds h 0) same (omega (arith, n))

where_stays : (h g : Held) (r : Result (Unit {0}) Why) → where_ok h r ≡ Ok g → Adds h 0 g
where_stays h g (Ok u) e = stays h g h refl e
where_stays h g (Err w) e = absurd (cc)

constant_stays : (o : Op) (h g : Held) (k : Option Constant) → in_constant o h k ≡ Ok g → Adds h 0 g
constant_stays o h g None e = absurd (cc)
constant_stays o h g (Some k) e = go _ e
  where
    go : (r : Result (Option Constant) Why) → with_constant h r ≡ Ok g → Adds h 0 g
    go (Ok c) e = stays h g (record h { constant = c }) refl e
    go (Err w) e = absurd (cc)

names_add : (h g : Held) (name : List ℕ) → in_names h (names_with name h.names) ≡ Ok g → Adds h (1 + length name) g
names_add h g name e = go (names_with name h.names) refl e
  where
    go : (r : Result (List (List ℕ)) Why) → names_with name h.names ≡ r → in_names h r ≡ Ok g → Adds h (1 + length name) g
    go (Ok ns) is e =
        let same : record h { names = ns } ≡ g = cc in
        let more = names_more name h.names ns is in
        subst (Adds h (1 + length name)) same (omega (arith, more))
    go (Err w) is e = absurd (cc)

body_stays : (h g : Held) (o : Option ℕ) → body_begun h o ≡ Ok g → Adds h 0 g
body_stays h g None e = absurd (cc)
body_stays h g (Some x) e = stays h g _ refl e

with_body_stays : (h g : Held) (b : Bool) (r : Result Body Why) → cond b (with_body h r) (Err why.Index) ≡ Ok g → Adds h 0 g
with_body_stays h g true (Ok b) e = stays h g (record h { body = b }) refl e
with_body_stays h g true (Err w) e = absurd (cc)
with_body_stays h g false r e = absurd (cc)

progress_stays : (h : Held) (b : Body) (p : Progress) → list_entries (with_progress h b p) ≡ list_entries h
progress_stays h b Inside = refl
progress_stays h b Ended = refl

op_stays : (h g : Held) (b : Bool) (r : Result Body Why) → cond b (checker_after_op h r) (Err why.Index) ≡ Ok g → Adds h 0 g
op_stays h g true (Ok b) e = stays h g _ (progress_stays h b _) e
op_stays h g true (Err w) e = absurd (cc)
op_stays h g false r e = absurd (cc)

offset_stays : (h g k : Held) (r : Result (Unit {0}) Why) → list_entries k ≡ list_entries h → and_then r (λ u. Ok k) ≡ Ok g → Adds h 0 g
offset_stays h g k (Ok u) n e = stays h g k n e
offset_stays h g k (Err w) n e = absurd (cc)

pub part_adds : (h g : Held) (p : Item) → after h p ≡ Ok g → Adds h (item_weight p) g
part_adds h g new_type e = spaces_add h g (type_begun h.spaces) 1 (type_grows h.spaces) e
part_adds h g (param t) e = spaces_add h g (param_added t h.spaces) 1 (λ z. wider_types (one_param_more t) h.spaces z (param_wider t)) e
part_adds h g (result_count n) e = where_stays h g _ e
part_adds h g (one_result t) e = spaces_add h g (result_added t h.spaces) 1 (λ z. wider_types (one_result_more t) h.spaces z (result_wider t)) e
part_adds h g (import_module name) e = stays h g h refl e
part_adds h g (import_name name) e = stays h g h refl e
part_adds h g (import_desc d) e = spaces_add h g (import_added d h.spaces) (item_weight (import_desc d)) (import_grows d h.spaces) e
part_adds h g (function x) e = spaces_add h g (function_added x h.spaces) 1 (function_grows x h.spaces) e
part_adds h g (table l) e = spaces_add h g (table_added l h.spaces) 0 (λ z. sized_stays h.spaces.has_table _ h.spaces (record h.spaces { has_table = true }) z refl) e
part_adds h g (memory l) e = spaces_add h g (memory_added l h.spaces) 0 (λ z. sized_stays h.spaces.has_memory _ h.spaces (record h.spaces { has_memory = true }) z refl) e
part_adds h g (global t) e = spaces_add (constant_begun t.ty h.spaces.imported_globals h) g (global_added t h.spaces) 1 (global_grows t h.spaces) e
part_adds h g (const_op o) e = constant_stays o h g h.constant e
part_adds h g (export_name name) e = names_add h g name e
part_adds h g (export k x) e = where_stays h g _ e
part_adds h g (start x) e = where_stays h g _ e
part_adds h g (element x) e = offset_stays h g _ _ refl e
part_adds h g passive_element e = stays h g (with_element h) refl e
part_adds h g (element_function x) e = where_stays h g _ e
part_adds h g (data_count n) e = stays h g (record h { spaces = segments_counted n h.spaces }) refl e
part_adds h g body e = body_stays h g _ e
part_adds h g (locals n t) e = with_body_stays h g h.in_body _ e
part_adds h g (body_op o) e = op_stays h g h.in_body _ e
part_adds h g (segment x) e = offset_stays h g _ _ refl e
part_adds h g passive_segment e = stays h g h refl e
part_adds h g (data_byte c) e = stays h g h refl e

parts_add : (h g : Held) (ps : List Item) → all_taken after h ps ≡ Ok g → list_entries g ≡ list_entries h + sum_by item_weight ps
parts_add h g [] e = let same : h ≡ g = cc in subst (λ z. list_entries z ≡ list_entries h + 0) same (omega arith)
parts_add h g (p ∷ ps) e =
    let s = ok_then (after h p) (λ k. all_taken after k ps) g e in
    omega (arith, part_adds h s.0 p s.1, parts_add s.0 g ps s.2, sum_by-cons item_weight p ps)

-- from the beginning
pub kept_weight : (ps : List Item) (g : Held) → all_taken after empty_checker ps ≡ Ok g → list_entries g ≡ sum_by item_weight ps
kept_weight ps g e = omega (arith, parts_add empty_checker g ps e)
