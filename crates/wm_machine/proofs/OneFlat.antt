-- The items determine the flat module.
use Rattle.std.proofs.Common.{ℕ, suc, ◌≡◌, ◌≤◌, List, [], ◌∷◌, ◌++◌, Option, Some, None, length, flat_map, map, refl, sym, ◌∙◌, ap, subst, append-nil, arith, get_or}
use Rattle.wm_machine.specs.Flat.{element_head, segment_head}
use Rattle.wm_machine.specs.Items.{passive_element, passive_segment}
use Rattle.std.specs.List.{AllByRecursion}
use Rattle.wm_syntax.specs.declared.types.ValType.{ValType}
use Rattle.wm_syntax.specs.Types.{Signature}
use Rattle.wm_syntax.specs.Modules.{Import, Export}
use Rattle.wm_machine.specs.Items.{Item, new_type, param, result_count, one_result, import_module, import_name, import_desc, function, table, memory, global, const_op, export_name, export, start, element, element_function, data_count, body, locals, body_op, segment, data_byte}
use Rattle.wm_machine.specs.Flat.{FlatGlobal, FlatElement, FlatCode, FlatSegment, FlatModule, type_items, import_items, global_items, export_items, start_items, element_items, count_items, code_items, segment_items, flat_items}

-- Where one kind of item ends and another begins, a list can be cut in one place only.
abbrev Stops : (Item → Type 0) → List Item → Type 0
Stops P [] = Unit {0}
Stops P (x ∷ r) = P x → ⊥

module _ (P : Item → Type 0) where
  cut_short : (y : Item) (b r s : List Item) → P y → Stops P r → r ≡ y ∷ b ++ s → ⊥
  cut_short y b [] s h k e = cc
  cut_short y b (x ∷ r) s h k e = let same : y ≡ x = cc in k (subst P same h)

  cut_once : (a b r s : List Item) → AllByRecursion P a → AllByRecursion P b → Stops P r → Stops P s → a ++ r ≡ b ++ s → (a ≡ b) × (r ≡ s)
  cut_once [] [] r s h k i j e = (refl, e)
  cut_once [] (y ∷ b) r s h k i j e = absurd (cut_short y b r s k.0 i e)
  cut_once (x ∷ a) [] r s h k i j e = absurd (cut_short x a s r h.0 j (sym e))
  cut_once (x ∷ a) (y ∷ b) r s h k i j e =
      let same : x ≡ y = cc in
      let rest : (a ≡ b) × (r ≡ s) = cut_once a b r s h.1 k.1 i j (cc) in
      (cc (same, rest.0), rest.1)

-- items that each have a value
module _ {X : Type 0} (f : X → Item) where
  map_all : (P : Item → Type 0) → ((x : X) → P (f x)) → (xs : List X) → AllByRecursion P (map f xs)
  map_all P h [] = tt
  map_all P h (x ∷ xs) = (h x, map_all P h xs)

  map_stops : (P : Item → Type 0) → ((x : X) → P (f x) → ⊥) → (xs : List X) → Stops P (map f xs)
  map_stops P h [] = tt
  map_stops P h (x ∷ xs) = h x

  map_same : ((x y : X) → f x ≡ f y → x ≡ y) → (xs ys : List X) → map f xs ≡ map f ys → xs ≡ ys
  map_same h [] [] e = refl
  map_same h [] (y ∷ ys) e = cc
  map_same h (x ∷ xs) [] e = cc
  map_same h (x ∷ xs) (y ∷ ys) e =
      let first : x ≡ y = h x y (cc) in
      let rest : xs ≡ ys = map_same h xs ys (cc) in
      cc (first, rest)

-- the item with which a member begins
abbrev IsHead : Item → Type 0
IsHead new_type = Unit {0}
IsHead (import_module text) = Unit {0}
IsHead (global g) = Unit {0}
IsHead (export_name text) = Unit {0}
IsHead (element x) = Unit {0}
IsHead body = Unit {0}
IsHead (segment x) = Unit {0}
IsHead passive_element = Unit {0}
IsHead passive_segment = Unit {0}
IsHead _ = ⊥

abbrev IsInner : Item → Type 0
IsInner x = IsHead x → ⊥

-- members that begin so, each determined by its items
module _ {X : Type 0} (head : X → Item) (rest : X → List Item) (begins : (x : X) → IsHead (head x)) (inner : (x : X) → AllByRecursion IsInner (rest x)) (same : (x y : X) → head x ≡ head y → rest x ≡ rest y → x ≡ y) where
  members_stop : (xs : List X) → Stops IsInner (flat_map (λ x. head x ∷ rest x) xs)
  members_stop [] = tt
  members_stop (x ∷ xs) = λ h. h (begins x)

  members_same : (xs ys : List X) → flat_map (λ x. head x ∷ rest x) xs ≡ flat_map (λ x. head x ∷ rest x) ys → xs ≡ ys
  members_same [] [] e = refl
  members_same [] (y ∷ ys) e = cc
  members_same (x ∷ xs) [] e = cc
  members_same (x ∷ xs) (y ∷ ys) e =
      let heads : head x ≡ head y = cc in
      let items = cut_once IsInner (rest x) (rest y) (flat_map (λ x. head x ∷ rest x) xs) (flat_map (λ x. head x ∷ rest x) ys) (inner x) (inner y) (members_stop xs) (members_stop ys) (cc) in
      let first : x ≡ y = same x y heads items.0 in
      let more : xs ≡ ys = members_same xs ys items.1 in
      cc (first, more)

all_both : (P : Item → Type 0) (a b : List Item) → AllByRecursion P a → AllByRecursion P b → AllByRecursion P (a ++ b)
all_both P [] b h k = k
all_both P (x ∷ a) b h k = (h.0, all_both P a b h.1 k)

-- two runs of items, the first of one kind and the second of another
module _ {X Y : Type 0} (P : Item → Type 0) (f : X → Item) (g : Y → Item) (is : (x : X) → P (f x)) (is_not : (y : Y) → P (g y) → ⊥)
    (f_same : (x y : X) → f x ≡ f y → x ≡ y) (g_same : (x y : Y) → g x ≡ g y → x ≡ y) where
  runs_same : (xs ys : List X) (us vs : List Y) → map f xs ++ map g us ≡ map f ys ++ map g vs → (xs ≡ ys) × (us ≡ vs)
  runs_same xs ys us vs e =
      let c = cut_once P (map f xs) (map f ys) (map g us) (map g vs) (map_all f P is xs) (map_all f P is ys) (map_stops g P is_not us) (map_stops g P is_not vs) e in
      (map_same f f_same xs ys c.0, map_same g g_same us vs c.1)

abbrev IsParam : Item → Type 0
IsParam (param t) = Unit {0}
IsParam _ = ⊥

abbrev IsConstOp : Item → Type 0
IsConstOp (const_op o) = Unit {0}
IsConstOp _ = ⊥

abbrev IsLocals : Item → Type 0
IsLocals (locals n t) = Unit {0}
IsLocals _ = ⊥

types_same : (xs ys : List Signature) → flat_map type_items xs ≡ flat_map type_items ys → xs ≡ ys
types_same = members_same (λ f. new_type) rest (λ f. tt)
    (λ f. all_both IsInner (map param f.params) (result_count (length f.results) ∷ map one_result f.results) (map_all param IsInner (λ t h. h) f.params) ((λ h. h), map_all one_result IsInner (λ t h. h) f.results))
    same
  where
    rest : Signature → List Item
    rest f = map param f.params ++ (result_count (length f.results) ∷ map one_result f.results)

    same : (f g : Signature) → new_type ≡ new_type → map param f.params ++ (result_count (length f.results) ∷ map one_result f.results) ≡ map param g.params ++ (result_count (length g.results) ∷ map one_result g.results) → f ≡ g
    same f g h e =
        let c = cut_once IsParam (map param f.params) (map param g.params) (result_count (length f.results) ∷ map one_result f.results) (result_count (length g.results) ∷ map one_result g.results)
        (map_all param IsParam (λ t. tt) f.params) (map_all param IsParam (λ t. tt) g.params) (λ h. h) (λ h. h) e in
        let p : f.params ≡ g.params = map_same param (λ t u e. cc) f.params g.params c.0 in
        let q : f.results ≡ g.results = map_same one_result (λ t u e. cc) f.results g.results (cc (c.1)) in
        let all : record { params = f.params; results = f.results } ≡ record { params = g.params; results = g.results } = cc (p, q) in
        all

imports_same : (xs ys : List Import) → flat_map import_items xs ≡ flat_map import_items ys → xs ≡ ys
imports_same = members_same (λ i. import_module i.module_name) (λ i. import_name i.item_name ∷ import_desc i.desc ∷ []) (λ i. tt) (λ i. ((λ h. h), ((λ h. h), tt))) same
  where
    same : (i j : Import) → import_module i.module_name ≡ import_module j.module_name → import_name i.item_name ∷ import_desc i.desc ∷ [] ≡ import_name j.item_name ∷ import_desc j.desc ∷ [] → i ≡ j
    same i j h e =
        let all : record { module_name = i.module_name; item_name = i.item_name; desc = i.desc } ≡ record { module_name = j.module_name; item_name = j.item_name; desc = j.desc } = cc in
        all

globals_same : (xs ys : List FlatGlobal) → flat_map global_items xs ≡ flat_map global_items ys → xs ≡ ys
globals_same = members_same (λ g. global g.ty) (λ g. map const_op g.init) (λ g. tt) (λ g. map_all const_op IsInner (λ o h. h) g.init) same
  where
    same : (g h : FlatGlobal) → global g.ty ≡ global h.ty → map const_op g.init ≡ map const_op h.init → g ≡ h
    same g h e r =
        let q : g.init ≡ h.init = map_same const_op (λ o p e. cc) g.init h.init r in
        let all : record { ty = g.ty; init = g.init } ≡ record { ty = h.ty; init = h.init } = cc (e, q) in
        all

exports_same : (xs ys : List Export) → flat_map export_items xs ≡ flat_map export_items ys → xs ≡ ys
exports_same = members_same (λ e. export_name e.name) (λ e. export e.kind e.index ∷ []) (λ e. tt) (λ e. ((λ h. h), tt)) same
  where
    same : (d e : Export) → export_name d.name ≡ export_name e.name → export d.kind d.index ∷ [] ≡ export e.kind e.index ∷ [] → d ≡ e
    same d e h r =
        let all : record { name = d.name; kind = d.kind; index = d.index } ≡ record { name = e.name; kind = e.kind; index = e.index } = cc in
        all

elements_same : (xs ys : List FlatElement) → flat_map element_items xs ≡ flat_map element_items ys → xs ≡ ys
elements_same = members_same (λ e. element_head e.table) (λ e. map const_op e.offset ++ map element_function e.functions) (λ e. head e.table)
    (λ e. all_both IsInner (map const_op e.offset) (map element_function e.functions) (map_all const_op IsInner (λ o h. h) e.offset) (map_all element_function IsInner (λ x h. h) e.functions))
    same
  where
    head : (table : Option ℕ) → IsHead (element_head table)
    head None = tt
    head (Some x) = tt

    tables_same : (x y : Option ℕ) → element_head x ≡ element_head y → x ≡ y
    tables_same None None h = refl
    tables_same None (Some y) h = cc
    tables_same (Some x) None h = cc
    tables_same (Some x) (Some y) h = cc

    same : (d e : FlatElement) → element_head d.table ≡ element_head e.table → map const_op d.offset ++ map element_function d.functions ≡ map const_op e.offset ++ map element_function e.functions → d ≡ e
    same d e h r =
        let q = runs_same IsConstOp const_op element_function (λ o. tt) (λ x h. h) (λ o p e. cc) (λ x y e. cc) d.offset e.offset d.functions e.functions r in
        let tables : d.table ≡ e.table = tables_same d.table e.table h in
        let all : record { table = d.table; offset = d.offset; functions = d.functions } ≡ record { table = e.table; offset = e.offset; functions = e.functions } = cc (tables, q.0, q.1) in
        all

codes_same : (xs ys : List FlatCode) → flat_map code_items xs ≡ flat_map code_items ys → xs ≡ ys
codes_same = members_same (λ c. body) (λ c. map (λ r. locals r.0 r.1) c.runs ++ map body_op c.ops) (λ c. tt)
    (λ c. all_both IsInner (map (λ r. locals r.0 r.1) c.runs) (map body_op c.ops) (map_all (λ r. locals r.0 r.1) IsInner (λ r h. h) c.runs) (map_all body_op IsInner (λ o h. h) c.ops))
    same
  where
    run_same : (r s : ℕ × ValType) → locals r.0 r.1 ≡ locals s.0 s.1 → r ≡ s
    run_same (n, t) (m, u) e = cc

    same : (c d : FlatCode) → body ≡ body → map (λ r. locals r.0 r.1) c.runs ++ map body_op c.ops ≡ map (λ r. locals r.0 r.1) d.runs ++ map body_op d.ops → c ≡ d
    same c d h r =
        let q = runs_same IsLocals (λ r. locals r.0 r.1) body_op (λ r. tt) (λ o h. h) run_same (λ o p e. cc) c.runs d.runs c.ops d.ops r in
        let all : record { runs = c.runs; ops = c.ops } ≡ record { runs = d.runs; ops = d.ops } = cc (q.0, q.1) in
        all

segments_same : (xs ys : List FlatSegment) → flat_map segment_items xs ≡ flat_map segment_items ys → xs ≡ ys
segments_same = members_same (λ s. segment_head s.memory) (λ s. map const_op s.offset ++ map data_byte s.bytes) (λ s. head s.memory)
    (λ s. all_both IsInner (map const_op s.offset) (map data_byte s.bytes) (map_all const_op IsInner (λ o h. h) s.offset) (map_all data_byte IsInner (λ x h. h) s.bytes))
    same
  where
    head : (memory : Option ℕ) → IsHead (segment_head memory)
    head None = tt
    head (Some x) = tt

    memories_same : (x y : Option ℕ) → segment_head x ≡ segment_head y → x ≡ y
    memories_same None None h = refl
    memories_same None (Some y) h = cc
    memories_same (Some x) None h = cc
    memories_same (Some x) (Some y) h = cc

    same : (s t : FlatSegment) → segment_head s.memory ≡ segment_head t.memory → map const_op s.offset ++ map data_byte s.bytes ≡ map const_op t.offset ++ map data_byte t.bytes → s ≡ t
    same s t h r =
        let q = runs_same IsConstOp const_op data_byte (λ o. tt) (λ x h. h) (λ o p e. cc) (λ x y e. cc) s.offset t.offset s.bytes t.bytes r in
        let memories : s.memory ≡ t.memory = memories_same s.memory t.memory h in
        let all : record { memory = s.memory; offset = s.offset; bytes = s.bytes } ≡ record { memory = t.memory; offset = t.offset; bytes = t.bytes } = cc (memories, q.0, q.1) in
        all

-- The rank of the section to which an item belongs. An op of a constant is in three, and begins none.
abbrev section : Item → ℕ
section new_type = 1
section (param t) = 1
section (result_count n) = 1
section (one_result t) = 1
section (import_module text) = 2
section (import_name text) = 2
section (import_desc d) = 2
section (function x) = 3
section (table l) = 4
section (memory l) = 5
section (global g) = 6
section (const_op o) = 0
section (export_name text) = 7
section (export k x) = 7
section (start x) = 8
section (element x) = 9
section passive_element = 9
section (element_function x) = 9
section (data_count n) = 10
section body = 11
section (locals n t) = 11
section (body_op o) = 11
section (segment x) = 12
section passive_segment = 12
section (data_byte c) = 12

abbrev UpTo : ℕ → Item → Type 0
UpTo i x = section x ≤ i

abbrev BeginsFrom : ℕ → List Item → Type 0
BeginsFrom i [] = Unit {0}
BeginsFrom i (x ∷ r) = i ≤ section x

-- the items of this section, and those of each section in turn
abbrev IsSection : ℕ → List Item → Type 0
IsSection i a = AllByRecursion (UpTo i) a × BeginsFrom i a

abbrev AreSections : ℕ → List (List Item) → Type 0
AreSections i [] = Unit {0}
AreSections i (a ∷ more) = IsSection i a × AreSections (suc i) more

begins_later : (i : ℕ) (a : List Item) → BeginsFrom (suc i) a → BeginsFrom i a
begins_later i [] h = tt
begins_later i (x ∷ a) h = omega arith

sections_begin : (i : ℕ) (sections : List (List Item)) → AreSections i sections → BeginsFrom i (flat_map (λ a. a) sections)
sections_begin i [] h = tt
sections_begin i ([] ∷ more) h = begins_later i (flat_map (λ a. a) more) (sections_begin (suc i) more h.1)
sections_begin i ((x ∷ a) ∷ more) h = h.0.1

stops_at : (i : ℕ) (a : List Item) → BeginsFrom (suc i) a → Stops (UpTo i) a
stops_at i [] h = tt
stops_at i (x ∷ a) h = λ l. omega arith

sections_same : (i : ℕ) (xss yss : List (List Item)) → AreSections i xss → AreSections i yss → length xss ≡ length yss → flat_map (λ a. a) xss ≡ flat_map (λ a. a) yss → xss ≡ yss
sections_same i [] [] h k l e = refl
sections_same i [] (b ∷ yss) h k l e = cc
sections_same i (a ∷ xss) [] h k l e = cc
sections_same i (a ∷ xss) (b ∷ yss) h k l e =
    let c = cut_once (UpTo i) a b (flat_map (λ a. a) xss) (flat_map (λ a. a) yss) h.0.0 k.0.0 (stops_at i _ (sections_begin (suc i) xss h.1)) (stops_at i _ (sections_begin (suc i) yss k.1)) e in
    let more : xss ≡ yss = sections_same (suc i) xss yss h.1 k.1 (cc) c.1 in
    cc (c.0, more)

-- the items of one section
module _ {X : Type 0} (head : X → Item) (rest : X → List Item) (i : ℕ) (begins : (x : X) → section (head x) ≡ i) (inner : (x : X) → AllByRecursion (UpTo i) (rest x)) where
  members_section : (xs : List X) → IsSection i (flat_map (λ x. head x ∷ rest x) xs)
  members_section [] = (tt, tt)
  members_section (x ∷ xs) =
      let e : section (head x) ≡ i = begins x in
      let l : section (head x) ≤ i = omega arith in
      let m : i ≤ section (head x) = omega arith in
      ((l, all_both (UpTo i) (rest x) (flat_map (λ x. head x ∷ rest x) xs) (inner x) (members_section xs).0), m)

map_section : {X : Type 0} (f : X → Item) (i : ℕ) → ((x : X) → section (f x) ≡ i) → (xs : List X) → IsSection i (map f xs)
map_section f i is xs = (map_all f (UpTo i) (λ x. let e : section (f x) ≡ i = is x in omega arith) xs, begins xs)
  where
    begins : (xs : List _) → BeginsFrom i (map f xs)
    begins [] = tt
    begins (x ∷ xs) = let e : section (f x) ≡ i = is x in omega arith

start_section : (x : Option ℕ) → IsSection 8 (start_items x)
start_section None = (tt, tt)
start_section (Some x) = ((omega arith, tt), omega arith)

start_same : (x y : Option ℕ) → start_items x ≡ start_items y → x ≡ y
start_same None None e = refl
start_same None (Some y) e = cc
start_same (Some x) None e = cc
start_same (Some x) (Some y) e = cc

count_section : (x : Option ℕ) → IsSection 10 (count_items x)
count_section None = (tt, tt)
count_section (Some x) = ((omega arith, tt), omega arith)

count_same : (x y : Option ℕ) → count_items x ≡ count_items y → x ≡ y
count_same None None e = refl
count_same None (Some y) e = cc
count_same (Some x) None e = cc
count_same (Some x) (Some y) e = cc

-- the items of each section
abbrev by_section : FlatModule → List (List Item)
by_section v =
    flat_map type_items v.types
    ∷ flat_map import_items v.imports
    ∷ map function v.functions
    ∷ map table v.tables
    ∷ map memory v.memories
    ∷ flat_map global_items v.globals
    ∷ flat_map export_items v.exports
    ∷ start_items v.start
    ∷ flat_map element_items v.elements
    ∷ count_items v.data_count
    ∷ flat_map code_items v.codes
    ∷ flat_map segment_items v.segments
    ∷ []

last_alone : (a b c d e f g h i j k m : List Item) → a ++ (b ++ (c ++ (d ++ (e ++ (f ++ (g ++ (h ++ (i ++ (j ++ (k ++ (m ++ []))))))))))) ≡ a ++ (b ++ (c ++ (d ++ (e ++ (f ++ (g ++ (h ++ (i ++ (j ++ (k ++ m))))))))))
last_alone a b c d e f g h i j k m = ap (λ l. a ++ (b ++ (c ++ (d ++ (e ++ (f ++ (g ++ (h ++ (i ++ (j ++ (k ++ l))))))))))) (append-nil m)

joined : (v : FlatModule) → flat_map (λ a. a) (by_section v) ≡ flat_items v
joined v = last_alone (flat_map type_items v.types) (flat_map import_items v.imports) (map function v.functions) (map table v.tables) (map memory v.memories)
    (flat_map global_items v.globals) (flat_map export_items v.exports) (start_items v.start) (flat_map element_items v.elements) (count_items v.data_count) (flat_map code_items v.codes) (flat_map segment_items v.segments)

are_sections : (v : FlatModule) → AreSections 1 (by_section v)
are_sections v = (types, (imports, (functions, (tables, (memories, (globals, (exports, (start_section v.start, (elements, (count_section v.data_count, (codes, (segments, tt))))))))))))
  where
    types : IsSection 1 (flat_map type_items v.types)
    types = members_section (λ f. new_type) (λ f. map param f.params ++ (result_count (length f.results) ∷ map one_result f.results)) 1 (λ f. refl)
        (λ f. all_both (UpTo 1) (map param f.params) (result_count (length f.results) ∷ map one_result f.results) (map_all param (UpTo 1) (λ t. omega arith) f.params) (omega arith, map_all one_result (UpTo 1) (λ t. omega arith) f.results))
        v.types

    imports : IsSection 2 (flat_map import_items v.imports)
    imports = members_section (λ i. import_module i.module_name) (λ i. import_name i.item_name ∷ import_desc i.desc ∷ []) 2 (λ i. refl) (λ i. (omega arith, (omega arith, tt))) v.imports

    functions : IsSection 3 (map function v.functions)
    functions = map_section function 3 (λ x. refl) v.functions

    tables : IsSection 4 (map table v.tables)
    tables = map_section table 4 (λ x. refl) v.tables

    memories : IsSection 5 (map memory v.memories)
    memories = map_section memory 5 (λ x. refl) v.memories

    globals : IsSection 6 (flat_map global_items v.globals)
    globals = members_section (λ g. global g.ty) (λ g. map const_op g.init) 6 (λ g. refl) (λ g. map_all const_op (UpTo 6) (λ o. omega arith) g.init) v.globals

    exports : IsSection 7 (flat_map export_items v.exports)
    exports = members_section (λ e. export_name e.name) (λ e. export e.kind e.index ∷ []) 7 (λ e. refl) (λ e. (omega arith, tt)) v.exports

    elements : IsSection 9 (flat_map element_items v.elements)
    elements = members_section (λ e. element_head e.table) (λ e. map const_op e.offset ++ map element_function e.functions) 9 (λ e. at_nine e.table)
        (λ e. all_both (UpTo 9) (map const_op e.offset) (map element_function e.functions) (map_all const_op (UpTo 9) (λ o. omega arith) e.offset) (map_all element_function (UpTo 9) (λ x. omega arith) e.functions))
        v.elements
      where
        at_nine : (table : Option ℕ) → section (element_head table) ≡ 9
        at_nine None = refl
        at_nine (Some x) = refl

    codes : IsSection 11 (flat_map code_items v.codes)
    codes = members_section (λ c. body) (λ c. map (λ r. locals r.0 r.1) c.runs ++ map body_op c.ops) 11 (λ c. refl)
        (λ c. all_both (UpTo 11) (map (λ r. locals r.0 r.1) c.runs) (map body_op c.ops) (map_all (λ r. locals r.0 r.1) (UpTo 11) (λ r. omega arith) c.runs) (map_all body_op (UpTo 11) (λ o. omega arith) c.ops))
        v.codes

    segments : IsSection 12 (flat_map segment_items v.segments)
    segments = members_section (λ s. segment_head s.memory) (λ s. map const_op s.offset ++ map data_byte s.bytes) 12 (λ s. at_last s.memory)
        (λ s. all_both (UpTo 12) (map const_op s.offset) (map data_byte s.bytes) (map_all const_op (UpTo 12) (λ o. omega arith) s.offset) (map_all data_byte (UpTo 12) (λ c. omega arith) s.bytes))
        v.segments
      where
        at_last : (memory : Option ℕ) → section (segment_head memory) ≡ 12
        at_last None = refl
        at_last (Some x) = refl

-- one list of items is that of one flat module alone
pub one_flat : (v w : FlatModule) → flat_items v ≡ flat_items w → v ≡ w
one_flat v w e =
    let items = sections_same 1 (by_section v) (by_section w) (are_sections v) (are_sections w) refl (joined v ∙ e ∙ sym (joined w)) in
    let types : v.types ≡ w.types = types_same v.types w.types (ap (λ l. get_or l 0 []) items) in
    let imports : v.imports ≡ w.imports = imports_same v.imports w.imports (ap (λ l. get_or l 1 []) items) in
    let functions : v.functions ≡ w.functions = map_same function (λ x y e. cc) v.functions w.functions (ap (λ l. get_or l 2 []) items) in
    let tables : v.tables ≡ w.tables = map_same table (λ x y e. cc) v.tables w.tables (ap (λ l. get_or l 3 []) items) in
    let memories : v.memories ≡ w.memories = map_same memory (λ x y e. cc) v.memories w.memories (ap (λ l. get_or l 4 []) items) in
    let globals : v.globals ≡ w.globals = globals_same v.globals w.globals (ap (λ l. get_or l 5 []) items) in
    let exports : v.exports ≡ w.exports = exports_same v.exports w.exports (ap (λ l. get_or l 6 []) items) in
    let begins : v.start ≡ w.start = start_same v.start w.start (ap (λ l. get_or l 7 []) items) in
    let elements : v.elements ≡ w.elements = elements_same v.elements w.elements (ap (λ l. get_or l 8 []) items) in
    let counts : v.data_count ≡ w.data_count = count_same v.data_count w.data_count (ap (λ l. get_or l 9 []) items) in
    let codes : v.codes ≡ w.codes = codes_same v.codes w.codes (ap (λ l. get_or l 10 []) items) in
    let segments : v.segments ≡ w.segments = segments_same v.segments w.segments (ap (λ l. get_or l 11 []) items) in
    let all : record { types = v.types; imports = v.imports; functions = v.functions; tables = v.tables; memories = v.memories; globals = v.globals; exports = v.exports; start = v.start; elements = v.elements; data_count = v.data_count; codes = v.codes; segments = v.segments }
    ≡ record { types = w.types; imports = w.imports; functions = w.functions; tables = w.tables; memories = w.memories; globals = w.globals; exports = w.exports; start = w.start; elements = w.elements; data_count = w.data_count; codes = w.codes; segments = w.segments }
    = cc (types, imports, functions, tables, memories, globals, exports, begins, elements, counts, codes, segments) in
    all
