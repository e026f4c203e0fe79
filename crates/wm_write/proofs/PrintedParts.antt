-- The fields of a printed module, and their identifiers.
use Rattle.std.proofs.Common.{◌≡◌, ℕ, zero, suc, ◌<◌, ◌+◌, ◌^◌, List, [], ◌∷◌, ◌++◌, length, map, filter_map, Option, Some, None, refl, sym, ap, subst, ◌∙◌, inl, inr, arith, length-append, slice_get, ◌⊎◌, cond}
use Rattle.std.specs.Prelude.{codes, decimal}
use Rattle.std.specs.List.{cons_option, enumerate_from}
use Rattle.std.proofs.lemmas.List.{append-nil, append_cancel_left, length-map}
use Rattle.std.proofs.lemmas.List.Elements.{filter_map-append}
use Rattle.std.proofs.lemmas.Option.{slice_get_within}
use Rattle.wm_syntax.specs.Types.{Signature}
use Rattle.wm_syntax.specs.declared.types.Limits.{Limits}
use Rattle.wm_syntax.specs.declared.types.GlobalType.{GlobalType}
use Rattle.wm_syntax.specs.declared.modules.ImportDesc.{ImportDesc}
use Rattle.wm_syntax.specs.declared.modules.ImportDesc.TheVariants.{Func, Table, Memory, Global}
use Rattle.wm_syntax.specs.declared.modules.ExportKind.{ExportKind}
use Rattle.wm_syntax.specs.declared.modules.ExportKind.TheVariants as kind
use Rattle.wm_syntax.specs.Modules.{Element, Export, Function, GlobalDef, Import, Module, Segment, all_functions, all_globals, all_memories, all_tables, imported_function, imported_global, imported_memory, imported_table}
use Rattle.wm_write.specs.Layout.{places}
use Rattle.wm_tokens.specs.Identifiers.{AreDistinct, Id, Ids}
use Rattle.wm_tokens.specs.Written.{Names}
use Rattle.wm_tokens.specs.Fields.{Field, element_field, element_of, export_field, export_of, function_field, global_field, id_in, import_field, import_of, imports_in, memory_field, module_of, names_of, segment_field, segment_of, start_field, start_of, table_field, type_field, type_of}
use Rattle.wm_tokens.specs.Fields as f
use Rattle.wm_write.proofs.PrintedNumbers.{one_decimal}
use Rattle.wm_write.proofs.PrintedForms.{id_at}
use Rattle.wm_write.proofs.PrintedBodies.{Numbers}
use Rattle.wm_write.proofs.PrintedFields.{import_id}

-- ---- numbered identifiers

-- the identifiers of so many items from this place on
abbrev pub numbered : List ℕ → ℕ → ℕ → Ids
numbered prefix start zero = []
numbered prefix start (suc n) = id_at prefix start ∷ numbered prefix (start + 1) n

numbered_at : (prefix : List ℕ) (start n x : ℕ) → x < n → slice_get (numbered prefix start n) x ≡ Some (id_at prefix (start + x))
numbered_at prefix start zero x lt = absurd (omega (arith, lt))
numbered_at prefix start (suc n) zero lt = ap (λ z. Some (id_at prefix z)) (let e : start ≡ start + 0 = omega arith in e)
numbered_at prefix start (suc n) (suc x) lt = numbered_at prefix (start + 1) n x (omega (arith, lt)) ∙ ap (λ z. Some (id_at prefix z)) (let e : start + 1 + x ≡ start + suc x = omega arith in e)

pub numbers : (prefix : List ℕ) (n : ℕ) → Numbers prefix (numbered prefix 0 n) n
numbers prefix n x lt = numbered_at prefix 0 n x lt ∙ ap (λ z. Some (id_at prefix z)) (let e : 0 + x ≡ x = omega arith in e)

length_numbered : (prefix : List ℕ) (start n : ℕ) → length (numbered prefix start n) ≡ n
length_numbered prefix start zero = refl
length_numbered prefix start (suc n) = ap suc (length_numbered prefix (start + 1) n)

numbered_join : (prefix : List ℕ) (start m n : ℕ) → numbered prefix start m ++ numbered prefix (start + m) n ≡ numbered prefix start (m + n)
numbered_join prefix start zero n =
    ap (λ z. numbered prefix z n) (let e : start + 0 ≡ start = omega arith in e) ∙ ap (λ z. numbered prefix start z) (let e : n ≡ 0 + n = omega arith in e)
numbered_join prefix start (suc m) n =
    ap (λ z. id_at prefix start ∷ numbered prefix (start + 1) m ++ numbered prefix z n) (let e : start + suc m ≡ start + 1 + m = omega arith in e)
    ∙ ap (λ z. id_at prefix start ∷ z) (numbered_join prefix (start + 1) m n)
    ∙ ap (λ z. numbered prefix start z) (let e : suc (m + n) ≡ suc m + n = omega arith in e)

same_name : (a b : List ℕ) → ◌≡◌ {A = Option Id} (Some (Some a)) (Some (Some b)) → a ≡ b
same_name a b e = cc

-- no two are alike
pub numbered_distinct : (prefix : List ℕ) (n : ℕ) → n < 2 ^ 64 → AreDistinct (numbered prefix 0 n)
numbered_distinct prefix n small name x y e d =
    let ids = numbered prefix 0 n in
    let p : x < n = subst (λ z. x < z) (length_numbered prefix 0 n) (slice_get_within ids x (Some name) e) in
    let q : y < n = subst (λ z. y < z) (length_numbered prefix 0 n) (slice_get_within ids y (Some name) d) in
    let same : prefix ++ decimal x ≡ prefix ++ decimal y = same_name (prefix ++ decimal x) (prefix ++ decimal y) (sym (numbers prefix n x p) ∙ e ∙ sym d ∙ numbers prefix n y q) in
    one_decimal x y (omega (arith, p, small)) (omega (arith, q, small)) (append_cancel_left prefix (decimal x) (decimal y) same)

-- ---- the fields of a module

abbrev pub imports_from : List Import → List Import → List Field
imports_from before [] = []
imports_from before (i ∷ is) = import_field (import_id before i.desc) i ∷ imports_from (before ++ i ∷ []) is

abbrev pub start_fields : Option ℕ → List Field
start_fields None = []
start_fields (Some x) = start_field x ∷ []

abbrev pub part : {X : Type 0} → List ℕ → (Id → X → Field) → ℕ → List X → List Field
part prefix field start xs = map (λ e. field (id_at prefix e.0) e.1) (enumerate_from start xs)

abbrev pub types_in : Module → List Field
types_in m = part (codes "$t") type_field 0 m.types

abbrev pub functions_in : Module → List Field
functions_in m = part (codes "$f") function_field (places m.imports).functions m.functions

abbrev pub tables_in : Module → List Field
tables_in m = part (codes "$tab") table_field (places m.imports).tables m.tables

abbrev pub memories_in : Module → List Field
memories_in m = part (codes "$mem") memory_field (places m.imports).memories m.memories

abbrev pub globals_in : Module → List Field
globals_in m = part (codes "$g") global_field (places m.imports).globals m.globals

-- from here on a field defines nothing
abbrev pub rest_of : Module → List Field
rest_of m = map export_field m.exports ++ (start_fields m.start ++ (map element_field m.elements ++ map segment_field m.segments))

abbrev pub defined_in : Module → List Field
defined_in m = functions_in m ++ (tables_in m ++ (memories_in m ++ (globals_in m ++ rest_of m)))

unfoldable pub fields_in : Module → List Field
fields_in m = types_in m ++ (imports_from [] m.imports ++ defined_in m)

-- ---- the fields of each kind

none_in : {X Y : Type 0} (p : Field → Option Y) (field : X → Field) → ((x : X) → p (field x) ≡ None) → (xs : List X) → filter_map p (map field xs) ≡ []
none_in p field h [] = refl
none_in p field h (x ∷ xs) = ap (λ z. cons_option z (filter_map p (map field xs))) (h x) ∙ none_in p field h xs

all_in : {X Y : Type 0} (p : Field → Option Y) (field : X → Field) (value : X → Y) → ((x : X) → p (field x) ≡ Some (value x)) → (xs : List X) → filter_map p (map field xs) ≡ map value xs
all_in p field value h [] = refl
all_in p field value h (x ∷ xs) = ap (λ z. cons_option z (filter_map p (map field xs))) (h x) ∙ ap (λ z. value x ∷ z) (all_in p field value h xs)

no_import : {Y : Type 0} (p : Field → Option Y) → ((id : Id) (i : Import) → p (import_field id i) ≡ None) → (before is : List Import) → filter_map p (imports_from before is) ≡ []
no_import p h before [] = refl
no_import p h before (i ∷ is) = ap (λ z. cons_option z (filter_map p (imports_from (before ++ i ∷ []) is))) (h (import_id before i.desc) i) ∙ no_import p h (before ++ i ∷ []) is

no_start : {Y : Type 0} (p : Field → Option Y) → ((x : ℕ) → p (start_field x) ≡ None) → (s : Option ℕ) → filter_map p (start_fields s) ≡ []
no_start p h None = refl
no_start p h (Some x) = ap (λ z. cons_option z []) (h x)

seconds : {X : Type 0} (start : ℕ) (xs : List X) → map (λ (e : ℕ × X). e.1) (enumerate_from start xs) ≡ xs
seconds start [] = refl
seconds start (x ∷ xs) = ap (λ z. x ∷ z) (seconds (start + 1) xs)

firsts : {X : Type 0} (prefix : List ℕ) (start : ℕ) (xs : List X) → map (λ (e : ℕ × X). id_at prefix e.0) (enumerate_from start xs) ≡ numbered prefix start (length xs)
firsts prefix start [] = refl
firsts prefix start (x ∷ xs) = ap (λ z. id_at prefix start ∷ z) (firsts prefix (start + 1) xs)

itself : {X : Type 0} (xs : List X) → map (λ x. x) xs ≡ xs
itself [] = refl
itself (x ∷ xs) = ap (λ z. x ∷ z) (itself xs)

pub joined : {Y : Type 0} (p : Field → Option Y) (xs ys : List Field) (a b : List Y) → filter_map p xs ≡ a → filter_map p ys ≡ b → filter_map p (xs ++ ys) ≡ a ++ b
joined p xs ys a b h g = filter_map-append p xs ys ∙ ap (λ z. z ++ filter_map p ys) h ∙ ap (λ z. a ++ z) g

-- a part whose fields have identifiers: none of its fields, all of their values, all of their identifiers
no_part : {X Y : Type 0} (p : Field → Option Y) (prefix : List ℕ) (field : Id → X → Field) → ((id : Id) (x : X) → p (field id x) ≡ None) → (start : ℕ) (xs : List X) → filter_map p (part prefix field start xs) ≡ []
no_part {X} p prefix field h start xs = none_in p (λ (e : ℕ × X). field (id_at prefix e.0) e.1) (λ e. h (id_at prefix e.0) e.1) (enumerate_from start xs)

all_part : {X : Type 0} (p : Field → Option X) (prefix : List ℕ) (field : Id → X → Field) → ((id : Id) (x : X) → p (field id x) ≡ Some x) → (start : ℕ) (xs : List X) → filter_map p (part prefix field start xs) ≡ xs
all_part {X} p prefix field h start xs =
    all_in p (λ (e : ℕ × X). field (id_at prefix e.0) e.1) (λ (e : ℕ × X). e.1) (λ e. h (id_at prefix e.0) e.1) (enumerate_from start xs) ∙ seconds start xs

all_ids : {X : Type 0} (p : Field → Option Id) (prefix : List ℕ) (field : Id → X → Field) → ((id : Id) (x : X) → p (field id x) ≡ Some id) → (start : ℕ) (xs : List X)
    → filter_map p (part prefix field start xs) ≡ numbered prefix start (length xs)
all_ids {X} p prefix field h start xs =
    all_in p (λ (e : ℕ × X). field (id_at prefix e.0) e.1) (λ (e : ℕ × X). id_at prefix e.0) (λ e. h (id_at prefix e.0) e.1) (enumerate_from start xs) ∙ firsts prefix start xs

module _ {Y : Type 0} (p : Field → Option Y) (m : Module) where
  -- parts of which nothing is found
  no_types : ((id : Id) (x : Signature) → p (type_field id x) ≡ None) → filter_map p (types_in m) ≡ []
  no_types h = no_part p (codes "$t") type_field h 0 m.types

  no_functions : ((id : Id) (x : Function) → p (function_field id x) ≡ None) → filter_map p (functions_in m) ≡ []
  no_functions h = no_part p (codes "$f") function_field h (places m.imports).functions m.functions

  no_tables : ((id : Id) (x : Limits) → p (table_field id x) ≡ None) → filter_map p (tables_in m) ≡ []
  no_tables h = no_part p (codes "$tab") table_field h (places m.imports).tables m.tables

  no_memories : ((id : Id) (x : Limits) → p (memory_field id x) ≡ None) → filter_map p (memories_in m) ≡ []
  no_memories h = no_part p (codes "$mem") memory_field h (places m.imports).memories m.memories

  no_globals : ((id : Id) (x : GlobalDef) → p (global_field id x) ≡ None) → filter_map p (globals_in m) ≡ []
  no_globals h = no_part p (codes "$g") global_field h (places m.imports).globals m.globals

  -- For the parts that define nothing.
  rest_is : (h i j k : List Y) → filter_map p (map export_field m.exports) ≡ h → filter_map p (start_fields m.start) ≡ i → filter_map p (map element_field m.elements) ≡ j → filter_map p (map segment_field m.segments) ≡ k
      → filter_map p (rest_of m) ≡ h ++ (i ++ (j ++ k))
  rest_is h i j k ph pi pj pk = joined p (map export_field m.exports) _ h _ ph (joined p (start_fields m.start) _ i _ pi (joined p (map element_field m.elements) _ j k pj pk))

  no_rest : ((x : Export) → p (export_field x) ≡ None) → ((x : ℕ) → p (start_field x) ≡ None) → ((x : Element) → p (element_field x) ≡ None) → ((x : Segment) → p (segment_field x) ≡ None) → filter_map p (rest_of m) ≡ []
  no_rest e s l g = rest_is [] [] [] [] (none_in p export_field e m.exports) (no_start p s m.start) (none_in p element_field l m.elements) (none_in p segment_field g m.segments)

  -- For all parts.
  gathered : (a b c d e g k : List Y)
      → filter_map p (types_in m) ≡ a → filter_map p (imports_from [] m.imports) ≡ b → filter_map p (functions_in m) ≡ c → filter_map p (tables_in m) ≡ d
      → filter_map p (memories_in m) ≡ e → filter_map p (globals_in m) ≡ g → filter_map p (rest_of m) ≡ k
      → filter_map p (fields_in m) ≡ a ++ (b ++ (c ++ (d ++ (e ++ (g ++ k)))))
  unfolding fields_in
  gathered a b c d e g k pa pb pc pd pe pg pk =
      joined p (types_in m) _ a _ pa (joined p (imports_from [] m.imports) _ b _ pb (joined p (functions_in m) _ c _ pc (joined p (tables_in m) _ d _ pd (joined p (memories_in m) _ e _ pe
      (joined p (globals_in m) (rest_of m) g k pg pk)))))

  -- Parts that define something have none.
  in_rest : ((id : Id) (x : Signature) → p (type_field id x) ≡ None) → ((id : Id) (x : Import) → p (import_field id x) ≡ None) → ((id : Id) (x : Function) → p (function_field id x) ≡ None)
      → ((id : Id) (x : Limits) → p (table_field id x) ≡ None) → ((id : Id) (x : Limits) → p (memory_field id x) ≡ None) → ((id : Id) (x : GlobalDef) → p (global_field id x) ≡ None)
      → (k : List Y) → filter_map p (rest_of m) ≡ k → filter_map p (fields_in m) ≡ k
  in_rest t i u b y g k pk = gathered [] [] [] [] [] [] k (no_types t) (no_import p i [] m.imports) (no_functions u) (no_tables b) (no_memories y) (no_globals g) pk

imports_back : (before is : List Import) → filter_map import_of (imports_from before is) ≡ is
imports_back before [] = refl
imports_back before (i ∷ is) = ap (λ z. i ∷ z) (imports_back (before ++ i ∷ []) is)

abbrev pub start_list : Option ℕ → List ℕ
start_list None = []
start_list (Some x) = x ∷ []

starts_back : (s : Option ℕ) → filter_map start_of (start_fields s) ≡ start_list s
starts_back None = refl
starts_back (Some x) = refl

mapped : {X Y Z : Type 0} (g : Y → Z) (h : X → Y) (xs : List X) → map g (map h xs) ≡ map (λ x. g (h x)) xs
mapped g h [] = refl
mapped g h (x ∷ xs) = ap (λ z. g (h x) ∷ z) (mapped g h xs)

abbrev type_pair : ℕ × Signature → Id × Signature
type_pair e = (id_at (codes "$t") e.0, e.1)

types_found : (m : Module) → filter_map type_of (fields_in m) ≡ map type_pair (enumerate_from 0 m.types)
types_found m = gathered type_of m (map type_pair (enumerate_from 0 m.types)) [] [] [] [] [] []
    (all_in type_of (λ (e : ℕ × Signature). type_field (id_at (codes "$t") e.0) e.1) type_pair (λ x. refl) (enumerate_from 0 m.types))
    (no_import type_of (λ id x. refl) [] m.imports) (no_functions type_of m (λ id x. refl)) (no_tables type_of m (λ id x. refl)) (no_memories type_of m (λ id x. refl)) (no_globals type_of m (λ id x. refl))
    (no_rest type_of m (λ x. refl) (λ x. refl) (λ x. refl) (λ x. refl))
    ∙ append-nil (map type_pair (enumerate_from 0 m.types))

signatures_found : (m : Module) → map (λ t. t.1) (filter_map type_of (fields_in m)) ≡ m.types
signatures_found m = ap (λ z. map (λ (t : Id × Signature). t.1) z) (types_found m) ∙ mapped (λ (t : Id × Signature). t.1) type_pair (enumerate_from 0 m.types) ∙ seconds 0 m.types

type_ids_found : (m : Module) → map (λ t. t.0) (filter_map type_of (fields_in m)) ≡ numbered (codes "$t") 0 (length m.types)
type_ids_found m = ap (λ z. map (λ (t : Id × Signature). t.0) z) (types_found m) ∙ mapped (λ (t : Id × Signature). t.0) type_pair (enumerate_from 0 m.types) ∙ firsts (codes "$t") 0 m.types

imports_found : (m : Module) → filter_map import_of (fields_in m) ≡ m.imports
imports_found m = gathered import_of m [] m.imports [] [] [] [] []
    (no_types import_of m (λ id x. refl)) (imports_back [] m.imports) (no_functions import_of m (λ id x. refl)) (no_tables import_of m (λ id x. refl)) (no_memories import_of m (λ id x. refl)) (no_globals import_of m (λ id x. refl))
    (no_rest import_of m (λ x. refl) (λ x. refl) (λ x. refl) (λ x. refl))
    ∙ append-nil m.imports

functions_found : (m : Module) → filter_map f.function_of (fields_in m) ≡ m.functions
functions_found m = gathered f.function_of m [] [] m.functions [] [] [] []
    (no_types f.function_of m (λ id x. refl)) (no_import f.function_of (λ id x. refl) [] m.imports)
    (all_part f.function_of (codes "$f") function_field (λ id x. refl) (places m.imports).functions m.functions) (no_tables f.function_of m (λ id x. refl)) (no_memories f.function_of m (λ id x. refl)) (no_globals f.function_of m (λ id x. refl))
    (no_rest f.function_of m (λ x. refl) (λ x. refl) (λ x. refl) (λ x. refl))
    ∙ append-nil m.functions

tables_found : (m : Module) → filter_map f.table_of (fields_in m) ≡ m.tables
tables_found m = gathered f.table_of m [] [] [] m.tables [] [] []
    (no_types f.table_of m (λ id x. refl)) (no_import f.table_of (λ id x. refl) [] m.imports)
    (no_functions f.table_of m (λ id x. refl)) (all_part f.table_of (codes "$tab") table_field (λ id x. refl) (places m.imports).tables m.tables) (no_memories f.table_of m (λ id x. refl)) (no_globals f.table_of m (λ id x. refl))
    (no_rest f.table_of m (λ x. refl) (λ x. refl) (λ x. refl) (λ x. refl))
    ∙ append-nil m.tables

memories_found : (m : Module) → filter_map f.memory_of (fields_in m) ≡ m.memories
memories_found m = gathered f.memory_of m [] [] [] [] m.memories [] []
    (no_types f.memory_of m (λ id x. refl)) (no_import f.memory_of (λ id x. refl) [] m.imports)
    (no_functions f.memory_of m (λ id x. refl)) (no_tables f.memory_of m (λ id x. refl)) (all_part f.memory_of (codes "$mem") memory_field (λ id x. refl) (places m.imports).memories m.memories) (no_globals f.memory_of m (λ id x. refl))
    (no_rest f.memory_of m (λ x. refl) (λ x. refl) (λ x. refl) (λ x. refl))
    ∙ append-nil m.memories

globals_found : (m : Module) → filter_map f.global_of (fields_in m) ≡ m.globals
globals_found m = gathered f.global_of m [] [] [] [] [] m.globals []
    (no_types f.global_of m (λ id x. refl)) (no_import f.global_of (λ id x. refl) [] m.imports)
    (no_functions f.global_of m (λ id x. refl)) (no_tables f.global_of m (λ id x. refl)) (no_memories f.global_of m (λ id x. refl)) (all_part f.global_of (codes "$g") global_field (λ id x. refl) (places m.imports).globals m.globals)
    (no_rest f.global_of m (λ x. refl) (λ x. refl) (λ x. refl) (λ x. refl))
    ∙ append-nil m.globals

exports_found : (m : Module) → filter_map export_of (fields_in m) ≡ m.exports
exports_found m = in_rest export_of m (λ id x. refl) (λ id x. refl) (λ id x. refl) (λ id x. refl) (λ id x. refl) (λ id x. refl) _
    (rest_is export_of m m.exports [] [] [] (all_in export_of export_field (λ x. x) (λ x. refl) m.exports ∙ itself m.exports) (no_start export_of (λ x. refl) m.start) (none_in export_of element_field (λ x. refl) m.elements) (none_in export_of segment_field (λ x. refl) m.segments))
    ∙ append-nil m.exports

pub starts_found : (m : Module) → filter_map start_of (fields_in m) ≡ start_list m.start
starts_found m = in_rest start_of m (λ id x. refl) (λ id x. refl) (λ id x. refl) (λ id x. refl) (λ id x. refl) (λ id x. refl) _
    (rest_is start_of m [] (start_list m.start) [] [] (none_in start_of export_field (λ x. refl) m.exports) (starts_back m.start) (none_in start_of element_field (λ x. refl) m.elements) (none_in start_of segment_field (λ x. refl) m.segments))
    ∙ append-nil (start_list m.start)

elements_found : (m : Module) → filter_map element_of (fields_in m) ≡ m.elements
elements_found m = in_rest element_of m (λ id x. refl) (λ id x. refl) (λ id x. refl) (λ id x. refl) (λ id x. refl) (λ id x. refl) _
    (rest_is element_of m [] [] m.elements [] (none_in element_of export_field (λ x. refl) m.exports) (no_start element_of (λ x. refl) m.start) (all_in element_of element_field (λ x. x) (λ x. refl) m.elements ∙ itself m.elements) (none_in element_of segment_field (λ x. refl) m.segments))
    ∙ append-nil m.elements

segments_found : (m : Module) → filter_map segment_of (fields_in m) ≡ m.segments
segments_found m = in_rest segment_of m (λ id x. refl) (λ id x. refl) (λ id x. refl) (λ id x. refl) (λ id x. refl) (λ id x. refl) _
    (rest_is segment_of m [] [] [] m.segments (none_in segment_of export_field (λ x. refl) m.exports) (no_start segment_of (λ x. refl) m.start) (none_in segment_of element_field (λ x. refl) m.elements) (all_in segment_of segment_field (λ x. x) (λ x. refl) m.segments ∙ itself m.segments))

first_start : (s : Option ℕ) → slice_get (start_list s) 0 ≡ s
first_start None = refl
first_start (Some x) = refl

-- the fields are those of the module
pub value_is : (m : Module) → module_of (fields_in m) ≡ m
value_is m = λ k. record {
  types = signatures_found m k;
  imports = imports_found m k;
  functions = functions_found m k;
  tables = tables_found m k;
  memories = memories_found m k;
  globals = globals_found m k;
  exports = exports_found m k;
  start = (ap (λ z. slice_get z 0) (starts_found m) ∙ first_start m.start) k;
  elements = elements_found m k;
  segments = segments_found m k;
}

-- ---- their identifiers

module _ {X : Type 0} (space : ExportKind) (g : Import → Option X) (prefix : List ℕ)
    (hit : (before : List Import) (i : Import) → ((x : X) × (g i ≡ Some x) × (id_in space (import_field (import_id before i.desc) i) ≡ Some (id_at prefix (length (filter_map g before)))))
    ⊎ ((g i ≡ None) × (id_in space (import_field (import_id before i.desc) i) ≡ None))) where
  imports_named : (before is : List Import) → filter_map (id_in space) (imports_from before is) ≡ numbered prefix (length (filter_map g before)) (length (filter_map g is))
  imports_named before [] = refl
  imports_named before (i ∷ is) = by (hit before i) (imports_named (before ++ i ∷ []) is)
    where
      by : ((x : X) × (g i ≡ Some x) × (id_in space (import_field (import_id before i.desc) i) ≡ Some (id_at prefix (length (filter_map g before)))))
          ⊎ ((g i ≡ None) × (id_in space (import_field (import_id before i.desc) i) ≡ None))
          → filter_map (id_in space) (imports_from (before ++ i ∷ []) is) ≡ numbered prefix (length (filter_map g (before ++ i ∷ []))) (length (filter_map g is))
          → filter_map (id_in space) (imports_from before (i ∷ is)) ≡ numbered prefix (length (filter_map g before)) (length (filter_map g (i ∷ is)))
      by (inl (x, e, id)) more =
          let one : filter_map g (i ∷ []) ≡ x ∷ [] = ap (λ z. cons_option z []) e in
          let count : length (filter_map g (before ++ i ∷ [])) ≡ length (filter_map g before) + 1 =
          ap length (filter_map-append g before (i ∷ [])) ∙ length-append (filter_map g before) (filter_map g (i ∷ [])) ∙ ap (λ z. length (filter_map g before) + length z) one in
          ap (λ z. cons_option z (filter_map (id_in space) (imports_from (before ++ i ∷ []) is))) id
          ∙ ap (λ z. id_at prefix (length (filter_map g before)) ∷ z) (more ∙ ap (λ z. numbered prefix z (length (filter_map g is))) count)
          ∙ sym (ap (λ z. numbered prefix (length (filter_map g before)) (length (cons_option z (filter_map g is)))) e)
      by (inr (e, id)) more =
          let none : filter_map g (i ∷ []) ≡ [] = ap (λ z. cons_option z []) e in
          let count : filter_map g (before ++ i ∷ []) ≡ filter_map g before = filter_map-append g before (i ∷ []) ∙ ap (λ z. filter_map g before ++ z) none ∙ append-nil (filter_map g before) in
          ap (λ z. cons_option z (filter_map (id_in space) (imports_from (before ++ i ∷ []) is))) id
          ∙ more ∙ ap (λ z. numbered prefix (length z) (length (filter_map g is))) count
          ∙ sym (ap (λ z. numbered prefix (length (filter_map g before)) (length (cons_option z (filter_map g is)))) e)

function_hit : (before : List Import) (i : Import) → ((x : ℕ) × (imported_function i ≡ Some x) × (id_in kind.Func (import_field (import_id before i.desc) i) ≡ Some (id_at (codes "$f") (length (filter_map imported_function before)))))
    ⊎ ((imported_function i ≡ None) × (id_in kind.Func (import_field (import_id before i.desc) i) ≡ None))
function_hit before i = by i.desc
  where
    by : (d : ImportDesc) → ((x : ℕ) × ((elim d as (λ _. Option ℕ) [ Func x ↦ Some x | _ ↦ None ]) ≡ Some x) × (cond (imports_in kind.Func d) (Some (import_id before d)) None ≡ Some (id_at (codes "$f") (length (filter_map imported_function before)))))
        ⊎ (((elim d as (λ _. Option ℕ) [ Func x ↦ Some x | _ ↦ None ]) ≡ None) × (cond (imports_in kind.Func d) (Some (import_id before d)) None ≡ None))
    by (Func x) = inl (x, refl, refl)
    by (Table x) = inr (refl, refl)
    by (Memory x) = inr (refl, refl)
    by (Global x) = inr (refl, refl)

table_hit : (before : List Import) (i : Import) → ((x : Limits) × (imported_table i ≡ Some x) × (id_in kind.Table (import_field (import_id before i.desc) i) ≡ Some (id_at (codes "$tab") (length (filter_map imported_table before)))))
    ⊎ ((imported_table i ≡ None) × (id_in kind.Table (import_field (import_id before i.desc) i) ≡ None))
table_hit before i = by i.desc
  where
    by : (d : ImportDesc) → ((x : Limits) × ((elim d as (λ _. Option Limits) [ Table x ↦ Some x | _ ↦ None ]) ≡ Some x) × (cond (imports_in kind.Table d) (Some (import_id before d)) None ≡ Some (id_at (codes "$tab") (length (filter_map imported_table before)))))
        ⊎ (((elim d as (λ _. Option Limits) [ Table x ↦ Some x | _ ↦ None ]) ≡ None) × (cond (imports_in kind.Table d) (Some (import_id before d)) None ≡ None))
    by (Func x) = inr (refl, refl)
    by (Table x) = inl (x, refl, refl)
    by (Memory x) = inr (refl, refl)
    by (Global x) = inr (refl, refl)

memory_hit : (before : List Import) (i : Import) → ((x : Limits) × (imported_memory i ≡ Some x) × (id_in kind.Memory (import_field (import_id before i.desc) i) ≡ Some (id_at (codes "$mem") (length (filter_map imported_memory before)))))
    ⊎ ((imported_memory i ≡ None) × (id_in kind.Memory (import_field (import_id before i.desc) i) ≡ None))
memory_hit before i = by i.desc
  where
    by : (d : ImportDesc) → ((x : Limits) × ((elim d as (λ _. Option Limits) [ Memory x ↦ Some x | _ ↦ None ]) ≡ Some x) × (cond (imports_in kind.Memory d) (Some (import_id before d)) None ≡ Some (id_at (codes "$mem") (length (filter_map imported_memory before)))))
        ⊎ (((elim d as (λ _. Option Limits) [ Memory x ↦ Some x | _ ↦ None ]) ≡ None) × (cond (imports_in kind.Memory d) (Some (import_id before d)) None ≡ None))
    by (Func x) = inr (refl, refl)
    by (Table x) = inr (refl, refl)
    by (Memory x) = inl (x, refl, refl)
    by (Global x) = inr (refl, refl)

global_hit : (before : List Import) (i : Import) → ((x : GlobalType) × (imported_global i ≡ Some x) × (id_in kind.Global (import_field (import_id before i.desc) i) ≡ Some (id_at (codes "$g") (length (filter_map imported_global before)))))
    ⊎ ((imported_global i ≡ None) × (id_in kind.Global (import_field (import_id before i.desc) i) ≡ None))
global_hit before i = by i.desc
  where
    by : (d : ImportDesc) → ((x : GlobalType) × ((elim d as (λ _. Option GlobalType) [ Global x ↦ Some x | _ ↦ None ]) ≡ Some x) × (cond (imports_in kind.Global d) (Some (import_id before d)) None ≡ Some (id_at (codes "$g") (length (filter_map imported_global before)))))
        ⊎ (((elim d as (λ _. Option GlobalType) [ Global x ↦ Some x | _ ↦ None ]) ≡ None) × (cond (imports_in kind.Global d) (Some (import_id before d)) None ≡ None))
    by (Func x) = inr (refl, refl)
    by (Table x) = inr (refl, refl)
    by (Memory x) = inr (refl, refl)
    by (Global x) = inl (x, refl, refl)

-- The identifiers of the imports, and then of the definitions.
ids_joined : (prefix : List ℕ) (n k : ℕ) → numbered prefix 0 n ++ (numbered prefix n k ++ []) ≡ numbered prefix 0 (n + k)
ids_joined prefix n k =
    ap (λ z. numbered prefix 0 n ++ z) (append-nil (numbered prefix n k)) ∙ ap (λ z. numbered prefix 0 n ++ numbered prefix z k) (let e : n ≡ 0 + n = omega arith in e) ∙ numbered_join prefix 0 n k

function_ids_found : (m : Module) → filter_map (id_in kind.Func) (fields_in m) ≡ numbered (codes "$f") 0 (length (all_functions m))
function_ids_found m = gathered (id_in kind.Func) m [] (numbered (codes "$f") 0 (length (filter_map imported_function m.imports))) (numbered (codes "$f") (length (filter_map imported_function m.imports)) (length m.functions)) [] [] [] []
    (no_types (id_in kind.Func) m (λ id x. refl)) (imports_named kind.Func imported_function (codes "$f") function_hit [] m.imports)
    (all_ids (id_in kind.Func) (codes "$f") function_field (λ id x. refl) (places m.imports).functions m.functions) (no_tables (id_in kind.Func) m (λ id x. refl)) (no_memories (id_in kind.Func) m (λ id x. refl)) (no_globals (id_in kind.Func) m (λ id x. refl))
    (no_rest (id_in kind.Func) m (λ x. refl) (λ x. refl) (λ x. refl) (λ x. refl))
    ∙ ids_joined (codes "$f") (length (filter_map imported_function m.imports)) (length m.functions)
    ∙ ap (λ z. numbered (codes "$f") 0 z) (sym (length-append (filter_map imported_function m.imports) (map (λ f. f.type_index) m.functions) ∙ ap (λ z. length (filter_map imported_function m.imports) + z) (length-map m.functions (λ f. f.type_index))))

table_ids_found : (m : Module) → filter_map (id_in kind.Table) (fields_in m) ≡ numbered (codes "$tab") 0 (length (all_tables m))
table_ids_found m = gathered (id_in kind.Table) m [] (numbered (codes "$tab") 0 (length (filter_map imported_table m.imports))) [] (numbered (codes "$tab") (length (filter_map imported_table m.imports)) (length m.tables)) [] [] []
    (no_types (id_in kind.Table) m (λ id x. refl)) (imports_named kind.Table imported_table (codes "$tab") table_hit [] m.imports)
    (no_functions (id_in kind.Table) m (λ id x. refl)) (all_ids (id_in kind.Table) (codes "$tab") table_field (λ id x. refl) (places m.imports).tables m.tables) (no_memories (id_in kind.Table) m (λ id x. refl)) (no_globals (id_in kind.Table) m (λ id x. refl))
    (no_rest (id_in kind.Table) m (λ x. refl) (λ x. refl) (λ x. refl) (λ x. refl))
    ∙ ids_joined (codes "$tab") (length (filter_map imported_table m.imports)) (length m.tables)
    ∙ ap (λ z. numbered (codes "$tab") 0 z) (sym (length-append (filter_map imported_table m.imports) m.tables))

memory_ids_found : (m : Module) → filter_map (id_in kind.Memory) (fields_in m) ≡ numbered (codes "$mem") 0 (length (all_memories m))
memory_ids_found m = gathered (id_in kind.Memory) m [] (numbered (codes "$mem") 0 (length (filter_map imported_memory m.imports))) [] [] (numbered (codes "$mem") (length (filter_map imported_memory m.imports)) (length m.memories)) [] []
    (no_types (id_in kind.Memory) m (λ id x. refl)) (imports_named kind.Memory imported_memory (codes "$mem") memory_hit [] m.imports)
    (no_functions (id_in kind.Memory) m (λ id x. refl)) (no_tables (id_in kind.Memory) m (λ id x. refl)) (all_ids (id_in kind.Memory) (codes "$mem") memory_field (λ id x. refl) (places m.imports).memories m.memories) (no_globals (id_in kind.Memory) m (λ id x. refl))
    (no_rest (id_in kind.Memory) m (λ x. refl) (λ x. refl) (λ x. refl) (λ x. refl))
    ∙ ids_joined (codes "$mem") (length (filter_map imported_memory m.imports)) (length m.memories)
    ∙ ap (λ z. numbered (codes "$mem") 0 z) (sym (length-append (filter_map imported_memory m.imports) m.memories))

global_ids_found : (m : Module) → filter_map (id_in kind.Global) (fields_in m) ≡ numbered (codes "$g") 0 (length (all_globals m))
global_ids_found m = gathered (id_in kind.Global) m [] (numbered (codes "$g") 0 (length (filter_map imported_global m.imports))) [] [] [] (numbered (codes "$g") (length (filter_map imported_global m.imports)) (length m.globals)) []
    (no_types (id_in kind.Global) m (λ id x. refl)) (imports_named kind.Global imported_global (codes "$g") global_hit [] m.imports)
    (no_functions (id_in kind.Global) m (λ id x. refl)) (no_tables (id_in kind.Global) m (λ id x. refl)) (no_memories (id_in kind.Global) m (λ id x. refl)) (all_ids (id_in kind.Global) (codes "$g") global_field (λ id x. refl) (places m.imports).globals m.globals)
    (no_rest (id_in kind.Global) m (λ x. refl) (λ x. refl) (λ x. refl) (λ x. refl))
    ∙ ids_joined (codes "$g") (length (filter_map imported_global m.imports)) (length m.globals)
    ∙ ap (λ z. numbered (codes "$g") 0 z) (sym (length-append (filter_map imported_global m.imports) (map (λ g. g.ty) m.globals) ∙ ap (λ z. length (filter_map imported_global m.imports) + z) (length-map m.globals (λ g. g.ty))))

-- The names that the text of the module defines.
abbrev pub names_for : Module → Names
names_for m = record {
  signatures = m.types;
  types = numbered (codes "$t") 0 (length m.types);
  functions = numbered (codes "$f") 0 (length (all_functions m));
  tables = numbered (codes "$tab") 0 (length (all_tables m));
  memories = numbered (codes "$mem") 0 (length (all_memories m));
  globals = numbered (codes "$g") 0 (length (all_globals m));
}

pub names_are : (m : Module) → names_of (fields_in m) ≡ names_for m
names_are m = λ k. record {
  signatures = signatures_found m k;
  types = type_ids_found m k;
  functions = function_ids_found m k;
  tables = table_ids_found m k;
  memories = memory_ids_found m k;
  globals = global_ids_found m k;
}
