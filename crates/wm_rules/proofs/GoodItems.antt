-- The items of a flat value are taken if and only if the value is good.
use Rattle.std.proofs.Common.{ℕ, ◌+◌, ◌≡◌, ◌≤◌, ◌<◌, List, [], ◌∷◌, ◌++◌, Option, Some, None, IfSome, false, ◌||◌, Ok, length, max, take, refl, sym, ◌∙◌, ap, subst, append_assoc, append-nil, length-append, arith, map, ◌↔◌, slice_get, option_to_list}
use Rattle.std.specs.List.{AllByRecursion, filter_map, flat_map, AllZip}
use Rattle.std.proofs.lemmas.List.{take-append-le}
use Rattle.std.proofs.Math.Seq.{take-append_seam}
use Rattle.wm_syntax.specs.declared.types.GlobalType.{GlobalType}
use Rattle.wm_syntax.specs.declared.modules.ExportKind.{ExportKind}
use Rattle.wm_syntax.specs.declared.modules.ExportKind.TheVariants as kind
use Rattle.wm_syntax.specs.declared.instructions.Op.{Op}
use Rattle.wm_syntax.specs.Modules.{Export, Function, imported_function, imported_table, imported_memory, imported_global}
use Rattle.wm_typing.specs.TypedBodies.{IsTypedBody}
use Rattle.wm_typing.specs.Bodies.{no_stats}
use Rattle.wm_typing.specs.Contexts.{body_context}
use Rattle.wm_typing.specs.Typing.{function_type}
use Rattle.wm_machine.specs.Grammar.{IsExpression}
use Rattle.wm_machine.specs.Items.{Item}
use Rattle.wm_syntax.specs.Modules.{locals_of}
use Rattle.wm_machine.specs.Sinks.{all_taken}
use Rattle.wm_rules.specs.Bounds.{deepest_nesting}
use Rattle.wm_rules.specs.Validation.{TypedConst, is_some_item}
use Rattle.wm_rules.specs.exact.Spaces.{context_of, element_counted, items_in, next_type, one_if}
use Rattle.wm_rules.specs.Holding.{IndexSpaces, Held}
use Rattle.wm_rules.specs.exact.Checking.{after, empty_checker, with_element}
use Rattle.wm_machine.specs.Flat.{FlatModule, FlatGlobal, FlatElement, FlatCode, FlatSegment, IsCodeOf, type_items, import_items, global_items, export_items, element_items, code_items, segment_items}
use Rattle.wm_rules.proofs.GoodValues.{IsGoodMode, IsOffset, IsGrammatical, IsTypedConst, flat_functions, flat_tables, flat_memories, flat_globals, flat_context, flat_items, TypedCode, IsGood, given}
use Rattle.wm_rules.proofs.Members.{parts_by_member, function_part, table_part, memory_part, start_part, count_part}
use Rattle.wm_rules.proofs.MemberFolds.{puts, puts_keep, GoodAll, seq_takes, seq_sound, all_to, all_from}
use Rattle.wm_rules.proofs.ItemMembers.{Any, in_types, no_type, put_sig, GoodSig, sig_member, put_import, GoodImport, import_member, put_function, GoodFunction, function_member, put_table, GoodTable, table_member, put_memory, GoodMemory, memory_member, put_export, GoodExport, export_member, GoodStart, start_member, put_count, count_member}
use Rattle.wm_rules.proofs.ConstantMembers.{HasOffset, put_offset, put_data, data_keeps, Expresses, put_global, GoodGlobal, global_member, put_element, element_keeps, GoodElement, element_member, GoodSegment, segment_member}
use Rattle.wm_rules.proofs.CodeMembers.{OneResults, CodeOf, put_code, IsCode, code_member, code_controls}
use Rattle.wm_rules.proofs.NewNames.{New, distinct_new}
use Rattle.wm_rules.proofs.ListFolds.{sigs, in_functions, functions, in_table, tables, in_memory, memories, tables_to, tables_from, memories_to, memories_from, after_imports, imports, GoodImports, imports_to, imports_from, in_globals, globals}

any_all : {X : Type 0} (put : Held → X → Held) (xs : List X) (h : Held) → GoodAll Any put h xs
any_all put [] h = tt
any_all put (x ∷ xs) h = (tt, any_all put xs (put h x))

expresses_all : {X : Type 0} (ops : X → List Op) (put : Held → X → Held) (xs : List X) (h : Held) → AllByRecursion (λ x. IsExpression (ops x)) xs → GoodAll (Expresses ops) put h xs
expresses_all ops put [] h q = tt
expresses_all ops put (x ∷ xs) h q = (q.0, expresses_all ops put xs (put h x) q.1)

offsets_all : {X : Type 0} (index : X → Option ℕ) (offset : X → List Op) (put : Held → X → Held) (xs : List X) (h : Held) → AllByRecursion (λ x. IsOffset (index x) (offset x)) xs
    → GoodAll (HasOffset index offset) put h xs
offsets_all index offset put [] h q = tt
offsets_all index offset put (x ∷ xs) h q = (q.0, offsets_all index offset put xs (put h x) q.1)

seam : {A : Type 0} (before : List A) (x : A) (xs : List A) → slice_get (before ++ x ∷ xs) (length before) ≡ Some x
seam [] x xs = refl
seam (b ∷ before) x xs = seam before x xs

take_all : {A : Type 0} (xs : List A) → take (length xs) xs ≡ xs
take_all xs = ap (λ z. take (length xs) z) (sym (append-nil xs)) ∙ take-append_seam xs []

-- one item at most
some_append : {X : Type 0} (xs ys : List X) → (is_some_item ys || (is_some_item xs || false)) ≡ is_some_item (xs ++ ys)
some_append [] [] = refl
some_append [] (y ∷ ys) = refl
some_append (x ∷ xs) [] = refl
some_append (x ∷ xs) (y ∷ ys) = refl

some_count : {X : Type 0} (xs : List X) → length xs ≤ 1 → one_if (is_some_item xs) ≡ length xs
some_count [] h = refl
some_count (x ∷ []) h = refl
some_count (x ∷ y ∷ xs) h = absurd (omega (arith, h))

count_to : {X : Type 0} (xs ys : List X) → 0 + length xs ≤ 1 → one_if (is_some_item xs || false) + length ys ≤ 1 → length (xs ++ ys) ≤ 1
count_to [] ys few h = omega (arith, h)
count_to (x ∷ []) ys few h = omega (arith, h)
count_to (x ∷ y ∷ xs) ys few h = absurd (omega (arith, few))

count_from : {X : Type 0} (xs ys : List X) → length (xs ++ ys) ≤ 1 → (0 + length xs ≤ 1) × (one_if (is_some_item xs || false) + length ys ≤ 1)
count_from [] ys h = (omega arith, omega (arith, h))
count_from (x ∷ []) ys h = (omega arith, omega (arith, h))
count_from (x ∷ y ∷ xs) ys h = absurd (omega (arith, h))

-- an element segment, active or passive, adds one to their number
counted_put : (h : Held) (x : Option ℕ) → (put_offset (with_element h) x).spaces ≡ element_counted h.spaces
counted_put h None = refl
counted_put h (Some x) = refl

abbrev more_bodies : IndexSpaces → IndexSpaces
more_bodies s = record s { bodies = s.bodies + 1 }

module _ (v : FlatModule) where
  abbrev pub after_types : Held
  after_types = in_types empty_checker v.types

  abbrev pub after_imported : Held
  after_imported = after_imports after_types v.imports

  abbrev pub after_functions : Held
  after_functions = in_functions after_imported (flat_functions v)

  abbrev pub after_tables : Held
  after_tables = in_table after_functions (is_some_item v.tables || after_functions.spaces.has_table)

  abbrev pub after_memories : Held
  after_memories = in_memory after_tables (is_some_item v.memories || after_tables.spaces.has_memory)

  -- the same, in the words of the flat value
  abbrev pub before_globals : Held
  before_globals = in_memory (in_table after_functions (is_some_item (flat_tables v))) (is_some_item (flat_memories v))

  same_flags : after_memories ≡ before_globals
  same_flags =
      ap (λ b. in_memory (in_table after_functions b) (is_some_item v.memories || after_tables.spaces.has_memory)) (some_append (filter_map imported_table v.imports) v.tables)
      ∙ ap (λ b. in_memory (in_table after_functions (is_some_item (flat_tables v))) b) (some_append (filter_map imported_memory v.imports) v.memories)

  abbrev pub after_globals : Held
  after_globals = in_globals before_globals (flat_globals v)

  abbrev pub all_spaces : IndexSpaces
  all_spaces = after_globals.spaces

  abbrev pub after_exports : Held
  after_exports = puts put_export after_globals v.exports

  abbrev pub after_start : Held
  after_start = puts (λ h x. h) after_exports (option_to_list v.start)

  abbrev pub after_elements : Held
  after_elements = puts put_element after_start v.elements

  abbrev pub after_count : Held
  after_count = puts put_count after_elements (option_to_list v.data_count)

  abbrev pub after_codes : Held
  after_codes = puts put_code after_count v.codes

  abbrev pub at_end : Held
  at_end = puts put_data after_codes v.segments

  -- from the exports on the spaces stay, but for the numbers of bodies and of element segments
  abbrev pub Full : Held → Type 0
  Full h = record h.spaces { bodies = 0; elements = 0 } ≡ all_spaces

  full_exports : Full after_exports
  full_exports = puts_keep put_export Full (λ h x i. i) v.exports after_globals refl

  full_start : Full after_start
  full_start = puts_keep (λ h x. h) Full (λ h x i. i) (option_to_list v.start) after_exports full_exports

  abbrev Stays : Held → Type 0
  Stays h = h.spaces ≡ all_spaces

  spaces_before_elements : Stays after_start
  spaces_before_elements =
      puts_keep (λ h x. h) Stays (λ h x i. i) (option_to_list v.start) after_exports
      (puts_keep put_export Stays (λ h x i. i) v.exports after_globals refl)

  -- each element segment is counted
  abbrev WithElements : ℕ → IndexSpaces
  WithElements n = record all_spaces { elements = n }

  elements_counted : (es : List FlatElement) (h : Held) (n : ℕ) → h.spaces ≡ WithElements n → (puts put_element h es).spaces ≡ WithElements (n + length es)
  elements_counted [] h n e = let q : n ≡ n + 0 = omega arith in e ∙ ap WithElements q
  elements_counted (x ∷ es) h n e =
      let q : (n + 1) + length es ≡ n + length (x ∷ es) = omega arith in
      elements_counted es (put_element h x) (n + 1) (counted_put h x.table ∙ ap element_counted e) ∙ ap WithElements q

  spaces_before_count : after_elements.spaces ≡ WithElements (length v.elements)
  spaces_before_count = let q : 0 + length v.elements ≡ length v.elements = omega arith in elements_counted v.elements after_start 0 spaces_before_elements ∙ ap WithElements q

  -- the data count section gives the number of data segments
  abbrev counted_spaces : IndexSpaces
  counted_spaces = record all_spaces { elements = length v.elements; segments = given v.data_count }

  spaces_before_code : after_count.spaces ≡ counted_spaces
  spaces_before_code = go v.data_count
    where
      go : (x : Option ℕ) → (puts put_count after_elements (option_to_list x)).spaces ≡ record all_spaces { elements = length v.elements; segments = given x }
      go None = spaces_before_count
      go (Some n) = ap (λ (s : IndexSpaces). record s { segments = n }) spaces_before_count

  -- from there on they stay, but for the number of bodies
  abbrev FullCounted : Held → Type 0
  FullCounted h = record h.spaces { bodies = 0 } ≡ counted_spaces

  full_codes : FullCounted after_codes
  full_codes = puts_keep put_code FullCounted (λ h x i. i) v.codes after_count (ap (λ (s : IndexSpaces). record s { bodies = 0 }) spaces_before_code)

  abbrev Types : Held → Type 0
  Types h = h.spaces.types ≡ v.types

  types_iff : GoodAll GoodSig put_sig empty_checker v.types ↔ AllByRecursion (λ s. length s.results ≤ 1) v.types
  types_iff = (
    all_to GoodSig put_sig (λ s. length s.results ≤ 1) (λ h. Unit {0}) (λ h x i. tt) (λ h x i. ((λ g. g), (λ g. g))) v.types empty_checker tt,
    all_from GoodSig put_sig (λ s. length s.results ≤ 1) (λ h. Unit {0}) (λ h x i. tt) (λ h x i. ((λ g. g), (λ g. g))) v.types empty_checker tt,
  )

  functions_iff : GoodAll GoodFunction put_function after_imported v.functions ↔ AllByRecursion (λ x. x < length v.types) v.functions
  functions_iff = (
    all_to GoodFunction put_function (λ x. x < length v.types) Types (λ h x i. i) same v.functions after_imported refl,
    all_from GoodFunction put_function (λ x. x < length v.types) Types (λ h x i. i) same v.functions after_imported refl,
  )
    where
      same : (h : Held) (x : ℕ) → h.spaces.types ≡ v.types → GoodFunction h x ↔ (x < length v.types)
      same h x i = ((λ g. subst (λ z. x < length z) i g), (λ g. subst (λ z. x < length z) (sym i) g))

  -- an initialiser sees what was imported
  abbrev Sees : Held → Type 0
  Sees h = (take h.spaces.imported_globals h.spaces.globals ≡ filter_map imported_global v.imports) × (h.spaces.imported_globals ≤ length h.spaces.globals)

  sees_more : (h : Held) (t : GlobalType) → Sees h → take h.spaces.imported_globals (h.spaces.globals ++ t ∷ []) ≡ filter_map imported_global v.imports
  sees_more h t i = take-append-le h.spaces.imported_globals h.spaces.globals (t ∷ []) i.1 ∙ i.0

  sees_keeps : (h : Held) (g : FlatGlobal) → Sees h → Sees (put_global h g)
  sees_keeps h g i = (sees_more h g.ty i, omega (arith, i.1, length-append h.spaces.globals (g.ty ∷ [])))

  sees_same : (h : Held) (g : FlatGlobal) → Sees h → GoodGlobal h g ↔ IsTypedConst (filter_map imported_global v.imports) g.init g.ty.ty
  sees_same h g i = (
    (λ d. (d.0, d.1, subst (λ z. TypedConst z d.0 g.ty.ty) (sees_more h g.ty i) d.2)),
    (λ d. (d.0, d.1, subst (λ z. TypedConst z d.0 g.ty.ty) (sym (sees_more h g.ty i)) d.2)),
  )

  sees_first : Sees before_globals
  sees_first = let e : 0 + length (filter_map imported_global v.imports) ≡ length (filter_map imported_global v.imports) = omega arith in
      (ap (λ n. take n (filter_map imported_global v.imports)) e ∙ take_all (filter_map imported_global v.imports), omega arith)

  globals_iff : GoodAll GoodGlobal put_global before_globals v.globals ↔ AllByRecursion (λ g. IsTypedConst (filter_map imported_global v.imports) g.init g.ty.ty) v.globals
  globals_iff = (
    all_to GoodGlobal put_global (λ g. IsTypedConst (filter_map imported_global v.imports) g.init g.ty.ty) Sees sees_keeps sees_same v.globals before_globals sees_first,
    all_from GoodGlobal put_global (λ g. IsTypedConst (filter_map imported_global v.imports) g.init g.ty.ty) Sees sees_keeps sees_same v.globals before_globals sees_first,
  )

  -- exports
  items_same : length (flat_tables v) ≤ 1 → length (flat_memories v) ≤ 1 → (k : ExportKind) → items_in k all_spaces ≡ flat_items v k
  items_same t m kind.Func = refl
  items_same t m kind.Table = some_count (flat_tables v) t
  items_same t m kind.Memory = some_count (flat_memories v) m
  items_same t m kind.Global = refl

  index_same : (h : Held) → Full h → length (flat_tables v) ≤ 1 → length (flat_memories v) ≤ 1 → (k : ExportKind) → items_in k h.spaces ≡ flat_items v k
  index_same h i t m k = spaces k h.spaces ∙ (ap (items_in k) i ∙ items_same t m k)
    where
      spaces : (k : ExportKind) (s : IndexSpaces) → items_in k s ≡ items_in k (record s { bodies = 0; elements = 0 })
      spaces kind.Func s = refl
      spaces kind.Table s = refl
      spaces kind.Memory s = refl
      spaces kind.Global s = refl

  exports_to : length (flat_tables v) ≤ 1 → length (flat_memories v) ≤ 1 → (es : List Export) (h : Held) → Full h → GoodAll GoodExport put_export h es
      → AllByRecursion (λ e. e.index < flat_items v e.kind) es × New h.names (map (λ e. e.name) es)
  exports_to t m [] h i g = (tt, tt)
  exports_to t m (e ∷ es) h i g =
      let r = exports_to t m es (put_export h e) i g.1 in
      ((subst (λ n. e.index < n) (index_same h i t m e.kind) g.0.1, r.0), (g.0.0, r.1))

  exports_from : length (flat_tables v) ≤ 1 → length (flat_memories v) ≤ 1 → (es : List Export) (h : Held) → Full h → AllByRecursion (λ e. e.index < flat_items v e.kind) es
      → New h.names (map (λ e. e.name) es) → GoodAll GoodExport put_export h es
  exports_from t m [] h i a n = tt
  exports_from t m (e ∷ es) h i a n =
      ((n.0, subst (λ z. e.index < z) (sym (index_same h i t m e.kind)) a.0), exports_from t m es (put_export h e) i a.1 n.1)

  -- the start function
  start_iff : GoodAll GoodStart (λ h x. h) after_exports (option_to_list v.start) ↔ IfSome v.start (λ x. function_type (flat_context v) x ≡ Some no_type)
  start_iff = go v.start
    where
      same : (x : ℕ) → GoodStart after_exports x ↔ (function_type (flat_context v) x ≡ Some no_type)
      same x = (
        (λ g. subst (λ s. function_type (context_of s) x ≡ Some no_type) full_exports g),
        (λ g. subst (λ s. function_type (context_of s) x ≡ Some no_type) (sym full_exports) g),
      )

      go : (o : Option ℕ) → GoodAll GoodStart (λ h x. h) after_exports (option_to_list o) ↔ IfSome o (λ x. function_type (flat_context v) x ≡ Some no_type)
      go None = ((λ g. tt), (λ g. tt))
      go (Some x) = ((λ g. (same x).0 g.0), (λ g. ((same x).1 g, tt)))

  -- segments
  abbrev GoodElementIn : IndexSpaces → FlatElement → Type 0
  GoodElementIn s e = IsGoodMode (one_if s.has_table) (take (length s.globals) s.globals) e.table e.offset × AllByRecursion (λ x. x < length s.functions) e.functions

  abbrev GoodFlatElement : FlatElement → Type 0
  GoodFlatElement e = IsGoodMode (length (flat_tables v)) (flat_globals v) e.table e.offset × AllByRecursion (λ x. x < length (flat_functions v)) e.functions

  -- a mode in the words of the spaces and in those of the flat value, for `n` tables or memories
  mode_to : (k n : ℕ) (x : Option ℕ) (ops : List Op) → k ≡ n → IsGoodMode k (take (length (flat_globals v)) (flat_globals v)) x ops → IsGoodMode n (flat_globals v) x ops
  mode_to k n x ops e g = subst (λ z. IsGoodMode n z x ops) (take_all (flat_globals v)) (subst (λ z. IsGoodMode z (take (length (flat_globals v)) (flat_globals v)) x ops) e g)

  mode_from : (k n : ℕ) (x : Option ℕ) (ops : List Op) → k ≡ n → IsGoodMode n (flat_globals v) x ops → IsGoodMode k (take (length (flat_globals v)) (flat_globals v)) x ops
  mode_from k n x ops e g = subst (λ z. IsGoodMode z (take (length (flat_globals v)) (flat_globals v)) x ops) (sym e) (subst (λ z. IsGoodMode n z x ops) (sym (take_all (flat_globals v))) g)

  element_same : length (flat_tables v) ≤ 1 → (h : Held) (e : FlatElement) → Full h → GoodElement h e ↔ GoodFlatElement e
  element_same t h e i = (
    (λ g. let d : GoodElementIn all_spaces e = subst (λ s. GoodElementIn s e) i g in
        (mode_to (one_if (is_some_item (flat_tables v))) (length (flat_tables v)) e.table e.offset (some_count (flat_tables v) t) d.0, d.1)),
    (λ g. let d : GoodElementIn all_spaces e = (mode_from (one_if (is_some_item (flat_tables v))) (length (flat_tables v)) e.table e.offset (some_count (flat_tables v) t) g.0, g.1) in
        subst (λ s. GoodElementIn s e) (sym i) d),
  )

  elements_iff : length (flat_tables v) ≤ 1 → GoodAll GoodElement put_element after_start v.elements ↔ AllByRecursion GoodFlatElement v.elements
  elements_iff t = (
    all_to GoodElement put_element GoodFlatElement Full (element_keeps Full (λ h i. i) (λ h i. i)) (element_same t) v.elements after_start full_start,
    all_from GoodElement put_element GoodFlatElement Full (element_keeps Full (λ h i. i) (λ h i. i)) (element_same t) v.elements after_start full_start,
  )

  abbrev GoodSegmentIn : IndexSpaces → FlatSegment → Type 0
  GoodSegmentIn s e = IsGoodMode (one_if s.has_memory) (take (length s.globals) s.globals) e.memory e.offset

  abbrev GoodFlatSegment : FlatSegment → Type 0
  GoodFlatSegment s = IsGoodMode (length (flat_memories v)) (flat_globals v) s.memory s.offset

  segment_same : length (flat_memories v) ≤ 1 → (h : Held) (e : FlatSegment) → FullCounted h → GoodSegment h e ↔ GoodFlatSegment e
  segment_same m h e i = (
    (λ g. let d : GoodSegmentIn all_spaces e = subst (λ s. GoodSegmentIn s e) i g in
        mode_to (one_if (is_some_item (flat_memories v))) (length (flat_memories v)) e.memory e.offset (some_count (flat_memories v) m) d),
    (λ g. let d : GoodSegmentIn all_spaces e = mode_from (one_if (is_some_item (flat_memories v))) (length (flat_memories v)) e.memory e.offset (some_count (flat_memories v) m) g in
        subst (λ s. GoodSegmentIn s e) (sym i) d),
  )

  segments_iff : length (flat_memories v) ≤ 1 → GoodAll GoodSegment put_data after_codes v.segments ↔ AllByRecursion GoodFlatSegment v.segments
  segments_iff m = (
    all_to GoodSegment put_data GoodFlatSegment FullCounted (data_keeps FullCounted (λ h i. i)) (segment_same m) v.segments after_codes full_codes,
    all_from GoodSegment put_data GoodFlatSegment FullCounted (data_keeps FullCounted (λ h i. i)) (segment_same m) v.segments after_codes full_codes,
  )

  -- the code entries are those of the functions, one by one
  abbrev With : ℕ → IndexSpaces
  With n = record counted_spaces { bodies = n }

  codes_to : (cs : List FlatCode) (before xs : List ℕ) (h : Held) (n : ℕ) → h.spaces ≡ With n → flat_functions v ≡ before ++ xs → length before ≡ all_spaces.imported_functions + n → length xs ≡ length cs
      → GoodAll CodeOf put_code h cs → AllZip (TypedCode (flat_context v)) xs cs
  codes_to [] before [] h n e f l p g = tt
  codes_to [] before (x ∷ xs) h n e f l p g = absurd (omega (arith, p))
  codes_to (c ∷ cs) before [] h n e f l p g = absurd (omega (arith, p))
  codes_to (c ∷ cs) before (x ∷ xs) h n e f l p g =
      let d = g.0 in
      let at : next_type (With n) ≡ Some x = ap (λ i. slice_get (flat_functions v) i) (sym l) ∙ (ap (λ z. slice_get z (length before)) f ∙ seam before x xs) in
      let found : next_type (With n) ≡ Some d.index = sym (ap next_type e) ∙ d.has_index in
      let index : d.index ≡ x = (let q : Some d.index ≡ Some x = sym found ∙ at in cc) in
      let typed : IsTypedBody (body_context (flat_context v) d.index (locals_of c.runs)) c.ops = subst (λ s. IsTypedBody (body_context (context_of s) d.index (locals_of c.runs)) c.ops) e d.typed in (
        record { few = d.few; typed = subst (λ i. IsTypedBody (body_context (flat_context v) i (locals_of c.runs)) c.ops) index typed },
        codes_to cs (before ++ x ∷ []) xs (put_code h c) (n + 1) (ap more_bodies e) (f ∙ sym (append_assoc before (x ∷ []) xs)) (omega (arith, l, length-append before (x ∷ []))) (omega (arith, p)) g.1,
      )

  codes_from : (cs : List FlatCode) (before xs : List ℕ) (h : Held) (n : ℕ) → h.spaces ≡ With n → flat_functions v ≡ before ++ xs → length before ≡ all_spaces.imported_functions + n
      → AllZip (TypedCode (flat_context v)) xs cs → GoodAll CodeOf put_code h cs
  codes_from [] before xs h n e f l g = tt
  codes_from (c ∷ cs) before [] h n e f l g = absurd g
  codes_from (c ∷ cs) before (x ∷ xs) h n e f l g =
      let at : next_type (With n) ≡ Some x = ap (λ i. slice_get (flat_functions v) i) (sym l) ∙ (ap (λ z. slice_get z (length before)) f ∙ seam before x xs) in (
        record { index = x; has_index = ap next_type e ∙ at; few = g.0.few; typed = subst (λ s. IsTypedBody (body_context (context_of s) x (locals_of c.runs)) c.ops) (sym e) g.0.typed },
        codes_from cs (before ++ x ∷ []) xs (put_code h c) (n + 1) (ap more_bodies e) (f ∙ sym (append_assoc before (x ∷ []) xs)) (omega (arith, l, length-append before (x ∷ []))) g.1,
      )

  counted_codes : (cs : List FlatCode) (h : Held) (n : ℕ) → h.spaces.bodies ≡ n → (puts put_code h cs).spaces.bodies ≡ n + length cs
  counted_codes [] h n e = omega (arith, e)
  counted_codes (c ∷ cs) h n e = let r = counted_codes cs (put_code h c) (n + 1) (omega (arith, e)) in omega (arith, r)

  -- each code entry is counted
  pub bodies_at_end : at_end.spaces.bodies ≡ length v.codes
  bodies_at_end = puts_keep put_data (λ h. h.spaces.bodies ≡ length v.codes) (data_keeps (λ h. h.spaces.bodies ≡ length v.codes) (λ h i. i)) v.segments after_codes
      (let e = counted_codes v.codes after_count 0 (ap (λ s. s.bodies) spaces_before_code) in omega (arith, e))

  counted : length (filter_map imported_function v.imports) ≡ all_spaces.imported_functions + 0
  counted = omega arith

  -- the greatest controls so far, and those of these functions' bodies
  codes_controls : (fs : List Function) (cs : List FlatCode) (h : Held) → OneResults h → GoodAll CodeOf put_code h cs → AllZip IsCodeOf fs cs
      → (puts put_code h cs).most.controls ≡ max h.most.controls (deepest_nesting fs)
  codes_controls [] [] h one g r = omega arith
  codes_controls [] (c ∷ cs) h one g r = absurd r
  codes_controls (f ∷ fs) [] h one g r = absurd r
  codes_controls (f ∷ fs) (c ∷ cs) h one g r = omega (arith, codes_controls fs cs (put_code h c) one g.1 r.1, code_controls h f c one g.0 r.0)

  no_stats_before_code : after_count.most ≡ no_stats
  no_stats_before_code =
      puts_keep put_count (λ h. h.most ≡ no_stats) (λ h x i. i) (option_to_list v.data_count) after_elements
      (puts_keep put_element (λ h. h.most ≡ no_stats) (element_keeps (λ h. h.most ≡ no_stats) (λ h i. i) (λ h i. i)) v.elements after_start
      (puts_keep (λ h x. h) (λ h. h.most ≡ no_stats) (λ h x i. i) (option_to_list v.start) after_exports
      (puts_keep put_export (λ h. h.most ≡ no_stats) (λ h x i. i) v.exports after_globals refl)))

  -- the greatest controls are those of the deepest body
  pub controls_at_end : (fs : List Function) → IsGood v → AllZip IsCodeOf fs v.codes → at_end.most.controls ≡ deepest_nesting fs
  controls_at_end fs d r =
      let one : OneResults after_count = subst (λ s. AllByRecursion (λ f. length f.results ≤ 1) s.types) (sym spaces_before_code) d.types in
      let g = codes_from v.codes (filter_map imported_function v.imports) v.functions after_count 0 spaces_before_code refl counted d.codes in
      let e = codes_controls fs v.codes after_count one g r in
      let n : after_count.most.controls ≡ 0 = ap (λ s. s.controls) no_stats_before_code in
      puts_keep put_data (λ h. h.most.controls ≡ deepest_nesting fs) (data_keeps (λ h. h.most.controls ≡ deepest_nesting fs) (λ h i. i)) v.segments after_codes (omega (arith, e, n))

  -- without code entries there are no figures
  pub nothing_at_end : v.codes ≡ [] → at_end.most ≡ no_stats
  nothing_at_end e =
      puts_keep put_data (λ h. h.most ≡ no_stats) (data_keeps (λ h. h.most ≡ no_stats) (λ h i. i)) v.segments after_codes
      (ap (λ cs. (puts put_code after_count cs).most) e ∙ no_stats_before_code)

  -- what a code entry is asked for before its items
  codes_asked : AllByRecursion (λ s. length s.results ≤ 1) v.types → AllByRecursion (λ c. IsExpression c.ops) v.codes → GoodAll IsCode put_code after_count v.codes
  codes_asked one q = all_from IsCode put_code (λ c. IsExpression c.ops) Types (λ h x i. i) same v.codes after_count (ap (λ s. s.types) spaces_before_code) q
    where
      same : (h : Held) (c : FlatCode) → h.spaces.types ≡ v.types → IsCode h c ↔ IsExpression c.ops
      same h c i = ((λ g. g.1), (λ g. (subst (λ ts. AllByRecursion (λ f. length f.results ≤ 1) ts) (sym i) one, g)))

  abbrev segments_left : List Item
  segments_left = flat_map segment_items v.segments

  abbrev codes_left : List Item
  codes_left = flat_map code_items v.codes ++ segments_left

  abbrev count_left : List Item
  count_left = flat_map count_part (option_to_list v.data_count) ++ codes_left

  abbrev elements_left : List Item
  elements_left = flat_map element_items v.elements ++ count_left

  abbrev start_left : List Item
  start_left = flat_map start_part (option_to_list v.start) ++ elements_left

  abbrev exports_left : List Item
  exports_left = flat_map export_items v.exports ++ start_left

  abbrev globals_left : List Item
  globals_left = flat_map global_items v.globals ++ exports_left

  abbrev memories_left : List Item
  memories_left = flat_map memory_part v.memories ++ globals_left

  abbrev tables_left : List Item
  tables_left = flat_map table_part v.tables ++ memories_left

  abbrev functions_left : List Item
  functions_left = flat_map function_part v.functions ++ tables_left

  abbrev imports_left : List Item
  imports_left = flat_map import_items v.imports ++ functions_left

  abbrev Takes : Held → List Item → Held → Type 0
  Takes h items g = all_taken after h items ≡ Ok g

  -- on from a state that is the same
  on : (h k : Held) (items : List Item) (g : Held) → h ≡ k → Takes h items g → Takes k items g
  on h k items g e t = subst (λ z. all_taken after z items ≡ Ok g) e t

  pub taken_good : (g : Held) → IsGrammatical v → all_taken after empty_checker (parts_by_member v) ≡ Ok g → IsGood v
  taken_good g q t =
      let a1 = seq_sound after type_items Any GoodSig put_sig sig_member v.types imports_left empty_checker g (any_all put_sig v.types empty_checker) t in
      let t1 = on (puts put_sig empty_checker v.types) after_types imports_left g (sigs v.types empty_checker) a1.1 in
      let a2 = seq_sound after import_items Any GoodImport put_import import_member v.imports functions_left after_types g (any_all put_import v.imports after_types) t1 in
      let t2 = on (puts put_import after_types v.imports) after_imported functions_left g (imports v.imports after_types) a2.1 in
      let a3 = seq_sound after function_part Any GoodFunction put_function function_member v.functions tables_left after_imported g (any_all put_function v.functions after_imported) t2 in
      let t3 = on (puts put_function after_imported v.functions) after_functions tables_left g (functions v.functions after_imported) a3.1 in
      let a4 = seq_sound after table_part Any GoodTable put_table table_member v.tables memories_left after_functions g (any_all put_table v.tables after_functions) t3 in
      let t4 = on (puts put_table after_functions v.tables) after_tables memories_left g (tables v.tables after_functions) a4.1 in
      let a5 = seq_sound after memory_part Any GoodMemory put_memory memory_member v.memories globals_left after_tables g (any_all put_memory v.memories after_tables) t4 in
      let t5 = on (puts put_memory after_tables v.memories) before_globals globals_left g (memories v.memories after_tables ∙ same_flags) a5.1 in
      let a6 = seq_sound after global_items (Expresses (λ g. g.init)) GoodGlobal put_global global_member v.globals exports_left before_globals g (expresses_all (λ g. g.init) put_global v.globals before_globals q.globals) t5 in
      let t6 = on (puts put_global before_globals v.globals) after_globals exports_left g (globals v.globals before_globals refl) a6.1 in
      let a7 = seq_sound after export_items Any GoodExport put_export export_member v.exports start_left after_globals g (any_all put_export v.exports after_globals) t6 in
      let a8 = seq_sound after start_part Any GoodStart (λ h x. h) start_member (option_to_list v.start) elements_left after_exports g (any_all (λ h x. h) (option_to_list v.start) after_exports) a7.1 in
      let a9 = seq_sound after element_items (HasOffset (λ e. e.table) (λ e. e.offset)) GoodElement put_element element_member v.elements count_left after_start g (offsets_all (λ e. e.table) (λ e. e.offset) put_element v.elements after_start q.elements) a8.1 in
      let b9 = seq_sound after count_part Any Any put_count count_member (option_to_list v.data_count) codes_left after_elements g (any_all put_count (option_to_list v.data_count) after_elements) a9.1 in
      let types = types_iff.0 a1.0 in
      let a10 = seq_sound after code_items IsCode CodeOf put_code code_member v.codes segments_left after_count g (codes_asked types q.codes) b9.1 in
      let t10 = ap (λ z. all_taken after after_codes z) (append-nil segments_left) ∙ a10.1 in
      let a11 = seq_sound after segment_items (HasOffset (λ s. s.memory) (λ s. s.offset)) GoodSegment put_data segment_member v.segments [] after_codes g (offsets_all (λ s. s.memory) (λ s. s.offset) put_data v.segments after_codes q.segments) t10 in
      let i = imports_to v.imports after_types a2.0 in
      let ts = tables_to v.tables after_functions a4.0 in
      let ms = memories_to v.memories after_tables a5.0 in
      let one_table = count_to (filter_map imported_table v.imports) v.tables i.tables ts.1 in
      let one_memory = count_to (filter_map imported_memory v.imports) v.memories i.memories ms.1 in
      let x = exports_to one_table one_memory v.exports after_globals refl a7.0 in
      record {
        types = types;
        imports = i.each;
        functions = functions_iff.0 a3.0;
        tables = ts.0;
        memories = ms.0;
        one_table = one_table;
        one_memory = one_memory;
        globals = globals_iff.0 a6.0;
        exports = x.0;
        names = (distinct_new (map (λ e. e.name) v.exports)).0 x.1;
        start = start_iff.0 a8.0;
        elements = (elements_iff one_table).0 a9.0;
        codes = codes_to v.codes (filter_map imported_function v.imports) v.functions after_count 0 spaces_before_code refl counted q.paired a10.0;
        segments = (segments_iff one_memory).0 a11.0;
      }

  pub good_taken : IsGrammatical v → IsGood v → all_taken after empty_checker (parts_by_member v) ≡ Ok at_end
  good_taken q d =
      let ts = count_from (filter_map imported_table v.imports) v.tables d.one_table in
      let ms = count_from (filter_map imported_memory v.imports) v.memories d.one_memory in
      let i : GoodImports after_types v.imports = record { each = d.imports; tables = ts.0; memories = ms.0 } in
      let t10 : Takes after_codes segments_left at_end = sym (ap (λ z. all_taken after after_codes z) (append-nil segments_left))
      ∙ seq_takes after segment_items (HasOffset (λ s. s.memory) (λ s. s.offset)) GoodSegment put_data segment_member v.segments [] after_codes at_end (offsets_all (λ s. s.memory) (λ s. s.offset) put_data v.segments after_codes q.segments) ((segments_iff d.one_memory).1 d.segments) refl in
      let u9 : Takes after_count codes_left at_end = seq_takes after code_items IsCode CodeOf put_code code_member v.codes segments_left after_count at_end (codes_asked d.types q.codes)
      (codes_from v.codes (filter_map imported_function v.imports) v.functions after_count 0 spaces_before_code refl counted d.codes) t10 in
      let t9 : Takes after_elements count_left at_end = seq_takes after count_part Any Any put_count count_member (option_to_list v.data_count) codes_left after_elements at_end
      (any_all put_count (option_to_list v.data_count) after_elements) (any_all put_count (option_to_list v.data_count) after_elements) u9 in
      let t8 : Takes after_start elements_left at_end = seq_takes after element_items (HasOffset (λ e. e.table) (λ e. e.offset)) GoodElement put_element element_member v.elements count_left after_start at_end (offsets_all (λ e. e.table) (λ e. e.offset) put_element v.elements after_start q.elements) ((elements_iff d.one_table).1 d.elements) t9 in
      let t7 : Takes after_exports start_left at_end = seq_takes after start_part Any GoodStart (λ h x. h) start_member (option_to_list v.start) elements_left after_exports at_end (any_all (λ h x. h) (option_to_list v.start) after_exports) (start_iff.1 d.start) t8 in
      let t6 : Takes after_globals exports_left at_end = seq_takes after export_items Any GoodExport put_export export_member v.exports start_left after_globals at_end (any_all put_export v.exports after_globals)
      (exports_from d.one_table d.one_memory v.exports after_globals refl d.exports ((distinct_new (map (λ e. e.name) v.exports)).1 d.names)) t7 in
      let t5 : Takes before_globals globals_left at_end = seq_takes after global_items (Expresses (λ g. g.init)) GoodGlobal put_global global_member v.globals exports_left before_globals at_end (expresses_all (λ g. g.init) put_global v.globals before_globals q.globals) (globals_iff.1 d.globals)
      (on after_globals (puts put_global before_globals v.globals) exports_left at_end (sym (globals v.globals before_globals refl)) t6) in
      let t4 : Takes after_tables memories_left at_end = seq_takes after memory_part Any GoodMemory put_memory memory_member v.memories globals_left after_tables at_end (any_all put_memory v.memories after_tables) (memories_from v.memories after_tables d.memories ms.1)
      (on before_globals (puts put_memory after_tables v.memories) globals_left at_end (sym (memories v.memories after_tables ∙ same_flags)) t5) in
      let t3 : Takes after_functions tables_left at_end = seq_takes after table_part Any GoodTable put_table table_member v.tables memories_left after_functions at_end (any_all put_table v.tables after_functions) (tables_from v.tables after_functions d.tables ts.1)
      (on after_tables (puts put_table after_functions v.tables) memories_left at_end (sym (tables v.tables after_functions)) t4) in
      let t2 : Takes after_imported functions_left at_end = seq_takes after function_part Any GoodFunction put_function function_member v.functions tables_left after_imported at_end (any_all put_function v.functions after_imported) (functions_iff.1 d.functions)
      (on after_functions (puts put_function after_imported v.functions) tables_left at_end (sym (functions v.functions after_imported)) t3) in
      let t1 : Takes after_types imports_left at_end = seq_takes after import_items Any GoodImport put_import import_member v.imports functions_left after_types at_end (any_all put_import v.imports after_types) (imports_from v.imports after_types i)
      (on after_imported (puts put_import after_types v.imports) functions_left at_end (sym (imports v.imports after_types)) t2) in
      seq_takes after type_items Any GoodSig put_sig sig_member v.types imports_left empty_checker at_end (any_all put_sig v.types empty_checker) (types_iff.1 d.types)
      (on after_types (puts put_sig empty_checker v.types) imports_left at_end (sym (sigs v.types empty_checker)) t1)
