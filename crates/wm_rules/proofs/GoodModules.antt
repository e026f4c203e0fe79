-- A flat value is good if and only if it is that of a valid module.
use Rattle.std.proofs.Common.{ℕ, ◌≡◌, ◌≤◌, ◌<◌, ◌^◌, List, [], ◌∷◌, ◌++◌, Option, Some, IfSome, length, refl, sym, ◌∙◌, ap, subst, map, slice_get, option_to_list, None}
use Rattle.wm_rules.proofs.GoodValues.{IsGoodMode}
use Rattle.wm_rules.specs.Validation.{ValidMode}
use Rattle.wm_machine.specs.Flat.{offset_ops}
use Rattle.wm_syntax.specs.Modules.{index_of}
use Rattle.wm_syntax.specs.declared.modules.SegmentMode.TheVariants.{Passive, Active}
use Rattle.wm_syntax.specs.declared.modules.SegmentMode.{SegmentMode}
use Rattle.std.specs.List.{AllByRecursion, filter_map, AllZip}
use Rattle.std.specs.Prelude.{IsFalse}
use Rattle.std.proofs.lemmas.List.{append_cancel_right}
use Rattle.std.proofs.lemmas.Slice.Zip.{AllZip-long}
use Rattle.std.proofs.lemmas.Option.{slice_get_within}
use Rattle.wm_syntax.specs.declared.types.GlobalType.{GlobalType}
use Rattle.wm_syntax.specs.declared.instructions.Op.{Op}
use Rattle.wm_syntax.specs.declared.instructions.Op.TheVariants as op
use Rattle.wm_syntax.specs.Instructions.{Instructions, HasOps}
use Rattle.wm_syntax.specs.Spelling.{Exactly, ◌▸◌}
use Rattle.wm_syntax.specs.Types.{Signature}
use Rattle.wm_syntax.specs.Modules.{Module, Function, GlobalDef, Element, Segment, bodies_name_segment, imported_function, imported_global, all_functions, all_globals, all_tables, all_memories}
use Rattle.wm_syntax.specs.declared.modules.ExportKind.{ExportKind}
use Rattle.wm_syntax.specs.declared.modules.ExportKind.TheVariants as kind
use Rattle.wm_syntax.proofs.Bodies.{same_instructions}
use Rattle.wm_typing.specs.TypedBodies.{HasBodyOps, IsTypedBody}
use Rattle.wm_typing.specs.Contexts.{body_context, context, result_in, result_of}
use Rattle.wm_typing.specs.Typing.{Context, Typed, function_type}
use Rattle.wm_syntax.specs.Modules.{locals_of}
use Rattle.wm_rules.specs.Validation.{TypedConst, Valid, is_some_item, items_of, module_context}
use Rattle.wm_machine.specs.Flat.{FlatModule, FlatGlobal, FlatElement, FlatCode, FlatSegment, IsFlatOf, IsIndexOf, IsCodeOf, IsGlobalOf, IsElementOf, IsSegmentOf}
use Rattle.wm_rules.proofs.GoodValues.{IsTypedConst, TypedCode, IsGood, flat_context, flat_functions, flat_globals, flat_tables, flat_memories, flat_items, given}
use Rattle.wm_rules.proofs.ItemMembers.{no_type}
use Rattle.wm_rules.proofs.SegmentNames.{TypedFunction, counting, functions_none, functions_recounted}
use Rattle.wm_rules.proofs.Pairwise.{all_get, one_item, pairs_from, pairs_to, some_at}

abbrev OneEach : Context → Type 0
OneEach c = AllByRecursion (λ f. length f.results ≤ 1) c.types

result_is : (c : Context) (x : ℕ) (sig : Signature) → OneEach c → slice_get c.types x ≡ Some sig → option_to_list (result_of c x) ≡ sig.results
result_is c x sig one has =
    ap (λ o. option_to_list (result_in o)) has ∙ one_item sig.results (all_get (λ f. length f.results ≤ 1) c.types one x sig has)

-- the ops of a body, said in two ways
body_to : (s : Instructions) (ops : List Op) → HasBodyOps s ops → (HasOps s ▸ Exactly (op.End ∷ [])) ops
body_to s ops h = (h.0, op.End ∷ [], h.2, h.1, refl)

body_from : (s : Instructions) (ops : List Op) → (HasOps s ▸ Exactly (op.End ∷ [])) ops → HasBodyOps s ops
body_from s ops h = (h.0, h.3, h.2 ∙ ap (λ z. h.0 ++ z) h.4)

-- a body has no other tree
typed_body : (c : Context) (x : ℕ) (f : Function) (sig : Signature) (ops : List Op) → OneEach c → slice_get c.types x ≡ Some sig → HasBodyOps f.body ops
    → Typed (body_context c x f.locals) f.body [] sig.results → IsTypedBody (body_context c x f.locals) ops
typed_body c x f sig ops one has flat t = record {
  body = f.body;
  flat = flat;
  only = λ other k. same_instructions other f.body k.0 k.1 (subst (λ z. HasOps f.body z) (last_same flat.0 k.0 (sym flat.2 ∙ k.2)) flat.1);
  typed = subst (λ ts. Typed (body_context c x f.locals) f.body [] ts) (sym (result_is c x sig one has)) t;
}
  where
    last_same : (a b : List Op) → a ++ op.End ∷ [] ≡ b ++ op.End ∷ [] → a ≡ b
    last_same a b e = append_cancel_right a b (op.End ∷ []) e

indices : (fs : List Function) (xs : List ℕ) → AllZip IsIndexOf fs xs → map (λ f. f.type_index) fs ≡ xs
indices [] [] r = refl
indices [] (x ∷ xs) r = absurd r
indices (f ∷ fs) [] r = absurd r
indices (f ∷ fs) (x ∷ xs) r = cc (sym r.0, indices fs xs r.1)

global_types : (ds : List GlobalDef) (gs : List FlatGlobal) → AllZip IsGlobalOf ds gs → map (λ d. d.ty) ds ≡ map (λ g. g.ty) gs
global_types [] [] r = refl
global_types [] (g ∷ gs) r = absurd r
global_types (d ∷ ds) [] r = absurd r
global_types (d ∷ ds) (g ∷ gs) r = cc (sym r.0.0, global_types ds gs r.1)

-- from flat members to members
functions_made : (c : Context) → OneEach c → (xs : List ℕ) (cs : List FlatCode) → AllByRecursion (λ x. x < length c.types) xs → AllZip (TypedCode c) xs cs
    → (fs : List Function) × AllZip IsIndexOf fs xs × AllZip IsCodeOf fs cs × AllByRecursion (TypedFunction c) fs
functions_made c one [] [] l h = ([], tt, tt, tt)
functions_made c one [] (k ∷ cs) l h = absurd h
functions_made c one (x ∷ xs) [] l h = absurd h
functions_made c one (x ∷ xs) (k ∷ cs) l h =
    let r = functions_made c one xs cs l.1 h.1 in
    let d = h.0 in
    let s = some_at c.types x l.0 in
    let typed : Typed (body_context c x (locals_of k.runs)) d.typed.body [] s.0.results =
    subst (λ ts. Typed (body_context c x (locals_of k.runs)) d.typed.body [] ts) (result_is c x s.0 one s.1) d.typed.typed in
    (record { type_index = x; locals = locals_of k.runs; body = d.typed.body } ∷ r.0, (refl, r.1), ((refl, d.few, body_to d.typed.body k.ops d.typed.flat), r.2), ((s.0, s.1, typed), r.3))

globals_made : (seen : List GlobalType) (gs : List FlatGlobal) → AllByRecursion (λ g. IsTypedConst seen g.init g.ty.ty) gs
    → (ds : List GlobalDef) × AllZip IsGlobalOf ds gs × AllByRecursion (λ d. TypedConst seen d.init d.ty.ty) ds
globals_made seen [] h = ([], tt, tt)
globals_made seen (g ∷ gs) h = let r = globals_made seen gs h.1 in
    (record { ty = g.ty; init = h.0.0 } ∷ r.0, ((refl, h.0.1), r.1), (h.0.2, r.2))

-- the mode of a segment with this index and these ops of an offset
mode_made : (m : ℕ) (seen : List GlobalType) (x : Option ℕ) (ops : List Op) → IsGoodMode m seen x ops → (d : SegmentMode) × (x ≡ index_of d) × (ops ≡ offset_ops d) × ValidMode m seen d
mode_made m seen None ops h = (Passive, refl, h, tt)
mode_made m seen (Some x) ops h = (Active x h.1.0, refl, h.1.1, (h.0, h.1.2))

mode_back : (m : ℕ) (seen : List GlobalType) (d : SegmentMode) (x : Option ℕ) (ops : List Op) → x ≡ index_of d → ops ≡ offset_ops d → ValidMode m seen d → IsGoodMode m seen x ops
mode_back m seen Passive x ops e o h = subst (λ y. IsGoodMode m seen y ops) (sym e) o
mode_back m seen (Active y c) x ops e o h = subst (λ y. IsGoodMode m seen y ops) (sym e) (h.0, (c, o, h.1))

abbrev GoodElement : ℕ → List GlobalType → ℕ → FlatElement → Type 0
GoodElement t seen n e = IsGoodMode t seen e.table e.offset × AllByRecursion (λ x. x < n) e.functions

abbrev ElementIn : ℕ → List GlobalType → ℕ → Element → Type 0
ElementIn t seen n e = ValidMode t seen e.mode × AllByRecursion (λ x. x < n) e.functions

elements_made : (t : ℕ) (seen : List GlobalType) (n : ℕ) (es : List FlatElement) → AllByRecursion (GoodElement t seen n) es
    → (ds : List Element) × AllZip IsElementOf ds es × AllByRecursion (ElementIn t seen n) ds
elements_made t seen n [] h = ([], tt, tt)
elements_made t seen n (e ∷ es) h =
    let r = elements_made t seen n es h.1 in
    let d = mode_made t seen e.table e.offset h.0.0 in
    (record { mode = d.0; functions = e.functions } ∷ r.0, ((d.1, d.2, refl), r.1), ((d.3, h.0.1), r.2))

abbrev GoodSegment : ℕ → List GlobalType → FlatSegment → Type 0
GoodSegment m seen s = IsGoodMode m seen s.memory s.offset

abbrev SegmentIn : ℕ → List GlobalType → Segment → Type 0
SegmentIn m seen s = ValidMode m seen s.mode

segments_made : (m : ℕ) (seen : List GlobalType) (ss : List FlatSegment) → AllByRecursion (GoodSegment m seen) ss
    → (ds : List Segment) × AllZip IsSegmentOf ds ss × AllByRecursion (SegmentIn m seen) ds
segments_made m seen [] h = ([], tt, tt)
segments_made m seen (s ∷ ss) h =
    let r = segments_made m seen ss h.1 in
    let d = mode_made m seen s.memory s.offset h.0 in
    (record { mode = d.0; bytes = s.bytes } ∷ r.0, ((d.1, d.2, refl), r.1), (d.3, r.2))

-- from members to flat members
functions_back : (c : Context) → OneEach c → (fs : List Function) (xs : List ℕ) (cs : List FlatCode) → AllZip IsIndexOf fs xs → AllZip IsCodeOf fs cs → AllByRecursion (TypedFunction c) fs
    → AllZip (TypedCode c) xs cs × AllByRecursion (λ x. x < length c.types) xs
functions_back c one [] [] [] i r h = (tt, tt)
functions_back c one [] [] (k ∷ cs) i r h = absurd r
functions_back c one [] (x ∷ xs) cs i r h = absurd i
functions_back c one (f ∷ fs) [] cs i r h = absurd i
functions_back c one (f ∷ fs) (x ∷ xs) [] i r h = absurd r
functions_back c one (f ∷ fs) (x ∷ xs) (k ∷ cs) i r h =
    let v = functions_back c one fs xs cs i.1 r.1 h.1 in
    let d = h.0 in
    let has : slice_get c.types x ≡ Some d.0 = subst (λ z. slice_get c.types z ≡ Some d.0) (sym i.0) d.1 in
    let t : IsTypedBody (body_context c f.type_index f.locals) k.ops = typed_body c f.type_index f d.0 k.ops one d.1 (body_from f.body k.ops r.0.2) d.2 in
    let typed : IsTypedBody (body_context c x (locals_of k.runs)) k.ops =
    subst (λ z. IsTypedBody (body_context c x z) k.ops) (sym r.0.0) (subst (λ z. IsTypedBody (body_context c z f.locals) k.ops) (sym i.0) t) in
    ((record { few = subst (λ z. length z < 2 ^ 32) (sym r.0.0) r.0.1; typed = typed }, v.0), (slice_get_within c.types x d.0 has, v.1))

globals_back : (seen : List GlobalType) (ds : List GlobalDef) (gs : List FlatGlobal) → AllZip IsGlobalOf ds gs → AllByRecursion (λ d. TypedConst seen d.init d.ty.ty) ds
    → AllByRecursion (λ g. IsTypedConst seen g.init g.ty.ty) gs
globals_back seen [] [] r h = tt
globals_back seen [] (g ∷ gs) r h = absurd r
globals_back seen (d ∷ ds) [] r h = absurd r
globals_back seen (d ∷ ds) (g ∷ gs) r h = ((d.init, r.0.1, subst (λ z. TypedConst seen d.init z.ty) (sym r.0.0) h.0), globals_back seen ds gs r.1 h.1)

elements_back : (t : ℕ) (seen : List GlobalType) (n : ℕ) (ds : List Element) (es : List FlatElement) → AllZip IsElementOf ds es → AllByRecursion (ElementIn t seen n) ds → AllByRecursion (GoodElement t seen n) es
elements_back t seen n [] [] r h = tt
elements_back t seen n [] (e ∷ es) r h = absurd r
elements_back t seen n (d ∷ ds) [] r h = absurd r
elements_back t seen n (d ∷ ds) (e ∷ es) r h =
    ((mode_back t seen d.mode e.table e.offset r.0.0 r.0.1 h.0.0, subst (λ z. AllByRecursion (λ x. x < n) z) (sym r.0.2) h.0.1), elements_back t seen n ds es r.1 h.1)

segments_back : (m : ℕ) (seen : List GlobalType) (ds : List Segment) (ss : List FlatSegment) → AllZip IsSegmentOf ds ss → AllByRecursion (SegmentIn m seen) ds → AllByRecursion (GoodSegment m seen) ss
segments_back m seen [] [] r h = tt
segments_back m seen [] (s ∷ ss) r h = absurd r
segments_back m seen (d ∷ ds) [] r h = absurd r
segments_back m seen (d ∷ ds) (s ∷ ss) r h = (mode_back m seen d.mode s.memory s.offset r.0.0 r.0.1 h.0, segments_back m seen ds ss r.1 h.1)

all_weaker : {X : Type 0} (P Q : X → Type 0) → ((x : X) → P x → Q x) → (xs : List X) → AllByRecursion P xs → AllByRecursion Q xs
all_weaker P Q f [] h = tt
all_weaker P Q f (x ∷ xs) h = (f x h.0, all_weaker P Q f xs h.1)

-- where the index spaces of a module and of a flat value are the same
items_same : (m : Module) (v : FlatModule) → all_functions m ≡ flat_functions v → all_globals m ≡ flat_globals v → all_tables m ≡ flat_tables v → all_memories m ≡ flat_memories v
    → (k : ExportKind) → items_of m k ≡ flat_items v k
items_same m v f g t n kind.Func = ap length f
items_same m v f g t n kind.Table = ap length t
items_same m v f g t n kind.Memory = ap length n
items_same m v f g t n kind.Global = ap length g

abbrev context_with : FlatModule → List ℕ → List GlobalType → (elements : ℕ) → Context
context_with v f g n = context v.types f g (is_some_item (flat_tables v)) (is_some_item (flat_memories v)) n (given v.data_count)

-- A data count section gives the number of data segments (`Counts`). Without one, no body names a data segment.
abbrev Counts : Option ℕ → ℕ → Type 0
Counts x n = IfSome x (λ k. k ≡ n)

module _ (c : Context) (fs : List Function) (n : ℕ) where
  count_to : (x : Option ℕ) → Counts x n → AllByRecursion (TypedFunction (counting c (given x))) fs → AllByRecursion (TypedFunction (counting c n)) fs × (x ≡ None → IsFalse (bodies_name_segment fs))
  count_to None e h = let named = functions_none c fs h in (functions_recounted c 0 n fs named h, λ q. named)
  count_to (Some k) e h = (subst (λ y. AllByRecursion (TypedFunction (counting c y)) fs) e h, λ q. absurd (cc))

  count_from : (x : Option ℕ) → Counts x n → (x ≡ None → IsFalse (bodies_name_segment fs)) → AllByRecursion (TypedFunction (counting c n)) fs → AllByRecursion (TypedFunction (counting c (given x))) fs
  count_from None e named h = functions_recounted c n 0 fs (named refl) h
  count_from (Some k) e named h = subst (λ y. AllByRecursion (TypedFunction (counting c y)) fs) (sym e) h

-- a good flat value is that of a valid module
pub made : (v : FlatModule) → IfSome v.data_count (λ n. n ≡ length v.segments) → IsGood v → (m : Module) × IsFlatOf m v × Valid m
made v counts d =
    let fs = functions_made (flat_context v) d.types v.functions v.codes d.functions d.codes in
    let gs = globals_made (filter_map imported_global v.imports) v.globals d.globals in
    let es = elements_made (length (flat_tables v)) (flat_globals v) (length (flat_functions v)) v.elements d.elements in
    let ss = segments_made (length (flat_memories v)) (flat_globals v) v.segments d.segments in
    let m : Module = record {
      types = v.types;
      imports = v.imports;
      functions = fs.0;
      tables = v.tables;
      memories = v.memories;
      globals = gs.0;
      exports = v.exports;
      start = v.start;
      elements = es.0;
      segments = ss.0;
    } in
    let f : flat_functions v ≡ all_functions m = ap (λ z. filter_map imported_function v.imports ++ z) (sym (indices fs.0 v.functions fs.1)) in
    let g : flat_globals v ≡ all_globals m = ap (λ z. filter_map imported_global v.imports ++ z) (sym (global_types gs.0 v.globals gs.1)) in
    let elements_alike : length v.elements ≡ length es.0 = AllZip-long IsElementOf es.0 v.elements es.1 in
    let same : flat_context v ≡ counting (module_context m) (given v.data_count) =
    ap (λ z. context_with v z (flat_globals v) (length v.elements)) f ∙ (ap (λ z. context_with v (all_functions m) z (length v.elements)) g ∙ ap (context_with v (all_functions m) (all_globals m)) elements_alike) in
    let as_many : length v.segments ≡ length ss.0 = AllZip-long IsSegmentOf ss.0 v.segments ss.1 in
    let bodies = count_to (module_context m) fs.0 (length ss.0) v.data_count (subst (Counts v.data_count) as_many counts) (subst (λ c. AllByRecursion (TypedFunction c) fs.0) same fs.3) in (
      m,
      record {
        types = refl;
        imports = refl;
        functions = fs.1;
        tables = refl;
        memories = refl;
        globals = gs.1;
        exports = refl;
        start = refl;
        elements = es.1;
        codes = fs.2;
        segments = ss.1;
        count = bodies.1;
      },
      record {
        types = d.types;
        imports = d.imports;
        functions = bodies.0;
        tables = d.tables;
        memories = d.memories;
        globals = gs.2;
        exports = all_weaker (λ e. e.index < flat_items v e.kind) (λ e. e.index < items_of m e.kind) (λ e l. subst (λ n. e.index < n) (sym (items_same m v (sym f) (sym g) refl refl e.kind)) l) v.exports d.exports;
        names = pairs_from (map (λ e. e.name) v.exports) d.names;
        start = subst (λ c. IfSome v.start (λ x. function_type c x ≡ Some no_type)) same d.start;
        elements = subst (λ z. AllByRecursion (ElementIn (length (flat_tables v)) (all_globals m) (length z)) es.0) f (subst (λ z. AllByRecursion (ElementIn (length (flat_tables v)) z (length (flat_functions v))) es.0) g es.2);
        segments = subst (λ z. AllByRecursion (SegmentIn (length (flat_memories v)) z) ss.0) g ss.2;
        one_table = d.one_table;
        one_memory = d.one_memory;
      },
    )

-- the flat value of a module with these members
abbrev flat_with : Module → List ℕ → List FlatGlobal → List FlatElement → Option ℕ → List FlatCode → List FlatSegment → FlatModule
flat_with m xs gs es n cs ss = record {
  types = m.types;
  imports = m.imports;
  functions = xs;
  tables = m.tables;
  memories = m.memories;
  globals = gs;
  exports = m.exports;
  start = m.start;
  elements = es;
  data_count = n;
  codes = cs;
  segments = ss;
}

good : (m : Module) (xs : List ℕ) (gs : List FlatGlobal) (es : List FlatElement) (n : Option ℕ) (cs : List FlatCode) (ss : List FlatSegment)
    → AllZip IsIndexOf m.functions xs → AllZip IsGlobalOf m.globals gs → AllZip IsElementOf m.elements es → AllZip IsCodeOf m.functions cs → AllZip IsSegmentOf m.segments ss
    → Counts n (length m.segments) → (n ≡ None → IsFalse (bodies_name_segment m.functions)) → Valid m → IsGood (flat_with m xs gs es n cs ss)
good m xs gs es n cs ss i r e k s counts named h =
    let v = flat_with m xs gs es n cs ss in
    let f : all_functions m ≡ flat_functions v = ap (λ z. filter_map imported_function m.imports ++ z) (indices m.functions xs i) in
    let g : all_globals m ≡ flat_globals v = ap (λ z. filter_map imported_global m.imports ++ z) (global_types m.globals gs r) in
    let elements_alike : length m.elements ≡ length es = sym (AllZip-long IsElementOf m.elements es e) in
    let same : counting (module_context m) (given n) ≡ flat_context v =
    ap (λ z. context_with v z (all_globals m) (length m.elements)) f ∙ (ap (λ z. context_with v (flat_functions v) z (length m.elements)) g ∙ ap (context_with v (flat_functions v) (flat_globals v)) elements_alike) in
    let bodies = count_from (module_context m) m.functions (length m.segments) n counts named h.functions in
    let fs = functions_back (counting (module_context m) (given n)) h.types m.functions xs cs i k bodies in
    record {
      types = h.types;
      imports = h.imports;
      functions = fs.1;
      tables = h.tables;
      memories = h.memories;
      one_table = h.one_table;
      one_memory = h.one_memory;
      globals = globals_back (filter_map imported_global m.imports) m.globals gs r h.globals;
      exports = all_weaker (λ e. e.index < items_of m e.kind) (λ e. e.index < flat_items v e.kind) (λ e l. subst (λ n. e.index < n) (items_same m v f g refl refl e.kind) l) m.exports h.exports;
      names = pairs_to (map (λ e. e.name) m.exports) h.names;
      start = subst (λ c. IfSome m.start (λ x. function_type c x ≡ Some no_type)) same h.start;
      elements = elements_back (length (flat_tables v)) (flat_globals v) (length (flat_functions v)) m.elements es e
          (subst (λ z. AllByRecursion (ElementIn (length (flat_tables v)) (flat_globals v) (length z)) m.elements) f (subst (λ z. AllByRecursion (ElementIn (length (flat_tables v)) z (length (all_functions m))) m.elements) g h.elements));
      codes = subst (λ c. AllZip (TypedCode c) xs cs) same fs.0;
      segments = segments_back (length (flat_memories v)) (flat_globals v) m.segments ss s (subst (λ z. AllByRecursion (SegmentIn (length (flat_memories v)) z) m.segments) g h.segments);
    }

-- the flat value of a valid module is good
pub good_of : (m : Module) (v : FlatModule) → IsFlatOf m v → IfSome v.data_count (λ n. n ≡ length v.segments) → Valid m → IsGood v
good_of m v r counts h =
    let as_many : length v.segments ≡ length m.segments = AllZip-long IsSegmentOf m.segments v.segments r.segments in
    let d = good m v.functions v.globals v.elements v.data_count v.codes v.segments r.functions r.globals r.elements r.codes r.segments (subst (Counts v.data_count) as_many counts) r.count h in
    let same : flat_with m v.functions v.globals v.elements v.data_count v.codes v.segments ≡ v =
    ap (λ z. record v { types = z; imports = m.imports; tables = m.tables; memories = m.memories; exports = m.exports; start = m.start }) (sym r.types)
    ∙ (ap (λ z. record v { imports = z; tables = m.tables; memories = m.memories; exports = m.exports; start = m.start }) (sym r.imports)
    ∙ (ap (λ z. record v { tables = z; memories = m.memories; exports = m.exports; start = m.start }) (sym r.tables)
    ∙ (ap (λ z. record v { memories = z; exports = m.exports; start = m.start }) (sym r.memories)
    ∙ (ap (λ z. record v { exports = z; start = m.start }) (sym r.exports) ∙ ap (λ z. record v { start = z }) (sym r.start))))) in
    subst IsGood same d
