-- Bytes spell something under a profile if and only if they spell it under one with more features and the profile has
-- each item.
use Rattle.std.proofs.Common.{◌≡◌, ℕ, Option, None, Some, length, List, [], ◌∷◌, ◌++◌, map, flat_map, inl, inr, sym, subst, ◌∙◌}
use Rattle.std.specs.List.{AllByRecursion}
use Rattle.wm_syntax.specs.declared.types.ValType.{ValType}
use Rattle.wm_syntax.specs.declared.instructions.Op.{Op}
use Rattle.wm_syntax.specs.declared.modules.ImportDesc.{ImportDesc}
use Rattle.wm_syntax.specs.declared.modules.ImportDesc.TheVariants.{Global}
use Rattle.wm_syntax.specs.declared.profile.Profile.{Profile}
use Rattle.wm_syntax.specs.Profiles.{Extends, has, HasDesc, HasSignature, HasType, IsOpOf}
use Rattle.wm_syntax.specs.Spelling.{Form, Each, ◌▸◌}
use Rattle.wm_syntax.specs.Types.{Signature, SpellsLimits, SpellsSignature, SpellsTableType, SpellsU32}
use Rattle.wm_syntax.specs.Modules.{Import}
use Rattle.wm_syntax.proofs.ProfileLaws.{all_append, all_back, all_each, all_front, op_of_more, type_more}
use Rattle.wm_machine.specs.BetweenProfiles.{EncodeAlike, FrontsAlike, HasItem, ReadSegmentsAlike}
use Rattle.wm_machine.specs.Items.{Item, param, one_result, const_op, body_op, locals, element_function, data_byte, function, table, memory}
use Rattle.wm_machine.specs.Sections.{Customs, ListSection, SpellsExport, SpellsElements, SpellsImport, SpellsMemory, SpellsRun, StartSection, Those}
use Rattle.wm_machine.specs.Flat.{FlatCode, FlatDataCount, FlatElement, FlatGlobal, FlatModule, FlatSegment, HasImport, SpellsFlat, SpellsFlatCode, SpellsFlatElement, SpellsFlatGlobal, SpellsFlatOffset, SpellsFlatSegment, SpellsOps, element_head, segment_head, code_items, count_items, element_items, export_items, flat_items, global_items, import_items, segment_items, start_items, type_items}
use Rattle.wm_syntax.specs.Encodings.{SpellsOp}
use Rattle.wm_syntax.specs.declared.profile.Feature.TheVariants.{BulkMemory, LongIndex}
use Rattle.wm_syntax.proofs.SpelledMore.{op_spelled_more}
use Rattle.wm_machine.proofs.Nesting.{FrontAlike, each_more, elements_more, fronts_alike, memory_more, offset_in, passive_elements_need, passive_needs, section_kept, with_offset}

-- V is W with G beside it
module _ {X : Type 0} (G : X → Type 0) (V W : X → Form ℕ) where
  abbrev Parts : Type 0
  Parts = (x : X) (b : List ℕ) → V x b → W x b × G x

  abbrev Joins : Type 0
  Joins = (x : X) (b : List ℕ) → W x b → G x → V x b

  each_parts : Parts → (xs : List X) (b : List ℕ) → Each V xs b → Each W xs b × AllByRecursion G xs
  each_parts f [] b h = (h, tt)
  each_parts f (x ∷ xs) b h =
      let u = f x h.0 h.3 in
      let w = each_parts f xs h.1 h.4 in
      ((h.0, h.1, h.2, u.0, w.0), (u.1, w.1))

  each_joins : Joins → (xs : List X) (b : List ℕ) → Each W xs b → AllByRecursion G xs → Each V xs b
  each_joins f [] b h g = h
  each_joins f (x ∷ xs) b h g = (h.0, h.1, h.2, f x h.0 h.3 g.0, each_joins f xs h.1 h.4 g.1)

  list_parts : Parts → (id : ℕ) (xs : List X) (b : List ℕ) → ListSection id V xs b → ListSection id W xs b × AllByRecursion G xs
  list_parts f id xs b h = elim h [
    | inl s ↦ (
        let i = s.4 in
        let j = i.4 in
        let w = each_parts f xs j.1 j.4 in
        (inl (s.0, s.1, s.2, s.3, (i.0, i.1, i.2, i.3, (j.0, j.1, j.2, j.3, w.0))), w.1))
    | inr e ↦ (inr e, none xs e.0)
  ]
    where
      none : (ys : List X) → ys ≡ [] → AllByRecursion G ys
      none [] e = tt
      none (y ∷ ys) e = cc

  list_joins : Joins → (id : ℕ) (xs : List X) (b : List ℕ) → ListSection id W xs b → AllByRecursion G xs → ListSection id V xs b
  list_joins f id xs b h g = elim h [
    | inl s ↦ (
        let i = s.4 in
        let j = i.4 in
        inl (s.0, s.1, s.2, s.3, (i.0, i.1, i.2, i.3, (j.0, j.1, j.2, j.3, each_joins f xs j.1 j.4 g))))
    | inr e ↦ inr e
  ]

-- one section, with what comes before it and after it
next : {P Q S T : Form ℕ} {A B : Type 0} → ((b : List ℕ) → P b → Q b × A) → ((b : List ℕ) → S b → T b × B)
    → (b : List ℕ) → (Customs ▸ P ▸ S) b → (Customs ▸ Q ▸ T) b × (A × B)
next f g b h =
    let i = h.4 in
    let u = f i.0 i.3 in
    let w = g i.1 i.4 in
    ((h.0, h.1, h.2, h.3, (i.0, i.1, i.2, u.0, w.0)), (u.1, w.1))

same : (P : Form ℕ) (b : List ℕ) → P b → P b × Unit {0}
same P b h = (h, tt)

with_none : (P Q : Form ℕ) → ((b : List ℕ) → P b → Q b) → (b : List ℕ) → P b → Q b × Unit {0}
with_none P Q f b h = (f b h, tt)

-- the members that hold types or instructions
module _ (p : Profile) where
  abbrev OwnOps : List Op → Type 0
  OwnOps = AllByRecursion (IsOpOf p)

  abbrev OwnGlobal : FlatGlobal → Type 0
  OwnGlobal g = HasType p g.ty.ty × OwnOps g.init

  abbrev OwnElement : FlatElement → Type 0
  OwnElement e = HasItem p (element_head e.table) × OwnOps e.offset

  abbrev OwnCount : Option ℕ → Type 0
  OwnCount x = AllByRecursion (HasItem p) (count_items x)

  abbrev OwnCode : FlatCode → Type 0
  OwnCode c = AllByRecursion (λ r. HasType p r.1) c.runs × OwnOps c.ops

  abbrev OwnSegment : FlatSegment → Type 0
  OwnSegment s = HasItem p (segment_head s.memory) × OwnOps s.offset

  record Owns (v : FlatModule) : Type 0 where
    types : AllByRecursion (HasSignature p) v.types
    imports : AllByRecursion (HasImport p) v.imports
    globals : AllByRecursion OwnGlobal v.globals
    elements : AllByRecursion OwnElement v.elements
    count : OwnCount v.data_count
    codes : AllByRecursion OwnCode v.codes
    segments : AllByRecursion OwnSegment v.segments

-- of those for which H holds, K holds too
module _ {X : Type 0} (H K : X → Type 0) (V : X → Form ℕ) (more : (x : X) → H x → K x) where
  those_part : Parts H (Those H V) (Those K V)
  those_part x b h = ((more x h.0, h.1), h.0)

  those_join : Joins H (Those H V) (Those K V)
  those_join x b h g = (g, h.1)

-- the front of an element segment, and that of a data segment
head_own : (p : Profile) (table : Option ℕ) (P : Form ℕ) (xs b : List ℕ) → SpellsElements (has p BulkMemory) table P xs b → HasItem p (element_head table)
head_own p None P xs b h = passive_elements_need (has p BulkMemory) P xs b h
head_own p (Some x) P xs b h = tt

front_own : (p : Profile) (memory : Option ℕ) (b : List ℕ) → SpellsMemory (has p BulkMemory) memory b → HasItem p (segment_head memory)
front_own p None b h = passive_needs (has p BulkMemory) b h
front_own p (Some x) b h = tt

module _ (p q : Profile) (more : Extends q p) where
  ops_part : (ops : List Op) (b : List ℕ) → SpellsOps p ops b → SpellsOps q ops b × OwnOps p ops
  ops_part ops b h = ((h.0, all_each (IsOpOf p) (IsOpOf q) (op_of_more p q more) ops h.1, each_more (SpellsOp p) (SpellsOp q) (op_spelled_more p q (more LongIndex)) ops b h.2), h.1)

  signature_more : (f : Signature) → HasSignature p f → HasSignature q f
  signature_more f h =
      (all_each (HasType p) (HasType q) (type_more p q more) f.params h.0, all_each (HasType p) (HasType q) (type_more p q more) f.results h.1)

  desc_more : (d : ImportDesc) → HasDesc p d → HasDesc q d
  desc_more (Global g) h = type_more p q more g.ty h
  desc_more _ h = tt

  global_part : Parts (OwnGlobal p) (SpellsFlatGlobal p) (SpellsFlatGlobal q)
  global_part g b h =
      let o = ops_part g.init h.1 h.4 in
      ((h.0, h.1, h.2, (type_more p q more g.ty.ty h.3.0, h.3.1), o.0), (h.3.0, o.1))

  offset_part : (memory : Option ℕ) (ops : List Op) (b : List ℕ) → SpellsFlatOffset p memory ops b → SpellsFlatOffset q memory ops b × OwnOps p ops
  offset_part None ops b h = (h, subst (OwnOps p) (sym h.0) tt)
  offset_part (Some x) ops b h = ops_part ops b h

  element_own : Parts (OwnElement p) (SpellsFlatElement p) (SpellsFlatElement p)
  element_own e b h =
      let O : Form ℕ = SpellsFlatOffset p e.table e.offset in
      let o = offset_in (has p BulkMemory) e.table O e.functions b h in
      (h, (head_own p e.table O e.functions b h, (offset_part e.table e.offset o.0 o.1).1))

  element_kept : (e : FlatElement) (b : List ℕ) → FrontAlike p q e.table → SpellsFlatElement p e b → SpellsFlatElement q e b
  element_kept e b g h =
      let O : Form ℕ = SpellsFlatOffset p e.table e.offset in
      with_offset (has q BulkMemory) e.table O (SpellsFlatOffset q e.table e.offset) e.functions b (λ c k. (offset_part e.table e.offset c k).0)
      (elements_more (has p BulkMemory) (has q BulkMemory) e.table O e.functions b (more BulkMemory) g h)

  segment_own : Parts (OwnSegment p) (SpellsFlatSegment p) (SpellsFlatSegment p)
  segment_own s b h = let i = h.4 in (h, (front_own p s.memory h.0 h.3, (offset_part s.memory s.offset i.0 i.3).1))

  segment_kept : (s : FlatSegment) (b : List ℕ) → FrontAlike p q s.memory → SpellsFlatSegment p s b → SpellsFlatSegment q s b
  segment_kept s b g h = let i = h.4 in
      (h.0, h.1, h.2, memory_more (has p BulkMemory) (has q BulkMemory) s.memory h.0 (more BulkMemory) g h.3, (i.0, i.1, i.2, (offset_part s.memory s.offset i.0 i.3).0, i.4))

  run_part : Parts (λ r. HasType p r.1) (SpellsRun p) (SpellsRun q)
  run_part r b h = ((type_more p q more r.1 h.0, h.1), h.0)

  code_part : Parts (OwnCode p) (SpellsFlatCode p) (SpellsFlatCode q)
  code_part c b h =
      let i = h.4 in
      let l = i.3 in
      let r = each_parts (λ r. HasType p r.1) (SpellsRun p) (SpellsRun q) run_part c.runs l.1 l.4 in
      let o = ops_part c.ops i.1 i.4 in
      ((h.0, h.1, h.2, h.3, (i.0, i.1, i.2, (l.0, l.1, l.2, l.3, r.0), o.0)), (r.1, o.1))

  count_part : (n : ℕ) (x : Option ℕ) (b : List ℕ) → FlatDataCount p n x b → FlatDataCount q n x b × OwnCount p x
  count_part n None b h = (h, tt)
  count_part n (Some count) b h = ((more BulkMemory h.0, h.1, h.2), (h.0, tt))

  import_more : (i : Import) → HasImport p i → HasImport q i
  import_more i h = desc_more i.desc h

  module _ (v : FlatModule) where
    module_parts : (b : List ℕ) → FrontsAlike p q (map (λ e. e.table) v.elements) → FrontsAlike p q (map (λ s. s.memory) v.segments) → SpellsFlat p v b → SpellsFlat q v b × Owns p v
    module_parts b elements segments h =
        let chain =
        next (list_parts _ _ _ (those_part (HasSignature p) (HasSignature q) SpellsSignature signature_more) 1 v.types)
        (next (list_parts _ _ _ (those_part (HasImport p) (HasImport q) SpellsImport import_more) 2 v.imports)
        (next (same (ListSection 3 SpellsU32 v.functions))
        (next (same (ListSection 4 SpellsTableType v.tables))
        (next (same (ListSection 5 SpellsLimits v.memories))
        (next (list_parts (OwnGlobal p) (SpellsFlatGlobal p) (SpellsFlatGlobal q) global_part 6 v.globals)
        (next (same (ListSection 7 SpellsExport v.exports))
        (next (same (StartSection v.start))
        (next (λ d s. (section_kept (λ e. FrontAlike p q e.table) (SpellsFlatElement p) (SpellsFlatElement q) element_kept 9 v.elements d (fronts_alike p q (λ e. e.table) v.elements elements) s, (list_parts (OwnElement p) (SpellsFlatElement p) (SpellsFlatElement p) element_own 9 v.elements d s).1))
        (next (count_part (length v.segments) v.data_count)
        (next (list_parts (OwnCode p) (SpellsFlatCode p) (SpellsFlatCode q) code_part 10 v.codes)
        (next (λ d s. (section_kept (λ s. FrontAlike p q s.memory) (SpellsFlatSegment p) (SpellsFlatSegment q) segment_kept 11 v.segments d (fronts_alike p q (λ s. s.memory) v.segments segments) s, (list_parts (OwnSegment p) (SpellsFlatSegment p) (SpellsFlatSegment p) segment_own 11 v.segments d s).1))
        (same Customs)))))))))))) in
        let i = h.1 in
        let u = chain i.1 i.4 in
        let g3 = u.1.1.1 in
        let g6 = g3.1.1.1 in
        let g9 = g6.1.1.1 in
        ((h.0, (i.0, i.1, i.2, i.3, u.0)), record { types = u.1.0; imports = u.1.1.0; globals = g6.0; elements = g9.0; count = g9.1.0; codes = g9.1.1.0; segments = g9.1.1.1.0 })

  -- the same way back, if a table index has the same bytes under both
  module _ (alike : EncodeAlike p q) (fronts : ReadSegmentsAlike p q) where
    ops_join : (ops : List Op) (b : List ℕ) → SpellsOps q ops b → OwnOps p ops → SpellsOps p ops b
    ops_join ops b h g = (h.0, g, each_more (SpellsOp q) (SpellsOp p) (op_spelled_more q p (λ y. alike ∙ y)) ops b h.2)

    global_join : Joins (OwnGlobal p) (SpellsFlatGlobal p) (SpellsFlatGlobal q)
    global_join g b h a = (h.0, h.1, h.2, (a.0, h.3.1), ops_join g.init h.1 h.4 a.1)

    offset_join : (memory : Option ℕ) (ops : List Op) (b : List ℕ) → SpellsFlatOffset q memory ops b → OwnOps p ops → SpellsFlatOffset p memory ops b
    offset_join None ops b h g = h
    offset_join (Some x) ops b h g = ops_join ops b h g

    element_join : Joins (OwnElement p) (SpellsFlatElement p) (SpellsFlatElement q)
    element_join e b h a =
        let O : Form ℕ = SpellsFlatOffset q e.table e.offset in
        with_offset (has p BulkMemory) e.table O (SpellsFlatOffset p e.table e.offset) e.functions b (λ c k. offset_join e.table e.offset c k a.1) (subst (λ f. SpellsElements f e.table O e.functions b) (sym fronts) h)

    segment_join : Joins (OwnSegment p) (SpellsFlatSegment p) (SpellsFlatSegment q)
    segment_join s b h a = let i = h.4 in (h.0, h.1, h.2, subst (λ f. SpellsMemory f s.memory h.0) (sym fronts) h.3, (i.0, i.1, i.2, offset_join s.memory s.offset i.0 i.3 a.1, i.4))

    run_join : Joins (λ r. HasType p r.1) (SpellsRun p) (SpellsRun q)
    run_join r b h a = (a, h.1)

    count_join : (n : ℕ) (x : Option ℕ) (b : List ℕ) → FlatDataCount q n x b → OwnCount p x → FlatDataCount p n x b
    count_join n None b h a = h
    count_join n (Some count) b h a = (a.0, h.1, h.2)

    code_join : Joins (OwnCode p) (SpellsFlatCode p) (SpellsFlatCode q)
    code_join c b h a =
        let i = h.4 in
        let l = i.3 in
        (h.0, h.1, h.2, h.3, (i.0, i.1, i.2, (l.0, l.1, l.2, l.3, each_joins (λ r. HasType p r.1) (SpellsRun p) (SpellsRun q) run_join c.runs l.1 l.4 a.0), ops_join c.ops i.1 i.4 a.1))

    module_joins : (v : FlatModule) (b : List ℕ) → SpellsFlat q v b → Owns p v → SpellsFlat p v b
    module_joins v b h g =
        let chain =
        next (with_none _ _ (λ d s. list_joins _ _ _ (those_join (HasSignature p) (HasSignature q) SpellsSignature signature_more) 1 v.types d s g.types))
        (next (with_none _ _ (λ d s. list_joins _ _ _ (those_join (HasImport p) (HasImport q) SpellsImport import_more) 2 v.imports d s g.imports))
        (next (same (ListSection 3 SpellsU32 v.functions))
        (next (same (ListSection 4 SpellsTableType v.tables))
        (next (same (ListSection 5 SpellsLimits v.memories))
        (next (with_none _ _ (λ d s. list_joins (OwnGlobal p) (SpellsFlatGlobal p) (SpellsFlatGlobal q) global_join 6 v.globals d s g.globals))
        (next (same (ListSection 7 SpellsExport v.exports))
        (next (same (StartSection v.start))
        (next (with_none _ _ (λ d s. list_joins (OwnElement p) (SpellsFlatElement p) (SpellsFlatElement q) element_join 9 v.elements d s g.elements))
        (next (with_none _ _ (λ d s. count_join (length v.segments) v.data_count d s g.count))
        (next (with_none _ _ (λ d s. list_joins (OwnCode p) (SpellsFlatCode p) (SpellsFlatCode q) code_join 10 v.codes d s g.codes))
        (next (with_none _ _ (λ d s. list_joins (OwnSegment p) (SpellsFlatSegment p) (SpellsFlatSegment q) segment_join 11 v.segments d s g.segments))
        (same Customs)))))))))))) in
        let i = h.1 in
        (h.0, (i.0, i.1, i.2, i.3, (chain i.1 i.4).0))

-- and that is to say that each item is of the profile
module _ (p : Profile) where
  abbrev Own : List Item → Type 0
  Own = AllByRecursion (HasItem p)

  both_own : (xs ys : List Item) → Own xs → Own ys → Own (xs ++ ys)
  both_own xs ys h k = all_append (HasItem p) xs ys h k

  module _ {X : Type 0} (items : X → List Item) (G : X → Type 0) where
    many_own : ((x : X) → G x → Own (items x)) → (xs : List X) → AllByRecursion G xs → Own (flat_map items xs)
    many_own each [] h = tt
    many_own each (x ∷ xs) h = both_own (items x) (flat_map items xs) (each x h.0) (many_own each xs h.1)

    many_owned : ((x : X) → Own (items x) → G x) → (xs : List X) → Own (flat_map items xs) → AllByRecursion G xs
    many_owned each [] h = tt
    many_owned each (x ∷ xs) h =
        (each x (all_front (HasItem p) (items x) (flat_map items xs) h), many_owned each xs (all_back (HasItem p) (items x) (flat_map items xs) h))

  module _ {X : Type 0} (item : X → Item) where
    map_own : (xs : List X) → AllByRecursion (λ x. HasItem p (item x)) xs → Own (map item xs)
    map_own [] h = tt
    map_own (x ∷ xs) h = (h.0, map_own xs h.1)

    map_owned : (xs : List X) → Own (map item xs) → AllByRecursion (λ x. HasItem p (item x)) xs
    map_owned [] h = tt
    map_owned (x ∷ xs) h = (h.0, map_owned xs h.1)

    any_own : ((x : X) → HasItem p (item x)) → (xs : List X) → Own (map item xs)
    any_own each [] = tt
    any_own each (x ∷ xs) = (each x, any_own each xs)

  type_own : (f : Signature) → HasSignature p f → Own (type_items f)
  type_own f h = (tt, both_own (map param f.params) _ (map_own param f.params h.0) (tt, map_own one_result f.results h.1))

  type_owned : (f : Signature) → Own (type_items f) → HasSignature p f
  type_owned f h =
      (map_owned param f.params (all_front (HasItem p) (map param f.params) _ h.1), map_owned one_result f.results (all_back (HasItem p) (map param f.params) _ h.1).1)

  -- ops, and then items of every profile
  ops_own : {X : Type 0} (op_item : Op → Item) (item : X → Item) → ((o : Op) → IsOpOf p o → HasItem p (op_item o)) → ((x : X) → HasItem p (item x))
      → (ops : List Op) (xs : List X) → OwnOps p ops → Own (map op_item ops ++ map item xs)
  ops_own op_item item each any ops xs h =
      both_own (map op_item ops) (map item xs) (map_own op_item ops (all_each (IsOpOf p) (λ o. HasItem p (op_item o)) each ops h)) (any_own item any xs)

  const_owned : (ops : List Op) (rest : List Item) → Own (map const_op ops ++ rest) → OwnOps p ops
  const_owned ops rest h = map_owned const_op ops (all_front (HasItem p) (map const_op ops) rest h)

  abbrev run_item : ℕ × ValType → Item
  run_item r = locals r.0 r.1

  code_own : (c : FlatCode) → OwnCode p c → Own (code_items c)
  code_own c h = (tt, both_own (map run_item c.runs) (map body_op c.ops) (map_own run_item c.runs h.0) (map_own body_op c.ops h.1))

  code_owned : (c : FlatCode) → Own (code_items c) → OwnCode p c
  code_owned c h =
      (map_owned run_item c.runs (all_front (HasItem p) (map run_item c.runs) (map body_op c.ops) h.1), map_owned body_op c.ops (all_back (HasItem p) (map run_item c.runs) (map body_op c.ops) h.1))

  module _ (v : FlatModule) where
    -- the items from a section on
    abbrev from_11 : List Item
    from_11 = flat_map code_items v.codes ++ flat_map segment_items v.segments

    abbrev from_10 : List Item
    from_10 = count_items v.data_count ++ from_11

    abbrev from_9 : List Item
    from_9 = flat_map element_items v.elements ++ from_10

    abbrev from_8 : List Item
    from_8 = start_items v.start ++ from_9

    abbrev from_7 : List Item
    from_7 = flat_map export_items v.exports ++ from_8

    abbrev from_6 : List Item
    from_6 = flat_map global_items v.globals ++ from_7

    abbrev from_5 : List Item
    from_5 = map memory v.memories ++ from_6

    abbrev from_4 : List Item
    from_4 = map table v.tables ++ from_5

    abbrev from_3 : List Item
    from_3 = map function v.functions ++ from_4

    abbrev from_2 : List Item
    from_2 = flat_map import_items v.imports ++ from_3

    start_own : Own (start_items v.start)
    start_own = elim v.start as (λ s. Own (start_items s)) [ None ↦ tt | Some x ↦ (tt, tt) ]

    exports_own : Own (flat_map export_items v.exports)
    exports_own = many_own export_items (λ e. Unit {0}) (λ e h. (tt, (tt, tt))) v.exports (all_units v.exports)
      where
        all_units : {X : Type 0} (xs : List X) → AllByRecursion (λ x. Unit {0}) xs
        all_units [] = tt
        all_units (x ∷ xs) = (tt, all_units xs)

    items_own : Owns p v → Own (flat_items v)
    items_own h =
        both_own (flat_map type_items v.types) from_2 (many_own type_items (HasSignature p) type_own v.types h.types)
        (both_own (flat_map import_items v.imports) from_3 (many_own import_items (HasImport p) (λ i k. (tt, (tt, (k, tt)))) v.imports h.imports)
        (both_own (map function v.functions) from_4 (any_own function (λ x. tt) v.functions)
        (both_own (map table v.tables) from_5 (any_own table (λ x. tt) v.tables)
        (both_own (map memory v.memories) from_6 (any_own memory (λ x. tt) v.memories)
        (both_own (flat_map global_items v.globals) from_7 (many_own global_items (OwnGlobal p) (λ g k. (k.0, map_own const_op g.init k.1)) v.globals h.globals)
        (both_own (flat_map export_items v.exports) from_8 exports_own
        (both_own (start_items v.start) from_9 start_own
        (both_own (flat_map element_items v.elements) from_10
        (many_own element_items (OwnElement p) (λ e k. (k.0, ops_own const_op element_function (λ o i. i) (λ x. tt) e.offset e.functions k.1)) v.elements h.elements)
        (both_own (count_items v.data_count) from_11 h.count
        (both_own (flat_map code_items v.codes) (flat_map segment_items v.segments) (many_own code_items (OwnCode p) code_own v.codes h.codes)
        (many_own segment_items (OwnSegment p) (λ s k. (k.0, ops_own const_op data_byte (λ o i. i) (λ x. tt) s.offset s.bytes k.1)) v.segments h.segments)))))))))))

    items_owned : Own (flat_items v) → Owns p v
    items_owned h =
        let h2 = all_back (HasItem p) (flat_map type_items v.types) from_2 h in
        let h3 = all_back (HasItem p) (flat_map import_items v.imports) from_3 h2 in
        let h4 = all_back (HasItem p) (map function v.functions) from_4 h3 in
        let h5 = all_back (HasItem p) (map table v.tables) from_5 h4 in
        let h6 = all_back (HasItem p) (map memory v.memories) from_6 h5 in
        let h7 = all_back (HasItem p) (flat_map global_items v.globals) from_7 h6 in
        let h8 = all_back (HasItem p) (flat_map export_items v.exports) from_8 h7 in
        let h9 = all_back (HasItem p) (start_items v.start) from_9 h8 in
        let h10 = all_back (HasItem p) (flat_map element_items v.elements) from_10 h9 in
        let h11 = all_back (HasItem p) (count_items v.data_count) from_11 h10 in
        record {
          types = many_owned type_items (HasSignature p) type_owned v.types (all_front (HasItem p) (flat_map type_items v.types) from_2 h);
          imports = many_owned import_items (HasImport p) (λ i k. k.1.1.0) v.imports (all_front (HasItem p) (flat_map import_items v.imports) from_3 h2);
          globals = many_owned global_items (OwnGlobal p) (λ g k. (k.0, map_owned const_op g.init k.1)) v.globals (all_front (HasItem p) (flat_map global_items v.globals) from_7 h6);
          elements = many_owned element_items (OwnElement p) (λ e k. (k.0, const_owned e.offset (map element_function e.functions) k.1)) v.elements (all_front (HasItem p) (flat_map element_items v.elements) from_10 h9);
          count = all_front (HasItem p) (count_items v.data_count) from_11 h10;
          codes = many_owned code_items (OwnCode p) code_owned v.codes (all_front (HasItem p) (flat_map code_items v.codes) (flat_map segment_items v.segments) h11);
          segments = many_owned segment_items (OwnSegment p) (λ s k. (k.0, const_owned s.offset (map data_byte s.bytes) k.1)) v.segments (all_back (HasItem p) (flat_map code_items v.codes) (flat_map segment_items v.segments) h11);
        }

pub spelled_of_items : (p q : Profile) (v : FlatModule) (b : List ℕ) → Extends q p → FrontsAlike p q (map (λ e. e.table) v.elements) → FrontsAlike p q (map (λ s. s.memory) v.segments) → SpellsFlat p v b → SpellsFlat q v b × AllByRecursion (HasItem p) (flat_items v)
spelled_of_items p q v b more elements segments h = let u = module_parts p q more v b elements segments h in (u.0, items_own p v u.1)

pub spelled_by_items : (p q : Profile) (v : FlatModule) (b : List ℕ) → Extends q p → EncodeAlike p q → ReadSegmentsAlike p q → SpellsFlat q v b → AllByRecursion (HasItem p) (flat_items v) → SpellsFlat p v b
spelled_by_items p q v b more alike fronts h own = module_joins p q more alike fronts v b h (items_owned p v own)
