-- Each rule of the flat grammar reads a value, and the whole grammar reads a flat module.
use Rattle.std.proofs.Common.{ℕ, ◌-◌, ◌≡◌, ◌≤◌, ◌<◌, ◌^◌, List, [], ◌∷◌, ◌++◌, Option, Some, None, length, flat_map, map, refl, sym, ◌∙◌, ap, subst, append-nil, append_assoc, length-append, zero, suc, Bool, true, false, arith, ◌⊎◌, inl, inr}
use Rattle.wm_syntax.specs.declared.profile.Feature.TheVariants.{BulkMemory}
use Rattle.std.specs.List.{AllByRecursion}
use Rattle.std.proofs.lemmas.List.Concat.{flat_map_single}
use Rattle.wm_syntax.specs.declared.types.ValType.{ValType}
use Rattle.wm_syntax.specs.declared.types.Limits.{Limits}
use Rattle.wm_syntax.specs.declared.types.GlobalType.{GlobalType}
use Rattle.wm_syntax.specs.declared.instructions.Op.{Op}
use Rattle.wm_syntax.specs.declared.instructions.Op.TheVariants as op
use Rattle.wm_syntax.specs.declared.modules.ImportDesc.{ImportDesc}
use Rattle.wm_syntax.specs.declared.modules.ImportDesc.TheVariants as desc
use Rattle.wm_syntax.specs.declared.modules.ExportKind.{ExportKind}
use Rattle.wm_syntax.specs.declared.profile.Profile.{Profile}
use Rattle.wm_syntax.specs.Spelling.{Form, Byte as OneByte, Exactly, AreBytes, Each, ◌▸◌}
use Rattle.wm_syntax.specs.Types.{SpellsU32, SpellsList, SpellsBytes, SpellsName, SpellsValType, SpellsSignature, SpellsLimits, SpellsBounds, SpellsTableType, SpellsGlobalType, type_byte}
use Rattle.wm_syntax.specs.Profiles.{has, HasDesc, HasSignature, HasType}
use Rattle.wm_syntax.specs.Encodings.{SpellsOpcode, SpellsOp}
use Rattle.wm_syntax.proofs.CodeBytes.{code_forms}
use Rattle.wm_syntax.specs.Opcodes.{opcode}
use Rattle.wm_machine.specs.Sections.{Section as SectionForm, Those, ListSection, StartSection, Customs as CustomForms, SpellsCustom, SpellsDesc, SpellsImport, SpellsExport, SpellsElements, SpellsMemory, SpellsRun, kind_byte, header}
use Rattle.wm_machine.specs.Items.{Item, Marks, items_at, put_item, passive_element, passive_segment, new_type, param, result_count, one_result, import_module, import_name, import_desc, function, table, memory, global, const_op, export_name, export, start, element, element_function, data_count, body, body_op, segment, data_byte}
use Rattle.wm_machine.specs.MarkedForms.{MarkedForm, Empty, MarkedByte, Literal, Then, Times, MarkedNumber, Vector, Index, Name, Sized, nothing_at, marks_ending}
use Rattle.wm_machine.specs.Grammar.{ModuleCounts, HasSection, SegmentCount, strict, ValueType, ResultTypes, FunctionType, ImportForm, HasGlobalType, EachOp, Expression, Global, ExportForm, Run, Code, DataByte, segment_item, SegmentRest, SegmentForm, SegmentList, KindedList, Paired, Custom, Customs, MayMiss, Chain, ModuleForm}
use Rattle.wm_machine.specs.Flat.{FlatModule, FlatElement, FlatSegment, element_head, segment_head, SpellsFlatOffset, HasImport, type_items, import_items, global_items, export_items, start_items, element_items, count_items, code_items, segment_items, flat_items, SpellsOps, FlatDataCount, SpellsFlatGlobal, SpellsFlatElement, SpellsFlatCode, SpellsFlatSegment, InOrder, flat_sections, SpellsFlat}
use Rattle.wm_machine.proofs.EntryBytes.{run_part}
use Rattle.wm_machine.proofs.CountedSections.{counted_as, counted_so}
use Rattle.wm_machine.proofs.Those.{those_from, those_to}
use Rattle.wm_machine.proofs.ReadValues.{Reads, HasByte, parts-append, parts-nothing, parts-some, number_some, front_some, byte_some, Many, reads_as, reads_byte, reads_leaf, reads_then, reads_after, reads_number, reads_times, reads_vector, reads_sized, reads_entry, reads_list, reads_index, reads_name}
use Rattle.wm_machine.specs.declared.machine.member.SegmentKind.{SegmentKind}
use Rattle.wm_machine.specs.declared.machine.member.SegmentKind.TheVariants as segments

-- function types
reads_type : (p : Profile) (part : ValType → Item) → Reads (ValueType p part) (Those (HasType p) SpellsValType) (λ t. part t ∷ [])
reads_type p part = reads_leaf (Those (HasType p) SpellsValType) part (λ t b h. byte_some (type_byte t) b h.1)

reads_results : (p : Profile) → Reads {X = List ValType} (ResultTypes p) (SpellsList (Those (HasType p) SpellsValType)) (λ ts. result_count (length ts) ∷ map one_result ts)
reads_results p = reads_as (reads_number (λ n. Some (result_count n)) (λ n. reads_times (reads_type p one_result) n))
    (λ z b h. (z.1, (h.0, h.1, h.2, subst (λ m. SpellsU32 m h.0) h.4.0 h.3, h.4.1), cc (h.4.0, flat_map_single one_result z.1)))
    (λ ts b h. ((length ts, ts), (h.0, h.1, h.2, h.3, (refl, h.4)), ap (λ y. result_count (length ts) ∷ y) (flat_map_single one_result ts)))

types_from : (p : Profile) (ts : List ValType) (b : List ℕ) → SpellsList (Those (HasType p) SpellsValType) ts b → AllByRecursion (HasType p) ts × SpellsList SpellsValType ts b
types_from p ts b h = let v = those_from (HasType p) SpellsValType ts h.1 h.4 in (v.0, (h.0, h.1, h.2, h.3, v.1))

types_to : (p : Profile) (ts : List ValType) (b : List ℕ) → AllByRecursion (HasType p) ts → SpellsList SpellsValType ts b → SpellsList (Those (HasType p) SpellsValType) ts b
types_to p ts b g h = (h.0, h.1, h.2, h.3, those_to (HasType p) SpellsValType ts h.1 g h.4)

reads_signature : (p : Profile) → Reads (FunctionType p) (Those (HasSignature p) SpellsSignature) type_items
reads_signature p = reads_as (reads_then (reads_byte 0x60 (Some new_type)) (reads_then (reads_list param (reads_type p param)) (reads_results p)))
    (λ z b h.
    let i = h.4 in
    let x = types_from p z.1.0 i.0 i.3 in
    let y = types_from p z.1.1 i.1 i.4 in
    (record { params = z.1.0; results = z.1.1 }, ((x.0, y.0), (h.0, h.1, h.2, h.3, (i.0, i.1, i.2, x.1, y.1))), refl))
    (λ f b h.
    let r = h.1 in
    let i = r.4 in
    ((tt, (f.params, f.results)), (r.0, r.1, r.2, r.3, (i.0, i.1, i.2, types_to p f.params i.0 h.0.0 i.3, types_to p f.results i.1 h.0.1 i.4)), refl))

-- imports
desc_some : (d : ImportDesc) (b : List ℕ) → SpellsDesc d b → HasByte b
desc_some (desc.Func x) b h = front_some b h.0 h.1 h.2 (byte_some 0x00 h.0 h.3)
desc_some (desc.Table l) b h = front_some b h.0 h.1 h.2 (byte_some 0x01 h.0 h.3)
desc_some (desc.Memory l) b h = front_some b h.0 h.1 h.2 (byte_some 0x02 h.0 h.3)
desc_some (desc.Global g) b h = front_some b h.0 h.1 h.2 (byte_some 0x03 h.0 h.3)

reads_import : (p : Profile) → Reads (ImportForm strict p) (Those (HasImport p) SpellsImport) import_items
reads_import p = reads_as
    (reads_then (reads_name (λ text. Some (import_module text))) (reads_then (reads_name (λ text. Some (import_name text))) (reads_leaf (Those (HasDesc p) SpellsDesc) import_desc (λ d b h. desc_some d b h.1))))
    (λ z b h. let i = h.4 in let d = i.4 in (record { module_name = z.0; item_name = z.1.0; desc = z.1.1 }, (d.0, (h.0, h.1, h.2, h.3, (i.0, i.1, i.2, i.3, d.1))), refl))
    (λ i b h. let r = h.1 in let j = r.4 in ((i.module_name, (i.item_name, i.desc)), (r.0, r.1, r.2, r.3, (j.0, j.1, j.2, j.3, (h.0, j.4))), refl))

-- tables, memories and the types of globals
table_some : (l : Limits) (b : List ℕ) → SpellsTableType l b → HasByte b
table_some l b h = front_some b h.0 h.1 h.2 (byte_some 0x70 h.0 h.3)

limits_some : (l : Limits) (b : List ℕ) → SpellsLimits l b → HasByte b
limits_some l b h = bounds_some l.min l.max b h
  where
    bounds_some : (min : ℕ) (max : Option ℕ) (b : List ℕ) → SpellsBounds min max b → HasByte b
    bounds_some min None b h = front_some b h.0 h.1 h.2 (byte_some 0x00 h.0 h.3)
    bounds_some min (Some max) b h = front_some b h.0 h.1 h.2 (byte_some 0x01 h.0 h.3)

global_some : (g : GlobalType) (b : List ℕ) → SpellsGlobalType g b → HasByte b
global_some g b h = front_some b h.0 h.1 h.2 (byte_some (type_byte g.ty) h.0 h.3)

-- expressions
code_some : (c : ℕ) (b : List ℕ) → SpellsOpcode c b → HasByte b
code_some c b h = elim (code_forms c b h) [
  | inl f ↦ byte_some c b f.1
  | inr f ↦ (let g = f.1 in front_some b g.0 g.1 g.2 (byte_some 0xFC g.0 g.3))
]

pub op_some : (p : Profile) (o : Op) (b : List ℕ) → SpellsOp p o b → HasByte b
op_some p (op.Simple i) b h = front_some b h.0 h.1 h.2 (code_some (opcode i).0 h.0 h.3)
op_some p (op.Block t) b h = front_some b h.0 h.1 h.2 (byte_some 0x02 h.0 h.3)
op_some p (op.Loop t) b h = front_some b h.0 h.1 h.2 (byte_some 0x03 h.0 h.3)
op_some p (op.If t) b h = front_some b h.0 h.1 h.2 (byte_some 0x04 h.0 h.3)
op_some p op.Else b h = byte_some 0x05 b h
op_some p op.End b h = byte_some 0x0B b h
op_some p (op.BrTable n) b h = front_some b h.0 h.1 h.2 (byte_some 0x0E h.0 h.3)
op_some p (op.Label l) b h = number_some l b h

module _ (p : Profile) (part : Op → Item) where
  ops_to : (ops : List Op) (b : List ℕ) (k : Marks) → EachOp p part ops b k → Each (SpellsOp p) ops b × (items_at k ≡ map part ops)
  ops_to [] b k h = (h.0, ap items_at h.1)
  ops_to (o ∷ ops) b k h =
      let v = ops_to ops h.back h.back_marks h.second in
      let e = parts-some (Some (part o)) h.front (op_some p o h.front h.first.0) in
      ((h.front, h.back, h.bytes, h.first.0, v.0), ap items_at h.marks ∙ (parts-append h.front_marks h.back_marks ∙ cc (ap items_at h.first.1, e, v.1)))

  ops_from : (ops : List Op) (b : List ℕ) → Each (SpellsOp p) ops b → (k : Marks) × EachOp p part ops b k × (items_at k ≡ map part ops)
  ops_from [] b h = ([], (h, refl), refl)
  ops_from (o ∷ ops) b h =
      let v = ops_from ops h.1 h.4 in
      let e = parts-some (Some (part o)) h.0 (op_some p o h.0 h.3) in (
        marks_ending (Some (part o)) h.0 ++ v.0,
        record { front = h.0; back = h.1; front_marks = marks_ending (Some (part o)) h.0; back_marks = v.0; bytes = h.2; marks = refl; first = (h.3, refl); second = v.1 },
        parts-append (marks_ending (Some (part o)) h.0) v.0 ∙ cc (e, v.2),
      )

  reads_ops : Reads (Expression p part) (SpellsOps p) (map part)
  reads_ops = record {
    to = λ b k h. let v = ops_to h.0 b k h.3 in (h.0, (h.1, h.2, v.0), v.1);
    from = λ ops b h. let v = ops_from ops b h.2 in (v.0, (ops, h.0, h.1, v.1), v.2);
  }

reads_global : (p : Profile) → Reads (Global p) (SpellsFlatGlobal p) global_items
reads_global p = reads_as (reads_then (reads_leaf (Those (HasGlobalType p) SpellsGlobalType) global (λ g b h. global_some g b h.1)) (reads_ops p const_op))
    (λ z b h. (record { ty = z.0; init = z.1 }, h, refl))
    (λ g b h. ((g.ty, g.init), h, refl))

-- exports
reads_export : Reads (ExportForm strict) SpellsExport export_items
reads_export = reads_as
    (reads_then (reads_name (λ text. Some (export_name text)))
    (reads_leaf {X = ExportKind × ℕ} (λ t. OneByte (kind_byte t.0) ▸ SpellsU32 t.1) (λ t. export t.0 t.1) (λ t b h. front_some b h.0 h.1 h.2 (byte_some (kind_byte t.0) h.0 h.3))))
    (λ z b h. (record { name = z.0; kind = z.1.0; index = z.1.1 }, h, refl))
    (λ e b h. ((e.name, (e.kind, e.index)), h, refl))

-- code: the size, at which the body begins, and then runs and ops in just so many bytes
pub reads_body : (p : Profile) → Reads {X = List (ℕ × ValType) × List Op} (Then (Vector (Run p)) (Expression p body_op)) (λ z. SpellsList (SpellsRun p) z.0 ▸ SpellsOps p z.1) (λ z. map run_part z.0 ++ map body_op z.1)
reads_body p = reads_then (reads_list run_part (reads_leaf (SpellsRun p) run_part (λ r b h. let u = h.1 in front_some b u.0 u.1 u.2 (number_some r.0 u.0 u.3)))) (reads_ops p body_op)

reads_code : (p : Profile) → Reads (Code strict p) (SpellsFlatCode p) code_items
reads_code p = reads_as (reads_sized (reads_entry (reads_body p)) (Some body))
    (λ z b h. (record { runs = z.0; ops = z.1 }, h, refl))
    (λ c b h. ((c.runs, c.ops), h, refl))

-- data segments: a byte spells itself
SpellsByte : ℕ → Form ℕ
SpellsByte c b = (b ≡ c ∷ []) × (c < 2 ^ 8)

bytes_to : (bytes b : List ℕ) → Each SpellsByte bytes b → (b ≡ bytes) × AreBytes bytes
unfolding SpellsByte
bytes_to [] b h = (h, tt)
bytes_to (c ∷ bytes) b h = let v = bytes_to bytes h.1 h.4 in (cc (h.2, h.3.0, v.0), (h.3.1, v.1))

bytes_from : (bytes : List ℕ) → AreBytes bytes → Each SpellsByte bytes bytes
unfolding SpellsByte
bytes_from [] h = refl
bytes_from (c ∷ bytes) h = (c ∷ [], bytes, refl, (refl, h.0), bytes_from bytes h.1)

reads_bytes : Reads (Vector DataByte) SpellsBytes (map data_byte)
unfolding SpellsByte
reads_bytes = reads_as (reads_list data_byte (reads_leaf SpellsByte data_byte (λ c b h. byte_some c b h.0)))
    (λ bytes b h. (bytes, (h.0, h.1, h.2, h.3, bytes_to bytes h.1 h.4), refl))
    (λ bytes b h. (bytes, (h.0, h.1, h.2, h.3, subst (Each SpellsByte bytes) (sym h.4.0) (bytes_from bytes h.4.1)), refl))

-- function indices, and these behind their kind
reads_functions : Reads (SegmentList segments.Element) (SpellsList SpellsU32) (map element_function)
reads_functions = reads_list element_function (reads_index element_function)

reads_kinded : Reads (KindedList segments.Element) (λ xs. OneByte 0x00 ▸ SpellsList SpellsU32 xs) (map element_function)
reads_kinded = reads_after (reads_byte 0x00 None) reads_functions

module _ (p : Profile) where
  -- a segment with these items, whose number at the front is read
  record SegmentRead (of : SegmentKind) (flagged : Bool) (items : List Item) (b : List ℕ) : Type 0 where
    n : ℕ
    front : List ℕ
    back : List ℕ
    marks : Marks
    whole : b ≡ front ++ back
    number : SpellsU32 n front
    rest : SegmentRest p flagged of n back marks
    read : put_item (segment_item flagged of n) (items_at marks) ≡ items

  module _ {X : Type 0} (of : SegmentKind) (V : Bool → X → Form ℕ) (items : X → List Item)
      (to : (flagged : Bool) (n : ℕ) (front back : List ℕ) (k : Marks) → SpellsU32 n front → SegmentRest p flagged of n back k → (x : X) × V flagged x (front ++ back) × (put_item (segment_item flagged of n) (items_at k) ≡ items x))
      (from : (flagged : Bool) (x : X) (b : List ℕ) → V flagged x b → SegmentRead of flagged (items x) b) where
    joined_item : (x : Option Item) (items : List Item) → put_item x [] ++ items ≡ put_item x items
    joined_item None items = refl
    joined_item (Some i) items = refl

    joined : (x : Option Item) (n : ℕ) (front : List ℕ) (k : Marks) → SpellsU32 n front → items_at (marks_ending x front) ++ items_at k ≡ put_item x (items_at k)
    joined x n front k u = ap (λ y. y ++ items_at k) (parts-some x front (number_some n front u)) ∙ joined_item x (items_at k)

    reads_front : Reads (SegmentForm p of) (V (has p BulkMemory)) items
    reads_front = record {
      to = λ b k h.
          let flagged = has p BulkMemory in
          let v = to flagged h.n h.front h.back h.back_marks h.number h.rest in
          (v.0, subst (V flagged v.0) (sym h.bytes) v.1, ap items_at h.marks ∙ (parts-append (marks_ending (segment_item flagged of h.n) h.front) h.back_marks ∙ (joined (segment_item flagged of h.n) h.n h.front h.back_marks h.number ∙ v.2)));
      from = λ x b h.
          let flagged = has p BulkMemory in
          let v = from flagged x b h in (
            marks_ending (segment_item flagged of v.n) v.front ++ v.marks,
            record { n = v.n; front = v.front; back = v.back; back_marks = v.marks; bytes = v.whole; marks = refl; number = v.number; rest = v.rest },
            parts-append (marks_ending (segment_item flagged of v.n) v.front) v.marks ∙ (joined (segment_item flagged of v.n) v.n v.front v.marks v.number ∙ v.read),
          );
    }

  -- element segments
  reads_plain : Reads {X = List Op × List ℕ} (Then (Expression p const_op) (SegmentList segments.Element)) (λ z. SpellsOps p z.0 ▸ SpellsList SpellsU32 z.1) (λ z. map const_op z.0 ++ map element_function z.1)
  reads_plain = reads_then (reads_ops p const_op) reads_functions

  reads_indexed : Reads {X = ℕ × (List Op × List ℕ)} (SegmentRest p true segments.Element 2) (λ z. SpellsU32 z.0 ▸ SpellsOps p z.1.0 ▸ OneByte 0x00 ▸ SpellsList SpellsU32 z.1.1) (λ z. element z.0 ∷ map const_op z.1.0 ++ map element_function z.1.1)
  reads_indexed = reads_then (reads_index element) (reads_then (reads_ops p const_op) reads_kinded)

  abbrev ElementBy : Bool → FlatElement → Form ℕ
  ElementBy flagged e = SpellsElements flagged e.table (SpellsFlatOffset p e.table e.offset) e.functions

  element_to : (flagged : Bool) (n : ℕ) (front back : List ℕ) (k : Marks) → SpellsU32 n front → SegmentRest p flagged segments.Element n back k
      → (e : FlatElement) × ElementBy flagged e (front ++ back) × (put_item (segment_item flagged segments.Element n) (items_at k) ≡ element_items e)
  element_to false n front back k u h = let v = reads_plain.to back k h in (record { table = Some n; offset = v.0.0; functions = v.0.1 }, (front, back, refl, u, v.1), ap (λ y. element n ∷ y) v.2)
  element_to true zero front back k u h = let v = reads_plain.to back k h in (record { table = Some 0; offset = v.0.0; functions = v.0.1 }, inl (refl, (front, back, refl, u, v.1)), ap (λ y. element 0 ∷ y) v.2)
  element_to true (suc zero) front back k u h =
      let v = reads_kinded.to back k h in
      (record { table = None; offset = []; functions = v.0 }, (front, back, refl, u, ([], back, refl, (refl, refl), v.1)), ap (λ y. passive_element ∷ y) v.2)
  element_to true (suc (suc zero)) front back k u h =
      let v = reads_indexed.to back k h in
      (record { table = Some v.0.0; offset = v.0.1.0; functions = v.0.1.1 }, inr (front, back, refl, u, v.1), v.2)
  element_to true (suc (suc (suc n))) front back k u h = absurd h

  abbrev ElementRead : Bool → Option ℕ → List Op → List ℕ → List ℕ → Type 0
  ElementRead flagged x offset functions = SegmentRead segments.Element flagged (element_head x ∷ map const_op offset ++ map element_function functions)

  element_from : (flagged : Bool) (x : Option ℕ) (offset : List Op) (functions b : List ℕ) → SpellsElements flagged x (SpellsFlatOffset p x offset) functions b → ElementRead flagged x offset functions b
  element_from false None offset functions b h = absurd h
  element_from false (Some x) offset functions b h =
      let v = reads_plain.from (offset, functions) h.1 h.4 in
      record { n = x; front = h.0; back = h.1; marks = v.0; whole = h.2; number = h.3; rest = v.1; read = ap (λ y. element x ∷ y) v.2 }
  element_from true None offset functions b h =
      let i = h.4 in
      let v = reads_kinded.from functions i.1 i.4 in
      let none : map const_op offset ++ map element_function functions ≡ map element_function functions = ap (λ y. map const_op y ++ map element_function functions) i.3.0 in
      record { n = 1; front = h.0; back = i.1; marks = v.0; whole = h.2 ∙ ap (λ y. h.0 ++ y) (i.2 ∙ ap (λ y. y ++ i.1) i.3.1); number = h.3; rest = v.1; read = ap (λ y. passive_element ∷ y) (v.2 ∙ sym none) }
  element_from true (Some x) offset functions b (inl z) =
      let h = z.1 in
      let v = reads_plain.from (offset, functions) h.1 h.4 in
      record { n = 0; front = h.0; back = h.1; marks = v.0; whole = h.2; number = h.3; rest = v.1; read = ap (λ y. element 0 ∷ y) v.2 ∙ ap (λ y. element y ∷ map const_op offset ++ map element_function functions) (sym z.0) }
  element_from true (Some x) offset functions b (inr h) =
      let v = reads_indexed.from (x, (offset, functions)) h.1 h.4 in
      record { n = 2; front = h.0; back = h.1; marks = v.0; whole = h.2; number = h.3; rest = v.1; read = v.2 }

  reads_element : Reads (SegmentForm p segments.Element) (SpellsFlatElement p) element_items
  reads_element = reads_front segments.Element ElementBy element_items element_to (λ flagged e b h. element_from flagged e.table e.offset e.functions b h)

  -- data segments
  reads_active : Reads {X = List Op × List ℕ} (Then (Expression p const_op) (Vector DataByte)) (λ z. SpellsOps p z.0 ▸ SpellsBytes z.1) (λ z. map const_op z.0 ++ map data_byte z.1)
  reads_active = reads_then (reads_ops p const_op) reads_bytes

  abbrev SegmentBy : Bool → FlatSegment → Form ℕ
  SegmentBy flagged s = SpellsMemory flagged s.memory ▸ SpellsFlatOffset p s.memory s.offset ▸ SpellsBytes s.bytes

  segment_to : (flagged : Bool) (n : ℕ) (front back : List ℕ) (k : Marks) → SpellsU32 n front → SegmentRest p flagged segments.Data n back k
      → (s : FlatSegment) × SegmentBy flagged s (front ++ back) × (put_item (segment_item flagged segments.Data n) (items_at k) ≡ segment_items s)
  segment_to false n front back k u h = let v = reads_active.to back k h in (record { memory = Some n; offset = v.0.0; bytes = v.0.1 }, (front, back, refl, u, v.1), ap (λ y. segment n ∷ y) v.2)
  segment_to true zero front back k u h = let v = reads_active.to back k h in (record { memory = Some 0; offset = v.0.0; bytes = v.0.1 }, (front, back, refl, inl (refl, u), v.1), ap (λ y. segment 0 ∷ y) v.2)
  segment_to true (suc zero) front back k u h = let v = reads_bytes.to back k h in (record { memory = None; offset = []; bytes = v.0 }, (front, back, refl, u, ([], back, refl, (refl, refl), v.1)), ap (λ y. passive_segment ∷ y) v.2)
  segment_to true (suc (suc zero)) front back k u h =
      let v = (reads_then (reads_index segment) reads_active).to back k h in
      let i = v.1 in
      (record { memory = Some v.0.0; offset = v.0.1.0; bytes = v.0.1.1 }, (front ++ i.0, i.1, ap (λ y. front ++ y) i.2 ∙ sym (append_assoc front i.0 i.1), inr (front, i.0, refl, u, i.3), i.4), v.2)
  segment_to true (suc (suc (suc n))) front back k u h = absurd h

  abbrev DataRead : Bool → Option ℕ → List Op → List ℕ → List ℕ → Type 0
  DataRead flagged x offset bytes = SegmentRead segments.Data flagged (segment_head x ∷ map const_op offset ++ map data_byte bytes)

  segment_from : (flagged : Bool) (x : Option ℕ) (offset : List Op) (bytes b : List ℕ) → (SpellsMemory flagged x ▸ SpellsFlatOffset p x offset ▸ SpellsBytes bytes) b → DataRead flagged x offset bytes b
  segment_from false None offset bytes b h = absurd h.3
  segment_from false (Some x) offset bytes b h =
      let v = reads_active.from (offset, bytes) h.1 h.4 in
      record { n = x; front = h.0; back = h.1; marks = v.0; whole = h.2; number = h.3; rest = v.1; read = ap (λ y. segment x ∷ y) v.2 }
  segment_from true None offset bytes b h =
      let i = h.4 in
      let v = reads_bytes.from bytes i.1 i.4 in
      let none : map const_op offset ++ map data_byte bytes ≡ map data_byte bytes = ap (λ y. map const_op y ++ map data_byte bytes) i.3.0 in
      record { n = 1; front = h.0; back = i.1; marks = v.0; whole = h.2 ∙ ap (λ y. h.0 ++ y) (i.2 ∙ ap (λ y. y ++ i.1) i.3.1); number = h.3; rest = v.1; read = ap (λ y. passive_segment ∷ y) (v.2 ∙ sym none) }
  segment_from true (Some x) offset bytes b h = elim h.3 [
    | inl z ↦
        let v = reads_active.from (offset, bytes) h.1 h.4 in
        record { n = 0; front = h.0; back = h.1; marks = v.0; whole = h.2; number = z.1; rest = v.1; read = ap (λ y. segment 0 ∷ y) v.2 ∙ ap (λ y. segment y ∷ map const_op offset ++ map data_byte bytes) (sym z.0) }
    | inr i ↦
        let v = (reads_then (reads_index segment) reads_active).from (x, (offset, bytes)) (i.1 ++ h.1) (i.1, h.1, refl, i.4, h.4) in
        record { n = 2; front = i.0; back = i.1 ++ h.1; marks = v.0; whole = h.2 ∙ (ap (λ y. y ++ h.1) i.2 ∙ append_assoc i.0 i.1 h.1); number = i.3; rest = v.1; read = v.2 }
  ]

  reads_segment : Reads (SegmentForm p segments.Data) (SpellsFlatSegment p) segment_items
  reads_segment = reads_front segments.Data SegmentBy segment_items segment_to (λ flagged s b h. segment_from flagged s.memory s.offset s.bytes b h)

-- sections (section 5.5.2)
reads_section : {X : Type 0} {P : MarkedForm} {V : X → Form ℕ} {p : X → List Item} (id : ℕ) → Reads P V p
    → Reads (Then (MarkedByte id None) (MarkedNumber nothing_at (λ n. Sized strict n P))) (λ x. SectionForm id (V x)) p
reads_section id r = reads_after (reads_byte id None) (reads_sized r None)

-- custom sections: a name, and then the bytes that are left of the size
filled_size : (n : ℕ) (front back : List ℕ) → length front ≤ n → length back ≡ n - length front → n ≡ length (front ++ back)
filled_size n front back fits size = omega (arith, length-append front back)

reads_custom : Reads (Custom strict) SpellsCustom (λ c. [])
reads_custom = reads_after (reads_byte 0 None) record {
  to = λ b k h.
      let f = h.rest in
      let u = unnamed.to f.front f.front_marks f.first in (
        record { name = u.0; bytes = f.back },
        (
          h.front,
          h.back,
          h.bytes,
          subst (λ m. SpellsU32 m h.front) (filled_size h.n f.front f.back (f.fits tt) f.size ∙ ap length (sym f.bytes)) h.number,
          (f.front, f.back, f.bytes, u.1, (refl, f.are_bytes)),
        ),
        ap items_at h.marks
            ∙ (parts-append (marks_ending None h.front) h.back_marks
            ∙ cc (parts-nothing h.front, ap items_at f.marks, parts-append f.front_marks (marks_ending None f.back), u.2, parts-nothing f.back)),
      );
  from = λ c b h.
      let f = h.4 in
      let u = unnamed.from c.name f.0 f.3 in (
        marks_ending None h.0 ++ (u.0 ++ marks_ending None f.1),
        record {
          n = length h.1;
          front = h.0;
          back = h.1;
          back_marks = u.0 ++ marks_ending None f.1;
          bytes = h.2;
          marks = refl;
          number = h.3;
          rest = record {
            front = f.0;
            back = f.1;
            front_marks = u.0;
            bytes = f.2;
            marks = refl;
            first = u.1;
            fits = λ s. omega (arith, length-append f.0 f.1, ap length f.2);
            size = omega (arith, length-append f.0 f.1, ap length f.2);
            are_bytes = f.4.1;
          };
        },
        parts-append (marks_ending None h.0) (u.0 ++ marks_ending None f.1) ∙ cc (parts-nothing h.0, parts-append u.0 (marks_ending None f.1), u.2, parts-nothing f.1),
      );
}
  where
    unnamed : Reads (Name strict (λ text. None)) SpellsName (λ text. [])
    unnamed = reads_name (λ text. None)

flat_map_nothing : {X : Type 0} (xs : List X) → flat_map {A = Item} (λ x. []) xs ≡ []
flat_map_nothing [] = refl
flat_map_nothing (x ∷ xs) = flat_map_nothing xs

reads_customs : Reads {X = Unit {0}} (Customs strict) (λ u. CustomForms) (λ u. [])
reads_customs = record {
  to = λ b k h. let v = (reads_times reads_custom h.0).to b k h.1 in (tt, (v.0, v.1.1), v.2 ∙ flat_map_nothing v.0);
  from = λ u b h. let v = (reads_times reads_custom (length h.0)).from h.0 b (refl, h.1) in (v.0, (length h.0, v.1), v.2 ∙ flat_map_nothing h.0);
}

-- a section that may be present, and may be left out, where its value has no item
abbrev OrNothing : Type 0 → Type 0 → ℕ → MarkedForm → MarkedForm
OrNothing H M id P b k = (H × Then (MarkedByte id None) (MarkedNumber nothing_at (λ n. Sized strict n P)) b k) ⊎ (M × Empty b k)

reads_or_nothing : {X : Type 0} {P : MarkedForm} {V : X → Form ℕ} {p : X → List Item} (H M : Type 0) (IsNone : X → Type 0) (id : ℕ)
    → H → (M → (x : X) × IsNone x) → ((x : X) → IsNone x → M × (p x ≡ [])) → Reads P V p
    → Reads (OrNothing H M id P) (λ x b. SectionForm id (V x) b ⊎ (IsNone x × (b ≡ []))) p
reads_or_nothing H M IsNone id there none missing r = record {
  to = λ b k h. elim h [
    | inl s ↦ (let v = (reads_section id r).to b k s.1 in (v.0, inl v.1, v.2))
    | inr e ↦ (let n = none e.0 in (n.0, inr (n.1, e.1.0), ap items_at e.1.1 ∙ sym (missing n.0 n.1).1))
  ];
  from = λ x b h. elim h [
    | inl s ↦ (let v = (reads_section id r).from x b s in (v.0, inl (there, v.1), v.2))
    | inr e ↦ (let m = missing x e.0 in ([], inr (m.0, (e.1, refl)), sym m.1))
  ];
}

reads_listed : {X : Type 0} {P : MarkedForm} {V : X → Form ℕ} {p : X → List Item} (H M : Type 0) (id : ℕ) → H → M → Reads P V p
    → Reads (OrNothing H M id (Vector P)) (ListSection id V) (flat_map p)
reads_listed {p = p} H M id there may r = reads_or_nothing H M (λ xs. xs ≡ []) id there (λ m. ([], refl)) (λ xs e. (may, ap (flat_map p) e)) (reads_vector r)

reads_start : (H M : Type 0) → H → M → Reads (OrNothing H M 8 (Index start)) StartSection start_items
reads_start H M there may = record {
  to = λ b k h. elim h [
    | inl s ↦ (let v = (reads_section 8 (reads_index start)).to b k s.1 in (Some v.0, v.1, v.2))
    | inr e ↦ (None, e.1.0, ap items_at e.1.1)
  ];
  from = start_from;
}
  where
    start_from : (x : Option ℕ) (b : List ℕ) → StartSection x b → (k : Marks) × OrNothing H M 8 (Index start) b k × (items_at k ≡ start_items x)
    start_from None b h = ([], inr (may, (h, refl)), refl)
    start_from (Some x) b h = let v = (reads_section 8 (reads_index start)).from x b h in (v.0, inl (there, v.1), v.2)

-- the number of data segments
SpellsCount : (n count : ℕ) → Form ℕ
SpellsCount n count b = (count ≡ n) × SpellsU32 count b

reads_number_of : (n : ℕ) → Reads (SegmentCount strict n) (SpellsCount n) (λ count. data_count count ∷ [])
unfolding SpellsCount
reads_number_of n = reads_as (reads_number (λ count. Some (data_count count)) given)
    (λ z b h. (z.0, (h.4.0, subst (λ y. SpellsU32 z.0 y) (sym (h.2 ∙ (ap (λ y. h.0 ++ y) h.4.1 ∙ append-nil h.0))) h.3), refl))
    (λ count b h. ((count, tt), (b, [], sym (append-nil b), h.1, (h.0, refl)), refl))
  where
    given : (count : ℕ) → Reads {X = Unit {0}} (λ b k. (strict → count ≡ n) × Empty b k) (λ u b. (count ≡ n) × (b ≡ [])) (λ u. [])
    given count = record { to = λ b k h. (tt, (h.0 tt, h.1.0), ap items_at h.1.1); from = λ u b h. ([], ((λ s. h.0), (h.1, refl)), refl) }

reads_count : (p : Profile) (n : ℕ) (M : Type 0) → M → Reads (OrNothing (HasSection p 10) M 12 (SegmentCount strict n)) (FlatDataCount p n) count_items
unfolding SpellsCount
reads_count p n M may = record {
  to = λ b k h. elim h [
    | inl s ↦ (
        let v = (reads_section 12 (reads_number_of n)).to b k s.1 in
        let f = v.1 in
        let c = f.4 in
        (Some v.0, (s.0 refl, c.4.0, (f.0, f.1, f.2, f.3, (c.0, c.1, c.2, c.3, c.4.1))), v.2))
    | inr e ↦ (None, e.1.0, ap items_at e.1.1)
  ];
  from = count_from;
}
  where
    count_from : (x : Option ℕ) (b : List ℕ) → FlatDataCount p n x b → (k : Marks) × OrNothing (HasSection p 10) M 12 (SegmentCount strict n) b k × (items_at k ≡ count_items x)
    count_from None b h = ([], inr (may, (h, refl)), refl)
    count_from (Some count) b h =
        let f = h.2 in
        let c = f.4 in
        let v = (reads_section 12 (reads_number_of n)).from count b (f.0, f.1, f.2, f.3, (c.0, c.1, c.2, c.3, (h.1, c.4))) in
        (v.0, inl ((λ e. h.0), v.1), v.2)

-- a list of so many
abbrev SoMany : Type 0 → ℕ → Type 0
SoMany X f = (xs : List X) × (length xs ≡ f)

module _ {X : Type 0} {P : MarkedForm} {V : X → Form ℕ} {p : X → List Item} (f : ℕ) (r : Reads P V p) where
  reads_paired : Reads {X = SoMany X f} (Paired strict f P) (λ z. SpellsList V z.0) (λ z. flat_map p z.0)
  reads_paired = reads_as (reads_number nothing_at counted)
      (λ z b h. ((z.1, sym h.4.1.0 ∙ h.4.0), (h.0, h.1, h.2, subst (λ m. SpellsU32 m h.0) h.4.1.0 h.3, h.4.1.1), refl))
      (λ z b h. ((length z.0, z.0), (h.0, h.1, h.2, h.3, (z.1, (refl, h.4))), refl))
    where
      counted : (n : ℕ) → Reads (λ b k. (strict → n ≡ f) × Times n P b k) (λ xs b. (n ≡ f) × Many V n xs b) (flat_map p)
      counted n = record {
        to = λ b k h. let v = (reads_times r n).to b k h.1 in (v.0, (h.0 tt, v.1), v.2);
        from = λ xs b h. let v = (reads_times r n).from xs b h.1 in (v.0, ((λ s. h.0), v.1), v.2);
      }

  reads_paired_section : (H M : Type 0) (id : ℕ) → H → (M → f ≡ 0) → (f ≡ 0 → M) → Reads {X = SoMany X f} (OrNothing H M id (Paired strict f P)) (λ z. ListSection id V z.0) (λ z. flat_map p z.0)
  reads_paired_section H M id there none may = reads_or_nothing H M (λ z. z.0 ≡ []) id there (λ m. (([], sym (none m)), refl)) (λ z e. (may (sym z.1 ∙ ap length e), ap (flat_map p) e)) reads_paired

-- one section, with what comes before it and after it
reads_next : {X Y : Type 0} {P Q : MarkedForm} {V : X → Form ℕ} {W : Y → Form ℕ} {p : X → List Item} {q : Y → List Item}
    → Reads P V p → Reads Q W q → Reads {X = X × Y} (Then (Customs strict) (Then P Q)) (λ z. CustomForms ▸ V z.0 ▸ W z.1) (λ z. p z.0 ++ q z.1)
reads_next r s = reads_after reads_customs (reads_then r s)

reads_last : {X : Type 0} {P : MarkedForm} {V : X → Form ℕ} {p : X → List Item} → Reads P V p → Reads (Then (Customs strict) (Then P (Customs strict))) (λ x. CustomForms ▸ V x ▸ CustomForms) p
reads_last {p = p} r = reads_as (reads_next r reads_customs) (λ z b h. (z.0, h, append-nil (p z.0))) (λ x b h. ((x, tt), h, append-nil (p x)))

-- where each member is an item
reads_parts : {X Y : Type 0} {P : MarkedForm} {V : X → Form ℕ} (part : Y → Item) (list : X → List Y) → Reads P V (λ x. flat_map (λ y. part y ∷ []) (list x)) → Reads P V (λ x. map part (list x))
reads_parts part list r = reads_as r (λ x b h. (x, h, flat_map_single part (list x))) (λ x b h. (x, h, flat_map_single part (list x)))

others_may : (d : ModuleCounts) (rank : ℕ) → (rank ≡ 3 → ⊥) → (rank ≡ 11 → ⊥) → (rank ≡ 12 → ⊥) → MayMiss d rank
others_may d rank not_functions not_code not_data = (λ e. elim e [ inl h ↦ absurd (not_functions h) | inr h ↦ absurd (not_code h) ], λ e. absurd (not_data e))

functions_may : (d : ModuleCounts) (rank : ℕ) → (rank ≡ 12 → ⊥) → d.functions ≡ 0 → MayMiss d rank
functions_may d rank not_data e = (λ _. e, λ i. absurd (not_data i))

module _ (p : Profile) where
  -- a flat module with so many functions, as many code entries, and so many data segments
  abbrev WithDeclared : ModuleCounts → Type 0
  WithDeclared d = (v : FlatModule) × (length v.functions ≡ d.functions) × (length v.codes ≡ d.functions) × (length v.segments ≡ d.segments)

  -- every profile has a section of another rank than 10
  abbrev There : ℕ → Type 0
  There = HasSection p

  reads_chain : (d : ModuleCounts) → Reads {X = WithDeclared d} (Chain strict p d 12 1) (λ w. InOrder (flat_sections p w.0)) (λ w. flat_items w.0)
  reads_chain d = reads_as
      (reads_next (reads_listed (There 1) (MayMiss d 1) 1 (λ e. cc) (others_may d 1 (λ e. cc) (λ e. cc) (λ e. cc)) (reads_signature p))
      (reads_next (reads_listed (There 2) (MayMiss d 2) 2 (λ e. cc) (others_may d 2 (λ e. cc) (λ e. cc) (λ e. cc)) (reads_import p))
      (reads_next (reads_parts function (λ xs. xs.0) (reads_paired_section d.functions (reads_index function) (There 3) (MayMiss d 3) 3 (λ e. cc) (λ m. m.0 (inl refl)) (functions_may d 3 (λ e. cc))))
      (reads_next (reads_parts table (λ xs. xs) (reads_listed (There 4) (MayMiss d 4) 4 (λ e. cc) (others_may d 4 (λ e. cc) (λ e. cc) (λ e. cc)) (reads_leaf SpellsTableType table table_some)))
      (reads_next (reads_parts memory (λ xs. xs) (reads_listed (There 5) (MayMiss d 5) 5 (λ e. cc) (others_may d 5 (λ e. cc) (λ e. cc) (λ e. cc)) (reads_leaf SpellsLimits memory limits_some)))
      (reads_next (reads_listed (There 6) (MayMiss d 6) 6 (λ e. cc) (others_may d 6 (λ e. cc) (λ e. cc) (λ e. cc)) (reads_global p))
      (reads_next (reads_listed (There 7) (MayMiss d 7) 7 (λ e. cc) (others_may d 7 (λ e. cc) (λ e. cc) (λ e. cc)) reads_export)
      (reads_next (reads_start (There 8) (MayMiss d 8) (λ e. cc) (others_may d 8 (λ e. cc) (λ e. cc) (λ e. cc)))
      (reads_next (reads_listed (There 9) (MayMiss d 9) 9 (λ e. cc) (others_may d 9 (λ e. cc) (λ e. cc) (λ e. cc)) (reads_element p))
      (reads_next (reads_count p d.segments (MayMiss d 10) (others_may d 10 (λ e. cc) (λ e. cc) (λ e. cc)))
      (reads_next (reads_paired_section d.functions (reads_code p) (There 11) (MayMiss d 11) 10 (λ e. cc) (λ m. m.0 (inr refl)) (functions_may d 11 (λ e. cc)))
      (reads_last (reads_paired_section d.segments (reads_segment p) (There 12) (MayMiss d 12) 11 (λ e. cc) (λ m. m.1 refl) (λ e. (λ i. no_functions 12 refl i, λ i. e)))))))))))))))
      (λ z b h.
      let z3 = z.1.1 in
      let z6 = z3.1.1.1 in
      let z9 = z6.1.1.1 in
      let v : FlatModule = record {
        types = z.0;
        imports = z.1.0;
        functions = z3.0.0;
        tables = z3.1.0;
        memories = z3.1.1.0;
        globals = z6.0;
        exports = z6.1.0;
        start = z6.1.1.0;
        elements = z9.0;
        data_count = z9.1.0;
        codes = z9.1.1.0.0;
        segments = z9.1.1.1.0;
      } in
      ((v, z3.0.1, z9.1.1.0.1, z9.1.1.1.1), counted_so p d.segments v b (sym z9.1.1.1.1) h, refl))
      (λ w b h.
      let v = w.0 in (
        (v.types, (v.imports, ((v.functions, w.1), (v.tables, (v.memories, (v.globals, (v.exports, (v.start, (v.elements, (v.data_count, ((v.codes, w.2), (v.segments, w.3)))))))))))),
        counted_as p d.segments v b w.3 h,
        refl,
      ))
    where
      no_functions : (rank : ℕ) → rank ≡ 12 → (rank ≡ 3) ⊎ (rank ≡ 11) → d.functions ≡ 0
      no_functions rank is e = elim e [ inl i ↦ absurd (omega (arith, is, i)) | inr i ↦ absurd (omega (arith, is, i)) ]

  reads_header : Reads {X = Unit {0}} (Literal header) (λ u h. h ≡ header) (λ u. [])
  reads_header = record { to = λ b k h. (tt, h.0, ap items_at h.1); from = λ u b h. (marks_ending None header, (h, refl), refl) }

  reads_module : (d : ModuleCounts) → Reads {X = WithDeclared d} (Then (Literal header) (Chain strict p d 12 1)) (λ w. Exactly header ▸ InOrder (flat_sections p w.0)) (λ w. flat_items w.0)
  reads_module d = reads_after reads_header (reads_chain d)

-- each reading of a whole input is that of a flat module, and the other way round
pub items_to : (p : Profile) (b : List ℕ) (k : Marks) → ModuleForm strict p b k → (v : FlatModule) × SpellsFlat p v b × (items_at k ≡ flat_items v)
items_to p b k h = let u = (reads_module p h.0).to b k h.1 in (u.0.0, (u.0.2 ∙ sym u.0.1, u.1), u.2)

pub items_from : (p : Profile) (v : FlatModule) (b : List ℕ) → SpellsFlat p v b → (k : Marks) × ModuleForm strict p b k × (items_at k ≡ flat_items v)
items_from p v b h =
    let d : ModuleCounts = record { functions = length v.functions; segments = length v.segments } in
    let u = (reads_module p d).from (v, refl, h.0, refl) b h.1 in
    (u.0, (d, u.1), u.2)
