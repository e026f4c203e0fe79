-- The flat value of a module: its members in the order of the binary format. An expression is a list of ops, and locals
-- are runs. Core spec 5.5.
use Rattle.std.specs.Prelude.{◌≡◌, ℕ, ◌<◌, ◌^◌, List, [], ◌∷◌, ◌++◌, Option, Some, None, length, map}
use Rattle.std.specs.Prelude.{flat_map, IsFalse, IsTrue}
use Rattle.std.specs.List.{AllByRecursion, AllZip}
use Rattle.wm_syntax.specs.declared.types.ValType.{ValType}
use Rattle.wm_syntax.specs.declared.types.Limits.{Limits}
use Rattle.wm_syntax.specs.declared.types.GlobalType.{GlobalType}
use Rattle.wm_syntax.specs.declared.types.Const.{Const}
use Rattle.wm_syntax.specs.declared.instructions.Op.{Op}
use Rattle.wm_syntax.specs.declared.instructions.Op.TheVariants as op
use Rattle.wm_syntax.specs.declared.profile.Feature.TheVariants.{BulkMemory}
use Rattle.wm_syntax.specs.declared.profile.Profile.{Profile}
use Rattle.wm_syntax.specs.Spelling.{Form, Exactly, Each, ◌▸◌}
use Rattle.wm_syntax.specs.Types.{Signature, SpellsU32, SpellsList, SpellsBytes, SpellsSignature}
use Rattle.wm_syntax.specs.Types.{SpellsLimits, SpellsTableType, SpellsGlobalType}
use Rattle.wm_syntax.specs.Instructions.{HasOps}
use Rattle.wm_syntax.specs.Encodings.{SpellsOp}
use Rattle.wm_syntax.specs.Modules.{Import, Function, GlobalDef, Export, Element, Segment, Module, constant}
use Rattle.wm_syntax.specs.Modules.{bodies_name_segment}
use Rattle.wm_syntax.specs.Profiles.{has, HasDesc, HasSignature, IsOpOf}
use Rattle.wm_machine.specs.Sections.{Section, Sized, Those, ListSection, StartSection, Customs, SpellsImport}
use Rattle.wm_machine.specs.Sections.{SpellsElements, SpellsExport, SpellsMemory, SpellsRun, header}
use Rattle.wm_syntax.specs.declared.modules.SegmentMode.{SegmentMode}
use Rattle.wm_syntax.specs.declared.modules.SegmentMode.TheVariants.{Passive, Active}
use Rattle.wm_syntax.specs.Modules.{index_of, locals_of}
use Rattle.wm_machine.specs.Grammar.{IsExpression, HasGlobalType}
use Rattle.wm_machine.specs.Items.{Item, new_type, param, result_count, one_result, import_module, import_name}
use Rattle.wm_machine.specs.Items.{import_desc, function, table, memory, global, const_op, export_name, export}
use Rattle.wm_machine.specs.Items.{start, element, element_function, data_count, body, locals, body_op, segment}
use Rattle.wm_machine.specs.Items.{data_byte, passive_element, passive_segment}

-- a global: its type, and the ops of its initialiser (Core spec 5.5.9)
pub record FlatGlobal : Type 0 where
  pub ty : GlobalType
  pub init : List Op

-- An element segment: a table index, the ops of its offset, and function indices (Core spec 5.5.12). A passive one has no
-- table index and no such ops (WebAssembly 2.0, 5.5.12).
pub record FlatElement : Type 0 where
  pub table : Option ℕ
  pub offset : List Op
  pub functions : List ℕ

-- a code entry: its runs of locals, and the ops of its body (Core spec 5.5.13)
pub record FlatCode : Type 0 where
  pub runs : List (ℕ × ValType)
  pub ops : List Op

-- A data segment: a memory index, the ops of its offset, and its bytes (Core spec 5.5.14). A passive one has no memory
-- index and no such ops (WebAssembly 2.0, 5.5.14).
pub record FlatSegment : Type 0 where
  pub memory : Option ℕ
  pub offset : List Op
  pub bytes : List ℕ

-- A module, section by section. A function has its type index in `functions` and its code in `codes`. Core spec 5.5.15.
-- `data_count` is the number in the data count section, if it has one (WebAssembly 2.0, 5.5.15).
pub record FlatModule : Type 0 where
  pub types : List Signature
  pub imports : List Import
  pub functions : List ℕ
  pub tables : List Limits
  pub memories : List Limits
  pub globals : List FlatGlobal
  pub exports : List Export
  pub start : Option ℕ
  pub elements : List FlatElement
  pub data_count : Option ℕ
  pub codes : List FlatCode
  pub segments : List FlatSegment

-- The items of each kind of member, in the order of its bytes.
abbrev pub type_items : Signature → List Item
type_items f = new_type ∷ map param f.params ++ result_count (length f.results) ∷ map one_result f.results

abbrev pub import_items : Import → List Item
import_items i = import_module i.module_name ∷ import_name i.item_name ∷ import_desc i.desc ∷ []

abbrev pub global_items : FlatGlobal → List Item
global_items g = global g.ty ∷ map const_op g.init

abbrev pub export_items : Export → List Item
export_items e = export_name e.name ∷ export e.kind e.index ∷ []

abbrev pub start_items : Option ℕ → List Item
start_items None = []
start_items (Some x) = start x ∷ []

abbrev pub element_head : Option ℕ → Item
element_head None = passive_element
element_head (Some x) = element x

abbrev pub element_items : FlatElement → List Item
element_items e = element_head e.table ∷ map const_op e.offset ++ map element_function e.functions

abbrev pub count_items : Option ℕ → List Item
count_items None = []
count_items (Some n) = data_count n ∷ []

abbrev pub code_items : FlatCode → List Item
code_items c = body ∷ map (λ r. locals r.0 r.1) c.runs ++ map body_op c.ops

abbrev pub segment_head : Option ℕ → Item
segment_head None = passive_segment
segment_head (Some x) = segment x

abbrev pub segment_items : FlatSegment → List Item
segment_items s = segment_head s.memory ∷ map const_op s.offset ++ map data_byte s.bytes

-- the items of a module, in the order of its sections
abbrev pub flat_items : FlatModule → List Item
flat_items v =
    flat_map type_items v.types
    ++ (flat_map import_items v.imports
    ++ (map function v.functions
    ++ (map table v.tables
    ++ (map memory v.memories
    ++ (flat_map global_items v.globals
    ++ (flat_map export_items v.exports
    ++ (start_items v.start
    ++ (flat_map element_items v.elements
    ++ (count_items v.data_count
    ++ (flat_map code_items v.codes
    ++ flat_map segment_items v.segments))))))))))

-- an expression of the profile: the bytes of its ops, one after another (Core spec 5.4.6)
abbrev pub SpellsOps : Profile → List Op → Form ℕ
SpellsOps p ops b = IsExpression ops × AllByRecursion (IsOpOf p) ops × Each (SpellsOp p) ops b

-- the profile has the type of an imported global (Core spec 5.5.5)
abbrev pub HasImport : Profile → Import → Type 0
HasImport p i = HasDesc p i.desc

-- a global: its type, of the profile, and its initialiser (Core spec 5.5.9)
abbrev pub SpellsFlatGlobal : Profile → FlatGlobal → Form ℕ
SpellsFlatGlobal p g = Those (HasGlobalType p) SpellsGlobalType g.ty ▸ SpellsOps p g.init

-- a code entry: its size, its runs of locals and the ops of its body (Core spec 5.5.13)
abbrev pub SpellsFlatCode : Profile → FlatCode → Form ℕ
SpellsFlatCode p c = Sized (SpellsList (SpellsRun p) c.runs ▸ SpellsOps p c.ops)

-- the data count section of a module with n data segments: their number, if it is present (WebAssembly 2.0, 5.5.15)
abbrev pub FlatDataCount : Profile → (n : ℕ) → Option ℕ → Form ℕ
FlatDataCount p n None = Exactly []
FlatDataCount p n (Some count) = λ b. IsTrue (has p BulkMemory) × (count ≡ n) × Section 12 (SpellsU32 count) b

-- the ops of the offset of a segment with this index of a table or memory; a passive one has none
abbrev pub SpellsFlatOffset : Profile → Option ℕ → List Op → Form ℕ
SpellsFlatOffset p None ops = λ b. (ops ≡ []) × (b ≡ [])
SpellsFlatOffset p (Some x) ops = SpellsOps p ops

-- an element segment: its table index, an offset expression and function indices (Core spec 5.5.12)
abbrev pub SpellsFlatElement : Profile → FlatElement → Form ℕ
SpellsFlatElement p e =
    SpellsElements (has p BulkMemory) e.table (SpellsFlatOffset p e.table e.offset) e.functions

-- a data segment: its front, an offset expression and bytes (Core spec 5.5.14)
abbrev pub SpellsFlatSegment : Profile → FlatSegment → Form ℕ
SpellsFlatSegment p s =
    SpellsMemory (has p BulkMemory) s.memory ▸ SpellsFlatOffset p s.memory s.offset ▸ SpellsBytes s.bytes

-- these sections in order, with custom sections before, between and after them (Core spec 5.5.15)
abbrev pub InOrder : List (Form ℕ) → Form ℕ
InOrder [] = Customs
InOrder (P ∷ sections) = Customs ▸ P ▸ InOrder sections

-- the section of each part of a flat value, in order (Core spec 5.5.2)
abbrev pub flat_sections : Profile → FlatModule → List (Form ℕ)
flat_sections p v =
    ListSection 1 (Those (HasSignature p) SpellsSignature) v.types
    ∷ ListSection 2 (Those (HasImport p) SpellsImport) v.imports
    ∷ ListSection 3 SpellsU32 v.functions
    ∷ ListSection 4 SpellsTableType v.tables
    ∷ ListSection 5 SpellsLimits v.memories
    ∷ ListSection 6 (SpellsFlatGlobal p) v.globals
    ∷ ListSection 7 SpellsExport v.exports
    ∷ StartSection v.start
    ∷ ListSection 9 (SpellsFlatElement p) v.elements
    ∷ FlatDataCount p (length v.segments) v.data_count
    ∷ ListSection 10 (SpellsFlatCode p) v.codes
    ∷ ListSection 11 (SpellsFlatSegment p) v.segments
    ∷ []

-- a module: the header and the sections, with as many code entries as functions (Core spec 5.5.15)
abbrev pub SpellsFlat : Profile → FlatModule → Form ℕ
SpellsFlat p v b = (length v.codes ≡ length v.functions) × (Exactly header ▸ InOrder (flat_sections p v)) b

-- the ops of a constant expression: its one instruction, and the end (Core spec 3.3.7)
abbrev pub constant_ops : Const → List Op
constant_ops c = op.Simple (constant c) ∷ op.End ∷ []

-- The next definitions relate a member of a flat value to a member of the module (Core spec 2.5.3, 2.5.6 to
-- 2.5.8). Here x is the type index of the function.
abbrev pub IsIndexOf : Function → ℕ → Type 0
IsIndexOf f x = x ≡ f.type_index

-- The runs expand to the locals of the function, fewer than 2^32. The ops are those of its body, and the end.
abbrev pub IsCodeOf : Function → FlatCode → Type 0
IsCodeOf f c = (locals_of c.runs ≡ f.locals) × (length f.locals < 2 ^ 32)
    × (HasOps f.body ▸ Exactly (op.End ∷ [])) c.ops

-- the ops of the offset of a segment, none if it is passive
abbrev pub offset_ops : SegmentMode → List Op
offset_ops Passive = []
offset_ops (Active x offset) = constant_ops offset

-- Equal parts, and the ops of the same constant expression: for a global, an element segment and a data segment.
abbrev pub IsGlobalOf : GlobalDef → FlatGlobal → Type 0
IsGlobalOf g v = (v.ty ≡ g.ty) × (v.init ≡ constant_ops g.init)

abbrev pub IsElementOf : Element → FlatElement → Type 0
IsElementOf e v = (v.table ≡ index_of e.mode) × (v.offset ≡ offset_ops e.mode) × (v.functions ≡ e.functions)

abbrev pub IsSegmentOf : Segment → FlatSegment → Type 0
IsSegmentOf s v = (v.memory ≡ index_of s.mode) × (v.offset ≡ offset_ops s.mode) × (v.bytes ≡ s.bytes)

-- The flat value v is one of the module m, member by member. A module has several: an `else` before an empty list may
-- be present or not, and locals can be split into runs in many ways. The data count section may be missing if no body
-- names a data segment (WebAssembly 2.0, 5.5.16).
pub record IsFlatOf (m : Module) (v : FlatModule) : Type 0 where
  pub types : v.types ≡ m.types
  pub imports : v.imports ≡ m.imports
  pub functions : AllZip IsIndexOf m.functions v.functions
  pub tables : v.tables ≡ m.tables
  pub memories : v.memories ≡ m.memories
  pub globals : AllZip IsGlobalOf m.globals v.globals
  pub exports : v.exports ≡ m.exports
  pub start : v.start ≡ m.start
  pub elements : AllZip IsElementOf m.elements v.elements
  pub codes : AllZip IsCodeOf m.functions v.codes
  pub segments : AllZip IsSegmentOf m.segments v.segments
  pub count : v.data_count ≡ None → IsFalse (bodies_name_segment m.functions)
