-- The canonical binary of a module (Core spec 5.5). Numbers have the fewest bytes, and locals are in maximal runs of
-- one type. The binary has no empty section, no custom section, and no else before an empty second branch. It has a data
-- count section exactly if a body names a data segment.
use Rattle.std.specs.Prelude.{ℕ, ◌≡◌, ◌<◌, ◌≤◌, ◌^◌, List, [], ◌∷◌, ◌++◌, Option, Some, None, Bool, true}
use Rattle.std.specs.Prelude.{false, ℤ, length, flat_map, nat_lt, ◌-◌, if◌then◌else◌}
use Rattle.wm_machine.specs.Sections.{header, kind_byte, SpellsImport, SpellsGlobal, SpellsExport}
use Rattle.wm_machine.specs.Sections.{SpellsElement, SpellsCode, SpellsSegment}
use Rattle.wm_syntax.specs.Instructions.{ops_of}
use Rattle.wm_syntax.specs.Encodings.{float_bytes}
use Rattle.wm_syntax.specs.Leb128.{signed_bytes, unsigned_bytes}
use Rattle.wm_syntax.specs.Modules.{Import, Function, GlobalDef, Export, Element, Segment, Module, constant, index_of, bodies_name_segment}
use Rattle.wm_syntax.specs.Profiles.{has}
use Rattle.wm_syntax.specs.declared.modules.SegmentMode.TheVariants.{Passive, Active}
use Rattle.wm_syntax.specs.declared.modules.SegmentMode.{SegmentMode}
use Rattle.wm_syntax.specs.declared.profile.Feature.TheVariants.{BulkMemory}
use Rattle.std.specs.Prelude.{◌==◌, ◌||◌}
use Rattle.std.specs.List.{list_any}
use Rattle.wm_syntax.specs.Opcodes.{opcode}
use Rattle.wm_syntax.specs.Runs.{runs_of}
use Rattle.wm_syntax.specs.Spelling.{Form}
use Rattle.wm_syntax.specs.Types.{Signature, block_byte, type_byte, SpellsU32, SpellsList, SpellsSignature}
use Rattle.wm_syntax.specs.Types.{SpellsLimits, SpellsTableType}
use Rattle.wm_syntax.specs.declared.instructions.Op.TheVariants as op
use Rattle.wm_syntax.specs.declared.instructions.Op.{Op}
use Rattle.wm_syntax.specs.declared.instructions.Simple.TheVariants.{Br, BrIf, Call, CallIndirect, LocalGet}
use Rattle.wm_syntax.specs.declared.instructions.Simple.TheVariants.{LocalSet, LocalTee, GlobalGet, GlobalSet}
use Rattle.wm_syntax.specs.declared.instructions.Simple.TheVariants.{MemorySize, MemoryGrow, I32Const}
use Rattle.wm_syntax.specs.declared.instructions.Simple.TheVariants.{MemoryCopy, MemoryFill, MemoryInit, DataDrop}
use Rattle.wm_syntax.specs.declared.instructions.Simple.TheVariants.{TableInit, ElemDrop, TableCopy}
use Rattle.wm_syntax.specs.declared.instructions.Simple.TheVariants.{I64Const, F32Const, F64Const}
use Rattle.wm_syntax.specs.declared.instructions.Simple.TheVariants.{Load, Store}
use Rattle.wm_syntax.specs.declared.instructions.Simple.{Simple}
use Rattle.wm_syntax.specs.declared.modules.ImportDesc.TheVariants.{Func, Table, Memory, Global}
use Rattle.wm_syntax.specs.declared.modules.ImportDesc.{ImportDesc}
use Rattle.wm_syntax.specs.declared.profile.Profile.{Profile}
use Rattle.wm_syntax.specs.declared.types.Const.{Const}
use Rattle.wm_syntax.specs.declared.types.GlobalType.{GlobalType}
use Rattle.wm_syntax.specs.declared.types.Limits.{Limits}
use Rattle.wm_syntax.specs.declared.types.ValType.{ValType}

-- Numbers in the fewest bytes (Core spec 5.2.2).
abbrev pub u32_bytes : ℕ → List ℕ
u32_bytes n = unsigned_bytes 5 n

abbrev pub s32_bytes : ℤ → List ℕ
s32_bytes z = signed_bytes 5 z

abbrev pub s64_bytes : ℤ → List ℕ
s64_bytes z = signed_bytes 10 z

-- The bytes of a code: the code itself if it is a byte, else FC and a number (Core spec 5.4, WebAssembly 2.0 5.4).
abbrev pub opcode_bytes : ℕ → List ℕ
opcode_bytes c = if nat_lt c 0x100 then c ∷ [] else 0xFC ∷ u32_bytes (c - 0x100)

-- The bytes after the code of an instruction (Core spec 5.4.1 to 5.4.5, WebAssembly 2.0 5.4.5 and 5.4.6).
abbrev pub immediates : Simple → List ℕ
immediates (Br l) = u32_bytes l
immediates (BrIf l) = u32_bytes l
immediates (Call x) = u32_bytes x
immediates (CallIndirect x) = u32_bytes x ++ 0x00 ∷ []
immediates (LocalGet x) = u32_bytes x
immediates (LocalSet x) = u32_bytes x
immediates (LocalTee x) = u32_bytes x
immediates (GlobalGet x) = u32_bytes x
immediates (GlobalSet x) = u32_bytes x
immediates MemorySize = 0x00 ∷ []
immediates MemoryGrow = 0x00 ∷ []
immediates MemoryCopy = 0x00 ∷ 0x00 ∷ []
immediates MemoryFill = 0x00 ∷ []
immediates (MemoryInit x) = u32_bytes x ++ 0x00 ∷ []
immediates (DataDrop x) = u32_bytes x
immediates (TableInit x) = u32_bytes x ++ 0x00 ∷ []
immediates (ElemDrop x) = u32_bytes x
immediates TableCopy = 0x00 ∷ 0x00 ∷ []
immediates (I32Const n) = s32_bytes n
immediates (I64Const n) = s64_bytes n
immediates (F32Const n) = float_bytes 4 n
immediates (F64Const n) = float_bytes 8 n
immediates (Load o at) = u32_bytes at.align ++ u32_bytes at.offset
immediates (Store o at) = u32_bytes at.align ++ u32_bytes at.offset
immediates _ = []

-- The bytes of an op (Core spec 5.4).
abbrev pub op_bytes : Op → List ℕ
op_bytes (op.Simple i) = opcode_bytes (opcode i).0 ++ immediates i
op_bytes (op.Block t) = 0x02 ∷ block_byte t ∷ []
op_bytes (op.Loop t) = 0x03 ∷ block_byte t ∷ []
op_bytes (op.If t) = 0x04 ∷ block_byte t ∷ []
op_bytes op.Else = 0x05 ∷ []
op_bytes op.End = 0x0B ∷ []
op_bytes (op.BrTable n) = 0x0E ∷ u32_bytes n
op_bytes (op.Label l) = u32_bytes l

-- The bytes of a list of ops, one after another.
abbrev pub ops_bytes : List Op → List ℕ
ops_bytes ops = flat_map op_bytes ops

-- vec(X): the number of values, then the bytes of each (Core spec 5.1.3).
abbrev pub listed : {X : Type 0} → (X → List ℕ) → List X → List ℕ
listed f xs = u32_bytes (length xs) ++ flat_map f xs

-- The number of bytes, then the bytes (Core spec 5.1.3, 5.5.2).
abbrev pub sized : List ℕ → List ℕ
sized b = u32_bytes (length b) ++ b

-- A value type (Core spec 5.3.1).
abbrev pub value_type_bytes : ValType → List ℕ
value_type_bytes t = type_byte t ∷ []

-- A function type (Core spec 5.3.3).
abbrev pub signature_bytes : Signature → List ℕ
signature_bytes s = 0x60 ∷ (listed value_type_bytes s.params ++ listed value_type_bytes s.results)

-- Limits (Core spec 5.3.4), which are also a memory type (Core spec 5.3.5).
abbrev pub bounds_bytes : ℕ → Option ℕ → List ℕ
bounds_bytes min None = 0x00 ∷ u32_bytes min
bounds_bytes min (Some max) = 0x01 ∷ (u32_bytes min ++ u32_bytes max)

abbrev pub limits_bytes : Limits → List ℕ
limits_bytes l = bounds_bytes l.min l.max

-- A table type (Core spec 5.3.6).
abbrev pub table_bytes : Limits → List ℕ
table_bytes l = 0x70 ∷ limits_bytes l

-- A global type (Core spec 5.3.7).
abbrev pub var_byte : Bool → ℕ
var_byte false = 0x00
var_byte true = 0x01

abbrev pub global_type_bytes : GlobalType → List ℕ
global_type_bytes g = type_byte g.ty ∷ var_byte g.var ∷ []

-- An import (Core spec 5.5.5).
abbrev pub desc_bytes : ImportDesc → List ℕ
desc_bytes (Func x) = 0x00 ∷ u32_bytes x
desc_bytes (Table l) = 0x01 ∷ table_bytes l
desc_bytes (Memory l) = 0x02 ∷ limits_bytes l
desc_bytes (Global g) = 0x03 ∷ global_type_bytes g

abbrev pub import_bytes : Import → List ℕ
import_bytes i = sized i.module_name ++ (sized i.item_name ++ desc_bytes i.desc)

-- A constant expression (Core spec 5.4.6).
abbrev pub constant_bytes : Const → List ℕ
constant_bytes c = op_bytes (op.Simple (constant c)) ++ 0x0B ∷ []

-- A global (Core spec 5.5.9).
abbrev pub global_bytes : GlobalDef → List ℕ
global_bytes g = global_type_bytes g.ty ++ constant_bytes g.init

-- An export (Core spec 5.5.10).
abbrev pub export_bytes : Export → List ℕ
export_bytes e = sized e.name ++ kind_byte e.kind ∷ u32_bytes e.index

-- The front of a segment, given the index of its table or memory, or none if it is passive. Without flags it is this
-- index (Core spec 5.5.12, 5.5.14). With flags it is 0 for an active segment of the index 0, 1 for a passive one, and 2
-- with the index for any other (WebAssembly 2.0, 5.5.12, 5.5.14). A passive one has its flag in both forms.
abbrev pub start_bytes : (flagged : Bool) → Option ℕ → List ℕ
start_bytes false None = u32_bytes 1
start_bytes false (Some x) = u32_bytes x
start_bytes true None = u32_bytes 1
start_bytes true (Some x) = if x == 0 then u32_bytes 0 else 0x02 ∷ u32_bytes x

-- The offset of an active segment. A passive one has none.
abbrev pub offset_bytes : SegmentMode → List ℕ
offset_bytes Passive = []
offset_bytes (Active x offset) = constant_bytes offset

-- The element kind, which is 00 for functions. An element segment has it behind the flags 1 and 2 (WebAssembly 2.0, 5.5.12).
abbrev pub element_kind_bytes : (flagged : Bool) → Option ℕ → List ℕ
element_kind_bytes false None = 0x00 ∷ []
element_kind_bytes false (Some x) = []
element_kind_bytes true None = 0x00 ∷ []
element_kind_bytes true (Some x) = if x == 0 then [] else 0x00 ∷ []

-- An element segment (Core spec 5.5.12), without flags or with them.
abbrev pub element_bytes : (flagged : Bool) → Element → List ℕ
element_bytes flagged e =
    start_bytes flagged (index_of e.mode)
    ++ (offset_bytes e.mode ++ (element_kind_bytes flagged (index_of e.mode) ++ listed u32_bytes e.functions))

-- A code entry (Core spec 5.5.13): its size in bytes, then its locals in maximal runs of one type, and its body.
abbrev pub run_bytes : ℕ × ValType → List ℕ
run_bytes r = u32_bytes r.0 ++ value_type_bytes r.1

abbrev pub code_contents : Function → List ℕ
code_contents f = listed run_bytes (runs_of f.locals) ++ (ops_bytes (ops_of f.body) ++ 0x0B ∷ [])

abbrev pub code_bytes : Function → List ℕ
code_bytes f = sized (code_contents f)

-- A data segment (Core spec 5.5.14), without flags or with them.
abbrev pub segment_bytes : (flagged : Bool) → Segment → List ℕ
segment_bytes flagged s = start_bytes flagged (index_of s.mode) ++ (offset_bytes s.mode ++ sized s.bytes)

-- A section: its id, the size of its contents, and its contents (Core spec 5.5.2). An empty list has no section.
abbrev pub section : ℕ → List ℕ → List ℕ
section id contents = id ∷ sized contents

abbrev pub list_section : {X : Type 0} → ℕ → (X → List ℕ) → List X → List ℕ
list_section id f [] = []
list_section id f (x ∷ xs) = section id (listed f (x ∷ xs))

-- The start section, omitted without a start function (Core spec 5.5.11).
abbrev pub start_section : Option ℕ → List ℕ
start_section None = []
start_section (Some x) = section 8 (u32_bytes x)

-- The data count section of n data segments, omitted if no body names one (WebAssembly 2.0, 5.5.15 and 5.5.16).
abbrev pub data_count_section : (named : Bool) → ℕ → List ℕ
data_count_section false n = []
data_count_section true n = section 12 (u32_bytes n)

-- The header, then the sections in their order (Core spec 5.5.15, WebAssembly 2.0 5.5.16). The segments have flags, or
-- none.
abbrev pub canon_with : (flagged : Bool) → Module → List ℕ
canon_with flagged m =
    header
    ++ (list_section 1 signature_bytes m.types
    ++ (list_section 2 import_bytes m.imports
    ++ (list_section 3 (λ f. u32_bytes f.type_index) m.functions
    ++ (list_section 4 table_bytes m.tables
    ++ (list_section 5 limits_bytes m.memories
    ++ (list_section 6 global_bytes m.globals
    ++ (list_section 7 export_bytes m.exports
    ++ (start_section m.start
    ++ (list_section 9 (element_bytes flagged) m.elements
    ++ (data_count_section (bodies_name_segment m.functions) (length m.segments)
    ++ (list_section 10 code_bytes m.functions
    ++ list_section 11 (segment_bytes flagged) m.segments)))))))))))

-- The canonical binary of a module.
abbrev pub canon : Module → List ℕ
canon m = canon_with false m

-- Whether a module needs bulk memory for its segments: one of them is passive, or a body names a data segment.
abbrev pub is_passive : SegmentMode → Bool
is_passive Passive = true
is_passive (Active x offset) = false

abbrev pub has_passive : Module → Bool
has_passive m = list_any (λ e. is_passive e.mode) m.elements || list_any (λ s. is_passive s.mode) m.segments

abbrev pub needs_bulk : Module → Bool
needs_bulk m = has_passive m || bodies_name_segment m.functions

-- Whether a profile reads the segments of a module with flags. Only such a profile has a module that needs it.
abbrev pub with_flags : Profile → Module → Bool
with_flags p m = has p BulkMemory || needs_bulk m

-- The canonical binary of a module as a profile reads it. It is `canon m`, except that an active segment of another table
-- or memory than 0 has a flag before its index if the profile has bulk memory, or the module needs it. No module with
-- such a segment is valid.
abbrev pub canon_under : Profile → Module → List ℕ
canon_under p m = canon_with (with_flags p m) m

-- The contents of a list's section have fewer than 2^32 bytes, as their size is a u32 (Core spec 5.5.2).
abbrev pub CanBeSized : {X : Type 0} → (X → List ℕ) → List X → Type 0
CanBeSized f xs = length (listed f xs) < 2 ^ 32

-- The contents of each section have fewer than 2^32 bytes.
pub record FitsWith (flagged : Bool) (m : Module) : Type 0 where
  pub types : CanBeSized signature_bytes m.types
  pub imports : CanBeSized import_bytes m.imports
  pub functions : CanBeSized (λ f. u32_bytes f.type_index) m.functions
  pub tables : CanBeSized table_bytes m.tables
  pub memories : CanBeSized limits_bytes m.memories
  pub globals : CanBeSized global_bytes m.globals
  pub exports : CanBeSized export_bytes m.exports
  pub elements : CanBeSized (element_bytes flagged) m.elements
  pub codes : CanBeSized code_bytes m.functions
  pub segments : CanBeSized (segment_bytes flagged) m.segments

-- The sections of `canon m` fit, and those of `canon_under p m`.
abbrev pub Fits : Module → Type 0
Fits m = FitsWith false m

abbrev pub FitsUnder : Profile → Module → Type 0
FitsUnder p m = FitsWith (with_flags p m) m

-- The bytes a are no longer than any bytes that have the form P.
abbrev pub NoLonger : List ℕ → Form ℕ → Type 0
NoLonger a P = (b : List ℕ) → P b → length a ≤ length b

-- The contents of a list's section are no longer than any spelling of the same list (Core spec 5.5).
abbrev pub IsShortest : {X : Type 0} → (X → List ℕ) → (X → Form ℕ) → List X → Type 0
IsShortest f S xs = NoLonger (listed f xs) (SpellsList S xs)

-- The contents of each section are no longer than any spelling of the same list, index or number, under each profile.
pub record HasShortestSections (m : Module) : Type 0 where
  pub types : IsShortest signature_bytes SpellsSignature m.types
  pub imports : IsShortest import_bytes SpellsImport m.imports
  pub functions : IsShortest (λ f. u32_bytes f.type_index) (λ f. SpellsU32 f.type_index) m.functions
  pub tables : IsShortest table_bytes SpellsTableType m.tables
  pub memories : IsShortest limits_bytes SpellsLimits m.memories
  pub globals : (p : Profile) → IsShortest global_bytes (SpellsGlobal p) m.globals
  pub exports : IsShortest export_bytes SpellsExport m.exports
  pub start : (x : ℕ) → m.start ≡ Some x → NoLonger (u32_bytes x) (SpellsU32 x)
  pub elements : (p : Profile) → IsShortest (element_bytes false) (SpellsElement p) m.elements
  pub data_count : NoLonger (u32_bytes (length m.segments)) (SpellsU32 (length m.segments))
  pub codes : (p : Profile) → IsShortest code_bytes (SpellsCode p) m.functions
  pub segments : (p : Profile) → IsShortest (segment_bytes false) (SpellsSegment p) m.segments
