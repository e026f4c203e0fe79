-- Everything that is spelled consists of bytes.
use Rattle.std.proofs.Common.{ℕ, zero, suc, ◌<◌, ◌/◌, ◌%◌, ◌^◌, ℤ, List, [], ◌∷◌, Option, Some, None, length, sym, subst, arith, inl, inr, ◌-◌, Bool, true, false}
use Rattle.wm_machine.specs.Sections.{SpellsMemory}
use Rattle.wm_syntax.specs.Profiles.{has}
use Rattle.wm_syntax.specs.declared.profile.Feature.TheVariants.{BulkMemory}
use Rattle.wm_syntax.specs.declared.types.ValType.{ValType}
use Rattle.wm_syntax.specs.declared.types.ValType.TheVariants.{I32, I64, F32, F64}
use Rattle.wm_syntax.specs.declared.types.Limits.{Limits}
use Rattle.wm_syntax.specs.declared.types.GlobalType.{GlobalType}
use Rattle.wm_syntax.specs.declared.instructions.Simple.{Simple}
use Rattle.wm_syntax.specs.declared.instructions.Simple.TheVariants as s
use Rattle.wm_syntax.specs.declared.instructions.Op.{Op}
use Rattle.wm_syntax.specs.declared.instructions.Op.TheVariants as op
use Rattle.wm_syntax.specs.declared.modules.ImportDesc.{ImportDesc}
use Rattle.wm_syntax.specs.declared.modules.ImportDesc.TheVariants as desc
use Rattle.wm_syntax.specs.declared.modules.ExportKind.{ExportKind}
use Rattle.wm_syntax.specs.declared.modules.ExportKind.TheVariants as kind
use Rattle.wm_syntax.specs.declared.profile.Profile.{Profile}
use Rattle.wm_syntax.proofs.CodeBytes.{code_forms}
use Rattle.wm_syntax.specs.Spelling.{Form, Byte, Exactly, AreBytes, Each, ◌▸◌}
use Rattle.wm_syntax.specs.Leb128.{Unsigned, Signed}
use Rattle.wm_syntax.specs.Types.{Signature, SpellsU32, SpellsBytes, SpellsName, SpellsList, SpellsValType, SpellsBlockType, SpellsSignature, SpellsBounds, SpellsLimits, SpellsTableType, SpellsVar, SpellsGlobalType}
use Rattle.wm_syntax.specs.Encodings.{SpellsOpcode, SpellsExpression, SpellsFloat, SpellsImmediates, SpellsOp, SpellsTable}
use Rattle.wm_syntax.specs.Profiles.{HasSignature}
use Rattle.wm_syntax.specs.Opcodes.{opcode}
use Rattle.wm_syntax.specs.Modules.{Import, Module, bodies_name_segment, constant_body, index_of}
use Rattle.wm_syntax.specs.declared.modules.SegmentMode.{SegmentMode}
use Rattle.wm_syntax.specs.declared.modules.SegmentMode.TheVariants.{Passive, Active}
use Rattle.wm_syntax.specs.Instructions.{Instructions}
use Rattle.wm_syntax.proofs.Flat.{ops_of_instructions}
use Rattle.wm_machine.specs.Sections.{Sized, Those, Section, ListSection, StartSection, Customs, SpellsCustom, header, SpellsDesc, SpellsImport, SpellsExport, SpellsRun, SpellsModule, kind_byte, SpellsGlobal, SpellsElement, SpellsLocals, SpellsCode, SpellsOffset, SpellsSegment, DataCountSection}
use Rattle.wm_machine.specs.Items.{Marks}
use Rattle.wm_machine.specs.Grammar.{strict, ModuleForm as Whole}
use Rattle.wm_machine.specs.Grammar.{HasGlobalType}
use Rattle.wm_machine.specs.Flat.{FlatDataCount, HasImport, SpellsFlatOffset, SpellsOps, SpellsFlatGlobal, SpellsFlatElement, SpellsFlatCode, SpellsFlatSegment, FlatModule, InOrder, flat_sections, SpellsFlat}
use Rattle.wm_machine.proofs.ByteLists.{bytes-append}
use Rattle.wm_machine.proofs.GrammarValues.{items_to}
use Rattle.wm_machine.specs.Sections.{SpellsElements}

-- what the form describes consists of bytes
abbrev InBytes : Form ℕ → Type 0
InBytes P = (b : List ℕ) → P b → AreBytes b

in_byte : (c : ℕ) → c < 2 ^ 8 → InBytes (Byte c)
in_byte c l b h = subst AreBytes (sym h) (l, tt)

in_none : InBytes (Exactly [])
in_none b h = subst AreBytes (sym h) tt

in_then : {P Q : Form ℕ} → InBytes P → InBytes Q → InBytes (P ▸ Q)
in_then p q b h = subst AreBytes (sym h.2) (bytes-append h.0 h.1 (p h.0 h.3) (q h.1 h.4))

in_each : {X : Type 0} (V : X → Form ℕ) → ((x : X) → InBytes (V x)) → (xs : List X) → InBytes (Each V xs)
in_each V v [] b h = in_none b h
in_each V v (x ∷ xs) b h = in_then {P = V x} {Q = Each V xs} (v x) (in_each V v xs) b h

-- numbers
in_unsigned : (bits n : ℕ) → InBytes (Unsigned bits n)
in_unsigned bits n [] h = tt
in_unsigned bits n (c ∷ more) (inl (small, fits, is, ends)) = (omega arith, subst AreBytes (sym ends) tt)
in_unsigned bits n (c ∷ more) (inr (large, byte, some, high, is, rest)) = (byte, in_unsigned (bits - 7) high more rest)

in_signed : (bits : ℕ) (z : ℤ) → InBytes (Signed bits z)
in_signed bits z [] h = tt
in_signed bits z (c ∷ more) (inl (small, fits, is, ends)) = (omega arith, subst AreBytes (sym ends) tt)
in_signed bits z (c ∷ more) (inr (inl (from, below, fits, is, ends))) = (omega arith, subst AreBytes (sym ends) tt)
in_signed bits z (c ∷ more) (inr (inr (large, byte, some, high, is, rest))) = (byte, in_signed (bits - 7) high more rest)

in_u32 : (n : ℕ) → InBytes (SpellsU32 n)
in_u32 = in_unsigned 32

in_list : {X : Type 0} (V : X → Form ℕ) → ((x : X) → InBytes (V x)) → (xs : List X) → InBytes (SpellsList V xs)
in_list V v xs = in_then (in_u32 (length xs)) (in_each V v xs)

in_bytes : (bytes : List ℕ) → InBytes (SpellsBytes bytes)
in_bytes bytes = in_then (in_u32 (length bytes)) (λ b h. subst AreBytes (sym h.0) h.1)

in_name : (text : List ℕ) → InBytes (SpellsName text)
in_name text b h = in_bytes text b h.0

-- types
in_type : (t : ValType) → InBytes (SpellsValType t)
in_type I32 = in_byte 0x7F (omega arith)
in_type I64 = in_byte 0x7E (omega arith)
in_type F32 = in_byte 0x7D (omega arith)
in_type F64 = in_byte 0x7C (omega arith)

in_block : (t : Option ValType) → InBytes (SpellsBlockType t)
in_block None = in_byte 0x40 (omega arith)
in_block (Some t) = in_type t

in_bounds : (min : ℕ) (max : Option ℕ) → InBytes (SpellsBounds min max)
in_bounds min None = in_then (in_byte 0x00 (omega arith)) (in_u32 min)
in_bounds min (Some max) = in_then (in_byte 0x01 (omega arith)) (in_then (in_u32 min) (in_u32 max))

in_limits : (l : Limits) → InBytes (SpellsLimits l)
in_limits l = in_bounds l.min l.max

in_table : (l : Limits) → InBytes (SpellsTableType l)
in_table l = in_then (in_byte 0x70 (omega arith)) (in_limits l)

in_global_type : (g : GlobalType) → InBytes (SpellsGlobalType g)
in_global_type g = in_then (in_type g.ty) (var g.var)
  where
    var : (v : Bool) → InBytes (SpellsVar v)
    var false = in_byte 0x00 (omega arith)
    var true = in_byte 0x01 (omega arith)

-- ops
in_code : (c : ℕ) → InBytes (SpellsOpcode c)
in_code c b h = elim (code_forms c b h) [
  | inl f ↦ in_byte c f.0 b f.1
  | inr f ↦ in_then (in_byte 0xFC (omega arith)) (in_u32 (c - 0x100)) b f.1
]

in_float : (width n : ℕ) → InBytes (SpellsFloat width n)
in_float zero n = λ b h. in_none b h.1
in_float (suc width) n = in_then (in_byte (n % 256) (omega arith)) (in_float width (n / 256))

in_table_index : (p : Profile) → InBytes (SpellsTable p)
in_table_index p b (inl e) = in_byte 0x00 (omega arith) b e
in_table_index p b (inr h) = in_u32 0 b h.1

in_immediates : (p : Profile) (i : Simple) → InBytes (SpellsImmediates p i)
in_immediates p (s.Br l) = in_u32 l
in_immediates p (s.BrIf l) = in_u32 l
in_immediates p (s.Call x) = in_u32 x
in_immediates p (s.CallIndirect x) = in_then (in_u32 x) (in_table_index p)
in_immediates p (s.LocalGet x) = in_u32 x
in_immediates p (s.LocalSet x) = in_u32 x
in_immediates p (s.LocalTee x) = in_u32 x
in_immediates p (s.GlobalGet x) = in_u32 x
in_immediates p (s.GlobalSet x) = in_u32 x
in_immediates p s.MemorySize = in_byte 0x00 (omega arith)
in_immediates p s.MemoryGrow = in_byte 0x00 (omega arith)
in_immediates p s.MemoryCopy = in_then (in_byte 0x00 (omega arith)) (in_byte 0x00 (omega arith))
in_immediates p s.MemoryFill = in_byte 0x00 (omega arith)
in_immediates p (s.MemoryInit x) = in_then (in_u32 x) (in_byte 0x00 (omega arith))
in_immediates p (s.DataDrop x) = in_u32 x
in_immediates p (s.TableInit x) = in_then (in_u32 x) (in_u32 0)
in_immediates p (s.ElemDrop x) = in_u32 x
in_immediates p s.TableCopy = in_then (in_u32 0) (in_u32 0)
in_immediates p (s.I32Const n) = in_signed 32 n
in_immediates p (s.I64Const n) = in_signed 64 n
in_immediates p (s.F32Const n) = in_float 4 n
in_immediates p (s.F64Const n) = in_float 8 n
in_immediates p (s.Load o at) = in_then (in_u32 at.align) (in_u32 at.offset)
in_immediates p (s.Store o at) = in_then (in_u32 at.align) (in_u32 at.offset)
in_immediates p _ = in_none

in_op : (p : Profile) (o : Op) → InBytes (SpellsOp p o)
in_op p (op.Simple i) = in_then (in_code (opcode i).0) (in_immediates p i)
in_op p (op.Block t) = in_then (in_byte 0x02 (omega arith)) (in_block t)
in_op p (op.Loop t) = in_then (in_byte 0x03 (omega arith)) (in_block t)
in_op p (op.If t) = in_then (in_byte 0x04 (omega arith)) (in_block t)
in_op p op.Else = in_byte 0x05 (omega arith)
in_op p op.End = in_byte 0x0B (omega arith)
in_op p (op.BrTable n) = in_then (in_byte 0x0E (omega arith)) (in_u32 n)
in_op p (op.Label l) = in_u32 l

-- sections
in_sized : {P : Form ℕ} → InBytes P → InBytes (Sized P)
in_sized p b h = subst AreBytes (sym h.2) (bytes-append h.0 h.1 (in_u32 (length h.1) h.0 h.3) (p h.1 h.4))

in_section : {P : Form ℕ} (id : ℕ) → id < 2 ^ 8 → InBytes P → InBytes (Section id P)
in_section id l p = in_then (in_byte id l) (in_sized p)

in_listed : {X : Type 0} (V : X → Form ℕ) (id : ℕ) → id < 2 ^ 8 → ((x : X) → InBytes (V x)) → (xs : List X) → InBytes (ListSection id V xs)
in_listed V id l v xs b h = elim h [ inl i ↦ in_section id l (in_list V v xs) b i | inr e ↦ in_none b e.1 ]

in_start : (x : Option ℕ) → InBytes (StartSection x)
in_start None = in_none
in_start (Some x) = in_section 8 (omega arith) (in_u32 x)

in_count : (p : Profile) (n : ℕ) (x : Option ℕ) → InBytes (FlatDataCount p n x)
in_count p n None = in_none
in_count p n (Some count) = λ b h. in_section 12 (omega arith) (in_u32 count) b h.2

in_customs : InBytes Customs
in_customs b h = in_each SpellsCustom (λ c. in_section 0 (omega arith) (in_then (in_name c.name) (λ b h. h.1))) h.0 b h.1

-- one section, with what comes before it and after it
in_next : {P Q : Form ℕ} → InBytes P → InBytes Q → InBytes (Customs ▸ P ▸ Q)
in_next p q = in_then in_customs (in_then p q)

in_header : InBytes (Exactly header)
in_header b h = subst AreBytes (sym h) (omega arith, (omega arith, (omega arith, (omega arith, (omega arith, (omega arith, (omega arith, (omega arith, tt))))))))

in_desc : (d : ImportDesc) → InBytes (SpellsDesc d)
in_desc (desc.Func x) = in_then (in_byte 0x00 (omega arith)) (in_u32 x)
in_desc (desc.Table l) = in_then (in_byte 0x01 (omega arith)) (in_table l)
in_desc (desc.Memory l) = in_then (in_byte 0x02 (omega arith)) (in_limits l)
in_desc (desc.Global g) = in_then (in_byte 0x03 (omega arith)) (in_global_type g)

in_signature : (f : Signature) → InBytes (SpellsSignature f)
in_signature f = in_then (in_byte 0x60 (omega arith)) (in_then (in_list SpellsValType in_type f.params) (in_list SpellsValType in_type f.results))

in_import : (i : Import) → InBytes (SpellsImport i)
in_import i = in_then (in_name i.module_name) (in_then (in_name i.item_name) (in_desc i.desc))

in_run : (p : Profile) (r : ℕ × ValType) → InBytes (SpellsRun p r)
in_run p r b h = in_then {P = SpellsU32 r.0} {Q = SpellsValType r.1} (in_u32 r.0) (in_type r.1) b h.1

in_memory : (flagged : Bool) (memory : Option ℕ) → InBytes (SpellsMemory flagged memory)
in_memory false None = λ b h. absurd h
in_memory false (Some x) = in_u32 x
in_memory true None = in_u32 1
in_memory true (Some x) = λ b h. elim h [ inl z ↦ in_u32 0 b z.1 | inr i ↦ in_then (in_u32 2) (in_u32 x) b i ]

in_elements : (flagged : Bool) (table : Option ℕ) (P : Form ℕ) → InBytes P → (functions : List ℕ) → InBytes (SpellsElements flagged table P functions)
in_elements false None P o functions = λ b h. absurd h
in_elements false (Some x) P o functions = in_then (in_u32 x) (in_then o (in_list SpellsU32 in_u32 functions))
in_elements true None P o functions = in_then (in_u32 1) (in_then o (in_then (in_byte 0x00 (omega arith)) (in_list SpellsU32 in_u32 functions)))
in_elements true (Some x) P o functions = λ b h. elim h [
  | inl z ↦ in_then (in_u32 0) (in_then o (in_list SpellsU32 in_u32 functions)) b z.1
  | inr i ↦ in_then (in_u32 2) (in_then (in_u32 x) (in_then o (in_then (in_byte 0x00 (omega arith)) (in_list SpellsU32 in_u32 functions)))) b i
]

in_kind : (k : ExportKind) → InBytes (Byte (kind_byte k))
in_kind kind.Func = in_byte 0x00 (omega arith)
in_kind kind.Table = in_byte 0x01 (omega arith)
in_kind kind.Memory = in_byte 0x02 (omega arith)
in_kind kind.Global = in_byte 0x03 (omega arith)

module _ (p : Profile) where
  in_ops : (ops : List Op) → InBytes (SpellsOps p ops)
  in_ops ops b h = in_each (SpellsOp p) (in_op p) ops b h.2

  in_offset : (memory : Option ℕ) (ops : List Op) → InBytes (SpellsFlatOffset p memory ops)
  in_offset None ops = λ b h. in_none b h.1
  in_offset (Some x) ops = in_ops ops

  in_flat : (v : FlatModule) → InBytes (Exactly header ▸ InOrder (flat_sections p v))
  in_flat v =
      in_then in_header
      (in_next (in_listed (Those (HasSignature p) SpellsSignature) 1 (omega arith) (λ f b h. in_signature f b h.1) v.types)
      (in_next (in_listed (Those (HasImport p) SpellsImport) 2 (omega arith) (λ i b h. in_import i b h.1) v.imports)
      (in_next (in_listed SpellsU32 3 (omega arith) in_u32 v.functions)
      (in_next (in_listed SpellsTableType 4 (omega arith) in_table v.tables)
      (in_next (in_listed SpellsLimits 5 (omega arith) in_limits v.memories)
      (in_next (in_listed (SpellsFlatGlobal p) 6 (omega arith) (λ g. in_then {P = Those (HasGlobalType p) SpellsGlobalType g.ty} {Q = SpellsOps p g.init} (λ b h. in_global_type g.ty b h.1) (in_ops g.init)) v.globals)
      (in_next (in_listed SpellsExport 7 (omega arith) (λ e. in_then (in_name e.name) (in_then (in_kind e.kind) (in_u32 e.index))) v.exports)
      (in_next (in_start v.start)
      (in_next (in_listed (SpellsFlatElement p) 9 (omega arith) (λ e. in_elements (has p BulkMemory) e.table (SpellsFlatOffset p e.table e.offset) (in_offset e.table e.offset) e.functions) v.elements)
      (in_next (in_count p (length v.segments) v.data_count)
      (in_next (in_listed (SpellsFlatCode p) 10 (omega arith) (λ c. in_sized (in_then (in_list (SpellsRun p) (in_run p) c.runs) (in_ops c.ops))) v.codes)
      (in_next (in_listed (SpellsFlatSegment p) 11 (omega arith) (λ s. in_then (in_memory (has p BulkMemory) s.memory) (in_then (in_offset s.memory s.offset) (in_bytes s.bytes))) v.segments)
      in_customs))))))))))))

  pub flat_bytes : (v : FlatModule) (b : List ℕ) → SpellsFlat p v b → AreBytes b
  flat_bytes v b h = in_flat v b h.1

  pub whole_bytes : (b : List ℕ) (k : Marks) → Whole strict p b k → AreBytes b
  whole_bytes b k h = let u = items_to p b k h in flat_bytes u.0 b u.1

  -- the same of a module value
  in_expression : (s : Instructions) → InBytes (SpellsExpression p s)
  in_expression s = in_then (λ b h. let u = ops_of_instructions p s b h in in_each (SpellsOp p) (in_op p) u.0 b u.2) (in_byte 0x0B (omega arith))

  in_mode : (d : SegmentMode) → InBytes (SpellsOffset p d)
  in_mode Passive = in_none
  in_mode (Active x c) = in_expression (constant_body c)

  in_locals : (types : List ValType) → InBytes (SpellsLocals p types)
  in_locals types b h = in_list (SpellsRun p) (in_run p) h.0 b h.3

  in_count_section : (named : Bool) (n : ℕ) → InBytes (DataCountSection p named n)
  in_count_section named n b h = elim h [ inl s ↦ in_section 12 (omega arith) (in_u32 n) b s.1 | inr e ↦ in_none b e.1 ]

  pub spelled_bytes : (m : Module) (b : List ℕ) → SpellsModule p m b → AreBytes b
  spelled_bytes m =
      in_then in_header
      (in_next (in_listed SpellsSignature 1 (omega arith) in_signature m.types)
      (in_next (in_listed SpellsImport 2 (omega arith) in_import m.imports)
      (in_next (in_listed (λ f. SpellsU32 f.type_index) 3 (omega arith) (λ f. in_u32 f.type_index) m.functions)
      (in_next (in_listed SpellsTableType 4 (omega arith) in_table m.tables)
      (in_next (in_listed SpellsLimits 5 (omega arith) in_limits m.memories)
      (in_next (in_listed (SpellsGlobal p) 6 (omega arith) (λ g. in_then (in_global_type g.ty) (in_expression (constant_body g.init))) m.globals)
      (in_next (in_listed SpellsExport 7 (omega arith) (λ e. in_then (in_name e.name) (in_then (in_kind e.kind) (in_u32 e.index))) m.exports)
      (in_next (in_start m.start)
      (in_next (in_listed (SpellsElement p) 9 (omega arith) (λ e. in_elements (has p BulkMemory) (index_of e.mode) (SpellsOffset p e.mode) (in_mode e.mode) e.functions) m.elements)
      (in_next (in_count_section (bodies_name_segment m.functions) (length m.segments))
      (in_next (in_listed (SpellsCode p) 10 (omega arith) (λ f. in_sized (in_then (in_locals f.locals) (in_expression f.body))) m.functions)
      (in_next (in_listed (SpellsSegment p) 11 (omega arith) (λ s. in_then (in_memory (has p BulkMemory) (index_of s.mode)) (in_then (in_mode s.mode) (in_bytes s.bytes))) m.segments)
      in_customs))))))))))))
