-- The canonical binary spells its module.
use Rattle.std.proofs.Common.{ℕ, suc, ◌+◌, ◌≡◌, ◌<◌, ◌≤◌, ◌^◌, List, [], ◌∷◌, ◌++◌, Option, Some, None, Bool, true, false, length, refl, sym, ◌∙◌, ap, subst, append-nil, length-append, arith, map, flat_map, replicate, inl, inr, cond, nat_lt, ◌%◌, ◌/◌, IsTrue}
use Rattle.std.specs.Prelude.{◌==◌}
use Rattle.std.proofs.lemmas.Bool.{eqb-true}
use Rattle.wm_write.proofs.OpcodeBytes.{two_bytes, zero_bytes}
use Rattle.wm_syntax.specs.declared.profile.Feature.TheVariants.{BulkMemory}
use Rattle.wm_syntax.specs.declared.modules.SegmentMode.TheVariants.{Passive, Active}
use Rattle.wm_syntax.specs.declared.modules.SegmentMode.{SegmentMode}
use Rattle.wm_syntax.proofs.NumberLoops.{short}
use Rattle.std.specs.Prelude.{IsUtf8, IfSome, ◌-◌}
use Rattle.std.specs.List.{AllByRecursion}
use Rattle.std.proofs.lemmas.List.{length-replicate}
use Rattle.wm_syntax.specs.Leb128.{unsigned_bytes}
use Rattle.wm_syntax.specs.Spelling.{Form, Byte, Each, AreBytes, ◌▸◌}
use Rattle.wm_syntax.specs.declared.types.ValType.{ValType}
use Rattle.wm_syntax.specs.declared.types.Limits.{Limits}
use Rattle.wm_syntax.specs.declared.types.GlobalType.{GlobalType}
use Rattle.wm_syntax.specs.declared.types.Const.{Const}
use Rattle.wm_syntax.specs.declared.modules.ImportDesc.{ImportDesc}
use Rattle.wm_syntax.specs.declared.modules.ImportDesc.TheVariants.{Func, Table, Memory, Global}
use Rattle.wm_syntax.specs.declared.instructions.Simple.{Simple}
use Rattle.wm_syntax.specs.declared.instructions.Simple.TheVariants.{Unreachable, Nop, Return, Drop, Select, Br, BrIf, Call, CallIndirect, LocalGet, LocalSet, LocalTee, GlobalGet, GlobalSet, MemorySize, MemoryGrow, MemoryCopy, MemoryFill, MemoryInit, DataDrop, I32Const, I64Const, F32Const, F64Const, Load, Store, Numeric, TableInit, ElemDrop, TableCopy}
use Rattle.wm_syntax.specs.declared.instructions.Op.{Op}
use Rattle.wm_syntax.specs.declared.instructions.Op.TheVariants as op
use Rattle.wm_syntax.specs.declared.profile.Profile.{Profile}
use Rattle.wm_syntax.specs.declared.profile.Feature.TheVariants.{BulkMemory}
use Rattle.wm_syntax.specs.Profiles.{HasType, has}
use Rattle.wm_syntax.specs.Types.{Signature, block_byte, type_byte, SpellsU32, SpellsList, SpellsName, SpellsValType, SpellsSignature, SpellsBounds, SpellsLimits, SpellsTableType, SpellsVar, SpellsGlobalType, SpellsBlockType}
use Rattle.wm_syntax.specs.Instructions.{Instruction, Instructions, none, snoc, simple, table, block, loop, choice, instruction_ops, ops_of, else_ops}
use Rattle.wm_syntax.specs.Encodings.{SpellsOpcode, SpellsOpcodeBy, SpellsImmediates, SpellsSimple, SpellsOp, SpellsInstructions}
use Rattle.wm_syntax.specs.Modules.{IsU32, IsSimple, IsInstruction, AreInstructions, AreLimits, IsDesc, IsConst, IsMode, IsModule, Module, Import, Function, GlobalDef, Export, Element, Segment, constant, index_of, bodies_name_segment}
use Rattle.wm_syntax.proofs.Spellings.{unsigned_spells, signed_spells}
use Rattle.wm_syntax.proofs.FloatBytes.{float_spells}
use Rattle.wm_syntax.proofs.Bodies.{has_ops}
use Rattle.wm_syntax.proofs.Flat.{spelled_by_ops}
use Rattle.wm_machine.specs.Sections.{DataCountSection, ListSection, StartSection, Customs, SpellsConst, SpellsDesc, SpellsImport, SpellsGlobal, SpellsExport, SpellsElement, SpellsElements, SpellsRun, SpellsLocals, SpellsCode, SpellsMemory, SpellsOffset, SpellsSegment, SpellsModule, kind_byte}
use Rattle.wm_syntax.specs.Modules.{locals_of}
use Rattle.wm_machine.proofs.NameBytes.{utf8_bytes}
use Rattle.wm_syntax.specs.Runs.{same, type_before, runs_of}
use Rattle.wm_syntax.proofs.SameTypes.{means}
use Rattle.wm_write.specs.Canon.{opcode_bytes, immediates, u32_bytes, op_bytes, ops_bytes}
use Rattle.wm_syntax.specs.Opcodes.{opcode}
use Rattle.wm_syntax.proofs.OpTable.{small_code}
use Rattle.wm_write.proofs.Ranges.{CanMode, HaveLocals, HaveModes, both_in, MayCount}
use Rattle.wm_write.specs.Canon.{listed, sized, value_type_bytes, signature_bytes, bounds_bytes, limits_bytes, table_bytes, var_byte, global_type_bytes, desc_bytes, import_bytes, constant_bytes, global_bytes, export_bytes, element_bytes, run_bytes, code_contents, code_bytes, segment_bytes, list_section, start_section, canon_with, FitsWith, start_bytes, element_kind_bytes, offset_bytes, data_count_section, canon, Fits}

-- numbers
number : (n : ℕ) → IsU32 n → SpellsU32 n (u32_bytes n)
number n h = unsigned_spells 32 5 n (omega arith) (omega arith) h

-- ops
one_number : (byte n : ℕ) → IsU32 n → (Byte byte ▸ SpellsU32 n) (byte ∷ u32_bytes n)
one_number byte n h = (byte ∷ [], u32_bytes n, refl, refl, number n h)

opcode_spells : (c : ℕ) → c < 0x10F → SpellsOpcode c (opcode_bytes c)
opcode_spells c l = by (nat_lt c 0x100) refl
  where
    by : (b : Bool) → nat_lt c 0x100 ≡ b → SpellsOpcodeBy b c (cond b (c ∷ []) (0xFC ∷ u32_bytes (c - 0x100)))
    by true e = refl
    by false e = (0xFC ∷ [], u32_bytes (c - 0x100), refl, refl, number (c - 0x100) (omega (arith, l)))

two_numbers : (n k : ℕ) → IsU32 n → IsU32 k → (SpellsU32 n ▸ SpellsU32 k) (u32_bytes n ++ u32_bytes k)
two_numbers n k h j = (u32_bytes n, u32_bytes k, refl, number n h, number k j)

byte_numbers : (byte n k : ℕ) → IsU32 n → IsU32 k → (Byte byte ▸ SpellsU32 n ▸ SpellsU32 k) (byte ∷ (u32_bytes n ++ u32_bytes k))
byte_numbers byte n k h j = (byte ∷ [], u32_bytes n ++ u32_bytes k, refl, refl, two_numbers n k h j)

zero_spells : SpellsU32 0 (0x00 ∷ [])
zero_spells = subst (SpellsU32 0) zero_bytes (number 0 (omega arith))

immediates_spell : (p : Profile) (i : Simple) → IsSimple i → SpellsImmediates p i (immediates i)
immediates_spell p (Br l) h = number l h
immediates_spell p (BrIf l) h = number l h
immediates_spell p (Call x) h = number x h
immediates_spell p (CallIndirect x) h = (u32_bytes x, 0x00 ∷ [], refl, number x h, inl refl)
immediates_spell p (LocalGet x) h = number x h
immediates_spell p (LocalSet x) h = number x h
immediates_spell p (LocalTee x) h = number x h
immediates_spell p (GlobalGet x) h = number x h
immediates_spell p (GlobalSet x) h = number x h
immediates_spell p MemorySize h = refl
immediates_spell p MemoryGrow h = refl
immediates_spell p MemoryCopy h = (0x00 ∷ [], 0x00 ∷ [], refl, refl, refl)
immediates_spell p MemoryFill h = refl
immediates_spell p (MemoryInit x) h = (u32_bytes x, 0x00 ∷ [], refl, number x h, refl)
immediates_spell p (DataDrop x) h = number x h
immediates_spell p (TableInit x) h = (u32_bytes x, 0x00 ∷ [], refl, number x h, zero_spells)
immediates_spell p (ElemDrop x) h = number x h
immediates_spell p TableCopy h = (0x00 ∷ [], 0x00 ∷ [], refl, zero_spells, zero_spells)
immediates_spell p (I32Const n) h = signed_spells 32 5 n (omega arith) (omega arith) h
immediates_spell p (I64Const n) h = signed_spells 64 10 n (omega arith) (omega arith) h
immediates_spell p (F32Const n) h = float_spells 4 n h
immediates_spell p (F64Const n) h = float_spells 8 n h
immediates_spell p (Load o at) h = two_numbers at.align at.offset h.0 h.1
immediates_spell p (Store o at) h = two_numbers at.align at.offset h.0 h.1
immediates_spell p Unreachable h = refl
immediates_spell p Nop h = refl
immediates_spell p Return h = refl
immediates_spell p Drop h = refl
immediates_spell p Select h = refl
immediates_spell p (Numeric o) h = refl

simple_spells : (p : Profile) (i : Simple) → IsSimple i → SpellsSimple p i (op_bytes (op.Simple i))
simple_spells p i h = (opcode_bytes (opcode i).0, immediates i, refl, opcode_spells (opcode i).0 (small_code i), immediates_spell p i h)

block_spells : (byte : ℕ) (t : Option ValType) → (Byte byte ▸ SpellsBlockType t) (byte ∷ block_byte t ∷ [])
block_spells byte t = (byte ∷ [], block_byte t ∷ [], refl, refl, refl)

-- an op whose numbers are in the ranges of their types
abbrev IsOp : Op → Type 0
IsOp (op.Simple i) = IsSimple i
IsOp (op.BrTable n) = IsU32 n
IsOp (op.Label l) = IsU32 l
IsOp _ = Unit {0}

op_spells : (p : Profile) (o : Op) → IsOp o → SpellsOp p o (op_bytes o)
op_spells p (op.Simple i) h = simple_spells p i h
op_spells p (op.Block t) h = block_spells 0x02 t
op_spells p (op.Loop t) h = block_spells 0x03 t
op_spells p (op.If t) h = block_spells 0x04 t
op_spells p op.Else h = refl
op_spells p op.End h = refl
op_spells p (op.BrTable n) h = one_number 0x0E n h
op_spells p (op.Label l) h = number l h

-- the ops of instructions have the ranges of these
all_append : {X : Type 0} (P : X → Type 0) (xs ys : List X) → AllByRecursion P xs → AllByRecursion P ys → AllByRecursion P (xs ++ ys)
all_append P [] ys h k = k
all_append P (x ∷ xs) ys h k = (h.0, all_append P xs ys h.1 k)

labels_in : (ls : List ℕ) → AllByRecursion IsU32 ls → AllByRecursion IsOp (map op.Label ls)
labels_in [] h = tt
labels_in (l ∷ ls) h = (h.0, labels_in ls h.1)

else_in : (s : Instructions) → AllByRecursion IsOp (ops_of s) → AllByRecursion IsOp (else_ops s (ops_of s))
else_in none h = tt
else_in (snoc s i) h = (tt, h)

mutual
  op_in : (i : Instruction) → IsInstruction i → AllByRecursion IsOp (instruction_ops i)
  op_in (simple i) h = (h, tt)
  op_in (table ls d) h = (h.1, all_append IsOp (map op.Label ls) (op.Label d ∷ []) (labels_in ls h.0) (h.2, tt))
  op_in (block t s) h = (tt, all_append IsOp (ops_of s) (op.End ∷ []) (ops_in s h) (tt, tt))
  op_in (loop t s) h = (tt, all_append IsOp (ops_of s) (op.End ∷ []) (ops_in s h) (tt, tt))
  op_in (choice t f s) h =
      (tt, all_append IsOp (ops_of f ++ else_ops s (ops_of s)) (op.End ∷ []) (all_append IsOp (ops_of f) (else_ops s (ops_of s)) (ops_in f h.0) (else_in s (ops_in s h.1))) (tt, tt))

  ops_in : (s : Instructions) → AreInstructions s → AllByRecursion IsOp (ops_of s)
  ops_in none h = tt
  ops_in (snoc s i) h = all_append IsOp (ops_of s) (instruction_ops i) (ops_in s h.0) (op_in i h.1)

each_op : (p : Profile) (ops : List Op) → AllByRecursion IsOp ops → Each (SpellsOp p) ops (ops_bytes ops)
each_op p [] h = refl
each_op p (o ∷ ops) h = (op_bytes o, ops_bytes ops, refl, op_spells p o h.0, each_op p ops h.1)

pub instructions_spell : (p : Profile) (s : Instructions) → AreInstructions s → SpellsInstructions p s (ops_bytes (ops_of s))
instructions_spell p s h = spelled_by_ops p s (ops_of s) (ops_bytes (ops_of s)) (has_ops s) (each_op p (ops_of s) (ops_in s h))

-- Lists: each member is spelled where it is not too large, and is at least a byte.
part_less : (a b : List ℕ) (n : ℕ) → length (a ++ b) < n → (length a < n) × (length b < n)
part_less a b n h = let e : length (a ++ b) ≡ length a + length b = length-append a b in (omega arith, omega arith)

module _ {X : Type 0} (P : X → Form ℕ) (f : X → List ℕ) (I : X → Type 0) (item : (x : X) → I x → length (f x) < 2 ^ 32 → P x (f x)) where
  each_spells : (xs : List X) → AllByRecursion I xs → length (flat_map f xs) < 2 ^ 32 → Each P xs (flat_map f xs)
  each_spells [] h few = refl
  each_spells (x ∷ xs) h few = let l = part_less (f x) (flat_map f xs) (2 ^ 32) few in (f x, flat_map f xs, refl, item x h.0 l.0, each_spells xs h.1 l.1)

  module _ (some : (x : X) → 1 ≤ length (f x)) where
    many : (xs : List X) → length xs ≤ length (flat_map f xs)
    many [] = omega arith
    many (x ∷ xs) = omega (arith, some x, many xs, length-append (f x) (flat_map f xs))

    pub few_listed : (xs : List X) → length (listed f xs) < 2 ^ 32 → IsU32 (length xs)
    few_listed xs few = let l = part_less (u32_bytes (length xs)) (flat_map f xs) (2 ^ 32) few in omega (arith, many xs, l.1)

    pub list_spells : (xs : List X) → AllByRecursion I xs → length (listed f xs) < 2 ^ 32 → SpellsList P xs (listed f xs)
    list_spells xs h few =
        let l = part_less (u32_bytes (length xs)) (flat_map f xs) (2 ^ 32) few in
        (u32_bytes (length xs), flat_map f xs, refl, number (length xs) (few_listed xs few), each_spells xs h l.1)

    pub section_spells : (id : ℕ) (xs : List X) → AllByRecursion I xs → length (listed f xs) < 2 ^ 32 → ListSection id P xs (list_section id f xs)
    section_spells id [] h few = inr (refl, refl)
    section_spells id (x ∷ xs) h few =
        inl (id ∷ [], sized (listed f (x ∷ xs)), refl, refl, (u32_bytes (length (listed f (x ∷ xs))), listed f (x ∷ xs), refl, number (length (listed f (x ∷ xs))) few, list_spells (x ∷ xs) h few))

any_all : {X : Type 0} (xs : List X) → AllByRecursion (λ x. Unit {0}) xs
any_all [] = tt
any_all (x ∷ xs) = (tt, any_all xs)

some_bytes : (k n : ℕ) → 1 ≤ length (unsigned_bytes (suc k) n)
unfolding unsigned_bytes
some_bytes k n = go (nat_lt n 128)
  where
    go : (b : Bool) → 1 ≤ length (cond b (n ∷ []) ((n % 128 + 128) ∷ unsigned_bytes k (n / 128)))
    go true = omega arith
    go false = omega arith

number_some : (n : ℕ) → 1 ≤ length (u32_bytes n)
number_some n = some_bytes 4 n

one_more : (x : ℕ) (xs : List ℕ) → 1 ≤ length (x ∷ xs)
one_more x xs = omega arith

types_spell : (ts : List ValType) → length (listed value_type_bytes ts) < 2 ^ 32 → SpellsList SpellsValType ts (listed value_type_bytes ts)
types_spell ts few = list_spells SpellsValType value_type_bytes (λ t. Unit {0}) (λ t h l. refl) (λ t. one_more (type_byte t) []) ts (any_all ts) few

sig_spells : (s : Signature) → length (signature_bytes s) < 2 ^ 32 → SpellsSignature s (signature_bytes s)
sig_spells s few =
    let l = part_less (listed value_type_bytes s.params) (listed value_type_bytes s.results) (2 ^ 32) (omega arith) in
    (0x60 ∷ [], listed value_type_bytes s.params ++ listed value_type_bytes s.results, refl, refl, (listed value_type_bytes s.params, listed value_type_bytes s.results, refl, types_spell s.params l.0, types_spell s.results l.1))

limits_spell : (l : Limits) → AreLimits l → SpellsLimits l (limits_bytes l)
limits_spell l h = go l.min l.max h.0 h.1
  where
    go : (min : ℕ) (max : Option ℕ) → IsU32 min → IfSome max IsU32 → SpellsBounds min max (bounds_bytes min max)
    go min None a b = one_number 0x00 min a
    go min (Some max) a b = byte_numbers 0x01 min max a b

table_spells : (l : Limits) → AreLimits l → SpellsTableType l (table_bytes l)
table_spells l h = (0x70 ∷ [], limits_bytes l, refl, refl, limits_spell l h)

global_type_spells : (g : GlobalType) → SpellsGlobalType g (global_type_bytes g)
global_type_spells g = (value_type_bytes g.ty, var_byte g.var ∷ [], refl, refl, go g.var)
  where
    go : (b : Bool) → SpellsVar b (var_byte b ∷ [])
    go false = refl
    go true = refl

bytes_spell : (b : List ℕ) → AreBytes b → length (sized b) < 2 ^ 32 → (SpellsU32 (length b) ▸ λ c. (c ≡ b) × AreBytes b) (sized b)
bytes_spell b h few = let l = part_less (u32_bytes (length b)) b (2 ^ 32) few in (u32_bytes (length b), b, refl, number (length b) l.1, (refl, h))

name_spells : (b : List ℕ) → IsUtf8 b → length (sized b) < 2 ^ 32 → SpellsName b (sized b)
name_spells b u few = (bytes_spell b (utf8_bytes b u) few, u)

desc_spells : (d : ImportDesc) → IsDesc d → SpellsDesc d (desc_bytes d)
desc_spells (Func x) h = one_number 0x00 x h
desc_spells (Table l) h = (0x01 ∷ [], table_bytes l, refl, refl, table_spells l h)
desc_spells (Memory l) h = (0x02 ∷ [], limits_bytes l, refl, refl, limits_spell l h)
desc_spells (Global g) h = (0x03 ∷ [], global_type_bytes g, refl, refl, global_type_spells g)

import_spells : (i : Import) → IsUtf8 i.module_name × IsUtf8 i.item_name × IsDesc i.desc → length (import_bytes i) < 2 ^ 32 → SpellsImport i (import_bytes i)
import_spells i h few =
    let l = part_less (sized i.module_name) (sized i.item_name ++ desc_bytes i.desc) (2 ^ 32) few in
    let k = part_less (sized i.item_name) (desc_bytes i.desc) (2 ^ 32) l.1 in
    (sized i.module_name, sized i.item_name ++ desc_bytes i.desc, refl, name_spells i.module_name h.0 l.0, (sized i.item_name, desc_bytes i.desc, refl, name_spells i.item_name h.1 k.0, desc_spells i.desc h.2))

const_spells : (p : Profile) (c : Const) → IsConst c → SpellsConst p c (constant_bytes c)
const_spells p c h = (op_bytes (op.Simple (constant c)), 0x0B ∷ [], refl, ([], op_bytes (op.Simple (constant c)), refl, refl, simple_spells p (constant c) h), refl)

global_spells : (p : Profile) (g : GlobalDef) → IsConst g.init → SpellsGlobal p g (global_bytes g)
global_spells p g h = (global_type_bytes g.ty, constant_bytes g.init, refl, global_type_spells g.ty, const_spells p g.init h)

export_spells : (e : Export) → IsUtf8 e.name × IsU32 e.index → length (export_bytes e) < 2 ^ 32 → SpellsExport e (export_bytes e)
export_spells e h few =
    let l = part_less (sized e.name) (kind_byte e.kind ∷ u32_bytes e.index) (2 ^ 32) few in
    (sized e.name, kind_byte e.kind ∷ u32_bytes e.index, refl, name_spells e.name h.0 l.0, one_number (kind_byte e.kind) e.index h.1)

-- locals
added : (t : ValType) (runs : List (ℕ × ValType)) → locals_of (type_before t runs) ≡ t ∷ locals_of runs
added t [] = refl
added t ((n, u) ∷ runs) = by (same t u) refl
  where
    by : (b : Bool) → same t u ≡ b → locals_of (cond b ((n + 1, t) ∷ runs) ((1, t) ∷ (n, u) ∷ runs)) ≡ t ∷ (replicate n u ++ locals_of runs)
    by true e = let s : n + 1 ≡ suc n = omega arith in ap (λ k. replicate k t ++ locals_of runs) s ∙ ap (λ z. t ∷ (replicate n z ++ locals_of runs)) (means t u e)
    by false e = refl

pub expanded : (ts : List ValType) → locals_of (runs_of ts) ≡ ts
expanded [] = refl
expanded (t ∷ ts) = added t (runs_of ts) ∙ ap (λ z. t ∷ z) (expanded ts)

-- no run is longer than what the runs make
run_within : (runs : List (ℕ × ValType)) (n : ℕ) → length (locals_of runs) < n → AllByRecursion (λ r. r.0 < n) runs
run_within [] n h = tt
run_within (r ∷ runs) n h =
    let e : length (locals_of (r ∷ runs)) ≡ r.0 + length (locals_of runs) = length-append (replicate r.0 r.1) (locals_of runs) ∙ ap (λ k. k + length (locals_of runs)) (length-replicate r.0 r.1) in
    (omega arith, run_within runs n (omega arith))

-- each run is of the type of some of the locals
module _ (p : Profile) where
  abbrev HasRun : ℕ × ValType → Type 0
  HasRun r = HasType p r.1

  before_has : (t : ValType) (runs : List (ℕ × ValType)) → HasType p t → AllByRecursion HasRun runs → AllByRecursion HasRun (type_before t runs)
  before_has t [] h k = (h, tt)
  before_has t ((n, u) ∷ runs) h k = by (same t u)
    where
      by : (b : Bool) → AllByRecursion HasRun (cond b ((n + 1, t) ∷ runs) ((1, t) ∷ (n, u) ∷ runs))
      by true = (h, k.1)
      by false = (h, k)

  runs_have : (ts : List ValType) → AllByRecursion (HasType p) ts → AllByRecursion HasRun (runs_of ts)
  runs_have [] h = tt
  runs_have (t ∷ ts) h = before_has t (runs_of ts) h.0 (runs_have ts h.1)

run_spells : (p : Profile) (r : ℕ × ValType) → HasType p r.1 → r.0 < 2 ^ 32 → SpellsRun p r (run_bytes r)
run_spells p r t h = (t, (u32_bytes r.0, value_type_bytes r.1, refl, number r.0 h, refl))

run_some : (r : ℕ × ValType) → 1 ≤ length (run_bytes r)
run_some r = omega (arith, length-append (u32_bytes r.0) (value_type_bytes r.1))

locals_spell : (p : Profile) (ts : List ValType) → AllByRecursion (HasType p) ts → length ts < 2 ^ 32 → length (listed run_bytes (runs_of ts)) < 2 ^ 32
    → SpellsLocals p ts (listed run_bytes (runs_of ts))
locals_spell p ts has few short =
    let within = run_within (runs_of ts) (2 ^ 32) (subst (λ z. length z < 2 ^ 32) (sym (expanded ts)) few) in
    let all = both_in (HasRun p) (λ (r : ℕ × ValType). r.0 < 2 ^ 32) (runs_of ts) (runs_have p ts has) within in
    (runs_of ts, expanded ts, few, list_spells (SpellsRun p) run_bytes (λ (r : ℕ × ValType). HasRun p r × (r.0 < 2 ^ 32)) (λ r h l. run_spells p r h.0 h.1) run_some (runs_of ts) all short)

-- a function whose locals are of types of the profile, and whose numbers are in range
abbrev InRange : Function → Type 0
InRange f = IsU32 f.type_index × (length f.locals < 2 ^ 32) × AreInstructions f.body

abbrev IsCode : Profile → Function → Type 0
IsCode p f = AllByRecursion (HasType p) f.locals × InRange f

code_spells : (p : Profile) (f : Function) → IsCode p f → length (code_bytes f) < 2 ^ 32 → SpellsCode p f (code_bytes f)
code_spells p f h few =
    let l = part_less (u32_bytes (length (code_contents f))) (code_contents f) (2 ^ 32) few in
    let k = part_less (listed run_bytes (runs_of f.locals)) (ops_bytes (ops_of f.body) ++ 0x0B ∷ []) (2 ^ 32) l.1 in (
      u32_bytes (length (code_contents f)),
      code_contents f,
      refl,
      number (length (code_contents f)) l.1,
      (listed run_bytes (runs_of f.locals), ops_bytes (ops_of f.body) ++ 0x0B ∷ [], refl, locals_spell p f.locals h.0 h.1.1 k.0, (ops_bytes (ops_of f.body), 0x0B ∷ [], refl, instructions_spell p f.body h.1.2, refl)),
    )

flag_two : SpellsU32 2 (0x02 ∷ [])
flag_two = subst (SpellsU32 2) two_bytes (number 2 (omega arith))

memory_spells : (x : ℕ) → IsU32 x → SpellsMemory true (Some x) (start_bytes true (Some x))
memory_spells x h = by (x == 0) refl
  where
    by : (t : Bool) → (x == 0) ≡ t → SpellsMemory true (Some x) (cond t (u32_bytes 0) (0x02 ∷ u32_bytes x))
    by true e = inl (eqb-true x 0 e, number 0 (omega arith))
    by false e = inr (0x02 ∷ [], u32_bytes x, refl, flag_two, number x h)

front_spells : (flagged : Bool) (d : SegmentMode) → CanMode flagged d → IsMode d → SpellsMemory flagged (index_of d) (start_bytes flagged (index_of d))
front_spells true Passive c h = number 1 (omega arith)
front_spells false Passive c h = let e : ⊥ = cc c in absurd e
front_spells false (Active x offset) c h = number x h.0
front_spells true (Active x offset) c h = memory_spells x h.0

offset_spells : (p : Profile) (d : SegmentMode) → IsMode d → SpellsOffset p d (offset_bytes d)
offset_spells p Passive h = refl
offset_spells p (Active x offset) h = const_spells p offset h.1

-- an element segment whose mode can be read, and whose numbers are in range
abbrev pub IsElement : Profile → Element → Type 0
IsElement p e = CanMode (has p BulkMemory) e.mode × (IsMode e.mode × AllByRecursion IsU32 e.functions)

module _ (p : Profile) (xs : List ℕ) (h : AllByRecursion IsU32 xs) (few : length (listed u32_bytes xs) < 2 ^ 32) where
  functions_spell : SpellsList SpellsU32 xs (listed u32_bytes xs)
  functions_spell = list_spells SpellsU32 u32_bytes IsU32 (λ x i l. number x i) number_some xs h few

  kind_spells : (Byte 0x00 ▸ SpellsList SpellsU32 xs) (0x00 ∷ listed u32_bytes xs)
  kind_spells = (0x00 ∷ [], listed u32_bytes xs, refl, refl, functions_spell)

  flagged_spells : (x : ℕ) (c : Const) → IsU32 x → IsConst c
      → SpellsElements true (Some x) (SpellsConst p c) xs (start_bytes true (Some x) ++ (constant_bytes c ++ (element_kind_bytes true (Some x) ++ listed u32_bytes xs)))
  flagged_spells x c h k = by (x == 0) refl
    where
      by : (t : Bool) → (x == 0) ≡ t
          → SpellsElements true (Some x) (SpellsConst p c) xs (cond t (u32_bytes 0) (0x02 ∷ u32_bytes x) ++ (constant_bytes c ++ (cond t [] (0x00 ∷ []) ++ listed u32_bytes xs)))
      by true e = inl (
        eqb-true x 0 e,
        (u32_bytes 0, constant_bytes c ++ listed u32_bytes xs, refl, number 0 (omega arith), (constant_bytes c, listed u32_bytes xs, refl, const_spells p c k, functions_spell)),
      )
      by false e = inr (
        0x02 ∷ [],
        u32_bytes x ++ (constant_bytes c ++ 0x00 ∷ listed u32_bytes xs),
        refl,
        flag_two,
        (u32_bytes x, constant_bytes c ++ 0x00 ∷ listed u32_bytes xs, refl, number x h, (constant_bytes c, 0x00 ∷ listed u32_bytes xs, refl, const_spells p c k, kind_spells)),
      )

  elements_spell : (flagged : Bool) (d : SegmentMode) → CanMode flagged d → IsMode d
      → SpellsElements flagged (index_of d) (SpellsOffset p d) xs (start_bytes flagged (index_of d) ++ (offset_bytes d ++ (element_kind_bytes flagged (index_of d) ++ listed u32_bytes xs)))
  elements_spell false Passive c i = let e : ⊥ = cc c in absurd e
  elements_spell false (Active x k) c i =
      (u32_bytes x, constant_bytes k ++ listed u32_bytes xs, refl, number x i.0, (constant_bytes k, listed u32_bytes xs, refl, const_spells p k i.1, functions_spell))
  elements_spell true Passive c i =
      (u32_bytes 1, 0x00 ∷ listed u32_bytes xs, refl, number 1 (omega arith), ([], 0x00 ∷ listed u32_bytes xs, refl, refl, kind_spells))
  elements_spell true (Active x k) c i = flagged_spells x k i.0 i.1

element_spells : (p : Profile) (e : Element) → IsElement p e → length (element_bytes (has p BulkMemory) e) < 2 ^ 32 → SpellsElement p e (element_bytes (has p BulkMemory) e)
element_spells p e h few =
    let flagged = has p BulkMemory in
    let l = part_less (start_bytes flagged (index_of e.mode)) (offset_bytes e.mode ++ (element_kind_bytes flagged (index_of e.mode) ++ listed u32_bytes e.functions)) (2 ^ 32) few in
    let k = part_less (offset_bytes e.mode) (element_kind_bytes flagged (index_of e.mode) ++ listed u32_bytes e.functions) (2 ^ 32) l.1 in
    let j = part_less (element_kind_bytes flagged (index_of e.mode)) (listed u32_bytes e.functions) (2 ^ 32) k.1 in
    elements_spell p e.functions h.1.1 j.1 flagged e.mode h.0 h.1.0

-- a data segment whose mode can be read, and whose numbers are in range
abbrev IsData : Profile → Segment → Type 0
IsData p s = CanMode (has p BulkMemory) s.mode × (IsMode s.mode × AreBytes s.bytes)

segment_spells : (p : Profile) (s : Segment) → IsData p s → length (segment_bytes (has p BulkMemory) s) < 2 ^ 32 → SpellsSegment p s (segment_bytes (has p BulkMemory) s)
segment_spells p s h few =
    let front = start_bytes (has p BulkMemory) (index_of s.mode) in
    let l = part_less front (offset_bytes s.mode ++ sized s.bytes) (2 ^ 32) few in
    let k = part_less (offset_bytes s.mode) (sized s.bytes) (2 ^ 32) l.1 in
    (front, offset_bytes s.mode ++ sized s.bytes, refl, front_spells (has p BulkMemory) s.mode h.0 h.1.0, (offset_bytes s.mode, sized s.bytes, refl, offset_spells p s.mode h.1.0, bytes_spell s.bytes h.1.1 k.1))

start_spells : (s : Option ℕ) → IfSome s IsU32 → StartSection s (start_section s)
start_spells None h = refl
start_spells (Some x) h = (8 ∷ [], sized (u32_bytes x), refl, refl, (u32_bytes (length (u32_bytes x)), u32_bytes x, refl, number (length (u32_bytes x)) (omega (arith, number_short x)), number x h))
  where
    number_short : (x : ℕ) → length (u32_bytes x) ≤ 5
    number_short x = short 5 x

no_customs : Customs []
no_customs = ([], refl)

-- no custom section, and then a section
plainly : (P Q : Form ℕ) (a b : List ℕ) → P a → Q b → (Customs ▸ P ▸ Q) (a ++ b)
plainly P Q a b p q = ([], a ++ b, refl, no_customs, (a, b, refl, p, q))

last_one : (P : Form ℕ) (a : List ℕ) → P a → (Customs ▸ P ▸ Customs) a
last_one P a p = ([], a, refl, no_customs, (a, [], sym (append-nil a), p, no_customs))

some_sized : (b : List ℕ) → 1 ≤ length (sized b)
some_sized b = omega (arith, length-append (u32_bytes (length b)) b, number_some (length b))

limits_some : (l : Limits) → 1 ≤ length (limits_bytes l)
limits_some l = go l.min l.max
  where
    go : (min : ℕ) (max : Option ℕ) → 1 ≤ length (bounds_bytes min max)
    go min None = omega arith
    go min (Some max) = omega arith

import_some : (i : Import) → 1 ≤ length (import_bytes i)
import_some i = omega (arith, length-append (sized i.module_name) (sized i.item_name ++ desc_bytes i.desc), some_sized i.module_name)

global_some : (g : GlobalDef) → 1 ≤ length (global_bytes g)
global_some g = omega (arith, length-append (global_type_bytes g.ty) (constant_bytes g.init))

export_some : (e : Export) → 1 ≤ length (export_bytes e)
export_some e = omega (arith, length-append (sized e.name) (kind_byte e.kind ∷ u32_bytes e.index), some_sized e.name)

element_some : (flagged : Bool) (e : Element) → 1 ≤ length (element_bytes flagged e)
element_some flagged e =
    let front = start_bytes flagged (index_of e.mode) in
    let kind = element_kind_bytes flagged (index_of e.mode) in
    let functions = listed u32_bytes e.functions in
    omega (
      arith,
      length-append front (offset_bytes e.mode ++ (kind ++ functions)),
      length-append (offset_bytes e.mode) (kind ++ functions),
      length-append kind functions,
      length-append (u32_bytes (length e.functions)) (flat_map u32_bytes e.functions),
      number_some (length e.functions),
    )

segment_some : (flagged : Bool) (s : Segment) → 1 ≤ length (segment_bytes flagged s)
segment_some flagged s =
    let front = start_bytes flagged (index_of s.mode) in
    omega (arith, length-append front (offset_bytes s.mode ++ sized s.bytes), length-append (offset_bytes s.mode) (sized s.bytes), some_sized s.bytes)

-- the data count section of a module whose data segments fit
count_spells : (p : Profile) (named : Bool) (n : ℕ) → (named ≡ true → IsTrue (has p BulkMemory)) → IsU32 n → DataCountSection p named n (data_count_section named n)
count_spells p false n may h = inr (refl, refl)
count_spells p true n may h = inl (may refl, (12 ∷ [], sized (u32_bytes n), refl, refl, (u32_bytes (length (u32_bytes n)), u32_bytes n, refl, number (length (u32_bytes n)) (omega (arith, short 5 n)), number n h)))

pub spells : (p : Profile) (m : Module) → HaveLocals p m.functions → HaveModes (has p BulkMemory) m → MayCount p m → IsModule m → FitsWith (has p BulkMemory) m
    → SpellsModule p m (canon_with (has p BulkMemory) m)
spells p m types modes may h fit = (
  _,
  _,
  refl,
  refl,
  plainly _ _ (list_section 1 signature_bytes m.types) _ (section_spells SpellsSignature signature_bytes (λ s. Unit {0}) (λ s u l. sig_spells s l) (λ s. one_more 0x60 _) 1 m.types (any_all m.types) fit.types)
      (plainly _ _ (list_section 2 import_bytes m.imports) _ (section_spells SpellsImport import_bytes (λ i. IsUtf8 i.module_name × IsUtf8 i.item_name × IsDesc i.desc) import_spells import_some 2 m.imports h.imports fit.imports)
      (plainly _ _ (list_section 3 (λ f. u32_bytes f.type_index) m.functions) _
      (section_spells (λ f. SpellsU32 f.type_index) (λ f. u32_bytes f.type_index) (λ f. IsU32 f.type_index × (length f.locals < 2 ^ 32) × AreInstructions f.body) (λ f i l. number f.type_index i.0) (λ f. number_some f.type_index) 3 m.functions h.functions fit.functions)
      (plainly _ _ (list_section 4 table_bytes m.tables) _ (section_spells SpellsTableType table_bytes AreLimits (λ l i k. table_spells l i) (λ l. one_more 0x70 _) 4 m.tables h.tables fit.tables)
      (plainly _ _ (list_section 5 limits_bytes m.memories) _ (section_spells SpellsLimits limits_bytes AreLimits (λ l i k. limits_spell l i) limits_some 5 m.memories h.memories fit.memories)
      (plainly _ _ (list_section 6 global_bytes m.globals) _ (section_spells (SpellsGlobal p) global_bytes (λ g. IsConst g.init) (λ g i l. global_spells p g i) global_some 6 m.globals h.globals fit.globals)
      (plainly _ _ (list_section 7 export_bytes m.exports) _ (section_spells SpellsExport export_bytes (λ e. IsUtf8 e.name × IsU32 e.index) export_spells export_some 7 m.exports h.exports fit.exports)
      (plainly _ _ (start_section m.start) _ (start_spells m.start h.start)
      (plainly _ _ (list_section 9 (element_bytes (has p BulkMemory)) m.elements) _
      (section_spells (SpellsElement p) (element_bytes (has p BulkMemory)) (IsElement p) (element_spells p) (element_some (has p BulkMemory)) 9 m.elements
      (both_in (λ (e : Element). CanMode (has p BulkMemory) e.mode) (λ (e : Element). IsMode e.mode × AllByRecursion IsU32 e.functions) m.elements modes.0 h.elements) fit.elements)
      (plainly _ _ (data_count_section (bodies_name_segment m.functions) (length m.segments)) _
      (count_spells p (bodies_name_segment m.functions) (length m.segments) may (few_listed (SpellsSegment p) (segment_bytes (has p BulkMemory)) (IsData p) (segment_spells p) (segment_some (has p BulkMemory)) m.segments fit.segments))
      (plainly _ _ (list_section 10 code_bytes m.functions) _
      (section_spells (SpellsCode p) code_bytes (IsCode p) (code_spells p) (λ f. some_sized (code_contents f)) 10 m.functions (both_in (λ (f : Function). AllByRecursion (HasType p) f.locals) InRange m.functions types h.functions) fit.codes)
      (last_one _ (list_section 11 (segment_bytes (has p BulkMemory)) m.segments)
      (section_spells (SpellsSegment p) (segment_bytes (has p BulkMemory)) (IsData p) (segment_spells p) (segment_some (has p BulkMemory)) 11 m.segments
      (both_in (λ (s : Segment). CanMode (has p BulkMemory) s.mode) (λ (s : Segment). IsMode s.mode × AreBytes s.bytes) m.segments modes.1 h.segments) fit.segments)))))))))))),
)
