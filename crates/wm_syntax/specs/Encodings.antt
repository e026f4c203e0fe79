-- The encodings of instructions and expressions (Core spec 5.4).
use Rattle.std.specs.Prelude.{◌≡◌, ℕ, zero, suc, ◌-◌, ◌/◌, ◌%◌, nat_lt, Bool, true, false, IsTrue, List, [], ◌∷◌}
use Rattle.wm_syntax.specs.Spelling.{Form, Byte, Exactly, ◌▸◌, ◌∣◌}
use Rattle.wm_syntax.specs.Leb128.{Signed}
use Rattle.wm_syntax.specs.Types.{SpellsU32, SpellsList, SpellsBlockType}
use Rattle.wm_syntax.specs.Opcodes.{opcode}
use Rattle.wm_syntax.specs.Instructions.{Instruction, Instructions, none, snoc, simple, table, block, loop}
use Rattle.wm_syntax.specs.Instructions.{choice}
use Rattle.wm_syntax.specs.Profiles.{has}
use Rattle.wm_syntax.specs.declared.profile.Profile.{Profile}
use Rattle.wm_syntax.specs.declared.profile.Feature.TheVariants.{LongIndex}
use Rattle.wm_syntax.specs.declared.instructions.Simple.{Simple}
use Rattle.wm_syntax.specs.declared.instructions.Simple.TheVariants.{Br, BrIf, Call, CallIndirect, LocalGet}
use Rattle.wm_syntax.specs.declared.instructions.Simple.TheVariants.{LocalSet, LocalTee, GlobalGet, GlobalSet}
use Rattle.wm_syntax.specs.declared.instructions.Simple.TheVariants.{MemorySize, MemoryGrow, I32Const}
use Rattle.wm_syntax.specs.declared.instructions.Simple.TheVariants.{MemoryCopy, MemoryFill, MemoryInit, DataDrop}
use Rattle.wm_syntax.specs.declared.instructions.Simple.TheVariants.{TableInit, ElemDrop, TableCopy}
use Rattle.wm_syntax.specs.declared.instructions.Simple.TheVariants.{I64Const, F32Const, F64Const}
use Rattle.wm_syntax.specs.declared.instructions.Simple.TheVariants.{Load, Store}
use Rattle.wm_syntax.specs.declared.instructions.Op.{Op}
use Rattle.wm_syntax.specs.declared.instructions.Op.TheVariants as op

-- The bytes encode the bits n of a float: exactly `width` bytes, lowest first (Core spec 5.2.3).
abbrev pub SpellsFloat : ℕ → ℕ → Form ℕ
SpellsFloat zero n b = (n ≡ 0) × (b ≡ [])
SpellsFloat (suc width) n b = (Byte (n % 256) ▸ SpellsFloat width (n / 256)) b

-- The lowest `width` bytes of n, lowest first.
abbrev pub float_bytes : ℕ → ℕ → List ℕ
float_bytes zero n = []
float_bytes (suc width) n = n % 256 ∷ float_bytes width (n / 256)

-- The table index of a call_indirect, which is 0: the byte 00. With the feature `LongIndex` it is any encoding of
-- the u32 0 (Core spec 5.4.1, WebAssembly 2.0 5.4.1).
abbrev pub SpellsTable : Profile → Form ℕ
SpellsTable p = Byte 0x00 ∣ λ b. IsTrue (has p LongIndex) × SpellsU32 0 b

-- The encoding of a code: the code itself if it is a byte, else the byte FC and a u32 (Core spec 5.4,
-- WebAssembly 2.0 5.4).
abbrev pub SpellsOpcodeBy : (is_byte : Bool) → ℕ → Form ℕ
SpellsOpcodeBy true c = Byte c
SpellsOpcodeBy false c = Byte 0xFC ▸ SpellsU32 (c - 0x100)

abbrev pub SpellsOpcode : ℕ → Form ℕ
SpellsOpcode c = SpellsOpcodeBy (nat_lt c 0x100) c

-- The immediates, which follow the code of an instruction (Core spec 5.4.1 to 5.4.5, WebAssembly 2.0 5.4.5,
-- 5.4.6).
abbrev pub SpellsImmediates : Profile → Simple → Form ℕ
SpellsImmediates p (Br l) = SpellsU32 l
SpellsImmediates p (BrIf l) = SpellsU32 l
SpellsImmediates p (Call x) = SpellsU32 x
SpellsImmediates p (CallIndirect x) = SpellsU32 x ▸ SpellsTable p
SpellsImmediates p (LocalGet x) = SpellsU32 x
SpellsImmediates p (LocalSet x) = SpellsU32 x
SpellsImmediates p (LocalTee x) = SpellsU32 x
SpellsImmediates p (GlobalGet x) = SpellsU32 x
SpellsImmediates p (GlobalSet x) = SpellsU32 x
SpellsImmediates p MemorySize = Byte 0x00
SpellsImmediates p MemoryGrow = Byte 0x00
SpellsImmediates p MemoryCopy = Byte 0x00 ▸ Byte 0x00
SpellsImmediates p MemoryFill = Byte 0x00
SpellsImmediates p (MemoryInit x) = SpellsU32 x ▸ Byte 0x00
SpellsImmediates p (DataDrop x) = SpellsU32 x
SpellsImmediates p (TableInit x) = SpellsU32 x ▸ SpellsU32 0
SpellsImmediates p (ElemDrop x) = SpellsU32 x
SpellsImmediates p TableCopy = SpellsU32 0 ▸ SpellsU32 0
SpellsImmediates p (I32Const n) = Signed 32 n
SpellsImmediates p (I64Const n) = Signed 64 n
SpellsImmediates p (F32Const n) = SpellsFloat 4 n
SpellsImmediates p (F64Const n) = SpellsFloat 8 n
SpellsImmediates p (Load op at) = SpellsU32 at.align ▸ SpellsU32 at.offset
SpellsImmediates p (Store op at) = SpellsU32 at.align ▸ SpellsU32 at.offset
SpellsImmediates p _ = Exactly []

-- An instruction without lists: its code, then its immediates.
abbrev pub SpellsSimple : Profile → Simple → Form ℕ
SpellsSimple p i = SpellsOpcode (opcode i).0 ▸ SpellsImmediates p i

-- The second branch of an if: 05 and the second list. If that list is empty, both may be left out
-- (Core spec 5.4.1).
abbrev pub SpellsElse : Instructions → Form ℕ → Form ℕ
SpellsElse none spelled = (Byte 0x05 ▸ spelled) ∣ Exactly []
SpellsElse (snoc s i) spelled = Byte 0x05 ▸ spelled

-- One instruction, by cases, and a list of instructions, in order and joined (Core spec 5.4).
abbrev mutual
  pub SpellsInstruction : Profile → Instruction → Form ℕ
  SpellsInstruction p (simple i) = SpellsSimple p i
  SpellsInstruction p (table labels default) = Byte 0x0E ▸ SpellsList SpellsU32 labels ▸ SpellsU32 default
  SpellsInstruction p (block t body) = Byte 0x02 ▸ SpellsBlockType t ▸ SpellsInstructions p body ▸ Byte 0x0B
  SpellsInstruction p (loop t body) = Byte 0x03 ▸ SpellsBlockType t ▸ SpellsInstructions p body ▸ Byte 0x0B
  SpellsInstruction p (choice t first second) =
      Byte 0x04 ▸ SpellsBlockType t ▸ SpellsInstructions p first ▸ SpellsElse second (SpellsInstructions p second)
      ▸ Byte 0x0B

  pub SpellsInstructions : Profile → Instructions → Form ℕ
  SpellsInstructions p none = Exactly []
  SpellsInstructions p (snoc s i) = SpellsInstructions p s ▸ SpellsInstruction p i

-- An expression: instructions, then 0B (Core spec 5.4.6).
abbrev pub SpellsExpression : Profile → Instructions → Form ℕ
SpellsExpression p s = SpellsInstructions p s ▸ Byte 0x0B

-- The encoding of one op (Core spec 5.4). The labels of a br_table are ops of their own.
abbrev pub SpellsOp : Profile → Op → Form ℕ
SpellsOp p (op.Simple i) = SpellsSimple p i
SpellsOp p (op.Block t) = Byte 0x02 ▸ SpellsBlockType t
SpellsOp p (op.Loop t) = Byte 0x03 ▸ SpellsBlockType t
SpellsOp p (op.If t) = Byte 0x04 ▸ SpellsBlockType t
SpellsOp p op.Else = Byte 0x05
SpellsOp p op.End = Byte 0x0B
SpellsOp p (op.BrTable n) = Byte 0x0E ▸ SpellsU32 n
SpellsOp p (op.Label l) = SpellsU32 l
