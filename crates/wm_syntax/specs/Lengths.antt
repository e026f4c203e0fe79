-- The encoded length of ops in bytes (Core spec 5.4), each number in its shortest encoding (Core spec 5.2.2).
use Rattle.std.specs.Prelude.{ℕ, ◌+◌, List, length}
use Rattle.std.specs.List.{sum_by}
use Rattle.wm_syntax.specs.Leb128.{signed_bytes, unsigned_bytes}
use Rattle.wm_syntax.specs.declared.instructions.Op.{Op}
use Rattle.wm_syntax.specs.declared.instructions.Op.TheVariants as op
use Rattle.wm_syntax.specs.declared.instructions.Simple.{Simple}
use Rattle.wm_syntax.specs.declared.instructions.Simple.TheVariants.{Br, BrIf, Call, CallIndirect, LocalGet}
use Rattle.wm_syntax.specs.declared.instructions.Simple.TheVariants.{LocalSet, LocalTee, GlobalGet, GlobalSet}
use Rattle.wm_syntax.specs.declared.instructions.Simple.TheVariants.{MemorySize, MemoryGrow, I32Const}
use Rattle.wm_syntax.specs.declared.instructions.Simple.TheVariants.{MemoryCopy, MemoryFill, MemoryInit, DataDrop, Numeric}
use Rattle.wm_syntax.specs.declared.instructions.Simple.TheVariants.{TableInit, ElemDrop, TableCopy}
use Rattle.wm_syntax.specs.declared.instructions.Numeric.TheVariants.{Saturate}
use Rattle.wm_syntax.specs.declared.instructions.Simple.TheVariants.{I64Const, F32Const, F64Const}
use Rattle.wm_syntax.specs.declared.instructions.Simple.TheVariants.{Load, Store}

-- The length of a u32.
abbrev pub index_len : ℕ → ℕ
index_len n = length (unsigned_bytes 5 n)

-- The length of the code of an instruction: two bytes with the prefix FC, else one.
abbrev pub code_len : Simple → ℕ
code_len (Numeric (Saturate op)) = 2
code_len MemoryCopy = 2
code_len MemoryFill = 2
code_len (MemoryInit x) = 2
code_len (DataDrop x) = 2
code_len (TableInit x) = 2
code_len (ElemDrop x) = 2
code_len TableCopy = 2
code_len _ = 1

-- The length of the immediates of an instruction (Core spec 5.4.1 to 5.4.5, WebAssembly 2.0 5.4.5, 5.4.6).
abbrev pub immediates_len : Simple → ℕ
immediates_len (Br l) = index_len l
immediates_len (BrIf l) = index_len l
immediates_len (Call x) = index_len x
immediates_len (CallIndirect x) = index_len x + 1
immediates_len (LocalGet x) = index_len x
immediates_len (LocalSet x) = index_len x
immediates_len (LocalTee x) = index_len x
immediates_len (GlobalGet x) = index_len x
immediates_len (GlobalSet x) = index_len x
immediates_len MemorySize = 1
immediates_len MemoryGrow = 1
immediates_len MemoryCopy = 2
immediates_len MemoryFill = 1
immediates_len (MemoryInit x) = index_len x + 1
immediates_len (DataDrop x) = index_len x
immediates_len (TableInit x) = index_len x + 1
immediates_len (ElemDrop x) = index_len x
immediates_len TableCopy = 2
immediates_len (I32Const n) = length (signed_bytes 5 n)
immediates_len (I64Const n) = length (signed_bytes 10 n)
immediates_len (F32Const n) = 4
immediates_len (F64Const n) = 8
immediates_len (Load o at) = index_len at.align + index_len at.offset
immediates_len (Store o at) = index_len at.align + index_len at.offset
immediates_len _ = 0

-- The length of one op: its code, if it has one, and what follows. A block type is one byte.
abbrev pub op_len : Op → ℕ
op_len (op.Simple i) = code_len i + immediates_len i
op_len (op.Block t) = 2
op_len (op.Loop t) = 2
op_len (op.If t) = 2
op_len op.Else = 1
op_len op.End = 1
op_len (op.BrTable n) = 1 + index_len n
op_len (op.Label l) = index_len l

-- The length of ops in all.
abbrev pub ops_len : List Op → ℕ
ops_len ops = sum_by op_len ops
