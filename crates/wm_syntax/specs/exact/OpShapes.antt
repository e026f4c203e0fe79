-- Ops by the shape of their immediates, and the values of these.
use Rattle.std.specs.Prelude.{ℕ, Option}
use Rattle.wm_syntax.specs.declared.types.ValType.{ValType}
use Rattle.wm_syntax.specs.declared.instructions.MemArg.{MemArg}
use Rattle.wm_syntax.specs.declared.instructions.Simple.TheVariants as s
use Rattle.wm_syntax.specs.declared.instructions.Op.{Op}
use Rattle.wm_syntax.specs.declared.instructions.Op.TheVariants as op
use Rattle.wm_syntax.specs.declared.instructions.op_class.BlockOp.{BlockOp}
use Rattle.wm_syntax.specs.declared.instructions.op_class.BlockOp.TheVariants as opening
use Rattle.wm_syntax.specs.declared.instructions.op_class.Indexed.{Indexed}
use Rattle.wm_syntax.specs.declared.instructions.op_class.Indexed.TheVariants as indexed
use Rattle.wm_syntax.specs.declared.instructions.op_class.MemoryOp.{MemoryOp}
use Rattle.wm_syntax.specs.declared.instructions.op_class.MemoryOp.TheVariants as memory
use Rattle.wm_syntax.specs.declared.instructions.op_class.LoadOrStore.{LoadOrStore}
use Rattle.wm_syntax.specs.declared.instructions.op_class.LoadOrStore.TheVariants as accesses

abbrev pub block_op : BlockOp → Option ValType → Op
block_op opening.Block t = op.Block t
block_op opening.Loop t = op.Loop t
block_op opening.If t = op.If t

abbrev pub index_op : Indexed → ℕ → Op
index_op indexed.Br n = op.Simple (s.Br n)
index_op indexed.BrIf n = op.Simple (s.BrIf n)
index_op indexed.BrTable n = op.BrTable n
index_op indexed.Call n = op.Simple (s.Call n)
index_op indexed.LocalGet n = op.Simple (s.LocalGet n)
index_op indexed.LocalSet n = op.Simple (s.LocalSet n)
index_op indexed.LocalTee n = op.Simple (s.LocalTee n)
index_op indexed.GlobalGet n = op.Simple (s.GlobalGet n)
index_op indexed.GlobalSet n = op.Simple (s.GlobalSet n)
index_op indexed.DataDrop n = op.Simple (s.DataDrop n)
index_op indexed.ElemDrop n = op.Simple (s.ElemDrop n)

abbrev pub memory_op : MemoryOp → Op
memory_op memory.MemorySize = op.Simple s.MemorySize
memory_op memory.MemoryGrow = op.Simple s.MemoryGrow
memory_op memory.MemoryCopy = op.Simple s.MemoryCopy
memory_op memory.MemoryFill = op.Simple s.MemoryFill

abbrev pub access_op : LoadOrStore → MemArg → Op
access_op (accesses.Load o) at = op.Simple (s.Load o at)
access_op (accesses.Store o) at = op.Simple (s.Store o at)
