-- The classes of ops, which their codes determine (Core spec 5.4).
use Rattle.std.specs.Prelude.{ℕ, Bool, ◌&&◌, nat_le, List, Option, [], ◌∷◌}
use Rattle.std.specs.List.{list_any}
use Rattle.std.specs.Option.{option_map}
use Rattle.wm_syntax.specs.declared.instructions.Simple.TheVariants as s
use Rattle.wm_syntax.specs.declared.instructions.Op.TheVariants as op
use Rattle.wm_syntax.specs.declared.instructions.Op.{Op}
use Rattle.wm_syntax.specs.Opcodes.{op_code}
use Rattle.wm_syntax.specs.declared.instructions.op_class.BlockOp.TheVariants as opening
use Rattle.wm_syntax.specs.declared.instructions.op_class.Indexed.TheVariants as indexed
use Rattle.wm_syntax.specs.declared.instructions.op_class.MemoryOp.TheVariants as memory
use Rattle.wm_syntax.specs.declared.instructions.op_class.LoadOrStore.TheVariants as accesses
use Rattle.wm_syntax.specs.declared.instructions.op_class.Immediates.TheVariants as k
use Rattle.wm_syntax.specs.declared.instructions.op_class.OpClass.{OpClass}
use Rattle.wm_syntax.specs.declared.instructions.op_class.OpClass.TheVariants.{Plain, With, Float, None}

-- The class of an op: the shape of its immediates if it has any, else the op itself.
abbrev pub class_of : Op → OpClass
class_of (op.Simple (s.Br l)) = With (k.Index indexed.Br)
class_of (op.Simple (s.BrIf l)) = With (k.Index indexed.BrIf)
class_of (op.Simple (s.Call x)) = With (k.Index indexed.Call)
class_of (op.Simple (s.CallIndirect x)) = With k.CallIndirect
class_of (op.Simple (s.LocalGet x)) = With (k.Index indexed.LocalGet)
class_of (op.Simple (s.LocalSet x)) = With (k.Index indexed.LocalSet)
class_of (op.Simple (s.LocalTee x)) = With (k.Index indexed.LocalTee)
class_of (op.Simple (s.GlobalGet x)) = With (k.Index indexed.GlobalGet)
class_of (op.Simple (s.GlobalSet x)) = With (k.Index indexed.GlobalSet)
class_of (op.Simple s.MemorySize) = With (k.Memory memory.MemorySize)
class_of (op.Simple s.MemoryGrow) = With (k.Memory memory.MemoryGrow)
class_of (op.Simple s.MemoryCopy) = With (k.Memory memory.MemoryCopy)
class_of (op.Simple s.MemoryFill) = With (k.Memory memory.MemoryFill)
class_of (op.Simple (s.MemoryInit x)) = With k.MemoryInit
class_of (op.Simple (s.DataDrop x)) = With (k.Index indexed.DataDrop)
class_of (op.Simple (s.TableInit x)) = With k.TableInit
class_of (op.Simple (s.ElemDrop x)) = With (k.Index indexed.ElemDrop)
class_of (op.Simple s.TableCopy) = With k.TableCopy
class_of (op.Simple (s.I32Const n)) = With k.I32Const
class_of (op.Simple (s.I64Const n)) = With k.I64Const
class_of (op.Simple (s.F32Const n)) = With k.F32Const
class_of (op.Simple (s.F64Const n)) = With k.F64Const
class_of (op.Simple (s.Load o at)) = With (k.Access (accesses.Load o))
class_of (op.Simple (s.Store o at)) = With (k.Access (accesses.Store o))
class_of (op.Block t) = With (k.Block opening.Block)
class_of (op.Loop t) = With (k.Block opening.Loop)
class_of (op.If t) = With (k.Block opening.If)
class_of (op.BrTable n) = With (k.Index indexed.BrTable)
class_of o = Plain o

-- The code of an instruction, an else or an end. A label has none.
abbrev pub code : Op → Option ℕ
code o = option_map (λ row. row.0) (op_code o)

-- The bytes that begin floating-point instructions, as ranges (Core spec 5.4.4, 5.4.5).
abbrev pub float_codes : List (ℕ × ℕ)
float_codes =
    (0x2A, 0x2B) ∷ (0x38, 0x39) ∷ (0x43, 0x44) ∷ (0x5B, 0x66) ∷ (0x8B, 0xA6) ∷ (0xA8, 0xAB) ∷ (0xAE, 0xBF) ∷ []

-- Whether a code is such a byte.
abbrev pub is_float : ℕ → Bool
is_float b = list_any (λ (r : ℕ × ℕ). nat_le r.0 b && nat_le b r.1) float_codes

-- The class is that of an op: neither `Float` nor `None`.
abbrev pub IsClassOfOp : OpClass → Type 0
IsClassOfOp (Plain o) = Unit {0}
IsClassOfOp (With kind) = Unit {0}
IsClassOfOp Float = ⊥
IsClassOfOp None = ⊥
