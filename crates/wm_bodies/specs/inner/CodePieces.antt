-- Pieces of the code as plain values, without their addresses.
use Rattle.std.specs.Prelude.{◌<◌, ◌^◌, length}
use Rattle.wm_bodies.specs.declared.pieces.Piece.{Piece as Code}
use Rattle.wm_bodies.specs.declared.pieces.Piece.TheVariants as p
use Rattle.wm_syntax.specs.declared.instructions.op_class.Immediates.{Immediates}
use Rattle.wm_syntax.specs.declared.instructions.op_class.Immediates.TheVariants as k
use Rattle.wm_bodies.specs.inner.Ids.{id_of}
use Rattle.wm_bodies.specs.inner.Pieces.{Piece, plain, jump, opens, middle, closes}

abbrev pub piece_of : Code → Piece
piece_of (p.Plain i) = plain i
piece_of (p.Table ls l) = jump ls.items l
piece_of (p.Opens o id t) = opens o (id_of id) t
piece_of p.Middle = middle
piece_of p.Closes = closes

-- `operand` reads what follows the keyword of an instruction with these immediates.
abbrev pub HasOperand : Immediates → Type 0
HasOperand (k.Block o) = ⊥
HasOperand (k.Index o) = ⊥
HasOperand k.CallIndirect = ⊥
HasOperand k.F32Const = ⊥
HasOperand k.F64Const = ⊥
HasOperand (k.Access a) = ⊥
HasOperand _ = Unit {0}

-- These are the immediates of a float constant, a load or a store, which `float_or_access` reads.
abbrev pub IsFloatOrAccess : Immediates → Type 0
IsFloatOrAccess k.F32Const = Unit {0}
IsFloatOrAccess k.F64Const = Unit {0}
IsFloatOrAccess (k.Access a) = Unit {0}
IsFloatOrAccess _ = ⊥

-- A br_table has fewer than 2^32 labels before its default.
abbrev pub FitsPiece : Piece → Type 0
FitsPiece (jump ls l) = length ls < 2 ^ 32
FitsPiece _ = Unit {0}
