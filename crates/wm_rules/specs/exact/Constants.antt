-- The check of a constant expression op by op, refusals included. It follows the code, for the layers above.
-- Core spec 3.3.7.
use Rattle.std.specs.Prelude.{ℕ, true, false, List, Option, Some, None, Result, Ok, Err, slice_get, nat_lt}
use Rattle.std.specs.Prelude.{if◌then◌else◌}
use Rattle.wm_syntax.specs.declared.types.ValType.{ValType}
use Rattle.wm_syntax.specs.declared.types.ValType.TheVariants.{I32, I64, F32, F64}
use Rattle.wm_syntax.specs.declared.types.GlobalType.{GlobalType}
use Rattle.wm_syntax.specs.declared.instructions.Simple.TheVariants.{I32Const, I64Const, F32Const, F64Const}
use Rattle.wm_syntax.specs.declared.instructions.Simple.TheVariants.{GlobalGet}
use Rattle.wm_syntax.specs.declared.instructions.Op.{Op}
use Rattle.wm_syntax.specs.declared.instructions.Op.TheVariants as op
use Rattle.wm_syntax.specs.declared.why.Why.{Why}
use Rattle.wm_syntax.specs.declared.why.Why.TheVariants.{Arity, Index, Mismatch, NotConst}
use Rattle.wm_syntax.specs.Runs.{same}
use Rattle.wm_rules.specs.declared.constants.Constant.{Constant}

-- The state before its instruction: the wanted type, and how many globals it may name.
abbrev pub constant_expecting : ValType → ℕ → Constant
constant_expecting t sees = record { expects = t; sees = sees; seen = false }

-- The state after an instruction of this type.
abbrev pub of_type : ValType → Constant → Result (Option Constant) Why
of_type t k = if same t k.expects then Ok (Some (record k { seen = true })) else Err Mismatch

abbrev pub of_global : Option GlobalType → Constant → Result (Option Constant) Why
of_global None k = Err Index
of_global (Some g) k = if g.var then Err NotConst else of_type g.ty k

-- `Arity` if an instruction came before.
abbrev pub first_only : Constant → Result (Option Constant) Why → Result (Option Constant) Why
first_only k r = if k.seen then Err Arity else r

-- The global with this index, if the expression may name it.
abbrev pub visible : ℕ → List GlobalType → ℕ → Option GlobalType
visible sees globals x = if nat_lt x sees then slice_get globals x else None

-- The state after one op; `None` if the expression ends.
abbrev pub constant_after : List GlobalType → Op → Constant → Result (Option Constant) Why
constant_after globals (op.Simple (I32Const n)) k = first_only k (of_type I32 k)
constant_after globals (op.Simple (I64Const n)) k = first_only k (of_type I64 k)
constant_after globals (op.Simple (F32Const n)) k = first_only k (of_type F32 k)
constant_after globals (op.Simple (F64Const n)) k = first_only k (of_type F64 k)
constant_after globals (op.Simple (GlobalGet x)) k = first_only k (of_global (visible k.sees globals x) k)
constant_after globals op.End k = if k.seen then Ok None else Err Arity
constant_after globals _ k = Err NotConst
