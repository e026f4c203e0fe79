-- `wm_syntax` counts the bytes of ops exactly.
use Rattle.std.proofs.Common.{◌≡◌, ◌+◌, List, [], ◌∷◌, length, refl, sym, ap, ◌∙◌, length-append, arith}
use Rattle.std.proofs.lemmas.List.Sums.{sum_by-cons}
use Rattle.std.specs.Prelude.{Bool, true, false, nat_lt, ◌-◌, suc, if◌then◌else◌}
use Rattle.wm_syntax.specs.Opcodes.{opcode}
use Rattle.wm_syntax.specs.Lengths.{code_len, immediates_len, op_len, ops_len}
use Rattle.wm_syntax.proofs.Lengths.{one_byte}
use Rattle.wm_syntax.proofs.OpTable.{code_length, small_code}
use Rattle.wm_syntax.specs.declared.instructions.Op.{Op}
use Rattle.wm_syntax.specs.declared.instructions.Op.TheVariants as op
use Rattle.wm_syntax.specs.declared.instructions.Simple.{Simple}
use Rattle.wm_syntax.specs.declared.instructions.Simple.TheVariants.{CallIndirect, Load, MemoryInit, Store, TableInit}
use Rattle.wm_write.specs.Canon.{opcode_bytes, immediates, op_bytes, ops_bytes, u32_bytes}

immediates_counted : (i : Simple) → length (immediates i) ≡ immediates_len i
immediates_counted (CallIndirect x) = length-append (u32_bytes x) (0x00 ∷ [])
immediates_counted (MemoryInit x) = length-append (u32_bytes x) (0x00 ∷ [])
immediates_counted (TableInit x) = length-append (u32_bytes x) (0x00 ∷ [])
immediates_counted (Load o at) = length-append (u32_bytes at.align) (u32_bytes at.offset)
immediates_counted (Store o at) = length-append (u32_bytes at.align) (u32_bytes at.offset)
immediates_counted i = refl

opcode_counted : (i : Simple) → length (opcode_bytes (opcode i).0) ≡ code_len i
opcode_counted i = by (nat_lt (opcode i).0 0x100) ∙ sym (code_length i)
  where
    by : (b : Bool) → length (if b then (opcode i).0 ∷ [] else 0xFC ∷ u32_bytes ((opcode i).0 - 0x100)) ≡ (if b then 1 else 2)
    by true = refl
    by false = ap suc (one_byte ((opcode i).0 - 0x100) (omega (arith, small_code i)))

pub op_counted : (o : Op) → length (op_bytes o) ≡ op_len o
op_counted (op.Simple i) = length-append (opcode_bytes (opcode i).0) (immediates i) ∙ omega (arith, opcode_counted i, immediates_counted i)
op_counted (op.BrTable n) = omega arith
op_counted o = refl

pub ops_counted : (ops : List Op) → length (ops_bytes ops) ≡ ops_len ops
ops_counted [] = refl
ops_counted (o ∷ ops) =
    length-append (op_bytes o) (ops_bytes ops) ∙ ap (λ n. length (op_bytes o) + n) (ops_counted ops)
    ∙ ap (λ n. n + ops_len ops) (op_counted o) ∙ sym (sum_by-cons op_len o ops)
