-- The bytes of an instruction behind the byte FC.
use Rattle.std.proofs.Common.{◌≡◌, ℕ, ◌-◌, ◌<◌, ◌≤◌, false, nat_lt, List, [], ◌∷◌, ◌++◌, refl, sym, ap, ◌∙◌, append_assoc, arith}
use Rattle.wm_syntax.specs.Leb128.{unsigned_bytes}
use Rattle.wm_write.specs.Canon.{u32_bytes}
use Rattle.std.proofs.lemmas.Bool.Decides.{nat_tests}
use Rattle.wm_syntax.specs.declared.instructions.Simple.{Simple}
use Rattle.wm_syntax.specs.declared.instructions.Simple.TheVariants.{Br, BrIf, Call, CallIndirect, LocalGet, LocalSet, LocalTee, GlobalGet, GlobalSet, MemorySize, MemoryGrow, MemoryCopy, MemoryFill, MemoryInit, DataDrop, I32Const, I64Const, F32Const, F64Const, Load, Store, TableInit, ElemDrop, TableCopy}
use Rattle.wm_syntax.specs.declared.instructions.Op.TheVariants as op
use Rattle.wm_syntax.specs.Lengths.{code_len}
use Rattle.wm_syntax.specs.Opcodes.{opcode}
use Rattle.wm_syntax.proofs.NumberLoops.{last_byte}
use Rattle.wm_syntax.proofs.OpTable.{byte_code, small_code}
use Rattle.wm_write.specs.Canon.{opcode_bytes, immediates, op_bytes}

not_less : (n k : ℕ) → k ≤ n → nat_lt n k ≡ false
not_less n k h = grind (arith, nat_tests)

prefixed_bytes : (c : ℕ) → 0x100 ≤ c → c < 0x10F → opcode_bytes c ≡ 0xFC ∷ (c - 0x100) ∷ []
prefixed_bytes c l h = rw (not_less c 0x100 l) (ap (λ (z : List ℕ). 0xFC ∷ z) (last_byte 5 (c - 0x100) (omega arith) (omega (arith, h))))

-- an instruction behind FC
pub prefixed_op : (i : Simple) (c : ℕ) (line first new : List ℕ) → c ≡ (opcode i).0 → 0x100 ≤ c → first ≡ line ++ 0xFC ∷ (c - 0x100) ∷ [] → new ≡ first ++ immediates i → new ≡ line ++ op_bytes (op.Simple i)
prefixed_op i c line first new is l one two =
    two ∙ ap (λ (z : List ℕ). z ++ immediates i) one ∙ append_assoc line (0xFC ∷ (c - 0x100) ∷ []) (immediates i)
    ∙ ap (λ (z : List ℕ). line ++ (z ++ immediates i)) (sym (prefixed_bytes c l (omega (arith, is, small_code i))) ∙ ap opcode_bytes is)

-- An instruction behind FC has no immediates, unless it copies or fills, or names a segment.
too_long : (i : Simple) → 0x100 ≤ (opcode i).0 → code_len i ≡ 1 → ⊥
too_long i l e = omega (arith, l, byte_code i e)

pub no_immediates : (i : Simple) → 0x100 ≤ (opcode i).0 → (i ≡ MemoryCopy → ⊥) → (i ≡ MemoryFill → ⊥) → ((x : ℕ) → i ≡ MemoryInit x → ⊥) → ((x : ℕ) → i ≡ DataDrop x → ⊥) → ((x : ℕ) → i ≡ TableInit x → ⊥) → ((x : ℕ) → i ≡ ElemDrop x → ⊥) → (i ≡ TableCopy → ⊥) → immediates i ≡ []
no_immediates MemoryCopy l c f m d t e k = absurd (c refl)
no_immediates MemoryFill l c f m d t e k = absurd (f refl)
no_immediates (MemoryInit x) l c f m d t e k = absurd (m x refl)
no_immediates (DataDrop x) l c f m d t e k = absurd (d x refl)
no_immediates (TableInit x) l c f m d t e k = absurd (t x refl)
no_immediates (ElemDrop x) l c f m d t e k = absurd (e x refl)
no_immediates TableCopy l c f m d t e k = absurd (k refl)
no_immediates (Br n) l c f m d t e k = absurd (too_long (Br n) l refl)
no_immediates (BrIf n) l c f m d t e k = absurd (too_long (BrIf n) l refl)
no_immediates (Call n) l c f m d t e k = absurd (too_long (Call n) l refl)
no_immediates (CallIndirect n) l c f m d t e k = absurd (too_long (CallIndirect n) l refl)
no_immediates (LocalGet n) l c f m d t e k = absurd (too_long (LocalGet n) l refl)
no_immediates (LocalSet n) l c f m d t e k = absurd (too_long (LocalSet n) l refl)
no_immediates (LocalTee n) l c f m d t e k = absurd (too_long (LocalTee n) l refl)
no_immediates (GlobalGet n) l c f m d t e k = absurd (too_long (GlobalGet n) l refl)
no_immediates (GlobalSet n) l c f m d t e k = absurd (too_long (GlobalSet n) l refl)
no_immediates MemorySize l c f m d t e k = absurd (too_long MemorySize l refl)
no_immediates MemoryGrow l c f m d t e k = absurd (too_long MemoryGrow l refl)
no_immediates (I32Const n) l c f m d t e k = absurd (too_long (I32Const n) l refl)
no_immediates (I64Const n) l c f m d t e k = absurd (too_long (I64Const n) l refl)
no_immediates (F32Const n) l c f m d t e k = absurd (too_long (F32Const n) l refl)
no_immediates (F64Const n) l c f m d t e k = absurd (too_long (F64Const n) l refl)
no_immediates (Load o at) l c f m d t e k = absurd (too_long (Load o at) l refl)
no_immediates (Store o at) l c f m d t e k = absurd (too_long (Store o at) l refl)
no_immediates _ l c f m d t e k = refl

-- The flag 2 is one byte.
pub two_bytes : u32_bytes 2 ≡ 0x02 ∷ []
unfolding unsigned_bytes
two_bytes = refl

-- The number 0 is one byte.
pub zero_bytes : u32_bytes 0 ≡ 0x00 ∷ []
unfolding unsigned_bytes
zero_bytes = refl
