-- Each encoding belongs to one instruction.
use Rattle.std.proofs.Common.{◌≡◌, ℕ, List, [], ◌∷◌, ◌++◌, refl, sym, ap, ◌∙◌, subst, inl, inr, arith, append_assoc, Some, slice_get}
use Rattle.std.proofs.lemmas.List.{append_cancel_left}
use Rattle.wm_syntax.specs.Leb128.{Unsigned}
use Rattle.wm_syntax.specs.Spelling.{Form, Byte, ◌▸◌}
use Rattle.wm_syntax.specs.Opcodes.{opcode}
use Rattle.wm_syntax.specs.OpClasses.{class_of}
use Rattle.wm_syntax.specs.exact.ByteTable.{classes}
use Rattle.wm_syntax.proofs.OpTable.{found_simple}
use Rattle.wm_syntax.specs.Encodings.{SpellsSimple, SpellsImmediates, SpellsTable}
use Rattle.wm_syntax.specs.Profiles.{every}
use Rattle.wm_syntax.specs.declared.instructions.op_class.OpClass.{OpClass}
use Rattle.wm_syntax.specs.declared.instructions.MemArg.{MemArg}
use Rattle.wm_syntax.specs.declared.instructions.Simple.{Simple}
use Rattle.wm_syntax.specs.declared.instructions.Simple.TheVariants as s
use Rattle.wm_syntax.specs.declared.instructions.Op.TheVariants as op
use Rattle.wm_syntax.proofs.Spellings.{same_unsigned, same_signed}
use Rattle.wm_syntax.proofs.FloatBytes.{same_float}
use Rattle.wm_syntax.proofs.CodeBytes.{apart_simple, same_code}

-- one form after another, each with its fact
pub then_same : {A : Type 0} (P Q P' Q' : Form A) (D E : Type 0)
    → ((a b u v : List A) → P a → P' b → a ++ u ≡ b ++ v → (a ≡ b) × D)
    → ((a b u v : List A) → Q a → Q' b → a ++ u ≡ b ++ v → (a ≡ b) × E)
    → (a b u v : List A) → (P ▸ Q) a → (P' ▸ Q') b → a ++ u ≡ b ++ v → (a ≡ b) × D × E
then_same {A} P Q P' Q' D E one two a b u v (x, y, e, p, q) (x', y', e', p', q') h =
    let whole : x ++ (y ++ u) ≡ x' ++ (y' ++ v) = sym (append_assoc x y u) ∙ ap (λ (c : List A). c ++ u) (sym e) ∙ h ∙ ap (λ (c : List A). c ++ v) e' ∙ append_assoc x' y' v in
    let first : (x ≡ x') × D = one x x' (y ++ u) (y' ++ v) p p' whole in
    let rest : y ++ u ≡ y' ++ v = append_cancel_left x' (y ++ u) (y' ++ v) (ap (λ (c : List A). c ++ (y ++ u)) (sym first.0) ∙ whole) in
    let second : (y ≡ y') × E = two y y' u v q q' rest in
    (e ∙ ap (λ (c : List A). c ++ y) first.0 ∙ ap (λ (c : List A). x' ++ c) second.0 ∙ sym e', first.1, second.1)

pub same_u32 : (n m : ℕ) (a b u v : List ℕ) → Unsigned 32 n a → Unsigned 32 m b → a ++ u ≡ b ++ v → (a ≡ b) × (n ≡ m)
same_u32 n m = same_unsigned 32 n m

-- the byte 00 encodes the u32 0
zero_spelled : Unsigned 32 0 (0 ∷ [])
zero_spelled = inl (omega arith, omega arith, refl, refl)

table_number : (a : List ℕ) → SpellsTable every a → Unsigned 32 0 a
table_number a (inl e) = subst (Unsigned 32 0) (sym e) zero_spelled
table_number a (inr h) = h.1

same_table : (a b u v : List ℕ) → SpellsTable every a → SpellsTable every b → a ++ u ≡ b ++ v → (a ≡ b) × Unit {0}
same_table a b u v p q h = ((same_u32 0 0 a b u v (table_number a p) (table_number b q) h).0, tt)

same_access : (at at' : MemArg) (a b u v : List ℕ) → (Unsigned 32 at.align ▸ Unsigned 32 at.offset) a → (Unsigned 32 at'.align ▸ Unsigned 32 at'.offset) b → a ++ u ≡ b ++ v → (a ≡ b) × (at ≡ at')
same_access at at' a b u v p q h =
    let r : (a ≡ b) × (at.align ≡ at'.align) × (at.offset ≡ at'.offset) = then_same (Unsigned 32 at.align) (Unsigned 32 at.offset) (Unsigned 32 at'.align) (Unsigned 32 at'.offset) (at.align ≡ at'.align) (at.offset ≡ at'.offset)
    (λ a b u v p q h. same_u32 at.align at'.align a b u v p q h) (λ a b u v p q h. same_u32 at.offset at'.offset a b u v p q h) a b u v p q h in
    (r.0, ap (λ (p : ℕ × ℕ). record { align = p.0; offset = p.1 }) (pair r.1 r.2))
  where
    pair : {n m k l : ℕ} → n ≡ m → k ≡ l → ◌≡◌ {A = ℕ × ℕ} (n, k) (m, l)
    pair {n = n} {l = l} p q = ap (λ (x : ℕ). (n, x)) q ∙ ap (λ (x : ℕ). (x, l)) p

-- two bytes 00
two_zeros : (a : List ℕ) → (Byte 0x00 ▸ Byte 0x00) a → a ≡ 0 ∷ 0 ∷ []
two_zeros a (x, y, e, p, q) = e ∙ ap (λ (z : List ℕ). z ++ y) p ∙ ap (λ (z : List ℕ). 0 ∷ z) q

two_same : (a b : List ℕ) → (Byte 0x00 ▸ Byte 0x00) a → (Byte 0x00 ▸ Byte 0x00) b → a ≡ b
two_same a b p q = two_zeros a p ∙ sym (two_zeros b q)

same_immediates : (i j : Simple) → class_of (op.Simple i) ≡ class_of (op.Simple j) → (a b u v : List ℕ) → SpellsImmediates every i a → SpellsImmediates every j b → a ++ u ≡ b ++ v → (a ≡ b) × (i ≡ j)
same_immediates s.Unreachable s.Unreachable c a b u v p q h = (p ∙ sym q, refl)
same_immediates s.Unreachable _ c a b u v p q h = cc
same_immediates s.Nop s.Nop c a b u v p q h = (p ∙ sym q, refl)
same_immediates s.Nop _ c a b u v p q h = cc
same_immediates s.Return s.Return c a b u v p q h = (p ∙ sym q, refl)
same_immediates s.Return _ c a b u v p q h = cc
same_immediates s.Drop s.Drop c a b u v p q h = (p ∙ sym q, refl)
same_immediates s.Drop _ c a b u v p q h = cc
same_immediates s.Select s.Select c a b u v p q h = (p ∙ sym q, refl)
same_immediates s.Select _ c a b u v p q h = cc
same_immediates (s.Br x) (s.Br y) c a b u v p q h = let r : (a ≡ b) × (x ≡ y) = same_u32 x y a b u v p q h in (r.0, ap s.Br r.1)
same_immediates (s.Br x) _ c a b u v p q h = cc
same_immediates (s.BrIf x) (s.BrIf y) c a b u v p q h = let r : (a ≡ b) × (x ≡ y) = same_u32 x y a b u v p q h in (r.0, ap s.BrIf r.1)
same_immediates (s.BrIf x) _ c a b u v p q h = cc
same_immediates (s.Call x) (s.Call y) c a b u v p q h = let r : (a ≡ b) × (x ≡ y) = same_u32 x y a b u v p q h in (r.0, ap s.Call r.1)
same_immediates (s.Call x) _ c a b u v p q h = cc
same_immediates (s.LocalGet x) (s.LocalGet y) c a b u v p q h = let r : (a ≡ b) × (x ≡ y) = same_u32 x y a b u v p q h in (r.0, ap s.LocalGet r.1)
same_immediates (s.LocalGet x) _ c a b u v p q h = cc
same_immediates (s.LocalSet x) (s.LocalSet y) c a b u v p q h = let r : (a ≡ b) × (x ≡ y) = same_u32 x y a b u v p q h in (r.0, ap s.LocalSet r.1)
same_immediates (s.LocalSet x) _ c a b u v p q h = cc
same_immediates (s.LocalTee x) (s.LocalTee y) c a b u v p q h = let r : (a ≡ b) × (x ≡ y) = same_u32 x y a b u v p q h in (r.0, ap s.LocalTee r.1)
same_immediates (s.LocalTee x) _ c a b u v p q h = cc
same_immediates (s.GlobalGet x) (s.GlobalGet y) c a b u v p q h = let r : (a ≡ b) × (x ≡ y) = same_u32 x y a b u v p q h in (r.0, ap s.GlobalGet r.1)
same_immediates (s.GlobalGet x) _ c a b u v p q h = cc
same_immediates (s.GlobalSet x) (s.GlobalSet y) c a b u v p q h = let r : (a ≡ b) × (x ≡ y) = same_u32 x y a b u v p q h in (r.0, ap s.GlobalSet r.1)
same_immediates (s.GlobalSet x) _ c a b u v p q h = cc
same_immediates (s.CallIndirect x) (s.CallIndirect y) c a b u v p q h =
    let r : (a ≡ b) × (x ≡ y) × Unit {0} = then_same (Unsigned 32 x) (SpellsTable every) (Unsigned 32 y) (SpellsTable every) (x ≡ y) (Unit {0}) (λ a b u v p q h. same_u32 x y a b u v p q h) same_table a b u v p q h in (r.0, ap s.CallIndirect r.1)
same_immediates (s.CallIndirect x) _ c a b u v p q h = cc
same_immediates s.MemorySize s.MemorySize c a b u v p q h = (p ∙ sym q, refl)
same_immediates s.MemorySize _ c a b u v p q h = cc
same_immediates s.MemoryGrow s.MemoryGrow c a b u v p q h = (p ∙ sym q, refl)
same_immediates s.MemoryGrow _ c a b u v p q h = cc
same_immediates s.MemoryCopy s.MemoryCopy c a b u v p q h = (two_same a b p q, refl)
same_immediates s.MemoryCopy _ c a b u v p q h = cc
same_immediates s.MemoryFill s.MemoryFill c a b u v p q h = (p ∙ sym q, refl)
same_immediates s.MemoryFill _ c a b u v p q h = cc
same_immediates (s.MemoryInit x) (s.MemoryInit y) c a b u v p q h =
    let r : (a ≡ b) × (x ≡ y) × Unit {0} = then_same (Unsigned 32 x) (Byte 0x00) (Unsigned 32 y) (Byte 0x00) (x ≡ y) (Unit {0}) (λ a b u v p q h. same_u32 x y a b u v p q h) (λ a b u v p q h. (p ∙ sym q, tt)) a b u v p q h in (r.0, ap s.MemoryInit r.1)
same_immediates (s.MemoryInit x) _ c a b u v p q h = cc
same_immediates (s.DataDrop x) (s.DataDrop y) c a b u v p q h = let r : (a ≡ b) × (x ≡ y) = same_u32 x y a b u v p q h in (r.0, ap s.DataDrop r.1)
same_immediates (s.DataDrop x) _ c a b u v p q h = cc
same_immediates (s.TableInit x) (s.TableInit y) c a b u v p q h =
    let r : (a ≡ b) × (x ≡ y) × ◌≡◌ {A = ℕ} 0 0 = then_same (Unsigned 32 x) (Unsigned 32 0) (Unsigned 32 y) (Unsigned 32 0) (x ≡ y) (◌≡◌ {A = ℕ} 0 0) (λ a b u v p q h. same_u32 x y a b u v p q h) (λ a b u v p q h. same_u32 0 0 a b u v p q h) a b u v p q h in (r.0, ap s.TableInit r.1)
same_immediates (s.TableInit x) _ c a b u v p q h = cc
same_immediates (s.ElemDrop x) (s.ElemDrop y) c a b u v p q h = let r : (a ≡ b) × (x ≡ y) = same_u32 x y a b u v p q h in (r.0, ap s.ElemDrop r.1)
same_immediates (s.ElemDrop x) _ c a b u v p q h = cc
same_immediates s.TableCopy s.TableCopy c a b u v p q h =
    let r : (a ≡ b) × ◌≡◌ {A = ℕ} 0 0 × ◌≡◌ {A = ℕ} 0 0 = then_same (Unsigned 32 0) (Unsigned 32 0) (Unsigned 32 0) (Unsigned 32 0) (◌≡◌ {A = ℕ} 0 0) (◌≡◌ {A = ℕ} 0 0) (λ a b u v p q h. same_u32 0 0 a b u v p q h) (λ a b u v p q h. same_u32 0 0 a b u v p q h) a b u v p q h in (r.0, refl)
same_immediates s.TableCopy _ c a b u v p q h = cc
same_immediates (s.I32Const x) (s.I32Const y) c a b u v p q h = let r : (a ≡ b) × (x ≡ y) = same_signed 32 x y a b u v p q h in (r.0, ap s.I32Const r.1)
same_immediates (s.I32Const x) _ c a b u v p q h = cc
same_immediates (s.I64Const x) (s.I64Const y) c a b u v p q h = let r : (a ≡ b) × (x ≡ y) = same_signed 64 x y a b u v p q h in (r.0, ap s.I64Const r.1)
same_immediates (s.I64Const x) _ c a b u v p q h = cc
same_immediates (s.F32Const x) (s.F32Const y) c a b u v p q h = let r : (a ≡ b) × (x ≡ y) = same_float 4 x y a b u v p q h in (r.0, ap s.F32Const r.1)
same_immediates (s.F32Const x) _ c a b u v p q h = cc
same_immediates (s.F64Const x) (s.F64Const y) c a b u v p q h = let r : (a ≡ b) × (x ≡ y) = same_float 8 x y a b u v p q h in (r.0, ap s.F64Const r.1)
same_immediates (s.F64Const x) _ c a b u v p q h = cc
same_immediates (s.Load o at) (s.Load o' at') c a b u v p q h = let r : (a ≡ b) × (at ≡ at') = same_access at at' a b u v p q h in let f : o ≡ o' = cc in (r.0, ap (λ x. s.Load x at) f ∙ ap (s.Load o') r.1)
same_immediates (s.Load o at) _ c a b u v p q h = cc
same_immediates (s.Store o at) (s.Store o' at') c a b u v p q h = let r : (a ≡ b) × (at ≡ at') = same_access at at' a b u v p q h in let f : o ≡ o' = cc in (r.0, ap (λ x. s.Store x at) f ∙ ap (s.Store o') r.1)
same_immediates (s.Store o at) _ c a b u v p q h = cc
same_immediates (s.Numeric o) (s.Numeric o') c a b u v p q h = let f : o ≡ o' = cc in (p ∙ sym q, ap s.Numeric f)
same_immediates (s.Numeric o) _ c a b u v p q h = cc

some_injective : {x y : OpClass} → Some x ≡ Some y → x ≡ y
some_injective e = cc

-- An encoding belongs to one instruction, and is no proper prefix of another.
pub same_simple : (i j : Simple) (a b u v : List ℕ) → SpellsSimple every i a → SpellsSimple every j b → a ++ u ≡ b ++ v → (a ≡ b) × (i ≡ j)
same_simple i j a b u v (x, y, e, p, q) (x', y', e', p', q') h =
    let whole : x ++ (y ++ u) ≡ x' ++ (y' ++ v) = sym (append_assoc x y u) ∙ ap (λ (c : List ℕ). c ++ u) (sym e) ∙ h ∙ ap (λ (c : List ℕ). c ++ v) e' ∙ append_assoc x' y' v in
    let code : (x ≡ x') × ((opcode i).0 ≡ (opcode j).0) = same_code (opcode i).0 (opcode j).0 (apart_simple i) (apart_simple j) x x' (y ++ u) (y' ++ v) p p' whole in
    let rest : y ++ u ≡ y' ++ v = append_cancel_left x' (y ++ u) (y' ++ v) (ap (λ (c : List ℕ). c ++ (y ++ u)) (sym code.0) ∙ whole) in
    let same : class_of (op.Simple i) ≡ class_of (op.Simple j) = some_injective (sym (found_simple i) ∙ ap (λ (n : ℕ). slice_get classes n) code.1 ∙ found_simple j) in
    let r : (y ≡ y') × (i ≡ j) = same_immediates i j same y y' u v q q' rest in
    (e ∙ ap (λ (c : List ℕ). c ++ y) code.0 ∙ ap (λ (c : List ℕ). x' ++ c) r.0 ∙ sym e', r.1)
