-- The encoding of a code: the code itself, or the byte FC and a number.
use Rattle.std.proofs.Common.{◌≡◌, ◌⊎◌, ℕ, ◌-◌, ◌<◌, ◌≤◌, Bool, true, false, nat_lt, List, [], ◌∷◌, ◌++◌, Some, slice_get, refl, sym, ap, ◌∙◌, inl, inr, arith}
use Rattle.std.proofs.lemmas.Bool.{ltb-true, ltb-false}
use Rattle.wm_syntax.specs.Spelling.{Form, Byte, ◌▸◌}
use Rattle.wm_syntax.specs.Types.{SpellsU32}
use Rattle.wm_syntax.specs.Encodings.{SpellsOpcode, SpellsOpcodeBy}
use Rattle.wm_syntax.specs.Opcodes.{opcode}
use Rattle.wm_syntax.specs.OpClasses.{class_of}
use Rattle.wm_syntax.specs.exact.ByteTable.{classes}
use Rattle.wm_syntax.specs.declared.instructions.Simple.{Simple}
use Rattle.wm_syntax.specs.declared.instructions.Simple.TheVariants as s
use Rattle.wm_syntax.specs.declared.instructions.Op.TheVariants as op
use Rattle.wm_syntax.specs.declared.instructions.op_class.OpClass.{OpClass}
use Rattle.wm_syntax.specs.declared.instructions.op_class.OpClass.TheVariants.{None}
use Rattle.wm_syntax.proofs.OpTable.{found_simple}
use Rattle.wm_syntax.proofs.Spellings.{same_unsigned}

-- the bytes of a code behind the prefix
abbrev pub Prefixed : ℕ → Form ℕ
Prefixed c = Byte 0xFC ▸ SpellsU32 (c - 0x100)

pub code_forms : (c : ℕ) (b : List ℕ) → SpellsOpcode c b → ((c < 0x100) × (b ≡ c ∷ [])) ⊎ ((0x100 ≤ c) × Prefixed c b)
code_forms c b h = go (nat_lt c 0x100) refl h
  where
    go : (t : Bool) → nat_lt c 0x100 ≡ t → SpellsOpcodeBy t c b → ((c < 0x100) × (b ≡ c ∷ [])) ⊎ ((0x100 ≤ c) × Prefixed c b)
    go true e h = inl (ltb-true c 0x100 e, h)
    go false e h = inr (ltb-false c 0x100 e, h)

pub byte_spells : (c : ℕ) (b : List ℕ) → c < 0x100 → b ≡ c ∷ [] → SpellsOpcode c b
byte_spells c b l e = go (nat_lt c 0x100) refl
  where
    go : (t : Bool) → nat_lt c 0x100 ≡ t → SpellsOpcodeBy t c b
    go true f = e
    go false f = absurd (omega (arith, l, ltb-false c 0x100 f))

pub prefixed_spells : (c : ℕ) (b : List ℕ) → 0x100 ≤ c → Prefixed c b → SpellsOpcode c b
prefixed_spells c b l h = go (nat_lt c 0x100) refl
  where
    go : (t : Bool) → nat_lt c 0x100 ≡ t → SpellsOpcodeBy t c b
    go true f = absurd (omega (arith, l, ltb-true c 0x100 f))
    go false f = h

pub byte_only : (c : ℕ) (b : List ℕ) → c < 0x100 → SpellsOpcode c b → b ≡ c ∷ []
byte_only c b l h = elim (code_forms c b h) [ inl f ↦ f.1 | inr f ↦ absurd (omega (arith, l, f.0)) ]

heads_same : {c d : ℕ} {x y : List ℕ} → c ∷ x ≡ d ∷ y → c ≡ d
heads_same e = cc

tails_same : {c d : ℕ} {x y : List ℕ} → c ∷ x ≡ d ∷ y → x ≡ y
tails_same e = cc

prefix_front : (c : ℕ) (a x y u : List ℕ) → a ≡ x ++ y → x ≡ c ∷ [] → a ++ u ≡ c ∷ (y ++ u)
prefix_front c a x y u e h = ap (λ (z : List ℕ). z ++ u) (e ∙ ap (λ (z : List ℕ). z ++ y) h)

-- No code is a proper prefix of another one: FC is none.
pub same_code : (c d : ℕ) → (c ≡ 0xFC → ⊥) → (d ≡ 0xFC → ⊥) → (a b u v : List ℕ) → SpellsOpcode c a → SpellsOpcode d b → a ++ u ≡ b ++ v → (a ≡ b) × (c ≡ d)
same_code c d nc nd a b u v p q e = go (code_forms c a p) (code_forms d b q)
  where
    go : ((c < 0x100) × (a ≡ c ∷ [])) ⊎ ((0x100 ≤ c) × Prefixed c a) → ((d < 0x100) × (b ≡ d ∷ [])) ⊎ ((0x100 ≤ d) × Prefixed d b) → (a ≡ b) × (c ≡ d)
    go (inl f) (inl g) =
        let same : c ≡ d = heads_same (ap (λ (z : List ℕ). z ++ u) (sym f.1) ∙ e ∙ ap (λ (z : List ℕ). z ++ v) g.1) in
        (f.1 ∙ ap (λ (n : ℕ). n ∷ []) same ∙ sym g.1, same)
    go (inl f) (inr (l, (x, y, h, k, n))) =
        absurd (nc (heads_same (ap (λ (z : List ℕ). z ++ u) (sym f.1) ∙ e ∙ prefix_front 0xFC b x y v h k)))
    go (inr (l, (x, y, h, k, n))) (inl g) =
        absurd (nd (sym (heads_same (sym (prefix_front 0xFC a x y u h k) ∙ e ∙ ap (λ (z : List ℕ). z ++ v) g.1))))
    go (inr (l, (x, y, h, k, n))) (inr (l', (x', y', h', k', n'))) =
        let whole : 0xFC ∷ (y ++ u) ≡ 0xFC ∷ (y' ++ v) = sym (prefix_front 0xFC a x y u h k) ∙ e ∙ prefix_front 0xFC b x' y' v h' k' in
        let r : (y ≡ y') × (c - 0x100 ≡ d - 0x100) = same_unsigned 32 (c - 0x100) (d - 0x100) y y' u v n n' (tails_same whole) in
        (h ∙ ap (λ (z : List ℕ). z ++ y) (k ∙ sym k') ∙ ap (λ (z : List ℕ). x' ++ z) r.0 ∙ sym h', omega (arith, l, l', r.1))

-- no instruction has the code FC
is_none : OpClass → Bool
is_none None = true
is_none _ = false

simple_is : (i : Simple) → is_none (class_of (op.Simple i)) ≡ false
unfolding is_none
simple_is (s.Br l) = refl
simple_is _ = refl

pub apart_simple : (i : Simple) → (opcode i).0 ≡ 0xFC → ⊥
unfolding is_none
apart_simple i e =
    let there : Some None ≡ Some (class_of (op.Simple i)) = sym (ap (λ (n : ℕ). slice_get classes n) e) ∙ found_simple i in
    let same : None ≡ class_of (op.Simple i) = cc in
    let f : true ≡ false = ap is_none same ∙ simple_is i in cc
