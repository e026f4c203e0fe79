-- A table index: the byte 00, before which bytes 80 may come under profiles with a feature.
use Rattle.std.proofs.Common.{◌≡◌, ◌⊎◌, ℕ, zero, suc, ◌-◌, ◌*◌, ◌+◌, ◌<◌, ◌≤◌, Bool, true, false, IsTrue, List, [], ◌∷◌, refl, sym, ap, ◌∙◌, subst, inl, inr, arith, pow_pos}
use Rattle.std.specs.Prelude.{IsFalse}
use Rattle.wm_syntax.specs.declared.profile.Profile.{Profile}
use Rattle.wm_syntax.specs.declared.profile.Feature.{Feature}
use Rattle.wm_syntax.specs.declared.profile.Feature.TheVariants.{LongIndex}
use Rattle.wm_syntax.specs.Profiles.{has}
use Rattle.wm_syntax.specs.Spelling.{Form}
use Rattle.wm_syntax.specs.Leb128.{Unsigned}
use Rattle.wm_syntax.specs.Encodings.{SpellsTable}
use Rattle.wm_syntax.specs.Types.{SpellsU32}
use Rattle.wm_machine.proofs.FirstBytes.{head_same, tail_same}

pub bool_cases : (b : Bool) → IsTrue b ⊎ IsFalse b
bool_cases true = inl refl
bool_cases false = inr refl

pub not_both : (b : Bool) → IsTrue b → IsFalse b → ⊥
not_both b y n = let e : true ≡ false = sym y ∙ n in cc

-- at most `left` bytes 80, and a byte 00
abbrev pub Zeros : ℕ → Form ℕ
Zeros zero b = b ≡ 0 ∷ []
Zeros (suc left) b = (b ≡ 0 ∷ []) ⊎ ((more : List ℕ) × (b ≡ 0x80 ∷ more) × Zeros left more)

pub one_zero : (left : ℕ) (b : List ℕ) → b ≡ 0 ∷ [] → Zeros left b
one_zero zero b e = e
one_zero (suc left) b e = inl e

-- they encode the number 0 in as many bytes as its bits may need
pub zeros_spell : (left bits : ℕ) → 7 * left < bits → (b : List ℕ) → Zeros left b → Unsigned bits 0 b
zeros_spell zero bits l b e = subst (Unsigned bits 0) (sym e) (inl (omega arith, pow_pos bits, refl, refl))
zeros_spell (suc left) bits l b (inl e) = subst (Unsigned bits 0) (sym e) (inl (omega arith, pow_pos bits, refl, refl))
zeros_spell (suc left) bits l b (inr (more, e, z)) =
    subst (Unsigned bits 0) (sym e) (inr (omega arith, omega arith, omega (arith, l), 0, refl, zeros_spell left (bits - 7) (omega (arith, l)) more z))

pub spelled_zeros : (left bits : ℕ) → bits ≤ 7 * left + 7 → (b : List ℕ) → Unsigned bits 0 b → Zeros left b
spelled_zeros left bits l [] h = absurd h
spelled_zeros left bits l (c ∷ b) (inl (small, fits, is, ends)) = one_zero left (c ∷ b) (ap (λ x. x ∷ b) (sym is) ∙ ap (λ y. 0 ∷ y) ends)
spelled_zeros zero bits l (c ∷ b) (inr (large, byte, some, high, is, rest)) = absurd (omega (arith, l, some))
spelled_zeros (suc left) bits l (c ∷ b) (inr (large, byte, some, high, is, rest)) =
    let first : c ≡ 0x80 = omega (arith, large, is) in
    let none : high ≡ 0 = omega (arith, large, is) in
    inr (b, ap (λ x. x ∷ b) first, spelled_zeros left (bits - 7) (omega (arith, l)) b (subst (λ n. Unsigned (bits - 7) n b) none rest))

-- the rest of a table index that may be long with this feature
abbrev pub TableRest : Profile → Feature → ℕ → Form ℕ
TableRest p feature left b = (b ≡ 0 ∷ []) ⊎ (IsTrue (has p feature) × Zeros left b)

pub table_begun : (p : Profile) (b : List ℕ) → SpellsTable p b → TableRest p LongIndex 4 b
table_begun p b (inl e) = inl e
table_begun p b (inr h) = inr (h.0, spelled_zeros 4 32 (omega arith) b h.1)

pub table_whole : (p : Profile) (b : List ℕ) → TableRest p LongIndex 4 b → SpellsTable p b
table_whole p b (inl e) = inl e
table_whole p b (inr h) = inr (h.0, zeros_spell 4 32 (omega arith) b h.1)

-- how a byte continues it
pub zeros_ended : (left c : ℕ) (b : List ℕ) → c ≡ 0 → Zeros left (c ∷ b) → b ≡ []
zeros_ended zero c b z e = tail_same c 0 b [] e
zeros_ended (suc left) c b z (inl e) = tail_same c 0 b [] e
zeros_ended (suc left) c b z (inr (more, e, h)) = let f : c ≡ 0x80 = head_same c 0x80 b more e in absurd (omega (arith, z, f))

pub table_ended : (p : Profile) (feature : Feature) (left c : ℕ) (b : List ℕ) → c ≡ 0 → TableRest p feature left (c ∷ b) → b ≡ []
table_ended p feature left c b z (inl e) = tail_same c 0 b [] e
table_ended p feature left c b z (inr h) = zeros_ended left c b z h.1

pub zeros_on : (left c : ℕ) (b : List ℕ) → c ≡ 0x80 → Zeros left b → Zeros (suc left) (c ∷ b)
zeros_on left c b e h = inr (b, ap (λ x. x ∷ b) e, h)

pub zeros_off : (left c : ℕ) (b : List ℕ) → (c ≡ 0 → ⊥) → Zeros (suc left) (c ∷ b) → (c ≡ 0x80) × Zeros left b
zeros_off left c b n (inl e) = absurd (n (head_same c 0 b [] e))
zeros_off left c b n (inr (more, e, h)) = (head_same c 0x80 b more e, subst (Zeros left) (sym (tail_same c 0x80 b more e)) h)

pub no_zeros : (c : ℕ) (b : List ℕ) → (c ≡ 0 → ⊥) → Zeros zero (c ∷ b) → ⊥
no_zeros c b n e = n (head_same c 0 b [] e)

pub table_zeros : (p : Profile) (feature : Feature) (left : ℕ) (b : List ℕ) → TableRest p feature left b → Zeros left b
table_zeros p feature left b (inl e) = one_zero left b e
table_zeros p feature left b (inr h) = h.1

-- a whole one under a profile with the feature
pub index_begun : (p : Profile) (feature : Feature) → IsTrue (has p feature) → (b : List ℕ) → SpellsU32 0 b → TableRest p feature 4 b
index_begun p feature y b u = inr (y, spelled_zeros 4 32 (omega arith) b u)

pub index_whole : (p : Profile) (feature : Feature) (b : List ℕ) → TableRest p feature 4 b → SpellsU32 0 b
index_whole p feature b h = zeros_spell 4 32 (omega arith) b (table_zeros p feature 4 b h)

pub zeros_nil : (left : ℕ) → Zeros left [] → ⊥
zeros_nil zero e = cc
zeros_nil (suc left) (inl e) = cc
zeros_nil (suc left) (inr (more, e, h)) = cc
