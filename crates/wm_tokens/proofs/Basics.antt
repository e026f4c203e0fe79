-- Small facts on lists and tests.
use Rattle.std.proofs.Common.{◌≡◌, ℕ, ◌⊎◌, Bool, true, false, ◌&&◌, cond, List, ◌∷◌, Option, Some, refl, inl, inr, eqb}
use Rattle.std.proofs.lemmas.Bool.{eqb-true, and_parts}

pub chosen : {A : Type 0} (t : Bool) (x y z : A) → cond t x y ≡ z → ((t ≡ true) × (x ≡ z)) ⊎ ((t ≡ false) × (y ≡ z))
chosen true x y z e = inl (refl, e)
chosen false x y z e = inr (refl, e)

pub same_some : {A : Type 0} (x y : A) → ◌≡◌ {A = Option A} (Some x) (Some y) → x ≡ y
same_some x y e = cc

pub same_head : {A : Type 0} (c d : A) (b e : List A) → c ∷ b ≡ d ∷ e → c ≡ d
same_head c d b e h = cc

pub same_tail : {A : Type 0} (c d : A) (b e : List A) → c ∷ b ≡ d ∷ e → b ≡ e
same_tail c d b e h = cc

-- two bytes that pass two tests
pub both_are : (c d x y : ℕ) → (eqb c x && eqb d y) ≡ true → (c ≡ x) × (d ≡ y)
both_are c d x y h = let p = and_parts (eqb c x) (eqb d y) h in (eqb-true c x p.0, eqb-true d y p.1)
