-- The text before the first of two bytes, and the text from that byte on.
use Rattle.std.proofs.Common.{◌≡◌, ℕ, zero, suc, ◌<◌, ◌≤◌, ◌⊎◌, Bool, true, false, cond, List, [], ◌∷◌, ◌++◌, length, refl, ap, ◌∙◌, inl, inr, arith, take, drop, get_or}
use Rattle.std.proofs.lemmas.Bool.{cond-true, cond-false, or_cases, eqb-true}
use Rattle.std.specs.Prelude.{◌==◌}
use Rattle.wm_floats.specs.exact.Atoms.{is_mark, cut}

abbrev CutAt : ℕ → ℕ → List ℕ → ℕ → Type 0
CutAt x y b n = ((cut x y b).0 ≡ take n b) × ((cut x y b).1 ≡ drop n b)

cut_here : (x y c : ℕ) (b : List ℕ) → is_mark x y c ≡ true → cut x y (c ∷ b) ≡ ([], c ∷ b)
cut_here x y c b e = cond-true (is_mark x y c) _ _ e

cut_later : (x y c : ℕ) (b : List ℕ) → is_mark x y c ≡ false → cut x y (c ∷ b) ≡ (c ∷ (cut x y b).0, (cut x y b).1)
cut_later x y c b e = cond-false (is_mark x y c) _ _ e

-- The index at which the code cuts the text.
pub cut_at : (x y : ℕ) (b : List ℕ) (n : ℕ) → n ≤ length b → ((k : ℕ) → k < n → is_mark x y (get_or b k 0) ≡ false)
    → ((n ≡ length b) ⊎ (is_mark x y (get_or b n 0) ≡ true)) → CutAt x y b n
cut_at x y [] zero h all stop = (refl, refl)
cut_at x y [] (suc n) h all stop = absurd (omega (arith, h))
cut_at x y (c ∷ b) zero h all (inl e) = absurd (omega (arith, e))
cut_at x y (c ∷ b) zero h all (inr e) = (ap (λ (p : List ℕ × List ℕ). p.0) (cut_here x y c b e), ap (λ (p : List ℕ × List ℕ). p.1) (cut_here x y c b e))
cut_at x y (c ∷ b) (suc n) h all stop =
    let more = cut_at x y b n (omega (arith, h)) (λ k lt. all (suc k) (omega (arith, lt))) (next stop) in
    let e = cut_later x y c b (all 0 (omega arith)) in (
      ap (λ (p : List ℕ × List ℕ). p.0) e ∙ ap (λ (z : List ℕ). c ∷ z) more.0,
      ap (λ (p : List ℕ × List ℕ). p.1) e ∙ more.1,
    )
  where
    next : ((suc n ≡ length (c ∷ b)) ⊎ (is_mark x y (get_or (c ∷ b) (suc n) 0) ≡ true)) → (n ≡ length b) ⊎ (is_mark x y (get_or b n 0) ≡ true)
    next (inl e) = inl (omega (arith, e))
    next (inr e) = inr e

-- ---- without the code

-- no byte is one of the two
abbrev pub HasNone : ℕ → ℕ → List ℕ → Type 0
HasNone x y [] = Unit {0}
HasNone x y (c ∷ b) = (is_mark x y c ≡ false) × HasNone x y b

-- nothing follows, or one of the two does
abbrev pub BeginsMark : ℕ → ℕ → List ℕ → Type 0
BeginsMark x y [] = Unit {0}
BeginsMark x y (c ∷ b) = is_mark x y c ≡ true

pub cut_more : (x y : ℕ) (a r : List ℕ) → HasNone x y a → BeginsMark x y r → cut x y (a ++ r) ≡ (a, r)
cut_more x y [] [] h m = refl
cut_more x y [] (c ∷ r) h m = cut_here x y c r m
cut_more x y (c ∷ a) r h m = cut_later x y c (a ++ r) h.0 ∙ ap (λ (p : List ℕ × List ℕ). (c ∷ p.0, p.1)) (cut_more x y a r h.1 m)

abbrev pub Joins : ℕ → ℕ → List ℕ → List ℕ × List ℕ → Type 0
Joins x y b p = (b ≡ p.0 ++ p.1) × BeginsMark x y p.1

pub cut_joins : (x y : ℕ) (b : List ℕ) → Joins x y b (cut x y b)
cut_joins x y [] = (refl, tt)
cut_joins x y (c ∷ b) = by (is_mark x y c) refl (cut_joins x y b)
  where
    by : (t : Bool) → is_mark x y c ≡ t → Joins x y b (cut x y b) → Joins x y (c ∷ b) (cond t ([], c ∷ b) (c ∷ (cut x y b).0, (cut x y b).1))
    by true t h = (refl, t)
    by false t h = (ap (λ (z : List ℕ). c ∷ z) h.0, h.1)

pub mark_is : (x y c : ℕ) → is_mark x y c ≡ true → (c ≡ x) ⊎ (c ≡ y)
mark_is x y c e = elim (or_cases (c == x) (c == y) e) [ inl p ↦ inl (eqb-true c x p) | inr p ↦ inr (eqb-true c y p) ]
