-- Digits of the standard are the digits that the code tests, with the same value.
use Rattle.std.proofs.Common.{◌≡◌, ℕ, ◌<◌, ◌≤◌, ◌+◌, ◌-◌, ◌*◌, ◌⊎◌, Bool, true, false, cond, List, [], ◌∷◌, ◌++◌, length, fold, Some, None, nat_lt, nat_le, refl, sym, ap, subst, ◌∙◌, inl, inr, arith}
use Rattle.std.specs.Prelude.{◌==◌, ◌&&◌}
use Rattle.std.specs.Char.{is_digit}
use Rattle.std.specs.Char.{digit_value as kit_value}
use Rattle.std.specs.Str.Parse.{digits_value_after}
use Rattle.std.proofs.lemmas.Bool.{cond-true, cond-false, eqb-true, and_parts, and_from, and_left, ltb-true, lt-ltb, le-ltb, le-leb, leb-true, cases_lt}
use Rattle.wm_floats.specs.Digits.{digit_value, Digits}
use Rattle.wm_floats.specs.exact.Atoms.{are_digits, plain}
use Rattle.wm_floats.proofs.Basics.{chosen, same_some, none_some}
use Rattle.wm_floats.proofs.Underscores.{digit_not_under}

-- ---- one digit

-- below 48 and between the ranges the kit has no digit
low : (c : ℕ) → c < 48 → kit_value c ≡ 36
low c h = cond-true (nat_lt c 48) _ _ (lt-ltb c 48 h)

decimals : (c : ℕ) → 48 ≤ c → c < 58 → kit_value c ≡ c - 48
decimals c a b = cond-false (nat_lt c 48) _ _ (le-ltb c 48 a) ∙ cond-true (nat_lt c 58) _ _ (lt-ltb c 58 b)

from58 : (c : ℕ) → 58 ≤ c → kit_value c ≡ cond (nat_lt c 65) 36 (cond (nat_lt c 91) (c - 55) (cond (nat_lt c 97) 36 (cond (nat_lt c 123) (c - 87) 36)))
from58 c a = cond-false (nat_lt c 48) _ _ (le-ltb c 48 (omega (arith, a))) ∙ cond-false (nat_lt c 58) _ _ (le-ltb c 58 a)

signs : (c : ℕ) → 58 ≤ c → c < 65 → kit_value c ≡ 36
signs c a b = from58 c a ∙ cond-true (nat_lt c 65) _ _ (lt-ltb c 65 b)

uppers : (c : ℕ) → 65 ≤ c → c < 91 → kit_value c ≡ c - 55
uppers c a b = from58 c (omega (arith, a)) ∙ cond-false (nat_lt c 65) _ _ (le-ltb c 65 a) ∙ cond-true (nat_lt c 91) _ _ (lt-ltb c 91 b)

from91 : (c : ℕ) → 91 ≤ c → kit_value c ≡ cond (nat_lt c 97) 36 (cond (nat_lt c 123) (c - 87) 36)
from91 c a = from58 c (omega (arith, a)) ∙ cond-false (nat_lt c 65) _ _ (le-ltb c 65 (omega (arith, a))) ∙ cond-false (nat_lt c 91) _ _ (le-ltb c 91 a)

marks : (c : ℕ) → 91 ≤ c → c < 97 → kit_value c ≡ 36
marks c a b = from91 c a ∙ cond-true (nat_lt c 97) _ _ (lt-ltb c 97 b)

lowers : (c : ℕ) → 97 ≤ c → c < 123 → kit_value c ≡ c - 87
lowers c a b = from91 c (omega (arith, a)) ∙ cond-false (nat_lt c 97) _ _ (le-ltb c 97 a) ∙ cond-true (nat_lt c 123) _ _ (lt-ltb c 123 b)

highs : (c : ℕ) → 123 ≤ c → kit_value c ≡ 36
highs c a = from91 c (omega (arith, a)) ∙ cond-false (nat_lt c 97) _ _ (le-ltb c 97 (omega (arith, a))) ∙ cond-false (nat_lt c 123) _ _ (le-ltb c 123 a)

-- a byte in a range
in_range : (a b c : ℕ) → (nat_le a c && nat_le c b) ≡ true → (a ≤ c) × (c ≤ b)
in_range a b c e = let p = and_parts (nat_le a c) (nat_le c b) e in (leb-true a c p.0, leb-true c b p.1)

not_le : (a b : ℕ) → b < a → nat_le a b ≡ false
not_le a b lt = by (nat_le a b) refl
  where
    by : (t : Bool) → nat_le a b ≡ t → nat_le a b ≡ false
    by true e = absurd (let u : a ≤ b = leb-true a b e in omega (arith, u, lt))
    by false e = e

inside : (a b c : ℕ) → a ≤ c → c ≤ b → (nat_le a c && nat_le c b) ≡ true
inside a b c p q = and_from (nat_le a c) (nat_le c b) (le-leb a c p) (le-leb c b q)

past : (a b c : ℕ) → b < c → (nat_le a c && nat_le c b) ≡ false
past a b c h = by (nat_le a c) (not_le c b h)
  where
    by : (t : Bool) → nat_le c b ≡ false → (t && nat_le c b) ≡ false
    by true e = e
    by false e = refl

before : (a b c : ℕ) → c < a → (nat_le a c && nat_le c b) ≡ false
before a b c h = and_left (nat_le a c) (nat_le c b) (not_le a c h)

pub digit_is : (c d : ℕ) → digit_value c ≡ Some d → kit_value c ≡ d
digit_is c d e = elim (chosen (nat_le 48 c && nat_le c 57) (Some (c - 48)) _ (Some d) e) [
  | inl p ↦ (let r = in_range 48 57 c p.0 in decimals c r.0 (omega (arith, r.1)) ∙ same_some (c - 48) d p.1)
  | inr p ↦ elim (chosen (nat_le 97 c && nat_le c 102) (Some (c - 87)) _ (Some d) p.1) [
    | inl q ↦ (let r = in_range 97 102 c q.0 in lowers c r.0 (omega (arith, r.1)) ∙ same_some (c - 87) d q.1)
    | inr q ↦ elim (chosen (nat_le 65 c && nat_le c 70) (Some (c - 55)) None (Some d) q.1) [
      | inl r ↦ (let s = in_range 65 70 c r.0 in uppers c s.0 (omega (arith, s.1)) ∙ same_some (c - 55) d r.1)
      | inr r ↦ absurd (none_some d r.1)
    ]
  ]
]

pub digit_back : (c : ℕ) → kit_value c < 16 → digit_value c ≡ Some (kit_value c)
digit_back c h = elim (cases_lt c 48) [
  | inl a ↦ absurd (omega (arith, h, low c a))
  | inr a ↦ elim (cases_lt c 58) [
    | inl b ↦ cond-true (nat_le 48 c && nat_le c 57) _ _ (inside 48 57 c a (omega (arith, b))) ∙ ap Some (sym (decimals c a b))
    | inr b ↦ elim (cases_lt c 65) [
      | inl d ↦ absurd (omega (arith, h, signs c b d))
      | inr d ↦ elim (cases_lt c 91) [
        | inl e ↦
            let m : c ≤ 70 = omega (arith, h, uppers c d e) in
            cond-false (nat_le 48 c && nat_le c 57) _ _ (past 48 57 c (omega (arith, d))) ∙ cond-false (nat_le 97 c && nat_le c 102) _ _ (before 97 102 c (omega (arith, m)))
            ∙ cond-true (nat_le 65 c && nat_le c 70) _ _ (inside 65 70 c d m) ∙ ap Some (sym (uppers c d e))
        | inr e ↦ elim (cases_lt c 97) [
          | inl f ↦ absurd (omega (arith, h, marks c e f))
          | inr f ↦ elim (cases_lt c 123) [
            | inl g ↦
                let m : c ≤ 102 = omega (arith, h, lowers c f g) in
                cond-false (nat_le 48 c && nat_le c 57) _ _ (past 48 57 c (omega (arith, f)))
                ∙ cond-true (nat_le 97 c && nat_le c 102) _ _ (inside 97 102 c f m) ∙ ap Some (sym (lowers c f g))
            | inr g ↦ absurd (omega (arith, h, highs c g))
          ]
        ]
      ]
    ]
  ]
]

-- ---- digits in a row

abbrev pub next : ℕ → ℕ → ℕ → ℕ
next base n d = n * base + d

-- The code's view of a text that has these digits.
pub record Writes (base : ℕ) (ds b : List ℕ) : Type 0 where
  pub are : (after : Bool) → are_digits base after b ≡ true
  pub value_is : (n : ℕ) → digits_value_after base n (plain b) ≡ fold (next base) n ds
  pub count : length (plain b) ≡ length ds

digit_here : (base c d : ℕ) → digit_value c ≡ Some d → d < base → is_digit c base ≡ true
digit_here base c d v lt = lt-ltb (kit_value c) base (omega (arith, digit_is c d v, lt))

on_digit : (base c d : ℕ) (after : Bool) (b : List ℕ) → base ≤ 36 → digit_value c ≡ Some d → d < base → are_digits base after (c ∷ b) ≡ are_digits base true b
on_digit base c d after b h v lt =
    let i = digit_here base c d v lt in
    cond-false ((c == 95) && after) _ _ (and_left (c == 95) after (digit_not_under base c h i)) ∙ cond-true (is_digit c base) _ _ i

plain_digit : (base c d : ℕ) (b : List ℕ) → base ≤ 36 → digit_value c ≡ Some d → d < base → plain (c ∷ b) ≡ c ∷ plain b
plain_digit base c d b h v lt = cond-false (c == 95) _ _ (digit_not_under base c h (digit_here base c d v lt))

-- a digit before what follows it, with an underscore or with none
writes_more : (base c d : ℕ) (ds b w : List ℕ) → base ≤ 36 → digit_value c ≡ Some d → d < base → (are_digits base true b ≡ true) → plain b ≡ plain w
    → ((n : ℕ) → digits_value_after base n (plain w) ≡ fold (next base) n ds) → length (plain w) ≡ length ds → Writes base (d ∷ ds) (c ∷ b)
writes_more base c d ds b w h v lt are same val len =
    let p : plain (c ∷ b) ≡ c ∷ plain w = plain_digit base c d b h v lt ∙ ap (λ (z : List ℕ). c ∷ z) same in
    record {
      are = λ after. on_digit base c d after b h v lt ∙ are;
      value_is = λ n. ap (λ (z : List ℕ). digits_value_after base n z) p ∙ val (n * base + kit_value c) ∙ ap (λ (x : ℕ). fold (next base) (n * base + x) ds) (digit_is c d v);
      count = omega (arith, ap length p, len);
    }

pub digits_write : (base : ℕ) (ds b : List ℕ) → base ≤ 36 → Digits base ds b → Writes base ds b
digits_write base [] b h k = absurd k
digits_write base (d ∷ []) b h (c, e, v, lt) =
    subst (Writes base (d ∷ [])) (sym e) (writes_more base c d [] [] [] h v lt refl refl (λ n. refl) refl)
digits_write base (d ∷ e ∷ ds) b h (x, y, all, (c, is, v, lt), (s, w, parts, inl under, more)) =
    let text : b ≡ c ∷ 95 ∷ w = all ∙ ap (λ (z : List ℕ). z ++ y) is ∙ ap (λ (z : List ℕ). c ∷ z) (parts ∙ ap (λ (z : List ℕ). z ++ w) under) in
    let k = digits_write base (e ∷ ds) w h more in
    subst (Writes base (d ∷ e ∷ ds)) (sym text) (writes_more base c d (e ∷ ds) (95 ∷ w) w h v lt (k.are false) refl k.value_is k.count)
digits_write base (d ∷ e ∷ ds) b h (x, y, all, (c, is, v, lt), (s, w, parts, inr none, more)) =
    let text : b ≡ c ∷ w = all ∙ ap (λ (z : List ℕ). z ++ y) is ∙ ap (λ (z : List ℕ). c ∷ z) (parts ∙ ap (λ (z : List ℕ). z ++ w) none) in
    let k = digits_write base (e ∷ ds) w h more in
    subst (Writes base (d ∷ e ∷ ds)) (sym text) (writes_more base c d (e ∷ ds) w w h v lt (k.are true) refl k.value_is k.count)

-- ---- back

-- The rest of some digits, after a digit or not.
abbrev pub DigitsLeft : ℕ → Bool → List ℕ → Type 0
DigitsLeft base false b = (d : ℕ) × (ds : List ℕ) × Digits base (d ∷ ds) b
DigitsLeft base true b = (b ≡ []) ⊎ ((d : ℕ) × (ds w : List ℕ) × ((b ≡ 95 ∷ w) ⊎ (b ≡ w)) × Digits base (d ∷ ds) w)

digit_first : (base c : ℕ) (b : List ℕ) → base ≤ 16 → is_digit c base ≡ true → DigitsLeft base true b → DigitsLeft base false (c ∷ b)
digit_first base c b h i left = by left
  where
    below : kit_value c < base
    below = ltb-true (kit_value c) base i

    has : digit_value c ≡ Some (kit_value c)
    has = digit_back c (omega (arith, below, h))

    by : DigitsLeft base true b → DigitsLeft base false (c ∷ b)
    by (inl e) = (kit_value c, [], (c, ap (λ (z : List ℕ). c ∷ z) e, has, below))
    by (inr (x, ds, w, inl e, k)) = (kit_value c, x ∷ ds, (c ∷ [], b, refl, (c, refl, has, below), (95 ∷ [], w, e, inl refl, k)))
    by (inr (x, ds, w, inr e, k)) = (kit_value c, x ∷ ds, (c ∷ [], b, refl, (c, refl, has, below), ([], w, e, inr refl, k)))

any_after : (base : ℕ) (b : List ℕ) → DigitsLeft base false b → DigitsLeft base true b
any_after base b (d, ds, k) = inr (d, ds, b, inr refl, k)

digits_left : (base : ℕ) (after : Bool) (b : List ℕ) → base ≤ 16 → are_digits base after b ≡ true → DigitsLeft base after b
digits_left base true [] h e = inl refl
digits_left base false [] h e = absurd (let f : false ≡ true = e in cc)
digits_left base true (c ∷ b) h e = elim (chosen ((c == 95) && true) (are_digits base false b) _ true e) [
  | inl p ↦ (
      let u : c ≡ 95 = eqb-true c 95 (and_parts (c == 95) true p.0).0 in
      let g = digits_left base false b h p.1 in
      inr (g.0, g.1, b, inl (ap (λ (z : ℕ). z ∷ b) u), g.2))
  | inr p ↦ elim (chosen (is_digit c base) (are_digits base true b) false true p.1) [
    | inl q ↦ any_after base (c ∷ b) (digit_first base c b h q.0 (digits_left base true b h q.1))
    | inr q ↦ absurd (let f : false ≡ true = q.1 in cc)
  ]
]
digits_left base false (c ∷ b) h e = elim (chosen ((c == 95) && false) (are_digits base false b) _ true e) [
  | inl p ↦ absurd (let f : false ≡ true = (and_parts (c == 95) false p.0).1 in cc)
  | inr p ↦ elim (chosen (is_digit c base) (are_digits base true b) false true p.1) [
    | inl q ↦ digit_first base c b h q.0 (digits_left base true b h q.1)
    | inr q ↦ absurd (let f : false ≡ true = q.1 in cc)
  ]
]

pub digits_are : (base : ℕ) (b : List ℕ) → base ≤ 16 → are_digits base false b ≡ true → (d : ℕ) × (ds : List ℕ) × Digits base (d ∷ ds) b
digits_are base b h e = digits_left base false b h e

pub fold_append : (f : ℕ → ℕ → ℕ) (n : ℕ) (xs ys : List ℕ) → fold f n (xs ++ ys) ≡ fold f (fold f n xs) ys
fold_append f n [] ys = refl
fold_append f n (x ∷ xs) ys = fold_append f (f n x) xs ys
