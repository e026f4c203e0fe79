-- Digits with underscores between them, and the digits alone.
use Rattle.std.proofs.Common.{◌≡◌, ℕ, zero, suc, ◌<◌, ◌≤◌, ◌+◌, ◌*◌, Bool, true, false, cond, List, [], ◌∷◌, ◌++◌, length, Some, None, refl, sym, ap, subst, ◌∙◌, inl, inr, arith, take, get_or}
use Rattle.std.specs.Prelude.{◌==◌, ◌&&◌, ◌≢◌}
use Rattle.std.specs.Char.{digit_value, is_digit}
use Rattle.std.specs.Str.Parse.{AllDigits, digits_value_after}
use Rattle.std.proofs.lemmas.Bool.{cond-true, cond-false, eq-eqb, ne_eqb, and_parts, ltb-true, le-ltb}
use Rattle.wm_floats.specs.exact.Atoms.{are_digits, are_digits_or_none, next_after, plain}
use Rattle.wm_floats.proofs.Basics.{chosen, same_some, none_some}

-- ---- one more byte

under_is_none : (base : ℕ) → base ≤ 36 → is_digit 95 base ≡ false
under_is_none base h = le-ltb 36 base h

pub digit_not_under : (base c : ℕ) → base ≤ 36 → is_digit c base ≡ true → (c == 95) ≡ false
digit_not_under base c h d = ne_eqb c 95 (λ e. let f : is_digit 95 base ≡ true = ap (λ (x : ℕ). is_digit x base) (sym e) ∙ d in let g : false ≡ true = sym (under_is_none base h) ∙ f in cc)

pub digits_go : (base c : ℕ) (after a : Bool) (b : List ℕ) → Some a ≡ next_after base after c → are_digits base after (c ∷ b) ≡ are_digits base a b
unfolding next_after
digits_go base c after a b e = elim (chosen ((c == 95) && after) (Some false) _ (Some a) (sym e)) [
  | inl p ↦ cond-true ((c == 95) && after) _ _ p.0 ∙ ap (λ (x : Bool). are_digits base x b) (same_some false a p.1)
  | inr p ↦ elim (chosen (is_digit c base) (Some true) None (Some a) p.1) [
    | inl q ↦ cond-false ((c == 95) && after) _ _ p.0 ∙ cond-true (is_digit c base) _ _ q.0 ∙ ap (λ (x : Bool). are_digits base x b) (same_some true a q.1)
    | inr q ↦ absurd (none_some a q.1)
  ]
]

pub digits_halt : (base c : ℕ) (after : Bool) (b : List ℕ) → None ≡ next_after base after c → are_digits base after (c ∷ b) ≡ false
unfolding next_after
digits_halt base c after b e = elim (chosen ((c == 95) && after) (Some false) _ None (sym e)) [
  | inl p ↦ absurd (none_some false (sym p.1))
  | inr p ↦ elim (chosen (is_digit c base) (Some true) None None p.1) [
    | inl q ↦ absurd (none_some true (sym q.1))
    | inr q ↦ cond-false ((c == 95) && after) _ _ p.0 ∙ cond-false (is_digit c base) _ _ q.0
  ]
]

pub digits_end : (base : ℕ) (after : Bool) (b : List ℕ) → b ≡ [] → are_digits base after b ≡ after
digits_end base after b e = ap (λ (z : List ℕ). are_digits base after z) e

pub ruleset digit_laws = (digits_go, digits_halt, digits_end)

-- ---- without underscores

pub plain_skip : (c : ℕ) (b : List ℕ) → c ≡ 95 → plain (c ∷ b) ≡ plain b
plain_skip c b e = cond-true (c == 95) _ _ (eq-eqb c 95 e)

pub plain_keep : (c : ℕ) (b : List ℕ) → c ≢ 95 → plain (c ∷ b) ≡ c ∷ plain b
plain_keep c b n = cond-false (c == 95) _ _ (ne_eqb c 95 n)

pub plain_end : (b : List ℕ) → b ≡ [] → plain b ≡ []
plain_end b e = ap plain e

pub ruleset plain_laws = (plain_skip, plain_keep, plain_end)

pub plain_append : (a b : List ℕ) → plain (a ++ b) ≡ plain a ++ plain b
plain_append [] b = refl
plain_append (c ∷ a) b = by (c == 95) (plain_append a b)
  where
    by : (t : Bool) → plain (a ++ b) ≡ plain a ++ plain b → cond t (plain (a ++ b)) (c ∷ plain (a ++ b)) ≡ cond t (plain a) (c ∷ plain a) ++ plain b
    by true e = e
    by false e = ap (λ (z : List ℕ). c ∷ z) e

-- up to one byte more
pub plain_next : (bs : List ℕ) (i : ℕ) → i < length bs → plain (take (i + 1) bs) ≡ plain (take i bs) ++ plain (get_or bs i 0 ∷ [])
plain_next [] i l = absurd (omega (arith, l))
plain_next (x ∷ xs) zero l = refl
plain_next (x ∷ xs) (suc i) l =
    let e : suc i + 1 ≡ suc (i + 1) = omega arith in
    ap (λ k. plain (take k (x ∷ xs))) e ∙ by (x == 95) (plain_next xs i (omega (arith, l)))
  where
    by : (t : Bool) → plain (take (i + 1) xs) ≡ plain (take i xs) ++ plain (get_or xs i 0 ∷ [])
        → cond t (plain (take (i + 1) xs)) (x ∷ plain (take (i + 1) xs)) ≡ cond t (plain (take i xs)) (x ∷ plain (take i xs)) ++ plain (get_or xs i 0 ∷ [])
    by true e = e
    by false e = ap (λ (z : List ℕ). x ∷ z) e

-- each byte is a digit or an underscore
pub plain_byte : (base : ℕ) (bs : List ℕ) (i : ℕ) → AllDigits base (plain bs) → i < length bs → AllDigits base (plain (get_or bs i 0 ∷ []))
plain_byte base [] i h l = absurd (omega (arith, l))
plain_byte base (x ∷ xs) zero h l = by (x == 95) h
  where
    by : (t : Bool) → AllDigits base (cond t (plain xs) (x ∷ plain xs)) → AllDigits base (cond t [] (x ∷ []))
    by true h = tt
    by false h = (h.0, tt)
plain_byte base (x ∷ xs) (suc i) h l = plain_byte base xs i (by (x == 95) h) (omega (arith, l))
  where
    by : (t : Bool) → AllDigits base (cond t (plain xs) (x ∷ plain xs)) → AllDigits base (plain xs)
    by true h = h
    by false h = h.1

-- digits after digits
pub after_append : (base n : ℕ) (xs ys : List ℕ) → digits_value_after base n (xs ++ ys) ≡ digits_value_after base (digits_value_after base n xs) ys
after_append base n [] ys = refl
after_append base n (x ∷ xs) ys = after_append base (n * base + digit_value x) xs ys

pub one_after : (base n : ℕ) (bs : List ℕ) (i : ℕ) → i < length bs
    → digits_value_after base n (plain (take (i + 1) bs)) ≡ digits_value_after base (digits_value_after base n (plain (take i bs))) (plain (get_or bs i 0 ∷ []))
one_after base n bs i l = ap (λ (z : List ℕ). digits_value_after base n z) (plain_next bs i l) ∙ after_append base n (plain (take i bs)) (plain (get_or bs i 0 ∷ []))

pub value_skip : (base n c : ℕ) → c ≡ 95 → digits_value_after base n (plain (c ∷ [])) ≡ n
value_skip base n c e = ap (λ (z : List ℕ). digits_value_after base n z) (plain_skip c [] e)

pub value_keep : (base n c : ℕ) → c ≢ 95 → digits_value_after base n (plain (c ∷ [])) ≡ n * base + digit_value c
value_keep base n c e = ap (λ (z : List ℕ). digits_value_after base n z) (plain_keep c [] e)

-- a byte that is no underscore is a digit
pub byte_below : (base c : ℕ) → c ≢ 95 → AllDigits base (plain (c ∷ [])) → digit_value c < base
byte_below base c n h = let k : AllDigits base (c ∷ []) = subst (AllDigits base) (plain_keep c [] n) h in k.0

-- ---- digits are digits

pub digits_all : (base : ℕ) (after : Bool) (b : List ℕ) → base ≤ 36 → are_digits base after b ≡ true → AllDigits base (plain b)
digits_all base after [] h e = tt
digits_all base after (c ∷ b) h e = elim (chosen ((c == 95) && after) (are_digits base false b) _ true e) [
  | inl p ↦ subst (AllDigits base) (sym (cond-true (c == 95) (plain b) (c ∷ plain b) (and_parts (c == 95) after p.0).0)) (digits_all base false b h p.1)
  | inr p ↦ elim (chosen (is_digit c base) (are_digits base true b) false true p.1) [
    | inl q ↦ subst (AllDigits base) (sym (cond-false (c == 95) (plain b) (c ∷ plain b) (digit_not_under base c h q.0))) (ltb-true (digit_value c) base q.0, digits_all base true b h q.1)
    | inr q ↦ absurd (let f : false ≡ true = q.1 in cc)
  ]
]

pub none_or_digits : (base : ℕ) (b : List ℕ) → base ≤ 36 → are_digits_or_none base b ≡ true → AllDigits base (plain b)
none_or_digits base [] h e = tt
none_or_digits base (c ∷ b) h e = digits_all base false (c ∷ b) h e

-- and there is one
pub digits_some : (base : ℕ) (b : List ℕ) → base ≤ 36 → are_digits base false b ≡ true → (c : ℕ) × (r : List ℕ) × (plain b ≡ c ∷ r)
digits_some base [] h e = absurd (let f : false ≡ true = e in cc)
digits_some base (c ∷ b) h e = elim (chosen ((c == 95) && false) (are_digits base false b) _ true e) [
  | inl p ↦ absurd (let f : false ≡ true = (and_parts (c == 95) false p.0).1 in cc)
  | inr p ↦ elim (chosen (is_digit c base) (are_digits base true b) false true p.1) [
    | inl q ↦ (c, plain b, cond-false (c == 95) (plain b) (c ∷ plain b) (digit_not_under base c h q.0))
    | inr q ↦ absurd (let f : false ≡ true = q.1 in cc)
  ]
]

pub plain_short : (b : List ℕ) → length (plain b) ≤ length b
plain_short [] = omega arith
plain_short (c ∷ b) = by (c == 95) (plain_short b)
  where
    by : (t : Bool) → length (plain b) ≤ length b → length (cond t (plain b) (c ∷ plain b)) ≤ suc (length b)
    by true h = omega (arith, h)
    by false h = omega (arith, h)
