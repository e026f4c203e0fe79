-- Numbers, which the code reads up to 2^64.
use Rattle.std.proofs.Common.{◌≡◌, ℕ, zero, suc, ◌<◌, ◌≤◌, ◌+◌, ◌-◌, Bool, true, false, List, [], ◌∷◌, ◌++◌, Option, Some, None, refl, sym, ap, ◌∙◌, arith}
use Rattle.std.specs.Prelude.{min, nat_lt, nat_le, pos, neg_ℤ, ◌-ℤ◌, ◌^◌, ◌==◌, ◌≢◌}
use Rattle.std.specs.Option.{option_map, MatchOption}
use Rattle.std.proofs.lemmas.Bool.{cond-true, cond-false, lt-ltb, le-ltb, le-leb, leb-true, eq-eqb, ne_eqb}
use Rattle.wm_tokens.specs.Tokens.{digit_value}
use Rattle.wm_tokens.specs.exact.Scan.{magnitude_of}
use Rattle.wm_tokens.proofs.Basics.{same_some}
use Rattle.wm_tokens.proofs.Atoms.{first_digit}
use Rattle.wm_bodies.specs.exact.Reading.{◌>>=◌, unsigned_of, plus_of, minus_of, plain_of, integer_of, exponent_below, exponent_of, after_key}
use Rattle.std.specs.Borrow.{Bor}
use Rattle.wm_bodies.proofs.Immediates.{key_found, key_more}

abbrev large : ℕ
large = 0x1_0000_0000_0000_0000

abbrev capped : Option ℕ → Option ℕ
capped o = option_map (λ k. min k 0x1_0000_0000_0000_0000) o

within : (o : Option ℕ) (n : ℕ) → Some n ≡ capped o → n < large → o ≡ Some n
within None n e lt = cc
within (Some m) n e lt = let q : n ≡ min m large = same_some n (min m large) e in ap Some (omega arith)

beyond : (o : Option ℕ) (n b : ℕ) → Some n ≡ capped o → b ≤ n → b ≤ large → (m : ℕ) × (o ≡ Some m) × (b ≤ m)
beyond None n b e le l = cc
beyond (Some m) n b e le l = let q : n ≡ min m large = same_some n (min m large) e in (m, refl, omega arith)

nothing : (o : Option ℕ) → None ≡ capped o → o ≡ None
nothing None e = refl
nothing (Some m) e = cc

bind_at : {B : Type 0} (o : Option ℕ) (f : ℕ → Option B) (n : ℕ) → o ≡ Some n → f n ≡ (o >>= f)
bind_at o f n e = ap (λ (z : Option ℕ). z >>= f) (sym e)

bind_none : {B : Type 0} (o : Option ℕ) (f : ℕ → Option B) → o ≡ None → None ≡ (o >>= f)
bind_none o f e = ap (λ (z : Option ℕ). z >>= f) (sym e)

pub unsigned_in : (a : List ℕ) (n : ℕ) → Some n ≡ capped (magnitude_of a) → n < 0x1_0000_0000 → Some n ≡ unsigned_of a
unsigned_in a n e lt = sym (cond-true (nat_lt n 0x1_0000_0000) _ _ (lt-ltb n 0x1_0000_0000 lt)) ∙ bind_at (magnitude_of a) _ n (within (magnitude_of a) n e (omega arith))

pub unsigned_out : (a : List ℕ) (n : ℕ) → Some n ≡ capped (magnitude_of a) → 0x1_0000_0000 ≤ n → None ≡ unsigned_of a
unsigned_out a n e le = let b = beyond (magnitude_of a) n 0x1_0000_0000 e le (omega arith) in sym (cond-false (nat_lt b.0 0x1_0000_0000) _ _ (le-ltb b.0 0x1_0000_0000 b.2)) ∙ bind_at (magnitude_of a) _ b.0 b.1

pub unsigned_none : (a : List ℕ) → None ≡ capped (magnitude_of a) → None ≡ unsigned_of a
unsigned_none a e = bind_none (magnitude_of a) _ (nothing (magnitude_of a) e)

pub plus_in : (half : ℕ) (a : List ℕ) (n : ℕ) → Some n ≡ capped (magnitude_of a) → n < half → half < large → Some (pos n) ≡ plus_of half a
plus_in half a n e lt l = sym (cond-true (nat_lt n half) _ _ (lt-ltb n half lt)) ∙ bind_at (magnitude_of a) _ n (within (magnitude_of a) n e (omega arith))

pub plus_out : (half : ℕ) (a : List ℕ) (n : ℕ) → Some n ≡ capped (magnitude_of a) → half ≤ n → half < large → None ≡ plus_of half a
plus_out half a n e le l = let b = beyond (magnitude_of a) n half e le (omega arith) in sym (cond-false (nat_lt b.0 half) _ _ (le-ltb b.0 half b.2)) ∙ bind_at (magnitude_of a) _ b.0 b.1

pub plus_none : (half : ℕ) (a : List ℕ) → None ≡ capped (magnitude_of a) → None ≡ plus_of half a
plus_none half a e = bind_none (magnitude_of a) _ (nothing (magnitude_of a) e)

not_le : (a b : ℕ) → b < a → nat_le a b ≡ false
not_le a b lt = by (nat_le a b) refl
  where
    by : (t : Bool) → nat_le a b ≡ t → nat_le a b ≡ false
    by true e = absurd (let u : a ≤ b = leb-true a b e in omega arith)
    by false e = e

pub minus_in : (half : ℕ) (a : List ℕ) (n : ℕ) → Some n ≡ capped (magnitude_of a) → n ≤ half → half < large → Some (neg_ℤ (pos n)) ≡ minus_of half a
minus_in half a n e le l = sym (cond-true (nat_le n half) _ _ (le-leb n half le)) ∙ bind_at (magnitude_of a) _ n (within (magnitude_of a) n e (omega arith))

pub minus_out : (half : ℕ) (a : List ℕ) (n : ℕ) → Some n ≡ capped (magnitude_of a) → half < n → half < large → None ≡ minus_of half a
minus_out half a n e lt l = let b = beyond (magnitude_of a) n (half + 1) e (omega arith) (omega arith) in sym (cond-false (nat_le b.0 half) _ _ (not_le b.0 half (omega (arith, b.2)))) ∙ bind_at (magnitude_of a) _ b.0 b.1

pub minus_none : (half : ℕ) (a : List ℕ) → None ≡ capped (magnitude_of a) → None ≡ minus_of half a
minus_none half a e = bind_none (magnitude_of a) _ (nothing (magnitude_of a) e)

pub plain_low : (half whole : ℕ) (a : List ℕ) (n : ℕ) → Some n ≡ capped (magnitude_of a) → n < half → half < large → Some (pos n) ≡ plain_of half whole a
plain_low half whole a n e lt l = sym (cond-true (nat_lt n half) _ _ (lt-ltb n half lt)) ∙ bind_at (magnitude_of a) _ n (within (magnitude_of a) n e (omega arith))

pub plain_high : (half whole : ℕ) (a : List ℕ) (n : ℕ) → Some n ≡ capped (magnitude_of a) → half ≤ n → n < whole → whole ≤ large → Some (pos n -ℤ pos whole) ≡ plain_of half whole a
plain_high half whole a n e ge lt l = sym (cond-false (nat_lt n half) _ _ (le-ltb n half ge) ∙ cond-true (nat_lt n whole) _ _ (lt-ltb n whole lt)) ∙ bind_at (magnitude_of a) _ n (within (magnitude_of a) n e (omega arith))

pub plain_out : (half whole : ℕ) (a : List ℕ) (n : ℕ) → Some n ≡ capped (magnitude_of a) → whole ≤ n → half ≤ whole → whole ≤ large → None ≡ plain_of half whole a
plain_out half whole a n e ge h l = let b = beyond (magnitude_of a) n whole e ge l in sym (cond-false (nat_lt b.0 half) _ _ (le-ltb b.0 half (omega (arith, b.2))) ∙ cond-false (nat_lt b.0 whole) _ _ (le-ltb b.0 whole b.2)) ∙ bind_at (magnitude_of a) _ b.0 b.1

pub plain_none : (half whole : ℕ) (a : List ℕ) → None ≡ capped (magnitude_of a) → None ≡ plain_of half whole a
plain_none half whole a e = bind_none (magnitude_of a) _ (nothing (magnitude_of a) e)

-- ---- exponents
pub below_hit : (e n : ℕ) → 0 < e → 2 ^ (e - 1) ≡ n → Some (e - 1) ≡ exponent_below e n
below_hit zero n lt h = absurd (omega (arith, lt))
below_hit (suc e) n lt h = let q : suc e - 1 ≡ e = omega arith in ap Some q ∙ sym (cond-true (2 ^ e == n) _ _ (eq-eqb (2 ^ e) n (ap (λ (x : ℕ). 2 ^ x) (sym q) ∙ h)))

pub below_miss : (e n : ℕ) → 0 < e → 2 ^ (e - 1) ≢ n → exponent_below (e - 1) n ≡ exponent_below e n
below_miss zero n lt h = absurd (omega (arith, lt))
below_miss (suc e) n lt h = let q : suc e - 1 ≡ e = omega arith in ap (λ (x : ℕ). exponent_below x n) q ∙ sym (cond-false (2 ^ e == n) _ _ (ne_eqb (2 ^ e) n (λ w. h (ap (λ (x : ℕ). 2 ^ x) q ∙ w))))

pub below_all : (n : ℕ) → exponent_below 32 n ≡ exponent_of n
unfolding exponent_of
below_all n = refl

pub below_none : (e n : ℕ) → e ≤ 0 → None ≡ exponent_below e n
below_none zero n h = refl
below_none (suc e) n h = absurd (omega (arith, h))

-- ---- keys
pub key_none : (key a : List ℕ) → ((rest : List ℕ) → a ≢ key ++ rest) → after_key key a ≡ None
key_none key a h = by (after_key key a) refl
  where
    by : (o : Option (List ℕ)) → after_key key a ≡ o → after_key key a ≡ None
    by None e = e
    by (Some d) e = absurd (h d (key_found key a d e))

pub key_cases : (key a : List ℕ) (r : Option (Bor (List ℕ))) → MatchOption r ((rest : List ℕ) → a ≢ key ++ rest) (λ x. a ≡ key ++ x.now) → MatchOption r (after_key key a ≡ None) (λ x. after_key key a ≡ Some x.now)
key_cases key a None h = key_none key a h
key_cases key a (Some x) h = ap (after_key key) h ∙ key_more key x.now

-- a number below 10 ^ 9
pub short_unsigned : (a : List ℕ) (n : ℕ) → magnitude_of a ≡ Some n → n < 1_000_000_000 → Some n ≡ unsigned_of a
short_unsigned a n e lt = sym (cond-true (nat_lt n 0x1_0000_0000) _ _ (lt-ltb n 0x1_0000_0000 (omega (arith, lt)))) ∙ bind_at (magnitude_of a) _ n e

pub short_constant : (a : List ℕ) (n : ℕ) → magnitude_of a ≡ Some n → n < 1_000_000_000 → Some (pos n) ≡ integer_of 32 a
unfolding integer_of
short_constant [] n e lt = absurd cc
short_constant (c ∷ b) n e lt =
    let away : (x : ℕ) → digit_value x ≡ None → (c == x) ≡ false = λ x v. ne_eqb c x (λ k. first_digit x b n v (ap (λ (z : ℕ). magnitude_of (z ∷ b)) (sym k) ∙ e)) in
    sym (cond-false (c == 43) _ _ (away 43 refl) ∙ cond-false (c == 45) _ _ (away 45 refl) ∙ sym (bind_at (magnitude_of (c ∷ b)) _ n e) ∙ cond-true (nat_lt n 0x8000_0000) _ _ (lt-ltb n 0x8000_0000 (omega (arith, lt))))

pub ruleset number_laws = (unsigned_in, unsigned_out, unsigned_none, plus_in, plus_out, plus_none, minus_in, minus_out, minus_none, plain_low, plain_high, plain_out, plain_none)
