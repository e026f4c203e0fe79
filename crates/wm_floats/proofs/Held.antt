-- Numbers that are limited to 2^56.
use Rattle.std.proofs.Common.{◌≡◌, ℕ, ◌<◌, ◌≤◌, ◌+◌, ◌*◌, ◌^◌, Bool, true, false, cond, List, [], ◌∷◌, length, Option, None, sym, ap, ◌∙◌, inl, inr, arith, take, get_or, min}
use Rattle.std.specs.Prelude.{◌≢◌, ◌==◌, nat_lt}
use Rattle.std.specs.Char.{digit_value}
use Rattle.std.specs.Str.Parse.{AllDigits, digits_value, digits_value_after}
use Rattle.std.proofs.Math.Nat.{mul-le-mul_right, mul-le-mul_left}
use Rattle.std.proofs.lemmas.Bool.{cond-true, cond-false, cases_lt, lt-ltb, le-ltb}
use Rattle.wm_syntax.specs.declared.instructions.FloatType.{FloatType}
use Rattle.wm_syntax.specs.declared.instructions.FloatType.TheVariants.{F32, F64}
use Rattle.wm_syntax.specs.Floats.{signif}
use Rattle.wm_floats.specs.exact.Atoms.{plain, payload_bits, nan_bits, are_digits}
use Rattle.wm_floats.proofs.Underscores.{one_after, value_skip, value_keep, byte_below, digits_all}

abbrev pub most : ℕ
most = 2 ^ 56

-- ---- one byte

pub held_skip : (base n c : ℕ) → c ≡ 95 → n ≤ 2 ^ 56 → n ≡ min (digits_value_after base n (plain (c ∷ []))) (2 ^ 56)
held_skip base n c e h = let k = value_skip base n c e in omega (arith, k, h)

pub held_digit : (base n c d r : ℕ) → c ≢ 95 → d ≡ digit_value c → r ≡ min (n * base + d) (2 ^ 56) → r ≡ min (digits_value_after base n (plain (c ∷ []))) (2 ^ 56)
held_digit base n c d r u e h = h ∙ ap (λ (x : ℕ). min x most) (ap (λ (x : ℕ). n * base + x) e ∙ sym (value_keep base n c u))

pub digit_small : (base c : ℕ) → base ≤ 16 → c ≢ 95 → AllDigits base (plain (c ∷ [])) → digit_value c < 16
digit_small base c h u a = omega (arith, byte_below base c u a, h)

pub ruleset held_laws = (held_skip, held_digit, digit_small)

-- ---- all of them

held_times : (base x d : ℕ) → 1 ≤ base → min (min x most * base + d) most ≡ min (x * base + d) most
held_times base x d h = elim (cases_lt x most) [
  | inl lt ↦ (let k : min x most ≡ x = omega (arith, lt) in ap (λ (y : ℕ). min (y * base + d) most) k)
  | inr le ↦ (
      let k : min x most ≡ most = omega (arith, le) in
      let a : most * 1 ≤ most * base = mul-le-mul_left most h in
      let b : most * base ≤ x * base = mul-le-mul_right base le in
      ap (λ (y : ℕ). min (y * base + d) most) k ∙ above (most * base + d) (x * base + d) (omega (arith, a)) (omega (arith, a, b)))
]
  where
    above : (x y : ℕ) → most ≤ x → most ≤ y → min x most ≡ min y most
    above x y p q = omega (arith, p, q)

held_twice : (base x c : ℕ) → 1 ≤ base → min (digits_value_after base (min x most) (plain (c ∷ []))) most ≡ min (digits_value_after base x (plain (c ∷ []))) most
held_twice base x c h = by (c == 95)
  where
    by : (t : Bool) → min (digits_value_after base (min x most) (cond t [] (c ∷ []))) most ≡ min (digits_value_after base x (cond t [] (c ∷ []))) most
    by true = omega arith
    by false = held_times base x (digit_value c) h

pub held_next : (base : ℕ) (bs : List ℕ) (i n r : ℕ) → 1 ≤ base → i < length bs → n ≡ min (digits_value base (plain (take i bs))) (2 ^ 56)
    → r ≡ min (digits_value_after base n (plain (get_or bs i 0 ∷ []))) (2 ^ 56) → r ≡ min (digits_value base (plain (take (i + 1) bs))) (2 ^ 56)
held_next base bs i n r h l e f =
    f ∙ ap (λ (x : ℕ). min (digits_value_after base x (plain (get_or bs i 0 ∷ []))) most) e
    ∙ held_twice base (digits_value base (plain (take i bs))) (get_or bs i 0) h
    ∙ ap (λ (x : ℕ). min x most) (sym (one_after base 0 bs i l))

-- ---- payloads

payload_small : (w : FloatType) (x : ℕ) → payload_bits w (min x most) ≡ payload_bits w x
payload_small w x = elim (cases_lt x most) [
  | inl lt ↦ (let k : min x most ≡ x = omega (arith, lt) in ap (payload_bits w) k)
  | inr le ↦ (
      let k : min x most ≡ most = omega (arith, le) in
      ap (payload_bits w) k ∙ none w most (omega arith) ∙ sym (none w x le))
]
  where
    few : (w : FloatType) → 2 ^ signif w ≤ most
    few F32 = omega arith
    few F64 = omega arith

    none : (w : FloatType) (y : ℕ) → most ≤ y → payload_bits w y ≡ None
    none w y le = cond-true (nat_lt 0 y) _ _ (lt-ltb 0 y (omega (arith, le))) ∙ cond-false (nat_lt y (2 ^ signif w)) _ _ (le-ltb y (2 ^ signif w) (omega (arith, le, few w)))

pub payload_held : (w : FloatType) (b : List ℕ) (n : ℕ) (o : Option ℕ) → true ≡ are_digits 16 false b → n ≡ min (digits_value 16 (plain b)) (2 ^ 56)
    → o ≡ payload_bits w n → o ≡ nan_bits w b
payload_held w b n o d e h =
    h ∙ ap (payload_bits w) e ∙ payload_small w (digits_value 16 (plain b)) ∙ sym (cond-true (are_digits 16 false b) _ _ (sym d))

pub payload_none : (w : FloatType) (b : List ℕ) → false ≡ are_digits 16 false b → None ≡ nan_bits w b
payload_none w b d = sym (cond-false (are_digits 16 false b) _ _ (sym d))

pub all_hexadecimal : (b : List ℕ) → true ≡ are_digits 16 false b → AllDigits 16 (plain b)
all_hexadecimal b d = digits_all 16 false b (omega arith) (sym d)

pub ruleset payload_laws = (payload_held, payload_none, all_hexadecimal)
