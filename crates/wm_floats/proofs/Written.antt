-- The bits that the code finds in an atom are those that the atom denotes.
use Rattle.std.proofs.Common.{◌≡◌, ℕ, ◌<◌, ◌+◌, ◌-◌, ◌*◌, ◌^◌, Bool, true, false, List, [], ◌∷◌, ◌++◌, length, Option, Some, None, is_some, option_map, codes, nat_lt, refl, sym, ap, subst, ◌∙◌, inl, inr, arith, ltb-true, lt-ltb}
use native.Mathlib.Nat.{mul-pos}
use lib.Pow.{pow_pos}
use Rattle.core.proofs.dec2flt.ExactLemmas.{ten_to_pos}
use Rattle.std.specs.Prelude.{◌==◌}
use Rattle.std.specs.Str.Parse.{digits_value}
use Rattle.std.proofs.lemmas.Bool.{cond-true, cond-false, eqb-true}
use Rattle.wm_syntax.specs.declared.instructions.FloatType.{FloatType}
use Rattle.wm_floats.specs.Digits.{value}
use Rattle.wm_floats.specs.FloatText.{IsDecimal, IsHexadecimal, IsMagnitude, IsFloat, HasForm}
use Rattle.wm_syntax.specs.Floats.{signif}
use Rattle.wm_floats.specs.Nearest.{infinity, IsNearest}
use Rattle.wm_floats.specs.exact.Atoms.{Numeral, are_digits, plain, numeral_of, digits_of, places, up, down, decimal_bits, decimal_of, hexadecimal_bits, hexadecimal_of, payload_bits, nan_bits, behind, is_just, number_by, payload_or_number, magnitude_of, below_zero, float_of, is_number_by, is_payload_or_number, has_form}
use Rattle.wm_floats.proofs.Basics.{chosen, same_some, none_some, bind_ok, bind_is, some_is, is_some_of}
use Rattle.wm_floats.proofs.WrittenDigits.{digits_write, digits_are}
use Rattle.wm_floats.proofs.HexDigits.{sixteen}
use Rattle.wm_floats.proofs.Literals.{decimal_marks, hexadecimal_marks, number_taken, number_given}
use Rattle.wm_floats.proofs.Rounding.{nearest_some, nearest_found}
use Rattle.wm_floats.proofs.Words.{behind_found, behind_none, just_is, just_not}

-- ---- numbers

some_ten : (p d : ℕ) → 0 < 10 ^ (p + d)
some_ten p d = ten_to_pos (p + d)

some_sixteen : (p d : ℕ) → 0 < 16 ^ p * 2 ^ d
some_sixteen p d = mul-pos (sixteen p) (pow_pos d)

-- the fraction that a number is, by its parts
decimal_fraction : (whole part : List ℕ) (u d num den : ℕ) (n : Numeral) → digits_value 10 (digits_of n) ≡ value 10 (whole ++ part) → places n ≡ length part → up n ≡ u → down n ≡ d
    → num ≡ value 10 (whole ++ part) * 10 ^ u → den ≡ 10 ^ (length part + d)
    → (num ≡ digits_value 10 (digits_of n) * 10 ^ up n) × (den ≡ 10 ^ (places n + down n))
decimal_fraction whole part u d num den n v p x y a b = (
  a ∙ sym (λ i. v i * 10 ^ x i),
  b ∙ sym (λ i. 10 ^ (p i + y i)),
)

hexadecimal_fraction : (whole part : List ℕ) (u d num den : ℕ) (n : Numeral) → digits_value 16 (digits_of n) ≡ value 16 (whole ++ part) → places n ≡ length part → up n ≡ u → down n ≡ d
    → num ≡ value 16 (whole ++ part) * 2 ^ u → den ≡ 16 ^ length part * 2 ^ d
    → (num ≡ digits_value 16 (digits_of n) * 2 ^ up n) × (den ≡ 16 ^ places n * 2 ^ down n)
hexadecimal_fraction whole part u d num den n v p x y a b = (
  a ∙ sym (λ i. v i * 2 ^ x i),
  b ∙ sym (λ i. 16 ^ p i * 2 ^ y i),
)

pub decimal_more : (w : FloatType) (num den bits : ℕ) (b : List ℕ) → IsDecimal num den b → IsNearest w num den bits → decimal_of w b ≡ Some bits
decimal_more w num den bits b (whole, part, u, d, p, q, h) near =
    let t = number_taken 10 101 69 whole part u d b decimal_marks h in
    let n = t.numeral in
    let e = decimal_fraction whole part u d num den n t.value_is t.places_are t.up_is t.down_is p q in
    bind_is (numeral_of 10 101 69 b) (λ m. decimal_bits w m) n t.is
    ∙ nearest_some w (digits_value 10 (digits_of n) * 10 ^ up n) (10 ^ (places n + down n)) bits (some_ten (places n) (down n))
    (subst (λ (x : ℕ). IsNearest w (digits_value 10 (digits_of n) * 10 ^ up n) x bits) e.1 (subst (λ (x : ℕ). IsNearest w x den bits) e.0 near))

pub decimal_found : (w : FloatType) (bits : ℕ) (b : List ℕ) → decimal_of w b ≡ Some bits → (num den : ℕ) × IsDecimal num den b × IsNearest w num den bits
decimal_found w bits b e =
    let g = bind_ok (numeral_of 10 101 69 b) (λ m. decimal_bits w m) bits e in
    let n = g.0 in
    let k = number_given 10 101 69 b n decimal_marks g.1 in (
      digits_value 10 (digits_of n) * 10 ^ up n,
      10 ^ (places n + down n),
      (k.whole, k.part, up n, down n, ap (λ (x : ℕ). x * 10 ^ up n) k.value_is, ap (λ (x : ℕ). 10 ^ (x + down n)) k.places_are, k.written),
      nearest_found w _ _ bits (some_ten (places n) (down n)) g.2,
    )

pub hexadecimal_more : (w : FloatType) (num den bits : ℕ) (b : List ℕ) → IsHexadecimal num den b → IsNearest w num den bits → (r : List ℕ) × (b ≡ 48 ∷ 120 ∷ r) × (hexadecimal_of w r ≡ Some bits)
hexadecimal_more w num den bits b (whole, part, u, d, p, q, (x, r, all, zero_x, h)) near =
    let t = number_taken 16 112 80 whole part u d r hexadecimal_marks h in
    let n = t.numeral in
    let e = hexadecimal_fraction whole part u d num den n t.value_is t.places_are t.up_is t.down_is p q in (
      r,
      all ∙ ap (λ (z : List ℕ). z ++ r) zero_x,
      bind_is (numeral_of 16 112 80 r) (λ m. hexadecimal_bits w m) n t.is
          ∙ nearest_some w (digits_value 16 (digits_of n) * 2 ^ up n) (16 ^ places n * 2 ^ down n) bits (some_sixteen (places n) (down n))
          (subst (λ (x : ℕ). IsNearest w (digits_value 16 (digits_of n) * 2 ^ up n) x bits) e.1 (subst (λ (x : ℕ). IsNearest w x den bits) e.0 near)),
    )

pub hexadecimal_found : (w : FloatType) (bits : ℕ) (b r : List ℕ) → b ≡ codes "0x" ++ r → hexadecimal_of w r ≡ Some bits → (num den : ℕ) × IsHexadecimal num den b × IsNearest w num den bits
hexadecimal_found w bits b r text e =
    let g = bind_ok (numeral_of 16 112 80 r) (λ m. hexadecimal_bits w m) bits e in
    let n = g.0 in
    let k = number_given 16 112 80 r n hexadecimal_marks g.1 in (
      digits_value 16 (digits_of n) * 2 ^ up n,
      16 ^ places n * 2 ^ down n,
      (k.whole, k.part, up n, down n, ap (λ (x : ℕ). x * 2 ^ up n) k.value_is, ap (λ (x : ℕ). 16 ^ x * 2 ^ down n) k.places_are, (codes "0x", r, text, refl, k.written)),
      nearest_found w _ _ bits (some_sixteen (places n) (down n)) g.2,
    )

-- ---- a decimal number is no other atom

-- a number that begins with no decimal digit
no_decimal_x : (r : List ℕ) (n : Numeral) → numeral_of 10 101 69 (48 ∷ 120 ∷ r) ≡ Some n → ⊥
no_decimal_x r n e = none_some n e

no_decimal_nan : (r : List ℕ) (n : Numeral) → numeral_of 10 101 69 (110 ∷ r) ≡ Some n → ⊥
no_decimal_nan r n e = none_some n e

no_decimal_inf : (r : List ℕ) (n : Numeral) → numeral_of 10 101 69 (105 ∷ r) ≡ Some n → ⊥
no_decimal_inf r n e = none_some n e

pub record Plain (b : List ℕ) : Type 0 where
  pub inf : is_just (codes "inf") b ≡ false
  pub nan : is_just (codes "nan") b ≡ false
  pub payload : behind (codes "nan:0x") b ≡ None
  pub decimal : behind (codes "0x") b ≡ None

pub decimal_plain : (b : List ℕ) (n : Numeral) → numeral_of 10 101 69 b ≡ Some n → Plain b
decimal_plain b n h = record {
  inf = just_not (codes "inf") b (λ e. no_decimal_inf (110 ∷ 102 ∷ []) n (ap (numeral_of 10 101 69) (sym e) ∙ h));
  nan = just_not (codes "nan") b (λ e. no_decimal_nan (97 ∷ 110 ∷ []) n (ap (numeral_of 10 101 69) (sym e) ∙ h));
  payload = behind_none (codes "nan:0x") b (λ r e. no_decimal_nan (97 ∷ 110 ∷ 58 ∷ 48 ∷ 120 ∷ r) n (ap (numeral_of 10 101 69) (sym e) ∙ h));
  decimal = behind_none (codes "0x") b (λ r e. no_decimal_x r n (ap (numeral_of 10 101 69) (sym e) ∙ h));
}

-- ---- with no sign

plain_magnitude : (w : FloatType) (b : List ℕ) → Plain b → magnitude_of w b ≡ decimal_of w b
plain_magnitude w b p =
    cond-false (is_just (codes "inf") b) _ _ p.inf ∙ cond-false (is_just (codes "nan") b) _ _ p.nan
    ∙ ap (λ (o : Option (List ℕ)). payload_or_number w o b) p.payload ∙ ap (λ (o : Option (List ℕ)). number_by w o b) p.decimal

hexadecimal_magnitude : (w : FloatType) (r : List ℕ) → magnitude_of w (48 ∷ 120 ∷ r) ≡ hexadecimal_of w r
hexadecimal_magnitude w r = refl

nan_magnitude : (w : FloatType) (r : List ℕ) → magnitude_of w (codes "nan:0x" ++ r) ≡ nan_bits w r
nan_magnitude w r = refl

pub magnitude_more : (w : FloatType) (bits : ℕ) (b : List ℕ) → IsMagnitude w bits b → magnitude_of w b ≡ Some bits
magnitude_more w bits b (inl (num, den, inl h, near)) =
    let e = decimal_more w num den bits b h near in
    let g = bind_ok (numeral_of 10 101 69 b) (λ m. decimal_bits w m) bits e in
    plain_magnitude w b (decimal_plain b g.0 g.1) ∙ e
magnitude_more w bits b (inl (num, den, inr h, near)) =
    let g = hexadecimal_more w num den bits b h near in
    ap (magnitude_of w) g.1 ∙ hexadecimal_magnitude w g.0 ∙ g.2
magnitude_more w bits b (inr (inl (e, h))) = ap (magnitude_of w) h ∙ ap Some (sym e)
magnitude_more w bits b (inr (inr (inl (e, h)))) = ap (magnitude_of w) h ∙ ap Some (sym e)
magnitude_more w bits b (inr (inr (inr (n, some, few, e, (ds, v, (x, r, all, word, h)))))) =
    let k = digits_write 16 ds r (omega arith) h in
    let size : digits_value 16 (plain r) ≡ n = k.value_is 0 ∙ sym v in
    ap (magnitude_of w) (all ∙ ap (λ (z : List ℕ). z ++ r) word) ∙ nan_magnitude w r ∙ cond-true (are_digits 16 false r) _ _ (k.are false)
    ∙ ap (payload_bits w) size ∙ cond-true (nat_lt 0 n) _ _ (lt-ltb 0 n some) ∙ cond-true (nat_lt n (2 ^ signif w)) _ _ (lt-ltb n (2 ^ signif w) few) ∙ ap Some (sym e)

payload_found : (w : FloatType) (bits n : ℕ) → payload_bits w n ≡ Some bits → (0 < n) × (n < 2 ^ signif w) × (bits ≡ infinity w + n)
payload_found w bits n e = elim (chosen (nat_lt 0 n) _ None (Some bits) e) [
  | inl p ↦ elim (chosen (nat_lt n (2 ^ signif w)) (Some (infinity w + n)) None (Some bits) p.1) [
    | inl q ↦ (ltb-true 0 n p.0, ltb-true n (2 ^ signif w) q.0, sym (same_some (infinity w + n) bits q.1))
    | inr q ↦ absurd (none_some bits q.1)
  ]
  | inr p ↦ absurd (none_some bits p.1)
]

pub magnitude_found : (w : FloatType) (bits : ℕ) (b : List ℕ) → magnitude_of w b ≡ Some bits → IsMagnitude w bits b
magnitude_found w bits b e = elim (chosen (is_just (codes "inf") b) (Some (infinity w)) _ (Some bits) e) [
  | inl p ↦ inr (inl (sym (same_some (infinity w) bits p.1), just_is (codes "inf") b p.0))
  | inr p ↦ elim (chosen (is_just (codes "nan") b) (Some (infinity w + 2 ^ (signif w - 1))) _ (Some bits) p.1) [
    | inl q ↦ inr (inr (inl (sym (same_some (infinity w + 2 ^ (signif w - 1)) bits q.1), just_is (codes "nan") b q.0)))
    | inr q ↦ by (behind (codes "nan:0x") b) refl q.1
  ]
]
  where
    number : (o : Option (List ℕ)) → behind (codes "0x") b ≡ o → number_by w o b ≡ Some bits → IsMagnitude w bits b
    number None h e = let g = decimal_found w bits b e in inl (g.0, g.1, inl g.2, g.3)
    number (Some r) h e = let g = hexadecimal_found w bits b r (behind_found (codes "0x") b r h) e in inl (g.0, g.1, inr g.2, g.3)

    by : (o : Option (List ℕ)) → behind (codes "nan:0x") b ≡ o → payload_or_number w o b ≡ Some bits → IsMagnitude w bits b
    by None h e = number (behind (codes "0x") b) refl e
    by (Some r) h e = elim (chosen (are_digits 16 false r) (payload_bits w (digits_value 16 (plain r))) None (Some bits) e) [
      | inl p ↦ (
          let g = digits_are 16 r (omega arith) p.0 in
          let v = (digits_write 16 (g.0 ∷ g.1) r (omega arith) g.2).value_is 0 in
          let k = payload_found w bits (digits_value 16 (plain r)) p.1 in
          inr (inr (inr (digits_value 16 (plain r), k.0, k.1, k.2, (g.0 ∷ g.1, v, (codes "nan:0x", r, behind_found (codes "nan:0x") b r h, refl, g.2))))))
      | inr p ↦ absurd (none_some bits p.1)
    ]

-- ---- with a sign

-- a sign begins no magnitude
plus_none : (w : FloatType) (a : List ℕ) (n : ℕ) → magnitude_of w (43 ∷ a) ≡ Some n → ⊥
plus_none w a n e = none_some n e

minus_none : (w : FloatType) (a : List ℕ) (n : ℕ) → magnitude_of w (45 ∷ a) ≡ Some n → ⊥
minus_none w a n e = none_some n e

unsigned_float : (w : FloatType) (a : List ℕ) (bits : ℕ) → magnitude_of w a ≡ Some bits → float_of w a ≡ Some bits
unfolding float_of
unsigned_float w [] bits e = absurd (none_some bits e)
unsigned_float w (c ∷ a) bits e =
    cond-false (c == 43) _ _ (apart 43 (plus_none w a bits)) ∙ cond-false (c == 45) _ _ (apart 45 (minus_none w a bits)) ∙ e
  where
    apart : (s : ℕ) → (magnitude_of w (s ∷ a) ≡ Some bits → ⊥) → (c == s) ≡ false
    apart s never = by (c == s) refl
      where
        by : (t : Bool) → (c == s) ≡ t → (c == s) ≡ false
        by true k = absurd (never (ap (λ (z : ℕ). magnitude_of w (z ∷ a)) (sym (eqb-true c s k)) ∙ e))
        by false k = k

pub float_more : (w : FloatType) (bits : ℕ) (a : List ℕ) → IsFloat w bits a → float_of w a ≡ Some bits
unfolding float_of
float_more w bits a (inl (s, m, all, inl none, h)) =
    ap (float_of w) (all ∙ ap (λ (z : List ℕ). z ++ m) none) ∙ unsigned_float w m bits (magnitude_more w bits m h)
float_more w bits a (inl (s, m, all, inr plus, h)) = ap (float_of w) (all ∙ ap (λ (z : List ℕ). z ++ m) plus) ∙ magnitude_more w bits m h
float_more w bits a (inr (size, e, (s, m, all, minus, h))) =
    ap (float_of w) (all ∙ ap (λ (z : List ℕ). z ++ m) minus) ∙ ap (λ (o : Option ℕ). option_map (below_zero w) o) (magnitude_more w size m h) ∙ ap Some (sym e)

pub float_found : (w : FloatType) (bits : ℕ) (a : List ℕ) → float_of w a ≡ Some bits → IsFloat w bits a
unfolding float_of
float_found w bits [] e = absurd (none_some bits e)
float_found w bits (c ∷ a) e = elim (chosen (c == 43) (magnitude_of w a) _ (Some bits) e) [
  | inl p ↦ inl (43 ∷ [], a, ap (λ (z : ℕ). z ∷ a) (eqb-true c 43 p.0), inr refl, magnitude_found w bits a p.1)
  | inr p ↦ elim (chosen (c == 45) (option_map (below_zero w) (magnitude_of w a)) _ (Some bits) p.1) [
    | inl q ↦ by (eqb-true c 45 q.0) (magnitude_of w a) refl q.1
    | inr q ↦ inl ([], c ∷ a, refl, inl refl, magnitude_found w bits (c ∷ a) q.1)
  ]
]
  where
    by : c ≡ 45 → (o : Option ℕ) → magnitude_of w a ≡ o → option_map (below_zero w) o ≡ Some bits → IsFloat w bits (c ∷ a)
    by k None h e = absurd (none_some bits e)
    by k (Some n) h e = inr (n, sym (same_some (below_zero w n) bits e), (45 ∷ [], a, ap (λ (z : ℕ). z ∷ a) k, refl, magnitude_found w n a h))

-- An atom denotes one float of a width.
pub one_float : (w : FloatType) (b c : ℕ) (a : List ℕ) → IsFloat w b a → IsFloat w c a → b ≡ c
one_float w b c a p q = same_some b c (sym (float_more w b a p) ∙ float_more w c a q)

-- ---- forms

plain_form : (b : List ℕ) → Plain b → has_form b ≡ is_some (numeral_of 10 101 69 b)
unfolding has_form
plain_form b p =
    cond-false (is_just (codes "inf") b) _ _ p.inf ∙ cond-false (is_just (codes "nan") b) _ _ p.nan
    ∙ ap (λ (o : Option (List ℕ)). is_payload_or_number o b) p.payload ∙ ap (λ (o : Option (List ℕ)). is_number_by o b) p.decimal

pub form_more : (b : List ℕ) → HasForm b → has_form b ≡ true
unfolding has_form
form_more b (inl (num, den, inl (whole, part, u, d, p, q, h))) =
    let t = number_taken 10 101 69 whole part u d b decimal_marks h in
    plain_form b (decimal_plain b t.numeral t.is) ∙ is_some_of (numeral_of 10 101 69 b) t.numeral t.is
form_more b (inl (num, den, inr (whole, part, u, d, p, q, (x, r, all, word, h)))) =
    let t = number_taken 16 112 80 whole part u d r hexadecimal_marks h in
    ap has_form (all ∙ ap (λ (z : List ℕ). z ++ r) word) ∙ is_some_of (numeral_of 16 112 80 r) t.numeral t.is
form_more b (inr (inl h)) = ap has_form h
form_more b (inr (inr (inl h))) = ap has_form h
form_more b (inr (inr (inr (n, (ds, v, (x, r, all, word, h)))))) =
    ap has_form (all ∙ ap (λ (z : List ℕ). z ++ r) word) ∙ (digits_write 16 ds r (omega arith) h).are false

pub form_found : (b : List ℕ) → has_form b ≡ true → HasForm b
unfolding has_form
form_found b e = elim (chosen (is_just (codes "inf") b) true _ true e) [
  | inl p ↦ inr (inl (just_is (codes "inf") b p.0))
  | inr p ↦ elim (chosen (is_just (codes "nan") b) true _ true p.1) [
    | inl q ↦ inr (inr (inl (just_is (codes "nan") b q.0)))
    | inr q ↦ by (behind (codes "nan:0x") b) refl q.1
  ]
]
  where
    number : (o : Option (List ℕ)) → behind (codes "0x") b ≡ o → is_number_by o b ≡ true → HasForm b
    number None h e =
        let g = some_is (numeral_of 10 101 69 b) e in
        let k = number_given 10 101 69 b g.0 decimal_marks g.1 in
        inl (value 10 (k.whole ++ k.part) * 10 ^ up g.0, 10 ^ (length k.part + down g.0), inl (k.whole, k.part, up g.0, down g.0, refl, refl, k.written))
    number (Some r) h e =
        let g = some_is (numeral_of 16 112 80 r) e in
        let k = number_given 16 112 80 r g.0 hexadecimal_marks g.1 in
        inl (value 16 (k.whole ++ k.part) * 2 ^ up g.0, 16 ^ length k.part * 2 ^ down g.0, inr (k.whole, k.part, up g.0, down g.0, refl, refl, (codes "0x", r, behind_found (codes "0x") b r h, refl, k.written)))

    by : (o : Option (List ℕ)) → behind (codes "nan:0x") b ≡ o → is_payload_or_number o b ≡ true → HasForm b
    by None h e = number (behind (codes "0x") b) refl e
    by (Some r) h e =
        let g = digits_are 16 r (omega arith) e in
        inr (inr (inr (value 16 (g.0 ∷ g.1), (g.0 ∷ g.1, refl, (codes "nan:0x", r, behind_found (codes "nan:0x") b r h, refl, g.2)))))

-- bytes that begin no float
pub nothing_form : has_form [] ≡ false
unfolding has_form
nothing_form = refl

pub plus_form : (b : List ℕ) → has_form (43 ∷ b) ≡ false
unfolding has_form
plus_form b = refl

pub minus_form : (b : List ℕ) → has_form (45 ∷ b) ≡ false
unfolding has_form
minus_form b = refl

pub dollar_form : (b : List ℕ) → has_form (36 ∷ b) ≡ false
unfolding has_form
dollar_form b = refl
