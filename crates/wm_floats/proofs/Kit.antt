-- A decimal number as the kit reads it.
use Rattle.std.proofs.Common.{ℕ, ◌≡◌, ◌*◌, ◌^◌, ◌<◌, Bool, true, false, List, [], ◌∷◌, ◌++◌, length, Option, refl, sym, ap, subst, ◌∙◌, arith, append-nil, append_assoc}
use Rattle.core.proofs.dec2flt.ExactLemmas.{ten_to_pos}
use Rattle.std.specs.Fmt.{sign_text}
use Rattle.fast_float.specs.Text.{Parts, scan, digits_of, tens_up, tens_down, exponent_text, IsWellFormed}
use Rattle.fast_float.proofs.Writing.{scan-text_of}
use Rattle.wm_syntax.specs.declared.instructions.FloatType.{FloatType}
use Rattle.wm_floats.specs.exact.Atoms.{Numeral, plain, decimal_bits}
use Rattle.wm_floats.specs.inner.Parts.{HasDigits, kit_text, kit_parts}
use Rattle.wm_floats.proofs.Rounding.{Told, nearest_told}

-- ---- its text

pub exponent_none : (negative : Bool) (xs b : List ℕ) → length b ≡ 0 → xs ≡ xs ++ exponent_text negative (plain b)
exponent_none negative xs [] e = sym (append-nil xs)
exponent_none negative xs (c ∷ b) e = absurd (omega (arith, e))

pub exponent_some : (negative : Bool) (xs b : List ℕ) → 0 < length (plain b) → (xs ++ 101 ∷ sign_text negative) ++ plain b ≡ xs ++ exponent_text negative (plain b)
exponent_some negative xs b h = by (plain b) h
  where
    by : (ds : List ℕ) → 0 < length ds → (xs ++ 101 ∷ sign_text negative) ++ ds ≡ xs ++ exponent_text negative ds
    by [] h = absurd (omega (arith, h))
    by (d ∷ ds) h = append_assoc xs (101 ∷ sign_text negative) (d ∷ ds)

pub ruleset exponent_laws = (exponent_none, exponent_some)

pub text_joins : (n : Numeral) (x y z t : List ℕ) → x ≡ [] ++ plain n.whole → y ≡ x ++ 46 ∷ [] → z ≡ y ++ plain n.part → t ≡ z ++ exponent_text n.negative (plain n.exponent) → t ≡ kit_text n
text_joins n x y z t a b c d =
    let whole = plain n.whole in
    let part = plain n.part in
    let rest = exponent_text n.negative (plain n.exponent) in
    let e : y ≡ whole ++ 46 ∷ [] = b ∙ ap (λ (k : List ℕ). k ++ 46 ∷ []) a in
    let f : z ≡ whole ++ (46 ∷ part) = c ∙ ap (λ (k : List ℕ). k ++ part) e ∙ append_assoc whole (46 ∷ []) part in
    d ∙ ap (λ (k : List ℕ). k ++ rest) f ∙ append_assoc whole (46 ∷ part) rest

pub ruleset text_laws = (text_joins)

-- ---- its value

pub well_formed : (n : Numeral) → HasDigits 10 n → IsWellFormed (kit_parts n)
well_formed n h = record {
  whole_digits = h.whole;
  fraction_digits = h.part;
  exponent_digits = h.exponent;
  no_point = λ e. absurd (let f : true ≡ false = e in cc);
  no_exponent = h.none;
  len_is = refl;
}

pub scanned : (n : Numeral) (t : List ℕ) → HasDigits 10 n → t ≡ kit_text n → scan t ≡ kit_parts n
scanned n t h e = ap scan e ∙ scan-text_of (kit_parts n) (well_formed n h)

pub decimal_told : (w : FloatType) (n : Numeral) (t : List ℕ) (o : Option ℕ) → HasDigits 10 n → t ≡ kit_text n
    → Told w (digits_of (scan t) * 10 ^ tens_up (scan t)) (10 ^ tens_down (scan t)) o → o ≡ decimal_bits w n
decimal_told w n t o h e told =
    nearest_told w _ _ o (ten_to_pos (tens_down (kit_parts n)))
    (subst (λ (p : Parts). Told w (digits_of p * 10 ^ tens_up p) (10 ^ tens_down p) o) (scanned n t h e) told)

pub exponent_is_some : (n : Numeral) → HasDigits 10 n → 0 < length n.exponent → 0 < length (plain n.exponent)
exponent_is_some n h = h.some

pub ruleset decimal_laws = (decimal_told, exponent_is_some)
