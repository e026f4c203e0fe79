-- The parts of a number have digits.
use Rattle.std.proofs.Common.{ℕ, ◌≡◌, ◌<◌, ◌≤◌, Bool, true, false, List, [], ◌∷◌, length, Option, Some, None, refl, sym, ap, subst, ◌∙◌, arith, inl, inr}
use Rattle.std.specs.Str.Parse.{AllDigits}
use Rattle.wm_floats.specs.exact.Atoms.{◌>>=◌, Numeral, are_digits, are_digits_or_none, plain, cut, tail, both_sides, around_point, signed, exponent_of, with_exponent, numeral_of, decimal_bits, decimal_of, hexadecimal_bits, hexadecimal_of}
use Rattle.wm_floats.specs.inner.Parts.{HasDigits}
use Rattle.wm_syntax.specs.declared.instructions.FloatType.{FloatType}
use Rattle.wm_floats.proofs.Basics.{chosen, same_some, none_some, bind_ok, bind_is}
use Rattle.wm_floats.proofs.Underscores.{digits_all, digits_some, none_or_digits}

-- ---- the digits around a point

pub record Sides (base : ℕ) (whole part : List ℕ) (x : List ℕ × List ℕ) : Type 0 where
  pub whole_is : are_digits base false whole ≡ true
  pub part_is : are_digits_or_none base part ≡ true
  pub are : (whole, part) ≡ x

pub both_found : (base : ℕ) (whole part : List ℕ) (x : List ℕ × List ℕ) → both_sides base whole part ≡ Some x → Sides base whole part x
both_found base whole part x e = elim (chosen (are_digits base false whole) _ None (Some x) e) [
  | inl p ↦ elim (chosen (are_digits_or_none base part) (Some (whole, part)) None (Some x) p.1) [
    | inl q ↦ record { whole_is = p.0; part_is = q.0; are = same_some (whole, part) x q.1 }
    | inr q ↦ absurd (none_some x q.1)
  ]
  | inr p ↦ absurd (none_some x p.1)
]

-- ---- exponents

pub record Powers (e : Bool × List ℕ) : Type 0 where
  pub digits : AllDigits 10 (plain e.1)
  pub some : 0 < length e.1 → 0 < length (plain e.1)
  pub none : plain e.1 ≡ [] → e.0 ≡ false

has_powers : (e : Bool × List ℕ) → are_digits 10 false e.1 ≡ true → Powers e
has_powers e h =
    let g = digits_some 10 e.1 (omega arith) h in
    record {
      digits = digits_all 10 false e.1 (omega arith) h;
      some = λ p. omega (arith, ap length g.2);
      none = λ z. absurd (omega (arith, ap length g.2, ap length z));
    }

no_powers : Powers (false, [])
no_powers = record { digits = tt; some = λ p. absurd (omega (arith, p)); none = λ z. refl }

pub exponent_powers : (b : List ℕ) (e : Bool × List ℕ) → exponent_of b ≡ Some e → Powers e
exponent_powers [] e h = subst Powers (same_some (false, []) e h) no_powers
exponent_powers (c ∷ b) e h = elim (chosen (are_digits 10 false (signed b).1) (Some (signed b)) None (Some e) h) [
  | inl p ↦ subst Powers (same_some (signed b) e p.1) (has_powers (signed b) p.0)
  | inr p ↦ absurd (none_some e p.1)
]

-- ---- numbers

has_digits : (base : ℕ) (whole part : List ℕ) (x : List ℕ × List ℕ) (e : Bool × List ℕ) → base ≤ 36 → Sides base whole part x → Powers e → HasDigits base (with_exponent x e)
has_digits base whole part x e h s p = record {
  whole = subst (λ (y : List ℕ × List ℕ). AllDigits base (plain y.0)) s.are (digits_all base false whole h s.whole_is);
  part = subst (λ (y : List ℕ × List ℕ). AllDigits base (plain y.1)) s.are (none_or_digits base part h s.part_is);
  exponent = p.digits;
  some = p.some;
  none = p.none;
}

-- the steps of reading a number
pub record Read (base lower upper : ℕ) (b : List ℕ) (n : Numeral) : Type 0 where
  pub sides : List ℕ × List ℕ
  pub power : Bool × List ℕ
  pub point : around_point base (cut lower upper b).0 ≡ Some sides
  pub exponent : exponent_of (cut lower upper b).1 ≡ Some power
  pub is : with_exponent sides power ≡ n

pub numeral_read : (base lower upper : ℕ) (b : List ℕ) (n : Numeral) → numeral_of base lower upper b ≡ Some n → Read base lower upper b n
numeral_read base lower upper b n e =
    let g = bind_ok (around_point base (cut lower upper b).0) _ n e in
    let k = bind_ok (exponent_of (cut lower upper b).1) _ n g.2 in
    record { sides = g.0; power = k.0; point = g.1; exponent = k.1; is = same_some (with_exponent g.0 k.0) n k.2 }

pub numeral_is : (base lower upper : ℕ) (b : List ℕ) (x : List ℕ × List ℕ) (e : Bool × List ℕ) → around_point base (cut lower upper b).0 ≡ Some x → exponent_of (cut lower upper b).1 ≡ Some e
    → numeral_of base lower upper b ≡ Some (with_exponent x e)
numeral_is base lower upper b x e p q = bind_is (around_point base (cut lower upper b).0) _ x p ∙ bind_is (exponent_of (cut lower upper b).1) _ e q

pub numeral_digits : (base lower upper : ℕ) (b : List ℕ) (n : Numeral) → base ≤ 16 → numeral_of base lower upper b ≡ Some n → HasDigits base n
numeral_digits base lower upper b n h e =
    let r = numeral_read base lower upper b n e in
    let front = (cut lower upper b).0 in
    let s = both_found base (cut 46 46 front).0 (tail (cut 46 46 front).1) r.sides r.point in
    subst (HasDigits base) r.is (has_digits base (cut 46 46 front).0 (tail (cut 46 46 front).1) r.sides r.power (omega (arith, h)) s (exponent_powers (cut lower upper b).1 r.power r.exponent))

pub hexadecimal_is : (w : FloatType) (b : List ℕ) (n : Numeral) (o : Option ℕ) → numeral_of 16 112 80 b ≡ Some n → o ≡ hexadecimal_bits w n → o ≡ hexadecimal_of w b
hexadecimal_is w b n o e h = h ∙ sym (bind_is (numeral_of 16 112 80 b) (λ n. hexadecimal_bits w n) n e)

pub hexadecimal_none : (w : FloatType) (b : List ℕ) → numeral_of 16 112 80 b ≡ None → None ≡ hexadecimal_of w b
hexadecimal_none w b e = sym (ap (λ (z : Option Numeral). z >>= λ n. hexadecimal_bits w n) e)

pub decimal_is : (w : FloatType) (b : List ℕ) (n : Numeral) (o : Option ℕ) → numeral_of 10 101 69 b ≡ Some n → o ≡ decimal_bits w n → o ≡ decimal_of w b
decimal_is w b n o e h = h ∙ sym (bind_is (numeral_of 10 101 69 b) (λ n. decimal_bits w n) n e)

pub decimal_none : (w : FloatType) (b : List ℕ) → numeral_of 10 101 69 b ≡ None → None ≡ decimal_of w b
decimal_none w b e = sym (ap (λ (z : Option Numeral). z >>= λ n. decimal_bits w n) e)

pub hexadecimal_digits : (b : List ℕ) (n : Numeral) → numeral_of 16 112 80 b ≡ Some n → HasDigits 16 n
hexadecimal_digits b n e = numeral_digits 16 112 80 b n (omega arith) e

pub decimal_digits : (b : List ℕ) (n : Numeral) → numeral_of 10 101 69 b ≡ Some n → HasDigits 10 n
decimal_digits b n e = numeral_digits 10 101 69 b n (omega arith) e

pub ruleset numeral_laws = (hexadecimal_is, hexadecimal_none, decimal_is, decimal_none, hexadecimal_digits, decimal_digits)
