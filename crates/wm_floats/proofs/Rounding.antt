-- The exact answer of rounding, and numbers that lie far from all floats but one.
use Rattle.std.proofs.Common.{ℕ, ◌≡◌, ◌+◌, ◌*◌, ◌^◌, ◌<◌, ◌≤◌, false, Option, Some, None, MatchOption, nat_lt, refl, sym, ap, subst, ◌∙◌, arith, inl, inr, leb-true, lt-ltb, le-ltb}
use Rattle.std.proofs.lemmas.Bool.{cond-true, cond-false, cases_lt}
use native.Mathlib.Nat.{mul-pos, mul-le-mul_right, mul-lt-mul_of_pos_right, le_trans}
use lib.Pow.{pow_pos, pow-add, pow_mono}
use lib.Ieee.{to_bits, round}
use Rattle.wm_syntax.specs.declared.instructions.FloatType.{FloatType}
use Rattle.wm_syntax.specs.declared.instructions.FloatType.TheVariants.{F32, F64}
use Rattle.wm_floats.specs.Nearest.{infinity, least, units, Rounds, IsNearest}
use Rattle.wm_floats.specs.exact.Atoms.{nearest}
use Rattle.wm_floats.specs.inner.Kit.{format_of}
use Rattle.wm_floats.proofs.Basics.{same_some, none_some}
use Rattle.wm_floats.proofs.Bridge.{finite, too_large, bits_of_rounded, one_nearest}
use Rattle.wm_floats.proofs.HexDigits.{four, places, sixteen}
use Rattle.wm_floats.proofs.Units.{units_le, units_strict}

-- ---- the exact answer

pub nearest_some : (w : FloatType) (num den b : ℕ) → 0 < den → IsNearest w num den b → nearest w num den ≡ Some b
unfolding nearest
nearest_some w num den b D near =
    let x = to_bits (format_of w) (round (format_of w) false num den) in
    let bits = bits_of_rounded w num den x D refl in
    elim (cases_lt x (infinity w)) [
      | inl lt ↦ cond-true (nat_lt x (infinity w)) _ _ (lt-ltb x (infinity w) lt) ∙ ap Some (one_nearest w num den x b (finite w num den x D bits lt) near)
      | inr le ↦ absurd (too_large w num den x D bits le b near)
    ]

pub nearest_none : (w : FloatType) (num den : ℕ) → 0 < den → ((b : ℕ) → IsNearest w num den b → ⊥) → nearest w num den ≡ None
unfolding nearest
nearest_none w num den D never =
    let x = to_bits (format_of w) (round (format_of w) false num den) in
    let bits = bits_of_rounded w num den x D refl in
    elim (cases_lt x (infinity w)) [
      | inl lt ↦ absurd (never x (finite w num den x D bits lt))
      | inr le ↦ cond-false (nat_lt x (infinity w)) _ _ (le-ltb x (infinity w) le)
    ]

pub nearest_found : (w : FloatType) (num den b : ℕ) → 0 < den → nearest w num den ≡ Some b → IsNearest w num den b
unfolding nearest
nearest_found w num den b D e =
    let x = to_bits (format_of w) (round (format_of w) false num den) in
    let bits = bits_of_rounded w num den x D refl in
    elim (cases_lt x (infinity w)) [
      | inl lt ↦
          let k : x ≡ b = same_some x b (sym (cond-true (nat_lt x (infinity w)) (Some x) None (lt-ltb x (infinity w) lt)) ∙ e) in
          subst (IsNearest w num den) k (finite w num den x D bits lt)
      | inr le ↦ absurd (none_some b (sym (cond-false (nat_lt x (infinity w)) (Some x) None (le-ltb x (infinity w) le)) ∙ e))
    ]

abbrev pub Told : FloatType → ℕ → ℕ → Option ℕ → Type 0
Told w num den o = MatchOption o ((b : ℕ) → IsNearest w num den b → ⊥) (λ b. IsNearest w num den b)

pub nearest_told : (w : FloatType) (num den : ℕ) (o : Option ℕ) → 0 < den → Told w num den o → o ≡ nearest w num den
nearest_told w num den None D h = sym (nearest_none w num den D h)
nearest_told w num den (Some b) D h = sym (nearest_some w num den b D h)

-- ---- near 0

record Lowest (w : FloatType) : Type 0 where
  pub none : units w 0 ≡ 0
  pub one : units w 1 ≡ 1
  pub some : 0 < infinity w
  pub few : least w ≤ 1074

lowest : (w : FloatType) → Lowest w
lowest F32 = record { none = refl; one = refl; some = omega arith; few = omega arith }
lowest F64 = record { none = refl; one = refl; some = omega arith; few = omega arith }

pub tiny : (w : FloatType) (num den : ℕ) → 2 * (num * 2 ^ least w) < den → IsNearest w num den 0
tiny w num den h =
    let l = lowest w in
    let next : units w (0 + 1) ≡ 1 = l.one in
    let sum : units w 0 + units w (0 + 1) ≡ 1 = omega (arith, l.none, next) in (
      l.some,
      (
        0,
        record { from = omega (arith, ap (λ x. x * den) l.none); below = omega (arith, ap (λ x. x * den) next, h) },
        inl (omega (arith, ap (λ x. x * den) sum, h), refl),
      ),
    )

-- ---- a float itself

pub exact : (w : FloatType) (num den b : ℕ) → b < infinity w → 0 < den → num * 2 ^ least w ≡ units w b * den → IsNearest w num den b
exact w num den b lt D e =
    let up : units w b * den < units w (b + 1) * den = mul-lt-mul_of_pos_right (units_strict w b) D in (
      lt,
      (
        b,
        record { from = omega (arith, e); below = omega (arith, e, up) },
        inl (omega (arith, e, up), refl),
      ),
    )

-- ---- past the largest

limit : (w : FloatType) → units w (infinity w) ≤ 2 ^ 1024 * 2 ^ least w
limit F32 = leb-true (units F32 (infinity F32)) (2 ^ 1024 * 2 ^ least F32) refl
limit F64 = leb-true (units F64 (infinity F64)) (2 ^ 1024 * 2 ^ least F64) refl

at_most : (w : FloatType) (num den under b : ℕ) → Rounds w num den under b → under ≤ b
at_most w num den under b (inl p) = omega (arith, p.1)
at_most w num den under b (inr (inl p)) = omega (arith, p.1)
at_most w num den under b (inr (inr p)) = omega (arith, p.1)

past : (big l u den num : ℕ) → num * l < u * den → u ≤ big * l → big * den ≤ num → ⊥
past big l u den num below up far =
    let a : u * den ≤ big * l * den = mul-le-mul_right den up in
    let b : big * den * l ≤ num * l = mul-le-mul_right l far in
    let e : big * l * den ≡ big * den * l = omega arith in
    omega (arith, below, a, b, e)

pub huge : (w : FloatType) (num den b : ℕ) → 2 ^ 1024 * den ≤ num → IsNearest w num den b → ⊥
huge w num den b far (lt, (under, from, rounds)) =
    let up : units w (under + 1) ≤ units w (infinity w) = units_le w (under + 1) (infinity w) (omega (arith, lt, at_most w num den under b rounds)) in
    past (2 ^ 1024) (2 ^ least w) (units w (under + 1)) den num from.below (le_trans up (limit w)) far

-- ---- far exponents of hexadecimal numbers

pub far_zero : (w : FloatType) (num den : ℕ) → 0 < den → num ≡ 0 → nearest w num den ≡ Some 0
far_zero w num den D z =
    let e : num * 2 ^ least w ≡ 0 = ap (λ x. x * 2 ^ least w) z ∙ omega arith in
    nearest_some w num den 0 D (tiny w num den (omega (arith, e, D)))

pub far_large : (w : FloatType) (n p size : ℕ) → 0 < n → 2 ^ 56 ≤ size → p ≤ 2 ^ 50 → nearest w (n * 2 ^ size) (16 ^ p * 2 ^ 0) ≡ None
far_large w n p size N far short =
    let den = 16 ^ p * 2 ^ 0 in
    let D : 0 < den = mul-pos (sixteen p) (pow_pos 0) in
    let e : 2 ^ 1024 * den ≡ 2 ^ (1024 + 4 * p) = ap (λ x. 2 ^ 1024 * x) (places p 0 (4 * p) (omega arith)) ∙ sym (pow-add 2 1024 (4 * p)) in
    let l : 2 ^ (1024 + 4 * p) ≤ 2 ^ size = pow_mono (omega (arith, far, short)) in
    let k : 1 * 2 ^ size ≤ n * 2 ^ size = mul-le-mul_right (2 ^ size) N in
    nearest_none w (n * 2 ^ size) den D (λ b. huge w (n * 2 ^ size) den b (omega (arith, e, l, k)))

pub far_small : (w : FloatType) (n p left size : ℕ) → n < 2 ^ 64 * 16 ^ left → left ≤ 2 ^ 50 → 2 ^ 56 ≤ size → nearest w (n * 2 ^ 0) (16 ^ p * 2 ^ size) ≡ Some 0
far_small w n p left size few short far =
    let den = 16 ^ p * 2 ^ size in
    let D : 0 < den = mul-pos (sixteen p) (pow_pos size) in
    let s = (lowest w).few in
    let a : n < 2 ^ (64 + 4 * left) = subst (λ (x : ℕ). n < x) (ap (λ x. 2 ^ 64 * x) (four left) ∙ sym (pow-add 2 64 (4 * left))) few in
    let b : n * 2 ^ least w < 2 ^ (64 + 4 * left) * 2 ^ least w = mul-lt-mul_of_pos_right a (pow_pos (least w)) in
    let e : 2 ^ 1 * (2 ^ (64 + 4 * left) * 2 ^ least w) ≡ 2 ^ (1 + (64 + 4 * left + least w)) =
    ap (λ x. 2 ^ 1 * x) (sym (pow-add 2 (64 + 4 * left) (least w))) ∙ sym (pow-add 2 1 (64 + 4 * left + least w)) in
    let l : 2 ^ (1 + (64 + 4 * left + least w)) ≤ 2 ^ size = pow_mono (omega (arith, far, short, s)) in
    let k : 1 * 2 ^ size ≤ den = mul-le-mul_right (2 ^ size) (sixteen p) in
    let one : n * 2 ^ 0 * 2 ^ least w ≡ n * 2 ^ least w = ap (λ x. x * 2 ^ least w) (unit n) in
    nearest_some w (n * 2 ^ 0) den 0 D (tiny w (n * 2 ^ 0) den (omega (arith, b, e, l, k, one)))
  where
    unit : (n : ℕ) → n * 2 ^ 0 ≡ n
    unit n = omega arith
