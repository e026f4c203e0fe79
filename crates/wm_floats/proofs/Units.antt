-- The values of bits: neighbours, and order.
use Rattle.std.proofs.Common.{ℕ, zero, suc, ◌≡◌, ◌+◌, ◌-◌, ◌*◌, ◌/◌, ◌%◌, ◌^◌, ◌<◌, ◌≤◌, sym, ap, subst, ◌∙◌, arith, inl, inr}
use native.Mathlib.Nat.{mul-le-mul_right, mul-le-mul_left, mul-lt-mul_of_pos_right, le_trans, lt_of_lt_of_le, le_of_eq, pow-suc, eq-zero-or-pos}
use lib.Pow.{pow_pos}
use lib.Arith.{digits_div, digits_mod}
use Rattle.std.proofs.lemmas.Bool.{cases_lt}
use Rattle.wm_syntax.specs.declared.instructions.FloatType.{FloatType}
use Rattle.wm_syntax.specs.Floats.{signif}
use Rattle.wm_floats.specs.Nearest.{units, of_fields}

-- the fields of a number of bits
pub units_of_fields : (w : FloatType) (e t : ℕ) → t < 2 ^ signif w → units w (e * 2 ^ signif w + t) ≡ of_fields w e t
units_of_fields w e t h = λ i. of_fields w (digits_div e h i) (digits_mod e h i)

-- The bits of m * 2 ^ k units.
pub units_at : (w : FloatType) (m k : ℕ) → m ≤ 2 * 2 ^ signif w → (0 < k → 2 ^ signif w ≤ m) → units w (k * 2 ^ signif w + m) ≡ m * 2 ^ k
units_at w m k most normal =
    let h = 2 ^ signif w in
    let H : 0 < h = pow_pos (signif w) in
    elim (cases_lt m h) [
      | inl small ↦
          let K : k ≡ 0 = elim (eq-zero-or-pos k) [ inl z ↦ z | inr p ↦ absurd (omega (arith, normal p)) ] in
          ap (λ j. units w (j * h + m)) K ∙ units_of_fields w 0 m small ∙ (omega (arith, ap (λ j. m * 2 ^ j) K))
      | inr large ↦ elim (cases_lt m (2 * h)) [
        | inl less ↦
            let b : k * h + m ≡ suc k * h + (m - h) = omega arith in
            let t : m - h < h = omega arith in
            let v : h + (m - h) ≡ m = omega arith in
            ap (units w) b ∙ units_of_fields w (suc k) (m - h) t ∙ ap (λ x. x * 2 ^ k) v
        | inr same ↦
            let e : m ≡ 2 * h = omega arith in
            let b : k * h + m ≡ suc (suc k) * h + 0 = omega arith in
            let v : (h + 0) * 2 ^ suc k ≡ m * 2 ^ k = omega (arith, ap (λ a. (h + 0) * a) (pow-suc 2 k), ap (λ a. a * 2 ^ k) e) in
            ap (units w) b ∙ units_of_fields w (suc (suc k)) 0 H ∙ v
      ]
    ]

-- one step up
more : (w : FloatType) (e t : ℕ) → of_fields w e t ≤ of_fields w e (t + 1)
more w zero t = omega arith
more w (suc e) t = let l : 2 ^ signif w + t ≤ 2 ^ signif w + (t + 1) = omega arith in mul-le-mul_right (2 ^ e) l

carry : (w : FloatType) (e t : ℕ) → t < 2 ^ signif w → of_fields w e t ≤ of_fields w (suc e) 0
carry w zero t h = omega arith
carry w (suc e) t h =
    let l : 2 ^ signif w + t ≤ 2 * 2 ^ signif w = omega arith in
    le_trans (mul-le-mul_right (2 ^ e) l) (omega (arith, ap (λ a. (2 ^ signif w + 0) * a) (pow-suc 2 e)))

up_fields : (w : FloatType) (e t : ℕ) → t < 2 ^ signif w → units w (e * 2 ^ signif w + t) ≤ units w (e * 2 ^ signif w + t + 1)
up_fields w e t h =
    let s = 2 ^ signif w in
    elim (cases_lt (t + 1) s) [
      | inl inside ↦
          let b : e * s + t + 1 ≡ e * s + (t + 1) = omega arith in
          rw (units_of_fields w e t h) (le_trans (more w e t) (le_of_eq (sym (ap (units w) b ∙ units_of_fields w e (t + 1) inside))))
      | inr over ↦
          let H : 0 < s = pow_pos (signif w) in
          let b : e * s + t + 1 ≡ suc e * s + 0 = omega arith in
          rw (units_of_fields w e t h) (le_trans (carry w e t h) (le_of_eq (sym (ap (units w) b ∙ units_of_fields w (suc e) 0 H))))
    ]

pub units_up : (w : FloatType) (b : ℕ) → units w b ≤ units w (b + 1)
units_up w b =
    let s = 2 ^ signif w in
    let H : 0 < s = pow_pos (signif w) in
    let l : b % s < s = native.Mathlib.Nat.mod-lt b H in
    let e : b / s * s + b % s ≡ b = native.Mathlib.Nat.div-add-mod' b s in
    subst (λ (x : ℕ). units w x ≤ units w (x + 1)) e (up_fields w (b / s) (b % s) l)

pub units_mono : (w : FloatType) (b n : ℕ) → units w b ≤ units w (b + n)
units_mono w b zero = let e : b ≡ b + 0 = omega arith in le_of_eq (ap (units w) e)
units_mono w b (suc n) = let e : b + n + 1 ≡ b + suc n = omega arith in le_trans (units_mono w b n) (le_trans (units_up w (b + n)) (le_of_eq (ap (units w) e)))

-- Lower bits have no greater value.
pub units_le : (w : FloatType) (a b : ℕ) → a ≤ b → units w a ≤ units w b
units_le w a b h = let e : a + (b - a) ≡ b = omega arith in le_trans (units_mono w a (b - a)) (le_of_eq (ap (units w) e))

-- ---- one step up is more

more_strict : (w : FloatType) (e t : ℕ) → of_fields w e t < of_fields w e (t + 1)
more_strict w zero t = omega arith
more_strict w (suc e) t = let l : 2 ^ signif w + t < 2 ^ signif w + (t + 1) = omega arith in mul-lt-mul_of_pos_right l (pow_pos e)

carry_strict : (w : FloatType) (e t : ℕ) → t < 2 ^ signif w → of_fields w e t < of_fields w (suc e) 0
carry_strict w zero t h = omega (arith, h)
carry_strict w (suc e) t h =
    let l : 2 ^ signif w + t < 2 * 2 ^ signif w = omega (arith, h) in
    lt_of_lt_of_le (mul-lt-mul_of_pos_right l (pow_pos e)) (le_of_eq (omega (arith, ap (λ a. (2 ^ signif w + 0) * a) (pow-suc 2 e))))

strict_fields : (w : FloatType) (e t : ℕ) → t < 2 ^ signif w → units w (e * 2 ^ signif w + t) < units w (e * 2 ^ signif w + t + 1)
strict_fields w e t h =
    let s = 2 ^ signif w in
    elim (cases_lt (t + 1) s) [
      | inl inside ↦
          let b : e * s + t + 1 ≡ e * s + (t + 1) = omega arith in
          rw (units_of_fields w e t h) (lt_of_lt_of_le (more_strict w e t) (le_of_eq (sym (ap (units w) b ∙ units_of_fields w e (t + 1) inside))))
      | inr over ↦
          let H : 0 < s = pow_pos (signif w) in
          let b : e * s + t + 1 ≡ suc e * s + 0 = omega arith in
          rw (units_of_fields w e t h) (lt_of_lt_of_le (carry_strict w e t h) (le_of_eq (sym (ap (units w) b ∙ units_of_fields w (suc e) 0 H))))
    ]

pub units_strict : (w : FloatType) (b : ℕ) → units w b < units w (b + 1)
units_strict w b =
    let s = 2 ^ signif w in
    let H : 0 < s = pow_pos (signif w) in
    let l : b % s < s = native.Mathlib.Nat.mod-lt b H in
    let e : b / s * s + b % s ≡ b = native.Mathlib.Nat.div-add-mod' b s in
    subst (λ (x : ℕ). units w x < units w (x + 1)) e (strict_fields w (b / s) (b % s) l)
