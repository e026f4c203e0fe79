-- The first digits of a number: of no text, of two texts, and the number's bounds.
use Rattle.std.proofs.Common.{ℕ, zero, suc, ◌≡◌, ◌+◌, ◌*◌, ◌^◌, ◌<◌, ◌≤◌, ◌++◌, true, false, List, refl, sym, ap, subst, ◌∙◌, arith}
use Rattle.std.proofs.Math.Nat.{mul-le-mul_right}
use Rattle.std.specs.Str.Parse.{digits_value, digits_value_after}
use Rattle.wm_floats.specs.declared.hexadecimal.Leading.{Leading}
use Rattle.wm_floats.specs.inner.Leading.{Leads}
use Rattle.wm_floats.proofs.HexDigits.{sixteen}
use Rattle.wm_floats.proofs.Underscores.{after_append}

pub nothing : (l : Leading) → l.digits ≡ 0 → l.more ≡ false → l.left ≡ 0 → Leads 0 l
nothing l d m k =
    let one : 16 ^ l.left ≡ 1 = ap (λ x. 16 ^ x) k in
    record {
      rest = 0;
      sum = omega (arith, ap (λ x. x * 16 ^ l.left) d);
      small = omega (arith, one);
      none = λ _. refl;
      some = λ t. absurd (let f : true ≡ false = sym t ∙ m in cc);
      full = λ p. absurd (omega (arith, p, k));
    }

-- Digits are dropped only when 64 bits are full.
pub is_cut : (n : ℕ) (l : Leading) → Leads n l → l.more ≡ true → 2 ^ 60 ≤ l.digits
is_cut n l h t = by l.left refl
  where
    by : (k : ℕ) → l.left ≡ k → 2 ^ 60 ≤ l.digits
    by zero e = let one : 16 ^ l.left ≡ 1 = ap (λ x. 16 ^ x) e in absurd (omega (arith, h.some t, h.small, one))
    by (suc k) e = h.full (omega (arith, e))

pub both_read : (whole part : List ℕ) (l m : Leading) → l.digits ≡ 0 → l.more ≡ false → l.left ≡ 0 → (r : Leading)
    → ((n : ℕ) → Leads n l → Leads (digits_value_after 16 n whole) r) → ((n : ℕ) → Leads n r → Leads (digits_value_after 16 n part) m)
    → Leads (digits_value 16 (whole ++ part)) m
both_read whole part l m d o k r f g = subst (λ (n : ℕ). Leads n m) (sym (after_append 16 0 whole part)) (g (digits_value 16 whole) (f 0 (nothing l d o k)))

-- If the first digits are 0, the number is 0.
pub is_zero : (n : ℕ) (l : Leading) → Leads n l → l.digits ≡ 0 → n ≡ 0
is_zero n l h d = by l.left refl
  where
    by : (k : ℕ) → l.left ≡ k → n ≡ 0
    by zero e = let one : 16 ^ l.left ≡ 1 = ap (λ x. 16 ^ x) e in omega (arith, h.sum, h.small, one, ap (λ x. x * 16 ^ l.left) d)
    by (suc k) e = absurd (omega (arith, h.full (omega (arith, e)), d))

-- If the first digits are not 0, the number is not 0.
pub not_zero : (n : ℕ) (l : Leading) → Leads n l → 0 < l.digits → 0 < n
not_zero n l h d = omega (arith, h.sum, sixteen l.left, mul-le-mul_right (16 ^ l.left) d)

-- An upper bound of the number.
pub below_digits : (n : ℕ) (l : Leading) → Leads n l → l.digits < 2 ^ 64 → n < 2 ^ 64 * 16 ^ l.left
below_digits n l h d =
    let e : (l.digits + 1) * 16 ^ l.left ≤ 2 ^ 64 * 16 ^ l.left = mul-le-mul_right (16 ^ l.left) (omega (arith, d)) in
    omega (arith, h.sum, h.small, e)
