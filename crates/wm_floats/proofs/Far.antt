-- Hexadecimal numbers by the size of their exponents.
use Rattle.std.proofs.Common.{ℕ, ◌≡◌, ◌*◌, ◌^◌, ◌<◌, ◌≤◌, Bool, true, false, cond, Option, Some, None, min, sym, ap, ◌∙◌, arith}
use native.Mathlib.Nat.{mul-pos}
use lib.Pow.{pow_pos}
use Rattle.std.specs.Prelude.{if◌then◌else◌}
use Rattle.std.specs.Str.Parse.{digits_value}
use Rattle.wm_syntax.specs.declared.instructions.FloatType.{FloatType}
use Rattle.wm_floats.specs.declared.hexadecimal.Leading.{Leading}
use Rattle.wm_floats.specs.exact.Atoms.{Numeral, nearest, hexadecimal_bits, digits_of, places, size_of, up, down}
use Rattle.wm_floats.specs.inner.Leading.{Leads}
use Rattle.wm_floats.proofs.HexDigits.{sixteen}
use Rattle.wm_floats.proofs.Leads.{is_zero, not_zero, below_digits}
use Rattle.wm_floats.proofs.Rounding.{Told, nearest_told, far_zero, far_large, far_small}

abbrev value_of : Numeral → ℕ
value_of n = digits_value 16 (digits_of n)

-- The bits of a number with this exponent.
abbrev moved : FloatType → Numeral → ℕ → ℕ → Option ℕ
moved w n u d = nearest w (value_of n * 2 ^ u) (16 ^ places n * 2 ^ d)

some_den : (n : Numeral) (d : ℕ) → 0 < 16 ^ places n * 2 ^ d
some_den n d = mul-pos (sixteen (places n)) (pow_pos d)

-- by the sign of its exponent
minus_is : (w : FloatType) (n : Numeral) → n.negative ≡ true → hexadecimal_bits w n ≡ moved w n 0 (size_of n)
minus_is w n e = ap (λ (t : Bool). moved w n (cond t 0 (size_of n)) (cond t (size_of n) 0)) e

plus_is : (w : FloatType) (n : Numeral) → n.negative ≡ false → hexadecimal_bits w n ≡ moved w n (size_of n) 0
plus_is w n e = ap (λ (t : Bool). moved w n (cond t 0 (size_of n)) (cond t (size_of n) 0)) e

-- ---- at 2^56 and beyond

pub far_negative : (w : FloatType) (n : Numeral) (l : Leading) → n.negative ≡ true → Leads (value_of n) l → l.digits < 2 ^ 64 → l.left ≤ 2 ^ 50 → 2 ^ 56 ≤ size_of n
    → Some 0 ≡ hexadecimal_bits w n
far_negative w n l t h d short far = sym (minus_is w n t ∙ far_small w (value_of n) (places n) l.left (size_of n) (below_digits (value_of n) l h d) short far)

pub far_none : (w : FloatType) (n : Numeral) (l : Leading) → Leads (value_of n) l → l.digits ≡ 0 → Some 0 ≡ hexadecimal_bits w n
far_none w n l h z =
    let e : value_of n * 2 ^ up n ≡ 0 = ap (λ x. x * 2 ^ up n) (is_zero (value_of n) l h z) ∙ omega arith in
    sym (far_zero w (value_of n * 2 ^ up n) (16 ^ places n * 2 ^ down n) (some_den n (down n)) e)

pub far_positive : (w : FloatType) (n : Numeral) (l : Leading) → n.negative ≡ false → Leads (value_of n) l → 0 < l.digits → places n ≤ 2 ^ 50 → 2 ^ 56 ≤ size_of n
    → None ≡ hexadecimal_bits w n
far_positive w n l f h d short far = sym (plus_is w n f ∙ far_large w (value_of n) (places n) (size_of n) (not_zero (value_of n) l h d) far short)

-- ---- below 2^56

pub near : (w : FloatType) (n : Numeral) (size u d : ℕ) (o : Option ℕ) → size ≡ min (size_of n) (2 ^ 56) → size < 2 ^ 56
    → u ≡ (if n.negative then 0 else size) → d ≡ (if n.negative then size else 0) → Told w (value_of n * 2 ^ u) (16 ^ places n * 2 ^ d) o → o ≡ hexadecimal_bits w n
near w n size u d o s lt a b told =
    let e : size ≡ size_of n = omega (arith, s, lt) in
    let x : u ≡ up n = a ∙ ap (λ (k : ℕ). cond n.negative 0 k) e in
    let y : d ≡ down n = b ∙ ap (λ (k : ℕ). cond n.negative k 0) e in
    nearest_told w (value_of n * 2 ^ u) (16 ^ places n * 2 ^ d) o (some_den n d) told ∙ (λ i. nearest w (value_of n * 2 ^ x i) (16 ^ places n * 2 ^ y i))

pub far_size : (n : Numeral) (size : ℕ) → size ≡ min (size_of n) (2 ^ 56) → 2 ^ 56 ≤ size → 2 ^ 56 ≤ size_of n
far_size n size s le = omega (arith, s, le)

pub ruleset near_laws = (near, far_size)
