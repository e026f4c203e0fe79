-- From the kit's nearest bits to those of the standard.
use Rattle.std.proofs.Common.{ℕ, ◌≡◌, ◌+◌, ◌-◌, ◌*◌, ◌/◌, ◌%◌, ◌^◌, ◌<◌, ◌≤◌, Bool, false, not, refl, sym, ap, subst, ◌∙◌, arith, inl, inr}
use native.Mathlib.Nat.{mul-pos, mul-le-mul_right, le_trans, lt_of_le_of_lt, le_of_eq, div-add-mod', mod-lt, le-div_iff_mul-le, mod-eq_of_lt, div-div-eq-div-mul}
use lib.Pow.{pow_pos, pow-add}
use lib.Dec.{T, ltb}
use lib.Ieee.{Float, Format, prec, low, hid, ones, top, size, of_bits, to_bits, round, is_nan}
use borrow.Author.Tests.{le-ltb}
use Prim.Native.Nat.{min}
use lib.Ieee.Fits.{kept-lt, two}
use lib.Ieee.Digits.{size_reaches}
use lib.Ieee.Bits.{to_bits-of_bits, nan_bits_is, nan_bits_above}
use Rattle.std.proofs.lemmas.Bool.{cases_lt}
use Rattle.core.specs.Dec2flt.Rounding.{scaled_bits, IsNearestBits, IsJustAbove}
use Rattle.core.proofs.dec2flt.RoundingLemmas.{nearest_below, nearest_tie, nearest_above}
use Rattle.wm_syntax.specs.declared.instructions.FloatType.{FloatType}
use Rattle.wm_syntax.specs.declared.instructions.FloatType.TheVariants.{F32, F64}
use Rattle.wm_syntax.specs.Floats.{signif}
use Rattle.wm_floats.specs.Nearest.{infinity, least, units, IsFrom, doubled, both, Rounds, Chosen, IsNearest}
use Rattle.wm_floats.specs.inner.Kit.{format_of}
use Rattle.wm_floats.proofs.Units.{units_at, units_le}

-- The constants of the standard in the kit's terms.
pub record Same (w : FloatType) : Type 0 where
  pub hid_is : 2 ^ signif w ≡ hid (format_of w)
  pub twice : 2 ^ prec (format_of w) ≡ 2 * 2 ^ signif w
  pub even : (k m : ℕ) → (k * 2 ^ signif w + m) % 2 ≡ m % 2
  pub prec_is : signif w + 1 ≡ prec (format_of w)
  pub prec_small : prec (format_of w) ≤ 53
  pub low_is : least w ≡ low (format_of w)
  pub infinity_is : infinity w ≡ ones (format_of w) * hid (format_of w)

even32 : (k m : ℕ) → (k * 2 ^ 23 + m) % 2 ≡ m % 2
even32 k m = omega arith

even64 : (k m : ℕ) → (k * 2 ^ 52 + m) % 2 ≡ m % 2
even64 k m = omega arith

pub same : (w : FloatType) → Same w
same F32 = record { hid_is = refl; twice = refl; even = even32; prec_is = refl; prec_small = omega arith; low_is = refl; infinity_is = refl }
same F64 = record { hid_is = refl; twice = refl; even = even64; prec_is = refl; prec_small = omega arith; low_is = refl; infinity_is = refl }

-- a pair of candidates, by the significand of the lower one
pub pair_of : (w : FloatType) (num den m k : ℕ) → IsJustAbove (format_of w) num den m k → IsFrom w num den (k * 2 ^ signif w + m)
pair_of w num den m k near =
    let s = same w in
    let most : m + 1 ≤ 2 * 2 ^ signif w = omega (arith, near.significand.fits, s.twice) in
    let here : units w (k * 2 ^ signif w + m) ≡ m * 2 ^ k = units_at w m k (omega arith) (λ K. omega (arith, near.significand.normal K, s.hid_is)) in
    let next : k * 2 ^ signif w + m + 1 ≡ k * 2 ^ signif w + (m + 1) = omega arith in
    let above : units w (k * 2 ^ signif w + m + 1) ≡ (m + 1) * 2 ^ k =
    ap (units w) next ∙ units_at w (m + 1) k most (λ K. omega (arith, near.significand.normal K, s.hid_is)) in
    record {
      from = rw (here, s.low_is) (omega (arith, near.from));
      below = rw (above, s.low_is) (omega (arith, near.below));
    }

-- The candidate of a pair that is chosen.
pub both_of : (w : FloatType) (num den m k : ℕ) → IsJustAbove (format_of w) num den m k → both w den (k * 2 ^ signif w + m) ≡ (2 * m + 1) * (den * 2 ^ k)
both_of w num den m k near =
    let s = same w in
    let most : m + 1 ≤ 2 * 2 ^ signif w = omega (arith, near.significand.fits, s.twice) in
    let here : units w (k * 2 ^ signif w + m) ≡ m * 2 ^ k = units_at w m k (omega arith) (λ K. omega (arith, near.significand.normal K, s.hid_is)) in
    let next : k * 2 ^ signif w + m + 1 ≡ k * 2 ^ signif w + (m + 1) = omega arith in
    let above : units w (k * 2 ^ signif w + m + 1) ≡ (m + 1) * 2 ^ k =
    ap (units w) next ∙ units_at w (m + 1) k most (λ K. omega (arith, near.significand.normal K, s.hid_is)) in
    rw (here, above) (omega arith)

-- every fraction lies above some float
pub just_above : (f : Format) (num den : ℕ) → 0 < den → (m k : ℕ) × IsJustAbove f num den m k
just_above f num den D =
    let n = num * 2 ^ low f in
    let k = size (n / den) - prec f in
    let u = den * 2 ^ k in
    let U : 0 < u = mul-pos D (pow_pos k) in
    let m = n / u in
    let e : n / den / 2 ^ k ≡ m = div-div-eq-div-mul n den (2 ^ k) in
    let fits : m < 2 ^ prec f = subst (λ (x : ℕ). x < 2 ^ prec f) e (kept-lt (prec f) (n / den)) in
    let normal : 0 < k → hid f ≤ m =
    λ K.
    let j : prec f - 1 + k < size (n / den) = omega (arith, two f) in
    let l : 2 ^ (prec f - 1 + k) ≤ n / den = size_reaches (n / den) (prec f - 1 + k) j in
    let p : 2 ^ (prec f - 1) * 2 ^ k ≤ n / den = le_trans (le_of_eq (sym (pow-add 2 (prec f - 1) k))) l in
    subst (λ (x : ℕ). hid f ≤ x) e ((le-div_iff_mul-le (pow_pos k)).1 p) in
    let parts : m * u + n % u ≡ n = div-add-mod' n u in
    let rest : n % u < u = mod-lt n U in
    (m, k, record { significand = record { fits = fits; normal = normal }; from = omega arith; below = omega arith })

-- two patterns that are no NaN's and stand for one float are the same
not_nan : (f : Format) (b : ℕ) → b ≤ ones f * hid f → (b < 2 * top f) × T (not (is_nan (of_bits f b)))
not_nan f b h =
    let t : ones f * hid f < top f = omega (arith, pow_pos (prec f - 1)) in
    let small : b % top f ≡ b = mod-eq_of_lt (lt_of_le_of_lt h t) in
    let no : ltb (ones f * hid f) (b % top f) ≡ false = rw small (le-ltb (ones f * hid f) b h) in
    let e : is_nan (of_bits f b) ≡ false = sym (nan_bits_is f b) ∙ nan_bits_above f b ∙ no in
    (omega arith, subst (λ (x : Bool). T (not x)) (sym e) tt)

one_pattern : (f : Format) (num den b c : ℕ) → IsNearestBits f num den b → IsNearestBits f num den c → b ≡ c
one_pattern f num den b c p q =
    let x = not_nan f b p.1 in
    let y = not_nan f c q.1 in
    sym (to_bits-of_bits f b x.0 x.1) ∙ ap (to_bits f) (p.0 ∙ sym q.0) ∙ to_bits-of_bits f c y.0 y.1

pub scaled_is : (w : FloatType) (q k r : ℕ) → r ≡ k * 2 ^ signif w + q → scaled_bits (format_of w) q k ≡ min r (infinity w)
scaled_is w q k r e =
    let s = same w in
    let h : k * hid (format_of w) ≡ k * 2 ^ signif w = ap (λ x. k * x) (sym s.hid_is) in
    omega (arith, s.infinity_is)

chosen_at : (w : FloatType) (num den m k : ℕ) → 0 < den → IsJustAbove (format_of w) num den m k
    → (r : ℕ) × Chosen w num den r × IsNearestBits (format_of w) num den (min r (infinity w))
chosen_at w num den m k D near =
    let f = format_of w in
    let s = same w in
    let under = k * 2 ^ signif w + m in
    let pair = pair_of w num den m k near in
    let sum = both_of w num den m k near in
    let low_is : doubled w num ≡ 2 * (num * 2 ^ low f) = ap (λ l. 2 * (num * 2 ^ l)) s.low_is in
    elim (cases_lt (2 * (num * 2 ^ low f)) ((2 * m + 1) * (den * 2 ^ k))) [
      | inl less ↦ (
        under,
        (under, pair, inl (omega (arith, sum, low_is), refl)),
        subst (IsNearestBits f num den) (scaled_is w m k under refl) (nearest_below f num den m k D near less),
      )
      | inr more ↦ elim (cases_lt ((2 * m + 1) * (den * 2 ^ k)) (2 * (num * 2 ^ low f))) [
        | inl above ↦ (
          under + 1,
          (under, pair, inr (inr (omega (arith, sum, low_is), refl))),
          subst (IsNearestBits f num den) (scaled_is w (m + 1) k (under + 1) (omega arith)) (nearest_above f num den m k D near above),
        )
        | inr level ↦
            let tie : 2 * (num * 2 ^ low f) ≡ (2 * m + 1) * (den * 2 ^ k) = omega arith in
            let even : under % 2 ≡ m % 2 = s.even k m in (
              under + under % 2,
              (under, pair, inr (inl (omega (arith, sum, low_is), refl))),
              subst (IsNearestBits f num den) (scaled_is w (m + m % 2) k (under + under % 2) (omega arith)) (nearest_tie f num den m k D near tie),
            )
      ]
    ]

-- a fraction has one pair, and one of them is chosen
one_pair : (w : FloatType) (num den a b : ℕ) → IsFrom w num den a → IsFrom w num den b → b ≤ a
one_pair w num den a b p q =
    elim (cases_lt a b) [
      | inl l ↦
          let up : units w (a + 1) ≤ units w b = units_le w (a + 1) b (omega arith) in
          absurd (omega (arith, p.below, q.from, mul-le-mul_right den up))
      | inr g ↦ g
    ]

rounds_once : (w : FloatType) (num den under b c : ℕ) → Rounds w num den under b → Rounds w num den under c → b ≡ c
rounds_once w num den under b c (inl p) (inl q) = omega arith
rounds_once w num den under b c (inl p) (inr (inl q)) = absurd (omega arith)
rounds_once w num den under b c (inl p) (inr (inr q)) = absurd (omega arith)
rounds_once w num den under b c (inr (inl p)) (inl q) = absurd (omega arith)
rounds_once w num den under b c (inr (inl p)) (inr (inl q)) = omega arith
rounds_once w num den under b c (inr (inl p)) (inr (inr q)) = absurd (omega arith)
rounds_once w num den under b c (inr (inr p)) (inl q) = absurd (omega arith)
rounds_once w num den under b c (inr (inr p)) (inr (inl q)) = absurd (omega arith)
rounds_once w num den under b c (inr (inr p)) (inr (inr q)) = omega arith

chosen_once : (w : FloatType) (num den b c : ℕ) → Chosen w num den b → Chosen w num den c → b ≡ c
chosen_once w num den b c (u, p, r) (v, q, s) =
    let e : v ≡ u = omega (arith, one_pair w num den u v p q, one_pair w num den v u q p) in
    rounds_once w num den u b c r (subst (λ (x : ℕ). Rounds w num den x c) e s)

-- a fraction has at most one nearest float
pub one_nearest : (w : FloatType) (num den b c : ℕ) → IsNearest w num den b → IsNearest w num den c → b ≡ c
one_nearest w num den b c p q = chosen_once w num den b c p.1 q.1

chosen_is : (w : FloatType) (num den b : ℕ) → 0 < den → IsNearestBits (format_of w) num den b → (r : ℕ) × Chosen w num den r × (b ≡ min r (infinity w))
chosen_is w num den b D is =
    let (m, k, near) = just_above (format_of w) num den D in
    let x = chosen_at w num den m k D near in
    (x.0, x.1, one_pattern (format_of w) num den b (min x.0 (infinity w)) is x.2)

-- The kit's bits of the nearest float are those of the standard if they are below infinity's. Otherwise the
-- standard has none.
pub finite : (w : FloatType) (num den b : ℕ) → 0 < den → IsNearestBits (format_of w) num den b → b < infinity w → IsNearest w num den b
finite w num den b D is h =
    let x = chosen_is w num den b D is in
    let e : x.0 ≡ b = omega (arith, x.2) in
    (h, subst (Chosen w num den) e x.1)

pub too_large : (w : FloatType) (num den b : ℕ) → 0 < den → IsNearestBits (format_of w) num den b → infinity w ≤ b → (c : ℕ) → IsNearest w num den c → ⊥
too_large w num den b D is h c near =
    let x = chosen_is w num den b D is in
    omega (arith, x.2, near.0, chosen_once w num den x.0 c x.1 near.1)

-- the bits of the kit's rounded float
pub bits_of_rounded : (w : FloatType) (num den bits : ℕ) → 0 < den → bits ≡ to_bits (format_of w) (round (format_of w) false num den) → IsNearestBits (format_of w) num den bits
bits_of_rounded w num den bits D is =
    let f = format_of w in
    let (m, k, near) = just_above f num den D in
    let x = chosen_at w num den m k D near in
    let b = min x.0 (infinity w) in
    let sane = not_nan f b x.2.1 in
    let e : bits ≡ b = is ∙ ap (to_bits f) (sym x.2.0) ∙ to_bits-of_bits f b sane.0 sane.1 in
    subst (IsNearestBits f num den) (sym e) x.2

pub rounded_not_nan : (f : Format) (num den : ℕ) (x : Float) → 0 < den → (w : FloatType) → f ≡ format_of w → x ≡ round f false num den → T (not (is_nan x))
rounded_not_nan f num den x D w e is =
    let (m, k, near) = just_above (format_of w) num den D in
    let y = chosen_at w num den m k D near in
    let sane = not_nan (format_of w) (min y.0 (infinity w)) y.2.1 in
    let same_float : of_bits (format_of w) (min y.0 (infinity w)) ≡ x = y.2.0 ∙ ap (λ g. round g false num den) (sym e) ∙ sym is in
    subst (λ (z : Float). T (not (is_nan z))) same_float sane.1
