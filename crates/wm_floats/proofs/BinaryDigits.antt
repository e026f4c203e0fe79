-- From a number of binary digits to the kit's nearest bits.
use Rattle.std.proofs.Common.{ℕ, suc, ◌≡◌, ◌+◌, ◌-◌, ◌*◌, ◌/◌, ◌%◌, ◌^◌, ◌<◌, ◌≤◌, Bool, true, false, refl, sym, ap, subst, ◌∙◌, arith}
use Rattle.std.specs.Prelude.{if◌then◌else◌}
use Rattle.std.specs.Ordering.{MatchOrdering}
use Rattle.std.specs.declared.cmp.Ordering.{Ordering}
use Rattle.std.specs.declared.cmp.Ordering.TheVariants.{Less, Equal, Greater}
use Prim.Native.Nat.{min}
use native.Mathlib.Nat.{pow-suc, eq_of_mul-eq-mul_right}
use lib.Pow.{pow_pos}
use lib.Ieee.{Format, prec, low}
use Rattle.core.specs.Dec2flt.Rounding.{scaled_bits, IsNearestBits, IsJustAbove, IsSignificand}
use Rattle.core.proofs.dec2flt.RoundingLemmas.{nearest_below, nearest_tie, nearest_above}
use Rattle.wm_syntax.specs.declared.instructions.FloatType.{FloatType}
use Rattle.wm_syntax.specs.Floats.{signif}
use Rattle.wm_floats.specs.Nearest.{infinity, IsBinary}
use Rattle.wm_floats.specs.inner.Kit.{format_of}
use Rattle.wm_floats.proofs.Bridge.{scaled_is}
use Rattle.wm_floats.proofs.Cuts.{bounds, exactly, strictly, less, greater, beyond, level, unit_is, some_whole, lies_above, lies_at, lies_below}

-- the bits of a significand and its exponent
of_scaled : (w : FloatType) (num den q e bits : ℕ) → bits ≡ min (e * 2 ^ signif w + q) (infinity w) → IsNearestBits (format_of w) num den (scaled_bits (format_of w) q e)
    → IsNearestBits (format_of w) num den bits
of_scaled w num den q e bits is = subst (IsNearestBits (format_of w) num den) (scaled_is w q e (e * 2 ^ signif w + q) refl ∙ sym is)

pub no_digits : (w : FloatType) (num den digits : ℕ) (more : Bool) (up down : ℕ) → 0 < den → digits ≡ 0 → (more ≡ true → 2 ^ 60 ≤ digits) → IsBinary num den digits more up down
    → IsNearestBits (format_of w) num den 0
no_digits w num den digits true up down D z cut is = absurd (omega (arith, cut refl))
no_digits w num den digits false up down D z cut is =
    let f = format_of w in
    let e : num * 2 ^ down ≡ 0 * 2 ^ down = is ∙ ap (λ x. x * 2 ^ up * den) z ∙ omega arith in
    let n : num ≡ 0 = eq_of_mul-eq-mul_right (2 ^ down) (pow_pos down) num 0 e in
    let l : num * 2 ^ low f ≡ 0 = ap (λ x. x * 2 ^ low f) n ∙ omega arith in
    let H : 0 < 2 ^ prec f = pow_pos (prec f) in
    let near : IsJustAbove f num den 0 0 = record { significand = record { fits = H; normal = λ k. absurd (omega (arith, k)) }; from = omega arith; below = omega (arith, l) } in
    of_scaled w num den 0 0 0 (omega arith) (nearest_below f num den 0 0 D near (omega (arith, l)))

-- digits that the significand holds whole
pub with_zeros_nearest : (w : FloatType) (num den digits : ℕ) (more : Bool) (up down e s bits : ℕ) → 0 < den → (more ≡ false) → IsBinary num den digits more up down
    → up + low (format_of w) ≡ s + (e + down) → IsSignificand (format_of w) (digits * 2 ^ s) e → bits ≡ min (e * 2 ^ signif w + digits * 2 ^ s) (infinity w)
    → IsNearestBits (format_of w) num den bits
with_zeros_nearest w num den digits more up down e s bits D exactness is places fits eq =
    let f = format_of w in
    let exact : num * 2 ^ low f * 2 ^ down ≡ digits * (2 ^ (up + low f) * den) = exactly num den digits up down (low f) (subst (λ (x : Bool). IsBinary num den digits x up down) exactness is) in
    of_scaled w num den (digits * 2 ^ s) e bits eq
    (nearest_below f num den (digits * 2 ^ s) e D (lies_at f num den digits up down e s D exact places fits) (lies_below f num den digits up down e s D exact places))

abbrev pub SideOf : Ordering → ℕ → ℕ → Type 0
SideOf side digits d =
    MatchOrdering side (2 * digits < (2 * (digits / 2 ^ d) + 1) * 2 ^ d) (2 * digits ≡ (2 * (digits / 2 ^ d) + 1) * 2 ^ d) ((2 * (digits / 2 ^ d) + 1) * 2 ^ d < 2 * digits)

abbrev pub RoundedOf : Ordering → ℕ → Bool → ℕ → Type 0
RoundedOf side kept more q = MatchOrdering side (q ≡ kept) (q ≡ (if more then kept + 1 else kept + kept % 2)) (q ≡ kept + 1)

module _ (w : FloatType) (num den digits : ℕ) (up down e d : ℕ) (D : 0 < den) (dropped : 0 < d) (places : d + (up + low (format_of w)) ≡ e + down) (fits : IsSignificand (format_of w) (digits / 2 ^ d) e) where
  abbrev f : Format
  f = format_of w

  abbrev m : ℕ
  m = digits / 2 ^ d

  nearest_of : (more : Bool) (side : Ordering) (q : ℕ) → (is : IsBinary num den digits more up down) → SideOf side digits d → RoundedOf side m more q
      → IsNearestBits f num den (scaled_bits f q e)
  nearest_of more Less q is s r =
      let b = bounds num den digits more up down (low f) D is in
      let near = lies_above f num den digits up down e d D b places fits in
      let even : 2 ^ d ≡ 2 * 2 ^ (d - 1) = (let k : d ≡ suc (d - 1) = omega arith in ap (λ x. 2 ^ x) k ∙ pow-suc 2 (d - 1) ∙ omega arith) in
      let room : 2 * digits + 2 ≤ (2 * m + 1) * 2 ^ d = omega (arith, s, ap (λ x. (2 * m + 1) * x) even) in
      rw r (nearest_below f num den m e D near
      (less (num * 2 ^ low f) (den * 2 ^ e) (2 ^ down) _ (2 ^ d) digits (pow_pos down) (some_whole f num den digits up down e d D b places) (unit_is f num den digits up down e d D b places) b.from b.below (2 * m + 1) room))
  nearest_of more Greater q is s r =
      let b = bounds num den digits more up down (low f) D is in
      let near = lies_above f num den digits up down e d D b places fits in
      rw r (nearest_above f num den m e D near
      (greater (num * 2 ^ low f) (den * 2 ^ e) (2 ^ down) _ (2 ^ d) digits (pow_pos down) (some_whole f num den digits up down e d D b places) (unit_is f num den digits up down e d D b places) b.from b.below (2 * m + 1) s))
  nearest_of true Equal q is s r =
      let b = bounds num den digits true up down (low f) D is in
      let near = lies_above f num den digits up down e d D b places fits in
      rw r (nearest_above f num den m e D near
      (beyond (num * 2 ^ low f) (den * 2 ^ e) (2 ^ down) _ (2 ^ d) digits (pow_pos down) (some_whole f num den digits up down e d D b places) (unit_is f num den digits up down e d D b places) b.from b.below (2 * m + 1) (strictly num den digits up down (low f) is) (sym s)))
  nearest_of false Equal q is s r =
      let b = bounds num den digits false up down (low f) D is in
      let near = lies_above f num den digits up down e d D b places fits in
      rw r (nearest_tie f num den m e D near
      (level (num * 2 ^ low f) (den * 2 ^ e) (2 ^ down) _ (2 ^ d) digits (pow_pos down) (some_whole f num den digits up down e d D b places) (unit_is f num den digits up down e d D b places) b.from b.below (2 * m + 1) (exactly num den digits up down (low f) is) (sym s)))

  pub cut_nearest : (more : Bool) (side : Ordering) (q bits : ℕ) → IsBinary num den digits more up down → SideOf side digits d → RoundedOf side m more q
      → bits ≡ min (e * 2 ^ signif w + q) (infinity w) → IsNearestBits f num den bits
  cut_nearest more side q bits is s r eq = of_scaled w num den q e bits eq (nearest_of more side q is s r)
