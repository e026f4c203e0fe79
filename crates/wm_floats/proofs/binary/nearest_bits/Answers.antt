use Rattle.std.proofs.Common.{ℕ, ◌≡◌, ◌+◌, ◌-◌, ◌*◌, ◌/◌, ◌^◌, ◌<◌, ◌≤◌, Bool, true, false, refl, subst, arith}
use native.Mathlib.Nat.{lt_of_lt_of_le}
use lib.Pow.{pow_mono}
use Rattle.core.specs.Dec2flt.Rounding.{IsSignificand}
use Rattle.wm_syntax.specs.declared.instructions.FloatType.{FloatType}
use Rattle.wm_syntax.specs.Floats.{signif}
use Rattle.wm_floats.specs.Nearest.{least}
use Rattle.wm_floats.specs.inner.Kit.{format_of}
use Rattle.wm_floats.proofs.Bridge.{same}
use Rattle.wm_floats.proofs.Cuts.{HasLength, significand, significand_with_zeros}
use Rattle.wm_floats.proofs.BinaryDigits.{RoundedOf, no_digits, with_zeros_nearest, cut_nearest}
use Rattle.wm_floats.proofs.binary.nearest_bits.Goals as goal

-- The values that the function has computed.
record At (w : FloatType) (digits up down len e : ℕ) : Type 0 where
  has : HasLength digits len
  is : e ≡ len + (up + least w) - (signif w + 1 + down)

whole_fits : (w : FloatType) (digits up down len e s : ℕ) → At w digits up down len e → down + e + s ≡ up + least w → IsSignificand (format_of w) (digits * 2 ^ s) e
whole_fits w digits up down len e s at places =
    let k = same w in
    let is = at.is in
    significand_with_zeros (format_of w) digits len s e at.has (omega (arith, k.prec_is)) (λ E. omega (arith, k.prec_is, E))

cut_fits : (w : FloatType) (digits up down len e d : ℕ) → At w digits up down len e → up + least w + d ≡ down + e → IsSignificand (format_of w) (digits / 2 ^ d) e
cut_fits w digits up down len e d at places =
    let k = same w in
    let is = at.is in
    significand (format_of w) digits len d e at.has (omega (arith, k.prec_is)) (λ E. omega (arith, k.prec_is, E))

small : (w : FloatType) (m e : ℕ) → IsSignificand (format_of w) m e → m < 2 ^ 53
small w m e is = lt_of_lt_of_le is.fits (pow_mono (same w).prec_small)

-- No digits were dropped if zeros follow: 2 ^ 60 has more digits than the significand.
not_more : (w : FloatType) (m e digits s : ℕ) (more : Bool) → IsSignificand (format_of w) (digits * 2 ^ s) e → (more ≡ true → 2 ^ 60 ≤ digits) → more ≡ false
not_more w m e digits s false is cut = refl
not_more w m e digits s true is cut =
    absurd (omega (arith, small w (digits * 2 ^ s) e is, native.Mathlib.Nat.mul-le-mul_right (2 ^ s) (cut refl), lib.Pow.pow_pos s))

pub returns-then-digits-eq0 : goal.returns-then-digits-eq0
returns-then-digits-eq0 c num den D is = no_digits c.args.width num den c.args.digits c.args.more c.args.up c.args.down D c.if-digits-eq0.true c.requires.cut is

pub with_zeros-requires-clause-few : goal.with_zeros-requires-clause-few
with_zeros-requires-clause-few c =
    let a : At c.args.width c.args.digits c.args.up c.args.down c.length_of.result c.saturating_sub-exponent.result = record {
      has = record { some = c.length_of.ensures.some.0; reaches = c.length_of.ensures.reaches; below = c.length_of.ensures.below };
      is = omega (arith, c.saturating_sub-exponent.ensures, c.lowest.ensures, c.fraction_bits.ensures);
    } in
    let s = c.args.up + c.lowest.result - (c.args.down + c.saturating_sub-exponent.result) in
    small c.args.width _ _ (whole_fits c.args.width c.args.digits c.args.up c.args.down c.length_of.result c.saturating_sub-exponent.result s a (omega (arith, c.lowest.ensures, c.if-left-right.true)))

pub scaled-requires : goal.scaled-requires
scaled-requires c =
    let a : At c.args.width c.args.digits c.args.up c.args.down c.length_of.result c.saturating_sub-exponent.result = record {
      has = record { some = c.length_of.ensures.some.0; reaches = c.length_of.ensures.reaches; below = c.length_of.ensures.below };
      is = omega (arith, c.saturating_sub-exponent.ensures, c.lowest.ensures, c.fraction_bits.ensures);
    } in
    let s = c.args.up + c.lowest.result - (c.args.down + c.saturating_sub-exponent.result) in
    let l = small c.args.width _ _ (whole_fits c.args.width c.args.digits c.args.up c.args.down c.length_of.result c.saturating_sub-exponent.result s a (omega (arith, c.lowest.ensures, c.if-left-right.true))) in
    omega (arith, l, c.with_zeros.ensures)

pub returns-then-left-right : goal.returns-then-left-right
returns-then-left-right c num den D is =
    let w = c.args.width in
    let e = c.saturating_sub-exponent.result in
    let a : At w c.args.digits c.args.up c.args.down c.length_of.result e = record {
      has = record { some = c.length_of.ensures.some.0; reaches = c.length_of.ensures.reaches; below = c.length_of.ensures.below };
      is = omega (arith, c.saturating_sub-exponent.ensures, c.lowest.ensures, c.fraction_bits.ensures);
    } in
    let s = c.args.up + c.lowest.result - (c.args.down + e) in
    let fits = whole_fits w c.args.digits c.args.up c.args.down c.length_of.result e s a (omega (arith, c.lowest.ensures, c.if-left-right.true)) in
    with_zeros_nearest w num den c.args.digits c.args.more c.args.up c.args.down e s c.scaled.result D
    (not_more w 0 e c.args.digits s c.args.more fits c.requires.cut) is (omega (arith, c.lowest.ensures, c.if-left-right.true, (same w).low_is)) fits
    (omega (arith, c.scaled.ensures, c.with_zeros.ensures))

pub rounded-requires : goal.rounded-requires
rounded-requires c =
    let w = c.args.width in
    let e = c.saturating_sub-exponent.result in
    let a : At w c.args.digits c.args.up c.args.down c.length_of.result e = record {
      has = record { some = c.length_of.ensures.some.0; reaches = c.length_of.ensures.reaches; below = c.length_of.ensures.below };
      is = omega (arith, c.saturating_sub-exponent.ensures, c.lowest.ensures, c.fraction_bits.ensures);
    } in
    let d = c.args.down + e - (c.args.up + c.lowest.result) in
    let l = small w _ _ (cut_fits w c.args.digits c.args.up c.args.down c.length_of.result e d a (omega (arith, c.lowest.ensures, c.if-left-right.false))) in
    omega (arith, l, c.cut-kept.ensures.kept)

pub scaled-requires-2 : goal.scaled-requires-2
scaled-requires-2 c =
    let w = c.args.width in
    let e = c.saturating_sub-exponent.result in
    let a : At w c.args.digits c.args.up c.args.down c.length_of.result e = record {
      has = record { some = c.length_of.ensures.some.0; reaches = c.length_of.ensures.reaches; below = c.length_of.ensures.below };
      is = omega (arith, c.saturating_sub-exponent.ensures, c.lowest.ensures, c.fraction_bits.ensures);
    } in
    let d = c.args.down + e - (c.args.up + c.lowest.result) in
    let l = small w _ _ (cut_fits w c.args.digits c.args.up c.args.down c.length_of.result e d a (omega (arith, c.lowest.ensures, c.if-left-right.false))) in
    omega (arith, l, c.cut-kept.ensures.kept, c.rounded.ensures.near)

pub returns : goal.returns
returns c num den D is =
    let w = c.args.width in
    let e = c.saturating_sub-exponent.result in
    let a : At w c.args.digits c.args.up c.args.down c.length_of.result e = record {
      has = record { some = c.length_of.ensures.some.0; reaches = c.length_of.ensures.reaches; below = c.length_of.ensures.below };
      is = omega (arith, c.saturating_sub-exponent.ensures, c.lowest.ensures, c.fraction_bits.ensures);
    } in
    let d = c.args.down + e - (c.args.up + c.lowest.result) in
    let fits = cut_fits w c.args.digits c.args.up c.args.down c.length_of.result e d a (omega (arith, c.lowest.ensures, c.if-left-right.false)) in
    cut_nearest w num den c.args.digits c.args.up c.args.down e d D (omega (arith, c.if-left-right.false)) (omega (arith, c.lowest.ensures, c.if-left-right.false, (same w).low_is)) fits
    c.args.more c.cut-kept.result.1 c.rounded.result c.scaled-2.result is c.cut-kept.ensures.side
    (subst (λ (x : ℕ). RoundedOf c.cut-kept.result.1 x c.args.more c.rounded.result) c.cut-kept.ensures.kept c.rounded.ensures.value) c.scaled-2.ensures
