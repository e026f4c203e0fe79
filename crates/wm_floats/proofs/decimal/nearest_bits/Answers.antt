use Rattle.std.proofs.Common.{◌*◌, ◌^◌, false, ◌∙◌, refl, sym, ap, subst}
use lib.Ieee.{binary32, binary64, to_bits, round}
use Rattle.core.proofs.dec2flt.ExactLemmas.{ten_to_pos}
use Rattle.core.specs.Dec2flt.Rounding.{IsNearestBits}
use Rattle.fast_float.specs.Text.{scan, digits_of, tens_up, tens_down}
use Rattle.wm_syntax.specs.declared.instructions.FloatType.{FloatType}
use Rattle.wm_syntax.specs.declared.instructions.FloatType.TheVariants.{F32, F64}
use Rattle.wm_floats.specs.inner.Kit.{format_of}
use Rattle.wm_floats.proofs.Bridge.{bits_of_rounded, rounded_not_nan}
use Rattle.wm_floats.proofs.decimal.nearest_bits.Goals as goal

pub float_to_bits-x : goal.float_to_bits-x
float_to_bits-x c =
    let is = c.to_float-x.ensures ∙ ap (λ p. round binary32 false (digits_of p * 10 ^ tens_up p) (10 ^ tens_down p)) c.scan-numeral.ensures.parts in
    rounded_not_nan binary32 _ _ _ (ten_to_pos (tens_down (scan c.args.text.now))) F32 refl is

pub float_to_bits-result : goal.float_to_bits-result
float_to_bits-result c =
    let is = c.to_float-x-in-F64.ensures ∙ ap (λ p. round binary64 false (digits_of p * 10 ^ tens_up p) (10 ^ tens_down p)) c.scan-numeral.ensures.parts in
    rounded_not_nan binary64 _ _ _ (ten_to_pos (tens_down (scan c.args.text.now))) F64 refl is

pub returns-in-F32 : goal.returns-in-F32
returns-in-F32 c =
    let p = scan c.args.text.now in
    let is = c.to_float-x.ensures ∙ ap (λ p. round binary32 false (digits_of p * 10 ^ tens_up p) (10 ^ tens_down p)) c.scan-numeral.ensures.parts in
    subst (λ (w : FloatType). IsNearestBits (format_of w) (digits_of p * 10 ^ tens_up p) (10 ^ tens_down p) c.from.result) (sym c.in-F32.is)
    (bits_of_rounded F32 _ _ c.from.result (ten_to_pos (tens_down p)) (c.from.ensures ∙ ap (to_bits binary32) is))

pub returns-in-F64 : goal.returns-in-F64
returns-in-F64 c =
    let p = scan c.args.text.now in
    let bits = to_bits binary64 c.to_float-x-in-F64.result in
    let is = c.to_float-x-in-F64.ensures ∙ ap (λ p. round binary64 false (digits_of p * 10 ^ tens_up p) (10 ^ tens_down p)) c.scan-numeral.ensures.parts in
    subst (λ (w : FloatType). IsNearestBits (format_of w) (digits_of p * 10 ^ tens_up p) (10 ^ tens_down p) bits) (sym c.in-F64.is)
    (bits_of_rounded F64 _ _ bits (ten_to_pos (tens_down p)) (ap (to_bits binary64) is))
