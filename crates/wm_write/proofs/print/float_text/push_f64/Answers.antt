use Rattle.std.proofs.Common.{◌≡◌, ◌*◌, ◌/◌, ◌%◌, ℕ, ap, ◌∙◌, arith}
use Rattle.wm_syntax.specs.declared.instructions.FloatType.TheVariants as float
use Rattle.wm_write.specs.FloatText.{finite_text, special_text}
use Rattle.wm_write.proofs.FloatPieces.{finite_size, float_word, special_size}
use Rattle.wm_write.proofs.print.float_text.push_f64.Goals as goal

pub returns-then-exponent-eq2047 : goal.returns-then-exponent-eq2047
returns-then-exponent-eq2047 c =
    let f = c.args.bits % 4503599627370496 in
    let e = c.args.bits / 4503599627370496 % 2048 in
    float_word float.F64 c.args.bits c.front.result.now (special_text f) c.args.line.now c.push.new.self c.push_special.new.line c.front.ensures.text
    c.push.ensures c.push_special.ensures (special_size float.F64 e f c.if-exponent-eq2047.true)

pub returns-else-exponent-eq2047 : goal.returns-else-exponent-eq2047
returns-else-exponent-eq2047 c =
    let f = c.args.bits % 4503599627370496 in
    let e = c.args.bits / 4503599627370496 % 2048 in
    let whole : f ≡ f * 1 = omega arith in
    float_word float.F64 c.args.bits c.front.result.now (finite_text f 1023 e) c.args.line.now c.push.new.self c.push_finite.new.line c.front.ensures.text
    c.push.ensures c.push_finite.ensures (ap (λ (n : ℕ). finite_text n 1023 e) whole ∙ finite_size float.F64 e f c.if-exponent-eq2047.false)
