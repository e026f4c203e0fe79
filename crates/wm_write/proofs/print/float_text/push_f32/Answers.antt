use Rattle.std.proofs.Common.{◌*◌, ◌/◌, ◌%◌}
use Rattle.wm_syntax.specs.declared.instructions.FloatType.TheVariants as float
use Rattle.wm_write.specs.FloatText.{finite_text, special_text}
use Rattle.wm_write.proofs.FloatPieces.{finite_size, float_word, special_size}
use Rattle.wm_write.proofs.print.float_text.push_f32.Goals as goal

pub returns-then-exponent-eq255 : goal.returns-then-exponent-eq255
returns-then-exponent-eq255 c =
    let f = c.args.bits % 8388608 in
    let e = c.args.bits / 8388608 % 256 in
    float_word float.F32 c.args.bits c.front.result.now (special_text f) c.args.line.now c.push.new.self c.push_special.new.line c.front.ensures.text
    c.push.ensures c.push_special.ensures (special_size float.F32 e f c.if-exponent-eq255.true)

pub returns-else-exponent-eq255 : goal.returns-else-exponent-eq255
returns-else-exponent-eq255 c =
    let f = c.args.bits % 8388608 in
    let e = c.args.bits / 8388608 % 256 in
    float_word float.F32 c.args.bits c.front.result.now (finite_text (f * 536870912) 127 e) c.args.line.now c.push.new.self c.push_finite.new.line
    c.front.ensures.text c.push.ensures c.push_finite.ensures (finite_size float.F32 e f c.if-exponent-eq255.false)
