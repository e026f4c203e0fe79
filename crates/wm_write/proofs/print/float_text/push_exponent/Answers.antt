use Rattle.wm_write.proofs.FloatPieces.{exponent_above, exponent_below, same_piece}
use Rattle.wm_write.proofs.print.float_text.push_exponent.Goals as goal

pub returns-then-exponent-bias : goal.returns-then-exponent-bias
returns-then-exponent-bias c =
    same_piece c.args.line.now c.push_counted.new.self _ _ c.push_counted.ensures.text (exponent_below c.args.bias c.args.exponent c.if-exponent-bias.true)

pub returns-else-exponent-bias : goal.returns-else-exponent-bias
returns-else-exponent-bias c =
    same_piece c.args.line.now c.push_above.new.line _ _ c.push_above.ensures (exponent_above c.args.bias c.args.exponent c.if-exponent-bias.false)
