use Rattle.wm_write.proofs.FloatPieces.{least_text, normal_text, same_piece}
use Rattle.wm_write.proofs.print.float_text.push_finite.Goals as goal

pub returns-then-exponent-eq0 : goal.returns-then-exponent-eq0
returns-then-exponent-eq0 c =
    same_piece c.args.line.now c.push_small.new.line _ _ c.push_small.ensures (least_text c.args.n c.args.bias c.args.exponent c.if-exponent-eq0.true)

pub returns-else-exponent-eq0 : goal.returns-else-exponent-eq0
returns-else-exponent-eq0 c =
    same_piece c.args.line.now c.push_scaled.new.line _ _ c.push_scaled.ensures (normal_text c.args.n c.args.bias c.args.exponent c.if-exponent-eq0.false)
