use Rattle.wm_write.proofs.FloatPieces.{same_piece, small_text, zero_text}
use Rattle.wm_write.proofs.print.float_text.push_small.Goals as goal

pub returns-then-n-eq0 : goal.returns-then-n-eq0
returns-then-n-eq0 c = same_piece c.args.line.now c.push.new.self _ _ c.push.ensures (zero_text c.args.n c.args.bias c.if-n-eq0.true)

pub returns-else-n-eq0 : goal.returns-else-n-eq0
returns-else-n-eq0 c = same_piece c.args.line.now c.push_scaled.new.line _ _ c.push_scaled.ensures (small_text c.args.n c.args.bias c.if-n-eq0.false)
