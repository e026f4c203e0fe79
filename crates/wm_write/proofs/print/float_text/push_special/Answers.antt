use Rattle.wm_write.proofs.FloatPieces.{inf_text, nan_text, same_piece}
use Rattle.wm_write.proofs.print.float_text.push_special.Goals as goal

pub returns-then-payload-eq0 : goal.returns-then-payload-eq0
returns-then-payload-eq0 c = same_piece c.args.line.now c.push.new.self _ _ c.push.ensures (inf_text c.args.payload c.if-payload-eq0.true)

pub returns-else-payload-eq0 : goal.returns-else-payload-eq0
returns-else-payload-eq0 c = same_piece c.args.line.now c.push_nan.new.line _ _ c.push_nan.ensures (nan_text c.args.payload c.if-payload-eq0.false)
