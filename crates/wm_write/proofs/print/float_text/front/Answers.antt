use Rattle.wm_write.proofs.FloatPieces.{minus, no_minus}
use Rattle.wm_write.proofs.print.float_text.front.Goals as goal

pub returns-then-bits-half-clause-text : goal.returns-then-bits-half-clause-text
returns-then-bits-half-clause-text c = no_minus c.args.half c.args.bits c.if-bits-half.true

pub returns-else-bits-half-clause-text : goal.returns-else-bits-half-clause-text
returns-else-bits-half-clause-text c = minus c.args.half c.args.bits c.if-bits-half.false
