use Rattle.std.proofs.Common.{arith}
use Rattle.wm_floats.proofs.Held.{held_next}
use Rattle.wm_floats.proofs.Underscores.{plain_byte}
use Rattle.wm_floats.proofs.digits.held.Goals as goal

pub one_held-n-requires-clause-digit : goal.one_held-n-requires-clause-digit
one_held-n-requires-clause-digit c = plain_byte c.args.base c.args.text.now c.loop-byte.byte-index c.requires.digits c.loop-byte-test.true

pub loop-byte-preserved : goal.loop-byte-preserved
loop-byte-preserved c = (
  held_next c.args.base c.args.text.now c.loop-byte.byte-index c.loop-byte.n c.one_held-n.result (omega (arith, c.requires.base.0)) c.loop-byte-test.true c.loop-byte.invariant.0 c.one_held-n.ensures.value,
  c.one_held-n.ensures.small,
)
