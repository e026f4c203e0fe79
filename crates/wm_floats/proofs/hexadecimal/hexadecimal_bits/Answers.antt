use Rattle.std.proofs.Common.{arith}
use Rattle.wm_floats.specs.inner.Parts.{parts_of}
use Rattle.wm_floats.proofs.Far.{near}
use Rattle.wm_floats.proofs.hexadecimal.hexadecimal_bits.Goals as goal

pub returns : goal.returns
returns c =
    near c.args.width (parts_of c.args.number) c.held-size.result c.up_and_down-up.result.0 c.up_and_down-up.result.1 c.nearest_hexadecimal.result c.held-size.ensures
    (omega (arith, c.if-size-ge-HELD.false)) c.up_and_down-up.ensures.up c.up_and_down-up.ensures.down c.nearest_hexadecimal.ensures
