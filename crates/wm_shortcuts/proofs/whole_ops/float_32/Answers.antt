use Rattle.std.proofs.Common.{arith}
use Rattle.wm_shortcuts.proofs.OpLists.{under_float_32}
use Rattle.wm_shortcuts.proofs.whole_ops.float_32.Goals as goal

pub returns : goal.returns
returns c =
    under_float_32 c.args.profile c.args.bytes.now c.args.at c.args.depth c.push_32-one.result c.push_32-two.result c.push_32-three.result c.push_32-bits.result (omega arith) c.requires.class
    c.push_32-one.ensures c.push_32-two.ensures c.push_32-three.ensures c.push_32-bits.ensures
