use Rattle.std.proofs.Common.{arith}
use Rattle.wm_shortcuts.proofs.OpLists.{under_float_64}
use Rattle.wm_shortcuts.proofs.whole_ops.float_64.Goals as goal

pub returns : goal.returns
returns c =
    under_float_64 c.args.profile c.args.bytes.now c.args.at c.args.depth c.push_64-one.result c.push_64-two.result c.push_64-three.result c.push_64-four.result
    c.push_64-five.result c.push_64-six.result c.push_64-seven.result c.push_64-bits.result (omega arith) c.requires.class c.push_64-one.ensures c.push_64-two.ensures c.push_64-three.ensures
    c.push_64-four.ensures c.push_64-five.ensures c.push_64-six.ensures c.push_64-seven.ensures c.push_64-bits.ensures
