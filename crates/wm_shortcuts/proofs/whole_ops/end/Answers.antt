use Rattle.std.proofs.Common.{arith}
use Rattle.wm_shortcuts.proofs.OpLists.{under_end}
use Rattle.wm_shortcuts.proofs.whole_ops.end.Goals as goal

pub returns : goal.returns
returns c = under_end c.args.here.profile.now c.args.here.bytes.now c.args.here.at c.args.here.depth c.requires.within c.requires.class (omega arith)
