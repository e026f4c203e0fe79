use Rattle.std.proofs.Common.{◌+◌, arith, sym, subst}
use Rattle.wm_shortcuts.specs.exact.WholeOps.{WholeOp}
use Rattle.wm_shortcuts.proofs.OpLists.{whole_memory}
use Rattle.wm_shortcuts.proofs.whole_ops.memory.Goals as goal

pub returns : goal.returns
returns c =
    subst (λ v. WholeOp c.args.bytes.now c.args.at (c.args.at + 2) c.args.depth c.args.depth v) (sym c.op.ensures)
    (whole_memory c.args.bytes.now c.args.at c.args.depth c.args.op c.requires.within c.requires.first (omega arith))
