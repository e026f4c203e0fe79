use Rattle.std.proofs.Common.{◌+◌, ◌<◌, ◌-◌, ◌^◌, Some, None, arith, sym, subst, refl}
use Rattle.wm_syntax.specs.declared.types.ValType.TheVariants.{I32, I64}
use Rattle.wm_syntax.specs.exact.OpShapes.{block_op}
use Rattle.wm_shortcuts.specs.exact.WholeOps.{WholeOp}
use Rattle.wm_shortcuts.proofs.OpLists.{whole_typed}
use Rattle.wm_shortcuts.proofs.whole_ops.with_type.Goals as goal
use Rattle.wm_shortcuts.proofs.whole_ops.with_type.Goals.{in-64, in-127, in-126}

pub returns : goal.returns
returns c =
    let room : c.args.depth < 2 ^ 32 - 1 = omega arith in
    subst (λ v. WholeOp c.args.bytes.now c.args.at (c.args.at + 2) c.args.depth (c.args.depth + 1) v) (sym c.op.ensures)
    (elim c.match-bytes-at.branch [
      | in-64 w ↦ subst (λ t. WholeOp c.args.bytes.now c.args.at (c.args.at + 2) c.args.depth (c.args.depth + 1) (block_op c.args.op t)) (sym w.ty-is)
          (whole_typed c.args.bytes.now c.args.at c.args.depth 0x40 c.args.op None c.requires.within room c.requires.first w.in-64.is (λ p. refl))
      | in-127 w ↦ subst (λ t. WholeOp c.args.bytes.now c.args.at (c.args.at + 2) c.args.depth (c.args.depth + 1) (block_op c.args.op t)) (sym w.ty-is)
          (whole_typed c.args.bytes.now c.args.at c.args.depth 0x7F c.args.op (Some I32) c.requires.within room c.requires.first w.in-127.is (λ p. refl))
      | in-126 w ↦ subst (λ t. WholeOp c.args.bytes.now c.args.at (c.args.at + 2) c.args.depth (c.args.depth + 1) (block_op c.args.op t)) (sym w.ty-is)
          (whole_typed c.args.bytes.now c.args.at c.args.depth 0x7E c.args.op (Some I64) c.requires.within room c.requires.first w.in-126.is (λ p. refl))
    ])
