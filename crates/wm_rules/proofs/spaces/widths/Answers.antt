-- One more type.
use Rattle.std.proofs.Common.{◌<◌, length, arith}
use Rattle.wm_rules.proofs.LastTypes.{one_width_more}
use Rattle.wm_rules.proofs.spaces.widths.Goals as goal

pub loop-index-preserved : goal.loop-index-preserved
loop-index-preserved c =
    let l : c.loop-index.index < length c.args.types.now = omega (arith, c.loop-index-test.true, c.len-index-end.ensures) in
    one_width_more c.args.types.now c.loop-index.index c.loop-index.sum c.width_at.result c.saturating_add-sum.result l c.loop-index.invariant c.width_at.ensures c.saturating_add-sum.ensures
