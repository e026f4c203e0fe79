use Rattle.std.proofs.Common.{[]}
use Rattle.wm_write.proofs.Writes.{sent_more}
use Rattle.wm_write.proofs.put.put_each.Goals as goal

pub loop-value-preserved : goal.loop-value-preserved
loop-value-preserved g c =
    sent_more g.P.Part.bytes [] c.args.values.now c.loop-value.value-index c.value-item.result _ _ _ c.loop-value-test.true c.value-item.is c.loop-value.invariant c.put.ensures
