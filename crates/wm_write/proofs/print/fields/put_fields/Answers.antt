use Rattle.std.proofs.Common.{arith}
use Rattle.wm_write.proofs.PrintedWords.{sent_numbered}
use Rattle.wm_write.proofs.Writes.{sent_none}
use Rattle.wm_write.proofs.print.fields.put_fields.Goals as goal

pub loop-value-init : goal.loop-value-init
loop-value-init g c = record { place = omega (arith, c.from-place.ensures); sent = sent_none _ }

pub loop-value-preserved : goal.loop-value-preserved
loop-value-preserved g c = record {
  place = omega arith;
  sent =
      sent_numbered g.F.Field.words c.args.first c.args.values.now c.loop-value.value-index c.loop-value.place c.value-item.result _ _ _ c.loop-value-test.true
      c.value-item.is c.loop-value.invariant.place c.loop-value.invariant.sent c.put.ensures;
}
