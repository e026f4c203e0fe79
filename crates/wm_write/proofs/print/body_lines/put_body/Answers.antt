use Rattle.wm_write.specs.Layout.{op_words}
use Rattle.wm_write.proofs.PrintedWords.{sent_next}
use Rattle.wm_write.proofs.Writes.{sent_none}
use Rattle.wm_write.proofs.print.body_lines.put_body.Goals as goal

pub loop-op-init : goal.loop-op-init
loop-op-init g c = sent_none _

pub loop-op-preserved : goal.loop-op-preserved
loop-op-preserved g c = sent_next op_words c.args.ops.now c.loop-op.op-index _ _ _ _ c.loop-op-test.true c.loop-op.invariant c.put_op.ensures
