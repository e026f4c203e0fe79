use Rattle.std.proofs.Common.{sym, ◌∙◌}
use Rattle.wm_write.proofs.PrintedWords.{sent_again, sent_by_then}
use Rattle.wm_write.proofs.Writes.{sent_none}
use Rattle.wm_write.proofs.print.tokens.put_run.Goals as goal

pub loop-init : goal.loop-init
loop-init g c = sent_none _

pub loop-preserved : goal.loop-preserved
loop-preserved g c = sent_again _ _ _ _ _ c.loop.invariant c.put.ensures

pub returns-then-failed : goal.returns-then-failed
returns-then-failed g c = sent_by_then _ _ _ _ _ _ _ (sym c.failed.ensures ∙ c.if-failed.true) c.loop-test.true c.loop.invariant
