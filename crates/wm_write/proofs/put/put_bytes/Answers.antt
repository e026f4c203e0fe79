use Rattle.std.proofs.Common.{◌∙◌, sym}
use Rattle.wm_write.proofs.Writes.{sent_nothing, sent_all, sent_some}
use Rattle.wm_write.proofs.put.put_bytes.Goals as goal

pub returns-then-failed : goal.returns-then-failed
returns-then-failed g c = sent_nothing _ _ _ _ (sym c.if-failed.ensures)

pub returns-in-Ok : goal.returns-in-Ok
returns-in-Ok g c = sent_all _ _ _ _ _ _ _ (sym c.failed.ensures ∙ c.if-failed.false) c.in-Ok.ensures.failed c.in-Ok.ensures.written c.saturating_add.ensures

pub returns-in-Err : goal.returns-in-Err
returns-in-Err g c =
    sent_some _ c.in-Err.count _ _ _ _ _ _ (sym c.failed.ensures ∙ c.if-failed.false) c.in-Err.ensures.failed c.in-Err.ensures.beginning.0 c.in-Err.ensures.beginning.1 c.saturating_add-in-Err.ensures
