use Rattle.wm_write.proofs.Writes.{sent_sized}
use Rattle.wm_write.proofs.encode.code.put_code.Goals as goal

pub returns : goal.returns
returns g c = sent_sized c.len.result _ _ _ _ c.len.ensures c.requires c.put_number.ensures c.put.ensures
