use Rattle.wm_write.proofs.Writes.{sent_then}
use Rattle.wm_write.proofs.print.tokens.put_string.Goals as goal

pub returns : goal.returns
returns g c = sent_then _ _ _ _ _ c.put_bytes.ensures (sent_then _ _ _ _ _ c.put_each.ensures c.put_bytes-2.ensures)
