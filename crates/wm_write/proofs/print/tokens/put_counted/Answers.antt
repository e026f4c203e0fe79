use Rattle.std.proofs.Common.{◌∙◌}
use Rattle.wm_write.proofs.PrintedWords.{sent_same}
use Rattle.wm_write.proofs.Writes.{sent_then}
use Rattle.wm_write.proofs.print.tokens.put_counted.Goals as goal

pub returns : goal.returns
returns g c = sent_then _ _ _ _ _ c.put_bytes.ensures (sent_same _ _ _ _ (c.as_bytes.ensures.value ∙ c.format.ensures.text) c.put_bytes-2.ensures)
