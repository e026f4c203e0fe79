use Rattle.std.proofs.Common.{ap, sym}
use Rattle.wm_write.specs.Canon.{offset_bytes}
use Rattle.wm_write.proofs.PrintedWords.{sent_same}
use Rattle.wm_write.proofs.Writes.{sent_none}
use Rattle.wm_write.proofs.encode.parts.put_offset.Goals as goal

pub returns-in-Passive : goal.returns-in-Passive
returns-in-Passive g c = sent_same _ _ _ _ (sym (ap offset_bytes c.in-Passive.is)) (sent_none _)
