use Rattle.std.proofs.Common.{sym}
use Rattle.wm_write.proofs.PrintedWords.{sent_same}
use Rattle.wm_write.proofs.Writes.{sent_none}
use Rattle.wm_write.proofs.encode.parts.put_element_kind.Goals as goal

pub returns-else-has_element_kind : goal.returns-else-has_element_kind
returns-else-has_element_kind g c = sent_same _ _ _ _ (sym c.if-has_element_kind.ensures) (sent_none _)
