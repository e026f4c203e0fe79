use Rattle.wm_write.specs.Layout.{module_words}
use Rattle.wm_write.specs.inner.Printed.{tokens}
use Rattle.wm_write.proofs.PrintedTexts.{printed_writes}
use Rattle.wm_write.proofs.laws.printed_texts_write_their_modules.Goals as goal

pub returns : goal.returns
returns c = λ p limit q b m loads. let h = printed_writes p limit q b m loads in (tokens (module_words m), h.0, h.1)
