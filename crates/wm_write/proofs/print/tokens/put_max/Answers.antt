use Rattle.std.proofs.Common.{ap}
use Rattle.wm_write.specs.Layout.{max_words}
use Rattle.wm_write.proofs.PrintedWords.{sent_nothing_more}
use Rattle.wm_write.proofs.print.tokens.put_max.Goals as goal

pub returns-in-None : goal.returns-in-None
returns-in-None g c = sent_nothing_more _ _ (ap max_words c.in-None.is)
