use Rattle.wm_read.proofs.OlderWords.{standard_stays}
use Rattle.wm_read.proofs.laws.standard_words_stay.Goals as goal

pub returns : goal.returns
returns c = standard_stays
