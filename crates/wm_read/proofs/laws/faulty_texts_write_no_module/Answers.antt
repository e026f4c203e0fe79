use Rattle.wm_read.proofs.FaultyTexts.{no_module}
use Rattle.wm_read.proofs.laws.faulty_texts_write_no_module.Goals as goal

pub returns : goal.returns
returns c = no_module
