use Rattle.wm_read.proofs.ModuleLaws.{law_modules}
use Rattle.wm_read.proofs.laws.modules_are_read_as_written.Goals as goal

pub returns : goal.returns
returns c = law_modules
