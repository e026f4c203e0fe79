use Rattle.wm_read.proofs.ModuleLaws.{one_module as law}
use Rattle.wm_read.proofs.laws.one_module.Goals as goal

pub returns : goal.returns
returns c = law
