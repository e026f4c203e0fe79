use Rattle.wm_syntax.proofs.ProfileLaws.{module_of_every}
use Rattle.wm_machine.proofs.laws.all_features_have_all.Goals as goal

pub returns : goal.returns
returns c = module_of_every
