use Rattle.wm_rules.proofs.BuiltModules.{built}
use Rattle.wm_rules.proofs.laws.items_build_their_module.Goals as goal

pub returns : goal.returns
returns c = built
