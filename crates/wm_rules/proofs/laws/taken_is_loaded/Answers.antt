use Rattle.wm_rules.proofs.LoadedModules.{loaded, loads}
use Rattle.wm_rules.proofs.laws.taken_is_loaded.Goals as goal

pub returns-clause-to : goal.returns-clause-to
returns-clause-to c = loaded

pub returns-clause-from : goal.returns-clause-from
returns-clause-from c = loads
