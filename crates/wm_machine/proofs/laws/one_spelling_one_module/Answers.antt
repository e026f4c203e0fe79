use Rattle.wm_machine.proofs.OneSpelling.{one_spelling}
use Rattle.wm_machine.proofs.laws.one_spelling_one_module.Goals as goal

pub returns : goal.returns
returns c = one_spelling
