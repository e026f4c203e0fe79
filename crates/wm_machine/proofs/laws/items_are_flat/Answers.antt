use Rattle.wm_machine.proofs.GrammarValues.{items_from, items_to}
use Rattle.wm_machine.proofs.laws.items_are_flat.Goals as goal

pub returns : goal.returns
returns c = record { read = items_to; spelled = items_from }
