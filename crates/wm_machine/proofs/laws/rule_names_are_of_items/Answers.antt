use Rattle.wm_machine.proofs.RefusedItems.{whole_input}
use Rattle.wm_machine.proofs.laws.rule_names_are_of_items.Goals as goal

pub returns : goal.returns
returns g c = λ s input r bytes i e. whole_input g.S.Sink.after s input r bytes i e
