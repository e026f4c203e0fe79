use Rattle.wm_machine.proofs.Nesting.{spells_more}
use Rattle.wm_machine.proofs.laws.more_features_spell_as_much.Goals as goal

pub returns : goal.returns
returns c = λ p q m b more elements segments h. spells_more p q more m b elements segments h
