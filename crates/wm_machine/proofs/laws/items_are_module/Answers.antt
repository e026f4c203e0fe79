use Rattle.wm_machine.proofs.OneModule.{marks_from, marks_to}
use Rattle.wm_machine.proofs.laws.items_are_module.Goals as goal

pub returns : goal.returns
returns c = record { items = marks_to; nested = marks_from }
