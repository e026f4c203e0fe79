use Rattle.wm_machine.proofs.OneFlat.{one_flat}
use Rattle.wm_machine.proofs.OneModule.{module_of_parts}
use Rattle.wm_machine.proofs.laws.items_determine_module.Goals as goal

pub returns : goal.returns
returns c = record { flat = one_flat; nested = module_of_parts }
