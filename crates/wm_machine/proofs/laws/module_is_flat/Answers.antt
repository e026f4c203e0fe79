use Rattle.wm_machine.proofs.Nesting.{flat_from, flat_to}
use Rattle.wm_machine.proofs.laws.module_is_flat.Goals as goal

pub returns : goal.returns
returns c = record { flat = flat_to; nested = flat_from }
