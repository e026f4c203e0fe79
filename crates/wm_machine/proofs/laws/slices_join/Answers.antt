use Rattle.wm_machine.proofs.TakenItems.{slices_taken}
use Rattle.wm_machine.proofs.laws.slices_join.Goals as goal

pub returns : goal.returns
returns g c = slices_taken g.S.Sink.after
