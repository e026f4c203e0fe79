use Rattle.wm_machine.proofs.OneFront.{one_front}
use Rattle.wm_machine.proofs.laws.one_front.Goals as goal

pub returns : goal.returns
returns c = λ p b j k h i. one_front p b j k h i
