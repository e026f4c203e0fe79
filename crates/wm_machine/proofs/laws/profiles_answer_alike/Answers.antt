use Rattle.wm_machine.proofs.BetweenProfiles.{answers_apart}
use Rattle.wm_machine.proofs.laws.profiles_answer_alike.Goals as goal

pub returns : goal.returns
returns g c = λ p q limit first input more fronts. answers_apart p q more fronts g.S.Sink.after limit first input
