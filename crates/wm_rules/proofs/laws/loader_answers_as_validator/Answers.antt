use Rattle.wm_rules.proofs.SameAnswers.{same_answer}
use Rattle.wm_rules.proofs.laws.loader_answers_as_validator.Goals as goal

pub returns : goal.returns
returns c = same_answer
