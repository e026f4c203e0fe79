use Rattle.wm_rules.proofs.BetweenProfiles.{judged_alike}
use Rattle.wm_rules.proofs.laws.profiles_judge_alike.Goals as goal

pub returns : goal.returns
returns c = λ p r limit q input more fronts. judged_alike p r limit q input more fronts
