use Rattle.wm_syntax.specs.Profiles.{four, three, two}
use Rattle.wm_syntax.proofs.ProfileLaws.{four_extends_three, four_extends_two}
use Rattle.wm_rules.proofs.MoreFeatures.{accepted_more}
use Rattle.wm_rules.proofs.laws.fourth_profile_accepts_the_others.Goals as goal

pub returns-clause-second : goal.returns-clause-second
returns-clause-second c = λ limit q bytes a. accepted_more two four limit q bytes four_extends_two a

pub returns-clause-third : goal.returns-clause-third
returns-clause-third c = λ limit q bytes a. accepted_more three four limit q bytes four_extends_three a
