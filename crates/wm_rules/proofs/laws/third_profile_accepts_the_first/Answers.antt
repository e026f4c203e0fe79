use Rattle.wm_syntax.specs.Profiles.{one, three}
use Rattle.wm_syntax.proofs.ProfileLaws.{extends_one}
use Rattle.wm_rules.proofs.MoreFeatures.{accepted_more}
use Rattle.wm_rules.proofs.laws.third_profile_accepts_the_first.Goals as goal

pub returns : goal.returns
returns c = λ limit q bytes a. accepted_more one three limit q bytes (extends_one three) a
