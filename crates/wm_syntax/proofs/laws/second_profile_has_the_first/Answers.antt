use Rattle.wm_syntax.specs.Profiles.{one, two}
use Rattle.wm_syntax.proofs.ProfileLaws.{extends_one, is_of_more, op_of_more}
use Rattle.wm_syntax.proofs.laws.second_profile_has_the_first.Goals as goal

pub returns : goal.returns
returns c = record { ops = op_of_more one two (extends_one two); modules = is_of_more one two (extends_one two) }
