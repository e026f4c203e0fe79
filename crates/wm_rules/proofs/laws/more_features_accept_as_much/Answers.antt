use Rattle.wm_rules.proofs.MoreFeatures.{accepted_more}
use Rattle.wm_rules.proofs.laws.more_features_accept_as_much.Goals as goal

pub returns : goal.returns
returns c = accepted_more
