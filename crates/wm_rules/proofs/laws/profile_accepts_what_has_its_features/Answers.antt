use Rattle.wm_rules.proofs.BetweenProfiles.{accepted_by_items, accepted_with_items}
use Rattle.wm_rules.proofs.laws.profile_accepts_what_has_its_features.Goals as goal

pub returns-clause-more : goal.returns-clause-more
returns-clause-more c = λ p r limit q bytes more a. accepted_with_items p r limit q bytes more a

pub returns-clause-less : goal.returns-clause-less
returns-clause-less c = λ p r limit q bytes more alike fronts b v is spelled own. accepted_by_items p r limit q bytes more alike fronts b v is spelled own
