use Rattle.wm_rules.proofs.Weights.{kept_weight}
use Rattle.wm_rules.proofs.laws.kept_is_the_weight_of_the_items.Goals as goal

pub returns : goal.returns
returns c = kept_weight
