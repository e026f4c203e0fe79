use Rattle.wm_rules.proofs.CodeEntries.{at_hand}
use Rattle.wm_rules.proofs.laws.body_at_hand.Goals as goal

pub returns : goal.returns
returns c = at_hand
