use Rattle.wm_tokens.proofs.Whole.{one_list}
use Rattle.wm_tokens.proofs.laws.one_list_of_tokens.Goals as goal

pub returns : goal.returns
returns c = one_list
