use Rattle.wm_tokens.proofs.Places.{nothing_begins}
use Rattle.wm_tokens.proofs.laws.faults_begin_no_token.Goals as goal

pub returns : goal.returns
returns c = nothing_begins
