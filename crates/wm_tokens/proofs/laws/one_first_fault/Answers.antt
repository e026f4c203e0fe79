use Rattle.wm_tokens.proofs.Places.{one_fault, no_tokens}
use Rattle.wm_tokens.proofs.laws.one_first_fault.Goals as goal

pub returns-clause-one : goal.returns-clause-one
returns-clause-one c = one_fault

pub returns-clause-none : goal.returns-clause-none
returns-clause-none c = no_tokens
