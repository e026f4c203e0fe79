use Rattle.wm_syntax.specs.inner.Codes.{held_lead}
use Rattle.wm_syntax.proofs.Places.{on, one_more, no_body}
use Rattle.wm_syntax.proofs.laws.ops_lead_on.Goals as goal

pub returns-clause-on : goal.returns-clause-on
returns-clause-on c = on

pub returns-clause-held : goal.returns-clause-held
returns-clause-held c = held_lead

pub returns-clause-taken : goal.returns-clause-taken
returns-clause-taken c = one_more

pub returns-clause-refused : goal.returns-clause-refused
returns-clause-refused c = no_body
