use Rattle.wm_syntax.proofs.Places.{leads, led}
use Rattle.wm_syntax.proofs.laws.ops_lead_to_their_body.Goals as goal

pub returns-clause-leads : goal.returns-clause-leads
returns-clause-leads c = leads

pub returns-clause-led : goal.returns-clause-led
returns-clause-led c = led
