use Rattle.wm_bodies.proofs.BodyTheorem.{law_one}
use Rattle.wm_bodies.proofs.laws.one_body.Goals as goal

pub returns : goal.returns
returns c = law_one
