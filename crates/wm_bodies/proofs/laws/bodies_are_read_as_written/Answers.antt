use Rattle.wm_bodies.proofs.BodyTheorem.{law_read, law_written}
use Rattle.wm_bodies.proofs.laws.bodies_are_read_as_written.Goals as goal

pub returns-clause-read : goal.returns-clause-read
returns-clause-read c = law_read

pub returns-clause-written : goal.returns-clause-written
returns-clause-written c = law_written
