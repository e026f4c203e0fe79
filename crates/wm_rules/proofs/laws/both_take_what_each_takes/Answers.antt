use Rattle.wm_rules.proofs.BothSinks.{each, together}
use Rattle.wm_rules.proofs.laws.both_take_what_each_takes.Goals as goal

pub returns-clause-each : goal.returns-clause-each
returns-clause-each g c = λ a d b e items t. each g.A.Sink.after g.B.Sink.after a d b e items t

pub returns-clause-together : goal.returns-clause-together
returns-clause-together g c = λ a d b e items t u. together g.A.Sink.after g.B.Sink.after a d b e items t u
