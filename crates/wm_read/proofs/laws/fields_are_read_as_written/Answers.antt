use Rattle.std.proofs.Common.{◌∷◌}
use Rattle.wm_tokens.specs.Tokens.{close_paren}
use Rattle.wm_read.proofs.FieldLaws.{fields_complete, fields_sound}
use Rattle.wm_read.proofs.laws.fields_are_read_as_written.Goals as goal

pub returns-clause-read : goal.returns-clause-read
returns-clause-read c = λ p names k fields rest d e. let g = fields_sound p names d k fields rest e in (g.0, g.1, g.2.0, g.2.1)

pub returns-clause-written : goal.returns-clause-written
returns-clause-written c = λ p names fields front more d knows w of. fields_complete p names d knows fields front (close_paren ∷ more) (w, of) tt
