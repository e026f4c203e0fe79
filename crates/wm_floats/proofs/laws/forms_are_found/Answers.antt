use Rattle.wm_floats.proofs.Written.{form_found, form_more}
use Rattle.wm_floats.proofs.laws.forms_are_found.Goals as goal

pub returns : goal.returns
returns c a = (form_found a, form_more a)
