use Rattle.wm_syntax.proofs.FloatBytes.{float_one, float_range, float_spells, same_float}
use Rattle.wm_syntax.proofs.laws.one_spelling_one_float.Goals as goal

pub returns : goal.returns
returns c = record { spells = float_spells; range = float_range; one = float_one; same = same_float }
