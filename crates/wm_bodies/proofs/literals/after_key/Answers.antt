use Rattle.std.proofs.lemmas.Slice.Eq.{strip_prefix_is}
use Rattle.std.proofs.lemmas.Bool.Decides.{Decides-eqb}
use Rattle.wm_bodies.proofs.Numbers.{key_cases}
use Rattle.wm_bodies.proofs.literals.after_key.Goals as goal

pub returns : goal.returns
returns c = key_cases c.args.key.now c.args.atom.now c.strip_prefix.result (strip_prefix_is Decides-eqb c.args.atom.now c.args.key.now c.strip_prefix.result c.strip_prefix.ensures.cases)
