use Rattle.wm_rules.proofs.LastLemmas.{result_types}
use Rattle.wm_rules.proofs.spaces.Spaces.add_result.Goals as goal

pub invariant_of-self : goal.invariant_of-self
invariant_of-self c = record {
  typed = result_types c.args.ty _ _ _ c.add_result.result c.add_result.ensures.taken c.add_result.ensures.err c.self.invariant.typed;
  bodies_fit = c.self.invariant.bodies_fit;
  globals_fit = c.self.invariant.globals_fit;
}
