use Rattle.wm_rules.proofs.LastLemmas.{param_types}
use Rattle.wm_rules.proofs.spaces.Spaces.add_param.Goals as goal

pub invariant_of-self : goal.invariant_of-self
invariant_of-self c = record {
  typed = param_types c.args.ty _ _ _ c.add_param.result c.add_param.ensures.taken c.add_param.ensures.err c.self.invariant.typed;
  bodies_fit = c.self.invariant.bodies_fit;
  globals_fit = c.self.invariant.globals_fit;
}
