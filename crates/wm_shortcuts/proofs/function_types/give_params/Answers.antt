use Rattle.std.proofs.Common.{◌≡◌, suc, ◌-◌, arith, refl, sym, ◌∙◌}
use Rattle.wm_shortcuts.proofs.Completed.{none_yet, ok, then_refused, then_taken}
use Rattle.wm_shortcuts.proofs.Completed.Gave.{nothing}
use Rattle.wm_shortcuts.proofs.FunctionTypes.{param_completes, params_start}
use Rattle.wm_shortcuts.proofs.function_types.give_params.Goals as goal

pub loop-params-init : goal.loop-params-init
loop-params-init g c = record {
  within = omega arith;
  section = omega arith;
  advanced = none_yet (params_start c.args.start);
}

pub returns-in-Err-clause-advances : goal.returns-in-Err-clause-advances
returns-in-Err-clause-advances g c =
    let l = c.loop-params in
    let one : l.params ≡ suc (l.params - 1) = omega arith in
    then_refused refl l.invariant.advanced (param_completes c.args.start l.used one (sym c.value_type.ensures ∙ c.in-Ok.is) (omega arith) (omega arith)) (omega arith) nothing refl c.give_param.result _ refl c.in-Err.is c.give_param.ensures.given c.give_param.ensures.room

pub loop-params-preserved : goal.loop-params-preserved
loop-params-preserved g c =
    let l = c.loop-params in
    let one : l.params ≡ suc (l.params - 1) = omega arith in
    record {
      within = omega arith;
      section = omega arith;
      advanced = then_taken refl l.invariant.advanced (param_completes c.args.start l.used one (sym c.value_type.ensures ∙ c.in-Ok.is) (omega arith) (omega arith)) (omega arith) nothing refl ok _ refl refl c.in_default-give_param.ensures.given tt;
    }
