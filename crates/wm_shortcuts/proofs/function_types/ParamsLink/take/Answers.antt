use Rattle.std.proofs.Common.{arith, refl}
use Rattle.wm_shortcuts.proofs.Completed.{first_refused, first_then}
use Rattle.wm_shortcuts.proofs.Completed.Gave.{also, nothing}
use Rattle.wm_shortcuts.proofs.FunctionTypes.{type_begun, type_formed}
use Rattle.wm_shortcuts.proofs.function_types.ParamsLink.take.Goals as goal

pub returns-in-Err : goal.returns-in-Err
returns-in-Err g c =
    let b = c.in-Some-begin_type in
    first_refused c.in-Some.ensures (type_formed c.in-Some.start b.ensures.form (omega (arith, b.ensures.within)) (omega (arith, b.ensures.section))) (omega arith) nothing c.out.ensures.used c.give_new_type.result _ c.out.ensures.refused c.in-Err.is c.give_new_type.ensures.given c.give_new_type.ensures.room

pub returns : goal.returns
returns g c =
    let b = c.in-Some-begin_type in
    first_then c.in-Some.ensures (type_begun c.in-Some.start b.begun b.ensures.form b.ensures.count.0 b.ensures.count.1 b.ensures.within b.ensures.section b.ensures.at) (omega arith) refl (also nothing c.in_default-give_new_type.ensures.given)
    c.give_params-given.ensures.advances c.after.ensures refl refl
