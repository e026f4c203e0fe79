use Rattle.std.proofs.Common.{arith, refl, ◌∙◌}
use Rattle.wm_shortcuts.proofs.Completed.{first_refused, first_taken, why_given}
use Rattle.wm_shortcuts.proofs.Completed.Gave.{also, nothing}
use Rattle.wm_shortcuts.proofs.FunctionTypes.{one_counted, one_result}
use Rattle.wm_shortcuts.proofs.function_types.one_result.Goals as goal

pub returns-in-Err : goal.returns-in-Err
returns-in-Err g c =
    first_refused c.requires.machine (one_counted c.args.start c.requires.count (omega (arith, c.requires.within)) (omega (arith, c.requires.section))) (omega arith) nothing c.out.ensures.used c.give_result_count.result _ c.out.ensures.refused c.in-Err.is c.give_result_count.ensures.given c.give_result_count.ensures.room

pub returns : goal.returns
returns g c =
    first_taken c.requires.machine (one_result c.args.start c.requires.count c.requires.typed c.requires.within c.requires.section c.requires.types) (omega arith) (also nothing c.in_default.ensures.given) refl c.give_result.result _ c.next.ensures (c.err-refused.ensures.value ∙ why_given c.give_result.result c.next.ensures refl) c.give_result.ensures.given c.give_result.ensures.room
