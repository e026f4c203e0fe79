use Rattle.std.proofs.Common.{arith}
use Rattle.wm_shortcuts.proofs.Completed.{first_refused, first_taken}
use Rattle.wm_shortcuts.proofs.Completed.Gave.{also, nothing}
use Rattle.wm_shortcuts.proofs.FunctionTypes.{one_counted, result_over}
use Rattle.wm_shortcuts.proofs.function_types.last_result.Goals as goal

pub returns-in-Err : goal.returns-in-Err
returns-in-Err g c =
    first_refused c.requires.machine (one_counted c.args.start c.requires.count (omega (arith, c.requires.within)) c.requires.section) (omega arith) nothing c.out.ensures.used c.give_result_count.result _ c.out.ensures.refused c.in-Err.is c.give_result_count.ensures.given c.give_result_count.ensures.room

pub returns : goal.returns
returns g c =
    first_taken c.requires.machine (result_over c.args.start c.requires.count c.requires.typed c.requires.within c.requires.section) (omega arith) (also nothing c.in_default.ensures.given) c.ended.ensures.used c.give_result-given.result _ c.over.ensures c.ended.ensures.refused c.give_result-given.ensures.given c.give_result-given.ensures.room
