use Rattle.std.proofs.Common.{arith, refl, ◌∙◌}
use Rattle.wm_shortcuts.proofs.Completed.{first_taken, why_given}
use Rattle.wm_shortcuts.proofs.Completed.Gave.{nothing}
use Rattle.wm_shortcuts.proofs.FunctionTypes.{no_result}
use Rattle.wm_shortcuts.proofs.function_types.ResultsLink.take.Goals as goal

pub returns-then-count-eq0 : goal.returns-then-count-eq0
returns-then-count-eq0 g c =
    first_taken c.in-Some.ensures (no_result c.in-Some.start (omega arith) (omega arith) (omega arith) (omega arith)) (omega arith) nothing refl c.give_result_count.result _ c.next.ensures (c.err-refused.ensures.value ∙ why_given c.give_result_count.result c.next.ensures refl) c.give_result_count.ensures.given c.give_result_count.ensures.room
