use Rattle.std.proofs.Common.{arith, refl, ◌∙◌}
use Rattle.wm_shortcuts.proofs.Completed.{first_taken, why_given}
use Rattle.wm_shortcuts.proofs.Completed.Gave.{nothing}
use Rattle.wm_shortcuts.proofs.EntryEnds.{entry_ends}
use Rattle.wm_shortcuts.proofs.code_entries.LastEndLink.take.Goals as goal

pub returns : goal.returns
returns g c =
    first_taken c.in-Some.ensures (entry_ends c.in-Some.body (omega arith) (omega arith) (omega arith) (omega arith) c.in-Code.is (omega arith) (omega arith)) (omega arith) nothing refl c.give_end.result _ c.next.ensures (c.err-refused.ensures.value ∙ why_given c.give_end.result c.next.ensures refl) c.give_end.ensures.given c.give_end.ensures.room
