use Rattle.std.proofs.Common.{arith}
use Rattle.wm_shortcuts.proofs.Completed.{first_taken}
use Rattle.wm_shortcuts.proofs.Completed.Gave.{nothing}
use Rattle.wm_shortcuts.proofs.EntryEnds.{entry_over}
use Rattle.wm_shortcuts.proofs.code_entries.final_end.Goals as goal

pub returns : goal.returns
returns g c =
    first_taken c.in-Some.ensures (entry_over c.in-Some.last (omega arith) (omega arith) (omega arith) (omega arith)) (omega arith) nothing c.ended.ensures.used c.give_end-given.result _ c.framed.ensures c.ended.ensures.refused c.give_end-given.ensures.given c.give_end-given.ensures.room
