use Rattle.std.proofs.Common.{sym, ◌∙◌}
use Rattle.wm_machine.proofs.SpelledBytes.{whole_bytes}
use Rattle.wm_machine.proofs.MachineAndSink.{items_are}
use Rattle.wm_machine.proofs.laws.one_reading.Goals as goal

pub returns : goal.returns
returns c = λ p b j k i h. let bytes = whole_bytes p b j i in (items_are p b j bytes i).0 ∙ sym (items_are p b k bytes h).0
