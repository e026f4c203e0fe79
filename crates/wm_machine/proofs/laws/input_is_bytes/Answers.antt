use Rattle.wm_machine.proofs.SpelledBytes.{spelled_bytes, whole_bytes}
use Rattle.wm_machine.proofs.laws.input_is_bytes.Goals as goal

pub returns : goal.returns
returns c = record { whole = whole_bytes; spelled = spelled_bytes }
