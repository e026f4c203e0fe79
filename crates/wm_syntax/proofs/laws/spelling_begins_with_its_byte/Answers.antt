use Rattle.wm_syntax.proofs.OneInstruction.{apart_op}
use Rattle.wm_syntax.proofs.SpelledRanges.{begins_behind, begins_with}
use Rattle.std.proofs.Common.{refl}
use Rattle.wm_syntax.proofs.laws.spelling_begins_with_its_byte.Goals as goal

pub returns : goal.returns
returns c = record { byte = begins_with; prefix = begins_behind; apart = λ o e. apart_op o 0xFC e refl }
