use Rattle.wm_syntax.proofs.SpelledRanges.{instructions_range}
use Rattle.wm_syntax.proofs.Spellings.{signed_range, unsigned_range}
use Rattle.wm_syntax.proofs.laws.spelled_is_in_range.Goals as goal

pub returns : goal.returns
returns c = record { unsigned = unsigned_range; signed = signed_range; instructions = instructions_range }
