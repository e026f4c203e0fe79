use Rattle.std.proofs.Common.{slice_range}
use Rattle.wm_syntax.specs.exact.Reading.{fresh, signed_push}
use Rattle.wm_shortcuts.proofs.WholeNumbers.{Stands}
use Rattle.wm_shortcuts.proofs.whole_numbers.long_s64.Given as goal

abbrev pub invariant-loop-i : goal.invariant-loop-i
invariant-loop-i l = Stands (signed_push 64) fresh (slice_range l.bytes l.at l.i) l.number
