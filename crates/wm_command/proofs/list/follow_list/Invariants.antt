use Rattle.std.proofs.Common.{◌≡◌, List, ℕ, IfSome, Some}
use Rattle.std.specs.Io.Iter.{split_byte, split_known_bytes}
use Rattle.wm_command.specs.Lists.{names_in}
use Rattle.wm_command.specs.Several.{IsRightAt}
use Rattle.wm_command.proofs.SeveralLemmas.{Reached}
use Rattle.wm_command.proofs.list.follow_list.Given as goal

-- Each file named before the rest of the list has a status that is right.
abbrev pub invariant-loop-before : goal.invariant-loop-before
invariant-loop-before g l = (split_byte l.names ≡ l.fn.end)
    × IfSome (g.B.Read.remaining l.fn.reader) (λ bytes. (rest : List ℕ) × (split_known_bytes g.B.Read.remaining l.names ≡ Some rest)
    × Reached (λ name. IsRightAt (g.O.Opens.held_at l.fn.files) l.fn.line (Some name)) (names_in l.fn.end bytes) (names_in l.fn.end rest) l.progress.worst)
