use Rattle.std.proofs.Common.{Some, drop, map}
use Rattle.wm_command.specs.Several.{IsRightAt}
use Rattle.wm_command.proofs.SeveralLemmas.{Reached}
use Rattle.wm_command.proofs.several.execute_each.Given as goal

-- Each file before this one has a status that is right.
abbrev pub invariant-loop-name : goal.invariant-loop-name
invariant-loop-name g l =
    let all = map (λ s. s.now) l.fn.names in Reached (λ name. IsRightAt (g.O.Opens.held_at l.fn.files) l.fn.line (Some name)) all (drop l.name-index all) l.progress.worst
