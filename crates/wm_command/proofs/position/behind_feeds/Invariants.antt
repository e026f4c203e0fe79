use Rattle.std.proofs.Common.{◌≡◌, ◌≤◌, ◌==◌, drop, false, length}
use Rattle.std.specs.List.{list_any}
use Rattle.wm_command.proofs.position.behind_feeds.Given as goal

-- No line feed follows.
abbrev pub invariant-loop-from : goal.invariant-loop-from
invariant-loop-from l = (l.from ≤ length l.before) × (list_any (λ y. y == 10) (drop l.from l.before) ≡ false)

abbrev pub decreases-loop-from : goal.decreases-loop-from
decreases-loop-from l = l.from
