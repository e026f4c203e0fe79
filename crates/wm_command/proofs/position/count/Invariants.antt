use Rattle.std.proofs.Common.{◌≡◌, ◌≤◌, ◌+◌, filter, length}
use Rattle.wm_command.proofs.position.count.Given as goal

-- With the bytes to come, the sum is that of all bytes.
abbrev pub invariant-loop-rest : goal.invariant-loop-rest
invariant-loop-rest g l = (l.sum + length (filter g.K.Kind.holds l.rest) ≡ length (filter g.K.Kind.holds l.bytes))
    × (l.sum + length l.rest ≤ length l.bytes)

abbrev pub decreases-loop-rest : goal.decreases-loop-rest
decreases-loop-rest g l = length l.rest
