use Rattle.std.proofs.Common.{◌≡◌, ◌≤◌, filter, length, take}
use Rattle.wm_command.proofs.position.count_in.Given as goal

-- The count is that of the bytes before this one.
abbrev pub invariant-loop-byte : goal.invariant-loop-byte
invariant-loop-byte g l = (l.count ≡ length (filter g.K.Kind.holds (take l.byte-index l.span))) × (l.count ≤ l.byte-index)
