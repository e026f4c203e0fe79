use Rattle.std.proofs.Common.{◌≡◌, ◌+◌, ◌-◌, length, pos}
use Rattle.wm_syntax.specs.Leb128.{signed_bytes}
use Rattle.wm_syntax.proofs.numbers.lengths.positive_len.Given as goal

-- The bytes counted so far and those of the remaining number are as many as the whole encoding has.
abbrev pub invariant-loop-before : goal.invariant-loop-before
invariant-loop-before l = l.before + length (signed_bytes (l.most - l.before) (pos l.rest)) ≡ length (signed_bytes l.most (pos l.value))
