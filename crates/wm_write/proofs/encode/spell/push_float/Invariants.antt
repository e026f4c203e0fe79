use Rattle.std.proofs.Common.{◌≡◌, ◌≤◌, ◌+◌, ◌-◌, ◌++◌, length}
use Rattle.wm_syntax.specs.Encodings.{float_bytes}
use Rattle.wm_write.proofs.encode.spell.push_float.Given as goal

-- The bytes in the batch, then the remaining bits in the remaining bytes, are the float.
abbrev pub invariant-loop : goal.invariant-loop
invariant-loop l = record {
  room : length l.batch + (l.width - l.counter) ≤ length l.fn.batch + l.width;
  spelled : l.batch ++ float_bytes (l.width - l.counter) l.rest ≡ l.fn.batch ++ float_bytes l.width l.bits;
}
