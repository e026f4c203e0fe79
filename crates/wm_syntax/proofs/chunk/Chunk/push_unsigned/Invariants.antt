use Rattle.std.proofs.Common.{◌≡◌, ◌≤◌, ◌+◌, ◌-◌, ◌++◌, length}
use Rattle.wm_syntax.specs.Leb128.{unsigned_bytes}
use Rattle.wm_syntax.proofs.chunk.Chunk.push_unsigned.Given as goal

-- The bytes written so far and those of the remaining number are the whole encoding.
abbrev pub invariant-loop : goal.invariant-loop
invariant-loop l = record {
  room : length l.self + (l.most - l.counter) ≤ 16;
  spelled : l.self ++ unsigned_bytes (l.most - l.counter) l.rest ≡ l.fn.self ++ unsigned_bytes l.most l.value;
}
