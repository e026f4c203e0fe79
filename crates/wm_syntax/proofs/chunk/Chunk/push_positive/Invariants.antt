use Rattle.std.proofs.Common.{◌≡◌, ◌≤◌, ◌+◌, ◌-◌, ◌++◌, length, pos}
use Rattle.wm_syntax.specs.Leb128.{signed_bytes}
use Rattle.wm_syntax.proofs.chunk.Chunk.push_positive.Given as goal

-- The bytes written so far and those of the remaining number are the whole encoding.
abbrev pub invariant-loop : goal.invariant-loop
invariant-loop l = record {
  room : length l.self + (l.most - l.counter) ≤ 16;
  spelled : l.self ++ signed_bytes (l.most - l.counter) (pos l.rest) ≡ l.fn.self ++ signed_bytes l.most (pos l.value);
}
