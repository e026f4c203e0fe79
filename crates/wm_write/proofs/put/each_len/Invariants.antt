use Rattle.std.proofs.Common.{◌≡◌, length, take, flat_map}
use Rattle.wm_write.specs.exact.Writing.{capped}
use Rattle.wm_write.proofs.put.each_len.Given as goal

-- the bytes of the values so far
abbrev pub invariant-loop-value : goal.invariant-loop-value
invariant-loop-value g l = l.sum ≡ capped (length (flat_map g.P.Part.bytes (take l.value-index l.values)))
