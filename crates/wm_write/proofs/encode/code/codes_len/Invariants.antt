use Rattle.std.proofs.Common.{◌≡◌, ◌+◌, length, take, flat_map}
use Rattle.wm_write.specs.Canon.{code_bytes, u32_bytes}
use Rattle.wm_write.specs.exact.Writing.{capped}
use Rattle.wm_write.proofs.encode.code.codes_len.Given as goal

-- the bytes of the count and of the functions so far
abbrev pub invariant-loop-function : goal.invariant-loop-function
invariant-loop-function l = l.sum ≡ capped (length (u32_bytes (length l.functions)) + length (flat_map code_bytes (take l.function-index l.functions)))
