use Rattle.std.proofs.Common.{◌≡◌, ◌+◌, length, take, flat_map}
use Rattle.wm_syntax.specs.Runs.{runs_of}
use Rattle.wm_write.specs.Canon.{run_bytes, u32_bytes}
use Rattle.wm_write.specs.exact.Writing.{capped}
use Rattle.wm_write.proofs.encode.code.runs_len.Given as goal

-- the bytes of the count and of the runs so far
abbrev pub invariant-loop-index : goal.invariant-loop-index
invariant-loop-index l =
    l.sum ≡ capped (length (u32_bytes (length (runs_of l.locals))) + length (flat_map run_bytes (take l.index (runs_of l.locals))))
