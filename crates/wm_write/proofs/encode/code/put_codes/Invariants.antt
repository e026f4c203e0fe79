use Rattle.std.proofs.Common.{◌++◌, length, take, flat_map}
use Rattle.wm_write.specs.Canon.{code_bytes, u32_bytes}
use Rattle.wm_write.specs.exact.Writing.{Sent}
use Rattle.wm_write.proofs.encode.code.put_codes.Given as goal

-- the count and the functions so far went out
abbrev pub invariant-loop-function : goal.invariant-loop-function
invariant-loop-function g l =
    Sent (u32_bytes (length l.functions) ++ flat_map code_bytes (take l.function-index l.functions)) (g.W.Dest.has_failed l.fn.w, g.W.Dest.contents l.fn.w, l.fn.written)
    (g.W.Dest.has_failed l.w, g.W.Dest.contents l.w, l.written)
