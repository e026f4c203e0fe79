use Rattle.std.proofs.Common.{take, flat_map}
use Rattle.wm_syntax.specs.Runs.{runs_of}
use Rattle.wm_write.specs.Canon.{run_bytes}
use Rattle.wm_write.specs.exact.Writing.{Sent}
use Rattle.wm_write.proofs.encode.code.put_runs.Given as goal

-- the runs so far went out
abbrev pub invariant-loop-index : goal.invariant-loop-index
invariant-loop-index g l =
    Sent (flat_map run_bytes (take l.index (runs_of l.locals))) (g.W.Dest.has_failed l.fn.w, g.W.Dest.contents l.fn.w, l.fn.written)
    (g.W.Dest.has_failed l.w, g.W.Dest.contents l.w, l.written)
