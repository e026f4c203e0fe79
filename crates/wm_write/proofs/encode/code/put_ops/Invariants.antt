use Rattle.std.proofs.Common.{take}
use Rattle.wm_write.specs.Canon.{ops_bytes}
use Rattle.wm_write.specs.exact.Writing.{SentBut}
use Rattle.wm_write.proofs.encode.code.put_ops.Given as goal

-- The ops up to here went out, except the bytes in the batch.
abbrev pub invariant-loop-op : goal.invariant-loop-op
invariant-loop-op g l =
    SentBut l.batch (ops_bytes (take l.op-index l.ops)) (g.W.Dest.has_failed l.fn.w, g.W.Dest.contents l.fn.w, l.fn.written)
    (g.W.Dest.has_failed l.w, g.W.Dest.contents l.w, l.written)
