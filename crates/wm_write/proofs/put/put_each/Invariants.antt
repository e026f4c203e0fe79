use Rattle.std.proofs.Common.{take, flat_map}
use Rattle.wm_write.specs.exact.Writing.{Sent}
use Rattle.wm_write.proofs.put.put_each.Given as goal

-- the values so far went out
abbrev pub invariant-loop-value : goal.invariant-loop-value
invariant-loop-value g l =
    Sent (flat_map g.P.Part.bytes (take l.value-index l.values)) (g.W.Dest.has_failed l.fn.w, g.W.Dest.contents l.fn.w, l.fn.written)
    (g.W.Dest.has_failed l.w, g.W.Dest.contents l.w, l.written)
