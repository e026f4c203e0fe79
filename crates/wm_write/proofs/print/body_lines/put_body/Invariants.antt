use Rattle.std.proofs.Common.{take}
use Rattle.wm_write.specs.Layout.{body_words, words_text}
use Rattle.wm_write.specs.exact.Writing.{Sent}
use Rattle.wm_write.proofs.print.body_lines.put_body.Given as goal

-- the ops so far went out
abbrev pub invariant-loop-op : goal.invariant-loop-op
invariant-loop-op g l =
    Sent (words_text (body_words (take l.op-index l.ops))) (g.W.Dest.has_failed l.fn.w, g.W.Dest.contents l.fn.w, l.fn.written)
    (g.W.Dest.has_failed l.w, g.W.Dest.contents l.w, l.written)
