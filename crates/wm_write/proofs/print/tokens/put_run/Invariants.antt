use Rattle.std.proofs.Common.{map, replicate}
use Rattle.wm_write.specs.Layout.{type_word, words_text}
use Rattle.wm_write.specs.exact.Writing.{Sent}
use Rattle.wm_write.proofs.print.tokens.put_run.Given as goal

-- As many types went out as the counter says.
abbrev pub invariant-loop : goal.invariant-loop
invariant-loop g l =
    Sent (words_text (map type_word (replicate l.counter l.ty))) (g.W.Dest.has_failed l.fn.w, g.W.Dest.contents l.fn.w, l.fn.written)
    (g.W.Dest.has_failed l.w, g.W.Dest.contents l.w, l.written)
