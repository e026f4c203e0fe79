use Rattle.std.proofs.Common.{map, take}
use Rattle.wm_syntax.specs.Modules.{locals_of}
use Rattle.wm_syntax.specs.Runs.{runs_of}
use Rattle.wm_write.specs.Layout.{type_word, words_text}
use Rattle.wm_write.specs.exact.Writing.{Sent}
use Rattle.wm_write.proofs.print.body_lines.put_local_types.Given as goal

-- the types of the runs so far went out
abbrev pub invariant-loop-index : goal.invariant-loop-index
invariant-loop-index g l =
    Sent (words_text (map type_word (locals_of (take l.index (runs_of l.locals))))) (g.W.Dest.has_failed l.fn.w, g.W.Dest.contents l.fn.w, l.fn.written)
    (g.W.Dest.has_failed l.w, g.W.Dest.contents l.w, l.written)
