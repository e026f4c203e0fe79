use Rattle.std.proofs.Common.{◌≡◌, ◌+◌, flat_map, take}
use Rattle.std.specs.List.{enumerate_from}
use Rattle.wm_write.specs.Layout.{words_text}
use Rattle.wm_write.specs.exact.Writing.{Sent}
use Rattle.wm_write.proofs.print.fields.put_fields.Given as goal

-- the fields so far went out
abbrev pub invariant-loop-value : goal.invariant-loop-value
invariant-loop-value g l = record {
  place : l.place ≡ l.first + l.value-index;
  sent : Sent (words_text (flat_map g.F.Field.words (enumerate_from l.first (take l.value-index l.values)))) (g.W.Dest.has_failed l.fn.w, g.W.Dest.contents l.fn.w, l.fn.written)
      (g.W.Dest.has_failed l.w, g.W.Dest.contents l.w, l.written);
}
