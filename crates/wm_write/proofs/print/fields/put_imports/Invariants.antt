use Rattle.std.proofs.Common.{◌≡◌, [], take}
use Rattle.wm_write.specs.Layout.{import_fields, places, words_text}
use Rattle.wm_write.specs.exact.Writing.{Sent}
use Rattle.wm_write.proofs.print.fields.put_imports.Given as goal

-- the imports so far went out, and are counted
abbrev pub invariant-loop-import : goal.invariant-loop-import
invariant-loop-import g l = record {
  before : l.before ≡ places (take l.import-index l.imports);
  sent : Sent (words_text (import_fields [] (take l.import-index l.imports))) (g.W.Dest.has_failed l.fn.w, g.W.Dest.contents l.fn.w, l.fn.written)
      (g.W.Dest.has_failed l.w, g.W.Dest.contents l.w, l.written);
}
