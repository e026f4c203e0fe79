use Rattle.std.proofs.Common.{[], ◌∷◌, ap}
use Rattle.std.specs.Prelude.{codes}
use Rattle.std.specs.String.{string_bytes}
use Rattle.wm_write.specs.Layout.{export_field, field_line, item_words, quoted, word_text, words_text}
use Rattle.wm_write.proofs.PrintedWords.{sent_parens, sent_same, sent_seen}
use Rattle.wm_write.proofs.Writes.{sent_then}
use Rattle.wm_write.proofs.print.fields.ExportFieldPart.put.Goals as goal

pub returns : goal.returns
returns g c =
    let export = c.export.inside in
    sent_seen export_field _ _ _ _ c.export.view_is
    (sent_parens field_line (codes "export") (quoted (string_bytes export.name) ∷ item_words export.kind export.index) [] _ _ _ _ c.put_bytes.ensures
    (sent_then (word_text (quoted (string_bytes export.name))) (words_text (item_words export.kind export.index)) _ _ _
    (sent_same _ _ _ _ (ap (λ b. word_text (quoted b)) c.as_bytes.ensures.value) c.put_string.ensures) c.put_item.ensures)
    c.put_bytes-2.ensures)
