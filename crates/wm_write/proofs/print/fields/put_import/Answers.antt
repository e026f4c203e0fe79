use Rattle.std.proofs.Common.{[], ◌∷◌, ap}
use Rattle.std.specs.Prelude.{codes}
use Rattle.std.specs.String.{string_bytes}
use Rattle.wm_write.specs.Layout.{desc_words, field_line, import_field, quoted, word_text, words_text}
use Rattle.wm_write.proofs.PrintedWords.{sent_parens, sent_same, sent_seen}
use Rattle.wm_write.proofs.Writes.{sent_then}
use Rattle.wm_write.proofs.print.fields.put_import.Goals as goal

pub returns : goal.returns
returns g c =
    let import = c.import.inside in
    let desc = desc_words c.args.before import.desc in
    sent_seen (import_field c.args.before) _ _ _ _ c.import.view_is
    (sent_parens field_line (codes "import") (quoted (string_bytes import.module_name) ∷ quoted (string_bytes import.item_name) ∷ desc) [] _ _ _ _ c.put_bytes.ensures
    (sent_then (word_text (quoted (string_bytes import.module_name))) (words_text (quoted (string_bytes import.item_name) ∷ desc)) _ _ _
    (sent_same _ _ _ _ (ap (λ b. word_text (quoted b)) c.as_bytes.ensures.value) c.put_string.ensures)
    (sent_then (word_text (quoted (string_bytes import.item_name))) (words_text desc) _ _ _
    (sent_same _ _ _ _ (ap (λ b. word_text (quoted b)) c.as_bytes-2.ensures.value) c.put_string-2.ensures) c.put_desc.ensures))
    c.put_bytes-2.ensures)
