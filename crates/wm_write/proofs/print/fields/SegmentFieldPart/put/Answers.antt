use Rattle.std.proofs.Common.{[], ◌∷◌, ap}
use Rattle.std.specs.Prelude.{codes}
use Rattle.wm_write.specs.Layout.{field_line, data_mode_words, quoted, segment_field, word_text}
use Rattle.wm_write.proofs.PrintedWords.{sent_fronted, sent_same, sent_seen, sent_word}
use Rattle.wm_write.proofs.print.fields.SegmentFieldPart.put.Goals as goal

pub returns : goal.returns
returns g c =
    let segment = c.segment.inside in
    sent_seen segment_field _ _ _ _ c.segment.view_is
    (sent_fronted field_line (codes "data") (data_mode_words segment.mode) (quoted segment.bytes.items ∷ []) [] _ _ _ _ c.put_data_front.ensures
    (sent_word (quoted segment.bytes.items) _ _ (sent_same _ _ _ _ (ap (λ b. word_text (quoted b)) c.deref.ensures.value) c.put_string.ensures))
    c.put_bytes.ensures)
