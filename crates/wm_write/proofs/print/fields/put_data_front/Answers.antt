use Rattle.std.proofs.Common.{List, ℕ, ◌∷◌, ◌++◌, ap, append-nil, sym, ◌∙◌}
use Rattle.std.specs.Prelude.{codes}
use Rattle.wm_write.specs.Layout.{field_line, data_mode_words, offset_words, words_text}
use Rattle.wm_write.proofs.PrintedWords.{sent_named_front, sent_same}
use Rattle.wm_write.proofs.print.fields.put_data_front.Goals as goal

pub returns-in-Passive : goal.returns-in-Passive
returns-in-Passive g c =
    sent_same _ _ _ _ (sym (append-nil (field_line ++ 40 ∷ codes "data"))
    ∙ ap (λ d. (field_line ++ 40 ∷ codes "data") ++ words_text (data_mode_words d)) (sym c.in-Passive.is))
    c.put_bytes.ensures

pub returns-in-Active : goal.returns-in-Active
returns-in-Active g c =
    sent_same _ _ _ _ (ap (λ d. (field_line ++ 40 ∷ codes "data") ++ words_text (data_mode_words d)) (sym c.in-Active.is))
    (sent_named_front field_line (codes "data") (codes "$mem") c.in-Active.index (offset_words c.in-Active.offset) _ _ _ c.put_counted.ensures c.put_offset.ensures)
