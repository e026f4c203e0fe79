use Rattle.std.proofs.Common.{◌∷◌, ◌++◌, ap, sym}
use Rattle.std.specs.Prelude.{codes}
use Rattle.wm_write.specs.Layout.{element_mode_words, field_line, offset_words, words_text}
use Rattle.wm_write.proofs.PrintedWords.{sent_named_front, sent_same}
use Rattle.wm_write.proofs.print.fields.put_element_front.Goals as goal

pub returns-in-Passive : goal.returns-in-Passive
returns-in-Passive g c =
    sent_same _ _ _ _ (ap (λ d. (field_line ++ 40 ∷ codes "elem") ++ words_text (element_mode_words d)) (sym c.in-Passive.is)) c.put_bytes.ensures

pub returns-in-Active : goal.returns-in-Active
returns-in-Active g c =
    sent_same _ _ _ _ (ap (λ d. (field_line ++ 40 ∷ codes "elem") ++ words_text (element_mode_words d)) (sym c.in-Active.is))
    (sent_named_front field_line (codes "elem") (codes "$tab") c.in-Active.index (offset_words c.in-Active.offset) _ _ _ c.put_counted.ensures c.put_offset.ensures)
