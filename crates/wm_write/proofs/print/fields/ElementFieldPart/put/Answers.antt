use Rattle.std.proofs.Common.{[], ap, map}
use Rattle.std.specs.Prelude.{codes}
use Rattle.wm_write.specs.Layout.{element_field, element_mode_words, field_line, function_name, words_text}
use Rattle.wm_write.proofs.PrintedWords.{sent_fronted, sent_map, sent_same, sent_seen}
use Rattle.wm_write.proofs.print.fields.ElementFieldPart.put.Goals as goal

pub returns : goal.returns
returns g c =
    let element = c.element.inside in
    sent_seen element_field _ _ _ _ c.element.view_is
    (sent_fronted field_line (codes "elem") (element_mode_words element.mode) (map function_name element.functions.items) [] _ _ _ _ c.put_element_front.ensures
    (sent_same _ _ _ _ (ap (λ xs. words_text (map function_name xs)) c.deref.ensures.value) (sent_map function_name c.deref.result.now _ _ c.put_each.ensures))
    c.put_bytes.ensures)
