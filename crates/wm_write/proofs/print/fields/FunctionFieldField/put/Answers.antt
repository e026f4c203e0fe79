use Rattle.std.proofs.Common.{◌++◌, ap}
use Rattle.std.specs.Prelude.{codes}
use Rattle.wm_syntax.specs.Instructions.{ops_of}
use Rattle.wm_write.specs.Layout.{body_line, body_words, field_line, function_field, type_use, types_words, words_text}
use Rattle.wm_write.proofs.PrintedWords.{sent_named, sent_same, sent_seen, sent_words}
use Rattle.wm_write.proofs.print.fields.FunctionFieldField.put.Goals as goal

pub returns : goal.returns
returns g c =
    let function = c.function.inside in
    let locals = types_words body_line (codes "local") function.locals in
    let body = body_words (ops_of function.body) in
    sent_seen (λ v. function_field (c.args.place, v)) _ _ _ _ c.function.view_is
    (sent_named field_line (codes "func") (codes "$f") c.args.place (type_use function.type_index ++ (locals ++ body)) field_line _ _ _ _ c.put_counted.ensures
    (sent_words (type_use function.type_index) (locals ++ body) _ _ _ c.put_type_use.ensures
    (sent_words locals body _ _ _ c.put_locals.ensures
    (sent_same _ _ _ _ (ap (λ ops. words_text (body_words ops)) c.ops.ensures) c.put_body.ensures)))
    c.put_bytes.ensures)
