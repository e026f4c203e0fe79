use Rattle.std.proofs.Common.{[], ◌++◌, ap, refl}
use Rattle.std.specs.Prelude.{codes}
use Rattle.wm_write.specs.Layout.{field_line, form, gap, params_words, results_words, type_field, words_text}
use Rattle.wm_write.proofs.PrintedWords.{sent_named, sent_parens, sent_same, sent_seen, sent_words}
use Rattle.wm_write.proofs.print.fields.TypeFieldField.put.Goals as goal

pub returns : goal.returns
returns g c =
    let ty = c.ty.inside in
    let lists = params_words ty.params.items ++ results_words ty.results.items in
    let params = sent_same _ _ _ _ (ap (λ ts. words_text (params_words ts)) c.deref.ensures.value) (c.put_types.ensures gap (codes "param") refl) in
    let results = sent_same _ _ _ _ (ap (λ ts. words_text (results_words ts)) c.deref-2.ensures.value) (c.put_types-2.ensures gap (codes "result") refl) in
    sent_seen (λ v. type_field (c.args.place, v)) _ _ _ _ c.ty.view_is
    (sent_named field_line (codes "type") (codes "$t") c.args.place (form gap (codes "func") lists) [] _ _ _ _ c.put_counted.ensures
    (sent_parens gap (codes "func") lists [] _ _ _ _ c.put_bytes.ensures
    (sent_words (params_words ty.params.items) (results_words ty.results.items) _ _ _ params results) c.put_bytes-2.ensures) c.put_bytes-3.ensures)
