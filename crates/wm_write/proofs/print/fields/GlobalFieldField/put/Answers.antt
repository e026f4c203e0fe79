use Rattle.std.proofs.Common.{[], ◌++◌}
use Rattle.std.specs.Prelude.{codes}
use Rattle.wm_write.specs.Layout.{const_words, field_line, global_field, global_type_words}
use Rattle.wm_write.proofs.PrintedWords.{sent_named, sent_seen, sent_words}
use Rattle.wm_write.proofs.print.fields.GlobalFieldField.put.Goals as goal

pub returns : goal.returns
returns g c =
    let global = c.global.inside in
    sent_seen (λ v. global_field (c.args.place, v)) _ _ _ _ c.global.view_is
    (sent_named field_line (codes "global") (codes "$g") c.args.place (global_type_words global.ty ++ const_words global.init) [] _ _ _ _ c.put_counted.ensures
    (sent_words (global_type_words global.ty) (const_words global.init) _ _ _ c.put_global_type.ensures c.put_const.ensures) c.put_bytes.ensures)
