use Rattle.std.proofs.Common.{[]}
use Rattle.std.specs.Prelude.{codes}
use Rattle.wm_write.specs.Layout.{field_line, table_words}
use Rattle.wm_write.proofs.PrintedWords.{sent_named}
use Rattle.wm_write.proofs.print.fields.TableFieldField.put.Goals as goal

pub returns : goal.returns
returns g c =
    sent_named field_line (codes "table") (codes "$tab") c.args.place (table_words c.args.limits.now) [] _ _ _ _ c.put_counted.ensures
    c.put_table_type.ensures c.put_bytes.ensures
