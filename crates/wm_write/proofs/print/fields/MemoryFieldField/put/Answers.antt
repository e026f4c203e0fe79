use Rattle.std.proofs.Common.{[]}
use Rattle.std.specs.Prelude.{codes}
use Rattle.wm_write.specs.Layout.{field_line, limits_words}
use Rattle.wm_write.proofs.PrintedWords.{sent_named}
use Rattle.wm_write.proofs.print.fields.MemoryFieldField.put.Goals as goal

pub returns : goal.returns
returns g c =
    sent_named field_line (codes "memory") (codes "$mem") c.args.place (limits_words c.args.limits.now) [] _ _ _ _ c.put_counted.ensures
    c.put_limits.ensures c.put_bytes.ensures
