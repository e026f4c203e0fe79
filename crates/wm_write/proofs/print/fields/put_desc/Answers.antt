use Rattle.std.proofs.Common.{[], sym}
use Rattle.std.specs.Prelude.{codes}
use Rattle.wm_write.specs.Layout.{desc_words, gap, global_type_words, limits_words, table_words, type_use}
use Rattle.wm_write.proofs.PrintedWords.{sent_named, sent_seen}
use Rattle.wm_write.proofs.print.fields.put_desc.Goals as goal

pub returns-in-Func : goal.returns-in-Func
returns-in-Func g c =
    sent_seen (desc_words c.args.before) _ _ _ _ (sym c.in-Func.is)
    (sent_named gap (codes "func") (codes "$f") c.args.before.functions (type_use c.in-Func.index) [] _ _ _ _ c.put_counted.ensures
    c.put_type_use.ensures c.put_bytes.ensures)

pub returns-in-Table : goal.returns-in-Table
returns-in-Table g c =
    sent_seen (desc_words c.args.before) _ _ _ _ (sym c.in-Table.is)
    (sent_named gap (codes "table") (codes "$tab") c.args.before.tables (table_words c.in-Table.limits) [] _ _ _ _ c.put_counted-in-Table.ensures
    c.put_table_type.ensures c.put_bytes-in-Table.ensures)

pub returns-in-Memory : goal.returns-in-Memory
returns-in-Memory g c =
    sent_seen (desc_words c.args.before) _ _ _ _ (sym c.in-Memory.is)
    (sent_named gap (codes "memory") (codes "$mem") c.args.before.memories (limits_words c.in-Memory.limits) [] _ _ _ _ c.put_counted-in-Memory.ensures
    c.put_limits.ensures c.put_bytes-in-Memory.ensures)

pub returns-in-Global : goal.returns-in-Global
returns-in-Global g c =
    sent_seen (desc_words c.args.before) _ _ _ _ (sym c.in-Global.is)
    (sent_named gap (codes "global") (codes "$g") c.args.before.globals (global_type_words c.in-Global.ty) [] _ _ _ _ c.put_counted-in-Global.ensures
    c.put_global_type.ensures c.put_bytes-in-Global.ensures)
