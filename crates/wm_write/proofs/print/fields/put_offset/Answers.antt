use Rattle.std.proofs.Common.{[]}
use Rattle.std.specs.Prelude.{codes}
use Rattle.wm_write.specs.Layout.{const_words, gap}
use Rattle.wm_write.proofs.PrintedWords.{sent_parens}
use Rattle.wm_write.proofs.print.fields.put_offset.Goals as goal

pub returns : goal.returns
returns g c =
    sent_parens gap (codes "offset") (const_words c.args.offset) [] _ _ _ _ c.put_bytes.ensures c.put_const.ensures c.put_bytes-2.ensures
