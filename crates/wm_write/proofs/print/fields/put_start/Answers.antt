use Rattle.std.proofs.Common.{ap}
use Rattle.wm_write.specs.Layout.{start_field}
use Rattle.wm_write.proofs.PrintedWords.{sent_nothing_more, sent_start_field}
use Rattle.wm_write.proofs.print.fields.put_start.Goals as goal

pub returns-in_default : goal.returns-in_default
returns-in_default g c = sent_nothing_more _ _ (ap start_field c.in_default.is)

pub returns : goal.returns
returns g c = sent_start_field c.args.start c.in-Some.index _ _ _ c.in-Some.is c.put_counted.ensures c.put_bytes.ensures
