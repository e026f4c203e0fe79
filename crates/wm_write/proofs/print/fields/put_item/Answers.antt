use Rattle.wm_write.proofs.PrintedWords.{sent_item}
use Rattle.wm_write.proofs.print.fields.put_item.Goals as goal

pub returns : goal.returns
returns g c = sent_item c.args.kind c.args.index c.item_front.result.now _ _ _ c.item_front.ensures c.put_counted.ensures c.put_bytes.ensures
