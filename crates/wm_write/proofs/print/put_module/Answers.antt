use Rattle.wm_syntax.specs.Values.{value_of}
use Rattle.wm_write.specs.Layout.{field_words}
use Rattle.wm_write.proofs.PrintedModules.{sent_module}
use Rattle.wm_write.proofs.print.put_module.Goals as goal

pub returns : goal.returns
returns g c =
    sent_module (field_words (value_of c.args.m.now)) c.ending.result.now _ _ _ _ c.put_bytes.ensures c.put_all_fields.ensures c.put_bytes-2.ensures
    c.ending.ensures
