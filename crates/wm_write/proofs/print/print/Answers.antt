use Rattle.std.proofs.Common.{ap, sym}
use Rattle.wm_syntax.specs.Values.{value_of}
use Rattle.wm_write.specs.Layout.{layout}
use Rattle.wm_write.proofs.PrintedModules.{loaded_printable, sent_begun, sent_out}
use Rattle.wm_write.proofs.PrintedWords.{sent_same}
use Rattle.wm_write.proofs.print.print.Goals as goal

pub put_module-requires : goal.put_module-requires
put_module-requires g c = loaded_printable (value_of c.module.result.now) c.module.ensures.loaded

pub returns-then-failed-clause-beginning : goal.returns-then-failed-clause-beginning
returns-then-failed-clause-beginning g c =
    sent_begun _ _ _ _ _ _ _ c.requires.open (sym c.if-failed.ensures) (sent_same _ _ _ _ (ap (λ m. layout (value_of m)) c.module.ensures.value) c.put_module.ensures)

pub returns-else-failed-clause-written : goal.returns-else-failed-clause-written
returns-else-failed-clause-written g c =
    sent_out _ _ _ _ _ _ _ c.requires.open (sym c.if-failed.ensures) (sent_same _ _ _ _ (ap (λ m. layout (value_of m)) c.module.ensures.value) c.put_module.ensures)
