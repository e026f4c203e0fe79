-- The printed text is flushed.
use Rattle.wm_command.proofs.RunLemmas.{flushed}
use Rattle.wm_command.proofs.run.write_text.Goals as goal

pub returns-in-Ok : goal.returns-in-Ok
returns-in-Ok g c = flushed _ _ _ _ _ _ _ _ c.in-Ok.ensures.written c.answer.ensures
