-- The last run has the greatest index.
use Rattle.std.proofs.Common.{sym}
use Rattle.wm_syntax.proofs.RunLists.{last_end_at}
use Rattle.wm_syntax.proofs.modules.locals.last_end_of.Goals as goal

pub returns-in-Some : goal.returns-in-Some
returns-in-Some c = sym (last_end_at c.args.runs.now 0 c.in-Some.run'.now (sym c.in-Some.ensures.value))
