-- The locals before a run are those up to the end of the run before it.
use Rattle.std.proofs.Common.{◌∙◌, sym, ap}
use Rattle.wm_syntax.specs.inner.Runs.{start_at}
use Rattle.wm_syntax.proofs.RunLists.{start_first, start_is}
use Rattle.wm_syntax.proofs.modules.locals.start_of.Goals as goal

pub returns-then-index-eq0 : goal.returns-then-index-eq0
returns-then-index-eq0 c = sym (ap (start_at 0 c.args.runs.now) c.if-index-eq0.true ∙ start_first c.args.runs.now 0)

pub returns-else-index-eq0 : goal.returns-else-index-eq0
returns-else-index-eq0 c = start_is c.args.runs.now 0 c.args.index _ c.if-index-eq0.false c.requires
