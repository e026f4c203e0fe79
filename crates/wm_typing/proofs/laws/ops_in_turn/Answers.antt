-- The proof begins at the start of a body.
use Rattle.std.proofs.Common.{[]}
use Rattle.wm_typing.specs.exact.Folds.{body_with_locals}
use Rattle.wm_typing.proofs.AfterCalls.{after_started}
use Rattle.wm_typing.proofs.Folds.{taken_from, refused_from}
use Rattle.wm_typing.proofs.laws.ops_in_turn.Goals as goal

pub returns-clause-taken : goal.returns-clause-taken
returns-clause-taken c d x locals ops b one e = taken_from d one x locals [] ops (body_with_locals d x locals) b (after_started d x locals) e

pub returns-clause-refused : goal.returns-clause-refused
returns-clause-refused c d x locals ops why one e = refused_from d one x locals [] ops (body_with_locals d x locals) why (after_started d x locals) e
