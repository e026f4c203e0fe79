use Rattle.wm_syntax.proofs.Equalities.{told}
use Rattle.wm_syntax.proofs.modules.equality.FunctionPartialEq.eq.Goals as goal

pub returns : goal.returns
returns c = told _ _ _ _ c.same.ensures
