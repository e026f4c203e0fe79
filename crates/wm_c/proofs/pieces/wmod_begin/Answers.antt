use Rattle.std.proofs.Common.{sym, subst}
use Rattle.wm_c.specs.Options.{Asks}
use Rattle.wm_c.specs.declared.options.Options.{Options}
use Rattle.wm_c.proofs.pieces.wmod_begin.Goals as goal

pub returns-clause-misused : goal.returns-clause-misused
returns-clause-misused c = λ is. let m = c.begin.ensures.misused is in
    (m.0, λ p asks. m.1 p (subst (λ (o : Options). Asks o p) (sym c.plain.ensures) asks))
