use Rattle.std.proofs.Common.{sym, subst}
use Rattle.wm_rules.specs.inner.Validators.{refusal_in}
use Rattle.wm_c.specs.declared.session.State.{State}
use Rattle.wm_c.specs.Sessions.{StateRefused, StateTaken}
use Rattle.wm_c.proofs.Unrefused.{none_refused}
use Rattle.wm_c.proofs.session.Session.place.Goals as goal

pub returns-in-Reading-clause-next : goal.returns-in-Reading-clause-next
returns-in-Reading-clause-next c reading unrefused p limit q bytes taken =
    let none = none_refused (refusal_in c.in-Reading.validator) (λ x e. unrefused x (subst (λ (s : State). StateRefused s x) (sym c.in-Reading.is) e)) in
    c.next_place.ensures.next none p limit q bytes (subst (λ (s : State). StateTaken s p limit q bytes) c.in-Reading.is taken)
