use Rattle.std.proofs.Common.{ap, sym, subst, ◌∙◌}
use Rattle.wm_rules.specs.inner.Validators.{refusal_in}
use Rattle.wm_c.specs.declared.session.State.{State}
use Rattle.wm_c.specs.Places.{numbers_in}
use Rattle.wm_c.specs.Sessions.{StateIsAt, StateRefused, StateTaken}
use Rattle.wm_c.proofs.Unrefused.{none_refused}
use Rattle.wm_c.proofs.session.Session.feed.Goals as goal

pub returns-in-Reading-clause-refused : goal.returns-in-Reading-clause-refused
returns-in-Reading-clause-refused c is_one p limit q before taken more =
    c.fed-status.ensures.refused is_one p limit q before (subst (λ (s : State). StateTaken s p limit q before) c.in-Reading.is taken) more

pub returns-in-Reading-clause-stays : goal.returns-in-Reading-clause-stays
returns-in-Reading-clause-stays c r refused = c.fed-status.ensures.stays r (subst (λ (s : State). StateRefused s r) c.in-Reading.is refused)

pub returns-in-Reading-clause-spot : goal.returns-in-Reading-clause-spot
returns-in-Reading-clause-spot c is_one unrefused p limit q before taken r refused =
    let none = none_refused (refusal_in c.in-Reading.validator) (λ x e. unrefused x (subst (λ (s : State). StateRefused s x) (sym c.in-Reading.is) e)) in
    (r, refused, c.fed-status.ensures.spot is_one none p limit q before (subst (λ (s : State). StateTaken s p limit q before) c.in-Reading.is taken) r refused)

pub returns-in-Reading-clause-still : goal.returns-in-Reading-clause-still
returns-in-Reading-clause-still c n at =
    let was = subst (λ (s : State). StateIsAt s c.args.self.now.place n) c.in-Reading.is at in
    (was.0, (c.fed-status.ensures.stays was.0 was.1).1, ap numbers_in (c.fed-status.ensures.still was.0 was.1) ∙ was.2)
