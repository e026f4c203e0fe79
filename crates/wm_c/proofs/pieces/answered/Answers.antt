use Rattle.std.proofs.Common.{◌≡◌, Option, Some, ap, sym, subst, ◌∙◌}
use Rattle.wm_machine.specs.declared.refusal.Refusal.{Refusal}
use Rattle.wm_c.specs.declared.session.Session.{Session}
use Rattle.wm_c.specs.Handles.{Holds, HoldsRefusal, HoldsPlace, TakesPieces}
use Rattle.wm_c.specs.Places.{numbers_after}
use Rattle.wm_c.specs.Sessions.{HasTaken, StateRefused}
use Rattle.wm_c.proofs.pieces.answered.Goals as goal

pub returns-in-Some-clause-answers : goal.returns-in-Some-clause-answers
returns-in-Some-clause-answers c p limit q before holds =
    let there : c.args.v.now.held ≡ Some c.in-Some.loose.value = sym c.emptied.ensures.was ∙ c.in-Some.ensures in
    let lent : c.in-Some.loose.value ≡ c.deref_mut.result.now = sym c.into_box-session.ensures ∙ sym c.deref_mut.ensures.value in
    c.finish-found.ensures.answers p limit q before (subst (λ (s : Session). HasTaken s p limit q before) lent (subst (λ (o : Option Session). Holds o p limit q before) there holds))

pub returns-in-Some-clause-spot : goal.returns-in-Some-clause-spot
returns-in-Some-clause-spot c reading unrefused p limit q input holds =
    let there : c.args.v.now.held ≡ Some c.in-Some.loose.value = sym c.emptied.ensures.was ∙ c.in-Some.ensures in
    let lent : c.in-Some.loose.value ≡ c.deref_mut.result.now = sym c.into_box-session.ensures ∙ sym c.deref_mut.ensures.value in
    let held : c.args.v.now.held ≡ Some c.deref_mut.result.now = there ∙ ap Some lent in
    let now : c.put.new.v.held ≡ Some c.finish-found.new.self = c.put.ensures ∙ c.of-in-Some.ensures ∙ ap Some c.of.ensures in
    let fresh = λ (x : Refusal) (e : StateRefused c.deref_mut.result.now.state x). unrefused x (subst (λ (o : Option Session). HoldsRefusal o x) (sym held) e) in
    let taken = subst (λ (o : Option Session). Holds o p limit q input) held holds in
    subst (λ (o : Option Session). HoldsPlace o (numbers_after p input)) (sym now)
    (c.finish-found.ensures.spot (subst TakesPieces held reading) fresh p limit q input taken)
