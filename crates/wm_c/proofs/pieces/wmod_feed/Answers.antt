use Rattle.std.proofs.Common.{◌≡◌, ◌-◌, ◌++◌, Option, Some, take, ap, sym, subst, ◌∙◌}
use Rattle.wm_machine.specs.declared.refusal.Refusal.{Refusal}
use Rattle.wm_c.specs.declared.session.Session.{Session}
use Rattle.wm_c.specs.Handles.{Holds, HoldsRefusal, HoldsPlace}
use Rattle.wm_c.specs.Places.{numbers_after}
use Rattle.wm_c.specs.Sessions.{HasTaken, StateRefused}
use Rattle.wm_c.proofs.pieces.wmod_feed.Goals as goal

pub returns-in-Some-clause-refused : goal.returns-in-Some-clause-refused
returns-in-Some-clause-refused c is_one p limit q before holds =
    let there : c.args.v.now.held ≡ Some c.in-Some.loose.value = sym c.emptied.ensures.was ∙ c.in-Some.ensures in
    let lent : c.in-Some.loose.value ≡ c.deref_mut.result.now = sym c.into_box-session.ensures ∙ sym c.deref_mut.ensures.value in
    c.feed-status.ensures.refused is_one p limit q before (subst (λ (s : Session). HasTaken s p limit q before) lent (subst (λ (o : Option Session). Holds o p limit q before) there holds))

pub returns-in-Some-clause-spot : goal.returns-in-Some-clause-spot
returns-in-Some-clause-spot c is_one unrefused p limit q before holds r refused =
    let there : c.args.v.now.held ≡ Some c.in-Some.loose.value = sym c.emptied.ensures.was ∙ c.in-Some.ensures in
    let lent : c.in-Some.loose.value ≡ c.deref_mut.result.now = sym c.into_box-session.ensures ∙ sym c.deref_mut.ensures.value in
    let held : c.args.v.now.held ≡ Some c.deref_mut.result.now = there ∙ ap Some lent in
    let now : c.put.new.v.held ≡ Some c.feed-status.new.self = c.put.ensures ∙ c.of-in-Some.ensures ∙ ap Some c.of.ensures in
    let fresh = λ (x : Refusal) (e : StateRefused c.deref_mut.result.now.state x). unrefused x (subst (λ (o : Option Session). HoldsRefusal o x) (sym held) e) in
    let taken = subst (λ (o : Option Session). Holds o p limit q before) held holds in
    subst (λ (o : Option Session). HoldsPlace o (numbers_after p (take (r.at - 1) (before ++ c.args.piece.now)))) (sym now)
    (c.feed-status.ensures.spot is_one fresh p limit q before taken r (subst (λ (o : Option Session). HoldsRefusal o r) now refused))
