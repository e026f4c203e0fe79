use Rattle.std.proofs.Common.{◌≡◌, Option, Some, ap, sym, subst, ◌∙◌}
use Rattle.wm_machine.specs.declared.refusal.Refusal.{Refusal}
use Rattle.wm_c.specs.declared.session.Session.{Session}
use Rattle.wm_c.specs.Handles.{Holds, HoldsRefusal, TakesPieces}
use Rattle.wm_c.specs.Sessions.{StateRefused}
use Rattle.wm_c.proofs.pieces.wmod_place.Goals as goal

pub returns-in-Some-clause-next : goal.returns-in-Some-clause-next
returns-in-Some-clause-next c reading unrefused p limit q bytes holds =
    let there : c.args.v.now.held ≡ Some c.in-Some.loose.value = sym c.emptied.ensures.was ∙ c.in-Some.ensures in
    let lent : c.in-Some.loose.value ≡ c.deref.result.now = cc (c.into_box-session.ensures, c.deref.ensures) in
    let held : c.args.v.now.held ≡ Some c.deref.result.now = there ∙ ap Some lent in
    let fresh = λ (x : Refusal) (e : StateRefused c.deref.result.now.state x). unrefused x (subst (λ (o : Option Session). HoldsRefusal o x) (sym held) e) in
    c.place.ensures.next (subst TakesPieces held reading) fresh p limit q bytes (subst (λ (o : Option Session). Holds o p limit q bytes) held holds)
