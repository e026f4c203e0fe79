use Rattle.std.proofs.Common.{◌≡◌, ◌-◌, ◌++◌, sym, ap, take, unwrap_or, ◌∙◌}
use Rattle.wm_machine.specs.declared.refusal.Refusal.{Refusal}
use Rattle.wm_c.specs.Places.{numbers_after}
use Rattle.wm_c.proofs.Statuses.{not_memory}
use Rattle.wm_c.proofs.session.fed.Goals as goal

pub returns-in-Err-clause-refused : goal.returns-in-Err-clause-refused
returns-in-Err-clause-refused c is_one = c.in-Err.ensures.never (not_memory c.in-Err.refusal.why (sym c.refused_status.ensures ∙ is_one))

pub returns-in-Err-clause-spot : goal.returns-in-Err-clause-spot
returns-in-Err-clause-spot c is_one none p limit q before read r refused =
    let other = not_memory c.in-Err.refusal.why (sym c.refused_status.ensures ∙ is_one) in
    let same : c.in-Err.refusal ≡ r = ap (λ o. unwrap_or o r) (sym c.in-Err.ensures.refusal ∙ refused) in
    c.refused_place.ensures.found p before (c.snapshot-before.ensures.after none p limit q before read)
    (c.in-Err.ensures.in_piece other none p limit q before read) (c.in-Err.ensures.place p limit q before read)
    ∙ ap (λ (x : Refusal). numbers_after p (take (x.at - 1) (before ++ c.args.piece.now))) same
