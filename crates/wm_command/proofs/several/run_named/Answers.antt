use Rattle.std.proofs.Common.{◌≡◌, ◌∙◌, [], Some, ap, false, sym, vec_items}
use Rattle.std.specs.Prelude.{◌≢◌}
use Rattle.std.proofs.lemmas.Bool.{false≢true}
use denote.Enum.Bare.{sameb}
use Rattle.wm_command.specs.contracts.status.Status.{the_type}
use Rattle.wm_command.specs.Several.{line_for}
use Rattle.wm_command.specs.declared.status.Status.TheVariants.{Memory}
use Rattle.wm_command.proofs.SeveralLemmas.{held_text, line_answered}
use Rattle.wm_command.proofs.several.run_named.Goals as goal

pub returns-in-Ok-line_of-clause-answered : goal.returns-in-Ok-line_of-clause-answered
returns-in-Ok-line_of-clause-answered g c = λ reads kept.
    let no_memory : c.run_line-status.result.status ≢ Memory = λ e. false≢true (sym c.if-eq.false ∙ c.eq.ensures ∙ ap (λ s. sameb the_type s Memory) e) in
    let told = c.run_line-status.ensures.answered reads no_memory in
    let start : Some c.new-held.result.inner.items ≡ Some [] = ap (λ v. Some (vec_items v)) c.new-held.ensures.inner ∙ ap Some c.in-Ok.ensures.items in
    let end : Some c.run_line-status.new.w.inner.items ≡ Some c.into_inner.result.items = ap (λ v. Some (vec_items v)) (sym c.into_inner.ensures) in
    let none : c.run_line-status.new.w.failed ≡ false = sym c.failed-2.ensures ∙ c.if-failed-2.false in
    let held = held_text _ _ told.0 c.into_inner.result.items c.run_line-status.result.status told.1 _ _ start end none told.4 in
    let line = c.in-Ok-line_of.ensures in (
      told.0,
      line.0,
      told.1,
      told.2,
      told.3,
      line.1,
      line_answered line.0 told.0 c.into_inner.result.items _ _ told.1 c.answer.result _ _ _ _ held.0 held.1 (c.deref-in-Ok-line_of.ensures.value ∙ line.2 ∙ ap (line_for line.0) c.deref.ensures.value) c.answer.ensures,
    )
