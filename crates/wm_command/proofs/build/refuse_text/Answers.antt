use Rattle.std.proofs.Common.{List, ℕ, ap, subst, ◌∙◌}
use Rattle.wm_command.specs.Answers.{IsAnswered}
use Rattle.wm_command.specs.declared.status.Status.TheVariants as status
use Rattle.wm_command.specs.Refused.{placed_line}
use Rattle.wm_command.proofs.build.refuse_text.Goals as goal

pub returns-in-Ok-clause-answered : goal.returns-in-Ok-clause-answered
returns-in-Ok-clause-answered g c = λ m.
    let d = c.args.detail.now in (
      (λ e. c.in_default.not-Memory e),
      subst (λ (text : List ℕ). IsAnswered text status.Refused (g.W.Dest.contents c.args.w.now) (g.W.Dest.contents c.answer.new.w) (g.W.Dest.has_failed c.answer.new.w) (g.W.Dest.is_flushed c.answer.new.w) c.answer.result)
          (c.as_bytes.ensures.value ∙ c.in-Ok.ensures.ok ∙ ap (placed_line d.at d.line d.column) c.name.ensures) c.answer.ensures,
    )
