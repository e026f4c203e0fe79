use Rattle.std.proofs.Common.{List, ◌≢◌, inl, inr, refl, subst, sym, ◌∙◌, ℕ}
use Rattle.wm_syntax.specs.Values.{value_of}
use Rattle.wm_tokens.specs.declared.faults.TextWhy.TheVariants as text_fault
use Rattle.wm_command.proofs.RunLemmas.{appended}
use Rattle.wm_command.specs.Answers.{IsAnswered}
use Rattle.wm_command.specs.declared.status.Status.TheVariants as status
use Rattle.wm_command.specs.Refused.{text_line}
use Rattle.wm_command.proofs.build.convert.Goals as goal

pub returns-in-Ok-clause-answered : goal.returns-in-Ok-clause-answered
returns-in-Ok-clause-answered g c = λ n.
    let out = c.convert_module.ensures.answered n in
    (out.0, out.1, inl (value_of c.in-Ok.m, c.in-Ok.ensures.written, out.2), out.3)

pub returns-in-Err-clause-answered : goal.returns-in-Err-clause-answered
returns-in-Err-clause-answered g c = λ n.
    let out = c.refuse_text.ensures.answered n in
    let r = c.in-Err.refusal in
    let why : r.why ≢ text_fault.Memory = λ e. out.0 (c.of-detail.ensures.why ∙ e) in (
      text_line c.args.text.now r.at r.why,
      status.Refused,
      inr (
        (λ m t. c.in-Err.ensures.refused why t.0 m t.1 t.2),
        (r.at, r.why, why, c.in-Err.ensures.at, (c.in-Err.ensures.utf8, c.in-Err.ensures.utf8_at, c.in-Err.ensures.fault, c.in-Err.ensures.end), refl),
        refl,
      ),
      subst (λ (text : List ℕ). IsAnswered text status.Refused (g.W.Dest.contents c.args.w.now) (g.W.Dest.contents c.refuse_text.new.w) (g.W.Dest.has_failed c.refuse_text.new.w) (g.W.Dest.is_flushed c.refuse_text.new.w) c.refuse_text.result)
          c.of-detail.ensures.told out.1,
    )

pub returns-in-Err-clause-told : goal.returns-in-Err-clause-told
returns-in-Err-clause-told g c = λ is.
    let out = c.refuse_text.ensures.answered (λ e. let no = sym is ∙ e in cc) in appended _ _ _ _ _ _ _ out.1 is
