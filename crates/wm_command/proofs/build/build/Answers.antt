use Rattle.std.proofs.Common.{◌+◌, Err, ap, inl, inr, refl, subst}
use Rattle.wm_syntax.specs.declared.why.Why.TheVariants.{TooLong}
use Rattle.wm_command.specs.Building.{TextOut}
use Rattle.wm_command.specs.declared.status.Status.TheVariants as status
use Rattle.wm_command.specs.Refused.{refusal_line}
use Rattle.wm_command.proofs.RunLemmas.{right_long, right_text, text_output}
use Rattle.wm_command.proofs.build.build.Goals as goal

pub returns-in-Ok-clause-answered : goal.returns-in-Ok-clause-answered
returns-in-Ok-clause-answered g c = λ o n.
    let out = c.convert.ensures.answered n in
    let is = subst (λ z. TextOut c.args.profile c.args.policy c.args.spellings z out.0 out.1) c.deref.ensures.value out.2 in
    (out.0, out.1, text_output c.args.profile c.args.policy c.args.spellings _ out.0 out.1 is, right_text c.args.profile c.args.limit c.args.policy c.args.spellings _ _ _ out.0 out.1 c.in-Ok.ensures.whole is, out.3)

pub returns-in-Err-TooLong-clause-answered : goal.returns-in-Err-TooLong-clause-answered
returns-in-Err-TooLong-clause-answered g c = λ o n.
    let out = c.refuse.ensures.answered n in (
      refusal_line (c.args.limit + 1) TooLong,
      status.Refused,
      inr (inl (c.args.limit + 1, TooLong, out.0, refl), refl),
      right_long c.args.profile c.args.limit c.args.policy c.args.spellings _ _ (c.in-Err-TooLong.ensures.long (ap Err c.in-Err-TooLong.field-0-is)),
      out.1,
    )
