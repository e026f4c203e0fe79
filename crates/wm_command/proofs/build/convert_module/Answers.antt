use Rattle.std.proofs.Common.{◌∙◌, Err, List, ap, inl, inr, refl, subst, sym, ℕ}
use Rattle.wm_syntax.specs.Values.{value_of}
use Rattle.wm_write.specs.Canon.{canon, with_flags}
use Rattle.wm_write.proofs.Checks.{fits}
use Rattle.wm_command.specs.Answers.{IsAnswered}
use Rattle.wm_command.specs.Refused.{module_line}
use Rattle.wm_command.specs.declared.status.Status.TheVariants as status
use Rattle.wm_command.proofs.build.convert_module.Goals as goal

pub returns-in-Ok-clause-answered : goal.returns-in-Ok-clause-answered
returns-in-Ok-clause-answered g c = λ n.
    let m = value_of c.args.m.now in
    let given = c.in-Ok.ensures.given in (
      canon m,
      status.Done,
      inl (given.2, given.3, fits (with_flags c.args.profile m) m (λ n. let e = c.in-Ok.ensures.too_large.1 n in cc), refl, refl),
      subst (λ (z : List ℕ). IsAnswered z status.Done (g.W.Dest.contents c.args.w.now) (g.W.Dest.contents c.answer.new.w) (g.W.Dest.has_failed c.answer.new.w) (g.W.Dest.is_flushed c.answer.new.w) c.answer.result)
          (c.deref.ensures.value ∙ given.0) c.answer.ensures,
    )

pub returns-in-Err-Refused-clause-answered : goal.returns-in-Err-Refused-clause-answered
returns-in-Err-Refused-clause-answered g c = λ n.
    let m = value_of c.args.m.now in
    let r = c.in-Err-Refused.refusal in
    let is = ap Err c.in-Err-Refused.field-0-is in
    let place = c.in-Err-Refused.ensures.place r is in (
      module_line r.at r.why,
      status.Refused,
      inr (inl (
        (λ v w. c.in-Err-Refused.ensures.refused r is c.requires.instructions v w),
        fits (with_flags c.args.profile m) m (λ no. let e = sym is ∙ c.in-Err-Refused.ensures.too_large.1 no in cc),
        (r, place.0, place.1, c.in-Err-Refused.ensures.same r is, c.in-Err-Refused.ensures.means r is, refl),
        refl,
      )),
      c.refuse_built.ensures.answered n,
    )
