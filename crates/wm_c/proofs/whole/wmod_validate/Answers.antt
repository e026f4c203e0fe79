use Rattle.std.proofs.Common.{sym, subst}
use Rattle.wm_c.specs.Answers.{IsAnswerOf}
use Rattle.wm_c.specs.Options.{Asking, Asks, policy_of}
use Rattle.wm_c.specs.declared.options.Options.{Options}
use Rattle.wm_rules.specs.Validation.{Accepted}
use Rattle.wm_syntax.specs.declared.profile.Profile.{Profile}
use Rattle.wm_c.proofs.whole.wmod_validate.Goals as goal

pub returns-clause-answered : goal.returns-clause-answered
returns-clause-answered c = λ is.
    subst (λ (o : Options). Asking o (λ p limit q. IsAnswerOf p limit q c.args.bytes.now c.judged.result)) c.plain.ensures (c.judged.ensures.answered is)

pub returns-clause-valid : goal.returns-clause-valid
returns-clause-valid c = λ is.
    subst (λ (o : Options). Asking o (λ p limit q. Accepted p limit q c.args.bytes.now)) c.plain.ensures (c.judged.ensures.valid is)

pub returns-clause-refused : goal.returns-clause-refused
returns-clause-refused c = λ is.
    subst (λ (o : Options). (p : Profile) × Asks o p × (Accepted p o.max_bytes (policy_of o) c.args.bytes.now → ⊥)) c.plain.ensures (c.judged.ensures.refused is)

pub returns-clause-misused : goal.returns-clause-misused
returns-clause-misused c = λ is. let m = c.judged.ensures.misused is in
    (m.0, λ p asks. m.1 p (subst (λ (o : Options). Asks o p) (sym c.plain.ensures) asks))
