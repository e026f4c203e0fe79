use Rattle.std.proofs.Common.{◌≡◌, ◌∙◌, Err, ap, rules, subst, sym}
use Rattle.wm_write.specs.declared.check_module.CheckFault.TheVariants as fault
use Rattle.wm_syntax.specs.Values.{value_of}
use Rattle.wm_write.specs.exact.Checking.{SpelledFor}
use Rattle.wm_write.proofs.Checks.{accepted, refused}
use Rattle.wm_write.proofs.check_module.checked_bytes.Goals as goal

pub returns-clause-given : goal.returns-clause-given
returns-clause-given c =
    let m = value_of c.args.m.now in
    let spelled : SpelledFor c.args.profile m c.deref.result.now = subst (SpelledFor c.args.profile m) (sym c.deref.ensures.value) c.in_ok-bytes.ensures.written in
    let all = accepted c.args.profile c.args.policy m c.deref.result.now spelled c.in_ok-judge.ensures.accepted in
    (sym c.deref.ensures.value ∙ all.0, all.1, all.2, all.3)

pub returns-in_err-judge-clause-refused : goal.returns-in_err-judge-clause-refused
returns-in_err-judge-clause-refused c =
    let m = value_of c.args.m.now in
    let spelled : SpelledFor c.args.profile m c.deref.result.now = subst (SpelledFor c.args.profile m) (sym c.deref.ensures.value) c.in_ok-bytes.ensures.written in
    let is : c.from_residual-in_err-judge.result ≡ Err c.in_err-judge.field-0.0 = search rules in
    λ r e o v w.
    let same : c.in_err-judge.field-0.0 ≡ fault.Refused r = (let h = sym is ∙ e in cc) in
    refused c.args.profile c.args.policy m c.deref.result.now spelled (c.in_err-judge.ensures.refused r (ap Err same)) o v w

pub returns-in_err-judge-clause-too_large : goal.returns-in_err-judge-clause-too_large
returns-in_err-judge-clause-too_large c =
    let is : c.from_residual-in_err-judge.result ≡ Err c.in_err-judge.field-0.0 = search rules in
    (λ e f. let same : c.in_err-judge.field-0.0 ≡ fault.TooLarge = (let h = sym is ∙ e in cc) in c.in_err-judge.ensures.sized (ap Err same), λ n. let e = c.in_ok-bytes.ensures.too_large.1 n in cc)
