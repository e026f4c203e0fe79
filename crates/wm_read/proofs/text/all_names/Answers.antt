use Rattle.std.proofs.Common.{◌≡◌, Err, rules}
use Rattle.wm_read.proofs.TextLaws.{closes_names, not_failed, on_err}
use Rattle.wm_read.proofs.text.all_names.Goals as goal

pub returns-in_err-names-clause-followed : goal.returns-in_err-names-clause-followed
returns-in_err-names-clause-followed c =
    let is : c.from_residual.result ≡ Err c.in_err-names.field-0.0 = search rules in
    on_err _ _ _ is (λ n names k e. absurd (not_failed _ _ _ c.in_err-names.ensures n e))

pub returns-in_err-rest-clause-followed : goal.returns-in_err-rest-clause-followed
returns-in_err-rest-clause-followed c =
    let is : c.from_residual-in_err-rest.result ≡ Err c.in_err-rest.field-0.0 = search rules in
    on_err _ _ _ is (λ n names k e. absurd (closes_names _ _ _ k names _ _ c.in_ok-names.ensures e c.in_err-rest.ensures n))
