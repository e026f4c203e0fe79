use Rattle.std.proofs.Common.{◌≡◌, Err, rules}
use Rattle.wm_tokens.specs.exact.Scan.{lexed}
use Rattle.wm_bodies.specs.inner.Blocks.{names_of}
use Rattle.wm_read.proofs.Tails.{names_tail}
use Rattle.wm_read.proofs.TextLaws.{inner_names, not_failed, not_followed, on_err}
use Rattle.wm_read.proofs.text.read_module.Goals as goal

pub module_within-requires : goal.module_within-requires
module_within-requires c = names_tail c.args.profile (names_of c.in_ok-names.names) (lexed c.in_ok-inner.inner.now) c.in_ok-names.ensures.read

pub returns-in_err-inner-clause-followed : goal.returns-in_err-inner-clause-followed
returns-in_err-inner-clause-followed c =
    let is : c.from_residual.result ≡ Err c.in_err-inner.field-0.0 = search rules in
    on_err _ _ _ is (λ n h. absurd (not_failed _ _ _ c.in_err-inner.ensures.read n h.frame))

pub returns-in_err-names-clause-followed : goal.returns-in_err-names-clause-followed
returns-in_err-names-clause-followed c =
    let is : c.from_residual-in_err-names.result ≡ Err c.in_err-names.field-0.0 = search rules in
    on_err _ _ _ is (λ n h. c.in_err-names.ensures.followed n h.names _ (inner_names c.args.profile _ _ c.in_ok-inner.ensures.read h))

pub returns-clause-followed : goal.returns-clause-followed
returns-clause-followed c = not_followed c.args.profile (lexed c.args.text.now) (lexed c.in_ok-inner.inner.now) (names_of c.in_ok-names.names) _ c.in_ok-inner.ensures.read c.in_ok-names.ensures.read
