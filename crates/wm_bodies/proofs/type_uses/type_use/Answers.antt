use Rattle.std.proofs.Common.{◌≡◌, None, ◌∙◌, ap, rules}
use Rattle.std.specs.Prelude.{codes}
use Rattle.wm_bodies.specs.exact.Reading.{made}
use Rattle.wm_tokens.specs.exact.Scan.{lexed}
use Rattle.wm_bodies.specs.exact.TypeUses.{call_use_at, fits, groups_at, joined}
use Rattle.wm_bodies.specs.inner.Blocks.{names_of}
use Rattle.wm_bodies.proofs.Ends.{index_stands}
use Rattle.wm_bodies.proofs.Groups.{use_found, use_wrong, use_untyped, call_found, call_form, call_none, params_fail, results_fail, fails_at, fails_use}
use Rattle.wm_tokens.specs.declared.faults.TextWhy.{TextWhy}
use Rattle.wm_bodies.specs.inner.Views.{Fails}
use Rattle.wm_bodies.proofs.type_uses.type_use.Goals as goal

pub refuse_index-requires : goal.refuse_index-requires
refuse_index-requires c = index_stands (names_of c.args.names.now).types (lexed c.args.text.now) (c.in_ok-x.x, lexed c.in_ok-x.rest.now) c.in_ok-x.ensures

pub returns-then-fits : goal.returns-then-fits
returns-then-fits c =
    call_found c.args.profile (names_of c.args.names.now) c.in_ok-x.x (lexed c.args.text.now) (lexed c.in_ok-results-in-Some.rest.now)
    (use_found c.args.profile (names_of c.args.names.now) c.in_ok-x.x c.in-Some.ty.now c.in_ok-params-in-Some.params.items c.in_ok-results-in-Some.results.items
    (lexed c.args.text.now) (lexed c.in_ok-x.rest.now) (lexed c.in_ok-params-in-Some.rest.now) (lexed c.in_ok-results-in-Some.rest.now)
    c.in_ok-x.ensures c.in-Some.ensures c.in_ok-params-in-Some.ensures c.in_ok-results-in-Some.ensures
    (c.if-fits.ensures ∙ ap (λ z. fits c.in-Some.ty.now z c.deref-in-Some.result.now) c.deref.ensures.value
    ∙ ap (λ z. fits c.in-Some.ty.now c.in_ok-params-in-Some.params.items z) c.deref-in-Some.ensures.value))
    (search rules)

pub returns-in-Some : goal.returns-in-Some
returns-in-Some c =
    fails_use _ (call_use_at c.args.profile (names_of c.args.names.now) (lexed c.args.text.now)) c.refuse_index.ensures
    (call_none c.args.profile (names_of c.args.names.now) (lexed c.args.text.now) (use_wrong c.args.profile (names_of c.args.names.now) c.in_ok-x.x c.in-Some.ty.now c.in_ok-params-in-Some.params.items c.in_ok-results-in-Some.results.items
    (lexed c.args.text.now) (lexed c.in_ok-x.rest.now) (lexed c.in_ok-params-in-Some.rest.now) (lexed c.in_ok-results-in-Some.rest.now)
    c.in_ok-x.ensures c.in-Some.ensures c.in_ok-params-in-Some.ensures c.in_ok-results-in-Some.ensures
    (c.if-fits.ensures ∙ ap (λ z. fits c.in-Some.ty.now z c.deref-in-Some.result.now) c.deref.ensures.value
    ∙ ap (λ z. fits c.in-Some.ty.now c.in_ok-params-in-Some.params.items z) c.deref-in-Some.ensures.value)))

pub returns : goal.returns
returns c =
    fails_use _ (call_use_at c.args.profile (names_of c.args.names.now) (lexed c.args.text.now)) c.refuse_index-in-None.ensures
    (call_none c.args.profile (names_of c.args.names.now) (lexed c.args.text.now)
    (use_untyped c.args.profile (names_of c.args.names.now) c.in_ok-x.x (lexed c.args.text.now) (lexed c.in_ok-x.rest.now) c.in_ok-x.ensures c.in-None.ensures))

pub returns-in_err-params-in-Some : goal.returns-in_err-params-in-Some
returns-in_err-params-in-Some c =
    let p : (w : TextWhy) → Fails w (made joined (groups_at c.args.profile (codes "param") (lexed c.in_ok-x.rest.now))) → Fails w (call_use_at c.args.profile (names_of c.args.names.now) (lexed c.args.text.now)) =
    λ w h. params_fail c.args.profile (names_of c.args.names.now) c.in_ok-x.x w (lexed c.args.text.now) (lexed c.in_ok-x.rest.now) c.in_ok-x.ensures h in
    search (rules, p)

pub returns-in_err-results-in-Some : goal.returns-in_err-results-in-Some
returns-in_err-results-in-Some c =
    let p : (w : TextWhy) → Fails w (made joined (groups_at c.args.profile (codes "result") (lexed c.in_ok-params-in-Some.rest.now))) → Fails w (call_use_at c.args.profile (names_of c.args.names.now) (lexed c.args.text.now)) =
    λ w h. results_fail c.args.profile (names_of c.args.names.now) c.in_ok-x.x c.in_ok-params-in-Some.params.items w (lexed c.args.text.now) (lexed c.in_ok-x.rest.now) (lexed c.in_ok-params-in-Some.rest.now) c.in_ok-x.ensures c.in_ok-params-in-Some.ensures h in
    search (rules, p)

pub returns-in_err-no_form-in-Some : goal.returns-in_err-no_form-in-Some
returns-in_err-no_form-in-Some c =
    let none : call_use_at c.args.profile (names_of c.args.names.now) (lexed c.args.text.now) ≡ None =
    call_form c.args.profile (names_of c.args.names.now) c.in_ok-x.x c.in-Some.ty.now c.in_ok-params-in-Some.params.items c.in_ok-results-in-Some.results.items
    (lexed c.args.text.now) (lexed c.in_ok-x.rest.now) (lexed c.in_ok-params-in-Some.rest.now) (lexed c.in_ok-results-in-Some.rest.now)
    c.in_ok-x.ensures c.in-Some.ensures c.in_ok-params-in-Some.ensures c.in_ok-results-in-Some.ensures c.in_err-no_form-in-Some.ensures.form.1 in
    let p : Fails c.in_err-no_form-in-Some.field-0.0.why (call_use_at c.args.profile (names_of c.args.names.now) (lexed c.args.text.now)) =
    fails_at c.in_err-no_form-in-Some.field-0.0.why (call_use_at c.args.profile (names_of c.args.names.now) (lexed c.args.text.now)) c.in_err-no_form-in-Some.ensures.form.0 none in
    search (rules, p)
