use Rattle.std.proofs.Common.{Some, ap, ◌∙◌, rules}
use Rattle.std.specs.Prelude.{codes}
use Rattle.std.specs.Option.{option_map}
use Rattle.wm_tokens.specs.declared.faults.TextWhy.{TextWhy}
use Rattle.wm_bodies.specs.exact.Reading.{◌>>=◌, made}
use Rattle.wm_tokens.specs.exact.Scan.{lexed}
use Rattle.wm_bodies.specs.exact.TypeUses.{groups_at, joined, named_at}
use Rattle.wm_bodies.specs.exact.NamedUses.{named_use_at, used_of}
use Rattle.wm_bodies.specs.inner.Blocks.{names_of}
use Rattle.wm_bodies.specs.inner.Named.{named_list, params_of}
use Rattle.wm_bodies.specs.inner.Views.{Fails}
use Rattle.wm_bodies.proofs.Ends.{index_stands}
use Rattle.wm_bodies.proofs.Groups.{fails_refused, fails_use}
use Rattle.wm_bodies.proofs.NamedUses.{named_ends, named_untyped, named_params_fail, named_results_fail}
use Rattle.wm_bodies.proofs.named_uses.named_use.Goals as goal

pub misfit-requires : goal.misfit-requires
misfit-requires c = index_stands (names_of c.args.names.now).types (lexed c.args.text.now) (c.in_ok-index.index, lexed c.in_ok-index.rest.now) c.in_ok-index.ensures

pub returns-in-Some-2 : goal.returns-in-Some-2
returns-in-Some-2 c =
    named_ends c.args.profile (names_of c.args.names.now) c.in_ok-index.index c.in-Some.ty.now (named_list c.in_ok-params-in-Some.params.items) c.in_ok-results-in-Some.results.items
    (option_map params_of c.in_ok-params-in-Some-2.field-0) (lexed c.args.text.now) (lexed c.in_ok-index.rest.now) (lexed c.in_ok-params-in-Some.rest.now) (lexed c.in_ok-results-in-Some.rest.now)
    c.in_ok-index.ensures c.in-Some.ensures c.in_ok-params-in-Some.ensures c.in_ok-results-in-Some.ensures
    (c.in_ok-params-in-Some-2.ensures ∙ ap (used_of c.in-Some.ty.now (named_list c.in_ok-params-in-Some.params.items)) c.deref.ensures.value)
    ∙ ap (λ o. ◌>>=◌ (option_map params_of o) (λ qs. Some ((c.in_ok-index.index, qs), lexed c.in_ok-results-in-Some.rest.now))) c.in-Some-2.is

pub returns-in-Some : goal.returns-in-Some
returns-in-Some c =
    fails_refused _ (named_use_at c.args.profile (names_of c.args.names.now) (lexed c.args.text.now)) c.misfit.ensures
    (named_ends c.args.profile (names_of c.args.names.now) c.in_ok-index.index c.in-Some.ty.now (named_list c.in_ok-params-in-Some.params.items) c.in_ok-results-in-Some.results.items
    (option_map params_of c.in_ok-params-in-Some-2.field-0) (lexed c.args.text.now) (lexed c.in_ok-index.rest.now) (lexed c.in_ok-params-in-Some.rest.now) (lexed c.in_ok-results-in-Some.rest.now)
    c.in_ok-index.ensures c.in-Some.ensures c.in_ok-params-in-Some.ensures c.in_ok-results-in-Some.ensures
    (c.in_ok-params-in-Some-2.ensures ∙ ap (used_of c.in-Some.ty.now (named_list c.in_ok-params-in-Some.params.items)) c.deref.ensures.value)
    ∙ ap (λ o. ◌>>=◌ (option_map params_of o) (λ qs. Some ((c.in_ok-index.index, qs), lexed c.in_ok-results-in-Some.rest.now))) c.in-None-2.is)

pub returns : goal.returns
returns c =
    fails_use _ (named_use_at c.args.profile (names_of c.args.names.now) (lexed c.args.text.now)) c.refuse_index.ensures
    (named_untyped c.args.profile (names_of c.args.names.now) c.in_ok-index.index (lexed c.args.text.now) (lexed c.in_ok-index.rest.now) c.in_ok-index.ensures c.in-None.ensures)

pub returns-in_err-params-in-Some : goal.returns-in_err-params-in-Some
returns-in_err-params-in-Some c =
    let p : (w : TextWhy) → Fails w (named_at c.args.profile (codes "param") (lexed c.in_ok-index.rest.now)) → Fails w (named_use_at c.args.profile (names_of c.args.names.now) (lexed c.args.text.now)) =
    λ w h. named_params_fail c.args.profile (names_of c.args.names.now) c.in_ok-index.index w (lexed c.args.text.now) (lexed c.in_ok-index.rest.now) c.in_ok-index.ensures h in
    search (rules, p)

pub returns-in_err-results-in-Some : goal.returns-in_err-results-in-Some
returns-in_err-results-in-Some c =
    let p : (w : TextWhy) → Fails w (made joined (groups_at c.args.profile (codes "result") (lexed c.in_ok-params-in-Some.rest.now))) → Fails w (named_use_at c.args.profile (names_of c.args.names.now) (lexed c.args.text.now)) =
    λ w h. named_results_fail c.args.profile (names_of c.args.names.now) c.in_ok-index.index (named_list c.in_ok-params-in-Some.params.items) w (lexed c.args.text.now) (lexed c.in_ok-index.rest.now) (lexed c.in_ok-params-in-Some.rest.now)
    c.in_ok-index.ensures c.in_ok-params-in-Some.ensures h in
    search (rules, p)
