use Rattle.std.proofs.Common.{◌≡◌, ◌∷◌, sym, ap, ◌∙◌}
use Rattle.wm_tokens.specs.Tokens.{close_paren}
use Rattle.wm_tokens.specs.exact.Scan.{lexed}
use Rattle.wm_bodies.specs.inner.Blocks.{scope_of}
use Rattle.wm_tokens.specs.inner.Lexemes.{token_of}
use Rattle.wm_bodies.proofs.BodyLoop.{body_over, body_open, fails_by}
use Rattle.wm_bodies.proofs.bodies.read_body.Goals as goal

pub returns-in-None : goal.returns-in-None
returns-in-None c =
    let token : lexed c.loop-word.rest.now ≡ close_paren ∷ lexed c.in-Some-Close-default.field-0-1.now =
    c.in-Some-Close-default.ensures.token ∙ ap (λ t. token_of t ∷ lexed c.in-Some-Close-default.field-0-1.now) c.in-Some-Close-default.field-0-0-is in
    sym c.loop-word.invariant.same
    ∙ body_over c.args.profile (scope_of c.args.scope.now) c.loop-word.body.builder c.finish.result c.loop-word.body.blocks
    (lexed c.loop-word.rest.now) _ c.in-None.ensures token c.finish.ensures

pub returns-in-Some : goal.returns-in-Some
returns-in-Some c =
    let token : lexed c.loop-word.rest.now ≡ close_paren ∷ lexed c.in-Some-Close-default.field-0-1.now =
    c.in-Some-Close-default.ensures.token ∙ ap (λ t. token_of t ∷ lexed c.in-Some-Close-default.field-0-1.now) c.in-Some-Close-default.field-0-0-is in
    fails_by _ _ c.refuse.ensures.why (sym c.loop-word.invariant.same
    ∙ body_open c.args.profile (scope_of c.args.scope.now) c.loop-word.body.builder _ c.loop-word.body.blocks _
    (lexed c.loop-word.rest.now) _ c.in-Some.ensures token)
