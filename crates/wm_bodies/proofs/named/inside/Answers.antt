use Rattle.std.proofs.Common.{◌≡◌, ◌∷◌, sym, ap, ◌∙◌}
use Rattle.wm_tokens.specs.Tokens.{atom}
use Rattle.wm_tokens.specs.exact.Scan.{lexed}
use Rattle.wm_tokens.specs.inner.Lexemes.{token_of}
use Rattle.wm_bodies.specs.inner.Named.{named_list}
use Rattle.wm_bodies.proofs.NamedGroups.{reads_other}
use Rattle.wm_bodies.proofs.named.inside.Goals as goal

pub returns-else-is_id : goal.returns-else-is_id
returns-else-is_id c =
    let a = c.in-Some-Atom-default in
    let token : lexed c.args.text.now ≡ atom a.atom.now ∷ lexed a.rest.now = a.ensures.token ∙ ap (λ t. token_of t ∷ lexed a.rest.now) a.field-0-0-is in
    reads_other c.args.profile _ c.unnamed.result (named_list c.args.named.now.items) a.atom.now (lexed c.args.text.now) (lexed a.rest.now) token (sym c.is_id.ensures ∙ c.if-is_id.false) c.unnamed.ensures
