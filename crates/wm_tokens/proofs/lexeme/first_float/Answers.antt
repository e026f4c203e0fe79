use Rattle.std.proofs.Common.{refl, sym, ap, ◌∙◌}
use Rattle.wm_tokens.specs.exact.Scan.{first}
use Rattle.wm_tokens.specs.inner.Lexemes.{token_of}
use Rattle.wm_tokens.proofs.Places.{float_here}
use Rattle.wm_tokens.proofs.lexeme.first_float.Goals as goal

pub returns-then-is_float_alone : goal.returns-then-is_float_alone
returns-then-is_float_alone c =
    float_here c.args.text.now c.loop-more.rest.now c.in-First-Atom-default.more.now c.in-First-Atom-default.atom.now _
    (ap (λ t. first (token_of t) c.in-First-Atom-default.more.now) (sym c.in-First-Atom-default.field-0-is) ∙ c.in-First-Atom-default.ensures) (sym c.is_float_alone.ensures ∙ c.if-is_float_alone.true) c.loop-more.invariant.steps refl
