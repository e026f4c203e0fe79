use Rattle.std.proofs.Common.{◌≡◌, IfSome, arith, subst}
use Rattle.std.proofs.lemmas.List.{take_rest}
use Rattle.wm_tokens.specs.exact.Scan.{Ahead, first}
use Rattle.wm_tokens.specs.inner.Lexemes.{token_of}
use Rattle.wm_tokens.proofs.Ahead.{closes_first, opens_first, no_parenthesis, none_opened}
use Rattle.wm_tokens.proofs.lexeme.parenthesis.Goals as goal

pub returns-in_default-clause-none : goal.returns-in_default-clause-none
returns-in_default-clause-none c = no_parenthesis c.args.text.now (λ some e. omega arith) (λ some e. omega arith)

pub returns-in-41-clause-found : goal.returns-in-41-clause-found
returns-in-41-clause-found c = closes_first c.args.text.now _ (omega arith) (take_rest c.args.text.now 1)

pub returns-in-40-clause-found : goal.returns-in-40-clause-found
returns-in-40-clause-found c =
    subst (λ (z : Ahead). IfSome c.opening_alone.result (λ x. first (token_of x.0) x.1.now ≡ z))
    (opens_first c.args.text.now _ (omega arith) (take_rest c.args.text.now 1)) c.opening_alone.ensures.found

pub returns-in-40-clause-none : goal.returns-in-40-clause-none
returns-in-40-clause-none c = none_opened c.args.text.now _ c.opening_alone.result (omega arith) (take_rest c.args.text.now 1) c.opening_alone.ensures.none

pub returns-in_default-c-clause-none : goal.returns-in_default-c-clause-none
returns-in_default-c-clause-none c = no_parenthesis c.args.text.now (λ some e. omega (arith, c.in_default-c)) (λ some e. omega (arith, c.in_default-c))
