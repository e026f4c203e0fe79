-- Tokens from within a field up to the end of the text.
use Rattle.std.specs.Prelude.{◌≡◌, List, [], ◌∷◌, ◌++◌}
use Rattle.wm_tokens.specs.Tokens.{Token, close_paren}

-- The tokens are a suffix of tokens that end with two closing parentheses: a field's and the module's.
pub record IsTail (k : List Token) : Type 0 where
  pub before : List Token
  pub front : List Token
  pub whole : before ++ k ≡ front ++ close_paren ∷ close_paren ∷ []
