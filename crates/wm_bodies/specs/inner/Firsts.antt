-- The first token of a text.
use Rattle.std.specs.Prelude.{◌≡◌, ℕ, List, ◌∷◌, true}
use Rattle.wm_tokens.specs.Tokens.{Token, atom, is_lower}

-- The first token is an atom that begins with a lower-case letter.
abbrev pub BeginsWord : List Token → Type 0
BeginsWord k = (c : ℕ) × (a : List ℕ) × (j : List Token) × (k ≡ atom (c ∷ a) ∷ j) × (is_lower c ≡ true)
