-- Spans of a text that consist of white space bytes and plain atoms.
use Rattle.std.specs.Prelude.{◌≡◌, ◌<◌, ◌==◌, ◌⊎◌, ℕ, List, [], ◌∷◌, ◌++◌, true, if◌then◌else◌, length}
use Rattle.std.specs.List.{list_all}
use Rattle.wm_tokens.specs.Tokens.{atom, is_digit, is_id_char, is_lower, is_space, IsIdentifier, IsWord}
use Rattle.wm_tokens.specs.exact.Scan.{ahead, blank, first}

-- White space and atoms lead from the first text to the second.
pub data Passes : List ℕ → List ℕ → Type 0 where
  here : {b : List ℕ} → Passes b b
  over_blank : {b r s : List ℕ} → Passes b r → blank s ≡ ahead r → Passes b s
  over_atom : {b r s a : List ℕ} → Passes b r → first (atom a) s ≡ ahead r → Passes b s

-- The atom at hand after some bytes: none; a keyword, or an identifier of at least one character; decimal
-- digits; the `$` of an identifier. `other` if a byte came that no such span has.
pub data AtHand : Type 0 where
  nothing : AtHand
  word : AtHand
  digits : AtHand
  dollar : AtHand
  other : AtHand

-- The atom at hand after one more byte.
abbrev pub after_byte : AtHand → ℕ → AtHand
after_byte nothing c = if is_space c then nothing else if is_lower c then word else if is_digit c then digits
    else if c == 36 then dollar else other
after_byte word c = if is_space c then nothing else if is_id_char c then word else other
after_byte digits c = if is_space c then nothing else if is_digit c then digits else other
after_byte dollar c = if is_id_char c then word else other
after_byte other c = other

-- The state of the code's DFA: a bit position in its rows.
abbrev pub place_of : AtHand → ℕ
place_of nothing = 0
place_of word = 5
place_of digits = 10
place_of dollar = 15
place_of other = 20

-- The bytes of the atom at hand.
abbrev pub IsPart : AtHand → List ℕ → Type 0
IsPart nothing part = part ≡ []
IsPart word part = (list_all is_id_char part ≡ true) × (IsIdentifier part ⊎ IsWord part)
IsPart digits part = (list_all is_digit part ≡ true) × (0 < length part)
IsPart dollar part = part ≡ 36 ∷ []
IsPart other part = Unit {0}

-- The rest of a text, and the atom at hand before it.
abbrev pub Leads : List ℕ → AtHand → List ℕ → Type 0
Leads text hand rest = (part : List ℕ) × Passes text (part ++ rest) × IsPart hand part
