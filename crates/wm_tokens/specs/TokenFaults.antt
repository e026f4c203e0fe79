-- The lexical errors of a text, and their offsets. The argument `floats` is true if there are floats. Without
-- them, an atom that only has the form of a float is no token. Core spec 6.2 and 6.3.
use Rattle.std.specs.Prelude.{◌≡◌, ◌≢◌, ℕ, ◌+◌, ◌⊎◌, ◌↔◌, List, [], ◌∷◌, ◌++◌, Bool, IsTrue, IsUtf8}
use Rattle.std.specs.Prelude.{codes, length}
use Rattle.std.specs.Str.{IsValidUpTo}
use Rattle.wm_syntax.specs.declared.profile.Profile.{Profile}
use Rattle.wm_syntax.specs.declared.profile.Feature.TheVariants.{Floats}
use Rattle.wm_syntax.specs.Profiles.{has}
use Rattle.wm_syntax.specs.Spelling.{Form, Byte, Exactly, Each, ◌▸◌, ◌∣◌}
use Rattle.wm_tokens.specs.Tokens.{Token, atom, CommentRest, Blank, LastSpace, IsIdentifier, IsNumber, IsWord}
use Rattle.wm_tokens.specs.Tokens.{StringElement, IsDigit, Digits, TokenText, Ends}
use Rattle.wm_tokens.specs.declared.faults.TextWhy.{TextWhy}
use Rattle.wm_tokens.specs.declared.faults.TextWhy.TheVariants.{NotUtf8, BadToken, OpenComment, OpenString}
use Rattle.wm_tokens.specs.declared.faults.TextWhy.TheVariants.{BadEscape, Expected, Memory}

-- The token is one if there are floats. Without floats, an atom must be an identifier, a number or a keyword.
abbrev pub IsAmong : Bool → Token → Type 0
IsAmong floats (atom a) = IsTrue floats ⊎ IsIdentifier a ⊎ IsNumber a ⊎ IsWord a
IsAmong floats _ = Unit {0}

-- The text is some white space and tokens, and then the rest.
pub data LeadsTo : Bool → List ℕ → List ℕ → Type 0 where
  here : {floats : Bool} {text : List ℕ} → LeadsTo floats text text
  over_blank : {floats : Bool} {text rest b : List ℕ} (part : List ℕ) → LeadsTo floats text b
      → b ≡ part ++ rest → Blank part → LeadsTo floats text rest
  over_token : {floats : Bool} {text rest b : List ℕ} (part : List ℕ) (t : Token) → LeadsTo floats text b
      → b ≡ part ++ rest → TokenText t part → Ends t rest → IsAmong floats t → LeadsTo floats text rest

-- Neither white space nor a token begins here, and the rest is not the white space at the end of a text.
abbrev pub BeginsNothing : Bool → List ℕ → Type 0
BeginsNothing floats b = (LastSpace b → ⊥) × ((part rest : List ℕ) → b ≡ part ++ rest → (Blank part → ⊥)
    × ((t : Token) → TokenText t part → Ends t rest → IsAmong floats t → ⊥))

-- A block comment begins here, and the text ends inside it.
abbrev pub EndsInComment : List ℕ → Type 0
EndsInComment b = (inside : List ℕ) × (b ≡ codes "(;" ++ inside)
    × ((part rest : List ℕ) → inside ≡ part ++ rest → CommentRest part → ⊥)

-- An escape that is cut off: `\` alone or with a digit; `\u`; `\u{`; or `\u{` and digits, perhaps with an
-- underscore after them.
abbrev pub EscapeFront : Form ℕ
EscapeFront b = (b ≡ codes "\\") ⊎ ((h : ℕ) × (Byte 92 ▸ IsDigit 16 h) b) ⊎ (b ≡ codes "\\u")
    ⊎ (b ≡ codes "\\u{")
    ⊎ ((ds : List ℕ) × (Exactly (codes "\\u{") ▸ Digits 16 ds ▸ (Exactly [] ∣ Byte 95)) b)

-- Any elements of a string.
abbrev pub Elements : Form ℕ
Elements b = (parts : List (List ℕ)) × Each StringElement parts b

-- A string begins here, and the text ends inside it, perhaps in an escape.
abbrev pub EndsInString : Form ℕ
EndsInString = Byte 34 ▸ Elements ▸ (Exactly [] ∣ EscapeFront)

-- A `\` that begins no element of a string, although the text does not end inside an escape.
abbrev pub NoEscape : Form ℕ
NoEscape b = (c : List ℕ) × (b ≡ 92 ∷ c) × (EscapeFront b → ⊥)
    × ((given part rest : List ℕ) → b ≡ part ++ rest → StringElement given part → ⊥)

-- A string begins here, and after some elements it has a malformed escape.
abbrev pub HasNoEscape : Form ℕ
HasNoEscape = Byte 34 ▸ Elements ▸ NoEscape

-- The meaning of each of the four names, for the text that begins here. `BadToken` is every lexical error that
-- none of the other three is.
abbrev pub BeginsFault : Bool → TextWhy → List ℕ → Type 0
BeginsFault floats OpenComment b = EndsInComment b
BeginsFault floats OpenString b = EndsInString b
BeginsFault floats BadEscape b = HasNoEscape b
BeginsFault floats BadToken b = BeginsNothing floats b × (EndsInComment b → ⊥) × (EndsInString b → ⊥)
    × (HasNoEscape b → ⊥)
BeginsFault floats _ b = ⊥

-- The offset of a lexical error: the number of bytes before the rest that begins with it. It is the length of
-- the text if the text ends inside a comment or a string.
abbrev pub IsPlace : TextWhy → List ℕ → List ℕ → ℕ → Type 0
IsPlace OpenComment text rest at = at ≡ length text
IsPlace OpenString text rest at = at ≡ length text
IsPlace _ text rest at = at + length rest ≡ length text

-- The text is UTF-8, and its first lexical error has this name and this offset.
pub record FirstFault (floats : Bool) (text : List ℕ) (why : TextWhy) (at : ℕ) : Type 0 where
  pub rest : List ℕ
  pub utf8 : IsUtf8 text
  pub leads : LeadsTo floats text rest
  pub fault : BeginsFault floats why rest
  pub place : IsPlace why text rest at

-- The four names of lexical errors.
abbrev pub IsOfTokens : TextWhy → Type 0
IsOfTokens BadToken = Unit {0}
IsOfTokens OpenComment = Unit {0}
IsOfTokens OpenString = Unit {0}
IsOfTokens BadEscape = Unit {0}
IsOfTokens _ = ⊥

-- The answer has one of the four names if and only if the text has a lexical error. It then has the name and
-- the offset of the first one.
abbrev pub TellsFault : Bool → List ℕ → TextWhy → ℕ → Type 0
TellsFault floats text why at =
    (w : TextWhy) (n : ℕ) → FirstFault floats text w n ↔ (IsOfTokens w × (why ≡ w) × (at ≡ n))

-- The names that a refusal at the end of a text may have. Another token is needed, a comment or a string does
-- not end, or memory ran out.
abbrev pub IsOfEnd : TextWhy → Type 0
IsOfEnd Expected = Unit {0}
IsOfEnd OpenComment = Unit {0}
IsOfEnd OpenString = Unit {0}
IsOfEnd Memory = Unit {0}
IsOfEnd _ = ⊥

-- The claims of a refusal of a text, about its bytes, its tokens and its end. It is `NotUtf8` if and only if
-- the bytes are not UTF-8. The offset is then the length of their longest front that is UTF-8. Unless memory
-- ran out, it is the first lexical error under the profile if there is one, and no lexical error otherwise. At
-- the end of the text it has one of four names.
abbrev pub TellsText : Profile → List ℕ → TextWhy → ℕ → Type 0
TellsText p text why at = ((why ≡ NotUtf8) ↔ (IsUtf8 text → ⊥))
    × (why ≡ NotUtf8 → IsValidUpTo text at) × (why ≢ Memory → TellsFault (has p Floats) text why at)
    × (at ≡ length text → IsOfEnd why)
