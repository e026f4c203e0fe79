-- The tokens of a text, read from its first byte to its last.
use Rattle.std.specs.Prelude.{ℕ, suc, zero, ◌+◌, ◌*◌, ◌==◌, ◌&&◌, not, List, [], ◌∷◌, ◌++◌, Bool, true, false}
use Rattle.std.specs.Prelude.{Option, Some, None, if◌then◌else◌, length, nat_lt, encode_utf8, ◌≡◌, min}
use Rattle.std.specs.Option.{option_map}
use Rattle.wm_tokens.specs.Tokens.{Token, open_paren, close_paren, string, atom, is_space, is_id_char, is_lower}
use Rattle.wm_tokens.specs.Tokens.{is_string_char, is_scalar, digit_value}
use Rattle.wm_floats.specs.exact.Atoms.{has_form}
use Rattle.wm_tokens.specs.declared.faults.TextWhy.{TextWhy}
use Rattle.wm_tokens.specs.declared.faults.TextWhy.TheVariants.{BadToken, OpenComment, OpenString, BadEscape}
use Rattle.wm_tokens.specs.declared.scan.Class.{Class}
use Rattle.wm_tokens.specs.declared.scan.Class.TheVariants.{Space, Semicolon, Opening, Closing}
use Rattle.wm_tokens.specs.declared.scan.Class.TheVariants.{Quote, Atom}
use Rattle.wm_tokens.specs.declared.scan.Class.TheVariants.{Other}
use Rattle.wm_tokens.specs.declared.scan.Mode.{Mode}
use Rattle.wm_tokens.specs.declared.scan.Mode.TheVariants.{Plain, Escape, Low, Brace, Digits}
use Rattle.wm_tokens.specs.declared.scan.Step.{Step}
use Rattle.wm_tokens.specs.declared.scan.Step.TheVariants.{On, Byte, Scalar, End, Bad}

unfoldable pub class_of : ℕ → Class
class_of c =
    if is_space c then Space else if c == 59 then Semicolon else if c == 40 then Opening
    else if c == 41 then Closing
    else if c == 34 then Quote else if is_id_char c then Atom else Other

-- The text after the white space bytes at its start; comments stay.
abbrev pub after_spaces : List ℕ → List ℕ
after_spaces [] = []
after_spaces (c ∷ b) = if is_space c then after_spaces b else c ∷ b

-- The text after the end of a line comment.
abbrev pub after_line : List ℕ → List ℕ
after_line [] = []
after_line (c ∷ b) = if c == 10 then b else after_line b

-- The text after the end of a block comment that has `n` open comments inside it.
abbrev pub after_comment : ℕ → List ℕ → Option (List ℕ)
after_comment n [] = None
after_comment n (c ∷ []) = None
after_comment zero (c ∷ d ∷ b) = if (c == 59) && (d == 41) then Some b
    else if (c == 40) && (d == 59) then after_comment 1 b else after_comment zero (d ∷ b)
after_comment (suc n) (c ∷ d ∷ b) = if (c == 59) && (d == 41) then after_comment n b
    else if (c == 40) && (d == 59) then after_comment (suc (suc n)) b else after_comment (suc n) (d ∷ b)

-- The start of the text inside a block comment.
pub data CommentPart : Type 0 where
  close : List ℕ → CommentPart
  opening : List ℕ → CommentPart
  on : List ℕ → CommentPart
  over : CommentPart

unfoldable pub comment_part : List ℕ → CommentPart
comment_part [] = over
comment_part (c ∷ []) = on []
comment_part (c ∷ d ∷ b) = if (c == 59) && (d == 41) then close b
    else if (c == 40) && (d == 59) then opening b else on (d ∷ b)

-- The byte that an escape of one letter gives.
abbrev pub short_escape : ℕ → Option ℕ
short_escape c =
    if c == 116 then Some 0x09 else if c == 110 then Some 0x0A else if c == 114 then Some 0x0D
    else if c == 34 then Some 0x22
    else if c == 39 then Some 0x27 else if c == 92 then Some 0x5C else None

-- The number; every number beyond the last scalar value becomes 0x110000.
abbrev pub capped : ℕ → ℕ
capped n = if nat_lt n 0x11_0000 then n else 0x11_0000

abbrev pub with_digit : {X : Type 0} → ℕ → ℕ → X → (ℕ → X) → X
with_digit base c none some =
    elim (digit_value c) [ None ↦ none | Some d ↦ if nat_lt d base then some d else none ]

abbrev pub first_escape : Option ℕ → ℕ → Step
first_escape (Some byte) c = Byte byte
first_escape None c = if c == 117 then On Brace else with_digit 16 c Bad (λ d. On (Low d))

unfoldable pub string_step : Mode → ℕ → Step
string_step Plain c = if c == 34 then End else if c == 92 then On Escape else if is_string_char c then Byte c
    else Bad
string_step Escape c = first_escape (short_escape c) c
string_step (Low h) c = with_digit 16 c Bad (λ d. Byte (h * 16 + d))
string_step Brace c = if c == 123 then On (Digits 0 false) else Bad
string_step (Digits n after) c =
    if (c == 95) && after then On (Digits n false) else if (c == 125) && (after && is_scalar n) then Scalar n
    else with_digit 16 c Bad (λ d. On (Digits (capped (n * 16 + d)) true))

abbrev pub giving : List ℕ → Option (List ℕ × List ℕ) → Option (List ℕ × List ℕ)
giving part None = None
giving part (Some x) = Some (part ++ x.0, x.1)

abbrev pub string_next : Step → List ℕ → (Mode → Option (List ℕ × List ℕ)) → Option (List ℕ × List ℕ)
string_next (On mode) b more = more mode
string_next (Byte byte) b more = giving (byte ∷ []) (more Plain)
string_next (Scalar n) b more = giving (encode_utf8 n) (more Plain)
string_next End b more = Some ([], b)
string_next Bad b more = None

-- The bytes that the rest of a string gives, and the text after it.
abbrev pub string_in : Mode → List ℕ → Option (List ℕ × List ℕ)
string_in mode [] = None
string_in mode (c ∷ b) = string_next (string_step mode c) b (λ m. string_in m b)

-- The characters of atoms at the start of the text, and the text after them.
abbrev pub atom_in : List ℕ → List ℕ × List ℕ
atom_in [] = ([], [])
atom_in (c ∷ b) = if is_id_char c then (c ∷ (atom_in b).0, (atom_in b).1) else ([], c ∷ b)

abbrev pub digits_in : ℕ → ℕ → Bool → List ℕ → Option ℕ
digits_in base n true [] = Some n
digits_in base n false [] = None
digits_in base n after (c ∷ b) = if (c == 95) && after then digits_in base n false b
    else with_digit base c None (λ d. digits_in base (n * base + d) true b)

-- The value of digits, or 2^64 if it is greater.
abbrev pub number_in : ℕ → ℕ → Bool → List ℕ → Option ℕ
number_in base n after b = option_map (λ k. min k 0x1_0000_0000_0000_0000) (digits_in base n after b)

-- The number after one more character, and whether this character is a digit.
unfoldable pub number_next : ℕ → ℕ → Bool → ℕ → Option (ℕ × Bool)
number_next base n after c = if (c == 95) && after then Some (n, false)
    else with_digit base c None (λ d. Some (min (n * base + d) 0x1_0000_0000_0000_0000, true))

-- The value of a number without a sign, which is hexadecimal after `0x`.
abbrev pub magnitude_of : List ℕ → Option ℕ
magnitude_of [] = None
magnitude_of (c ∷ []) = digits_in 10 0 false (c ∷ [])
magnitude_of (c ∷ d ∷ b) = if (c == 48) && (d == 120) then digits_in 16 0 false b
    else digits_in 10 0 false (c ∷ d ∷ b)

abbrev pub is_some : {A : Type 0} → Option A → Bool
is_some None = false
is_some (Some x) = true

abbrev pub is_number : List ℕ → Bool
is_number [] = false
is_number (c ∷ b) = if (c == 43) then is_some (magnitude_of b) else if c == 45 then is_some (magnitude_of b)
    else is_some (magnitude_of (c ∷ b))

-- The form of a float, with or without a sign.
abbrev pub is_literal : List ℕ → Bool
is_literal [] = false
is_literal (c ∷ b) = if c == 43 then has_form b else if c == 45 then has_form b else has_form (c ∷ b)

abbrev pub is_nil : List ℕ → Bool
is_nil [] = true
is_nil (c ∷ b) = false

abbrev pub is_atom : List ℕ → Bool
is_atom [] = false
is_atom (c ∷ b) = if c == 36 then not (is_nil b) else if is_lower c then true
    else if is_number (c ∷ b) then true else is_literal (c ∷ b)

-- An atom that is a token only as a float.
abbrev pub is_float_alone : List ℕ → Bool
is_float_alone [] = false
is_float_alone (c ∷ b) = if c == 36 then false else if is_lower c then false
    else is_literal (c ∷ b) && not (is_number (c ∷ b))

-- The start of a text, and the text after it.
pub data Ahead : Type 0 where
  no_more : Ahead
  blank : List ℕ → Ahead
  first : Token → List ℕ → Ahead
  fault : Ahead

abbrev pub blank_or_fault : Option (List ℕ) → Ahead
blank_or_fault None = fault
blank_or_fault (Some b) = blank b

abbrev pub string_or_fault : Option (List ℕ × List ℕ) → Ahead
string_or_fault None = fault
string_or_fault (Some x) = first (string x.0) x.1

abbrev pub ahead_semicolon : List ℕ → Ahead
ahead_semicolon [] = fault
ahead_semicolon (d ∷ b) = if d == 59 then blank (after_line b) else fault

abbrev pub ahead_opening : List ℕ → Ahead
ahead_opening [] = first open_paren []
ahead_opening (d ∷ b) = if d == 59 then blank_or_fault (after_comment zero b) else first open_paren (d ∷ b)

abbrev pub ahead_by : Class → ℕ → List ℕ → Ahead
ahead_by Space c b = blank b
ahead_by Semicolon c b = ahead_semicolon b
ahead_by Opening c b = ahead_opening b
ahead_by Closing c b = first close_paren b
ahead_by Quote c b = string_or_fault (string_in Plain b)
ahead_by Atom c b = if is_atom (c ∷ (atom_in b).0) then first (atom (c ∷ (atom_in b).0)) (atom_in b).1
    else fault
ahead_by Other c b = fault

unfoldable pub ahead : List ℕ → Ahead
ahead [] = no_more
ahead (c ∷ b) = ahead_by (class_of c) c b

-- The tokens with one more token before them.
abbrev pub adding : Token → Option (List Token) → Option (List Token)
adding t None = None
adding t (Some k) = Some (t ∷ k)

abbrev pub going : (List ℕ → Option (List Token)) → Ahead → Option (List Token)
going more no_more = Some []
going more (blank b) = more b
going more (first t b) = adding t (more b)
going more fault = None

abbrev pub tokens_within : ℕ → List ℕ → Option (List Token)
tokens_within zero b = None
tokens_within (suc n) b = going (tokens_within n) (ahead b)

-- The tokens of the text, if it has any.
unfoldable pub tokens_of : List ℕ → Option (List Token)
tokens_of b = tokens_within (suc (length b)) b

abbrev pub has_tokens : List ℕ → Bool
has_tokens b = is_some (tokens_of b)

-- The tokens before the first lexical error.
abbrev pub lexing : (List ℕ → List Token) → Ahead → List Token
lexing more no_more = []
lexing more (blank b) = more b
lexing more (first t b) = t ∷ more b
lexing more fault = []

abbrev pub lexed_within : ℕ → List ℕ → List Token
lexed_within zero b = []
lexed_within (suc n) b = lexing (lexed_within n) (ahead b)

unfoldable pub lexed : List ℕ → List Token
lexed b = lexed_within (suc (length b)) b

-- The bytes that the rest of a string gives, before its end or its first error.
abbrev pub given_next : Step → (Mode → List ℕ) → List ℕ
given_next (On mode) more = more mode
given_next (Byte byte) more = byte ∷ more Plain
given_next (Scalar n) more = encode_utf8 n ++ more Plain
given_next End more = []
given_next Bad more = []

abbrev pub given_in : Mode → List ℕ → List ℕ
given_in mode [] = []
given_in mode (c ∷ b) = given_next (string_step mode c) (λ m. given_in m b)

-- The first byte that a string gives, and the text after it, if at most `n` characters write it.
abbrev pub byte_next : Step → List ℕ → (Mode → Option (ℕ × List ℕ)) → Option (ℕ × List ℕ)
byte_next (On mode) b more = more mode
byte_next (Byte byte) b more = Some (byte, b)
byte_next _ b more = None

unfoldable pub byte_at : ℕ → Mode → List ℕ → Option (ℕ × List ℕ)
byte_at zero mode b = None
byte_at (suc n) mode [] = None
byte_at (suc n) mode (c ∷ b) = byte_next (string_step mode c) b (λ m. byte_at n m b)

-- The text after a string.
abbrev pub rest_of : Option (List ℕ × List ℕ) → Option (List ℕ)
rest_of None = None
rest_of (Some x) = Some x.1

-- The text begins with a character of atoms.
abbrev pub starts_atom : List ℕ → Type 0
starts_atom [] = ⊥
starts_atom (c ∷ b) = class_of c ≡ Atom

-- The error for a byte that is not allowed in a string.
abbrev pub bad_in : Mode → TextWhy
bad_in Plain = BadToken
bad_in _ = BadEscape

-- The error in the rest of a string, if it has one.
abbrev pub why_next : Mode → Step → (Mode → TextWhy) → TextWhy
why_next mode (On next) more = more next
why_next mode (Byte byte) more = more Plain
why_next mode (Scalar n) more = more Plain
why_next mode End more = BadToken
why_next mode Bad more = bad_in mode

abbrev pub why_in : Mode → List ℕ → TextWhy
why_in mode [] = OpenString
why_in mode (c ∷ b) = why_next mode (string_step mode c) (λ m. why_in m b)

-- The name of a lexical error at the start of the text.
abbrev pub told_by : Class → List ℕ → TextWhy
told_by Opening b = OpenComment
told_by Quote b = why_in Plain b
told_by _ b = BadToken

unfoldable pub told : List ℕ → TextWhy
told [] = BadToken
told (c ∷ b) = told_by (class_of c) b
