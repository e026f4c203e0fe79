-- The tokens of a text. A text is the list of its bytes, and an ASCII character is its byte. Core spec 6.2 and
-- 6.3.
use Rattle.std.specs.Prelude.{◌≡◌, ◌≢◌, ℕ, ◌+◌, ◌-◌, ◌*◌, ◌^◌, ◌<◌, ◌≤◌, ◌⊎◌, ◌==◌, ◌&&◌, ◌||◌, not, List, []}
use Rattle.std.specs.Prelude.{◌∷◌, ◌++◌, Bool, false, IsTrue, IsFalse, IsUtf8, ℤ, pos}
use Rattle.std.specs.Prelude.{neg_ℤ, ◌-ℤ◌, flat_map, codes, length, nat_le, nat_lt}
use Rattle.std.specs.Prelude.{encode_utf8}
use Rattle.std.specs.List.{list_any, list_all, AllByRecursion}
use Rattle.wm_syntax.specs.Spelling.{Form, Byte, Exactly, Each, ◌▸◌, ◌∣◌}
use Rattle.wm_floats.specs.FloatText.{HasForm}
pub use Rattle.wm_floats.specs.Digits.{digit_value, IsDigit, Digits, value}

-- A token: a parenthesis; a string, given by the bytes that it means; or an atom, given by its characters.
-- Core spec 6.2.2.
pub data Token : Type 0 where
  open_paren : Token
  close_paren : Token
  string : List ℕ → Token
  atom : List ℕ → Token

-- Space, tab, line feed and carriage return. Core spec 6.2.3.
abbrev pub is_space : ℕ → Bool
is_space c = (c == 32) || (c == 9) || (c == 10) || (c == 13)

-- A line comment, without the line feed that ends it. Core spec 6.2.4.
abbrev pub LineComment : Form ℕ
LineComment = Exactly (codes ";;") ▸ (λ b. AllByRecursion (λ c. c ≢ 10) b)

-- The characters begin with `;)` or `(;`.
abbrev pub opens_or_ends : ℕ → List ℕ → Bool
opens_or_ends c [] = false
opens_or_ends c (d ∷ b) = ((c == 59) && (d == 41)) || ((c == 40) && (d == 59))

-- The rest of a block comment after its `(;`. It is `;)`; or a byte that begins neither `;)` nor `(;`, and then
-- a rest; or a block comment, and then a rest. Core spec 6.2.4.
pub data CommentRest : List ℕ → Type 0 where
  ends : {b : List ℕ} → b ≡ codes ";)" → CommentRest b
  plain : {c : ℕ} {b : List ℕ} → opens_or_ends c b ≡ false → CommentRest b → CommentRest (c ∷ b)
  nested : {b inner rest : List ℕ} → b ≡ codes "(;" ++ inner ++ rest → CommentRest inner → CommentRest rest
      → CommentRest b

abbrev pub BlockComment : Form ℕ
BlockComment = Exactly (codes "(;") ▸ CommentRest

-- One element of white space: a white space byte, a line comment with its line feed, or a block comment.
-- Core spec 6.2.3.
abbrev pub Blank : Form ℕ
Blank = (λ b. (c : ℕ) × (b ≡ c ∷ []) × IsTrue (is_space c)) ∣ (LineComment ▸ Byte 10) ∣ BlockComment

-- White space: any number of these elements.
abbrev pub Space : Form ℕ
Space b = (parts : List (List ℕ)) × Each (λ part b. (b ≡ part) × Blank part) parts b

-- White space at the end of the text, where a line comment may lack its line feed.
abbrev pub LastSpace : Form ℕ
LastSpace = Space ∣ (Space ▸ LineComment)

-- The characters of atoms, `idchar`. Core spec 6.3.5.
abbrev pub is_digit : ℕ → Bool
is_digit c = nat_le 48 c && nat_le c 57

abbrev pub is_lower : ℕ → Bool
is_lower c = nat_le 97 c && nat_le c 122

abbrev pub is_upper : ℕ → Bool
is_upper c = nat_le 65 c && nat_le c 90

abbrev pub is_id_char : ℕ → Bool
is_id_char c = is_digit c || is_lower c || is_upper c
    || list_any (λ d. c == d) (codes "!#$%&'*+-./:<=>?@\\^_`|~")

-- A number without a sign: decimal, or hexadecimal after `0x`. Core spec 6.3.1.
abbrev pub Magnitude : ℕ → Form ℕ
Magnitude n b =
    ((ds : List ℕ) × Digits 10 ds b × (n ≡ value 10 ds))
    ⊎ ((ds : List ℕ) × (Exactly (codes "0x") ▸ Digits 16 ds) b × (n ≡ value 16 ds))

-- A number of `bits` bits without a sign, `uN`. Core spec 6.3.1.
abbrev pub IsUnsigned : ℕ → ℕ → Form ℕ
IsUnsigned bits n b = (n < 2 ^ bits) × Magnitude n b

-- A constant of `bits` bits, `iN`. Without a sign, it is a number below 2^bits, and one in the upper half means
-- itself less 2^bits. With a sign, it is a number in the signed range. Core spec 6.3.1.
abbrev pub IsInteger : ℕ → ℤ → Form ℕ
IsInteger bits z b =
    (n : ℕ) × (((n < 2 ^ (bits - 1)) × (z ≡ pos n) × Magnitude n b)
    ⊎ ((2 ^ (bits - 1) ≤ n) × (n < 2 ^ bits) × (z ≡ pos n -ℤ pos (2 ^ bits)) × Magnitude n b)
    ⊎ ((n < 2 ^ (bits - 1)) × (z ≡ pos n) × (Byte 43 ▸ Magnitude n) b)
    ⊎ ((n ≤ 2 ^ (bits - 1)) × (z ≡ neg_ℤ (pos n)) × (Byte 45 ▸ Magnitude n) b))

-- An identifier: `$` and at least one character. Core spec 6.3.5.
abbrev pub IsIdentifier : List ℕ → Type 0
IsIdentifier [] = ⊥
IsIdentifier (c ∷ a) = (c ≡ 36) × (0 < length a)

-- A number, with or without a sign. Core spec 6.3.1.
abbrev pub IsNumber : List ℕ → Type 0
IsNumber a = (n : ℕ) × (Magnitude n a ⊎ (Byte 43 ▸ Magnitude n) a ⊎ (Byte 45 ▸ Magnitude n) a)

-- A keyword: it begins with a lower-case letter. Core spec 6.2.2.
abbrev pub IsWord : List ℕ → Type 0
IsWord [] = ⊥
IsWord (c ∷ a) = IsTrue (is_lower c)

-- The form of a float, with or without a sign, whatever its width. Core spec 6.3.2.
abbrev pub IsLiteral : List ℕ → Type 0
IsLiteral a = HasForm a ⊎ (Byte 43 ▸ HasForm) a ⊎ (Byte 45 ▸ HasForm) a

-- An atom: an identifier, a number, a float or a keyword. Any other characters in a row are `reserved` and no
-- token. Core spec 6.2.2.
abbrev pub IsAtom : List ℕ → Type 0
IsAtom a = IsTrue (list_all is_id_char a) × (IsIdentifier a ⊎ (IsNumber a ⊎ IsLiteral a) ⊎ IsWord a)

-- A character that means itself in a string: no control character, quotation mark or backslash.
-- Core spec 6.3.3.
abbrev pub is_string_char : ℕ → Bool
is_string_char c = nat_le 0x20 c && not (c == 0x7F) && not (c == 34) && not (c == 92)

-- The escapes `\t \n \r \" \' \\`, and the byte that each one gives.
abbrev pub short_escapes : List (ℕ × ℕ)
short_escapes = (116, 0x09) ∷ (110, 0x0A) ∷ (114, 0x0D) ∷ (34, 0x22) ∷ (39, 0x27) ∷ (92, 0x5C) ∷ []

-- The scalar values of Unicode.
abbrev pub is_scalar : ℕ → Bool
is_scalar c = nat_lt c 0xD800 || (nat_le 0xE000 c && nat_lt c 0x11_0000)

-- One element of a string, and the bytes that it gives. A byte may mean itself. An escape of one letter gives a
-- byte. `\` and two hexadecimal digits give a byte. `\u{`, hexadecimal digits and `}` give the UTF-8 of a
-- scalar value. Core spec 6.3.3.
abbrev pub StringElement : List ℕ → Form ℕ
StringElement given b =
    ((c : ℕ) × (given ≡ c ∷ []) × IsTrue (is_string_char c) × (b ≡ c ∷ []))
    ⊎ ((letter c : ℕ) × (given ≡ c ∷ []) × IsTrue (list_any (λ e. (e.0 == letter)
    && (e.1 == c)) short_escapes) × (b ≡ 92 ∷ letter ∷ []))
    ⊎ ((h l : ℕ) × (given ≡ (h * 16 + l) ∷ []) × (Byte 92 ▸ IsDigit 16 h ▸ IsDigit 16 l) b)
    ⊎ ((ds : List ℕ) × (given ≡ encode_utf8 (value 16 ds)) × IsTrue (is_scalar (value 16 ds))
    × (Exactly (codes "\\u{") ▸ Digits 16 ds ▸ Byte 125) b)

-- A string: its elements between quotation marks. Core spec 6.3.3.
abbrev pub String : List ℕ → Form ℕ
String bytes b = (parts : List (List ℕ)) × (bytes ≡ flat_map (λ part. part) parts)
    × (Byte 34 ▸ Each StringElement parts ▸ Byte 34) b

-- The text of a token.
abbrev pub TokenText : Token → Form ℕ
TokenText open_paren = Byte 40
TokenText close_paren = Byte 41
TokenText (string bytes) = String bytes
TokenText (atom a) = λ b. (b ≡ a) × IsAtom a

-- The text that may follow a token. An atom is as long as possible (Core spec 6.2.2), and `(;` begins a comment
-- (Core spec 6.2.4).
abbrev pub Ends : Token → List ℕ → Type 0
Ends (atom a) (c ∷ rest) = IsFalse (is_id_char c)
Ends open_paren (c ∷ rest) = IsFalse (c == 59)
Ends _ _ = Unit {0}

-- These tokens, with white space before, between and after them.
abbrev pub AreTokens : List Token → Form ℕ
AreTokens [] = LastSpace
AreTokens (t ∷ k) =
    Space ▸ (λ b. (text rest : List ℕ) × (b ≡ text ++ rest) × TokenText t text × Ends t rest
    × AreTokens k rest)

-- The text is UTF-8, and these are its tokens. Characters other than ASCII are in comments and strings only.
-- Core spec 6.2.2.
abbrev pub Tokens : List ℕ → List Token → Type 0
Tokens text k = IsUtf8 text × AreTokens k text
