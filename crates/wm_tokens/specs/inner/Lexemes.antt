-- The values of the code, without their addresses in memory.
use Rattle.std.specs.Prelude.{◌≡◌, ◌<◌, ◌≤◌, ℕ, List, IsTrue}
use Rattle.wm_tokens.specs.Tokens.{Token, open_paren, close_paren, string, atom, is_scalar}
use Rattle.wm_tokens.specs.exact.Scan.{CommentPart, close, opening, on, over, Ahead, no_more, blank, first}
use Rattle.wm_tokens.specs.exact.Scan.{fault, given_in}
use Rattle.wm_tokens.specs.declared.faults.TextWhy.{TextWhy}
use Rattle.wm_tokens.specs.declared.scan.Part.{Part}
use Rattle.wm_tokens.specs.declared.scan.Part.TheVariants as p
use Rattle.wm_tokens.specs.declared.scan.Mode.{Mode}
use Rattle.wm_tokens.specs.declared.scan.Mode.TheVariants.{Plain, Low, Digits}
use Rattle.wm_tokens.specs.declared.scan.Step.{Step}
use Rattle.wm_tokens.specs.declared.scan.Step.TheVariants as s
use Rattle.wm_tokens.specs.declared.lexeme.Lexeme.{Lexeme}
use Rattle.wm_tokens.specs.declared.lexeme.Lexeme.TheVariants.{Open, Close, String, Atom}
use Rattle.wm_tokens.specs.declared.lexeme.Found.{Found}
use Rattle.wm_tokens.specs.declared.lexeme.Found.TheVariants.{Nothing, Blank, First, Fault}

abbrev pub part_of : Part → CommentPart
part_of (p.Close b) = close b.now
part_of (p.Open b) = opening b.now
part_of (p.On b) = on b.now
part_of p.End = over

-- The bytes of a string, given the text between its quotation marks.
abbrev pub bytes_of : List ℕ → List ℕ
bytes_of text = given_in Plain text

-- The token that a lexeme is.
abbrev pub token_of : Lexeme → Token
token_of Open = open_paren
token_of Close = close_paren
token_of (String b) = string (bytes_of b.now)
token_of (Atom a) = atom a.now

abbrev pub ahead_of : Found → Ahead
ahead_of Nothing = no_more
ahead_of (Blank b) = blank b.now
ahead_of (First t b) = first (token_of t) b.now
ahead_of (Fault w) = fault

-- A lexical error has this name.
abbrev pub IsTold : TextWhy → Found → Type 0
IsTold why (Fault w) = w ≡ why
IsTold why _ = Unit {0}

-- The bounds of the numbers in a state or an effect.
abbrev pub IsMode : Mode → Type 0
IsMode (Low h) = h < 16
IsMode (Digits n after) = n ≤ 0x11_0000
IsMode _ = Unit {0}

abbrev pub IsStep : Step → Type 0
IsStep (s.On mode) = IsMode mode
IsStep (s.Scalar n) = IsTrue (is_scalar n)
IsStep _ = Unit {0}
