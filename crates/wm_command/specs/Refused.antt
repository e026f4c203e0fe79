-- The lines that `wmod` writes for refusals.
use Rattle.std.specs.Prelude.{ℕ, ◌+◌, ◌==◌, ◌||◌, Bool, List, [], ◌∷◌, ◌++◌, codes, decimal, filter, length, nat_lt}
use Rattle.std.specs.Prelude.{if◌then◌else◌, not, take}
use Rattle.std.specs.List.{list_any}
use Rattle.wm_syntax.specs.declared.why.Why.{Why}
use Rattle.wm_syntax.specs.Refusals.{name_of}
use Rattle.wm_tokens.specs.declared.faults.TextWhy.{TextWhy}
use Rattle.wm_tokens.specs.Faults as names

-- The line of a refusal: the head, the offset in decimal digits, `: `, the name and a line feed.
abbrev pub line_of : List ℕ → ℕ → List ℕ → List ℕ
line_of head place name = head ++ (decimal place ++ (codes ": " ++ (name ++ 10 ∷ [])))

-- The line of a refusal of the input, at this offset.
abbrev pub refusal_line : ℕ → Why → List ℕ
refusal_line place why = line_of (codes "refused at ") place (name_of why)

-- The bytes after the last byte c, or all bytes if c does not occur.
abbrev pub behind_last : ℕ → List ℕ → List ℕ
behind_last c [] = []
behind_last c (x ∷ xs) = if list_any (λ y. y == c) (x ∷ xs) then behind_last c xs else x ∷ xs

-- Whether a byte of UTF-8 begins a character: it is not one of 80 to BF.
abbrev pub begins_character : ℕ → Bool
begins_character c = nat_lt c 128 || not (nat_lt c 192)

-- The line and the column of an offset, both from 1, as editors count them. The byte 0A alone ends a line, and a
-- column is one character of the line.
abbrev pub line_at : List ℕ → ℕ → ℕ
line_at text at = 1 + length (filter (λ c. c == 10) (take at text))

abbrev pub column_at : List ℕ → ℕ → ℕ
column_at text at = 1 + length (filter begins_character (behind_last 10 (take at text)))

-- The line of a refusal of a text, with this offset, line, column and name.
abbrev pub placed_line : ℕ → ℕ → ℕ → List ℕ → List ℕ
placed_line place line column name =
    codes "text refused at " ++ (decimal place ++ (codes " (" ++ (decimal line ++ (codes ":"
    ++ (decimal column ++ (codes "): " ++ (name ++ 10 ∷ [])))))))

-- The line of a refusal of this text, at this offset.
abbrev pub text_line : List ℕ → ℕ → TextWhy → List ℕ
text_line text place why = placed_line place (line_at text place) (column_at text place) (names.text_name_of why)

-- The line of a refusal of the module that a text writes, at this offset of its canonical binary.
abbrev pub module_line : ℕ → Why → List ℕ
module_line place why = line_of (codes "module refused at ") place (name_of why)

-- The line for a module that has no canonical binary: a section would be too large.
abbrev pub too_large_line : List ℕ
too_large_line = codes "module refused: TooLarge" ++ 10 ∷ []
