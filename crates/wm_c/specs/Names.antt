-- The names, the explanations and the hints of refusals, and the buffer that they are written to.
use Rattle.std.specs.Prelude.{◌≡◌, ◌++◌, ◌∷◌, ◌⊎◌, ℕ, List, [], Contains, codes, length, drop, take, min}
use Rattle.std.specs.Str.Lines.{lines}
use Rattle.wm_syntax.specs.declared.why.Why.{Why}
use Rattle.wm_syntax.specs.Refusals as modules
use Rattle.wm_tokens.specs.declared.faults.TextWhy.{TextWhy}
use Rattle.wm_tokens.specs.Faults as texts
use Rattle.wm_refusals.specs.Hints.{hint_line}
use Rattle.wm_refusals.specs.Rows.{IsRowOfModule, IsRowOfText}
use Rattle.wm_refusals.specs.declared.hints.Hint.{Hint}
use Rattle.wm_refusals.specs.declared.hints.TheConstants.{OF_FEATURES}
use Rattle.wm_refusals.specs.declared.rows.Row.{Row}
use Rattle.wm_c.specs.Codes.{text_code, why_code}

-- The buffer after a word is written to it: as much of the word as leaves room for a 0, then the 0. The bytes after
-- it are unchanged. An empty buffer stays empty.
abbrev pub written : List ℕ → List ℕ → List ℕ
written word [] = []
written word (c ∷ more) =
    let n = min (length word) (length more) in take n word ++ (0 ∷ drop n more)

-- The word was written to the buffer.
abbrev pub IsWritten : List ℕ → List ℕ → List ℕ → Type 0
IsWritten word before after = after ≡ written word before

-- The number is that of a refusal with this name: of a module, of a text, or `TooLarge`.
abbrev pub HasName : ℕ → List ℕ → Type 0
HasName n word = ((w : Why) × (n ≡ why_code w) × (word ≡ modules.name_of w))
    ⊎ ((w : TextWhy) × (n ≡ text_code w) × (word ≡ texts.text_name_of w))
    ⊎ ((n ≡ 100) × (word ≡ codes "TooLarge"))

-- The row is one of the refusal with this number, in the tables of `wmod explain`.
abbrev pub HasRow : ℕ → Row → Type 0
HasRow n row = ((w : Why) × (n ≡ why_code w) × IsRowOfModule (modules.name_of w) row)
    ⊎ ((w : TextWhy) × (n ≡ text_code w) × IsRowOfText (texts.text_name_of w) row)
    ⊎ ((n ≡ 100) × IsRowOfModule (codes "TooLarge") row)

-- The text for a row: what the refusal means, a line feed, and what to do.
abbrev pub explanation : Row → List ℕ
explanation row = (row.means.now ++ 10 ∷ []) ++ row.advice.now

-- The hint is a line of the table of later features, and speaks of the refusal of a module with this number.
abbrev pub HasHint : ℕ → Hint → Type 0
HasHint n hint = ((w : Why) × (n ≡ why_code w) × (hint.name.now ≡ modules.name_of w))
    × Contains (lines OF_FEATURES.now) (hint_line hint)

-- The text for a hint: what the byte begins, the features and what to do, with line feeds between them.
abbrev pub hint_text : Hint → List ℕ
hint_text hint = (((hint.begins.now ++ 10 ∷ []) ++ hint.feature.now) ++ 10 ∷ []) ++ hint.remedy.now
