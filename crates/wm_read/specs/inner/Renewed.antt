-- A text in which older keywords are overwritten by those of the standard.
use Rattle.std.specs.Prelude.{◌≡◌, ℕ, ◌-◌, List, ◌++◌, length, map, replicate}
use Rattle.std.specs.Map.{lookup}
use Rattle.std.specs.Option.{unwrap_or}
use Rattle.std.specs.Str.{bytes_eq}
use Rattle.wm_read.specs.Spellings.{older_words, replaced}
use Rattle.wm_tokens.specs.Tokens.{Token, atom, Ends}
use Rattle.wm_tokens.specs.exact.Scan.{lexed}
use Rattle.wm_read.specs.declared.spellings.Spellings.TheVariants.{Older}

-- A keyword of the standard, padded with spaces to the length of the older one.
abbrev pub filled : List ℕ → List ℕ → List ℕ
filled older word = word ++ replicate (length older - length word) 32

abbrev pub filled_words : List (List ℕ × List ℕ)
filled_words = map (λ e. (e.0, filled e.0 e.1)) older_words

-- The bytes to write for a token whose own bytes are `part`.
abbrev pub part_for : Token → List ℕ → List ℕ
part_for (atom a) part = unwrap_or (lookup (bytes_eq a) filled_words) part
part_for _ part = part

-- `out` is as long as the text, and has its tokens with each older keyword replaced. A token that may come right before
-- the text may come right before `out`.
pub record Renewed (text out : List ℕ) : Type 0 where
  pub tokens : lexed out ≡ map (replaced Older) (lexed text)
  pub size : length out ≡ length text
  pub ends : (t : Token) → Ends t text → Ends t out
