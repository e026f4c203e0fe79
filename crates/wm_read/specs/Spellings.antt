-- Older keywords, from before the standard; the keywords that they are read as; and which module a text writes.
use Rattle.std.specs.Prelude.{ℕ, List, [], ◌∷◌, codes, map}
use Rattle.std.specs.Map.{lookup}
use Rattle.std.specs.Option.{unwrap_or}
use Rattle.std.specs.Str.{bytes_eq}
use Rattle.wm_syntax.specs.declared.profile.Profile.{Profile}
use Rattle.wm_syntax.specs.Modules.{Module}
use Rattle.wm_tokens.specs.Fields.{Writes}
use Rattle.wm_tokens.specs.Tokens.{Token, Tokens, atom}
use Rattle.wm_read.specs.declared.spellings.Spellings.{Spellings}
use Rattle.wm_read.specs.declared.spellings.Spellings.TheVariants.{Standard, Older}

-- Each older keyword, paired with the keyword of the standard that it is read as.
abbrev pub older_words : List (List ℕ × List ℕ)
older_words =
    (codes "get_local", codes "local.get")
    ∷ (codes "set_local", codes "local.set")
    ∷ (codes "tee_local", codes "local.tee")
    ∷ (codes "get_global", codes "global.get")
    ∷ (codes "set_global", codes "global.set")
    ∷ (codes "current_memory", codes "memory.size")
    ∷ (codes "grow_memory", codes "memory.grow")
    ∷ (codes "i32.wrap/i64", codes "i32.wrap_i64")
    ∷ (codes "i64.extend_s/i32", codes "i64.extend_i32_s")
    ∷ (codes "i64.extend_u/i32", codes "i64.extend_i32_u")
    ∷ (codes "anyfunc", codes "funcref")
    ∷ []

-- The token that a token is read as. An older keyword becomes that of the standard under Older; all other tokens stay.
abbrev pub replaced : Spellings → Token → Token
replaced Older (atom a) = atom (unwrap_or (lookup (bytes_eq a) older_words) a)
replaced Older t = t
replaced Standard t = t

-- The text is UTF-8 and has tokens, and these write this module of the profile. Under Older, older keywords are first
-- replaced (Core spec 6.2.2 and 6.6.13).
abbrev pub IsTextOf : Profile → Spellings → Module → List ℕ → Type 0
IsTextOf p s m text = (k : List Token) × Tokens text k × Writes p (map (replaced s) k) m
