-- The exact answer for a whole text (Core spec 6.6.13). The first pass reads to the end of the text. The second reads
-- the fields with the names that the first found.
use Rattle.std.specs.Prelude.{◌≡◌, List, [], ◌∷◌, Option, Some, None, codes}
use Rattle.wm_syntax.specs.declared.profile.Profile.{Profile}
use Rattle.wm_syntax.specs.Modules.{Module}
use Rattle.wm_tokens.specs.Tokens.{Token, close_paren}
use Rattle.wm_tokens.specs.Fields.{module_of}
use Rattle.wm_tokens.specs.Written.{Names}
use Rattle.wm_read.specs.exact.Fields.{fields_at}
use Rattle.wm_read.specs.exact.FirstReading.{names_at}
use Rattle.wm_bodies.specs.exact.Reading.{◌>>=◌, made, open_at, close_at, atom_at, word_of, id_at}

-- No token is left.
abbrev pub end_at : List Token → Option (Unit {0})
end_at [] = Some tt
end_at _ = None

-- The tokens after ( module id?. The identifier is ignored.
abbrev pub frame_at : List Token → Option (List Token)
frame_at k = open_at k >>= λ o. atom_at (word_of (codes "module")) o.1 >>= λ w. id_at w.1 >>= λ i. Some i.1

-- The names of all fields, where the module's closing parenthesis and the end of the text follow.
abbrev pub all_names_at : Profile → List Token → Option Names
all_names_at p k = names_at p k >>= λ n. close_at n.1 >>= λ c. end_at c.1 >>= λ e. Some n.0

-- The first pass succeeds up to the module's closing parenthesis, and one more token follows it.
pub record IsFollowed (p : Profile) (k : List Token) : Type 0 where
  pub inner : List Token
  pub names : Names
  pub next : Token
  pub more : List Token
  pub frame : frame_at k ≡ Some inner
  pub read : names_at p inner ≡ Some (names, close_paren ∷ next ∷ more)

abbrev pub module_within : Profile → Names → List Token → Option Module
module_within p names k = made module_of (fields_at p names k) >>= λ m. close_at m.1 >>= λ c. Some m.0

unfoldable pub module_at : Profile → List Token → Option Module
module_at p k = frame_at k >>= λ j. all_names_at p j >>= λ names. module_within p names j
