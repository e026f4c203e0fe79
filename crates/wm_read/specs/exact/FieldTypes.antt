-- Exact answers of the readers of the types of tables, memories and globals (Core spec 6.4.4 to 6.4.7).
use Rattle.std.specs.Prelude.{ℕ, ◌||◌, ◌∷◌, true, false, Option, Some, None, if◌then◌else◌, codes}
use Rattle.wm_syntax.specs.declared.types.GlobalType.{GlobalType}
use Rattle.wm_syntax.specs.declared.types.Limits.{Limits}
use Rattle.wm_syntax.specs.declared.types.ValType.{ValType}
use Rattle.wm_syntax.specs.declared.profile.Profile.{Profile}
use Rattle.wm_tokens.specs.Tokens.{open_paren, atom}
use Rattle.wm_bodies.specs.exact.Reading.{Reader, ◌>>=◌, made, atom_at, is_id, is_word, paren_at, then_at}
use Rattle.wm_bodies.specs.exact.Reading.{type_of, unsigned_of, word_of}

-- An optional number.
abbrev pub max_at : Reader (Option ℕ)
max_at (atom a ∷ k) = if is_word a || is_id a then Some (None, atom a ∷ k)
    else (unsigned_of a >>= λ n. Some (Some n, k))
max_at k = Some (None, k)

abbrev pub limits_of : ℕ × Option ℕ → Limits
limits_of x = record { min = x.0; max = x.1 }

abbrev pub limits_at : Reader Limits
limits_at k = made limits_of (then_at (atom_at unsigned_of) max_at k)

abbrev pub table_type_at : Reader Limits
table_type_at k = made (λ x. x.0) (then_at limits_at (atom_at (word_of (codes "funcref"))) k)

abbrev pub const_type : ValType → GlobalType
const_type t = record { ty = t; var = false }

abbrev pub var_type : ValType → GlobalType
var_type t = record { ty = t; var = true }

abbrev pub global_type_at : Profile → Reader GlobalType
global_type_at p (open_paren ∷ k) =
    made var_type (paren_at (codes "mut") (atom_at (type_of p)) (open_paren ∷ k))
global_type_at p k = made const_type (atom_at (type_of p) k)
