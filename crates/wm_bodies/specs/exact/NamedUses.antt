-- Exact answers of the readers of type uses of functions and imports, whose parameters may have identifiers
-- (Core spec 6.6.3).
use Rattle.std.specs.Prelude.{ℕ, ◌&&◌, List, Bool, Option, Some, None, if◌then◌else◌, codes, slice_get}
use Rattle.wm_syntax.specs.declared.types.ValType.{ValType}
use Rattle.wm_syntax.specs.declared.profile.Profile.{Profile}
use Rattle.wm_syntax.specs.Types.{Signature}
use Rattle.wm_tokens.specs.Written.{Named, Names, types_of}
use Rattle.wm_bodies.specs.exact.Reading.{Reader, ◌>>=◌, made, atom_at, index_of, then_at, paren_at}
use Rattle.wm_bodies.specs.exact.TypeUses.{fits, groups_at, joined, named_at, no_types, unnamed}

-- No parameter and no result is written.
abbrev pub none_written : List Named → List ValType → Bool
none_written ps rs = no_types (types_of ps) && no_types rs

-- The parameters of a type use: the type's without identifiers if none are written, else the written ones. None if they
-- do not fit.
abbrev pub used_of : Signature → List Named → List ValType → Option (List Named)
used_of f ps rs = if fits f (types_of ps) rs then Some (if none_written ps rs then unnamed f.params else ps)
    else None

abbrev pub used_at : Names → ℕ → List Named → List ValType → Option (ℕ × List Named)
used_at names x ps rs = slice_get names.signatures x >>= λ f. used_of f ps rs >>= λ qs. Some (x, qs)

unfoldable pub results_at : Profile → Reader (List ValType)
results_at p k = made joined (groups_at p (codes "result") k)

abbrev pub use_parts : Profile → Names → Reader (ℕ × (List Named × List ValType))
use_parts p names =
    then_at (paren_at (codes "type") (atom_at (index_of names.types)))
    (then_at (named_at p (codes "param")) (results_at p))

unfoldable pub named_use_at : Profile → Names → Reader (ℕ × List Named)
named_use_at p names k =
    use_parts p names k >>= λ r. used_at names r.0.0 r.0.1.0 r.0.1.1 >>= λ y. Some (y, r.1)
