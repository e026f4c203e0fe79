-- Exact answers of the readers of type uses and bodies (Core spec 6.5, 6.6.3).
use Rattle.std.specs.Prelude.{ℕ, suc, ◌&&◌, ◌||◌, List, [], ◌∷◌, ◌++◌, Bool, true, false, Option, Some, None}
use Rattle.std.specs.Prelude.{if◌then◌else◌, length, codes, flat_map, map, slice_get}
use Rattle.wm_syntax.specs.declared.types.ValType.{ValType}
use Rattle.wm_syntax.specs.Runs.{same}
use Rattle.wm_syntax.specs.Types.{Signature}
use Rattle.wm_tokens.specs.Tokens.{Token, open_paren, atom}
use Rattle.wm_syntax.specs.inner.Building.{tree_of}
use Rattle.wm_syntax.specs.Instructions.{Instructions}
use Rattle.wm_syntax.specs.declared.profile.Profile.{Profile}
use Rattle.wm_tokens.specs.Written.{Named, Names, Scope}
use Rattle.wm_bodies.specs.exact.Reading.{Reader, ◌>>=◌, made, same_bytes, is_id, atom_at, type_of, index_of}
use Rattle.wm_bodies.specs.exact.Reading.{then_at, paren_at, many_at, ops_at}

-- Value types up to a token that is no atom.
abbrev pub types_at : Profile → Reader (List ValType)
types_at p (atom a ∷ k) = type_of p a >>= λ t. types_at p k >>= λ ts. Some (t ∷ ts.0, ts.1)
types_at p k = Some ([], k)

-- The value types that were read, appended to `front`.
abbrev pub adding : List ValType → Option (List ValType × List Token) → Option (List ValType × List Token)
adding front read = made (λ ts. front ++ ts) read

abbrev pub begins_group : List ℕ → List Token → Bool
begins_group word (open_paren ∷ atom a ∷ k) = same_bytes a word
begins_group word _ = false

-- Groups of value types without identifiers.
unfoldable pub groups_at : Profile → List ℕ → Reader (List (List ValType))
groups_at p word k = many_at (suc (length k)) (begins_group word) (paren_at word (types_at p)) k

abbrev pub same_types : List ValType → List ValType → Bool
same_types [] [] = true
same_types (t ∷ ts) (u ∷ us) = same t u && same_types ts us
same_types [] (u ∷ us) = false
same_types (t ∷ ts) [] = false

abbrev pub no_types : List ValType → Bool
no_types [] = true
no_types (t ∷ ts) = false

abbrev pub joined : List (List ValType) → List ValType
joined gs = flat_map (λ g. g) gs

-- Parameters and results are both empty, or equal those of the type.
unfoldable pub fits : Signature → List ValType → List ValType → Bool
fits f ps rs = (no_types ps && no_types rs) || (same_types ps f.params && same_types rs f.results)

abbrev pub checked : Names → ℕ → List (List ValType) → List (List ValType) → Option ℕ
checked names x ps rs = slice_get names.signatures x >>= λ f. if fits f (joined ps) (joined rs) then Some x
    else None

unfoldable pub use_at : Profile → Names → Reader ℕ
use_at p names k =
    then_at (paren_at (codes "type") (atom_at (index_of names.types)))
    (then_at (groups_at p (codes "param")) (groups_at p (codes "result"))) k
    >>= λ r. checked names r.0.0 r.0.1.0 r.0.1.1 >>= λ x. Some (x, r.1)

abbrev pub begins_open : List Token → Bool
begins_open (open_paren ∷ k) = true
begins_open _ = false

abbrev pub alone_by : {X : Type 0} → Option (X × List Token) → Option (X × List Token)
alone_by o = o >>= λ x. if begins_open x.1 then None else Some x

-- The type use of a call_indirect, which no form follows.
unfoldable pub call_use_at : Profile → Names → Reader ℕ
call_use_at p names k = alone_by (use_at p names k)

-- ---- with identifiers, as functions and imports write them

abbrev pub unnamed : List ValType → List Named
unnamed ts = map (λ t. (None, t)) ts

-- The items of a group: an identifier and its type, or types.
unfoldable pub inside_at : Profile → Reader (List Named)
inside_at p (atom a ∷ k) = if is_id a then (atom_at (type_of p) k >>= λ t. Some ((Some a, t.0) ∷ [], t.1))
    else made unnamed (types_at p (atom a ∷ k))
inside_at p k = made unnamed (types_at p k)

unfoldable pub named_groups_at : Profile → List ℕ → Reader (List (List Named))
named_groups_at p word k = many_at (suc (length k)) (begins_group word) (paren_at word (inside_at p)) k

abbrev pub joined_named : List (List Named) → List Named
joined_named gs = flat_map (λ g. g) gs

-- The items of all groups with this keyword.
abbrev pub named_at : Profile → List ℕ → Reader (List Named)
named_at p word k = made joined_named (named_groups_at p word k)

abbrev pub adding_named : List Named → Option (List Named × List Token) → Option (List Named × List Token)
adding_named front read = made (λ ns. front ++ ns) read

-- The instructions of a body, and the tokens from its closing parenthesis on.
abbrev pub instructions_at : Profile → Scope → Reader Instructions
instructions_at p sc k = made tree_of (ops_at (call_use_at p sc.names) p sc [] k)
