-- Exact answers of the first pass over a module: its types, and the identifiers of its index spaces. It reads the head
-- of each field, and skips the rest.
use Rattle.std.specs.Prelude.{ℕ, zero, suc, List, [], ◌∷◌, ◌++◌, Bool, true, false, Option, Some, None}
use Rattle.std.specs.Prelude.{if◌then◌else◌, length}
use Rattle.wm_syntax.specs.declared.modules.ExportKind.{ExportKind}
use Rattle.wm_syntax.specs.declared.modules.ExportKind.TheVariants as kind
use Rattle.wm_syntax.specs.declared.profile.Profile.{Profile}
use Rattle.wm_syntax.specs.Types.{Signature}
use Rattle.wm_tokens.specs.Tokens.{Token, open_paren, close_paren, string, atom}
use Rattle.wm_tokens.specs.Identifiers.{Id, Ids}
use Rattle.wm_tokens.specs.Written.{Names}
use Rattle.wm_read.specs.declared.fields.keywords.FieldKind.{FieldKind}
use Rattle.wm_read.specs.declared.fields.keywords.FieldKind.TheVariants as field
use Rattle.wm_read.specs.exact.Fields.{field_named, item_named, name_at, space_of}
use Rattle.wm_read.specs.exact.Signatures.{signature_at}
use Rattle.wm_bodies.specs.exact.Reading.{Reader, ◌>>=◌, made, open_at, close_at, atom_at, id_at, is_new}
use Rattle.wm_bodies.specs.exact.TypeUses.{begins_open}

-- ---- what the heads up to here define

pub record Noted : Type 0 where
  pub names : Names
  -- Whether a function, table, memory or global was defined.
  pub defined : Bool
  -- Whether a start field was read.
  pub started : Bool

abbrev pub no_names : Names
no_names = record { signatures = []; types = []; functions = []; tables = []; memories = []; globals = [] }

abbrev pub nothing : Noted
nothing = record { names = no_names; defined = false; started = false }

abbrev pub with_item : Names → ExportKind → Id → Names
with_item names kind.Func id = record names { functions = names.functions ++ id ∷ [] }
with_item names kind.Table id = record names { tables = names.tables ++ id ∷ [] }
with_item names kind.Memory id = record names { memories = names.memories ++ id ∷ [] }
with_item names kind.Global id = record names { globals = names.globals ++ id ∷ [] }

abbrev pub with_type : Names → Id → Signature → Names
with_type names id f = record names {
  types = names.types ++ id ∷ [];
  signatures = names.signatures ++ f ∷ [];
}

-- ---- parts of heads

-- An optional identifier, which no item of the space may have.
abbrev pub free_id_at : Ids → Reader Id
free_id_at ids k = id_at k >>= λ i. if is_new ids i.0 then Some i else None

-- The tokens after the parenthesis that closes the last of these many open ones.
abbrev pub skip : ℕ → List Token → Option (List Token)
skip zero k = Some k
skip (suc n) [] = None
skip (suc n) (open_paren ∷ k) = skip (suc (suc n)) k
skip (suc n) (close_paren ∷ k) = skip n k
skip (suc n) (atom a ∷ k) = skip (suc n) k
skip (suc n) (string b ∷ k) = skip (suc n) k

-- ---- the heads of fields, after their keywords; all tokens of the field are read or skipped

abbrev pub type_head_at : Profile → Noted → Reader Noted
type_head_at p s k =
    free_id_at s.names.types k >>= λ i. signature_at p i.1 >>= λ f. close_at f.1 >>= λ c. Some (
      record s {
        names = with_type s.names i.0 f.0;
      },
      c.1,
    )

-- The head of an import descriptor: its keyword and its identifier.
abbrev pub desc_head_at : Noted → Reader Noted
desc_head_at s k =
    open_at k >>= λ o. atom_at item_named o.1 >>= λ w. free_id_at (space_of s.names w.0) w.1
    >>= λ i. Some (record s { names = with_item s.names w.0 i.0 }, i.1)

abbrev pub import_head_at : Noted → Reader Noted
import_head_at s k =
    name_at k >>= λ m. name_at m.1 >>= λ n. desc_head_at s n.1 >>= λ d. skip 2 d.1 >>= λ r. Some (d.0, r)

abbrev pub item_head_at : ExportKind → Noted → Reader Noted
item_head_at kind s k =
    free_id_at (space_of s.names kind) k >>= λ i. skip 1 i.1 >>= λ r. Some (
      record s {
        names = with_item s.names kind i.0;
        defined = true;
      },
      r,
    )

abbrev pub start_head_at : Noted → Reader Noted
start_head_at s k = skip 1 k >>= λ r. Some (record s { started = true }, r)

abbrev pub other_head_at : Noted → Reader Noted
other_head_at s k = skip 1 k >>= λ r. Some (s, r)

unfoldable pub head_by : Profile → FieldKind → Noted → Reader Noted
head_by p field.Type s k = type_head_at p s k
head_by p field.Import s k = if s.defined then None else import_head_at s k
head_by p field.Func s k = item_head_at kind.Func s k
head_by p field.Table s k = item_head_at kind.Table s k
head_by p field.Memory s k = item_head_at kind.Memory s k
head_by p field.Global s k = item_head_at kind.Global s k
head_by p field.Start s k = if s.started then None else start_head_at s k
head_by p field.Export s k = other_head_at s k
head_by p field.Elem s k = other_head_at s k
head_by p field.Data s k = other_head_at s k

unfoldable pub head_at : Profile → Noted → Reader Noted
head_at p s k = open_at k >>= λ o. atom_at field_named o.1 >>= λ w. head_by p w.0 s w.1

-- ---- all heads

-- The heads of all fields up to a token that is no opening parenthesis, by recursion on a bound.
abbrev pub heads_within : Profile → ℕ → Noted → Reader Noted
heads_within p zero s k = None
heads_within p (suc n) s k = if begins_open k then (head_at p s k >>= λ x. heads_within p n x.0 x.1)
    else Some (s, k)

unfoldable pub heads_at : Profile → Noted → Reader Noted
heads_at p s k = heads_within p (suc (length k)) s k

abbrev pub names_in : Option (Noted × List Token) → Option (Names × List Token)
names_in o = made (λ s. s.names) o

abbrev pub names_at : Profile → Reader Names
names_at p k = names_in (heads_at p nothing k)
