-- Scopes and open blocks of the code as plain values, without their addresses.
use Rattle.std.specs.Prelude.{◌≡◌, ℕ, Bool, List, [], ◌∷◌, Option, Some, None, length, map, reverse}
use Rattle.std.specs.Borrow.{Bor}
use Rattle.std.specs.BTreeMap.{BTreeMap}
use Rattle.std.specs.Map.{update}
use Rattle.std.specs.Str.{bytes_eq}
use Rattle.wm_bodies.specs.declared.blocks.Block.{Block}
use Rattle.wm_bodies.specs.declared.identifiers.Names as names
use Rattle.wm_bodies.specs.declared.identifiers.Scope as scope
use Rattle.wm_tokens.specs.Identifiers.{Id}
use Rattle.wm_bodies.specs.inner.Ids.{id_of, place_in}
use Rattle.wm_bodies.specs.inner.Pieces.{Open, Opened}
use Rattle.wm_tokens.specs.Written.{Names, Scope}

abbrev pub open_of : Block → Open
open_of b = record { id = id_of b.id; may_else = b.may_else }

-- The open blocks, innermost first. The code has them innermost last.
abbrev pub blocks_of : List Block → Opened
blocks_of bs = map open_of (reverse bs)

-- The positions of identifiers after this identifier, if any, gets another position or none.
abbrev pub changed : Id → Option ℕ → (List ℕ → Option ℕ) → List ℕ → Option ℕ
changed None place f = f
changed (Some a) place f = update bytes_eq f a place

-- There is an identifier, and it has no position.
abbrev pub IsMissing : (List ℕ → Option ℕ) → Id → Type 0
IsMissing f None = ⊥
IsMissing f (Some a) = f a ≡ None

-- The position of the innermost block with an identifier, counted from the outermost block at 0. The list of blocks has
-- the innermost first.
abbrev pub place_from : List Block → List ℕ → Option ℕ
place_from [] = λ name. None
place_from (b ∷ bs) = changed (id_of b.id) (Some (length bs)) (place_from bs)

-- The map has the position of the innermost block with each identifier.
abbrev pub HasInnermost : BTreeMap (Bor (List ℕ)) ℕ → List Block → Type 0
HasInnermost places bs = (name : List ℕ) → place_in places name ≡ place_from bs name

abbrev pub IsOuter : Option (Bor (List ℕ)) → Option ℕ → (List ℕ → Option ℕ) → Type 0
IsOuter None outer f = Unit {0}
IsOuter (Some r) outer f = outer ≡ f r.now

-- Each block with an identifier keeps the position that this identifier has among the blocks around it.
abbrev pub HasOuter : List Block → Type 0
HasOuter [] = Unit {0}
HasOuter (b ∷ bs) = IsOuter b.id b.outer (place_from bs) × HasOuter bs

abbrev pub names_of : names.Names → Names
names_of n = record {
  signatures = n.signatures.items;
  types = n.types;
  functions = n.functions;
  tables = n.tables;
  memories = n.memories;
  globals = n.globals;
}

abbrev pub scope_of : scope.Scope → Scope
scope_of s = record { names = names_of s.names.now; locals = s.locals }

abbrev pub opened : Id → Bool → Open
opened id b = record { id = id; may_else = b }
