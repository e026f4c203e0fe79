-- Identifiers of the code as plain values, without their addresses.
use Rattle.std.specs.Prelude.{◌≡◌, ℕ, List, [], ◌∷◌, ◌++◌, Option, Some, None, if◌then◌else◌, replicate}
use Rattle.std.specs.Borrow.{Bor}
use Rattle.std.specs.BTreeMap.{BTreeMap, get_by}
use Rattle.std.specs.Cmp.Lexicographic.{slice_cmp}
use Rattle.std.specs.Ordering.{nat_cmp}
use Rattle.wm_bodies.specs.declared.identifiers.Identified.{Identified}
use Rattle.wm_tokens.specs.Identifiers.{Id, Ids}
use Rattle.wm_bodies.specs.exact.Reading.{is_same_id, place_of}

abbrev pub id_of : Option (Bor (List ℕ)) → Id
id_of None = None
id_of (Some r) = Some r.now

-- The space of these items: before each come its items without an identifier.
abbrev pub spread : List Identified → Ids
spread [] = []
spread (x ∷ xs) = replicate x.before None ++ Some x.id.now ∷ spread xs

-- The space of these items, followed by `unnamed` items without identifiers.
abbrev pub spaced : List Identified → ℕ → Ids
spaced xs unnamed = spread xs ++ replicate unnamed None

-- The value of a map at an identifier.
abbrev pub place_in : BTreeMap (Bor (List ℕ)) ℕ → List ℕ → Option ℕ
place_in places name = get_by (λ k. slice_cmp nat_cmp name k.now) places

-- The map has the index of the first item with each identifier.
abbrev pub HasPlaces : BTreeMap (Bor (List ℕ)) ℕ → Ids → Type 0
HasPlaces places ids = (name : List ℕ) → place_in places name ≡ place_of ids name

-- The first index of `name`, after an item with identifier `id` is appended at index `at`. An earlier index stays.
abbrev pub defined : Option ℕ → Id → ℕ → List ℕ → Option ℕ
defined (Some x) id at name = Some x
defined None id at name = if is_same_id id name then Some at else None
