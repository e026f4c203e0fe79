-- Identifiers and what they mean. Core spec 6.1.3 and 6.6.
use Rattle.std.specs.Prelude.{◌≡◌, ◌≢◌, ℕ, ◌<◌, ◌^◌, ◌⊎◌, List, [], ◌∷◌, Option, Some, None, slice_get}
use Rattle.wm_syntax.specs.Spelling.{Form, Exactly}
use Rattle.wm_tokens.specs.Tokens.{Token, atom, IsUnsigned, IsIdentifier}

-- An identifier, or none.
abbrev pub Id : Type 0
Id = Option (List ℕ)

-- The identifiers of an index space, in the order of its items.
abbrev pub Ids : Type 0
Ids = List Id

-- No two items have the same identifier.
abbrev pub AreDistinct : Ids → Type 0
AreDistinct ids = (name : List ℕ) (x y : ℕ) → slice_get ids x ≡ Some (Some name)
    → slice_get ids y ≡ Some (Some name) → x ≡ y

-- The identifier, if there is one.
abbrev pub WritesId : Id → Form Token
WritesId None = Exactly []
WritesId (Some name) = λ k. IsIdentifier name × (k ≡ atom name ∷ [])

-- A number means itself, and an identifier means the index of the item that has it.
abbrev pub IsIndex : Ids → ℕ → List ℕ → Type 0
IsIndex ids x a = (x < 2 ^ 32) × (IsUnsigned 32 x a ⊎ (IsIdentifier a × (slice_get ids x ≡ Some (Some a))))

-- A label, the innermost being 0. An identifier means the innermost label that has it. Nested blocks may thus
-- share an identifier, which Core spec 6.5.1 does not allow.
abbrev pub IsLabel : Ids → ℕ → List ℕ → Type 0
IsLabel labels l a =
    (l < 2 ^ 32)
    × (IsUnsigned 32 l a
    ⊎ (IsIdentifier a × (slice_get labels l ≡ Some (Some a))
    × ((j : ℕ) → j < l → slice_get labels j ≢ Some (Some a))))

-- One atom for which `P` holds.
abbrev pub One : {X : Type 0} → (X → List ℕ → Type 0) → X → Form Token
One P x k = (a : List ℕ) × (k ≡ atom a ∷ []) × P x a

abbrev pub Resolves : Ids → ℕ → Form Token
Resolves ids = One (IsIndex ids)

abbrev pub ResolvesLabel : Ids → ℕ → Form Token
ResolvesLabel labels = One (IsLabel labels)
