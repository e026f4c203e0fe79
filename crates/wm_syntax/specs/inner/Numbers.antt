-- The state of a number reader between two bytes, and the bytes that it has read.
use Rattle.std.specs.Prelude.{ℕ, ◌≡◌, ◌+◌, ◌-◌, ◌*◌, ◌^◌, ◌<◌, ◌↔◌, List, ◌∷◌, ◌++◌, ℤ, pos, ◌+ℤ◌, ◌*ℤ◌}
use Rattle.wm_syntax.specs.Spelling.{Form}
use Rattle.wm_syntax.specs.Leb128.{Unsigned, Signed}

-- The state after some bytes: the number that their low seven bits make, and how many they are. A reader that
-- has finished has 10, the most bytes of a number of 64 bits.
pub record Partial : Type 0 where
  pub low : ℕ
  pub count : ℕ

-- The bytes that may still come, so that with those already read they encode n.
abbrev pub UnsignedRest : ℕ → Partial → ℕ → Form ℕ
UnsignedRest bits r n more =
    (7 * r.count < bits) × (high : ℕ) × (n ≡ r.low + high * 2 ^ (7 * r.count))
    × Unsigned (bits - 7 * r.count) high more

abbrev pub SignedRest : ℕ → Partial → ℤ → Form ℕ
SignedRest bits r z more =
    (7 * r.count < bits) × (high : ℤ) × (z ≡ pos r.low +ℤ (pos (2 ^ (7 * r.count)) *ℤ high))
    × Signed (bits - 7 * r.count) high more

-- The reader has read the bytes `before`. With at least one byte more, they encode n if and only if `rest`
-- accepts for n what follows `before`. This holds for a new reader and no bytes, and each push preserves it.
-- A claim about a reader's answers therefore needs no belief in its state.
pub record NumberAfter {A : Type 0} (Spells rest : A → Form ℕ) (before : List ℕ) : Type 0 where
  pub same : (n : A) (byte : ℕ) (more : List ℕ) → Spells n (before ++ byte ∷ more) ↔ rest n (byte ∷ more)

abbrev pub UnsignedAfter : ℕ → Partial → List ℕ → Type 0
UnsignedAfter bits r before = NumberAfter (Unsigned bits) (UnsignedRest bits r) before

abbrev pub SignedAfter : ℕ → Partial → List ℕ → Type 0
SignedAfter bits r before = NumberAfter (Signed bits) (SignedRest bits r) before
