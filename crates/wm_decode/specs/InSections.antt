-- The section that a byte lies in, and its member.
use Rattle.std.specs.Prelude.{◌≡◌, ◌≢◌, ◌<◌, ◌≤◌, ℕ, zero, suc, List, [], ◌∷◌, ◌++◌, length}
use Rattle.wm_syntax.specs.Types.{SpellsU32}
use Rattle.wm_syntax.specs.declared.profile.Profile.{Profile}
use Rattle.wm_machine.specs.Grammar.{Member, id_at, strict}
use Rattle.wm_machine.specs.Items.{Marks}
use Rattle.wm_machine.specs.MarkedForms.{Times}
use Rattle.wm_machine.specs.Meanings.{RawSection, SpellsRaw, SpellsSections}

-- The byte after these lies in a section with this id. They are the header, complete sections, and the beginning of a
-- section with this id, which more bytes would complete. Core spec 5.5.2 and 5.5.15.
pub record LiesIn (id : ℕ) (bytes : List ℕ) : Type 0 where
  pub sections : List RawSection
  pub front : List ℕ
  pub begun : List ℕ
  pub missing : List ℕ
  pub contents : List ℕ
  pub whole : bytes ≡ front ++ begun
  pub before : SpellsSections sections front
  pub some : begun ≢ []
  pub more : missing ≢ []
  pub section : SpellsRaw (record { id = id; contents = contents }) (begun ++ missing)

-- These bytes, at the front of the contents of a section with this id, are the number n of its members. The start
-- section has no such number, and one member. Core spec 5.5.2 and 5.5.11.
abbrev pub SaysMembers : (id n : ℕ) → List ℕ → Type 0
SaysMembers (suc (suc (suc (suc (suc (suc (suc (suc zero)))))))) n b = (n ≡ 1) × (b ≡ [])
SaysMembers id n b = SpellsU32 n b

-- The byte after these bytes lies in a section with this id, after k whole members of it, and before its end. The bytes
-- are the header and complete sections, the id, the size and the number of the members, k members, and further bytes,
-- no front of which is a member. The section is not the data count section, which has the rank 10 and no members.
-- Core spec 5.5.2.
pub record LiesInMember (p : Profile) (id k : ℕ) (bytes : List ℕ) : Type 0 where
  pub rank : ℕ
  pub sections : List RawSection
  pub front : List ℕ
  pub size : List ℕ
  pub bytes_of_section : ℕ
  pub number : List ℕ
  pub n : ℕ
  pub members : List ℕ
  pub marks : Marks
  pub begun : List ℕ
  pub whole : bytes ≡ front ++ id ∷ (size ++ (number ++ (members ++ begun)))
  pub before : SpellsSections sections front
  pub named : id ≡ id_at rank
  pub listed : (0 < rank) × (rank ≤ 12) × (rank ≢ 10)
  pub sized : SpellsU32 bytes_of_section size
  pub inside : length (number ++ (members ++ begun)) < bytes_of_section
  pub numbered : SaysMembers id n number
  pub further : k < n
  pub each : Times k (Member strict p rank) members marks
  pub unfinished : (a b : List ℕ) (m : Marks) → begun ≡ a ++ b → Member strict p rank a m → ⊥
