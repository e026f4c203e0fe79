-- When a decoder accepts or refuses an input, and when it refuses one because of floats.
use Rattle.std.specs.Prelude.{◌≡◌, ℕ, ◌≤◌, ◌+◌, IsTrue, List, ◌∷◌, ◌++◌, Result, Ok, Err, ◌⊎◌, length}
use Rattle.wm_syntax.specs.declared.profile.Profile.{Profile}
use Rattle.wm_syntax.specs.declared.why.Why.{Why}
use Rattle.wm_syntax.specs.declared.why.Why.TheVariants as why
use Rattle.wm_syntax.specs.OpClasses.{is_float}
use Rattle.wm_machine.specs.declared.refusal.Refusal.{Refusal}
use Rattle.wm_machine.specs.Items.{Item, Marks, items_at}
use Rattle.wm_machine.specs.Grammar.{Items}
use Rattle.wm_machine.specs.Sinks.{all_taken}

-- how a decoder was created: its profile, its limit in bytes, and the first state of its sink
pub record Setting (H : Type 0) : Type 0 where
  pub profile : Profile
  pub limit : ℕ
  pub first : H

-- The bytes are a whole input within the limit. The sink takes all its items, and then its state is `last`.
pub record Takes {H : Type 0} (after : H → Item → Result H Why) (s : Setting H) (bytes : List ℕ) (last : H)
    : Type 0 where
  pub items : Marks
  pub module_items : Items s.profile bytes items
  pub within : length bytes ≤ s.limit
  pub taken : all_taken after s.first (items_at items) ≡ Ok last

-- The input was refused at an offset within it. No input that `Takes` holds for begins with the bytes up to there.
pub record Refused {H : Type 0} (after : H → Item → Result H Why) (s : Setting H) (bytes : List ℕ)
    (r : Refusal)
    : Type 0 where
  pub used : List ℕ
  pub rest : List ℕ
  pub whole : bytes ≡ used ++ rest
  pub at : r.at ≡ length used
  pub never : (more : List ℕ) (last : H) → Takes after s (used ++ more) last → ⊥

-- the byte of a float type (Core spec 5.3.1), or the first byte of an instruction on floats (Core spec 5.4)
abbrev pub IsFloatByte : ℕ → Type 0
IsFloatByte c = (c ≡ 0x7D) ⊎ (c ≡ 0x7C) ⊎ IsTrue (is_float c)

-- the last byte up to the offset of the refusal satisfies `IsFloatByte`
pub record EndsInFloat (bytes : List ℕ) (r : Refusal) : Type 0 where
  pub used : List ℕ
  pub byte : ℕ
  pub rest : List ℕ
  pub whole : bytes ≡ used ++ byte ∷ rest
  pub at : r.at ≡ length used + 1
  pub float : IsFloatByte byte

-- a sink with this first state never refuses an item as `Float`, whatever items it took before
abbrev pub NeverFloat : {H : Type 0} → (H → Item → Result H Why) → H → Type 0
NeverFloat {H} after first =
    (parts : List Item) (h : H) (x : Item) → all_taken after first parts ≡ Ok h → after h x ≡ Err why.Float
    → ⊥
