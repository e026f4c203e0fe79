-- The answers of a number reader, which takes one byte at a time.
use Rattle.std.specs.Prelude.{◌≡◌, ℕ, ◌↔◌, List, [], ◌++◌}
use Rattle.wm_syntax.specs.Spelling.{Form}
use Rattle.wm_syntax.specs.declared.numbers.Step.{Step}
use Rattle.wm_syntax.specs.declared.numbers.Step.TheVariants.{More, Done, Bad}

-- This is the correct answer after these bytes. `Done` v: they encode v and no other number, and no longer
-- encoding begins with them. `More`: they encode no number, but some encoding begins with them. `Bad`: no
-- encoding begins with them.
abbrev pub Answers : {A : Type 0} → (A → Form ℕ) → Step A → List ℕ → Type 0
Answers Spells (Done v) bytes = (n : _) (more : List ℕ) → Spells n (bytes ++ more) ↔ ((n ≡ v) × (more ≡ []))
Answers {A} Spells More bytes = ((n : A) → Spells n bytes → ⊥) × (n : A) × (more : List ℕ)
    × Spells n (bytes ++ more)
Answers {A} Spells Bad bytes = (n : A) (more : List ℕ) → Spells n (bytes ++ more) → ⊥

-- A property of the number that was read, if one was.
abbrev pub IfDone : {A : Type 0} → Step A → (A → Type 0) → Type 0
IfDone (Done v) P = P v
IfDone _ P = Unit {0}
