-- Definitions about the front of an input: the bytes so far, which may still be refused for a size, a name or a count.
use Rattle.std.specs.Prelude.{ℕ, zero, suc, ◌≡◌, ◌<◌, List, [], ◌∷◌, ◌++◌, Result, Ok, length, take}
use Rattle.wm_syntax.specs.declared.profile.Profile.{Profile}
use Rattle.wm_syntax.specs.declared.why.Why.{Why}
use Rattle.wm_syntax.specs.declared.types.ValType.{ValType}
use Rattle.wm_machine.specs.Items.{Item, locals, Zone, outside, name, entry, closing, Marks, items_at}
use Rattle.wm_machine.specs.Grammar.{ModuleForm, Items, loose}
use Rattle.wm_machine.specs.Sinks.{all_taken}

-- The bytes b, with one mark of k beside each, can be continued to a module of the flat grammar under `loose`: sizes,
-- names and counts are not checked.
pub record IsFront (p : Profile) (b : List ℕ) (k : Marks) : Type 0 where
  pub rest : List ℕ
  pub rest_marks : Marks
  pub same : length b ≡ length k
  pub whole : ModuleForm loose p (b ++ rest) (k ++ rest_marks)

-- one more than n after a byte in the zone `name`, else 0
abbrev pub name_more : Zone → ℕ → ℕ
name_more name n = suc n
name_more _ n = zero

abbrev pub name_after : ℕ → Marks → ℕ
name_after n [] = n
name_after n (m ∷ k) = name_after (name_more m.zone n) k

-- the number of bytes so far of a name that is unfinished after these marks; 0 if none is
abbrev pub unfinished_name : Marks → ℕ
unfinished_name k = name_after 0 k

-- the number of bytes outside code entries, including those of names
abbrev pub outside_bytes : Marks → ℕ
outside_bytes [] = zero
outside_bytes (m ∷ k) =
    elim m.zone [
      | outside ↦ suc (outside_bytes k)
      | name ↦ suc (outside_bytes k)
      | entry ↦ outside_bytes k
      | closing ↦ outside_bytes k
    ]

-- the number of bytes inside code entries
abbrev pub inside_bytes : Marks → ℕ
inside_bytes [] = zero
inside_bytes (m ∷ k) =
    elim m.zone [
      | outside ↦ inside_bytes k
      | name ↦ inside_bytes k
      | entry ↦ suc (inside_bytes k)
      | closing ↦ suc (inside_bytes k)
    ]

-- one more than n after a byte in the zone `entry`, else 0
abbrev pub entry_more : Zone → ℕ → ℕ
entry_more entry n = suc n
entry_more _ n = zero

abbrev pub entry_after : ℕ → Marks → ℕ
entry_after n [] = n
entry_after n (m ∷ k) = entry_after (entry_more m.zone n) k

-- the number of bytes after the size of an unfinished code entry; 0 if none is unfinished
abbrev pub entry_bytes : Marks → ℕ
entry_bytes k = entry_after 0 k

-- The bytes so far end inside the expression of a code entry. An entry is unfinished, and no continuation under `loose`
-- has a run of locals as its next item.
pub record InExpression (p : Profile) (b : List ℕ) : Type 0 where
  pub marks : Marks
  pub front : IsFront p b marks
  pub at_hand : 0 < entry_bytes marks
  pub no_run : (more : List ℕ) (later : Marks) (n : ℕ) (t : ValType) (rest : List Item)
      → ModuleForm loose p (b ++ more) (marks ++ later)
      → items_at later ≡ locals n t ∷ rest → ⊥

-- The bytes so far are the front of an input. Their marks say where each byte lies and which items are complete, and a
-- sink that took these items has the state h.
pub record Tells {H : Type 0} (after : H → Item → Result H Why) (p : Profile) (first : H) (bytes : List ℕ)
    (h : H)
    : Type 0 where
  pub marks : Marks
  pub front : IsFront p bytes marks
  -- the bytes have no other marks
  pub alone : (other : Marks) → IsFront p bytes other → other ≡ marks
  -- each whole input that begins with the bytes has these marks at its front
  pub begins : (more : List ℕ) (items : Marks) → Items p (bytes ++ more) items
      → marks ≡ take (length bytes) items
  pub taken : all_taken after first (items_at marks) ≡ Ok h
