-- The state that a builder of bodies keeps beside the ops, and how an op changes it. It mirrors the code
-- exactly.
use Rattle.std.specs.Prelude.{ℕ, zero, suc, ◌+◌, ◌-◌, ◌≡◌, Bool, true, false, List, [], ◌∷◌, ◌++◌, Option}
use Rattle.std.specs.Prelude.{Some, length, take, slice_get, slice_set, if◌then◌else◌}
use Rattle.wm_syntax.specs.declared.instructions.Op.{Op}
use Rattle.wm_syntax.specs.declared.instructions.Op.TheVariants as op
use Rattle.wm_syntax.specs.declared.modules.body_builder.Opened.{Opened}
use Rattle.wm_syntax.specs.declared.modules.body_builder.Opened.TheVariants as opened
use Rattle.wm_syntax.specs.inner.Building.{Open, in_block, in_loop, in_first, in_second, Place, at, labels}
use Rattle.wm_syntax.specs.inner.Building.{ops_at}

-- How each open list was opened, the outermost first.
abbrev pub kind_of : Open → Opened
kind_of (in_block t s) = opened.List
kind_of (in_loop t s) = opened.List
kind_of (in_first t s) = opened.First
kind_of (in_second t s first) = opened.Second

abbrev pub kinds : List Open → List Opened
kinds [] = []
kinds (o ∷ outer) = kinds outer ++ kind_of o ∷ []

abbrev pub open_at : Place → List Opened
open_at (at outer s) = kinds outer
open_at (labels outer s seen n) = kinds outer

-- How many labels of a br_table are still to come, the default included.
abbrev pub labels_at : Place → ℕ
labels_at (at outer s) = 0
labels_at (labels outer s seen n) = suc n

-- The fields of a builder whose state is p.
pub record Keeps (ops : List Op) (begun : List Opened) (left : ℕ) (p : Place) : Type 0 where
  pub ops_are : ops ≡ ops_at p
  pub begun_are : begun ≡ open_at p
  pub left_are : left ≡ labels_at p

-- The last element of a list.
abbrev pub last_of : {X : Type 0} → List X → Option X
last_of xs = slice_get xs (length xs - 1)

abbrev pub is_first : Option Opened → Bool
is_first (Some opened.First) = true
is_first _ = false

abbrev pub is_open : List Opened → Bool
is_open [] = false
is_open (o ∷ begun) = true

abbrev pub is_else : Option Op → Bool
is_else (Some op.Else) = true
is_else _ = false

-- Whether an op is allowed: in the innermost open list (`fits_list`), and where n labels are still to come
-- (`fits`).
abbrev pub fits_list : List Opened → Op → Bool
fits_list begun op.Else = is_first (last_of begun)
fits_list begun op.End = is_open begun
fits_list begun (op.Label l) = false
fits_list begun _ = true

abbrev pub is_label : Op → Bool
is_label (op.Label l) = true
is_label _ = false

abbrev pub fits : List Opened → ℕ → Op → Bool
fits begun zero o = fits_list begun o
fits begun (suc n) o = is_label o

abbrev pub last_set : {X : Type 0} → X → List X → List X
last_set x xs = slice_set xs (length xs - 1) x

-- The ops after one more op. An end replaces an else directly before it.
abbrev pub next_ops : Op → List Op → List Op
next_ops op.End ops = if is_else (last_of ops) then last_set op.End ops else ops ++ op.End ∷ []
next_ops o ops = ops ++ o ∷ []

abbrev pub next_open : Op → List Opened → List Opened
next_open (op.Block t) begun = begun ++ opened.List ∷ []
next_open (op.Loop t) begun = begun ++ opened.List ∷ []
next_open (op.If t) begun = begun ++ opened.First ∷ []
next_open op.Else begun = last_set opened.Second begun
next_open op.End begun = take (length begun - 1) begun
next_open _ begun = begun

abbrev pub next_left : Op → ℕ → ℕ
next_left (op.BrTable n) left = n + 1
next_left (op.Label l) left = left - 1
next_left _ left = left
