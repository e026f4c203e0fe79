-- Typings of a body and of its ops so far, and the types that frames denote.
use Rattle.std.specs.Prelude.{ℕ, ◌-◌, ◌≡◌, ◌↔◌, List, [], ◌∷◌, ◌++◌, Option, Some, None, map, length, take}
use Rattle.std.specs.Prelude.{drop, reverse, option_to_list}
use Rattle.wm_syntax.specs.declared.types.ValType.{ValType}
use Rattle.wm_syntax.specs.declared.instructions.Op.{Op}
use Rattle.wm_syntax.specs.declared.instructions.Op.TheVariants as op
use Rattle.wm_syntax.specs.Instructions.{Instructions, HasOps}
use Rattle.wm_stacks.specs.declared.stack_entries.Entry.{Entry}
use Rattle.wm_stacks.specs.declared.stack_entries.Frame.{Frame}
use Rattle.wm_stacks.specs.Stack.{Stack, Denotes}
use Rattle.wm_typing.specs.declared.labels.BrTable.{BrTable}
use Rattle.wm_typing.specs.Typing.{Context, Typed}
use Rattle.wm_typing.specs.OpenLists.{Head, Work, work, Place, within, head_of, at, taken_by, CanType, IsOpen}
use Rattle.wm_typing.specs.OpenLists.{IsSoFar}

-- The ops of a list of instructions, then the `end` of the body.
abbrev pub HasBodyOps : Instructions → List Op → Type 0
HasBodyOps s ops = (inner : List Op) × HasOps s inner × (ops ≡ inner ++ op.End ∷ [])

-- The ops are those of exactly one body, and this body has its type. Core spec 3.4.1.
pub record IsTypedBody (c : Context) (ops : List Op) : Type 0 where
  pub body : Instructions
  pub flat : HasBodyOps body ops
  pub only : (other : Instructions) → HasBodyOps other ops → other ≡ body
  pub typed : Typed c body [] (option_to_list c.result)

-- The ops so far have a typing in their open lists.
abbrev pub HaveTyping : Context → List Op → Type 0
HaveTyping c ops = (p : Place) × IsSoFar c.result p ops × CanType c p

-- Each open list, the innermost first, can give exactly the types that its frame denotes. The frame denotes the
-- operands above its floor. The operands taken by the list inside it are gone from these.
abbrev pub DenoteEach : Context → List ValType → List Frame → List Entry → List Work → Type 0
DenoteEach c taken [] entries [] = Unit {0}
DenoteEach c taken (f ∷ fs) entries (work first s ∷ ws) =
    ((types : List ValType)
    → Typed (at c (map head_of (f ∷ fs))) s [] (types ++ taken)
    ↔ Denotes f (reverse (take (length entries - f.floor) entries)) types)
    × DenoteEach c (taken_by (head_of f)) fs (drop (length entries - f.floor) entries) ws
DenoteEach c taken _ entries _ = ⊥

-- Each open list of the ops so far can give exactly the types that its frame denotes. Within the labels of a
-- br_table, nothing is claimed but that the ops end there.
abbrev pub FramesDenote : Context → List Op → Option BrTable → Stack → Type 0
FramesDenote c ops (Some t) s =
    (n : ℕ) × (seen : List ℕ) × (hs : List Head) × (ws : List Work)
    × IsSoFar c.result (within n seen hs ws) ops
FramesDenote c ops None s =
    (ws : List Work) × IsOpen c.result (map head_of s.frames) ws ops × DenoteEach c [] s.frames s.operands ws
