-- The parts of `BodyAfter`: the open lists of instructions beside the operands of their frames, topmost first.
-- A reader need not believe them. The clauses of `step` state what follows, in the terms of `Typing` and
-- `OpenLists`.
use Rattle.std.specs.Prelude.{ℕ, ◌≡◌, Bool, true, false, IsTrue, List, [], ◌∷◌, ◌++◌, Option, Some, None, map}
use Rattle.std.specs.Prelude.{reverse, length, option_to_list, ◌↔◌}
use Rattle.wm_syntax.specs.declared.types.ValType.{ValType}
use Rattle.wm_syntax.specs.declared.types.ValType.TheVariants.{I32}
use Rattle.wm_syntax.specs.Instructions.{Instructions}
use Rattle.wm_stacks.specs.declared.stack_entries.Entry.{Entry}
use Rattle.wm_stacks.specs.declared.stack_entries.FrameKind.TheVariants.{Func, Block, Loop, If, Else}
use Rattle.wm_stacks.specs.declared.stack_entries.Frame.{Frame}
use Rattle.wm_stacks.specs.Stack.{Stack, fits}
use Rattle.wm_typing.specs.declared.labels.BrTable.{BrTable}
use Rattle.wm_typing.specs.Typing.{Context, Typed}
use Rattle.wm_typing.specs.OpenLists.{Head, head, head_of, Work, work, Place, open_at, within, complete}
use Rattle.wm_typing.specs.OpenLists.{label_type, at, taken_by, FirstHolds, AllHave}

-- The operands of a frame, and whether it is unreachable.
pub record Pile : Type 0 where
  pub dead : Bool
  pub entries : List Entry

pub data Frames : Type 0 where
  running : List Head → List Pile → Frames
  -- How many labels are left before the default, and the type of those that were seen.
  in_table : ℕ → Option (Option ValType) → List Head → List Pile → Frames
  ended : Frames

-- The lists of types, topmost first, that a frame's entries stand for.
abbrev pub Below : Bool → List ValType → Type 0
Below true ts = Unit {0}
Below false ts = ts ≡ []

abbrev pub Stands : Bool → List Entry → List ValType → Type 0
Stands un [] ts = Below un ts
Stands un (e ∷ es) [] = ⊥
Stands un (e ∷ es) (t ∷ ts) = IsTrue (fits e t) × Stands un es ts

-- The lists of types, topmost first, that the instructions can give.
abbrev pub Reach : Context → Instructions → List ValType → Type 0
Reach c s ts = Typed c s [] (reverse ts)

-- The frame's entries stand for exactly the types that the instructions can give below the types in `taken`.
abbrev pub Meets : Context → Head → List ValType → Work → Pile → Type 0
Meets c h taken (work first s) f =
    FirstHolds c h first × ((ts : List ValType) → Reach c s (reverse taken ++ ts)
    ↔ Stands f.dead f.entries ts)

abbrev pub AllMeet : Context → List ValType → List Head → List Work → List Pile → Type 0
AllMeet c taken [] [] [] = Unit {0}
AllMeet c taken (h ∷ hs) (w ∷ ws) (f ∷ fs) = Meets (at c (h ∷ hs)) h taken w f
    × AllMeet c (taken_by h) hs ws fs
AllMeet c taken _ _ _ = ⊥

-- The labels that were seen exist and have this type; `None` if none was seen.
abbrev pub HasSeen : List Head → List ℕ → Option (Option ValType) → Type 0
HasSeen hs [] None = Unit {0}
HasSeen hs (l ∷ ls) (Some t) = AllHave (map label_type hs) t (l ∷ ls)
HasSeen hs _ _ = ⊥

abbrev pub Holds : Context → Place → Frames → Type 0
Holds c (open_at hs ws) (running gs fs) = (hs ≡ gs) × AllMeet c [] hs ws fs
Holds c (within n seen hs ws) (in_table m t gs fs) =
    (n ≡ m) × (hs ≡ gs) × HasSeen hs seen t × AllMeet c (I32 ∷ []) hs ws fs
Holds c (complete r s) ended = Typed (at c (head Func r ∷ [])) s [] (option_to_list r)
Holds c _ _ = ⊥

-- The operands, cut into the entries of each frame.
abbrev pub Segments : List Frame → List Entry → List (List Entry) → Type 0
Segments [] ops [] = ops ≡ []
Segments (g ∷ gs) ops (es ∷ ess) =
    (below : List Entry) × (ops ≡ es ++ below) × (g.floor ≡ length below) × Segments gs below ess
Segments [] ops (es ∷ ess) = ⊥
Segments (g ∷ gs) ops [] = ⊥

abbrev pub piles_of : List Frame → List (List Entry) → List Pile
piles_of [] ess = []
piles_of (g ∷ gs) [] = []
piles_of (g ∷ gs) (es ∷ ess) = record { dead = g.unreachable; entries = es } ∷ piles_of gs ess

-- Only the outermost frame is that of the function.
abbrev pub Nested : List Head → Type 0
Nested [] = ⊥
Nested (head Func t ∷ hs) = hs ≡ []
Nested (head Block t ∷ hs) = Nested hs
Nested (head Loop t ∷ hs) = Nested hs
Nested (head If t ∷ hs) = Nested hs
Nested (head Else t ∷ hs) = Nested hs

abbrev pub TracksRunning : Stack → List Head → List Pile → Type 0
TracksRunning s hs fs =
    (ess : List (List Entry)) × Segments s.frames s.operands ess × (hs ≡ map head_of s.frames)
    × (fs ≡ piles_of s.frames ess) × Nested (map head_of s.frames)

-- The stacks, cut at the floors, are these frames.
abbrev pub Tracks : Stack → Frames → Type 0
Tracks s (running hs fs) = TracksRunning s hs fs
Tracks s (in_table n seen hs fs) = ⊥
Tracks s ended = (s.frames ≡ []) × (s.operands ≡ [])

abbrev pub TracksWith : Option BrTable → Stack → Frames → Type 0
TracksWith None s st = Tracks s st
TracksWith (Some t) s (in_table n seen hs fs) = (t.left ≡ n) × (t.seen ≡ seen) × TracksRunning s hs fs
TracksWith (Some t) s (running hs fs) = ⊥
TracksWith (Some t) s ended = ⊥
