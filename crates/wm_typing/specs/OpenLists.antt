-- Incomplete bodies: the lists of instructions that are open, the innermost first.
use Rattle.std.specs.Prelude.{ℕ, ◌+◌, ◌≡◌, List, [], ◌∷◌, ◌++◌, Option, Some, None, map, max, length}
use Rattle.std.specs.Prelude.{slice_get, option_to_list}
use Rattle.std.specs.List.{AllByRecursion}
use Rattle.wm_syntax.specs.declared.types.ValType.{ValType}
use Rattle.wm_syntax.specs.declared.types.ValType.TheVariants.{I32}
use Rattle.wm_syntax.specs.declared.instructions.Op.{Op}
use Rattle.wm_syntax.specs.declared.instructions.Op.TheVariants as op
use Rattle.wm_syntax.specs.Instructions.{Instructions, none, HasOps}
use Rattle.wm_stacks.specs.declared.stack_entries.FrameKind.{FrameKind}
use Rattle.wm_stacks.specs.declared.stack_entries.FrameKind.TheVariants.{Func, Block, Loop, If, Else}
use Rattle.wm_stacks.specs.declared.stack_entries.Frame.{Frame}
use Rattle.wm_typing.specs.Nesting.{nesting}
use Rattle.wm_typing.specs.Typing.{Context, Typed}

-- The construct that an open list belongs to, with the result of the construct.
pub data Head : Type 0 where
  head : FrameKind → Option ValType → Head

abbrev pub head_of : Frame → Head
head_of f = head f.kind f.result

-- The instructions of an open list that are complete so far. `first` is the complete first list, if the open
-- list is the second list of an if.
pub data Work : Type 0 where
  work : (first before : Instructions) → Work

pub data Place : Type 0 where
  open_at : List Head → List Work → Place
  -- Within the labels of a br_table: how many are left before the default, and those that were seen.
  within : ℕ → List ℕ → List Head → List Work → Place
  complete : Option ValType → Instructions → Place

-- The type of the label of an open list. Core spec 3.3.5.
abbrev pub label_type : Head → Option ValType
label_type (head Loop t) = None
label_type (head Func t) = t
label_type (head Block t) = t
label_type (head If t) = t
label_type (head Else t) = t

-- The context inside the open lists.
abbrev pub at : Context → List Head → Context
at c hs = record c { labels = map label_type hs }

-- The operands that the opening instruction of a list took from the list around it.
abbrev pub taken_by : Head → List ValType
taken_by (head Func t) = []
taken_by (head Block t) = []
taken_by (head Loop t) = []
taken_by (head If t) = I32 ∷ []
taken_by (head Else t) = I32 ∷ []

-- If the list is the second one of an if, the first list has its type.
abbrev pub FirstHolds : Context → Head → Instructions → Type 0
FirstHolds c (head Func t) first = Unit {0}
FirstHolds c (head Block t) first = Unit {0}
FirstHolds c (head Loop t) first = Unit {0}
FirstHolds c (head If t) first = Unit {0}
FirstHolds c (head Else t) first = Typed c first [] (option_to_list t)

abbrev pub WorkCan : Context → Head → List ValType → Work → Type 0
WorkCan c h taken (work first before) =
    FirstHolds c h first × ((types : List ValType) × Typed c before [] (types ++ taken))

-- Each open list has a typing, and its topmost types are those taken by the list inside it. For the innermost
-- list, `taken` are those types.
abbrev pub OpenCan : Context → List ValType → List Head → List Work → Type 0
OpenCan c taken [] [] = Unit {0}
OpenCan c taken (h ∷ hs) [] = ⊥
OpenCan c taken [] (w ∷ ws) = ⊥
OpenCan c taken (h ∷ hs) (w ∷ ws) = WorkCan (at c (h ∷ hs)) h taken w × OpenCan c (taken_by h) hs ws

-- These labels exist and have this type.
abbrev pub AllHave : List (Option ValType) → Option ValType → List ℕ → Type 0
AllHave labels t seen = AllByRecursion (λ l. slice_get labels l ≡ Some t) seen

-- The labels of a br_table so far exist and have one type.
abbrev pub SeenCan : List Head → List ℕ → Type 0
SeenCan hs seen = (t : Option ValType) × AllHave (map label_type hs) t seen

-- The open lists of the place have a typing, and so have the labels that were seen. A complete body has its
-- type.
abbrev pub CanType : Context → Place → Type 0
CanType c (open_at hs ws) = OpenCan c [] hs ws
CanType c (within n seen hs ws) = SeenCan hs seen × OpenCan c (I32 ∷ []) hs ws
CanType c (complete r s) = Typed (at c (head Func r ∷ [])) s [] (option_to_list r)

-- The ops of a list inside another one: the op that opened it, then those of its instructions so far.
abbrev pub IsWork : Head → Work → List Op → Type 0
IsWork (head Func t) (work first s) ops = ⊥
IsWork (head Block t) (work first s) ops =
    (first ≡ none) × ((inner : List Op) × HasOps s inner × (ops ≡ op.Block t ∷ inner))
IsWork (head Loop t) (work first s) ops =
    (first ≡ none) × ((inner : List Op) × HasOps s inner × (ops ≡ op.Loop t ∷ inner))
IsWork (head If t) (work first s) ops =
    (first ≡ none) × ((inner : List Op) × HasOps s inner × (ops ≡ op.If t ∷ inner))
IsWork (head Else t) (work first s) ops =
    (then_ops : List Op) × (inner : List Op) × HasOps first then_ops × HasOps s inner
    × (ops ≡ op.If t ∷ then_ops ++ op.Else ∷ inner)

-- The ops so far of the body's own list.
abbrev pub IsBodyWork : Option ValType → Head → Work → List Op → Type 0
IsBodyWork r (head Func t) (work first s) ops = (t ≡ r) × (first ≡ none) × HasOps s ops
IsBodyWork r (head Block t) w ops = ⊥
IsBodyWork r (head Loop t) w ops = ⊥
IsBodyWork r (head If t) w ops = ⊥
IsBodyWork r (head Else t) w ops = ⊥

-- The ops so far of these open lists, in a body with this result.
abbrev pub IsOpen : Option ValType → List Head → List Work → List Op → Type 0
IsOpen r [] ws ops = ⊥
IsOpen r (h ∷ hs) [] ops = ⊥
IsOpen r (h ∷ []) (w ∷ []) ops = IsBodyWork r h w ops
IsOpen r (h ∷ []) (w ∷ v ∷ ws) ops = ⊥
IsOpen r (h ∷ g ∷ hs) (w ∷ ws) ops =
    (outer : List Op) × (inner : List Op) × IsOpen r (g ∷ hs) ws outer × IsWork h w inner
    × (ops ≡ outer ++ inner)

-- The ops so far of a body with this result, at this place.
abbrev pub IsSoFar : Option ValType → Place → List Op → Type 0
IsSoFar r (open_at hs ws) ops = IsOpen r hs ws ops
IsSoFar r (within n seen hs ws) ops =
    (before : List Op) × IsOpen r hs ws before
    × (ops ≡ before ++ op.BrTable (length seen + n) ∷ map op.Label seen)
IsSoFar r (complete t s) ops = (t ≡ r) × ((inner : List Op) × HasOps s inner × (ops ≡ inner ++ op.End ∷ []))

-- The number of open lists (`levels`), and the nesting depth of the instructions so far (`deepest_so_far`).
-- Instructions directly in the body have depth 1.
abbrev pub levels : Place → ℕ
levels (open_at hs ws) = length hs
levels (within n seen hs ws) = length hs
levels (complete r s) = 0

abbrev pub work_nesting : Head → Work → ℕ
work_nesting (head Func t) (work first s) = nesting s
work_nesting (head Block t) (work first s) = nesting s
work_nesting (head Loop t) (work first s) = nesting s
work_nesting (head If t) (work first s) = nesting s
work_nesting (head Else t) (work first s) = max (nesting first) (nesting s)

abbrev pub deepest_open : List Head → List Work → ℕ
deepest_open [] ws = 0
deepest_open (h ∷ hs) [] = 0
deepest_open (h ∷ hs) (w ∷ ws) = max (length (h ∷ hs) + work_nesting h w) (deepest_open hs ws)

abbrev pub deepest_so_far : Place → ℕ
deepest_so_far (open_at hs ws) = deepest_open hs ws
deepest_so_far (within n seen hs ws) = deepest_open hs ws
deepest_so_far (complete r s) = nesting s + 1
