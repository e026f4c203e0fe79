-- The exact answer of each call, as a function of the two lists and the count, refusals included. They follow
-- the code. The layers above build their own exact answers on them. No promise rests on them alone: the other
-- clauses use the definitions of `Stack`.
use Rattle.std.specs.Prelude.{ℕ, Bool, true, false, List, [], ◌∷◌, Option, Some, None, Result, Ok, Err}
use Rattle.std.specs.Prelude.{length, nat_le, nat_lt, if◌then◌else◌}
use Rattle.wm_syntax.specs.declared.types.ValType.{ValType}
use Rattle.wm_syntax.specs.declared.why.Why.{Why}
use Rattle.wm_syntax.specs.declared.why.Why.TheVariants.{Mismatch, Arity}
use Rattle.wm_stacks.specs.declared.stack_entries.Entry.{Entry}
use Rattle.wm_stacks.specs.declared.stack_entries.Entry.TheVariants.{Unknown}
use Rattle.wm_stacks.specs.declared.stack_entries.FrameKind.{FrameKind}
use Rattle.wm_stacks.specs.declared.stack_entries.Frame.{Frame}
use Rattle.wm_stacks.specs.declared.stack_entries.Reach.{Reach}
use Rattle.wm_stacks.specs.declared.stack_entries.Reach.TheVariants.{Whole, Floor}
use Rattle.wm_stacks.specs.Stack.{Stack, fits, fresh_frame, marked_frames, moves_after}

-- The first element, and the elements after it.
abbrev pub first : {A : Type 0} → List A → Option A
first [] = None
first (x ∷ xs) = Some x

abbrev pub rest : {A : Type 0} → List A → List A
rest [] = []
rest (x ∷ xs) = xs

-- The count after one more move.
abbrev pub count_after_move : ℕ → ℕ
count_after_move n = moves_after 1 n

abbrev pub push : Entry → Stack → Stack
push e s = record s { operands = e ∷ s.operands; moves = count_after_move s.moves }

abbrev pub open_frame : FrameKind → Option ValType → Stack → Stack
open_frame k t s = record s {
  frames = fresh_frame k t (length s.operands) ∷ s.frames;
  moves = count_after_move s.moves;
}

abbrev pub look : Stack → Stack
look s = record s { moves = count_after_move s.moves }

-- The answer at the floor of a frame: one look if the frame is unreachable, else a refusal.
abbrev pub at_floor : {A : Type 0} → A → Bool → Stack → Result A Why × Stack
at_floor a true s = (Ok a, look s)
at_floor a false s = (Err Arity, s)

-- The stacks after a removal that leaves these operands: one move.
abbrev pub pop_to : List Entry → Stack → Stack
pop_to es s = record s { operands = es; moves = count_after_move s.moves }

abbrev pub takes : Bool → List Entry → Stack → Result Reach Why × Stack
takes true es s = (Ok Whole, pop_to es s)
takes false es s = (Err Mismatch, s)

abbrev pub take_above : ValType → Frame → List Entry → Stack → Result Reach Why × Stack
take_above t f [] s = at_floor Floor f.unreachable s
take_above t f (e ∷ es) s =
    if nat_le f.floor (length es) then takes (fits e t) es s else at_floor Floor f.unreachable s

abbrev pub in_frame : {A : Type 0} → List Frame → (Frame → Result A Why × Stack) → Stack → Result A Why
    × Stack
in_frame [] g s = (Err Arity, s)
in_frame (f ∷ fs) g s = g f

-- Takes one operand of this type.
abbrev pub take_one : ValType → Stack → Result Reach Why × Stack
take_one t s = in_frame s.frames (λ f. take_above t f s.operands s) s

abbrev pub any_above : Frame → List Entry → Stack → Result Entry Why × Stack
any_above f [] s = at_floor Unknown f.unreachable s
any_above f (e ∷ es) s =
    if nat_le f.floor (length es) then (Ok e, pop_to es s) else at_floor Unknown f.unreachable s

abbrev pub take_any : Stack → Result Entry Why × Stack
take_any s = in_frame s.frames (λ f. any_above f s.operands s) s

abbrev pub goes_on : Result Reach Why × Stack → (Stack → Result Reach Why × Stack)
    → Result Reach Why × Stack
goes_on (Ok Whole, s) k = k s
goes_on (Ok Floor, s) k = (Ok Floor, s)
goes_on (Err why, s) k = (Err why, s)

-- Takes operands of these types, the first type from the top.
abbrev pub take_all : List ValType → Stack → Result Reach Why × Stack
take_all [] s = (Ok Whole, s)
take_all (t ∷ ts) s = goes_on (take_one t s) (take_all ts)

-- The operands below the floor, and the count after the removal of all others, one move each.
abbrev pub down_to : ℕ → List Entry → ℕ → List Entry × ℕ
down_to floor [] m = ([], m)
down_to floor (e ∷ es) m = if nat_le floor (length es) then down_to floor es (count_after_move m)
    else (e ∷ es, m)

-- The stacks with the innermost frame marked as unreachable.
abbrev pub mark_unreachable : Stack → Stack
mark_unreachable s = record s { frames = marked_frames s.frames }

abbrev pub cut_at : List Frame → Stack → Stack
cut_at [] s = s
cut_at (f ∷ fs) s =
    let d = down_to f.floor s.operands s.moves in
    record { operands = d.0; frames = record f { unreachable = true } ∷ fs; moves = d.1 }

abbrev pub cut : Stack → Stack
cut s = cut_at s.frames s

abbrev pub close_at : List Frame → Stack → Result Frame Why × Stack
close_at [] s = (Err Arity, s)
close_at (f ∷ fs) s =
    if nat_lt f.floor (length s.operands) then (Err Arity, s)
    else (Ok f, record s { frames = fs; moves = count_after_move s.moves })

abbrev pub close : Stack → Result Frame Why × Stack
close s = close_at s.frames s
