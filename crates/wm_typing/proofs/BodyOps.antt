-- The effect of each op of a body on the frames.
use Rattle.std.proofs.Common.{ℕ, zero, suc, Bool, true, false, List, [], ◌∷◌, ◌++◌, Option, Some, None, reverse, map, slice_get, option_to_list, if◌then◌else◌}
use Rattle.wm_syntax.specs.declared.types.ValType.{ValType}
use Rattle.wm_syntax.specs.declared.types.ValType.TheVariants.{I32}
use Rattle.wm_syntax.specs.declared.instructions.Simple.{Simple}
use Rattle.wm_syntax.specs.declared.instructions.Op.{Op}
use Rattle.wm_syntax.specs.declared.instructions.Op.TheVariants as op
use Rattle.wm_stacks.specs.declared.stack_entries.FrameKind.{FrameKind}
use Rattle.wm_stacks.specs.declared.stack_entries.FrameKind.TheVariants.{Func, Block, Loop, If, Else}
use Rattle.wm_typing.specs.Typing.{Context}
use Rattle.wm_typing.specs.exact.OperandTypes.{entry_of_type}
use Rattle.wm_typing.specs.exact.Ops.{may_end, goes_with}
use Rattle.wm_typing.specs.exact.Effects.{fixed, is_polymorphic, effect_of}
use Rattle.wm_typing.specs.OpenLists.{Head, head, label_type, at}
use Rattle.wm_typing.specs.inner.Frames.{Pile, Frames, running, in_table, ended}
use Rattle.wm_typing.proofs.FrameOperands.{Take, whole, floor, refused, take_types, apply}

abbrev pub with_pile : Option Pile → (Pile → Frames) → Option Frames
with_pile None f = None
with_pile (Some g) f = Some (f g)

abbrev pub step_simple : Context → Simple → Frames → Option Frames
step_simple c p (running (h ∷ hs) (f ∷ fs)) = with_pile (apply (effect_of (at c (h ∷ hs)) p) f) (λ g. running (h ∷ hs) (g ∷ fs))
step_simple c p _ = None

abbrev pub empty : Pile
empty = record { dead = false; entries = [] }

abbrev pub step_begin : Head → Frames → Option Frames
step_begin h (running hs (f ∷ fs)) = Some (running (h ∷ hs) (empty ∷ f ∷ fs))
step_begin h _ = None

abbrev pub take_condition : Pile → Option Pile
take_condition f = apply (fixed (I32 ∷ []) []) f

abbrev pub step_if : Option ValType → Frames → Option Frames
step_if t (running hs (f ∷ fs)) = with_pile (take_condition f) (λ g. running (head If t ∷ hs) (empty ∷ g ∷ fs))
step_if t _ = None

-- only the operands that were taken stood above the floor
abbrev pub is_closed : Take → Bool
is_closed (whole []) = true
is_closed (whole (e ∷ es)) = false
is_closed floor = true
is_closed refused = false

abbrev pub closes : Option ValType → Pile → Bool
closes t f = is_closed (take_types f.dead f.entries (reverse (option_to_list t)))

abbrev pub where_closed : Bool → Frames → Option Frames
where_closed true s = Some s
where_closed false s = None

abbrev pub step_else : Frames → Option Frames
step_else (running (head If t ∷ hs) (f ∷ fs)) = where_closed (closes t f) (running (head Else t ∷ hs) (empty ∷ fs))
step_else _ = None

abbrev pub push_types : Option ValType → Pile → Pile
push_types t f = record f { entries = map entry_of_type (reverse (option_to_list t)) ++ f.entries }

abbrev pub end_frame : FrameKind → Option ValType → Pile → List Head → List Pile → Option Frames
end_frame Func t f [] [] = where_closed (closes t f) ended
end_frame Func t f _ _ = None
end_frame k t f (h ∷ hs) (g ∷ fs) =
    if may_end k t then where_closed (closes t f) (running (h ∷ hs) (push_types t g ∷ fs)) else None
end_frame k t f _ _ = None

abbrev pub step_end : Frames → Option Frames
step_end (running (head k t ∷ hs) (f ∷ fs)) = end_frame k t f hs fs
step_end _ = None

abbrev pub step_table : ℕ → Frames → Option Frames
step_table n (running hs (f ∷ fs)) = with_pile (take_condition f) (λ g. in_table n None hs (g ∷ fs))
step_table n _ = None

abbrev pub at_label : ℕ → Option ValType → List Head → Pile → List Pile → Option Frames
at_label zero t hs f fs = with_pile (apply (is_polymorphic (option_to_list t)) f) (λ g. running hs (g ∷ fs))
at_label (suc n) t hs f fs = Some (in_table n (Some t) hs (f ∷ fs))

abbrev pub with_label_type : Option (Option ValType) → ℕ → Option (Option ValType) → List Head → Pile → List Pile → Option Frames
with_label_type None n seen hs f fs = None
with_label_type (Some t) n seen hs f fs = if goes_with seen t then at_label n t hs f fs else None

abbrev pub step_label : ℕ → Frames → Option Frames
step_label l (in_table n seen hs (f ∷ fs)) = with_label_type (slice_get (map label_type hs) l) n seen hs f fs
step_label l _ = None

abbrev pub step : Context → Frames → Op → Option Frames
step c s (op.Simple p) = step_simple c p s
step c s (op.Block t) = step_begin (head Block t) s
step c s (op.Loop t) = step_begin (head Loop t) s
step c s (op.If t) = step_if t s
step c s op.Else = step_else s
step c s op.End = step_end s
step c s (op.BrTable n) = step_table n s
step c s (op.Label l) = step_label l s

abbrev pub start : Context → Frames
start c = running (head Func (c.result) ∷ []) (empty ∷ [])
