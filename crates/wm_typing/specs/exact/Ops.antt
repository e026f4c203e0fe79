-- The effects of ops on the stacks and on a br_table whose labels are being read, refusals included. They
-- follow the code step by step, for the layers above. No promise rests on them alone: the other clauses of the
-- calls use `BodyAfter`.
use Rattle.std.specs.Prelude.{◌-◌, Bool, true, false, List, [], ◌∷◌, Option, Some, None, Result, Ok, Err}
use Rattle.std.specs.Prelude.{reverse, map, slice_get, option_to_list, nat_eq, if◌then◌else◌}
use Rattle.wm_syntax.specs.declared.types.ValType.{ValType}
use Rattle.wm_syntax.specs.declared.types.ValType.TheVariants.{I32}
use Rattle.wm_syntax.specs.Runs.{same}
use Rattle.wm_syntax.specs.declared.instructions.Op.{Op}
use Rattle.wm_syntax.specs.declared.instructions.Op.TheVariants as op
use Rattle.wm_syntax.specs.declared.instructions.Simple.{Simple}
use Rattle.wm_syntax.specs.declared.instructions.Simple.TheVariants as simple
use Rattle.wm_syntax.specs.declared.instructions.Numeric.{Numeric}
use Rattle.wm_syntax.specs.declared.instructions.Numeric.TheVariants as numeric
use Rattle.wm_syntax.specs.declared.why.Why.{Why}
use Rattle.wm_syntax.specs.declared.why.Why.TheVariants as why
use Rattle.wm_stacks.specs.declared.stack_entries.Entry.{Entry}
use Rattle.wm_stacks.specs.declared.stack_entries.Entry.TheVariants.{Unknown}
use Rattle.wm_stacks.specs.declared.stack_entries.FrameKind.{FrameKind}
use Rattle.wm_stacks.specs.declared.stack_entries.FrameKind.TheVariants.{Func, Block, Loop, If, Else}
use Rattle.wm_stacks.specs.declared.stack_entries.Frame.{Frame}
use Rattle.wm_stacks.specs.declared.stack_entries.Reach.{Reach}
use Rattle.wm_stacks.specs.declared.stack_entries.Reach.TheVariants.{Whole, Floor}
use Rattle.wm_stacks.specs.Stack.{Stack, label_of}
use Rattle.wm_stacks.specs.exact.Stacks.{open_frame, push, take_all, take_any, cut, close}
use Rattle.wm_typing.specs.declared.labels.BrTable.{BrTable}
use Rattle.wm_typing.specs.Typing.{Context}
use Rattle.wm_typing.specs.exact.OperandTypes.{entry_of_type, join}
use Rattle.wm_typing.specs.exact.Effects.{Effect, fixed, indirect, is_polymorphic, drops, selects, ill}
use Rattle.wm_typing.specs.exact.Effects.{effect_of}
use Rattle.wm_typing.specs.Bodies.{BodyState}

abbrev pub push_all : List ValType → Stack → Stack
push_all [] s = s
push_all (t ∷ ts) s = push_all ts (push (entry_of_type t) s)

-- Continues after a call on the stacks that was not refused.
abbrev pub after_call : {A : Type 0} → Result A Why × Stack → (A → Stack → Result Stack Why)
    → Result Stack Why
after_call (Ok a, s) k = k a s
after_call (Err w, s) k = Err w

abbrev pub drive_fixed : List ValType → List ValType → Stack → Result Stack Why
drive_fixed p q s = after_call (take_all (reverse p) s) (λ r z. Ok (push_all q z))

abbrev pub drive_indirect : List ValType → List ValType → Stack → Result Stack Why
drive_indirect p q s = after_call (take_all (I32 ∷ []) s) (λ r z. drive_fixed p q z)

abbrev pub drive_diverges : List ValType → Stack → Result Stack Why
drive_diverges p s = after_call (take_all (reverse p) s) (λ r z. Ok (cut z))

abbrev pub drive_drop : Stack → Result Stack Why
drive_drop s = after_call (take_any s) (λ e z. Ok z)

abbrev pub push_joined : Option Entry → Stack → Result Stack Why
push_joined None s = Err why.Mismatch
push_joined (Some e) s = Ok (push e s)

abbrev pub select_from : Reach → Stack → Result Stack Why
select_from Floor s = Ok (push Unknown s)
select_from Whole s =
    after_call (take_any s) (λ a z. after_call (take_any z) (λ b y. push_joined (join a b) y))

abbrev pub drive_select : Stack → Result Stack Why
drive_select s = after_call (take_all (I32 ∷ []) s) select_from

abbrev pub drive : Effect → Stack → Result Stack Why
drive (fixed p q) s = drive_fixed p q s
drive (indirect p q) s = drive_indirect p q s
drive (is_polymorphic p) s = drive_diverges p s
drive drops s = drive_drop s
drive selects s = drive_select s
drive (ill w) s = Err w

-- The instruction is one that `fixed_type` handles: its type depends on no label, no function type and no
-- operand.
abbrev pub HasFixedType : Simple → Type 0
HasFixedType (simple.LocalGet x) = Unit {0}
HasFixedType (simple.LocalSet x) = Unit {0}
HasFixedType (simple.LocalTee x) = Unit {0}
HasFixedType (simple.GlobalGet x) = Unit {0}
HasFixedType (simple.GlobalSet x) = Unit {0}
HasFixedType simple.MemorySize = Unit {0}
HasFixedType simple.MemoryGrow = Unit {0}
HasFixedType (simple.I32Const n) = Unit {0}
HasFixedType (simple.I64Const n) = Unit {0}
HasFixedType (simple.F32Const n) = Unit {0}
HasFixedType (simple.F64Const n) = Unit {0}
HasFixedType (simple.Load o at) = Unit {0}
HasFixedType (simple.Store o at) = Unit {0}
HasFixedType (simple.Numeric o) = Unit {0}
HasFixedType p = ⊥

-- A numeric instruction other than a test, a comparison, a sign extension and an operation on numbers of one
-- type.
abbrev pub IsRareNumeric : Numeric → Type 0
IsRareNumeric (numeric.Test t) = ⊥
IsRareNumeric (numeric.Compare t c) = ⊥
IsRareNumeric (numeric.Unary t o) = ⊥
IsRareNumeric (numeric.Binary t o) = ⊥
IsRareNumeric (numeric.FloatCompare t c) = ⊥
IsRareNumeric (numeric.FloatUnary t o) = ⊥
IsRareNumeric (numeric.FloatBinary t o) = ⊥
IsRareNumeric (numeric.SignExtend o) = ⊥
IsRareNumeric o = Unit {0}

-- Takes the result of the innermost frame, and closes the frame.
abbrev pub drive_close : Option ValType → Stack → (Frame → Stack → Result Stack Why) → Result Stack Why
drive_close t s k = after_call (take_all (reverse (option_to_list t)) s) (λ r z. after_call (close z) k)

abbrev pub else_of : FrameKind → Option ValType → Stack → Result Stack Why
else_of If t s = drive_close t s (λ f z. Ok (open_frame Else t z))
else_of Func t s = Err why.ElsePlace
else_of Block t s = Err why.ElsePlace
else_of Loop t s = Err why.ElsePlace
else_of Else t s = Err why.ElsePlace

abbrev pub drive_else : List Frame → Stack → Result Stack Why
drive_else [] s = Err why.ElsePlace
drive_else (f ∷ fs) s = else_of f.kind f.result s

-- Whether an `end` may close the frame: an `if` with a result needs an `else`.
abbrev pub may_end : FrameKind → Option ValType → Bool
may_end If (Some t) = false
may_end If None = true
may_end Func t = true
may_end Block t = true
may_end Loop t = true
may_end Else t = true

-- The result of an `end` goes to the frame around it, if there is one.
abbrev pub give_to : List Frame → Option ValType → Stack → Stack
give_to [] t s = s
give_to (f ∷ fs) t s = push_all (option_to_list t) s

abbrev pub end_of : FrameKind → Option ValType → Stack → Result Stack Why
end_of k t s = if may_end k t then drive_close t s (λ f z. Ok (give_to z.frames t z)) else Err why.Mismatch

abbrev pub drive_end : List Frame → Stack → Result Stack Why
drive_end [] s = Err why.Arity
drive_end (f ∷ fs) s = end_of f.kind f.result s

abbrev pub drive_if : Option ValType → Stack → Result Stack Why
drive_if t s = after_call (take_all (I32 ∷ []) s) (λ r z. Ok (open_frame If t z))

abbrev pub drive_count : Stack → Result Stack Why
drive_count s = after_call (take_all (I32 ∷ []) s) (λ r z. Ok z)

abbrev pub with_table : Option BrTable → Result Stack Why → Result BodyState Why
with_table t (Err w) = Err w
with_table t (Ok s) = Ok (record { stacks = s; table = t })

abbrev pub same_label : Option ValType → Option ValType → Bool
same_label None None = true
same_label None (Some u) = false
same_label (Some t) None = false
same_label (Some t) (Some u) = same t u

abbrev pub goes_with : Option (Option ValType) → Option ValType → Bool
goes_with None t = true
goes_with (Some u) t = same_label u t

-- The effect of a label of this type. The default ends the table, and a label before it does not.
abbrev pub drive_known : Option ValType → BrTable → Stack → Result BodyState Why
drive_known u t s =
    if nat_eq t.left 0 then with_table None (drive_diverges (option_to_list u) s)
    else Ok (record { stacks = s; table = Some (record { left = t.left - 1; seen = Some u }) })

abbrev pub drive_label : Option (Option ValType) → BrTable → Stack → Result BodyState Why
drive_label None t s = Err why.Index
drive_label (Some u) t s = if goes_with t.seen u then drive_known u t s else Err why.Mismatch

abbrev pub labels_of : List Frame → List (Option ValType)
labels_of fs = map label_of fs

-- The context inside these frames.
abbrev pub within_frames : Context → List Frame → Context
within_frames c fs = record c { labels = labels_of fs }

abbrev pub drive_op : Context → Op → Option BrTable → Stack → Result BodyState Why
drive_op c (op.Label l) (Some t) s = drive_label (slice_get (labels_of s.frames) l) t s
drive_op c (op.Simple p) None s = with_table None (drive (effect_of (within_frames c s.frames) p) s)
drive_op c (op.Block t) None s = Ok (record { stacks = open_frame Block t s; table = None })
drive_op c (op.Loop t) None s = Ok (record { stacks = open_frame Loop t s; table = None })
drive_op c (op.If t) None s = with_table None (drive_if t s)
drive_op c op.Else None s = with_table None (drive_else s.frames s)
drive_op c op.End None s = with_table None (drive_end s.frames s)
drive_op c (op.BrTable n) None s = with_table (Some (record { left = n; seen = None })) (drive_count s)
drive_op c _ _ s = Err why.Index

-- The effect of one op, in the context of a body.
abbrev pub step : Context → BodyState → Op → Result BodyState Why
step c s x = drive_op c x s.table s.stacks
