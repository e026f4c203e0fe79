-- The ops that do not grow the operand stack, or the control stack.
use Rattle.std.proofs.Common.{ℕ, ◌≡◌, ◌≤◌, ◌-◌, ◌^◌, Bool, true, false, cond, List, [], ◌∷◌, Option, Some, None, Result, Ok, Err, reverse, length, slice_get, option_to_list, refl, ap, subst, arith}
use Rattle.std.specs.Prelude.{nat_le, nat_lt, nat_eq}
use Rattle.wm_syntax.specs.declared.types.ValType.{ValType}
use Rattle.wm_syntax.specs.declared.types.ValType.TheVariants.{I32}
use Rattle.wm_syntax.specs.declared.types.GlobalType.{GlobalType}
use Rattle.wm_syntax.specs.declared.why.Why.{Why}
use Rattle.wm_syntax.specs.declared.why.Why.TheVariants as why
use Rattle.wm_syntax.specs.declared.instructions.Op.{Op}
use Rattle.wm_syntax.specs.declared.instructions.Op.TheVariants as op
use Rattle.wm_syntax.specs.declared.instructions.Simple.{Simple}
use Rattle.wm_syntax.specs.declared.instructions.Simple.TheVariants as simple
use Rattle.wm_syntax.specs.Opcodes.{store}
use Rattle.wm_stacks.specs.declared.stack_entries.Entry.{Entry}
use Rattle.wm_stacks.specs.declared.stack_entries.Entry.TheVariants.{Unknown}
use Rattle.wm_stacks.specs.declared.stack_entries.FrameKind.{FrameKind}
use Rattle.wm_stacks.specs.declared.stack_entries.FrameKind.TheVariants.{Block, Loop, If}
use Rattle.wm_stacks.specs.declared.stack_entries.Frame.{Frame}
use Rattle.wm_stacks.specs.declared.stack_entries.Reach.{Reach}
use Rattle.wm_stacks.specs.declared.stack_entries.Reach.TheVariants.{Whole, Floor}
use Rattle.wm_stacks.specs.Stack.{Stack, fits}
use Rattle.wm_stacks.specs.exact.Stacks.{push, open_frame, count_after_move, pop_to, at_floor, takes, take_above, in_frame, take_one, take_all, goes_on, any_above, take_any, cut, cut_at, down_to, close, close_at}
use Rattle.wm_typing.specs.declared.labels.BrTable.{BrTable}
use Rattle.wm_typing.specs.Typing.{Context}
use Rattle.wm_typing.specs.exact.OperandTypes.{entry_of_type, join}
use Rattle.wm_typing.specs.exact.Effects.{Effect, fixed, indirect, is_polymorphic, drops, selects, ill, effect_of, with_item, where_true}
use Rattle.wm_typing.specs.exact.Ops.{push_all, after_call, drive_fixed, drive_diverges, push_joined, select_from, drive, drive_close, give_to, drive_end, drive_if, drive_count, with_table, goes_with, drive_known, drive_label, labels_of, within_frames, drive_op, may_end}
use Rattle.wm_typing.specs.exact.Raises.{gives, may_push, may_open}
use Rattle.wm_typing.specs.Bodies.{BodyState}

-- neither list grew
abbrev Falls : Stack → Stack → Type 0
Falls s z = (length z.operands ≤ length s.operands) × (length z.frames ≤ length s.frames)

same : (s : Stack) → Falls s s
same s = (omega arith, omega arith)

along : (s y z : Stack) → Falls s y → Falls y z → Falls s z
along s y z g h = (omega (arith, g.0, h.0), omega (arith, g.1, h.1))

floor_falls : {A : Type 0} (a : A) (b : Bool) (s : Stack) → Falls s (at_floor a b s).1
floor_falls a true s = (omega arith, omega arith)
floor_falls a false s = same s

takes_falls : (b : Bool) (e : Entry) (es : List Entry) (s : Stack) → s.operands ≡ e ∷ es → Falls s (takes b es s).1
takes_falls true e es s q = let l = ap length q in (omega (arith, l), omega arith)
takes_falls false e es s q = same s

above_falls : (t : ValType) (f : Frame) (ops : List Entry) (s : Stack) → s.operands ≡ ops → Falls s (take_above t f ops s).1
above_falls t f [] s q = floor_falls Floor f.unreachable s
above_falls t f (e ∷ es) s q = go (nat_le f.floor (length es))
  where
    go : (b : Bool) → Falls s (cond b (takes (fits e t) es s) (at_floor Floor f.unreachable s)).1
    go true = takes_falls (fits e t) e es s q
    go false = floor_falls Floor f.unreachable s

one_falls : (t : ValType) (fs : List Frame) (s : Stack) → Falls s (in_frame fs (λ f. take_above t f s.operands s) s).1
one_falls t [] s = same s
one_falls t (f ∷ fs) s = above_falls t f s.operands s refl

goes_falls : (r : Result Reach Why × Stack) (k : Stack → Result Reach Why × Stack) (s : Stack) → Falls s r.1
    → ((z : Stack) → Falls z (k z).1) → Falls s (goes_on r k).1
goes_falls (Ok Whole, z) k s g h = along s z (k z).1 g (h z)
goes_falls (Ok Floor, z) k s g h = g
goes_falls (Err why, z) k s g h = g

take_falls : (ts : List ValType) (s : Stack) → Falls s (take_all ts s).1
take_falls [] s = same s
take_falls (t ∷ ts) s = goes_falls (take_one t s) (take_all ts) s (one_falls t s.frames s) (take_falls ts)

any_above_falls : (f : Frame) (ops : List Entry) (s : Stack) → s.operands ≡ ops → Falls s (any_above f ops s).1
any_above_falls f [] s q = floor_falls Unknown f.unreachable s
any_above_falls f (e ∷ es) s q = go (nat_le f.floor (length es))
  where
    go : (b : Bool) → Falls s (cond {A = Result Entry Why × Stack} b (Ok e, pop_to es s) (at_floor Unknown f.unreachable s)).1
    go true = let l = ap length q in (omega (arith, l), omega arith)
    go false = floor_falls Unknown f.unreachable s

any_in_falls : (fs : List Frame) (s : Stack) → Falls s (in_frame fs (λ f. any_above f s.operands s) s).1
any_in_falls [] s = same s
any_in_falls (f ∷ fs) s = any_above_falls f s.operands s refl

any_falls : (s : Stack) → Falls s (take_any s).1
any_falls s = any_in_falls s.frames s

down_falls : (n : ℕ) (ops : List Entry) (m : ℕ) → length (down_to n ops m).0 ≤ length ops
down_falls n [] m = omega arith
down_falls n (e ∷ es) m = go (nat_le n (length es)) (down_falls n es (count_after_move m))
  where
    go : (b : Bool) → length (down_to n es (count_after_move m)).0 ≤ length es → length (cond {A = List Entry × ℕ} b (down_to n es (count_after_move m)) (e ∷ es, m)).0 ≤ length (e ∷ es)
    go true h = omega (arith, h)
    go false h = omega arith

cut_at_falls : (fs : List Frame) (s : Stack) → s.frames ≡ fs → Falls s (cut_at fs s)
cut_at_falls [] s q = same s
cut_at_falls (f ∷ fs) s q = let l = ap length q in (down_falls f.floor s.operands s.moves, omega (arith, l))

cut_falls : (s : Stack) → Falls s (cut s)
cut_falls s = cut_at_falls s.frames s refl

close_at_falls : (fs : List Frame) (s : Stack) → s.frames ≡ fs → Falls s (close_at fs s).1
close_at_falls [] s q = same s
close_at_falls (f ∷ fs) s q = go (nat_lt f.floor (length s.operands))
  where
    go : (b : Bool) → Falls s (cond {A = Result Frame Why × Stack} b (Err why.Arity, s) (Ok f, record s { frames = fs; moves = count_after_move s.moves })).1
    go true = same s
    go false = let l = ap length q in (omega arith, omega (arith, l))

close_falls : (s : Stack) → Falls s (close s).1
close_falls s = close_at_falls s.frames s refl

-- No more operands are left unless the first may be, and no more frames unless the second.
abbrev pub Lower : Bool → Bool → Stack → Stack → Type 0
Lower p q s z = (p ≡ false → length z.operands ≤ length s.operands) × (q ≡ false → length z.frames ≤ length s.frames)

abbrev MayLower : Bool → Bool → Stack → Result Stack Why → Type 0
MayLower p q s (Err w) = Unit {0}
MayLower p q s (Ok z) = Lower p q s z

falls_lower : (p q : Bool) (s z : Stack) → Falls s z → Lower p q s z
falls_lower p q s z f = (λ h. f.0, λ h. f.1)

after_lower : {A : Type 0} (p q : Bool) (s : Stack) (r : Result A Why × Stack) (k : A → Stack → Result Stack Why) → Falls s r.1
    → ((x : A) (z : Stack) → MayLower p q z (k x z)) → MayLower p q s (after_call r k)
after_lower p q s (Ok x, z) k f h = go (k x z) (h x z)
  where
    go : (o : Result Stack Why) → MayLower p q z o → MayLower p q s o
    go (Err w) g = tt
    go (Ok y) g = (λ e. omega (arith, f.0, g.0 e), λ e. omega (arith, f.1, g.1 e))
after_lower p q s (Err w, z) k f h = tt

given_lower : (q : Bool) (ts : List ValType) (s : Stack) → Lower true q s (push_all ts s)
given_lower q [] s = (λ h. omega arith, λ h. omega arith)
given_lower q (t ∷ ts) s =
    let r = given_lower q ts (push (entry_of_type t) s) in
    (λ h. absurd (no h), λ h. omega (arith, r.1 h))
  where
    no : true ≡ false → ⊥
    no h = cc

pushed_lower : (q : Bool) (e : Entry) (s : Stack) → Lower true q s (push e s)
pushed_lower q e s = (λ h. absurd (no h), λ h. omega arith)
  where
    no : true ≡ false → ⊥
    no h = cc

taken_lower : (p q : Bool) (ts : List ValType) (s : Stack) → MayLower p q s (drive_fixed ts [] s)
taken_lower p q ts s = after_lower p q s (take_all (reverse ts) s) (λ r z. Ok z) (take_falls (reverse ts) s) (λ r z. falls_lower p q z z (same z))

fixed_lower : (q : Bool) (ts us : List ValType) (s : Stack) → MayLower true q s (drive_fixed ts us s)
fixed_lower q ts us s = after_lower true q s (take_all (reverse ts) s) (λ r z. Ok (push_all us z)) (take_falls (reverse ts) s) (λ r z. given_lower q us z)

diverges_lower : (p q : Bool) (ts : List ValType) (s : Stack) → MayLower p q s (drive_diverges ts s)
diverges_lower p q ts s =
    after_lower p q s (take_all (reverse ts) s) (λ r z. Ok (cut z)) (take_falls (reverse ts) s) (λ r z. falls_lower p q z (cut z) (cut_falls z))

joined_lower : (q : Bool) (o : Option Entry) (s : Stack) → MayLower true q s (push_joined o s)
joined_lower q None s = tt
joined_lower q (Some e) s = pushed_lower q e s

select_lower : (q : Bool) (r : Reach) (s : Stack) → MayLower true q s (select_from r s)
select_lower q Floor s = pushed_lower q Unknown s
select_lower q Whole s =
    after_lower true q s (take_any s) (λ a y. after_call (take_any y) (λ b x. push_joined (join a b) x)) (any_falls s)
    (λ a y. after_lower true q y (take_any y) (λ b x. push_joined (join a b) x) (any_falls y) (λ b x. joined_lower q (join a b) x))

drop_lower : (p q : Bool) (s : Stack) → MayLower p q s (drive drops s)
drop_lower p q s = after_lower p q s (take_any s) (λ e z. Ok z) (any_falls s) (λ e z. falls_lower p q z z (same z))

shape_lower : (q : Bool) (sh : Effect) (s : Stack) → MayLower true q s (drive sh s)
shape_lower q (fixed ts us) s = fixed_lower q ts us s
shape_lower q (indirect ts us) s =
    after_lower true q s (take_all (I32 ∷ []) s) (λ r z. drive_fixed ts us z) (take_falls (I32 ∷ []) s) (λ r z. fixed_lower q ts us z)
shape_lower q (is_polymorphic ts) s = diverges_lower true q ts s
shape_lower q drops s = drop_lower true q s
shape_lower q selects s = after_lower true q s (take_all (I32 ∷ []) s) select_from (take_falls (I32 ∷ []) s) (λ r z. select_lower q r z)
shape_lower q (ill w) s = tt

-- what takes alone
set_lower : (q : Bool) (o : Option ValType) (s : Stack) → MayLower false q s (drive (with_item o (λ t. fixed (t ∷ []) [])) s)
set_lower q None s = tt
set_lower q (Some t) s = taken_lower false q (t ∷ []) s

global_lower : (q : Bool) (o : Option GlobalType) (s : Stack)
    → MayLower false q s (drive (with_item o (λ g. where_true why.Immutable g.var (fixed (g.ty ∷ []) []))) s)
global_lower q None s = tt
global_lower q (Some g) s = go g.var
  where
    go : (b : Bool) → MayLower false q s (drive (where_true why.Immutable b (fixed (g.ty ∷ []) [])) s)
    go true = taken_lower false q (g.ty ∷ []) s
    go false = tt

store_lower : (q a b : Bool) (ts : List ValType) (s : Stack)
    → MayLower false q s (drive (where_true why.Index a (where_true why.Align b (fixed ts []))) s)
store_lower q true true ts s = taken_lower false q ts s
store_lower q true false ts s = tt
store_lower q false b ts s = tt

simple_lower : (c : Context) (i : Simple) (s : Stack) → MayLower (gives i) false s (drive (effect_of c i) s)
simple_lower c (simple.LocalSet x) s = set_lower false (slice_get c.locals x) s
simple_lower c (simple.GlobalSet x) s = global_lower false (slice_get c.globals x) s
simple_lower c (simple.Store o at) s = store_lower false c.has_memory (nat_le (2 ^ at.align) (store o).width) (I32 ∷ (store o).ty ∷ []) s
simple_lower c simple.Drop s = drop_lower false false s
simple_lower c i s = shape_lower false (effect_of c i) s

opened_lower : (k : FrameKind) (t : Option ValType) (s : Stack) → Lower false true s (open_frame k t s)
opened_lower k t s = (λ h. omega arith, λ h. absurd (no h))
  where
    no : true ≡ false → ⊥
    no h = cc

give_lower : (fs : List Frame) (t : Option ValType) (s : Stack) → Lower true false s (give_to fs t s)
give_lower [] t s = falls_lower true false s s (same s)
give_lower (f ∷ fs) t s = given_lower false (option_to_list t) s

end_of_lower : (b : Bool) (t : Option ValType) (s : Stack)
    → MayLower true false s (cond b (drive_close t s (λ f z. Ok (give_to z.frames t z))) (Err why.Mismatch))
end_of_lower true t s =
    after_lower true false s (take_all (reverse (option_to_list t)) s) (λ r z. after_call (close z) (λ f y. Ok (give_to y.frames t y))) (take_falls (reverse (option_to_list t)) s)
    (λ r z. after_lower true false z (close z) (λ f y. Ok (give_to y.frames t y)) (close_falls z) (λ f y. give_lower y.frames t y))
end_of_lower false t s = tt

end_lower : (fs : List Frame) (s : Stack) → MayLower true false s (drive_end fs s)
end_lower [] s = tt
end_lower (f ∷ fs) s = end_of_lower (may_end f.kind f.result) f.result s

abbrev MayLowerOp : Bool → Bool → Stack → Result BodyState Why → Type 0
MayLowerOp p q s (Err w) = Unit {0}
MayLowerOp p q s (Ok d) = Lower p q s d.stacks

with_table_lower : (p q : Bool) (t : Option BrTable) (s : Stack) (o : Result Stack Why) → MayLower p q s o → MayLowerOp p q s (with_table t o)
with_table_lower p q t s (Err w) h = tt
with_table_lower p q t s (Ok z) h = h

-- an else may both push and open, so nothing is said of it
any_lower : (s : Stack) (o : Result BodyState Why) → MayLowerOp true true s o
any_lower s (Err w) = tt
any_lower s (Ok d) = (λ h. absurd (no h), λ h. absurd (no h))
  where
    no : true ≡ false → ⊥
    no h = cc

known_lower : (z : Bool) (u : Option ValType) (t : Option BrTable) (s : Stack)
    → MayLowerOp false false s (cond z (with_table None (drive_diverges (option_to_list u) s)) (Ok (record { stacks = s; table = t })))
known_lower true u t s = with_table_lower false false None s (drive_diverges (option_to_list u) s) (diverges_lower false false (option_to_list u) s)
known_lower false u t s = falls_lower false false s s (same s)

goes_label_lower : (b : Bool) (u : Option ValType) (t : BrTable) (s : Stack) → MayLowerOp false false s (cond b (drive_known u t s) (Err why.Mismatch))
goes_label_lower true u t s = known_lower (nat_eq t.left 0) u (Some (record { left = t.left - 1; seen = Some u })) s
goes_label_lower false u t s = tt

label_lower : (o : Option (Option ValType)) (t : BrTable) (s : Stack) → MayLowerOp false false s (drive_label o t s)
label_lower None t s = tt
label_lower (Some u) t s = goes_label_lower (goes_with t.seen u) u t s

op_lower : (c : Context) (x : Op) (t : Option BrTable) (s : Stack) → MayLowerOp (may_push x) (may_open x) s (drive_op c x t s)
op_lower c (op.Label l) (Some t) s = label_lower (slice_get (labels_of s.frames) l) t s
op_lower c (op.Simple i) None s =
    with_table_lower (gives i) false None s (drive (effect_of (within_frames c s.frames) i) s) (simple_lower (within_frames c s.frames) i s)
op_lower c (op.Block t) None s = opened_lower Block t s
op_lower c (op.Loop t) None s = opened_lower Loop t s
op_lower c (op.If t) None s =
    with_table_lower false true None s (drive_if t s)
    (after_lower false true s (take_all (I32 ∷ []) s) (λ r z. Ok (open_frame If t z)) (take_falls (I32 ∷ []) s) (λ r z. opened_lower If t z))
op_lower c op.Else t s = any_lower s (drive_op c op.Else t s)
op_lower c op.End None s = with_table_lower true false None s (drive_end s.frames s) (end_lower s.frames s)
op_lower c (op.BrTable n) None s =
    with_table_lower false false (Some (record { left = n; seen = None })) s (drive_count s)
    (after_lower false false s (take_all (I32 ∷ []) s) (λ r z. Ok z) (take_falls (I32 ∷ []) s) (λ r z. falls_lower false false z z (same z)))
op_lower c (op.Label l) None s = tt
op_lower c (op.Simple i) (Some t) s = tt
op_lower c (op.Block u) (Some t) s = tt
op_lower c (op.Loop u) (Some t) s = tt
op_lower c (op.If u) (Some t) s = tt
op_lower c op.End (Some t) s = tt
op_lower c (op.BrTable n) (Some t) s = tt

pub step_lower : (c : Context) (x : Op) (t : Option BrTable) (s : Stack) (d : BodyState) → drive_op c x t s ≡ Ok d → Lower (may_push x) (may_open x) s d.stacks
step_lower c x t s d e = subst (λ z. MayLowerOp (may_push x) (may_open x) s z) e (op_lower c x t s)
