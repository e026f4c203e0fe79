-- The bounds of what each op adds to the moves and to the heights.
use Rattle.std.proofs.Common.{ℕ, zero, suc, ◌≡◌, ◌≤◌, ◌+◌, ◌-◌, Bool, true, false, cond, List, [], ◌∷◌, ◌++◌, Option, Some, None, Result, Ok, Err, reverse, length, slice_get, option_map, option_to_list, refl, sym, ap, ◌∙◌, subst, arith}
use Rattle.std.specs.Prelude.{nat_le, nat_lt, nat_eq, ◌^◌, option_and_then}
use Rattle.wm_syntax.specs.declared.types.ValType.{ValType}
use Rattle.wm_syntax.specs.declared.types.ValType.TheVariants.{I32}
use Rattle.wm_syntax.specs.declared.why.Why.{Why}
use Rattle.wm_syntax.specs.declared.why.Why.TheVariants as why
use Rattle.wm_syntax.specs.declared.instructions.Conversion.TheVariants as cv
use Rattle.wm_syntax.specs.declared.instructions.Simple.{Simple}
use Rattle.wm_syntax.specs.declared.instructions.Op.{Op}
use Rattle.wm_syntax.specs.declared.instructions.Op.TheVariants as op
use Rattle.wm_stacks.specs.declared.stack_entries.Entry.{Entry}
use Rattle.wm_stacks.specs.declared.stack_entries.Entry.TheVariants.{Unknown}
use Rattle.wm_stacks.specs.declared.stack_entries.FrameKind.{FrameKind}
use Rattle.wm_stacks.specs.declared.stack_entries.FrameKind.TheVariants.{Func, Block, Loop, If, Else}
use Rattle.wm_stacks.specs.declared.stack_entries.Frame.{Frame}
use Rattle.wm_stacks.specs.declared.stack_entries.Reach.{Reach}
use Rattle.wm_stacks.specs.declared.stack_entries.Reach.TheVariants.{Whole, Floor}
use Rattle.wm_stacks.specs.Stack.{Stack, fits}
use Rattle.wm_stacks.specs.exact.FastPaths.{Replaces, push_given}
use Rattle.wm_stacks.specs.exact.Stacks.{push, open_frame, count_after_move, pop_to, at_floor as stack_at_floor, takes, take_above, in_frame, take_one, take_all, goes_on, any_above, take_any, cut, cut_at, down_to, close, close_at}
use Rattle.wm_typing.specs.declared.labels.BrTable.{BrTable}
use Rattle.wm_typing.specs.Typing.{Context, function_type}
use Rattle.wm_typing.specs.exact.OperandTypes.{entry_of_type, join}
use Rattle.wm_typing.specs.exact.Effects.{Effect, fixed, indirect, is_polymorphic, drops, selects, ill, effect_of, with_item, where_true, access_effect, bulk_effect, table_effect}
use Rattle.wm_typing.specs.OpenLists.{at}
use Rattle.wm_typing.specs.exact.Ops.{push_all, after_call, drive_fixed, drive_indirect, drive_diverges, drive_drop, push_joined, select_from, drive, drive_close, else_of, drive_else, may_end, give_to, end_of, drive_end, drive_if, drive_count, with_table, goes_with, drive_known, drive_label, labels_of, within_frames, drive_op}
use Rattle.wm_typing.specs.Bodies.{BodyState}
use Rattle.std.specs.List.{AllByRecursion}
use Rattle.wm_syntax.specs.declared.instructions.Simple.TheVariants as s
use Rattle.wm_syntax.specs.declared.instructions.Numeric.{Numeric}
use Rattle.wm_syntax.specs.declared.instructions.Numeric.TheVariants as num
use Rattle.wm_syntax.specs.declared.instructions.SignExtension.TheVariants as ext
use Rattle.wm_syntax.specs.declared.instructions.Saturation.TheVariants as sat
use Rattle.wm_syntax.specs.Types.{Signature}
use Rattle.wm_syntax.specs.Opcodes.{numeric, load, store}
use Rattle.wm_typing.specs.exact.Answers.{Acts, Adds}

abbrev pub OneAdds : Result Reach Why × Stack → Stack → Type 0
OneAdds (Ok Whole, z) s = Adds 0 0 s z
OneAdds (Ok Floor, z) s = Adds 1 0 s z
OneAdds (Err why, z) s = Adds 1 0 s z

adds_same : (s : Stack) (a : ℕ) → Adds a 0 s s
adds_same s a = (omega arith, omega arith)

floor_adds : (b : Bool) (s : Stack) → OneAdds (stack_at_floor Floor b s) s
floor_adds true s = (omega arith, omega arith)
floor_adds false s = adds_same s 1

takes_adds : (b : Bool) (e : Entry) (es : List Entry) (fs : List Frame) (m : ℕ)
    → OneAdds (takes b es (record { operands = e ∷ es; frames = fs; moves = m })) (record { operands = e ∷ es; frames = fs; moves = m })
takes_adds true e es fs m = (omega arith, omega arith)
takes_adds false e es fs m = adds_same (record { operands = e ∷ es; frames = fs; moves = m }) 1

above_adds : (t : ValType) (f : Frame) (ops : List Entry) (fs : List Frame) (m : ℕ)
    → OneAdds (take_above t f ops (record { operands = ops; frames = fs; moves = m })) (record { operands = ops; frames = fs; moves = m })
above_adds t f [] fs m = floor_adds f.unreachable (record { operands = []; frames = fs; moves = m })
above_adds t f (e ∷ es) fs m = go (nat_le f.floor (length es))
  where
    go : (b : Bool) → OneAdds (cond b (takes (fits e t) es (record { operands = e ∷ es; frames = fs; moves = m })) (stack_at_floor Floor f.unreachable (record { operands = e ∷ es; frames = fs; moves = m }))) (record { operands = e ∷ es; frames = fs; moves = m })
    go true = takes_adds (fits e t) e es fs m
    go false = floor_adds f.unreachable (record { operands = e ∷ es; frames = fs; moves = m })

one_adds : (t : ValType) (fs gs : List Frame) (ops : List Entry) (m : ℕ)
    → OneAdds (in_frame fs (λ f. take_above t f ops (record { operands = ops; frames = gs; moves = m })) (record { operands = ops; frames = gs; moves = m })) (record { operands = ops; frames = gs; moves = m })
one_adds t [] gs ops m = adds_same (record { operands = ops; frames = gs; moves = m }) 1
one_adds t (f ∷ fs) gs ops m = above_adds t f ops gs m

goes_adds : (r : Result Reach Why × Stack) (k : Stack → Result Reach Why × Stack) (s : Stack) → OneAdds r s
    → ((z : Stack) → Adds 1 0 z (k z).1) → Adds 1 0 s (goes_on r k).1
goes_adds (Ok Whole, z) k s o h = let d = h z in (omega (arith, d.0, o.0), omega (arith, d.1, o.1))
goes_adds (Ok Floor, z) k s o h = o
goes_adds (Err why, z) k s o h = o

pub take_adds : (ts : List ValType) (s : Stack) → Adds 1 0 s (take_all ts s).1
take_adds [] s = adds_same s 1
take_adds (t ∷ ts) s = goes_adds (take_one t s) (take_all ts) s (one_adds t s.frames s.frames s.operands s.moves) (take_adds ts)

any_floor_adds : (b : Bool) (s : Stack) → Adds 1 0 s (stack_at_floor Unknown b s).1
any_floor_adds true s = (omega arith, omega arith)
any_floor_adds false s = adds_same s 1

any_above_adds : (f : Frame) (ops : List Entry) (fs : List Frame) (m : ℕ)
    → Adds 1 0 (record { operands = ops; frames = fs; moves = m }) (any_above f ops (record { operands = ops; frames = fs; moves = m })).1
any_above_adds f [] fs m = any_floor_adds f.unreachable (record { operands = []; frames = fs; moves = m })
any_above_adds f (e ∷ es) fs m = go (nat_le f.floor (length es))
  where
    go : (b : Bool) → Adds 1 0 (record { operands = e ∷ es; frames = fs; moves = m }) (cond {A = Result Entry Why × Stack} b (Ok e, pop_to es (record { operands = e ∷ es; frames = fs; moves = m })) (stack_at_floor Unknown f.unreachable (record { operands = e ∷ es; frames = fs; moves = m }))).1
    go true = (omega arith, omega arith)
    go false = any_floor_adds f.unreachable (record { operands = e ∷ es; frames = fs; moves = m })

any_in_adds : (fs gs : List Frame) (ops : List Entry) (m : ℕ)
    → Adds 1 0 (record { operands = ops; frames = gs; moves = m }) (in_frame fs (λ f. any_above f ops (record { operands = ops; frames = gs; moves = m })) (record { operands = ops; frames = gs; moves = m })).1
any_in_adds [] gs ops m = adds_same (record { operands = ops; frames = gs; moves = m }) 1
any_in_adds (f ∷ fs) gs ops m = any_above_adds f ops gs m

pub any_adds : (s : Stack) → Adds 1 0 s (take_any s).1
any_adds s = any_in_adds s.frames s.frames s.operands s.moves

down_adds : (n : ℕ) (ops : List Entry) (m : ℕ) → ((down_to n ops m).1 + length (down_to n ops m).0 ≤ m + length ops) × (length (down_to n ops m).0 ≤ length ops)
down_adds n [] m = (omega arith, omega arith)
down_adds n (e ∷ es) m = go (nat_le n (length es)) (down_adds n es (count_after_move m))
  where
    go : (b : Bool) → ((down_to n es (count_after_move m)).1 + length (down_to n es (count_after_move m)).0 ≤ count_after_move m + length es) × (length (down_to n es (count_after_move m)).0 ≤ length es)
        → ((cond {A = List Entry × ℕ} b (down_to n es (count_after_move m)) (e ∷ es, m)).1 + length (cond {A = List Entry × ℕ} b (down_to n es (count_after_move m)) (e ∷ es, m)).0 ≤ m + length (e ∷ es)) × (length (cond {A = List Entry × ℕ} b (down_to n es (count_after_move m)) (e ∷ es, m)).0 ≤ length (e ∷ es))
    go true h = (omega (arith, h.0), omega (arith, h.1))
    go false h = (omega arith, omega arith)

cut_at_adds : (gs fs : List Frame) (ops : List Entry) (m : ℕ) → gs ≡ fs
    → Adds 0 0 (record { operands = ops; frames = fs; moves = m }) (cut_at gs (record { operands = ops; frames = fs; moves = m }))
cut_at_adds [] fs ops m e = adds_same (record { operands = ops; frames = fs; moves = m }) 0
cut_at_adds (g ∷ gs) fs ops m e =
    let d = down_adds g.floor ops m in
    let l : suc (length gs) ≡ length fs = ap length e in
    (omega (arith, d.0, d.1, l), omega (arith, d.0, d.1, l))

pub cut_adds : (s : Stack) → Adds 0 0 s (cut s)
cut_adds s = cut_at_adds s.frames s.frames s.operands s.moves refl

pub pushed_adds : (e : Entry) (s : Stack) → Adds 2 1 s (push e s)
pushed_adds e s = (omega arith, omega arith)

-- what may be left is at most this much more
abbrev pub MayAdd : ℕ → ℕ → Stack → Result Stack Why → Type 0
MayAdd a b s (Err w) = Unit {0}
MayAdd a b s (Ok z) = Adds a b s z

after_adds : {A : Type 0} (a b : ℕ) (s : Stack) (r : Result A Why × Stack) (k : A → Stack → Result Stack Why) → Adds 1 0 s r.1
    → ((x : A) (z : Stack) → MayAdd a b z (k x z)) → MayAdd (a + 1) b s (after_call r k)
after_adds a b s (Ok x, z) k h f = go (k x z) (f x z)
  where
    go : (o : Result Stack Why) → MayAdd a b z o → MayAdd (a + 1) b s o
    go (Err w) d = tt
    go (Ok y) d = (omega (arith, d.0, h.0), omega (arith, d.1, h.1))
after_adds a b s (Err w, z) k h f = tt

-- how many results there are
abbrev Small : List ValType → Type 0
Small [] = Unit {0}
Small (t ∷ []) = Unit {0}
Small (t ∷ u ∷ ts) = ⊥

push_all_adds : (q : List ValType) (s : Stack) → Small q → Adds 2 1 s (push_all q s)
push_all_adds [] s h = (omega arith, omega arith)
push_all_adds (t ∷ []) s h = pushed_adds (entry_of_type t) s
push_all_adds (t ∷ u ∷ ts) s h = absurd h

fixed_adds : (p q : List ValType) (s : Stack) → Small q → MayAdd 3 1 s (drive_fixed p q s)
fixed_adds p q s h = after_adds 2 1 s (take_all (reverse p) s) (λ r z. Ok (push_all q z)) (take_adds (reverse p) s) (λ r z. push_all_adds q z h)

diverges_adds : (p : List ValType) (s : Stack) → MayAdd 1 0 s (drive_diverges p s)
diverges_adds p s = after_adds 0 0 s (take_all (reverse p) s) (λ r z. Ok (cut z)) (take_adds (reverse p) s) (λ r z. cut_adds z)

drop_adds : (s : Stack) → MayAdd 1 0 s (drive_drop s)
drop_adds s = after_adds 0 0 s (take_any s) (λ e z. Ok z) (any_adds s) (λ e z. adds_same z 0)

joined_adds : (o : Option Entry) (s : Stack) → MayAdd 2 1 s (push_joined o s)
joined_adds None s = tt
joined_adds (Some e) s = pushed_adds e s

widen : (a b n m : ℕ) (s : Stack) (o : Result Stack Why) → n ≤ a → m ≤ b → MayAdd n m s o → MayAdd a b s o
widen a b n m s (Err w) h k d = tt
widen a b n m s (Ok z) h k d = (omega (arith, d.0), omega (arith, d.1))

along : (a b : ℕ) (z s : Stack) (o : Result Stack Why) → Adds 0 0 s z → MayAdd a b z o → MayAdd a b s o
along a b z s (Err w) h d = tt
along a b z s (Ok y) h d = (omega (arith, d.0, h.0), omega (arith, d.1, h.1))

-- The floor that a select meets at its i32 is its one look.
select_adds : (s : Stack) (r : Result Reach Why × Stack) → OneAdds r s → MayAdd 4 1 s (after_call r select_from)
select_adds s (Ok Floor, z) h = (omega (arith, h.0), omega (arith, h.1))
select_adds s (Ok Whole, z) h =
    along 4 1 z s (select_from Whole z) h
    (after_adds 3 1 z (take_any z) (λ a y. after_call (take_any y) (λ b x. push_joined (join a b) x)) (any_adds z)
    (λ a y. after_adds 2 1 y (take_any y) (λ b x. push_joined (join a b) x) (any_adds y) (λ b x. joined_adds (join a b) x)))
select_adds s (Err w, z) h = tt

indirect_adds : (p q : List ValType) (s : Stack) → Small q → MayAdd 4 1 s (drive_indirect p q s)
indirect_adds p q s h = after_adds 3 1 s (take_all (I32 ∷ []) s) (λ r z. drive_fixed p q z) (take_adds (I32 ∷ []) s) (λ r z. fixed_adds p q z h)

-- no instruction gives more than one result
abbrev SmallShape : Effect → Type 0
SmallShape (fixed p q) = Small q
SmallShape (indirect p q) = Small q
SmallShape (is_polymorphic p) = Unit {0}
SmallShape drops = Unit {0}
SmallShape selects = Unit {0}
SmallShape (ill w) = Unit {0}

small_option : (t : Option ValType) → Small (option_to_list t)
small_option None = tt
small_option (Some t) = tt

-- what is done adds so much
done_adds : (p : List ValType) (given : Option ValType) (s z : Stack) → drive_fixed p (option_to_list given) s ≡ Ok z → Adds 3 1 s z
done_adds p given s z h = subst (MayAdd 3 1 s) h (fixed_adds p (option_to_list given) s (small_option given))

put_all : (given : Option ValType) (s : Stack) → push_given (option_map entry_of_type given) s ≡ push_all (option_to_list given) s
put_all None s = refl
put_all (Some t) s = refl

after_taken : (r : Result Reach Why × Stack) (given : Option ValType) (z : Stack) → r.0 ≡ Ok Whole → z ≡ push_given (option_map entry_of_type given) r.1
    → after_call r (λ a y. Ok (push_all (option_to_list given) y)) ≡ Ok z
after_taken (Ok a, y) given z taken is = ap (λ (x : Stack). Ok x) (sym (is ∙ put_all given y))
after_taken (Err w, y) given z taken is = cc

-- what a look at the operands did is what the type says
near_done : (under : Option ValType) (top : ValType) (given : Option ValType) (s z : Stack)
    → Replaces (top ∷ option_to_list under) (option_map entry_of_type given) s z
    → drive_fixed (option_to_list under ++ top ∷ []) (option_to_list given) s ≡ Ok z
near_done None top given s z h = after_taken (take_all (top ∷ []) s) given z h.0 h.1
near_done (Some u) top given s z h = after_taken (take_all (top ∷ u ∷ []) s) given z h.0 h.1

pub near_acts : (under : Option ValType) (top : ValType) (given : Option ValType) (put : Option Entry) (s z : Stack)
    → put ≡ option_map entry_of_type given → Replaces (top ∷ option_to_list under) put s z
    → Acts {A = Unit {0}} (drive_fixed (option_to_list under ++ top ∷ []) (option_to_list given) s) 3 1 s z (Ok tt)
near_acts under top given put s z is h =
    let d = near_done under top given s z (subst (λ (p : Option Entry). Replaces (top ∷ option_to_list under) p s z) is h) in
    (d, tt, done_adds (option_to_list under ++ top ∷ []) given s z d)

small_item : {A : Type 0} (o : Option A) (f : A → Effect) → ((x : A) → o ≡ Some x → SmallShape (f x)) → SmallShape (with_item o f)
small_item None f h = tt
small_item (Some x) f h = h x refl

small_where : (w : Why) (b : Bool) (s : Effect) → SmallShape s → SmallShape (where_true w b s)
small_where w true s h = h
small_where w false s h = tt

small_access : (c : Context) (align width : ℕ) (s : Effect) → SmallShape s → SmallShape (access_effect c align width s)
small_access c align width s h = small_where why.Index c.has_memory (where_true why.Align (nat_le (2 ^ align) width) s) (small_where why.Align (nat_le (2 ^ align) width) s h)

small_results : (q : List ValType) → length q ≤ 1 → Small q
small_results [] h = tt
small_results (t ∷ []) h = tt
small_results (t ∷ u ∷ ts) h = absurd (let z : 2 ≤ 1 = omega (arith, h) in omega (arith, z))

-- each type of the context has at most one result
abbrev pub OneResult : Context → Type 0
OneResult c = AllByRecursion (λ f. length f.results ≤ 1) c.types

result_at : (types : List Signature) → AllByRecursion (λ f. length f.results ≤ 1) types → (x : ℕ) (f : Signature) → slice_get types x ≡ Some f → length f.results ≤ 1
result_at [] h x f e = cc
result_at (g ∷ gs) h zero f e = subst (λ z. length z.results ≤ 1) (let z : g ≡ f = cc in z) h.0
result_at (g ∷ gs) h (suc x) f e = result_at gs h.1 x f e

small_type : (c : Context) → OneResult c → (x : ℕ) (f : Signature) → slice_get c.types x ≡ Some f → Small f.results
small_type c h x f e = small_results f.results (result_at c.types h x f e)

small_function : (c : Context) → OneResult c → (o : Option ℕ) (f : Signature) → option_and_then (λ index. slice_get c.types index) o ≡ Some f → Small f.results
small_function c h None f e = cc
small_function c h (Some x) f e = small_type c h x f e

small_numeric : (op : Numeric) → Small (numeric op).gives
small_numeric (num.Test t) = tt
small_numeric (num.Compare t op) = tt
small_numeric (num.Unary t op) = tt
small_numeric (num.Binary t op) = tt
small_numeric (num.FloatCompare t op) = tt
small_numeric (num.FloatUnary t op) = tt
small_numeric (num.FloatBinary t op) = tt
small_numeric (num.Convert cv.I32TruncF32S) = tt
small_numeric (num.Convert _) = tt
small_numeric num.Wrap = tt
small_numeric num.ExtendS = tt
small_numeric num.ExtendU = tt
small_numeric (num.SignExtend ext.I32From8) = tt
small_numeric (num.SignExtend _) = tt
small_numeric (num.Saturate sat.I32TruncSatF32S) = tt
small_numeric (num.Saturate _) = tt

small : (c : Context) (p : Simple) → OneResult c → SmallShape (effect_of c p)
small c s.Unreachable h = tt
small c s.Nop h = tt
small c (s.Br l) h = small_item (slice_get c.labels l) (λ t. is_polymorphic (option_to_list t)) (λ t e. tt)
small c (s.BrIf l) h = small_item (slice_get c.labels l) (λ t. fixed (option_to_list t ++ I32 ∷ []) (option_to_list t)) (λ t e. small_option t)
small c s.Return h = tt
small c (s.Call x) h = small_item (function_type c x) (λ f. fixed f.params f.results) (small_function c h (slice_get c.functions x))
small c (s.CallIndirect x) h =
    small_where why.Index c.has_table (with_item (slice_get c.types x) (λ f. indirect f.params f.results))
    (small_item (slice_get c.types x) (λ f. indirect f.params f.results) (small_type c h x))
small c s.Drop h = tt
small c s.Select h = tt
small c (s.LocalGet x) h = small_item (slice_get c.locals x) (λ t. fixed [] (t ∷ [])) (λ t e. tt)
small c (s.LocalSet x) h = small_item (slice_get c.locals x) (λ t. fixed (t ∷ []) []) (λ t e. tt)
small c (s.LocalTee x) h = small_item (slice_get c.locals x) (λ t. fixed (t ∷ []) (t ∷ [])) (λ t e. tt)
small c (s.GlobalGet x) h = small_item (slice_get c.globals x) (λ g. fixed [] (g.ty ∷ [])) (λ g e. tt)
small c (s.GlobalSet x) h =
    small_item (slice_get c.globals x) (λ g. where_true why.Immutable g.var (fixed (g.ty ∷ []) [])) (λ g e. small_where why.Immutable g.var (fixed (g.ty ∷ []) []) tt)
small c s.MemorySize h = small_where why.Index c.has_memory (fixed [] (I32 ∷ [])) tt
small c s.MemoryGrow h = small_where why.Index c.has_memory (fixed (I32 ∷ []) (I32 ∷ [])) tt
small c s.MemoryCopy h = small_where why.Index c.has_memory (fixed (I32 ∷ I32 ∷ I32 ∷ []) []) tt
small c s.MemoryFill h = small_where why.Index c.has_memory (fixed (I32 ∷ I32 ∷ I32 ∷ []) []) tt
small c (s.MemoryInit x) h =
    small_where why.Index (nat_lt x c.segments) (bulk_effect c) (small_where why.Index c.has_memory (fixed (I32 ∷ I32 ∷ I32 ∷ []) []) tt)
small c (s.DataDrop x) h = small_where why.Index (nat_lt x c.segments) (fixed [] []) tt
small c (s.TableInit x) h =
    small_where why.Index (nat_lt x c.elements) (table_effect c) (small_where why.Index c.has_table (fixed (I32 ∷ I32 ∷ I32 ∷ []) []) tt)
small c (s.ElemDrop x) h = small_where why.Index (nat_lt x c.elements) (fixed [] []) tt
small c s.TableCopy h = small_where why.Index c.has_table (fixed (I32 ∷ I32 ∷ I32 ∷ []) []) tt
small c (s.I32Const n) h = tt
small c (s.I64Const n) h = tt
small c (s.F32Const n) h = tt
small c (s.F64Const n) h = tt
small c (s.Load op at) h = small_access c at.align (load op).width (fixed (I32 ∷ []) ((load op).ty ∷ [])) tt
small c (s.Store op at) h = small_access c at.align (store op).width (fixed (I32 ∷ (store op).ty ∷ []) []) tt
small c (s.Numeric op) h = small_numeric op

one_all : (r : Result Reach Why × Stack) (s : Stack) → OneAdds r s → OneAdds (goes_on r (take_all [])) s
one_all (Ok Whole, z) s h = h
one_all (Ok Floor, z) s h = h
one_all (Err w, z) s h = h

shape_adds : (sh : Effect) (s : Stack) → SmallShape sh → MayAdd 4 1 s (drive sh s)
shape_adds (fixed p q) s h = widen 4 1 3 1 s (drive_fixed p q s) (omega arith) (omega arith) (fixed_adds p q s h)
shape_adds (indirect p q) s h = indirect_adds p q s h
shape_adds (is_polymorphic p) s h = widen 4 1 1 0 s (drive_diverges p s) (omega arith) (omega arith) (diverges_adds p s)
shape_adds drops s h = widen 4 1 1 0 s (drive_drop s) (omega arith) (omega arith) (drop_adds s)
shape_adds selects s h = select_adds s (take_all (I32 ∷ []) s) (one_all (take_one I32 s) s (one_adds I32 s.frames s.frames s.operands s.moves))
shape_adds (ill w) s h = tt

abbrev CloseAdds : Result Frame Why × Stack → Stack → Type 0
CloseAdds (Ok f, z) s = Adds 0 0 s z
CloseAdds (Err w, z) s = Unit {0}

close_at_adds : (gs fs : List Frame) (ops : List Entry) (m : ℕ) → gs ≡ fs
    → CloseAdds (close_at gs (record { operands = ops; frames = fs; moves = m })) (record { operands = ops; frames = fs; moves = m })
close_at_adds [] fs ops m e = tt
close_at_adds (g ∷ gs) fs ops m e = go (nat_lt g.floor (length ops))
  where
    go : (b : Bool) → CloseAdds (cond {A = Result Frame Why × Stack} b (Err why.Arity, record { operands = ops; frames = fs; moves = m }) (Ok g, record { operands = ops; frames = gs; moves = count_after_move m })) (record { operands = ops; frames = fs; moves = m })
    go true = tt
    go false = let l : suc (length gs) ≡ length fs = ap length e in (omega (arith, l), omega (arith, l))

close_adds : (s : Stack) → CloseAdds (close s) s
close_adds s = close_at_adds s.frames s.frames s.operands s.moves refl

after_close_adds : (a b : ℕ) (s : Stack) (r : Result Frame Why × Stack) (k : Frame → Stack → Result Stack Why) → CloseAdds r s
    → ((f : Frame) (z : Stack) → MayAdd a b z (k f z)) → MayAdd a b s (after_call r k)
after_close_adds a b s (Ok f, z) k h d = along a b z s (k f z) h (d f z)
after_close_adds a b s (Err w, z) k h d = tt

drive_close_adds : (a b : ℕ) (t : Option ValType) (s : Stack) (k : Frame → Stack → Result Stack Why) → ((f : Frame) (z : Stack) → MayAdd a b z (k f z))
    → MayAdd (a + 1) b s (drive_close t s k)
drive_close_adds a b t s k d =
    after_adds a b s (take_all (reverse (option_to_list t)) s) (λ r z. after_call (close z) k) (take_adds (reverse (option_to_list t)) s)
    (λ r z. after_close_adds a b z (close z) k (close_adds z) d)

opened_adds : (k : FrameKind) (t : Option ValType) (s : Stack) → Adds 2 1 s (open_frame k t s)
opened_adds k t s = (omega arith, omega arith)

else_of_adds : (k : FrameKind) (t : Option ValType) (s : Stack) → MayAdd 3 1 s (else_of k t s)
else_of_adds If t s = drive_close_adds 2 1 t s (λ f z. Ok (open_frame Else t z)) (λ f z. opened_adds Else t z)
else_of_adds Func t s = tt
else_of_adds Block t s = tt
else_of_adds Loop t s = tt
else_of_adds Else t s = tt

else_adds : (fs : List Frame) (s : Stack) → MayAdd 4 1 s (drive_else fs s)
else_adds [] s = tt
else_adds (f ∷ fs) s = widen 4 1 3 1 s (else_of f.kind f.result s) (omega arith) (omega arith) (else_of_adds f.kind f.result s)

give_adds : (fs : List Frame) (t : Option ValType) (s : Stack) → Adds 2 1 s (give_to fs t s)
give_adds [] t s = (omega arith, omega arith)
give_adds (f ∷ fs) t s = push_all_adds (option_to_list t) s (small_option t)

end_of_adds : (b : Bool) (t : Option ValType) (s : Stack) → MayAdd 3 1 s (cond b (drive_close t s (λ f z. Ok (give_to z.frames t z))) (Err why.Mismatch))
end_of_adds true t s = drive_close_adds 2 1 t s (λ f z. Ok (give_to z.frames t z)) (λ f z. give_adds z.frames t z)
end_of_adds false t s = tt

end_adds : (fs : List Frame) (s : Stack) → MayAdd 4 1 s (drive_end fs s)
end_adds [] s = tt
end_adds (f ∷ fs) s = widen 4 1 3 1 s (end_of f.kind f.result s) (omega arith) (omega arith) (end_of_adds (may_end f.kind f.result) f.result s)

abbrev pub MayAddOp : ℕ → ℕ → Stack → Result BodyState Why → Type 0
MayAddOp a b s (Err w) = Unit {0}
MayAddOp a b s (Ok d) = Adds a b s d.stacks

with_table_adds : (t : Option BrTable) (a b : ℕ) (s : Stack) (o : Result Stack Why) → MayAdd a b s o → MayAddOp a b s (with_table t o)
with_table_adds t a b s (Err w) h = tt
with_table_adds t a b s (Ok z) h = h

known_adds : (z : Bool) (u : Option ValType) (t : Option BrTable) (s : Stack)
    → MayAddOp 4 1 s (cond z (with_table None (drive_diverges (option_to_list u) s)) (Ok (record { stacks = s; table = t })))
known_adds true u t s = with_table_adds None 4 1 s (drive_diverges (option_to_list u) s) (widen 4 1 1 0 s (drive_diverges (option_to_list u) s) (omega arith) (omega arith) (diverges_adds (option_to_list u) s))
known_adds false u t s = (omega arith, omega arith)

goes_label_adds : (b : Bool) (u : Option ValType) (t : BrTable) (s : Stack) → MayAddOp 4 1 s (cond b (drive_known u t s) (Err why.Mismatch))
goes_label_adds true u t s = known_adds (nat_eq t.left 0) u (Some (record { left = t.left - 1; seen = Some u })) s
goes_label_adds false u t s = tt

label_adds : (o : Option (Option ValType)) (t : BrTable) (s : Stack) → MayAddOp 4 1 s (drive_label o t s)
label_adds None t s = tt
label_adds (Some u) t s = goes_label_adds (goes_with t.seen u) u t s

pub op_adds : (c : Context) → OneResult c → (x : Op) (t : Option BrTable) (s : Stack) → MayAddOp 4 1 s (drive_op c x t s)
op_adds c one (op.Label l) (Some t) s = label_adds (slice_get (labels_of s.frames) l) t s
op_adds c one (op.Simple p) None s = with_table_adds None 4 1 s (drive (effect_of (within_frames c s.frames) p) s) (shape_adds (effect_of (within_frames c s.frames) p) s (small (within_frames c s.frames) p one))
op_adds c one (op.Block t) None s = (omega arith, omega arith)
op_adds c one (op.Loop t) None s = (omega arith, omega arith)
op_adds c one (op.If t) None s =
    with_table_adds None 4 1 s (drive_if t s) (widen 4 1 3 1 s (drive_if t s) (omega arith) (omega arith)
    (after_adds 2 1 s (take_all (I32 ∷ []) s) (λ r z. Ok (open_frame If t z)) (take_adds (I32 ∷ []) s) (λ r z. opened_adds If t z)))
op_adds c one op.Else None s = with_table_adds None 4 1 s (drive_else s.frames s) (else_adds s.frames s)
op_adds c one op.End None s = with_table_adds None 4 1 s (drive_end s.frames s) (end_adds s.frames s)
op_adds c one (op.BrTable n) None s =
    with_table_adds (Some (record { left = n; seen = None })) 4 1 s (drive_count s) (widen 4 1 1 0 s (drive_count s) (omega arith) (omega arith)
    (after_adds 0 0 s (take_all (I32 ∷ []) s) (λ r z. Ok z) (take_adds (I32 ∷ []) s) (λ r z. adds_same z 0)))
op_adds c one (op.Label l) None s = tt
op_adds c one (op.Simple p) (Some t) s = tt
op_adds c one (op.Block u) (Some t) s = tt
op_adds c one (op.Loop u) (Some t) s = tt
op_adds c one (op.If u) (Some t) s = tt
op_adds c one op.Else (Some t) s = tt
op_adds c one op.End (Some t) s = tt
op_adds c one (op.BrTable n) (Some t) s = tt

close_either_adds : (gs fs : List Frame) (ops : List Entry) (m : ℕ) → gs ≡ fs
    → Adds 0 0 (record { operands = ops; frames = fs; moves = m }) (close_at gs (record { operands = ops; frames = fs; moves = m })).1
close_either_adds [] fs ops m e = adds_same (record { operands = ops; frames = fs; moves = m }) 0
close_either_adds (g ∷ gs) fs ops m e = go (nat_lt g.floor (length ops))
  where
    go : (b : Bool) → Adds 0 0 (record { operands = ops; frames = fs; moves = m }) (cond {A = Result Frame Why × Stack} b (Err why.Arity, record { operands = ops; frames = fs; moves = m }) (Ok g, record { operands = ops; frames = gs; moves = count_after_move m })).1
    go true = adds_same (record { operands = ops; frames = fs; moves = m }) 0
    go false = let l : suc (length gs) ≡ length fs = ap length e in (omega (arith, l), omega (arith, l))

-- closing adds nothing, whatever it answers
pub close_either : (s : Stack) → Adds 0 0 s (close s).1
close_either s = close_either_adds s.frames s.frames s.operands s.moves refl
