-- The names that may refuse an op of a body, and the meanings of `Index`, `Immutable`, `Align` and `ElsePlace`
-- for it.
use Rattle.std.proofs.Common.{◌≡◌, ◌-◌, ◌^◌, ℕ, List, [], ◌∷◌, ◌++◌, Bool, true, false, cond, Option, Some, None, Result, Ok, Err, reverse, length, slice_get, option_to_list, subst, sym, refl}
use Rattle.std.specs.Prelude.{nat_le, nat_lt, nat_eq}
use Rattle.wm_syntax.specs.declared.types.ValType.{ValType}
use Rattle.wm_syntax.specs.declared.types.ValType.TheVariants.{I32}
use Rattle.wm_syntax.specs.declared.types.GlobalType.{GlobalType}
use Rattle.wm_syntax.specs.declared.why.Why.{Why}
use Rattle.wm_syntax.specs.declared.why.Why.TheVariants as why
use Rattle.wm_syntax.specs.declared.instructions.Op.{Op}
use Rattle.wm_syntax.specs.declared.instructions.Op.TheVariants as op
use Rattle.wm_syntax.specs.declared.instructions.Simple.{Simple}
use Rattle.wm_syntax.specs.declared.instructions.Simple.TheVariants as simple
use Rattle.wm_syntax.specs.Opcodes.{load, store}
use Rattle.wm_syntax.specs.Types.{Signature}
use Rattle.wm_stacks.specs.declared.stack_entries.Entry.{Entry}
use Rattle.wm_stacks.specs.declared.stack_entries.Entry.TheVariants.{Unknown}
use Rattle.wm_stacks.specs.declared.stack_entries.FrameKind.{FrameKind}
use Rattle.wm_stacks.specs.declared.stack_entries.FrameKind.TheVariants.{Func, Block, Loop, If, Else}
use Rattle.wm_stacks.specs.declared.stack_entries.Frame.{Frame}
use Rattle.wm_stacks.specs.declared.stack_entries.Reach.{Reach}
use Rattle.wm_stacks.specs.declared.stack_entries.Reach.TheVariants.{Whole, Floor}
use Rattle.wm_stacks.specs.Stack.{Stack, fits}
use Rattle.wm_stacks.specs.exact.Stacks.{open_frame, count_after_move, pop_to, at_floor, takes, take_above, in_frame, take_one, take_all, goes_on, any_above, take_any, cut, close, close_at}
use Rattle.wm_typing.specs.declared.labels.BrTable.{BrTable}
use Rattle.wm_typing.specs.Typing.{Context, function_type}
use Rattle.wm_typing.specs.exact.OperandTypes.{join}
use Rattle.wm_typing.specs.exact.Effects.{Effect, fixed, indirect, is_polymorphic, drops, selects, ill, with_item, where_true, bulk_effect, table_effect, effect_of}
use Rattle.wm_typing.specs.exact.Ops.{push_all, after_call as then_on, drive_fixed, drive_diverges, push_joined, select_from, drive, drive_close, else_of, drive_else, may_end, give_to, drive_end, drive_if, drive_count, with_table, goes_with, drive_known, drive_label, labels_of, within_frames, drive_op, step}
use Rattle.wm_typing.specs.Bodies.{BodyState, Body}
use Rattle.wm_typing.specs.exact.Bodies.{context_in, body_after_op, body_from as body_stepped_to, unless_refused}
use Rattle.wm_typing.specs.Probes.{probes_in}
use Rattle.wm_machine.specs.Sinks.{and_then}
use Rattle.std.proofs.lemmas.Bool.{leb-false, ltb-false}
use Rattle.std.proofs.Common.{map, inl, inr}
use Rattle.wm_typing.specs.OpenLists.{Head, head, head_of}
use Rattle.wm_rules.specs.Meanings.{IsAlignedPast, IsNoFirstBranch, OpNamesNothing, SetsConstant}
use Rattle.wm_rules.proofs.DueLabels.{InOrder}

-- a refusal, if any, by a name of which this is so
abbrev pub Only : {A : Type 0} → (Why → Type 0) → Result A Why → Type 0
Only P (Ok x) = Unit {0}
Only P (Err w) = P w

-- the names of operands
abbrev IsOperandName : Why → Type 0
IsOperandName why.Mismatch = Unit {0}
IsOperandName why.Arity = Unit {0}
IsOperandName w = ⊥

abbrev Other : {A : Type 0} → Result A Why → Type 0
Other r = Only IsOperandName r

both : {A : Type 0} (b : Bool) (x y : Result A Why) → Other x → Other y → Other (cond b x y)
both true x y p q = p
both false x y p q = q

both_on : {A : Type 0} (b : Bool) (x y : Result A Why × Stack) → Other x.0 → Other y.0 → Other (cond b x y).0
both_on true x y p q = p
both_on false x y p q = q

other_then : {A B : Type 0} (r : Result A Why) (f : A → Result B Why) → Other r → ((x : A) → Other (f x)) → Other (and_then r f)
other_then (Ok x) f p q = q x
other_then (Err w) f p q = p

-- what is taken from the stacks
floor_other : {A : Type 0} (a : A) (b : Bool) (s : Stack) → Other (at_floor a b s).0
floor_other a true s = tt
floor_other a false s = tt

takes_other : (b : Bool) (es : List Entry) (s : Stack) → Other (takes b es s).0
takes_other true es s = tt
takes_other false es s = tt

above_other : (t : ValType) (f : Frame) (es : List Entry) (s : Stack) → Other (take_above t f es s).0
above_other t f [] s = floor_other Floor f.unreachable s
above_other t f (e ∷ es) s =
    both_on (nat_le f.floor (length es)) (takes (fits e t) es s) (at_floor Floor f.unreachable s) (takes_other (fits e t) es s) (floor_other Floor f.unreachable s)

one_other : (t : ValType) (fs : List Frame) (s : Stack) → Other (in_frame fs (λ f. take_above t f s.operands s) s).0
one_other t [] s = tt
one_other t (f ∷ fs) s = above_other t f s.operands s

goes_other : (r : Result Reach Why × Stack) (k : Stack → Result Reach Why × Stack) → Other r.0 → ((z : Stack) → Other (k z).0) → Other (goes_on r k).0
goes_other (Ok Whole, z) k p q = q z
goes_other (Ok Floor, z) k p q = tt
goes_other (Err w, z) k p q = p

take_other : (ts : List ValType) (s : Stack) → Other (take_all ts s).0
take_other [] s = tt
take_other (t ∷ ts) s = goes_other (take_one t s) (take_all ts) (one_other t s.frames s) (take_other ts)

any_above_other : (f : Frame) (es : List Entry) (s : Stack) → Other (any_above f es s).0
any_above_other f [] s = floor_other Unknown f.unreachable s
any_above_other f (e ∷ es) s = both_on (nat_le f.floor (length es)) (Ok e, pop_to es s) (at_floor Unknown f.unreachable s) tt (floor_other Unknown f.unreachable s)

any_in_other : (fs : List Frame) (s : Stack) → Other (in_frame fs (λ f. any_above f s.operands s) s).0
any_in_other [] s = tt
any_in_other (f ∷ fs) s = any_above_other f s.operands s

any_other : (s : Stack) → Other (take_any s).0
any_other s = any_in_other s.frames s

close_at_other : (fs : List Frame) (s : Stack) → Other (close_at fs s).0
close_at_other [] s = tt
close_at_other (f ∷ fs) s =
    both_on (nat_lt f.floor (length s.operands)) (Err why.Arity, s) (Ok f, record s { frames = fs; moves = count_after_move s.moves }) tt tt

on_other : {A : Type 0} (r : Result A Why × Stack) (k : A → Stack → Result Stack Why) → Other r.0 → ((x : A) (z : Stack) → Other (k x z)) → Other (then_on r k)
on_other (Ok x, z) k p q = q x z
on_other (Err w, z) k p q = p

-- what an op does to them
fixed_other : (p q : List ValType) (s : Stack) → Other (drive_fixed p q s)
fixed_other p q s = on_other (take_all (reverse p) s) (λ r z. Ok (push_all q z)) (take_other (reverse p) s) (λ r z. tt)

diverges_other : (p : List ValType) (s : Stack) → Other (drive_diverges p s)
diverges_other p s = on_other (take_all (reverse p) s) (λ r z. Ok (cut z)) (take_other (reverse p) s) (λ r z. tt)

joined_other : (o : Option Entry) (s : Stack) → Other (push_joined o s)
joined_other None s = tt
joined_other (Some e) s = tt

select_other : (r : Reach) (s : Stack) → Other (select_from r s)
select_other Floor s = tt
select_other Whole s =
    on_other (take_any s) (λ a y. then_on (take_any y) (λ b x. push_joined (join a b) x)) (any_other s)
    (λ a y. on_other (take_any y) (λ b x. push_joined (join a b) x) (any_other y) (λ b x. joined_other (join a b) x))

close_other : (t : Option ValType) (s : Stack) (k : Frame → Stack → Result Stack Why) → ((f : Frame) (z : Stack) → Other (k f z)) → Other (drive_close t s k)
close_other t s k h =
    on_other (take_all (reverse (option_to_list t)) s) (λ r z. then_on (close z) k) (take_other (reverse (option_to_list t)) s)
    (λ r z. on_other (close z) k (close_at_other z.frames z) h)

table_other : (t : Option BrTable) (r : Result Stack Why) → Other r → Other (with_table t r)
table_other t (Ok s) h = tt
table_other t (Err w) h = h

known_other : (u : Option ValType) (t : BrTable) (s : Stack) → Other (drive_known u t s)
known_other u t s =
    both (nat_eq t.left 0) (with_table None (drive_diverges (option_to_list u) s)) (Ok (record { stacks = s; table = Some (record { left = t.left - 1; seen = Some u }) }))
    (table_other None (drive_diverges (option_to_list u) s) (diverges_other (option_to_list u) s)) tt

-- where an else stands outside of a first branch
abbrev pub OutsideElse : Option BrTable → List Frame → Type 0
OutsideElse None fs = IsNoFirstBranch (map head_of fs)
OutsideElse (Some t) fs = ⊥

module _ (E N : Type 0) where
  -- what it says of an else
  abbrev pub ElseIs : Op → Type 0
  ElseIs op.Else = E
  ElseIs o = ⊥

  -- what the name of a refused op says of it: N where it names nothing
  abbrev pub OpSays : List GlobalType → Op → Why → Type 0
  OpSays globals o why.Immutable = SetsConstant globals o
  OpSays globals o why.Align = IsAlignedPast o
  OpSays globals o why.Index = N
  OpSays globals o why.Mismatch = Unit {0}
  OpSays globals o why.Arity = Unit {0}
  OpSays globals o why.ElsePlace = ElseIs o
  OpSays globals o w = ⊥

  of_operands : (globals : List GlobalType) (o : Op) (w : Why) → IsOperandName w → OpSays globals o w
  of_operands globals o why.Mismatch i = tt
  of_operands globals o why.Arity i = tt
  of_operands globals o why.Index i = absurd i
  of_operands globals o why.Immutable i = absurd i
  of_operands globals o why.Align i = absurd i
  of_operands globals o why.ElsePlace i = absurd i
  of_operands globals o w i = i

  abbrev Said : {A : Type 0} → List GlobalType → Op → Result A Why → Type 0
  Said globals o r = Only (OpSays globals o) r

  said : {A : Type 0} (globals : List GlobalType) (o : Op) (r : Result A Why) → Other r → Said globals o r
  said globals o (Ok x) h = tt
  said globals o (Err w) h = of_operands globals o w h

  -- what a simple instruction does, if anything
  abbrev ShapeSays : Context → Simple → Effect → Type 0
  ShapeSays c p (ill w) = OpSays c.globals (op.Simple p) w
  ShapeSays c p _ = Unit {0}

  module _ (c : Context) (p : Simple) where
    item_says : {X : Type 0} (o : Option X) (f : X → Effect) → (o ≡ None → N) → ((x : X) → o ≡ Some x → ShapeSays c p (f x)) → ShapeSays c p (with_item o f)
    item_says None f n h = n refl
    item_says (Some x) f n h = h x refl

    true_says : (w : Why) (b : Bool) (s : Effect) → (b ≡ false → OpSays c.globals (op.Simple p) w) → ShapeSays c p s → ShapeSays c p (where_true w b s)
    true_says w true s n h = h
    true_says w false s n h = n refl

  shape_says : (c : Context) (p : Simple) → (OpNamesNothing c (op.Simple p) → N) → ShapeSays c p (effect_of c p)
  shape_says c simple.Unreachable n = tt
  shape_says c simple.Nop n = tt
  shape_says c (simple.Br l) n = item_says c (simple.Br l) (slice_get c.labels l) (λ t. is_polymorphic (option_to_list t)) n (λ t e. tt)
  shape_says c (simple.BrIf l) n = item_says c (simple.BrIf l) (slice_get c.labels l) (λ t. fixed (option_to_list t ++ I32 ∷ []) (option_to_list t)) n (λ t e. tt)
  shape_says c simple.Return n = tt
  shape_says c (simple.Call x) n = item_says c (simple.Call x) (function_type c x) (λ (f : Signature). fixed f.params f.results) n (λ f e. tt)
  shape_says c (simple.CallIndirect x) n =
      true_says c (simple.CallIndirect x) why.Index c.has_table (with_item (slice_get c.types x) (λ (f : Signature). indirect f.params f.results)) (λ e. n (inl e))
      (item_says c (simple.CallIndirect x) (slice_get c.types x) (λ (f : Signature). indirect f.params f.results) (λ e. n (inr e)) (λ f e. tt))
  shape_says c simple.Drop n = tt
  shape_says c simple.Select n = tt
  shape_says c (simple.LocalGet x) n = item_says c (simple.LocalGet x) (slice_get c.locals x) (λ t. fixed [] (t ∷ [])) n (λ t e. tt)
  shape_says c (simple.LocalSet x) n = item_says c (simple.LocalSet x) (slice_get c.locals x) (λ t. fixed (t ∷ []) []) n (λ t e. tt)
  shape_says c (simple.LocalTee x) n = item_says c (simple.LocalTee x) (slice_get c.locals x) (λ t. fixed (t ∷ []) (t ∷ [])) n (λ t e. tt)
  shape_says c (simple.GlobalGet x) n = item_says c (simple.GlobalGet x) (slice_get c.globals x) (λ (g : GlobalType). fixed [] (g.ty ∷ [])) n (λ g e. tt)
  shape_says c (simple.GlobalSet x) n =
      item_says c (simple.GlobalSet x) (slice_get c.globals x) (λ (g : GlobalType). where_true why.Immutable g.var (fixed (g.ty ∷ []) [])) n
      (λ g e. true_says c (simple.GlobalSet x) why.Immutable g.var (fixed (g.ty ∷ []) []) (λ v. (g, e, v)) tt)
  shape_says c simple.MemorySize n = true_says c simple.MemorySize why.Index c.has_memory (fixed [] (I32 ∷ [])) n tt
  shape_says c simple.MemoryGrow n = true_says c simple.MemoryGrow why.Index c.has_memory (fixed (I32 ∷ []) (I32 ∷ [])) n tt
  shape_says c simple.MemoryCopy n = true_says c simple.MemoryCopy why.Index c.has_memory (fixed (I32 ∷ I32 ∷ I32 ∷ []) []) n tt
  shape_says c simple.MemoryFill n = true_says c simple.MemoryFill why.Index c.has_memory (fixed (I32 ∷ I32 ∷ I32 ∷ []) []) n tt
  shape_says c (simple.MemoryInit x) n =
      true_says c (simple.MemoryInit x) why.Index (nat_lt x c.segments) (bulk_effect c) (λ e. n (inl (ltb-false x c.segments e)))
      (true_says c (simple.MemoryInit x) why.Index c.has_memory (fixed (I32 ∷ I32 ∷ I32 ∷ []) []) (λ e. n (inr e)) tt)
  shape_says c (simple.DataDrop x) n = true_says c (simple.DataDrop x) why.Index (nat_lt x c.segments) (fixed [] []) (λ e. n (ltb-false x c.segments e)) tt
  shape_says c (simple.TableInit x) n =
      true_says c (simple.TableInit x) why.Index (nat_lt x c.elements) (table_effect c) (λ e. n (inl (ltb-false x c.elements e)))
      (true_says c (simple.TableInit x) why.Index c.has_table (fixed (I32 ∷ I32 ∷ I32 ∷ []) []) (λ e. n (inr e)) tt)
  shape_says c (simple.ElemDrop x) n = true_says c (simple.ElemDrop x) why.Index (nat_lt x c.elements) (fixed [] []) (λ e. n (ltb-false x c.elements e)) tt
  shape_says c simple.TableCopy n = true_says c simple.TableCopy why.Index c.has_table (fixed (I32 ∷ I32 ∷ I32 ∷ []) []) n tt
  shape_says c (simple.I32Const m) n = tt
  shape_says c (simple.I64Const m) n = tt
  shape_says c (simple.F32Const m) n = tt
  shape_says c (simple.F64Const m) n = tt
  shape_says c (simple.Load o at) n =
      true_says c (simple.Load o at) why.Index c.has_memory (where_true why.Align (nat_le (2 ^ at.align) (load o).width) (fixed (I32 ∷ []) ((load o).ty ∷ []))) n
      (true_says c (simple.Load o at) why.Align (nat_le (2 ^ at.align) (load o).width) (fixed (I32 ∷ []) ((load o).ty ∷ [])) (λ e. leb-false (2 ^ at.align) (load o).width e) tt)
  shape_says c (simple.Store o at) n =
      true_says c (simple.Store o at) why.Index c.has_memory (where_true why.Align (nat_le (2 ^ at.align) (store o).width) (fixed (I32 ∷ (store o).ty ∷ []) [])) n
      (true_says c (simple.Store o at) why.Align (nat_le (2 ^ at.align) (store o).width) (fixed (I32 ∷ (store o).ty ∷ []) []) (λ e. leb-false (2 ^ at.align) (store o).width e) tt)
  shape_says c (simple.Numeric o) n = tt

  module _ (c : Context) (p : Simple) where
    abbrev Answers : Result Stack Why → Type 0
    Answers r = Said c.globals (op.Simple p) r

    drive_says : (d : Effect) (s : Stack) → ShapeSays c p d → Answers (drive d s)
    drive_says (fixed a b) s h = said c.globals (op.Simple p) (drive_fixed a b s) (fixed_other a b s)
    drive_says (indirect a b) s h = said c.globals (op.Simple p) (drive (indirect a b) s) (on_other (take_all (I32 ∷ []) s) (λ r z. drive_fixed a b z) (take_other (I32 ∷ []) s) (λ r z. fixed_other a b z))
    drive_says (is_polymorphic a) s h = said c.globals (op.Simple p) (drive_diverges a s) (diverges_other a s)
    drive_says drops s h = said c.globals (op.Simple p) (drive drops s) (on_other (take_any s) (λ e z. Ok z) (any_other s) (λ e z. tt))
    drive_says selects s h = said c.globals (op.Simple p) (drive selects s) (on_other (take_all (I32 ∷ []) s) select_from (take_other (I32 ∷ []) s) select_other)
    drive_says (ill w) s h = h

  -- any op
  module _ (globals : List GlobalType) where
    table_says : (o : Op) (t : Option BrTable) (r : Result Stack Why) → Said globals o r → Said globals o (with_table t r)
    table_says o t (Ok s) h = tt
    table_says o t (Err w) h = h

    else_says : (k : FrameKind) (t : Option ValType) (hs : List Head) (s : Stack) → (IsNoFirstBranch (head k t ∷ hs) → E) → Said globals op.Else (else_of k t s)
    else_says If t hs s n = said globals op.Else (else_of If t s) (close_other t s (λ f z. Ok (open_frame Else t z)) (λ f z. tt))
    else_says Func t hs s n = n tt
    else_says Block t hs s n = n tt
    else_says Loop t hs s n = n tt
    else_says Else t hs s n = n tt

    else_at : (fs : List Frame) (s : Stack) → (IsNoFirstBranch (map head_of fs) → E) → Said globals op.Else (drive_else fs s)
    else_at [] s n = n tt
    else_at (f ∷ fs) s n = else_says f.kind f.result (map head_of fs) s n

    end_other : (fs : List Frame) (s : Stack) → Other (drive_end fs s)
    end_other [] s = tt
    end_other (f ∷ fs) s =
        both (may_end f.kind f.result) (drive_close f.result s (λ g z. Ok (give_to z.frames f.result z))) (Err why.Mismatch)
        (close_other f.result s (λ g z. Ok (give_to z.frames f.result z)) (λ g z. tt)) tt

    label_says : (l : ℕ) (o : Option (Option ValType)) (t : BrTable) (s : Stack) → (o ≡ None → N) → Said globals (op.Label l) (drive_label o t s)
    label_says l None t s n = n refl
    label_says l (Some u) t s n = said globals (op.Label l) (drive_label (Some u) t s) (both (goes_with t.seen u) (drive_known u t s) (Err why.Mismatch) (known_other u t s) tt)

-- it may stand there, and names nothing
abbrev pub NoSuch : Context → Option BrTable → List Frame → Op → Type 0
NoSuch c t fs o = InOrder t o → OpNamesNothing (within_frames c fs) o

module _ (N : Type 0) where
  op_says : (c : Context) (o : Op) (t : Option BrTable) (s : Stack) → (NoSuch c t s.frames o → N) → Said (OutsideElse t s.frames) N c.globals o (drive_op c o t s)
  op_says c (op.Label l) (Some t) s n = label_says (OutsideElse (Some t) s.frames) N c.globals l (slice_get (labels_of s.frames) l) t s (λ e. n (λ i. e))
  op_says c (op.Simple p) None s n =
      let k = within_frames c s.frames in
      table_says (OutsideElse None s.frames) N c.globals (op.Simple p) None (drive (effect_of k p) s)
      (drive_says (OutsideElse None s.frames) N k p (effect_of k p) s (shape_says (OutsideElse None s.frames) N k p (λ e. n (λ i. e))))
  op_says c (op.Block t) None s n = tt
  op_says c (op.Loop t) None s n = tt
  op_says c (op.If t) None s n =
      table_says (OutsideElse None s.frames) N c.globals (op.If t) None (drive_if t s)
      (said (OutsideElse None s.frames) N c.globals (op.If t) (drive_if t s) (on_other (take_all (I32 ∷ []) s) (λ r z. Ok (open_frame If t z)) (take_other (I32 ∷ []) s) (λ r z. tt)))
  op_says c op.Else None s n = table_says (OutsideElse None s.frames) N c.globals op.Else None (drive_else s.frames s) (else_at (OutsideElse None s.frames) N c.globals s.frames s (λ i. i))
  op_says c op.End None s n =
      table_says (OutsideElse None s.frames) N c.globals op.End None (drive_end s.frames s)
      (said (OutsideElse None s.frames) N c.globals op.End (drive_end s.frames s) (end_other (OutsideElse None s.frames) N c.globals s.frames s))
  op_says c (op.BrTable m) None s n =
      table_says (OutsideElse None s.frames) N c.globals (op.BrTable m) (Some (record { left = m; seen = None })) (drive_count s)
      (said (OutsideElse None s.frames) N c.globals (op.BrTable m) (drive_count s) (on_other (take_all (I32 ∷ []) s) (λ r z. Ok z) (take_other (I32 ∷ []) s) (λ r z. tt)))
  op_says c (op.Label l) None s n = n (λ i. absurd i)
  op_says c (op.Simple p) (Some t) s n = n (λ i. absurd i)
  op_says c (op.Block u) (Some t) s n = n (λ i. absurd i)
  op_says c (op.Loop u) (Some t) s n = n (λ i. absurd i)
  op_says c (op.If u) (Some t) s n = n (λ i. absurd i)
  op_says c op.Else (Some t) s n = n (λ i. absurd i)
  op_says c op.End (Some t) s n = n (λ i. absurd i)
  op_says c (op.BrTable m) (Some t) s n = n (λ i. absurd i)

  -- a body that was not refused
  stepped_says : (E : Type 0) (globals : List GlobalType) (o : Op) (b : Body) (probes : ℕ) (r : Result BodyState Why) → Said E N globals o r → Said E N globals o (body_stepped_to b probes r)
  stepped_says E globals o b probes (Ok s) h = tt
  stepped_says E globals o b probes (Err w) h = h

  pub body_says : (c : Context) (o : Op) (b : Body) → b.refused ≡ None → (NoSuch (context_in c b) b.state.table b.state.stacks.frames o → N) → Said (OutsideElse b.state.table b.state.stacks.frames) N c.globals o (body_after_op c o b)
  body_says c o b e n =
      let E : Type 0 = OutsideElse b.state.table b.state.stacks.frames in
      let r : Result Body Why = body_stepped_to b (probes_in c b o) (step (context_in c b) b.state o) in
      subst (λ w. Said E N c.globals o (unless_refused w r)) (sym e)
      (stepped_says E c.globals o b (probes_in c b o) (step (context_in c b) b.state o) (op_says (context_in c b) o b.state.table b.state.stacks n))
