-- Each change of a height is a move, as long as the count of moves does not saturate.
use Rattle.std.proofs.Common.{ℕ, suc, ◌≡◌, ◌≤◌, ◌<◌, ◌+◌, ◌-◌, ◌^◌, Bool, true, false, cond, List, [], ◌∷◌, Option, Some, None, Result, Ok, Err, reverse, length, slice_get, option_to_list, refl, ap, subst, arith}
use Rattle.std.specs.Prelude.{nat_le, nat_lt, nat_eq}
use Rattle.wm_syntax.specs.declared.types.ValType.{ValType}
use Rattle.wm_syntax.specs.declared.types.ValType.TheVariants.{I32}
use Rattle.wm_syntax.specs.declared.why.Why.{Why}
use Rattle.wm_syntax.specs.declared.why.Why.TheVariants as why
use Rattle.wm_syntax.specs.declared.instructions.Op.{Op}
use Rattle.wm_syntax.specs.declared.instructions.Op.TheVariants as op
use Rattle.wm_stacks.specs.declared.stack_entries.Entry.{Entry}
use Rattle.wm_stacks.specs.declared.stack_entries.Entry.TheVariants.{Unknown}
use Rattle.wm_stacks.specs.declared.stack_entries.FrameKind.{FrameKind}
use Rattle.wm_stacks.specs.declared.stack_entries.FrameKind.TheVariants.{Func, Block, Loop, If, Else}
use Rattle.wm_stacks.specs.declared.stack_entries.Frame.{Frame}
use Rattle.wm_stacks.specs.declared.stack_entries.Reach.{Reach}
use Rattle.wm_stacks.specs.declared.stack_entries.Reach.TheVariants.{Whole, Floor}
use Rattle.wm_stacks.specs.Stack.{Stack, fits}
use Rattle.wm_stacks.specs.exact.Stacks.{push, open_frame, count_after_move, pop_to, at_floor, takes, take_above, in_frame, take_one, take_all, goes_on, any_above, take_any, cut, cut_at, down_to, close, close_at}
use Rattle.wm_typing.specs.declared.labels.BrTable.{BrTable}
use Rattle.wm_typing.specs.Typing.{Context}
use Rattle.wm_typing.specs.exact.OperandTypes.{entry_of_type, join}
use Rattle.wm_typing.specs.exact.Effects.{Effect, fixed, indirect, is_polymorphic, drops, selects, ill, effect_of}
use Rattle.wm_typing.specs.exact.Ops.{push_all, after_call, drive_fixed, drive_diverges, push_joined, select_from, drive, drive_close, else_of, drive_else, may_end, give_to, drive_end, drive_if, drive_count, with_table, goes_with, drive_known, drive_label, labels_of, within_frames, drive_op}
use Rattle.wm_typing.specs.Bodies.{BodyState}

-- neither height changed by more than the moves
pub record Changes (s z : Stack) : Type 0 where
  pub operands_up : length z.operands + s.moves ≤ length s.operands + z.moves
  pub operands_down : length s.operands + s.moves ≤ length z.operands + z.moves
  pub frames_up : length z.frames + s.moves ≤ length s.frames + z.moves
  pub frames_down : length s.frames + s.moves ≤ length z.frames + z.moves

abbrev pub Gains : Stack → Stack → Type 0
Gains s z = (s.moves ≤ z.moves) × (z.moves < 2 ^ 64 - 1 → Changes s z)

same : (s : Stack) → Gains s s
same s = (omega arith, λ h. record { operands_up = omega arith; operands_down = omega arith; frames_up = omega arith; frames_down = omega arith })

along : (s y z : Stack) → Gains s y → Gains y z → Gains s z
along s y z g h = (
  omega (arith, g.0, h.0),
  λ l.
      let a = h.1 l in
      let b = g.1 (omega (arith, h.0, l)) in
      record {
        operands_up = omega (arith, a.operands_up, b.operands_up);
        operands_down = omega (arith, a.operands_down, b.operands_down);
        frames_up = omega (arith, a.frames_up, b.frames_up);
        frames_down = omega (arith, a.frames_down, b.frames_down);
      },
)

-- one move, with which each height changed by at most one
one_move : (n m o p f g : ℕ) → m ≡ count_after_move n → p ≤ o + 1 → o ≤ p + 1 → g ≤ f + 1 → f ≤ g + 1
    → (n ≤ m) × (m < 2 ^ 64 - 1 → (p + n ≤ o + m) × (o + n ≤ p + m) × (g + n ≤ f + m) × (f + n ≤ g + m))
one_move n m o p f g e a b c d = (omega (arith, e), λ l. (omega (arith, e, l, a), omega (arith, e, l, b), omega (arith, e, l, c), omega (arith, e, l, d)))

moved_once : (s z : Stack) → z.moves ≡ count_after_move s.moves → length z.operands ≤ length s.operands + 1 → length s.operands ≤ length z.operands + 1
    → length z.frames ≤ length s.frames + 1 → length s.frames ≤ length z.frames + 1 → Gains s z
moved_once s z e a b c d =
    let r = one_move s.moves z.moves (length s.operands) (length z.operands) (length s.frames) (length z.frames) e a b c d in
    (r.0, λ l. let q = r.1 l in record { operands_up = q.0; operands_down = q.1; frames_up = q.2; frames_down = q.3 })

floor_gains : {A : Type 0} (a : A) (b : Bool) (s : Stack) → Gains s (at_floor a b s).1
floor_gains a true s = moved_once s (at_floor a true s).1 refl (omega arith) (omega arith) (omega arith) (omega arith)
floor_gains a false s = same s

popped_gains : (e : Entry) (es : List Entry) (fs : List Frame) (m : ℕ) → Gains (record { operands = e ∷ es; frames = fs; moves = m }) (record { operands = es; frames = fs; moves = count_after_move m })
popped_gains e es fs m =
    moved_once (record { operands = e ∷ es; frames = fs; moves = m }) (record { operands = es; frames = fs; moves = count_after_move m }) refl (omega arith) (omega arith) (omega arith) (omega arith)

takes_gains : (b : Bool) (e : Entry) (es : List Entry) (fs : List Frame) (m : ℕ)
    → Gains (record { operands = e ∷ es; frames = fs; moves = m }) (takes b es (record { operands = e ∷ es; frames = fs; moves = m })).1
takes_gains true e es fs m = popped_gains e es fs m
takes_gains false e es fs m = same (record { operands = e ∷ es; frames = fs; moves = m })

above_gains : (t : ValType) (f : Frame) (ops : List Entry) (fs : List Frame) (m : ℕ)
    → Gains (record { operands = ops; frames = fs; moves = m }) (take_above t f ops (record { operands = ops; frames = fs; moves = m })).1
above_gains t f [] fs m = floor_gains Floor f.unreachable (record { operands = []; frames = fs; moves = m })
above_gains t f (e ∷ es) fs m = go (nat_le f.floor (length es))
  where
    go : (b : Bool) → Gains (record { operands = e ∷ es; frames = fs; moves = m }) (cond b (takes (fits e t) es (record { operands = e ∷ es; frames = fs; moves = m })) (at_floor Floor f.unreachable (record { operands = e ∷ es; frames = fs; moves = m }))).1
    go true = takes_gains (fits e t) e es fs m
    go false = floor_gains Floor f.unreachable (record { operands = e ∷ es; frames = fs; moves = m })

one_gains : (t : ValType) (fs gs : List Frame) (ops : List Entry) (m : ℕ)
    → Gains (record { operands = ops; frames = gs; moves = m }) (in_frame fs (λ f. take_above t f ops (record { operands = ops; frames = gs; moves = m })) (record { operands = ops; frames = gs; moves = m })).1
one_gains t [] gs ops m = same (record { operands = ops; frames = gs; moves = m })
one_gains t (f ∷ fs) gs ops m = above_gains t f ops gs m

goes_gains : (r : Result Reach Why × Stack) (k : Stack → Result Reach Why × Stack) (s : Stack) → Gains s r.1
    → ((z : Stack) → Gains z (k z).1) → Gains s (goes_on r k).1
goes_gains (Ok Whole, z) k s g h = along s z (k z).1 g (h z)
goes_gains (Ok Floor, z) k s g h = g
goes_gains (Err why, z) k s g h = g

take_gains : (ts : List ValType) (s : Stack) → Gains s (take_all ts s).1
take_gains [] s = same s
take_gains (t ∷ ts) s = goes_gains (take_one t s) (take_all ts) s (one_gains t s.frames s.frames s.operands s.moves) (take_gains ts)

any_above_gains : (f : Frame) (ops : List Entry) (fs : List Frame) (m : ℕ)
    → Gains (record { operands = ops; frames = fs; moves = m }) (any_above f ops (record { operands = ops; frames = fs; moves = m })).1
any_above_gains f [] fs m = floor_gains Unknown f.unreachable (record { operands = []; frames = fs; moves = m })
any_above_gains f (e ∷ es) fs m = go (nat_le f.floor (length es))
  where
    go : (b : Bool) → Gains (record { operands = e ∷ es; frames = fs; moves = m }) (cond {A = Result Entry Why × Stack} b (Ok e, pop_to es (record { operands = e ∷ es; frames = fs; moves = m })) (at_floor Unknown f.unreachable (record { operands = e ∷ es; frames = fs; moves = m }))).1
    go true = popped_gains e es fs m
    go false = floor_gains Unknown f.unreachable (record { operands = e ∷ es; frames = fs; moves = m })

any_in_gains : (fs gs : List Frame) (ops : List Entry) (m : ℕ)
    → Gains (record { operands = ops; frames = gs; moves = m }) (in_frame fs (λ f. any_above f ops (record { operands = ops; frames = gs; moves = m })) (record { operands = ops; frames = gs; moves = m })).1
any_in_gains [] gs ops m = same (record { operands = ops; frames = gs; moves = m })
any_in_gains (f ∷ fs) gs ops m = any_above_gains f ops gs m

any_gains : (s : Stack) → Gains s (take_any s).1
any_gains s = any_in_gains s.frames s.frames s.operands s.moves

down_gains : (n : ℕ) (ops : List Entry) (m : ℕ) (fs : List Frame)
    → Gains (record { operands = ops; frames = fs; moves = m }) (record { operands = (down_to n ops m).0; frames = fs; moves = (down_to n ops m).1 })
down_gains n [] m fs = same (record { operands = []; frames = fs; moves = m })
down_gains n (e ∷ es) m fs = go (nat_le n (length es)) (down_gains n es (count_after_move m) fs)
  where
    go : (b : Bool) → Gains (record { operands = es; frames = fs; moves = count_after_move m }) (record { operands = (down_to n es (count_after_move m)).0; frames = fs; moves = (down_to n es (count_after_move m)).1 })
        → Gains (record { operands = e ∷ es; frames = fs; moves = m })
        (record { operands = (cond {A = List Entry × ℕ} b (down_to n es (count_after_move m)) (e ∷ es, m)).0; frames = fs; moves = (cond {A = List Entry × ℕ} b (down_to n es (count_after_move m)) (e ∷ es, m)).1 })
    go true g =
        along (record { operands = e ∷ es; frames = fs; moves = m }) (record { operands = es; frames = fs; moves = count_after_move m })
        (record { operands = (down_to n es (count_after_move m)).0; frames = fs; moves = (down_to n es (count_after_move m)).1 }) (popped_gains e es fs m) g
    go false g = same (record { operands = e ∷ es; frames = fs; moves = m })

cut_at_gains : (gs fs : List Frame) (ops : List Entry) (m : ℕ) → gs ≡ fs
    → Gains (record { operands = ops; frames = fs; moves = m }) (cut_at gs (record { operands = ops; frames = fs; moves = m }))
cut_at_gains [] fs ops m e = same (record { operands = ops; frames = fs; moves = m })
cut_at_gains (g ∷ gs) fs ops m e =
    let d = down_gains g.floor ops m fs in
    let l : suc (length gs) ≡ length fs = ap length e in
    (d.0, λ h. let q = d.1 h in record { operands_up = q.operands_up; operands_down = q.operands_down; frames_up = omega (arith, l, d.0); frames_down = omega (arith, l, d.0) })

cut_gains : (s : Stack) → Gains s (cut s)
cut_gains s = cut_at_gains s.frames s.frames s.operands s.moves refl

pushed_gains : (e : Entry) (s : Stack) → Gains s (push e s)
pushed_gains e s = moved_once s (push e s) refl (omega arith) (omega arith) (omega arith) (omega arith)

opened_gains : (k : FrameKind) (t : Option ValType) (s : Stack) → Gains s (open_frame k t s)
opened_gains k t s = moved_once s (open_frame k t s) refl (omega arith) (omega arith) (omega arith) (omega arith)

close_at_gains : (gs fs : List Frame) (ops : List Entry) (m : ℕ) → gs ≡ fs
    → Gains (record { operands = ops; frames = fs; moves = m }) (close_at gs (record { operands = ops; frames = fs; moves = m })).1
close_at_gains [] fs ops m e = same (record { operands = ops; frames = fs; moves = m })
close_at_gains (g ∷ gs) fs ops m e = go (nat_lt g.floor (length ops))
  where
    go : (b : Bool) → Gains (record { operands = ops; frames = fs; moves = m }) (cond {A = Result Frame Why × Stack} b (Err why.Arity, record { operands = ops; frames = fs; moves = m }) (Ok g, record { operands = ops; frames = gs; moves = count_after_move m })).1
    go true = same (record { operands = ops; frames = fs; moves = m })
    go false =
        let l : suc (length gs) ≡ length fs = ap length e in
        moved_once (record { operands = ops; frames = fs; moves = m }) (record { operands = ops; frames = gs; moves = count_after_move m }) refl
        (omega arith) (omega arith) (omega (arith, l)) (omega (arith, l))

close_gains : (s : Stack) → Gains s (close s).1
close_gains s = close_at_gains s.frames s.frames s.operands s.moves refl

-- what may be left
abbrev MayGain : Stack → Result Stack Why → Type 0
MayGain s (Err w) = Unit {0}
MayGain s (Ok z) = Gains s z

may_along : (s y : Stack) (o : Result Stack Why) → Gains s y → MayGain y o → MayGain s o
may_along s y (Err w) g h = tt
may_along s y (Ok z) g h = along s y z g h

after_gains : {A : Type 0} (s : Stack) (r : Result A Why × Stack) (k : A → Stack → Result Stack Why) → Gains s r.1
    → ((x : A) (z : Stack) → MayGain z (k x z)) → MayGain s (after_call r k)
after_gains s (Ok x, z) k g h = may_along s z (k x z) g (h x z)
after_gains s (Err w, z) k g h = tt

push_all_gains : (q : List ValType) (s : Stack) → Gains s (push_all q s)
push_all_gains [] s = same s
push_all_gains (t ∷ ts) s = along s (push (entry_of_type t) s) (push_all ts (push (entry_of_type t) s)) (pushed_gains (entry_of_type t) s) (push_all_gains ts (push (entry_of_type t) s))

fixed_gains : (p q : List ValType) (s : Stack) → MayGain s (drive_fixed p q s)
fixed_gains p q s = after_gains s (take_all (reverse p) s) (λ r z. Ok (push_all q z)) (take_gains (reverse p) s) (λ r z. push_all_gains q z)

diverges_gains : (p : List ValType) (s : Stack) → MayGain s (drive_diverges p s)
diverges_gains p s = after_gains s (take_all (reverse p) s) (λ r z. Ok (cut z)) (take_gains (reverse p) s) (λ r z. cut_gains z)

joined_gains : (o : Option Entry) (s : Stack) → MayGain s (push_joined o s)
joined_gains None s = tt
joined_gains (Some e) s = pushed_gains e s

select_gains : (r : Reach) (s : Stack) → MayGain s (select_from r s)
select_gains Floor s = pushed_gains Unknown s
select_gains Whole s =
    after_gains s (take_any s) (λ a y. after_call (take_any y) (λ b x. push_joined (join a b) x)) (any_gains s)
    (λ a y. after_gains y (take_any y) (λ b x. push_joined (join a b) x) (any_gains y) (λ b x. joined_gains (join a b) x))

shape_gains : (sh : Effect) (s : Stack) → MayGain s (drive sh s)
shape_gains (fixed p q) s = fixed_gains p q s
shape_gains (indirect p q) s = after_gains s (take_all (I32 ∷ []) s) (λ r z. drive_fixed p q z) (take_gains (I32 ∷ []) s) (λ r z. fixed_gains p q z)
shape_gains (is_polymorphic p) s = diverges_gains p s
shape_gains drops s = after_gains s (take_any s) (λ e z. Ok z) (any_gains s) (λ e z. same z)
shape_gains selects s = after_gains s (take_all (I32 ∷ []) s) select_from (take_gains (I32 ∷ []) s) select_gains
shape_gains (ill w) s = tt

drive_close_gains : (t : Option ValType) (s : Stack) (k : Frame → Stack → Result Stack Why) → ((f : Frame) (z : Stack) → MayGain z (k f z)) → MayGain s (drive_close t s k)
drive_close_gains t s k d =
    after_gains s (take_all (reverse (option_to_list t)) s) (λ r z. after_call (close z) k) (take_gains (reverse (option_to_list t)) s)
    (λ r z. after_gains z (close z) k (close_gains z) d)

else_of_gains : (k : FrameKind) (t : Option ValType) (s : Stack) → MayGain s (else_of k t s)
else_of_gains If t s = drive_close_gains t s (λ f z. Ok (open_frame Else t z)) (λ f z. opened_gains Else t z)
else_of_gains Func t s = tt
else_of_gains Block t s = tt
else_of_gains Loop t s = tt
else_of_gains Else t s = tt

else_gains : (fs : List Frame) (s : Stack) → MayGain s (drive_else fs s)
else_gains [] s = tt
else_gains (f ∷ fs) s = else_of_gains f.kind f.result s

give_gains : (fs : List Frame) (t : Option ValType) (s : Stack) → Gains s (give_to fs t s)
give_gains [] t s = same s
give_gains (f ∷ fs) t s = push_all_gains (option_to_list t) s

end_of_gains : (b : Bool) (t : Option ValType) (s : Stack) → MayGain s (cond b (drive_close t s (λ f z. Ok (give_to z.frames t z))) (Err why.Mismatch))
end_of_gains true t s = drive_close_gains t s (λ f z. Ok (give_to z.frames t z)) (λ f z. give_gains z.frames t z)
end_of_gains false t s = tt

end_gains : (fs : List Frame) (s : Stack) → MayGain s (drive_end fs s)
end_gains [] s = tt
end_gains (f ∷ fs) s = end_of_gains (may_end f.kind f.result) f.result s

abbrev MayGainOp : Stack → Result BodyState Why → Type 0
MayGainOp s (Err w) = Unit {0}
MayGainOp s (Ok d) = Gains s d.stacks

with_table_gains : (t : Option BrTable) (s : Stack) (o : Result Stack Why) → MayGain s o → MayGainOp s (with_table t o)
with_table_gains t s (Err w) h = tt
with_table_gains t s (Ok z) h = h

known_gains : (z : Bool) (u : Option ValType) (t : Option BrTable) (s : Stack)
    → MayGainOp s (cond z (with_table None (drive_diverges (option_to_list u) s)) (Ok (record { stacks = s; table = t })))
known_gains true u t s = with_table_gains None s (drive_diverges (option_to_list u) s) (diverges_gains (option_to_list u) s)
known_gains false u t s = same s

goes_label_gains : (b : Bool) (u : Option ValType) (t : BrTable) (s : Stack) → MayGainOp s (cond b (drive_known u t s) (Err why.Mismatch))
goes_label_gains true u t s = known_gains (nat_eq t.left 0) u (Some (record { left = t.left - 1; seen = Some u })) s
goes_label_gains false u t s = tt

label_gains : (o : Option (Option ValType)) (t : BrTable) (s : Stack) → MayGainOp s (drive_label o t s)
label_gains None t s = tt
label_gains (Some u) t s = goes_label_gains (goes_with t.seen u) u t s

pub op_gains : (c : Context) (x : Op) (t : Option BrTable) (s : Stack) → MayGainOp s (drive_op c x t s)
op_gains c (op.Label l) (Some t) s = label_gains (slice_get (labels_of s.frames) l) t s
op_gains c (op.Simple p) None s = with_table_gains None s (drive (effect_of (within_frames c s.frames) p) s) (shape_gains (effect_of (within_frames c s.frames) p) s)
op_gains c (op.Block t) None s = opened_gains Block t s
op_gains c (op.Loop t) None s = opened_gains Loop t s
op_gains c (op.If t) None s =
    with_table_gains None s (drive_if t s) (after_gains s (take_all (I32 ∷ []) s) (λ r z. Ok (open_frame If t z)) (take_gains (I32 ∷ []) s) (λ r z. opened_gains If t z))
op_gains c op.Else None s = with_table_gains None s (drive_else s.frames s) (else_gains s.frames s)
op_gains c op.End None s = with_table_gains None s (drive_end s.frames s) (end_gains s.frames s)
op_gains c (op.BrTable n) None s =
    with_table_gains (Some (record { left = n; seen = None })) s (drive_count s) (after_gains s (take_all (I32 ∷ []) s) (λ r z. Ok z) (take_gains (I32 ∷ []) s) (λ r z. same z))
op_gains c (op.Label l) None s = tt
op_gains c (op.Simple p) (Some t) s = tt
op_gains c (op.Block u) (Some t) s = tt
op_gains c (op.Loop u) (Some t) s = tt
op_gains c (op.If u) (Some t) s = tt
op_gains c op.Else (Some t) s = tt
op_gains c op.End (Some t) s = tt
op_gains c (op.BrTable n) (Some t) s = tt

pub step_gains : (c : Context) (x : Op) (t : Option BrTable) (s : Stack) (d : BodyState) → drive_op c x t s ≡ Ok d → Gains s d.stacks
step_gains c x t s d e = subst (λ z. MayGainOp s z) e (op_gains c x t s)
