-- The meaning of `Arity` for the lists of types that the innermost open list can leave.
use Rattle.std.proofs.Common.{◌≡◌, ℕ, suc, ◌≤◌, ◌<◌, inl, inr, Bool, true, false, cond, List, [], ◌∷◌, ◌++◌, Option, Some, None, Result, Ok, Err, reverse, length, map, slice_get, option_to_list, refl, sym, ◌∙◌, ap, subst, arith, length-append, nat_eq, nat_le, nat_lt, ◌^◌}
use Rattle.std.proofs.lemmas.List.{length-reverse}
use Rattle.wm_syntax.specs.declared.types.ValType.{ValType}
use Rattle.wm_syntax.specs.declared.types.ValType.TheVariants.{I32}
use Rattle.wm_syntax.specs.declared.why.Why.{Why}
use Rattle.wm_syntax.specs.declared.why.Why.TheVariants as why
use Rattle.wm_syntax.specs.declared.instructions.Simple.{Simple}
use Rattle.wm_syntax.specs.declared.instructions.Op.{Op}
use Rattle.wm_syntax.specs.declared.instructions.Op.TheVariants as op
use Rattle.wm_stacks.specs.declared.stack_entries.Entry.{Entry}
use Rattle.wm_stacks.specs.declared.stack_entries.Frame.{Frame}
use Rattle.wm_stacks.specs.declared.stack_entries.FrameKind.{FrameKind}
use Rattle.wm_stacks.specs.declared.stack_entries.FrameKind.TheVariants.{Func, Block, Loop, If, Else}
use Rattle.wm_stacks.specs.Stack.{Stack}
use Rattle.wm_stacks.specs.declared.stack_entries.Reach.{Reach}
use Rattle.wm_stacks.specs.exact.Stacks.{open_frame, take_all}
use Rattle.wm_typing.specs.declared.labels.BrTable.{BrTable}
use Rattle.wm_typing.specs.Bodies.{BodyState}
use Rattle.wm_typing.specs.Typing.{Context, TypedSimple, function_type}
use Rattle.wm_syntax.specs.Opcodes.{load, store}
use Rattle.wm_syntax.specs.Types.{Signature}
use Rattle.wm_syntax.specs.declared.types.GlobalType.{GlobalType}
use Rattle.wm_syntax.specs.declared.instructions.Simple.TheVariants as simple
use Rattle.wm_typing.specs.OpenLists.{head, head_of, label_type, Place, open_at, within, complete, at}
use Rattle.wm_typing.specs.exact.Effects.{Effect, fixed, indirect, is_polymorphic, drops, selects, ill, with_item, where_true, bulk_effect, table_effect, effect_of}
use Rattle.wm_typing.specs.exact.Ops.{after_call, drive, drive_close, drive_diverges, drive_else, drive_end, drive_known, drive_label, drive_op, else_of, end_of, give_to, goes_with, labels_of, may_end, with_table, within_frames}
use Rattle.wm_typing.specs.inner.Frames.{Frames, running, in_table, ended, Holds, Stands, TracksWith}
use Rattle.wm_typing.proofs.Effects.{HasShape, shape, typed}
use Rattle.wm_rules.specs.Meanings.{CountDiffers, Leaves, heads_of}
use Rattle.wm_rules.proofs.DueLabels.{heads_are, labels_are}
use Rattle.wm_rules.proofs.InnerFrames.{Inner, Over, inner}
use Rattle.wm_rules.proofs.MissingOperands.{Differs, Lacks, Top, close_lacks, drive_lacks, one_lacks}

stands_few : (un : Bool) (es : List Entry) (ts : List ValType) → Stands un es ts → (length es ≤ length ts) × (un ≡ false → length ts ≡ length es)
stands_few true [] ts h = (omega arith, λ e. absurd (cc))
stands_few false [] ts h = (omega arith, λ e. ap length h)
stands_few un (e ∷ es) [] h = absurd h
stands_few un (e ∷ es) (t ∷ ts) h = let r = stands_few un es ts h.1 in (omega (arith, r.0), λ x. ap suc (r.1 x))

abbrev Counted : Bool → ℕ → List ValType → Type 0
Counted un n types = (n ≤ length types) × (un ≡ false → length types ≡ n)

counted : (un : Bool) (es : List Entry) (types : List ValType) → Stands un es (reverse types) → Counted un (length es) types
counted un es types h =
    let r = stands_few un es (reverse types) h in
    let n = length-reverse types in
    (omega (arith, n, r.0), λ u. let k = r.1 u in omega (arith, n, k))

top_of : (s : Stack) (f : Frame) (es : List Entry) → Over s f es → Top s f (length es)
top_of s f es o = record { rest = o.rest; frames = o.frames; height = let z = ap length o.operands in omega (arith, z, o.floor, length-append es o.below) }

abbrev pub Outside : Place → Type 0
Outside (within n seen hs ws) = ⊥
Outside q = Unit {0}

pub is_outside : (c : Context) (p : Place) (fs : Frames) (s : Stack) → Holds c p fs → TracksWith None s fs → Outside p
is_outside c (within n seen hs ws) (running gs ps) s h m = absurd h
is_outside c (within n seen hs ws) (in_table k known gs ps) s h m = absurd m
is_outside c (within n seen hs ws) ended s h m = absurd h
is_outside c (open_at hs ws) fs s h m = tt
is_outside c (complete r b) fs s h m = tt

-- an answer with no table, or with one
pub table_err : (t : Option BrTable) (r : Result Stack Why) (w : Why) → with_table t r ≡ Err w → r ≡ Err w
table_err t (Ok z) w e = absurd (cc)
table_err t (Err v) w e = let same : v ≡ w = cc in ap Err same

few : (un : Bool) (n k : ℕ) (types : List ValType) → Counted un n types → (un ≡ false) × (n < k) → length types < k
few un n k types a l = let e = a.1 l.0 in omega (arith, e, l.1)

other_count : (f : Frame) (n k : ℕ) (types : List ValType) → Counted f.unreachable n types → Differs f n k → length types ≡ k → ⊥
other_count f n k types a d e = elim d [
  | inl l ↦ (let i = a.1 l.0 in omega (arith, e, i, l.1))
  | inr l ↦ (let i = a.0 in omega (arith, e, i, l))
]

at_list : (c : Context) (q : Place) (f : Frame) (fs : List Frame) (types : List ValType) → Outside q → heads_of q ≡ map head_of (f ∷ fs) → Leaves c q types
    → (length types ≡ length (option_to_list f.result) → ⊥) → CountDiffers c q op.Else types × CountDiffers c q op.End types
at_list c (open_at [] ws) f fs types o e l d = absurd l
at_list c (open_at (head k t ∷ hs) ws) f fs types o e l d =
    let is : t ≡ f.result = cc in
    let no : length types ≡ length (option_to_list t) → ⊥ = λ i. d (i ∙ ap (λ z. length (option_to_list z)) is) in
    (no, no)
at_list c (within n seen hs ws) f fs types o e l d = absurd o
at_list c (complete r b) f fs types o e l d = absurd l

else_lacks : (k : FrameKind) (t : Option ValType) (s : Stack) (f : Frame) (n : ℕ) → Top s f n → else_of k t s ≡ Err why.Arity → Differs f n (length (option_to_list t))
else_lacks If t s f n top e = close_lacks t s f n (λ h y. open_frame Else t y) top e
else_lacks Func t s f n top e = absurd (cc)
else_lacks Block t s f n top e = absurd (cc)
else_lacks Loop t s f n top e = absurd (cc)
else_lacks Else t s f n top e = absurd (cc)

end_lacks : (k : FrameKind) (t : Option ValType) (s : Stack) (f : Frame) (n : ℕ) → Top s f n → end_of k t s ≡ Err why.Arity → Differs f n (length (option_to_list t))
end_lacks k t s f n top e = go (may_end k t) e
  where
    go : (b : Bool) → cond b (drive_close t s (λ h y. Ok (give_to y.frames t y))) (Err why.Mismatch) ≡ Err why.Arity → Differs f n (length (option_to_list t))
    go true e = close_lacks t s f n (λ h y. give_to y.frames t y) top e
    go false e = absurd (cc)

label_lacks : (o : Option (Option ValType)) (t : BrTable) (s : Stack) (f : Frame) (n : ℕ) → Top s f n → drive_label o t s ≡ Err why.Arity → (u : Option ValType) × (o ≡ Some u) × Lacks f n (length (option_to_list u))
label_lacks None t s f n top e = absurd (cc)
label_lacks (Some u) t s f n top e = (u, refl, go (goes_with t.seen u) e)
  where
    known : (b : Bool) (r : Result BodyState Why) → ((w : Why) → r ≡ Err w → ⊥) → cond b (with_table None (drive_diverges (option_to_list u) s)) r ≡ Err why.Arity → Lacks f n (length (option_to_list u))
    known true r never e = drive_lacks (is_polymorphic (option_to_list u)) s f n top (table_err None (drive_diverges (option_to_list u) s) why.Arity e) (option_to_list u) [] ([], refl)
    known false r never e = absurd (never why.Arity e)

    go : (b : Bool) → cond b (drive_known u t s) (Err why.Mismatch) ≡ Err why.Arity → Lacks f n (length (option_to_list u))
    go true e = known (nat_eq t.left 0) _ (λ w i. cc) e
    go false e = absurd (cc)

-- what is refused for its operands has a typing
module _ (w : Why) (index : why.Index ≡ w → ⊥) (immutable : why.Immutable ≡ w → ⊥) (align : why.Align ≡ w → ⊥) where
  same_ill : (v : Why) → ill v ≡ ill w → v ≡ w
  same_ill v e = cc

  item_never : {X : Type 0} (o : Option X) (f : X → Effect) → ((x : X) → f x ≡ ill w → ⊥) → with_item o f ≡ ill w → ⊥
  item_never None f n e = index (same_ill why.Index e)
  item_never (Some x) f n e = n x e

  test_never : (v : Why) (b : Bool) (d : Effect) → (v ≡ w → ⊥) → (d ≡ ill w → ⊥) → where_true v b d ≡ ill w → ⊥
  test_never v true d m n e = n e
  test_never v false d m n e = m (same_ill v e)

  pub never_ill : (c : Context) (q : Simple) → effect_of c q ≡ ill w → ⊥
  never_ill c simple.Unreachable e = cc
  never_ill c simple.Nop e = cc
  never_ill c (simple.Br l) e = item_never (slice_get c.labels l) (λ t. is_polymorphic (option_to_list t)) (λ t d. cc) e
  never_ill c (simple.BrIf l) e = item_never (slice_get c.labels l) (λ t. fixed (option_to_list t ++ I32 ∷ []) (option_to_list t)) (λ t d. cc) e
  never_ill c simple.Return e = cc
  never_ill c (simple.Call x) e = item_never (function_type c x) (λ (f : Signature). fixed f.params f.results) (λ f d. cc) e
  never_ill c (simple.CallIndirect x) e =
      test_never why.Index c.has_table (with_item (slice_get c.types x) (λ (f : Signature). indirect f.params f.results)) index
      (item_never (slice_get c.types x) (λ (f : Signature). indirect f.params f.results) (λ f d. cc)) e
  never_ill c simple.Drop e = cc
  never_ill c simple.Select e = cc
  never_ill c (simple.LocalGet x) e = item_never (slice_get c.locals x) (λ t. fixed [] (t ∷ [])) (λ t d. cc) e
  never_ill c (simple.LocalSet x) e = item_never (slice_get c.locals x) (λ t. fixed (t ∷ []) []) (λ t d. cc) e
  never_ill c (simple.LocalTee x) e = item_never (slice_get c.locals x) (λ t. fixed (t ∷ []) (t ∷ [])) (λ t d. cc) e
  never_ill c (simple.GlobalGet x) e = item_never (slice_get c.globals x) (λ (g : GlobalType). fixed [] (g.ty ∷ [])) (λ g d. cc) e
  never_ill c (simple.GlobalSet x) e =
      item_never (slice_get c.globals x) (λ (g : GlobalType). where_true why.Immutable g.var (fixed (g.ty ∷ []) []))
      (λ g. test_never why.Immutable g.var (fixed (g.ty ∷ []) []) immutable (λ d. cc)) e
  never_ill c simple.MemorySize e = test_never why.Index c.has_memory (fixed [] (I32 ∷ [])) index (λ d. cc) e
  never_ill c simple.MemoryGrow e = test_never why.Index c.has_memory (fixed (I32 ∷ []) (I32 ∷ [])) index (λ d. cc) e
  never_ill c simple.MemoryCopy e = test_never why.Index c.has_memory (fixed (I32 ∷ I32 ∷ I32 ∷ []) []) index (λ d. cc) e
  never_ill c simple.MemoryFill e = test_never why.Index c.has_memory (fixed (I32 ∷ I32 ∷ I32 ∷ []) []) index (λ d. cc) e
  never_ill c (simple.MemoryInit x) e =
      test_never why.Index (nat_lt x c.segments) (bulk_effect c) index (test_never why.Index c.has_memory (fixed (I32 ∷ I32 ∷ I32 ∷ []) []) index (λ d. cc)) e
  never_ill c (simple.DataDrop x) e = test_never why.Index (nat_lt x c.segments) (fixed [] []) index (λ d. cc) e
  never_ill c (simple.TableInit x) e =
      test_never why.Index (nat_lt x c.elements) (table_effect c) index (test_never why.Index c.has_table (fixed (I32 ∷ I32 ∷ I32 ∷ []) []) index (λ d. cc)) e
  never_ill c (simple.ElemDrop x) e = test_never why.Index (nat_lt x c.elements) (fixed [] []) index (λ d. cc) e
  never_ill c simple.TableCopy e = test_never why.Index c.has_table (fixed (I32 ∷ I32 ∷ I32 ∷ []) []) index (λ d. cc) e
  never_ill c (simple.I32Const n) e = cc
  never_ill c (simple.I64Const n) e = cc
  never_ill c (simple.F32Const n) e = cc
  never_ill c (simple.F64Const n) e = cc
  never_ill c (simple.Load o at) e =
      test_never why.Index c.has_memory (where_true why.Align (nat_le (2 ^ at.align) (load o).width) (fixed (I32 ∷ []) ((load o).ty ∷ []))) index
      (test_never why.Align (nat_le (2 ^ at.align) (load o).width) (fixed (I32 ∷ []) ((load o).ty ∷ [])) align (λ d. cc)) e
  never_ill c (simple.Store o at) e =
      test_never why.Index c.has_memory (where_true why.Align (nat_le (2 ^ at.align) (store o).width) (fixed (I32 ∷ (store o).ty ∷ []) [])) index
      (test_never why.Align (nat_le (2 ^ at.align) (store o).width) (fixed (I32 ∷ (store o).ty ∷ []) []) align (λ d. cc)) e
  never_ill c (simple.Numeric o) e = cc

  pub some_shape : (d : Effect) (s : Stack) → (d ≡ ill w → ⊥) → drive d s ≡ Err w → (takes : List ValType) × (gives : List ValType) × HasShape d takes gives
  some_shape (fixed a b) s n e = (a, b, (refl, refl))
  some_shape (indirect a b) s n e = (a ++ I32 ∷ [], b, (refl, refl))
  some_shape (is_polymorphic a) s n e = (a, [], ([], refl))
  some_shape drops s n e = (I32 ∷ [], [], (I32, (refl, refl)))
  some_shape selects s n e = (I32 ∷ I32 ∷ I32 ∷ [], I32 ∷ [], (I32, (refl, refl)))
  some_shape (ill v) s n e = let same : v ≡ w = cc in absurd (n (ap ill same))

-- a simple instruction that is refused so, by its effect where the place is
module _ (c : Context) (p : Place) (fs : Frames) (u : Option BrTable) (s : Stack) (h : Holds c p fs) (m : TracksWith u s fs) where
  pub labels : labels_of s.frames ≡ map label_type (heads_of p)
  labels = labels_are s.frames ∙ ap (map label_type) (sym (heads_are c p fs u s h m))

  pub has_shape : (q : Simple) (takes gives : List ValType) → TypedSimple (at c (heads_of p)) q takes gives → HasShape (effect_of (within_frames c s.frames) q) takes gives
  has_shape q takes gives t =
      shape takes gives (within_frames c s.frames) q (subst (λ (ls : List (Option ValType)). TypedSimple (record c { labels = ls }) q takes gives) (sym labels) t)

  pub has_type : (q : Simple) (takes gives : List ValType) → HasShape (effect_of (within_frames c s.frames) q) takes gives → TypedSimple (at c (heads_of p)) q takes gives
  has_type q takes gives k =
      subst (λ (ls : List (Option ValType)). TypedSimple (record c { labels = ls }) q takes gives) labels (typed takes gives (within_frames c s.frames) q k)

module _ (c : Context) (p : Place) (fs : Frames) (u : Option BrTable) (s : Stack) (l : 0 < length s.frames) (h : Holds c p fs) (m : TracksWith u s fs) (types : List ValType) (left : Leaves c p types) where
  i : Inner c p s
  i = inner c p fs u s l h m

  top : Top s i.f (length i.es)
  top = top_of s i.f i.es i.over

  same : Counted i.f.unreachable (length i.es) types
  same = counted i.f.unreachable i.es types (i.stands types left)

  simple_count : (q : Simple) → drive (effect_of (within_frames c s.frames) q) s ≡ Err why.Arity → CountDiffers c p (op.Simple q) types
  simple_count q e =
      let d = effect_of (within_frames c s.frames) q in
      let some = some_shape why.Arity (λ x. cc) (λ x. cc) (λ x. cc) d s (never_ill why.Arity (λ x. cc) (λ x. cc) (λ x. cc) (within_frames c s.frames) q) e in (
        (some.0, some.1, has_type c p fs u s h m q some.0 some.1 some.2),
        λ takes gives t.
            few i.f.unreachable (length i.es) (length takes) types same (drive_lacks d s i.f (length i.es) top e takes gives (has_shape c p fs u s h m q takes gives t)),
      )

  list_count : Outside p → Differs i.f (length i.es) (length (option_to_list i.f.result)) → CountDiffers c p op.Else types × CountDiffers c p op.End types
  list_count o d =
      at_list c p i.f top.rest types o (heads_are c p fs u s h m ∙ ap (map head_of) top.frames) left
      (other_count i.f (length i.es) (length (option_to_list i.f.result)) types same d)

  else_count : Outside p → drive_else s.frames s ≡ Err why.Arity → CountDiffers c p op.Else types
  else_count o e = (list_count o (else_lacks i.f.kind i.f.result s i.f (length i.es) top (subst (λ gs. drive_else gs s ≡ Err why.Arity) top.frames e))).0

  end_count : Outside p → drive_end s.frames s ≡ Err why.Arity → CountDiffers c p op.End types
  end_count o e = (list_count o (end_lacks i.f.kind i.f.result s i.f (length i.es) top (subst (λ gs. drive_end gs s ≡ Err why.Arity) top.frames e))).1

  label_count : (k : ℕ) (t : BrTable) → drive_label (slice_get (labels_of s.frames) k) t s ≡ Err why.Arity → CountDiffers c p (op.Label k) types
  label_count k t e =
      let r = label_lacks (slice_get (labels_of s.frames) k) t s i.f (length i.es) top e in
      (r.0, ap (λ (ls : List (Option ValType)). slice_get ls k) (sym (labels c p fs u s h m)) ∙ r.1, few i.f.unreachable (length i.es) (length (option_to_list r.0)) types same r.2)

  one_count : (k : Reach → Stack → Stack) → after_call (take_all (I32 ∷ []) s) (λ r z. Ok (k r z)) ≡ Err why.Arity → length types < 1
  one_count k e = few i.f.unreachable (length i.es) 1 types same (one_lacks s i.f (length i.es) k top e)

pub count_differs : (c : Context) (o : Op) (u : Option BrTable) (s : Stack) (p : Place) (fs : Frames) → 0 < length s.frames → Holds c p fs → TracksWith u s fs → drive_op c o u s ≡ Err why.Arity
    → (types : List ValType) → Leaves c p types → CountDiffers c p o types
count_differs c (op.Label k) (Some t) s p fs l h m e types left = label_count c p fs (Some t) s l h m types left k t e
count_differs c (op.Simple q) None s p fs l h m e types left = simple_count c p fs None s l h m types left q (table_err None _ why.Arity e)
count_differs c (op.Block t) None s p fs l h m e types left = absurd (cc)
count_differs c (op.Loop t) None s p fs l h m e types left = absurd (cc)
count_differs c (op.If t) None s p fs l h m e types left = one_count c p fs None s l h m types left (λ r z. open_frame If t z) (table_err None _ why.Arity e)
count_differs c op.Else None s p fs l h m e types left = else_count c p fs None s l h m types left (is_outside c p fs s h m) (table_err None _ why.Arity e)
count_differs c op.End None s p fs l h m e types left = end_count c p fs None s l h m types left (is_outside c p fs s h m) (table_err None _ why.Arity e)
count_differs c (op.BrTable n) None s p fs l h m e types left = one_count c p fs None s l h m types left (λ r z. z) (table_err (Some (record { left = n; seen = None })) _ why.Arity e)
count_differs c (op.Label k) None s p fs l h m e types left = absurd (cc)
count_differs c (op.Simple q) (Some t) s p fs l h m e types left = absurd (cc)
count_differs c (op.Block k) (Some t) s p fs l h m e types left = absurd (cc)
count_differs c (op.Loop k) (Some t) s p fs l h m e types left = absurd (cc)
count_differs c (op.If k) (Some t) s p fs l h m e types left = absurd (cc)
count_differs c op.Else (Some t) s p fs l h m e types left = absurd (cc)
count_differs c op.End (Some t) s p fs l h m e types left = absurd (cc)
count_differs c (op.BrTable n) (Some t) s p fs l h m e types left = absurd (cc)
