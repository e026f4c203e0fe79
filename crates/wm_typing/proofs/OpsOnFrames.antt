-- The effect of each op on the stacks and on the frames of the typing.
use Rattle.std.proofs.Common.{ℕ, zero, suc, ◌≡◌, ◌<◌, ◌-◌, Bool, true, false, cond, List, [], ◌∷◌, ◌++◌, Option, Some, None, Result, Ok, Err, map, length, slice_get, option_to_list, sym, refl, ap, ◌∙◌, subst, arith}
use Rattle.std.specs.Prelude.{nat_eq}
use Rattle.std.proofs.lemmas.Bool.Decides.{nat_tests}
use Rattle.wm_syntax.specs.declared.types.ValType.{ValType}
use Rattle.wm_syntax.specs.declared.types.ValType.TheVariants.{I32}
use Rattle.wm_syntax.specs.declared.why.Why.{Why}
use Rattle.wm_syntax.specs.declared.why.Why.TheVariants as why
use Rattle.wm_syntax.specs.declared.instructions.Op.{Op}
use Rattle.wm_syntax.specs.declared.instructions.Op.TheVariants as op
use Rattle.wm_stacks.specs.declared.stack_entries.Entry.{Entry}
use Rattle.wm_stacks.specs.declared.stack_entries.FrameKind.{FrameKind}
use Rattle.wm_stacks.specs.declared.stack_entries.FrameKind.TheVariants.{Func, Block, Loop, If, Else}
use Rattle.wm_stacks.specs.declared.stack_entries.Frame.{Frame}
use Rattle.wm_stacks.specs.Stack.{Stack, label_of}
use Rattle.wm_stacks.specs.exact.Stacks.{open_frame, take_all}
use Rattle.wm_typing.specs.declared.labels.BrTable.{BrTable}
use Rattle.wm_typing.specs.Typing.{Context}
use Rattle.wm_typing.specs.exact.Effects.{is_polymorphic, effect_of}
use Rattle.wm_typing.specs.OpenLists.{head, head_of, label_type, at}
use Rattle.wm_typing.specs.inner.Frames.{Pile, Frames, running, in_table, ended, Segments, piles_of, Nested, TracksWith}
use Rattle.wm_typing.specs.exact.Ops.{after_call, drive_diverges, drive, else_of, end_of, drive_count, with_table, goes_with, drive_known, drive_label, labels_of, within_frames, drive_op}
use Rattle.wm_typing.specs.Bodies.{BodyState}
use Rattle.wm_typing.proofs.FrameOperands.{apply}
use Rattle.wm_typing.proofs.BodyOps.{with_pile, empty, take_condition, step_else, end_frame, at_label, with_label_type, step}
use Rattle.wm_typing.proofs.StacksOfAFrame.{stack_at, Follows, drive_follows}
use Rattle.wm_typing.proofs.FramesAndStacks.{MayTrack, bare_at, innermost, opened_tracks, else_step, end_step, if_step, condition_follows}

abbrev pub MayTrackWith : Result BodyState Why → Option Frames → Type 0
MayTrackWith (Err w) None = Unit {0}
MayTrackWith (Err w) (Some st) = ⊥
MayTrackWith (Ok d) None = ⊥
MayTrackWith (Ok d) (Some st) = TracksWith d.table d.stacks st

-- the label of a frame is that of what it belongs to
label_is : (f : Frame) → label_of f ≡ label_type (head_of f)
label_is f = go f.kind f.result
  where
    go : (k : FrameKind) (t : Option ValType) → label_of (record { kind = k; result = t; floor = 0; unreachable = false }) ≡ label_type (head k t)
    go Func t = refl
    go Block t = refl
    go Loop t = refl
    go If t = refl
    go Else t = refl

pub labels_are : (fs : List Frame) → labels_of fs ≡ map label_type (map head_of fs)
labels_are [] = refl
labels_are (f ∷ fs) = ap (λ z. z ∷ labels_of fs) (label_is f) ∙ ap (λ z. label_type (head_of f) ∷ z) (labels_are fs)

kept : (o : Result Stack Why) (st : Option Frames) → MayTrack o st → MayTrackWith (with_table None o) st
kept (Err w) None m = tt
kept (Err w) (Some st) m = absurd m
kept (Ok s) None m = absurd m
kept (Ok s) (Some st) m = m

counted : (n : ℕ) (g : Frame) (gs : List Frame) (below : List Entry) (ess : List (List Entry)) (o : Result Stack Why) (p : Option Pile)
    → g.floor ≡ length below → Segments gs below ess → Nested (map head_of (g ∷ gs)) → Follows g gs below o p
    → MayTrackWith (with_table (Some (record { left = n; seen = None })) o) (with_pile p (λ f. in_table n None (head_of g ∷ map head_of gs) (f ∷ piles_of gs ess)))
counted n g gs below ess (Err w) None k m d f = tt
counted n g gs below ess (Err w) (Some p) k m d f = absurd f
counted n g gs below ess (Ok s) None k m d f = absurd f
counted n g gs below ess (Ok s) (Some p) k m d f =
    subst (λ z. MayTrackWith (Ok (record { stacks = z; table = Some (record { left = n; seen = None }) })) (Some (in_table n None (head_of g ∷ map head_of gs) (p ∷ piles_of gs ess))))
    (sym f.1) (refl, refl, (p.entries ∷ ess, (below, refl, k, m), refl, refl, d))

running_at : (c : Context) (x : Op) (g : Frame) (gs : List Frame) (below es : List Entry) (ess : List (List Entry)) (m : ℕ)
    → g.floor ≡ length below → Segments gs below ess → Nested (map head_of (g ∷ gs))
    → MayTrackWith (drive_op c x None (stack_at g gs below es m))
    (step c (running (head_of g ∷ map head_of gs) (record { dead = g.unreachable; entries = es } ∷ piles_of gs ess)) x)
running_at c (op.Simple p) g gs below es ess m k h n =
    let d = at c (head_of g ∷ map head_of gs) in
    let f : Pile = record { dead = g.unreachable; entries = es } in
    let e = ap (λ z. drive (effect_of (record c { labels = z }) p) (stack_at g gs below es m)) (labels_are (g ∷ gs)) in
    kept (drive (effect_of (within_frames c (g ∷ gs)) p) (stack_at g gs below es m)) (with_pile (apply (effect_of d p) f) (λ f. running (head_of g ∷ map head_of gs) (f ∷ piles_of gs ess)))
    (subst (λ z. MayTrack z (with_pile (apply (effect_of d p) f) (λ f. running (head_of g ∷ map head_of gs) (f ∷ piles_of gs ess)))) (sym e)
    (innermost g gs below ess (drive (effect_of d p) (stack_at g gs below es m)) (apply (effect_of d p) f)
    k h n (drive_follows (effect_of d p) g gs below es m k)))
running_at c (op.Block t) g gs below es ess m k h n = opened_tracks Block t (g ∷ gs) (es ++ below) m (es ∷ ess) (below, refl, k, h) n
running_at c (op.Loop t) g gs below es ess m k h n = opened_tracks Loop t (g ∷ gs) (es ++ below) m (es ∷ ess) (below, refl, k, h) n
running_at c (op.If t) g gs below es ess m k h n =
    kept (after_call (take_all (I32 ∷ []) (stack_at g gs below es m)) (λ a z. Ok (open_frame If t z))) (with_pile (take_condition (record { dead = g.unreachable; entries = es })) (λ f. running (head If t ∷ head_of g ∷ map head_of gs) (empty ∷ f ∷ piles_of gs ess)))
    (if_step t g gs below es ess (take_all (I32 ∷ []) (stack_at g gs below es m)) (take_condition (record { dead = g.unreachable; entries = es })) k h n (condition_follows g gs below es m k))
running_at c op.Else g gs below es ess m k h n =
    kept (else_of (g.kind) (g.result) (stack_at g gs below es m)) (step_else (running (head (g.kind) (g.result) ∷ map head_of gs) (record { dead = g.unreachable; entries = es } ∷ piles_of gs ess)))
    (else_step (g.kind) (g.result) g gs below es ess m k h n)
running_at c op.End g gs below es ess m k h n =
    kept (end_of (g.kind) (g.result) (stack_at g gs below es m)) (end_frame (g.kind) (g.result) (record { dead = g.unreachable; entries = es }) (map head_of gs) (piles_of gs ess))
    (end_step (g.kind) (g.result) g gs below es ess m k h n)
running_at c (op.BrTable i) g gs below es ess m k h n =
    counted i g gs below ess (drive_count (stack_at g gs below es m)) (take_condition (record { dead = g.unreachable; entries = es })) k h n (condition_follows g gs below es m k)
running_at c (op.Label l) g gs below es ess m k h n = tt

-- any stacks with a frame
running_by : (c : Context) (x : Op) (gs : List Frame) (ops : List Entry) (m : ℕ) (ess : List (List Entry))
    → Segments gs ops ess → Nested (map head_of gs)
    → MayTrackWith (drive_op c x None (bare_at gs ops m)) (step c (running (map head_of gs) (piles_of gs ess)) x)
running_by c x [] ops m ess h n = absurd n
running_by c x (g ∷ gs) ops m [] h n = absurd h
running_by c x (g ∷ gs) ops m (es ∷ ess) h n =
    subst (λ z. MayTrackWith (drive_op c x None (bare_at (g ∷ gs) z m)) (step c (running (map head_of (g ∷ gs)) (piles_of (g ∷ gs) (es ∷ ess))) x)) (sym h.1)
    (running_at c x g gs h.0 es ess m h.2 h.3 n)

not_zero : (n : ℕ) → nat_eq (suc n) 0 ≡ false
not_zero n = grind (arith, nat_tests)

-- a label of a table
known_at : (u : Option ValType) (left : ℕ) (seen : Option (Option ValType)) (g : Frame) (gs : List Frame) (below es : List Entry) (ess : List (List Entry)) (m : ℕ)
    → g.floor ≡ length below → Segments gs below ess → Nested (map head_of (g ∷ gs))
    → MayTrackWith (drive_known u (record { left = left; seen = seen }) (stack_at g gs below es m))
    (at_label left u (head_of g ∷ map head_of gs) (record { dead = g.unreachable; entries = es }) (piles_of gs ess))
known_at u zero seen g gs below es ess m k h n =
    kept (drive_diverges (option_to_list u) (stack_at g gs below es m)) (with_pile (apply (is_polymorphic (option_to_list u)) (record { dead = g.unreachable; entries = es })) (λ f. running (head_of g ∷ map head_of gs) (f ∷ piles_of gs ess)))
    (innermost g gs below ess (drive_diverges (option_to_list u) (stack_at g gs below es m)) (apply (is_polymorphic (option_to_list u)) (record { dead = g.unreachable; entries = es })) k h n
    (drive_follows (is_polymorphic (option_to_list u)) g gs below es m k))
known_at u (suc left) seen g gs below es ess m k h n =
    let e : suc left - 1 ≡ left = omega arith in
    rw (not_zero left) (e, refl, (es ∷ ess, (below, refl, k, h), refl, refl, n))

goes_at : (u : Option ValType) (left : ℕ) (seen : Option (Option ValType)) (b : Bool) (g : Frame) (gs : List Frame) (below es : List Entry) (ess : List (List Entry)) (m : ℕ)
    → g.floor ≡ length below → Segments gs below ess → Nested (map head_of (g ∷ gs))
    → MayTrackWith (cond b (drive_known u (record { left = left; seen = seen }) (stack_at g gs below es m)) (Err why.Mismatch))
    (cond b (at_label left u (head_of g ∷ map head_of gs) (record { dead = g.unreachable; entries = es }) (piles_of gs ess)) None)
goes_at u left seen true g gs below es ess m k h n = known_at u left seen g gs below es ess m k h n
goes_at u left seen false g gs below es ess m k h n = tt

label_at : (o : Option (Option ValType)) (left : ℕ) (seen : Option (Option ValType)) (g : Frame) (gs : List Frame) (below es : List Entry) (ess : List (List Entry)) (m : ℕ)
    → g.floor ≡ length below → Segments gs below ess → Nested (map head_of (g ∷ gs))
    → MayTrackWith (drive_label o (record { left = left; seen = seen }) (stack_at g gs below es m))
    (with_label_type o left seen (head_of g ∷ map head_of gs) (record { dead = g.unreachable; entries = es }) (piles_of gs ess))
label_at None left seen g gs below es ess m k h n = tt
label_at (Some u) left seen g gs below es ess m k h n = goes_at u left seen (goes_with seen u) g gs below es ess m k h n

table_at : (c : Context) (x : Op) (left : ℕ) (seen : Option (Option ValType)) (g : Frame) (gs : List Frame) (below es : List Entry) (ess : List (List Entry)) (m : ℕ)
    → g.floor ≡ length below → Segments gs below ess → Nested (map head_of (g ∷ gs))
    → MayTrackWith (drive_op c x (Some (record { left = left; seen = seen })) (stack_at g gs below es m))
    (step c (in_table left seen (head_of g ∷ map head_of gs) (record { dead = g.unreachable; entries = es } ∷ piles_of gs ess)) x)
table_at c (op.Label l) left seen g gs below es ess m k h n =
    subst (λ z. MayTrackWith (drive_label (slice_get z l) (record { left = left; seen = seen }) (stack_at g gs below es m))
    (with_label_type (slice_get (map label_type (map head_of (g ∷ gs))) l) left seen (head_of g ∷ map head_of gs) (record { dead = g.unreachable; entries = es }) (piles_of gs ess)))
    (sym (labels_are (g ∷ gs)))
    (label_at (slice_get (map label_type (map head_of (g ∷ gs))) l) left seen g gs below es ess m k h n)
table_at c (op.Simple p) left seen g gs below es ess m k h n = tt
table_at c (op.Block t) left seen g gs below es ess m k h n = tt
table_at c (op.Loop t) left seen g gs below es ess m k h n = tt
table_at c (op.If t) left seen g gs below es ess m k h n = tt
table_at c op.Else left seen g gs below es ess m k h n = tt
table_at c op.End left seen g gs below es ess m k h n = tt
table_at c (op.BrTable i) left seen g gs below es ess m k h n = tt

table_by : (c : Context) (x : Op) (t : BrTable) (gs : List Frame) (ops : List Entry) (m : ℕ) (ess : List (List Entry))
    → Segments gs ops ess → Nested (map head_of gs)
    → MayTrackWith (drive_op c x (Some t) (bare_at gs ops m)) (step c (in_table (t.left) (t.seen) (map head_of gs) (piles_of gs ess)) x)
table_by c x t [] ops m ess h n = absurd n
table_by c x t (g ∷ gs) ops m [] h n = absurd h
table_by c x t (g ∷ gs) ops m (es ∷ ess) h n =
    subst (λ z. MayTrackWith (drive_op c x (Some t) (bare_at (g ∷ gs) z m)) (step c (in_table (t.left) (t.seen) (map head_of (g ∷ gs)) (piles_of (g ∷ gs) (es ∷ ess))) x)) (sym h.1)
    (table_at c x (t.left) (t.seen) g gs h.0 es ess m h.2 h.3 n)

no_frames : (fs : List Frame) → 0 < length fs → fs ≡ [] → ⊥
no_frames fs l e = let z : length fs ≡ 0 = ap length e in omega arith

-- The calls that an op makes follow the step of the typing.
pub op_tracks : (c : Context) (x : Op) (t : Option BrTable) (s : Stack) (st : Frames) → 0 < length s.frames → TracksWith t s st
    → MayTrackWith (drive_op c x t s) (step c st x)
op_tracks c x None s (running hs fs) l m =
    subst (λ z. MayTrackWith (drive_op c x None s) (step c (running z fs) x)) (sym m.2)
    (subst (λ z. MayTrackWith (drive_op c x None s) (step c (running (map head_of s.frames) z) x)) (sym m.3)
    (running_by c x s.frames s.operands s.moves m.0 m.1 m.4))
op_tracks c x None s (in_table n seen hs fs) l m = absurd m
op_tracks c x None s ended l m = absurd (no_frames s.frames l m.0)
op_tracks c x (Some t) s (running hs fs) l m = absurd m
op_tracks c x (Some t) s ended l m = absurd m
op_tracks c x (Some t) s (in_table n seen hs fs) l m =
    subst (λ z. MayTrackWith (drive_op c x (Some t) s) (step c (in_table z seen hs fs) x)) m.0
    (subst (λ z. MayTrackWith (drive_op c x (Some t) s) (step c (in_table (t.left) z hs fs) x)) m.1
    (subst (λ z. MayTrackWith (drive_op c x (Some t) s) (step c (in_table (t.left) (t.seen) z fs) x)) (sym m.2.2)
    (subst (λ z. MayTrackWith (drive_op c x (Some t) s) (step c (in_table (t.left) (t.seen) (map head_of s.frames) z) x)) (sym m.2.3)
    (table_by c x t s.frames s.operands s.moves m.2.0 m.2.1 m.2.4))))
