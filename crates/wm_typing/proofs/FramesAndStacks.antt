-- The stacks agree with the frames of the typing.
use Rattle.std.proofs.Common.{ℕ, ◌≡◌, ◌≤◌, ◌<◌, Bool, true, false, cond, List, [], ◌∷◌, ◌++◌, Option, Some, None, Result, Ok, Err, reverse, map, length, option_to_list, sym, refl, ap, ◌∙◌, subst, arith, length-append}
use Rattle.std.specs.Prelude.{nat_lt}
use Rattle.std.proofs.lemmas.Bool.Decides.{nat_tests}
use Rattle.wm_syntax.specs.declared.types.ValType.{ValType}
use Rattle.wm_syntax.specs.declared.types.ValType.TheVariants.{I32}
use Rattle.wm_syntax.specs.declared.why.Why.{Why}
use Rattle.wm_syntax.specs.declared.why.Why.TheVariants as why
use Rattle.wm_stacks.specs.declared.stack_entries.Entry.{Entry}
use Rattle.wm_stacks.specs.declared.stack_entries.FrameKind.{FrameKind}
use Rattle.wm_stacks.specs.declared.stack_entries.FrameKind.TheVariants.{Func, Block, Loop, If, Else}
use Rattle.wm_stacks.specs.declared.stack_entries.Frame.{Frame}
use Rattle.wm_stacks.specs.declared.stack_entries.Reach.{Reach}
use Rattle.wm_stacks.specs.Stack.{Stack}
use Rattle.wm_stacks.specs.exact.Stacks.{open_frame, count_after_move, take_all, close}
use Rattle.wm_typing.specs.exact.OperandTypes.{entry_of_type}
use Rattle.wm_typing.specs.exact.Effects.{fixed}
use Rattle.wm_typing.specs.OpenLists.{head, head_of}
use Rattle.wm_typing.specs.inner.Frames.{Pile, Frames, running, ended, Segments, piles_of, Nested, Tracks}
use Rattle.wm_typing.specs.exact.Ops.{push_all, after_call, drive_close, else_of, may_end, give_to, end_of, drive_count}
use Rattle.wm_typing.proofs.FrameOperands.{Take, whole, floor, refused, take_types}
use Rattle.wm_typing.proofs.BodyOps.{with_pile, empty, take_condition, is_closed, closes, where_closed, step_else, push_types, end_frame}
use Rattle.wm_typing.proofs.StacksOfAFrame.{stack_at, push_all_at, TakesTo, takes_to, Follows, drive_follows}

abbrev pub MayTrack : Result Stack Why → Option Frames → Type 0
MayTrack (Err w) None = Unit {0}
MayTrack (Err w) (Some t) = ⊥
MayTrack (Ok s) None = ⊥
MayTrack (Ok s) (Some t) = Tracks s t

-- an op on the innermost frame alone
pub innermost : (g : Frame) (gs : List Frame) (below : List Entry) (ess : List (List Entry)) (o : Result Stack Why) (p : Option Pile)
    → g.floor ≡ length below → Segments gs below ess → Nested (map head_of (g ∷ gs)) → Follows g gs below o p
    → MayTrack o (with_pile p (λ f. running (head_of g ∷ map head_of gs) (f ∷ piles_of gs ess)))
innermost g gs below ess (Err w) None k m n f = tt
innermost g gs below ess (Err w) (Some p) k m n f = absurd f
innermost g gs below ess (Ok s) None k m n f = absurd f
innermost g gs below ess (Ok s) (Some p) k m n f =
    subst (λ z. Tracks z (running (head_of g ∷ map head_of gs) (p ∷ piles_of gs ess))) (sym f.1) (p.entries ∷ ess, (below, refl, k, m), refl, refl, n)

-- the end of a frame
not_lt : (n : ℕ) (below : List Entry) → n ≡ length below → nat_lt n (length below) ≡ false
not_lt n below e = let l : length below ≤ n = omega arith in grind (arith, nat_tests)

is_lt_at : (n : ℕ) (e : Entry) (es below : List Entry) → n ≡ length below → nat_lt n (length (e ∷ es ++ below)) ≡ true
is_lt_at n e es below k = let l : n < length (e ∷ es ++ below) = omega (arith, length-append es below) in grind (arith, nat_tests)

close_empty : (g : Frame) (gs : List Frame) (below : List Entry) (m : ℕ) → g.floor ≡ length below
    → close (stack_at g gs below [] m) ≡ (Ok g, record { operands = below; frames = gs; moves = count_after_move m })
close_empty g gs below m k = rw (not_lt g.floor below k) refl

close_full : (g : Frame) (gs : List Frame) (below : List Entry) (e : Entry) (es : List Entry) (m : ℕ) → g.floor ≡ length below
    → close (stack_at g gs below (e ∷ es) m) ≡ (Err why.Arity, stack_at g gs below (e ∷ es) m)
close_full g gs below e es m k = rw (is_lt_at g.floor e es below k) refl

abbrev pub bare_at : List Frame → List Entry → ℕ → Stack
bare_at gs below m = record { operands = below; frames = gs; moves = m }

abbrev pub ClosesTo : Frame → List Frame → List Entry → (Frame → Stack → Result Stack Why) → Result Stack Why → Bool → Type 0
ClosesTo g gs below k o true = (m : ℕ) × (o ≡ k g (bare_at gs below m))
ClosesTo g gs below k o false = (w : Why) × (o ≡ Err w)

close_after : (g : Frame) (gs : List Frame) (below : List Entry) (k : Frame → Stack → Result Stack Why) (r : Result Reach Why × Stack) (tk : Take)
    → g.floor ≡ length below → TakesTo g gs below r tk
    → ClosesTo g gs below k (after_call r (λ a z. after_call (close z) k)) (is_closed tk)
close_after g gs below k r (whole []) e h =
    (count_after_move h.0, ap (λ z. after_call z (λ a z. after_call (close z) k)) h.1 ∙ ap (λ z. after_call z k) (close_empty g gs below h.0 e))
close_after g gs below k r (whole (x ∷ es)) e h =
    (why.Arity, ap (λ z. after_call z (λ a z. after_call (close z) k)) h.1 ∙ ap (λ z. after_call z k) (close_full g gs below x es h.0 e))
close_after g gs below k r floor e h =
    (count_after_move h.0, ap (λ z. after_call z (λ a z. after_call (close z) k)) h.1 ∙ ap (λ z. after_call z k) (close_empty g gs below h.0 e))
close_after g gs below k r refused e h = (h.0, ap (λ z. after_call z (λ a z. after_call (close z) k)) h.2)

closes_to : (g : Frame) (gs : List Frame) (below es : List Entry) (m : ℕ) (t : Option ValType) (k : Frame → Stack → Result Stack Why) → g.floor ≡ length below
    → ClosesTo g gs below k (drive_close t (stack_at g gs below es m) k) (closes t (record { dead = g.unreachable; entries = es }))
closes_to g gs below es m t k e =
    close_after g gs below k (take_all (reverse (option_to_list t)) (stack_at g gs below es m)) (take_types g.unreachable es (reverse (option_to_list t))) e
    (takes_to g gs below (reverse (option_to_list t)) es m e)

-- a frame that is opened
pub opened_tracks : (k : FrameKind) (t : Option ValType) (gs : List Frame) (ops : List Entry) (m : ℕ) (ess : List (List Entry)) → Segments gs ops ess → Nested (head k t ∷ map head_of gs)
    → Tracks (open_frame k t (bare_at gs ops m)) (running (head k t ∷ map head_of gs) (empty ∷ piles_of gs ess))
opened_tracks k t gs ops m ess h n = ([] ∷ ess, (ops, refl, refl, h), refl, refl, n)

else_tracks : (g : Frame) (gs : List Frame) (below : List Entry) (ess : List (List Entry)) (t : Option ValType) (o : Result Stack Why) (b : Bool) → Segments gs below ess → Nested (map head_of gs)
    → ClosesTo g gs below (λ f z. Ok (open_frame Else t z)) o b
    → MayTrack o (where_closed b (running (head Else t ∷ map head_of gs) (empty ∷ piles_of gs ess)))
else_tracks g gs below ess t o true h n c =
    subst (λ z. MayTrack z (Some (running (head Else t ∷ map head_of gs) (empty ∷ piles_of gs ess)))) (sym c.1) (opened_tracks Else t gs below c.0 ess h n)
else_tracks g gs below ess t o false h n c =
    subst (λ z. MayTrack z None) (sym c.1) tt

-- the result goes to the frame around
end_tracks : (g g2 : Frame) (gs : List Frame) (below : List Entry) (es2 : List Entry) (ess : List (List Entry)) (t : Option ValType) (o : Result Stack Why) (b : Bool)
    → Segments (g2 ∷ gs) below (es2 ∷ ess) → Nested (map head_of (g2 ∷ gs))
    → ClosesTo g (g2 ∷ gs) below (λ f z. Ok (give_to z.frames t z)) o b
    → MayTrack o (where_closed b (running (map head_of (g2 ∷ gs)) (push_types t (record { dead = g2.unreachable; entries = es2 }) ∷ piles_of gs ess)))
end_tracks g g2 gs below es2 ess t o true h n c =
    let p = push_all_at g2 gs h.0 (option_to_list t) es2 c.0 in
    let e : o ≡ Ok (stack_at g2 gs h.0 (map entry_of_type (reverse (option_to_list t)) ++ es2) p.0) =
    c.1 ∙ ap (λ z. Ok (push_all (option_to_list t) (bare_at (g2 ∷ gs) z c.0))) h.1 ∙ ap Ok p.1 in
    subst (λ z. MayTrack z (Some (running (map head_of (g2 ∷ gs)) (push_types t (record { dead = g2.unreachable; entries = es2 }) ∷ piles_of gs ess)))) (sym e)
    ((map entry_of_type (reverse (option_to_list t)) ++ es2) ∷ ess, (h.0, refl, h.2, h.3), refl, refl, n)
end_tracks g g2 gs below es2 ess t o false h n c = subst (λ z. MayTrack z None) (sym c.1) tt

pub else_step : (k : FrameKind) (t : Option ValType) (g : Frame) (gs : List Frame) (below es : List Entry) (ess : List (List Entry)) (m : ℕ)
    → g.floor ≡ length below → Segments gs below ess → Nested (head k t ∷ map head_of gs)
    → MayTrack (else_of k t (stack_at g gs below es m))
    (step_else (running (head k t ∷ map head_of gs) (record { dead = g.unreachable; entries = es } ∷ piles_of gs ess)))
else_step If t g gs below es ess m k h n =
    else_tracks g gs below ess t (else_of If t (stack_at g gs below es m)) (closes t (record { dead = g.unreachable; entries = es })) h n
    (closes_to g gs below es m t (λ f z. Ok (open_frame Else t z)) k)
else_step Func t g gs below es ess m k h n = tt
else_step Block t g gs below es ess m k h n = tt
else_step Loop t g gs below es ess m k h n = tt
else_step Else t g gs below es ess m k h n = tt

ended_tracks : (g : Frame) (o : Result Stack Why) (b : Bool) (t : Option ValType) (below : List Entry) → below ≡ []
    → ClosesTo g [] below (λ f z. Ok (give_to z.frames t z)) o b → MayTrack o (where_closed b ended)
ended_tracks g o true t below e c = subst (λ z. MayTrack z (Some ended)) (sym c.1) (refl, e)
ended_tracks g o false t below e c = subst (λ z. MayTrack z None) (sym c.1) tt

inner_end : (g g2 : Frame) (gs : List Frame) (below es : List Entry) (es2 : List Entry) (ess : List (List Entry)) (m : ℕ) (t : Option ValType) (b : Bool)
    → g.floor ≡ length below → Segments (g2 ∷ gs) below (es2 ∷ ess) → Nested (map head_of (g2 ∷ gs))
    → MayTrack (cond b (drive_close t (stack_at g (g2 ∷ gs) below es m) (λ f z. Ok (give_to z.frames t z))) (Err why.Mismatch))
    (cond b (where_closed (closes t (record { dead = g.unreachable; entries = es }))
    (running (map head_of (g2 ∷ gs)) (push_types t (record { dead = g2.unreachable; entries = es2 }) ∷ piles_of gs ess))) None)
inner_end g g2 gs below es es2 ess m t true k h n =
    end_tracks g g2 gs below es2 ess t (drive_close t (stack_at g (g2 ∷ gs) below es m) (λ f z. Ok (give_to z.frames t z)))
    (closes t (record { dead = g.unreachable; entries = es })) h n
    (closes_to g (g2 ∷ gs) below es m t (λ f z. Ok (give_to z.frames t z)) k)
inner_end g g2 gs below es es2 ess m t false k h n = tt

pub end_step : (k : FrameKind) (t : Option ValType) (g : Frame) (gs : List Frame) (below es : List Entry) (ess : List (List Entry)) (m : ℕ)
    → g.floor ≡ length below → Segments gs below ess → Nested (head k t ∷ map head_of gs)
    → MayTrack (end_of k t (stack_at g gs below es m))
    (end_frame k t (record { dead = g.unreachable; entries = es }) (map head_of gs) (piles_of gs ess))
end_step Func t g [] below es [] m k h n =
    ended_tracks g (end_of Func t (stack_at g [] below es m)) (closes t (record { dead = g.unreachable; entries = es })) t below h
    (closes_to g [] below es m t (λ f z. Ok (give_to z.frames t z)) k)
end_step Func t g [] below es (x ∷ ess) m k h n = absurd h
end_step Func t g (g2 ∷ gs) below es ess m k h n = cc
end_step Block t g (g2 ∷ gs) below es (es2 ∷ ess) m k h n = inner_end g g2 gs below es es2 ess m t true k h n
end_step Loop t g (g2 ∷ gs) below es (es2 ∷ ess) m k h n = inner_end g g2 gs below es es2 ess m t true k h n
end_step If t g (g2 ∷ gs) below es (es2 ∷ ess) m k h n = inner_end g g2 gs below es es2 ess m t (may_end If t) k h n
end_step Else t g (g2 ∷ gs) below es (es2 ∷ ess) m k h n = inner_end g g2 gs below es es2 ess m t true k h n
end_step Block t g [] below es ess m k h n = absurd n
end_step Loop t g [] below es ess m k h n = absurd n
end_step If t g [] below es ess m k h n = absurd n
end_step Else t g [] below es ess m k h n = absurd n
end_step kind t g (g2 ∷ gs) below es [] m k h n = absurd h

-- a condition is taken
pub condition_follows : (g : Frame) (gs : List Frame) (below es : List Entry) (m : ℕ) → g.floor ≡ length below
    → Follows g gs below (drive_count (stack_at g gs below es m)) (take_condition (record { dead = g.unreachable; entries = es }))
condition_follows g gs below es m k = drive_follows (fixed (I32 ∷ []) []) g gs below es m k

pub if_step : (t : Option ValType) (g : Frame) (gs : List Frame) (below es : List Entry) (ess : List (List Entry)) (r : Result Reach Why × Stack) (p : Option Pile)
    → g.floor ≡ length below → Segments gs below ess → Nested (map head_of (g ∷ gs))
    → Follows g gs below (after_call r (λ a z. Ok z)) p
    → MayTrack (after_call r (λ a z. Ok (open_frame If t z)))
    (with_pile p (λ f. running (head If t ∷ head_of g ∷ map head_of gs) (empty ∷ f ∷ piles_of gs ess)))
if_step t g gs below es ess (Ok a, s) (Some f) k h n d =
    subst (λ z. Tracks (open_frame If t z) (running (head If t ∷ head_of g ∷ map head_of gs) (empty ∷ f ∷ piles_of gs ess))) (sym d.1)
    ([] ∷ f.entries ∷ ess, (f.entries ++ below, refl, refl, (below, refl, k, h)), refl, refl, n)
if_step t g gs below es ess (Ok a, s) None k h n d = absurd d
if_step t g gs below es ess (Err why, s) None k h n d = tt
if_step t g gs below es ess (Err why, s) (Some f) k h n d = absurd d
