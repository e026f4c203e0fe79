-- The kinds of a body's open frames, op by op.
use Rattle.std.proofs.Common.{◌≡◌, Bool, true, false, cond, List, [], ◌∷◌, Option, Some, None, Result, Ok, Err, length, map, reverse, refl, sym, ◌∙◌, ap, subst, nat_le, nat_lt, option_to_list}
use Rattle.wm_syntax.specs.declared.types.ValType.{ValType}
use Rattle.wm_syntax.specs.declared.types.ValType.TheVariants.{I32}
use Rattle.wm_syntax.specs.declared.why.Why.{Why}
use Rattle.wm_syntax.specs.declared.why.Why.TheVariants as why
use Rattle.wm_stacks.specs.declared.stack_entries.Entry.{Entry}
use Rattle.wm_stacks.specs.declared.stack_entries.Entry.TheVariants.{Unknown}
use Rattle.wm_stacks.specs.declared.stack_entries.FrameKind.{FrameKind}
use Rattle.wm_stacks.specs.declared.stack_entries.Frame.{Frame}
use Rattle.wm_stacks.specs.declared.stack_entries.Reach.{Reach}
use Rattle.wm_stacks.specs.declared.stack_entries.Reach.TheVariants.{Whole, Floor}
use Rattle.wm_stacks.specs.Stack.{Stack, fits}
use Rattle.wm_stacks.specs.exact.Stacks.{push, at_floor, pop_to, takes, take_above, in_frame, take_one, any_above, take_any, goes_on, take_all, cut, cut_at, close, close_at, count_after_move}
use Rattle.wm_typing.specs.exact.OperandTypes.{join}
use Rattle.wm_typing.specs.exact.Effects.{Effect, fixed, indirect, is_polymorphic, drops, selects, ill}
use Rattle.wm_typing.specs.exact.Ops.{push_all, after_call, drive, push_joined, select_from, drive_close}

abbrev pub kinds : Stack → List FrameKind
kinds s = map (λ f. f.kind) s.frames

-- operands come and go, and the frames stay
floor_frames : {A : Type 0} (a : A) (b : Bool) (s : Stack) → (at_floor a b s).1.frames ≡ s.frames
floor_frames a true s = refl
floor_frames a false s = refl

takes_frames : (b : Bool) (es : List Entry) (s : Stack) → (takes b es s).1.frames ≡ s.frames
takes_frames true es s = refl
takes_frames false es s = refl

above_frames : (t : ValType) (f : Frame) (es : List Entry) (s : Stack) → (take_above t f es s).1.frames ≡ s.frames
above_frames t f [] s = floor_frames Floor f.unreachable s
above_frames t f (e ∷ es) s = go (nat_le f.floor (length es))
  where
    go : (b : Bool) → (cond b (takes (fits e t) es s) (at_floor Floor f.unreachable s)).1.frames ≡ s.frames
    go true = takes_frames (fits e t) es s
    go false = floor_frames Floor f.unreachable s

one_frames : (t : ValType) (s : Stack) → (take_one t s).1.frames ≡ s.frames
one_frames t s = go s.frames refl
  where
    go : (fs : List Frame) → s.frames ≡ fs → (in_frame fs (λ f. take_above t f s.operands s) s).1.frames ≡ s.frames
    go [] e = refl
    go (f ∷ fs) e = above_frames t f s.operands s

any_frames : (s : Stack) → (take_any s).1.frames ≡ s.frames
any_frames s = go s.frames
  where
    above : (f : Frame) (es : List Entry) → (any_above f es s).1.frames ≡ s.frames
    above f [] = floor_frames Unknown f.unreachable s
    above f (e ∷ es) = test (nat_le f.floor (length es))
      where
        test : (b : Bool) → (cond b (Ok e, pop_to es s) (at_floor Unknown f.unreachable s)).1.frames ≡ s.frames
        test true = refl
        test false = floor_frames Unknown f.unreachable s

    go : (fs : List Frame) → (in_frame fs (λ f. any_above f s.operands s) s).1.frames ≡ s.frames
    go [] = refl
    go (f ∷ fs) = above f s.operands

on_frames : (r : Result Reach Why × Stack) (k : Stack → Result Reach Why × Stack) (s : Stack) → r.1.frames ≡ s.frames → ((z : Stack) → (k z).1.frames ≡ z.frames) → (goes_on r k).1.frames ≡ s.frames
on_frames (Ok Whole, z) k s e h = h z ∙ e
on_frames (Ok Floor, z) k s e h = e
on_frames (Err w, z) k s e h = e

pub all_frames : (ts : List ValType) (s : Stack) → (take_all ts s).1.frames ≡ s.frames
all_frames [] s = refl
all_frames (t ∷ ts) s = on_frames (take_one t s) (take_all ts) s (one_frames t s) (all_frames ts)

pub push_frames : (ts : List ValType) (s : Stack) → (push_all ts s).frames ≡ s.frames
push_frames [] s = refl
push_frames (t ∷ ts) s = push_frames ts _

cut_kinds : (s : Stack) → kinds (cut s) ≡ kinds s
cut_kinds s = go s.frames refl
  where
    go : (fs : List Frame) → s.frames ≡ fs → kinds (cut_at fs s) ≡ kinds s
    go [] e = refl
    go (f ∷ fs) e = ap (map (λ f. f.kind)) (sym e)

-- what goes on from a call that was not refused
pub after_ok : {A : Type 0} (r : Result A Why × Stack) (k : A → Stack → Result Stack Why) (z : Stack) → after_call r k ≡ Ok z → (a : A) × (k a r.1 ≡ Ok z)
after_ok (Ok a, s) k z e = (a, e)
after_ok (Err w, s) k z e = absurd (cc)

by_frames : (s z : Stack) → z.frames ≡ s.frames → kinds z ≡ kinds s
by_frames s z e = ap (map (λ f. f.kind)) e

ok_frames : (y z s : Stack) (r : Result Stack Why) → r ≡ Ok z → r ≡ Ok y → y.frames ≡ s.frames → z.frames ≡ s.frames
ok_frames y z s (Ok x) e k h = let q : y ≡ z = cc (e, k) in ap (λ (w : Stack). w.frames) (sym q) ∙ h
ok_frames y z s (Err w) e k h = absurd (cc (e))

fixed_frames : (p q : List ValType) (s z : Stack) → drive (fixed p q) s ≡ Ok z → z.frames ≡ s.frames
fixed_frames p q s z e =
    let r = after_ok (take_all (reverse p) s) (λ r z. Ok (push_all q z)) z e in
    ok_frames (push_all q (take_all (reverse p) s).1) z s (Ok (push_all q (take_all (reverse p) s).1)) r.1 refl (push_frames q (take_all (reverse p) s).1 ∙ all_frames (reverse p) s)

joined_frames : (o : Option Entry) (s z : Stack) → push_joined o s ≡ Ok z → z.frames ≡ s.frames
joined_frames None s z e = absurd (cc)
joined_frames (Some x) s z e = ok_frames (push x s) z s (Ok (push x s)) e refl refl

select_frames : (r : Reach) (s z : Stack) → select_from r s ≡ Ok z → z.frames ≡ s.frames
select_frames Floor s z e = ok_frames (push Unknown s) z s (Ok (push Unknown s)) e refl refl
select_frames Whole s z e =
    let a = after_ok (take_any s) (λ a z. after_call (take_any z) (λ b y. push_joined (join a b) y)) z e in
    let b = after_ok (take_any (take_any s).1) (λ b y. push_joined (join a.0 b) y) z a.1 in
    joined_frames (join a.0 b.0) (take_any (take_any s).1).1 z b.1 ∙ any_frames (take_any s).1 ∙ any_frames s

pub drive_kinds : (sh : Effect) (s z : Stack) → drive sh s ≡ Ok z → kinds z ≡ kinds s
drive_kinds (fixed p q) s z e = by_frames s z (fixed_frames p q s z e)
drive_kinds (indirect p q) s z e =
    let r = after_ok (take_all (I32 ∷ []) s) (λ r z. drive (fixed p q) z) z e in
    by_frames s z (fixed_frames p q (take_all (I32 ∷ []) s).1 z r.1 ∙ all_frames (I32 ∷ []) s)
drive_kinds (is_polymorphic p) s z e =
    let r = after_ok (take_all (reverse p) s) (λ r z. Ok (cut z)) z e in
    let q : cut (take_all (reverse p) s).1 ≡ z = cc (r.1) in
    ap kinds (sym q) ∙ cut_kinds (take_all (reverse p) s).1 ∙ by_frames s (take_all (reverse p) s).1 (all_frames (reverse p) s)
drive_kinds drops s z e =
    let r = after_ok (take_any s) (λ e z. Ok z) z e in
    let q : (take_any s).1 ≡ z = cc (r.1) in
    by_frames s z (ap (λ (w : Stack). w.frames) (sym q) ∙ any_frames s)
drive_kinds selects s z e =
    let r = after_ok (take_all (I32 ∷ []) s) select_from z e in
    by_frames s z (select_frames r.0 (take_all (I32 ∷ []) s).1 z r.1 ∙ all_frames (I32 ∷ []) s)
drive_kinds (ill w) s z e = absurd (cc)

-- the frame that is closed is the innermost
close_kinds : (s : Stack) (k : Frame → Stack → Result Stack Why) (z : Stack) (f : Frame) (fs : List Frame) → s.frames ≡ f ∷ fs → after_call (close s) k ≡ Ok z
    → (y : Stack) × (y.frames ≡ fs) × (g : Frame) × (k g y ≡ Ok z)
close_kinds s k z f fs is e = go (nat_lt f.floor (length s.operands)) (subst (λ gs. after_call (close_at gs s) k ≡ Ok z) is e)
  where
    go : (b : Bool) → after_call (cond b (Err why.Arity, s) (Ok f, record s { frames = fs; moves = count_after_move s.moves })) k ≡ Ok z → (y : Stack) × (y.frames ≡ fs) × (g : Frame) × (k g y ≡ Ok z)
    go true e = absurd (cc)
    go false e = (record s { frames = fs; moves = count_after_move s.moves }, refl, f, e)

pub drive_close_kinds : (t : Option ValType) (s : Stack) (k : Frame → Stack → Result Stack Why) (z : Stack) (f : Frame) (fs : List Frame) → s.frames ≡ f ∷ fs → drive_close t s k ≡ Ok z
    → (y : Stack) × (y.frames ≡ fs) × (g : Frame) × (k g y ≡ Ok z)
drive_close_kinds t s k z f fs is e =
    let r = after_ok (take_all (reverse (option_to_list t)) s) (λ r z. after_call (close z) k) z e in
    close_kinds (take_all (reverse (option_to_list t)) s).1 k z f fs (all_frames (reverse (option_to_list t)) s ∙ is) r.1
