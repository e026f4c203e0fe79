-- The stacks after one more op.
use Rattle.std.proofs.Common.{◌≡◌, ◌<◌, List, [], ◌∷◌, ◌++◌, Option, Some, None, Ok, Err, map, length, option_to_list, sym, refl, ap, ◌∙◌, subst, arith}
use Rattle.std.proofs.lemmas.List.{append_cancel_right, length-map}
use Rattle.wm_syntax.specs.declared.types.ValType.{ValType}
use Rattle.wm_syntax.specs.declared.why.Why.{Why}
use Rattle.wm_syntax.specs.declared.instructions.Op.{Op}
use Rattle.wm_syntax.specs.declared.instructions.Op.TheVariants as op
use Rattle.wm_syntax.specs.Instructions.{Instructions, HasOps}
use Rattle.wm_stacks.specs.declared.stack_entries.FrameKind.TheVariants.{Func}
use Rattle.wm_stacks.specs.declared.stack_entries.Frame.{Frame}
use Rattle.wm_stacks.specs.Stack.{Stack, bare}
use Rattle.wm_stacks.specs.exact.Stacks.{open_frame}
use Rattle.wm_typing.specs.declared.labels.BrTable.{BrTable}
use Rattle.wm_typing.specs.Typing.{Context, Typed}
use Rattle.wm_typing.specs.OpenLists.{head, head_of, Place, open_at, within, complete, at, CanType, IsOpen, IsSoFar, levels}
use Rattle.wm_typing.specs.exact.Ops.{drive_op}
use Rattle.wm_typing.specs.inner.Frames.{Frames, running, in_table, ended, AllMeet, Holds, piles_of, Nested, TracksWith}
use Rattle.wm_typing.specs.TypedBodies.{HasBodyOps, IsTypedBody, HaveTyping, FramesDenote}
use Rattle.wm_typing.specs.inner.Checking.{Keeps}
use Rattle.wm_typing.proofs.BodyOps.{step, start}
use Rattle.wm_typing.proofs.OpenListOps.{place_after, place_on}
use Rattle.wm_typing.proofs.OneOp.{Verdict, step_verdict, CanBack, holds_can}
use Rattle.wm_typing.proofs.WholeBodies.{MaySoFar, place_more, so_far_on, place_of, place_on_more, from_body, can_back_on, first_holds, flat_unique}
use Rattle.wm_typing.proofs.DenotedTypes.{denote_all}
use Rattle.wm_typing.proofs.OpsOnFrames.{MayTrackWith, op_tracks}

nested_some : (fs : List Frame) → fs ≡ [] → Nested (map head_of fs) → ⊥
nested_some [] e n = n
nested_some (f ∷ fs) e n = cc

place_on_nil : (o : Option Place) → place_on o [] ≡ o
place_on_nil None = refl
place_on_nil (Some p) = refl

-- an op that was taken, on the open lists
taken : (c : Context) (x : Op) (ops : List Op) (q : Option Place) (st : Frames) → MaySoFar c.result q (ops ++ x ∷ []) → Verdict c q (Some st)
    → (p : Place) × IsSoFar c.result p (ops ++ x ∷ []) × Holds c p st
taken c x ops None st m v = absurd v
taken c x ops (Some q) st m v = (q, m, v)

-- the frames after an op that was taken
pub next : (c : Context) (x : Op) (ops : List Op) (t u : Option BrTable) (s z : Stack) → 0 < length s.frames → Keeps c ops t s
    → drive_op c x t s ≡ Ok (record { stacks = z; table = u }) → Keeps c (ops ++ x ∷ []) u z
next c x ops t u s z l a e =
    go (step c (a.frames) x) (subst (λ k. MayTrackWith k (step c (a.frames) x)) e (op_tracks c x t s (a.frames) l (a.goes)))
    (step_verdict c x (a.place) (a.frames) (a.holds))
  where
    go : (o : Option Frames) → MayTrackWith (Ok (record { stacks = z; table = u })) o → Verdict c (place_after (a.place) x) o → Keeps c (ops ++ x ∷ []) u z
    go None m v = absurd m
    go (Some st) m v =
        let r = taken c x ops (place_after (a.place) x) st (place_more c.result x (a.place) ops (a.so_far)) v in
        record { frames = st; place = r.0; so_far = r.1; holds = r.2; goes = m }

-- where the ops so far stand, and one more
pub one_more : (r : Option ValType) (p q : Place) (ops : List Op) (x : Op) → IsSoFar r p ops → IsSoFar r q (ops ++ x ∷ []) → place_after p x ≡ Some q
one_more r p q ops x a b =
    sym (place_on_nil (place_after p x)) ∙ ap (λ z. place_on z (x ∷ [])) (sym (place_of r p ops a)) ∙ sym (place_on_more (Some (from_body r)) ops (x ∷ [])) ∙ place_of r q (ops ++ x ∷ []) b

-- an op that was refused
pub refused : (c : Context) (x : Op) (ops : List Op) (t : Option BrTable) (s : Stack) (w : Why) → 0 < length s.frames → Keeps c ops t s
    → drive_op c x t s ≡ Err w → HaveTyping c (ops ++ x ∷ []) → ⊥
refused c x ops t s w l a e h =
    go (step c (a.frames) x) (subst (λ k. MayTrackWith k (step c (a.frames) x)) e (op_tracks c x t s (a.frames) l (a.goes)))
    (subst (λ k. Verdict c k (step c (a.frames) x)) (one_more c.result (a.place) h.0 ops x (a.so_far) h.1) (step_verdict c x (a.place) (a.frames) (a.holds)))
  where
    go : (o : Option Frames) → MayTrackWith (Err w) o → Verdict c (Some h.0) o → ⊥
    go None m v = v h.2
    go (Some st) m v = m

pub can_be_typed : (c : Context) (ops : List Op) (t : Option BrTable) (s : Stack) → Keeps c ops t s → HaveTyping c ops
can_be_typed c ops t s a = (a.place, a.so_far, holds_can c a.place a.frames a.holds)

-- inside of a body
pub denoted : (c : Context) (ops : List Op) (t : Option BrTable) (s : Stack) → Keeps c ops t s → 0 < length s.frames → FramesDenote c ops t s
denoted c ops t s a l = go t a.frames a.place a.so_far a.holds a.goes
  where
    go : (t : Option BrTable) (st : Frames) (p : Place) → IsSoFar c.result p ops → Holds c p st → TracksWith t s st → FramesDenote c ops t s
    go (Some t) ended p k h m = absurd m
    go (Some t) (running hs fs) p k h m = absurd m
    go (Some t) (in_table i seen hs fs) (open_at gs ws) k h m = absurd h
    go (Some t) (in_table i seen hs fs) (within n before gs ws) k h m = (n, before, gs, ws, k)
    go (Some t) (in_table i seen hs fs) (complete r b) k h m = absurd h
    go None ended p k h m = absurd (let z : length s.frames ≡ 0 = ap length m.0 in omega (arith, l, z))
    go None (in_table i seen hs fs) p k h m = absurd m
    go None (running hs fs) (open_at gs ws) k h m = (
      ws,
      subst (λ z. IsOpen c.result z ws ops) (h.0 ∙ m.2) k,
      denote_all c [] s.frames s.operands m.0 ws m.1
          (subst (λ z. AllMeet c [] z ws (piles_of s.frames m.0)) (h.0 ∙ m.2) (subst (λ z. AllMeet c [] gs ws z) m.3 h.1)),
    )
    go None (running hs fs) (within i seen gs ws) k h m = absurd h
    go None (running hs fs) (complete r b) k h m = absurd h

-- at the end of a body
pub typed_body : (c : Context) (ops : List Op) (b : Instructions) → HasBodyOps b ops → Typed (at c (head Func c.result ∷ [])) b [] (option_to_list c.result)
    → c.labels ≡ c.result ∷ [] → IsTypedBody c ops
typed_body c ops b h t e = record {
  body = b;
  flat = h;
  only = λ other k. flat_unique other b k.0 k.1 (subst (λ z. HasOps b z) (last_same h.0 k.0 (sym h.2 ∙ k.2)) h.1);
  typed = subst (λ z. Typed (record c { labels = z }) b [] (option_to_list c.result)) (sym e) t;
}
  where
    last_same : (xs ys : List Op) → xs ++ op.End ∷ [] ≡ ys ++ op.End ∷ [] → xs ≡ ys
    last_same xs ys e = append_cancel_right xs ys (op.End ∷ []) e

pub typed_at : (c : Context) (ops : List Op) (t : Option BrTable) (s : Stack) → Keeps c ops t s → s.frames ≡ [] → c.labels ≡ c.result ∷ [] → IsTypedBody c ops
typed_at c ops t s a n e = go t a.frames a.place a.so_far a.holds a.goes
  where
    go : (t : Option BrTable) (st : Frames) (p : Place) → IsSoFar c.result p ops → Holds c p st → TracksWith t s st → IsTypedBody c ops
    go None ended (complete r b) k h m = typed_body c ops b k.1 (subst (λ z. CanType c (complete z b)) k.0 h) e
    go None ended (open_at gs ws) k h m = absurd h
    go None ended (within i seen gs ws) k h m = absurd h
    go None (running hs fs) p k h m = absurd (nested_some s.frames n m.4)
    go None (in_table i seen hs fs) p k h m = absurd m
    go (Some t) (in_table i seen hs fs) p k h m = absurd (nested_some s.frames n m.2.4)
    go (Some t) (running hs fs) p k h m = absurd m
    go (Some t) ended p k h m = absurd m

-- the place of a typed body's ops
pub typed_place : (c : Context) (ops : List Op) → c.labels ≡ c.result ∷ [] → (h : IsTypedBody c ops)
    → (place_on (Some (from_body (c.result))) ops ≡ Some (complete (c.result) h.body)) × CanType c (complete (c.result) h.body)
typed_place c ops e h =
    (place_of (c.result) (complete (c.result) (h.body)) ops (refl, h.flat), subst (λ z. Typed (record c { labels = z }) h.body [] (option_to_list c.result)) e h.typed)

-- it has not ended before
pub unfinished : (c : Context) (ops : List Op) (t : Option BrTable) (s : Stack) → Keeps c ops t s → 0 < length s.frames → c.labels ≡ c.result ∷ [] → IsTypedBody c ops → ⊥
unfinished c ops t s a l e h =
    let k = typed_place c ops e h in
    go t (a.frames) (a.place) (a.goes) (a.holds) (sym (place_of c.result (a.place) ops (a.so_far)) ∙ k.0)
  where
    go : (t : Option BrTable) (st : Frames) (p : Place) → TracksWith t s st → Holds c p st → Some p ≡ Some (complete (c.result) h.body) → ⊥
    go None ended p m k e = let z : length s.frames ≡ 0 = ap length m.0 in omega (arith, z, l)
    go None (running hs fs) (open_at gs ws) m k e = cc
    go None (running hs fs) (within i seen gs ws) m k e = k
    go None (running hs fs) (complete r b) m k e = k
    go None (in_table n j hs fs) p m k e = m
    go (Some u) (in_table n j hs fs) (open_at gs ws) m k e = k
    go (Some u) (in_table n j hs fs) (within i seen gs ws) m k e = cc
    go (Some u) (in_table n j hs fs) (complete r b) m k e = k
    go (Some u) (running hs fs) p m k e = m
    go (Some u) ended p m k e = m

-- a body that has just begun
pub first_kept : (c : Context) → Keeps c [] None (open_frame Func (c.result) bare)
first_kept c = record {
  frames = start c;
  place = from_body (c.result);
  so_far = (refl, refl, refl);
  holds = first_holds c;
  goes = ([] ∷ [], ([], refl, refl, refl), refl, refl, refl);
}

none_on : (ys : List Op) → place_on None ys ≡ None
none_on [] = refl
none_on (y ∷ ys) = refl

-- a front of ops that have a typing has one
pub front_typed : (c : Context) (xs ys : List Op) → HaveTyping c (xs ++ ys) → HaveTyping c xs
front_typed c xs ys h =
    go (place_on (Some (from_body (c.result))) xs) (so_far_on (c.result) xs (Some (from_body (c.result))) [] (refl, refl, refl))
    (sym (place_on_more (Some (from_body (c.result))) xs ys) ∙ place_of c.result h.0 (xs ++ ys) h.1)
  where
    go : (o : Option Place) → MaySoFar c.result o xs → place_on o ys ≡ Some h.0 → HaveTyping c xs
    go None m e = let z = none_on ys in cc
    go (Some p) m e = (p, m, subst (λ z. CanBack c p z) e (can_back_on c p ys) h.2)

-- a typed body's ops have a typing
pub body_can : (c : Context) (ops : List Op) → c.labels ≡ c.result ∷ [] → IsTypedBody c ops → HaveTyping c ops
body_can c ops e h = (complete c.result h.body, (refl, h.flat), (typed_place c ops e h).1)

-- where no frame is open, no operand stands
pub no_operands : (c : Context) (ops : List Op) (t : Option BrTable) (s : Stack) → Keeps c ops t s → s.frames ≡ [] → s.operands ≡ []
no_operands c ops t s a n = go t a.frames a.goes
  where
    go : (t : Option BrTable) (st : Frames) → TracksWith t s st → s.operands ≡ []
    go None ended m = m.1
    go None (running hs fs) m = absurd (nested_some s.frames n m.4)
    go None (in_table i seen hs fs) m = absurd m
    go (Some t) (in_table i seen hs fs) m = absurd (nested_some s.frames n m.2.4)
    go (Some t) (running hs fs) m = absurd m
    go (Some t) ended m = absurd m

-- Before the first op nothing depends on the context.
pub from_start : (c : Context) (t : Option BrTable) (s : Stack) (a : Keeps c [] t s) → a.place ≡ from_body c.result
from_start c t s a = let e = place_of c.result a.place [] a.so_far in cc

rehold : (c d : Context) (r : Option ValType) (st : Frames) → Holds c (from_body r) st → Holds d (from_body r) st
rehold c d r (running gs (f ∷ [])) h = h
rehold c d r (running gs []) h = absurd h.1
rehold c d r (running gs (f ∷ g ∷ fs)) h = absurd h.1.1
rehold c d r (in_table n t gs fs) h = absurd h
rehold c d r ended h = absurd h

pub rekept : (c d : Context) (t : Option BrTable) (s : Stack) → c.result ≡ d.result → Keeps c [] t s → Keeps d [] t s
rekept c d t s e a = record {
  frames = a.frames;
  place = from_body c.result;
  so_far = (e, refl, refl);
  holds = rehold c d c.result a.frames (subst (λ z. Holds c z a.frames) (from_start c t s a) a.holds);
  goes = a.goes;
}

some_frame : (fs : List Frame) → Nested (map head_of fs) → 0 < length fs
some_frame [] n = absurd n
some_frame (f ∷ fs) n = omega arith

pub begun_open : (c : Context) (t : Option BrTable) (s : Stack) → Keeps c [] t s → 0 < length s.frames
begun_open c t s a = go t a.frames a.goes (subst (λ z. Holds c z a.frames) (from_start c t s a) a.holds)
  where
    go : (t : Option BrTable) (st : Frames) → TracksWith t s st → Holds c (from_body c.result) st → 0 < length s.frames
    go None (running hs fs) m h = some_frame s.frames m.4
    go None ended m h = absurd h
    go None (in_table i seen hs fs) m h = absurd m
    go (Some t) (in_table i seen hs fs) m h = absurd h
    go (Some t) (running hs fs) m h = absurd m
    go (Some t) ended m h = absurd m

-- a list is open for each frame
pub levels_are : (c : Context) (ops : List Op) (t : Option BrTable) (s : Stack) (a : Keeps c ops t s) → levels a.place ≡ length s.frames
levels_are c ops t s a = go t a.frames a.place a.holds a.goes
  where
    go : (t : Option BrTable) (st : Frames) (p : Place) → Holds c p st → TracksWith t s st → levels p ≡ length s.frames
    go None (running hs fs) (open_at gs ws) h m = ap length (h.0 ∙ m.2) ∙ length-map s.frames head_of
    go None (running hs fs) (within n seen gs ws) h m = absurd h
    go None (running hs fs) (complete r b) h m = absurd h
    go None ended (complete r b) h m = sym (ap length m.0)
    go None ended (open_at gs ws) h m = absurd h
    go None ended (within n seen gs ws) h m = absurd h
    go None (in_table i seen hs fs) p h m = absurd m
    go (Some t) (in_table i known hs fs) (within n seen gs ws) h m = ap length (h.1 ∙ m.2.2) ∙ length-map s.frames head_of
    go (Some t) (in_table i known hs fs) (open_at gs ws) h m = absurd h
    go (Some t) (in_table i known hs fs) (complete r b) h m = absurd h
    go (Some t) (running hs fs) p h m = absurd m
    go (Some t) ended p h m = absurd m

-- the ops of a body are at its end
pub at_end : (c : Context) (ops : List Op) (t : Option BrTable) (s : Stack) (a : Keeps c ops t s) (b : Instructions) → HasBodyOps b ops → a.place ≡ complete c.result b
at_end c ops t s a b h =
    let e : ◌≡◌ {A = Option Place} (Some a.place) (Some (complete c.result b)) = sym (place_of c.result a.place ops a.so_far) ∙ place_of c.result (complete c.result b) ops (refl, h) in cc

pub refused_on : (c : Context) (xs ys : List Op) → c.labels ≡ c.result ∷ [] → (HaveTyping c xs → ⊥) → IsTypedBody c (xs ++ ys) → ⊥
refused_on c xs ys e h t = h (front_typed c xs ys (body_can c (xs ++ ys) e t))

over_one : (r : Option ValType) (b : Instructions) (y : Op) → place_after (complete r b) y ≡ None
over_one r b (op.Simple p) = refl
over_one r b (op.Block t) = refl
over_one r b (op.Loop t) = refl
over_one r b (op.If t) = refl
over_one r b op.Else = refl
over_one r b op.End = refl
over_one r b (op.BrTable n) = refl
over_one r b (op.Label l) = refl

-- no op comes after the end
pub ended_none : (c : Context) (xs ys : List Op) (y : Op) → c.labels ≡ c.result ∷ [] → IsTypedBody c xs → HaveTyping c (xs ++ y ∷ ys) → ⊥
ended_none c xs ys y e h t =
    let a = (typed_place c xs e h).0 in
    let b = place_of c.result t.0 (xs ++ y ∷ ys) t.1 in
    let k = sym (place_on_more (Some (from_body (c.result))) xs (y ∷ ys)) ∙ b in
    let f = ap (λ z. place_on z (y ∷ ys)) a in
    let g = ap (λ z. place_on z ys) (over_one c.result h.body y) in
    let n = none_on ys in
    cc
