-- A body builder takes every op that the check of a body takes.
use Rattle.std.proofs.Common.{◌≡◌, ℕ, zero, suc, ◌-◌, Bool, true, false, cond, List, [], ◌∷◌, ◌++◌, Option, Some, None, Result, Ok, Err, map, refl, sym, ◌∙◌, ap, subst, inl, inr, ◌⊎◌, nat_eq, arith, slice_get, option_to_list}
use Rattle.std.proofs.lemmas.Bool.Decides.{nat_tests}
use Rattle.wm_syntax.specs.declared.types.ValType.{ValType}
use Rattle.wm_syntax.specs.declared.types.ValType.TheVariants.{I32}
use Rattle.wm_syntax.specs.declared.why.Why.{Why}
use Rattle.wm_syntax.specs.declared.why.Why.TheVariants as why
use Rattle.wm_syntax.specs.declared.instructions.Op.{Op}
use Rattle.wm_syntax.specs.declared.instructions.Op.TheVariants as op
use Rattle.wm_syntax.specs.Instructions.{Instructions, none, snoc, simple, table, block, loop, choice}
use Rattle.wm_stacks.specs.declared.stack_entries.FrameKind.{FrameKind}
use Rattle.wm_stacks.specs.declared.stack_entries.FrameKind.TheVariants.{Func, Block, Loop, If, Else}
use Rattle.wm_stacks.specs.declared.stack_entries.Frame.{Frame}
use Rattle.wm_stacks.specs.Stack.{Stack}
use Rattle.wm_stacks.specs.exact.Stacks.{open_frame, take_all}
use Rattle.wm_typing.specs.declared.labels.BrTable.{BrTable}
use Rattle.wm_typing.specs.Typing.{Context}
use Rattle.wm_typing.specs.exact.Effects.{effect_of, is_polymorphic}
use Rattle.wm_typing.specs.exact.Ops.{drive, drive_close, drive_if, drive_count, else_of, drive_else, may_end, give_to, end_of, drive_end, drive_diverges, drive_known, drive_label, goes_with, labels_of, within_frames, with_table, drive_op, step}
use Rattle.wm_typing.specs.Bodies.{BodyState}
use Rattle.wm_syntax.specs.inner.Building.{Open, in_block, in_loop, in_first, in_second, Place, at, labels, divided, placed}
use Rattle.wm_rules.proofs.FrameKinds.{kinds, drive_kinds, drive_close_kinds, after_ok, all_frames, push_frames}

abbrev pub kind_in : Open → FrameKind
kind_in (in_block t s) = Block
kind_in (in_loop t s) = Loop
kind_in (in_first t s) = If
kind_in (in_second t s f) = Else

-- what opened the frames at a place, the innermost first
abbrev pub kinds_in : List Open → List FrameKind
kinds_in [] = Func ∷ []
kinds_in (o ∷ outer) = kind_in o ∷ kinds_in outer

abbrev pub SamePlace : BodyState → Place → Type 0
SamePlace s (at outer t) = (s.table ≡ None) × (kinds s.stacks ≡ kinds_in outer)
SamePlace s (labels outer t seen n) = (u : Option (Option ValType)) × (s.table ≡ Some (record { left = n; seen = u })) × (kinds s.stacks ≡ kinds_in outer)

-- the op stands there too, or it is the end of the body
abbrev pub Follows : Place → Op → BodyState → Type 0
Follows p x s =
    ((q : Place) × (placed p x ≡ Some q) × SamePlace s q)
    ⊎ ((t : Instructions) × (x ≡ op.End) × (p ≡ at [] t) × (s.stacks.frames ≡ []))

table_ok : (t : Option BrTable) (r : Result Stack Why) (s : BodyState) → with_table t r ≡ Ok s → (z : Stack) × (r ≡ Ok z) × (s ≡ record { stacks = z; table = t })
table_ok t (Ok z) s e = (z, refl, cc)
table_ok t (Err w) s e = absurd (cc)

-- so placed, with these frames
to_place : (s : BodyState) (z : Stack) (outer : List Open) (t : Instructions) → s ≡ record { stacks = z; table = None } → kinds z ≡ kinds_in outer → SamePlace s (at outer t)
to_place s z outer t e k = (ap (λ (y : BodyState). y.table) e, ap (λ (y : BodyState). kinds y.stacks) e ∙ k)

if_kinds : (t : Option ValType) (s z : Stack) → drive_if t s ≡ Ok z → kinds z ≡ If ∷ kinds s
if_kinds t s z e =
    let r = after_ok (take_all (I32 ∷ []) s) (λ r z. Ok (open_frame If t z)) z e in
    let q : open_frame If t (take_all (I32 ∷ []) s).1 ≡ z = cc (r.1) in
    ap kinds (sym q) ∙ ap (λ (fs : List Frame). If ∷ map (λ f. f.kind) fs) (all_frames (I32 ∷ []) s)

count_kinds : (s z : Stack) → drive_count s ≡ Ok z → kinds z ≡ kinds s
count_kinds s z e =
    let r = after_ok (take_all (I32 ∷ []) s) (λ r z. Ok z) z e in
    let q : (take_all (I32 ∷ []) s).1 ≡ z = cc (r.1) in
    ap kinds (sym q) ∙ ap (λ (fs : List Frame). map (λ f. f.kind) fs) (all_frames (I32 ∷ []) s)

pub first_is : (s : Stack) (k : FrameKind) (ks : List FrameKind) → kinds s ≡ k ∷ ks → (f : Frame) × (fs : List Frame) × (s.frames ≡ f ∷ fs) × (f.kind ≡ k) × (map (λ f. f.kind) fs ≡ ks)
first_is s k ks e = go s.frames e
  where
    go : (gs : List Frame) → map (λ f. f.kind) gs ≡ k ∷ ks → (f : Frame) × (fs : List Frame) × (gs ≡ f ∷ fs) × (f.kind ≡ k) × (map (λ f. f.kind) fs ≡ ks)
    go [] e = absurd (cc (e))
    go (f ∷ fs) e = (f, fs, refl, cc (e), cc (e))

else_kinds : (outer : List Open) (t : Instructions) (s z : Stack) → kinds s ≡ kinds_in outer → drive_else s.frames s ≡ Ok z → (q : Place) × (divided outer t ≡ Some q) × (q0 : List Open) × (q ≡ at q0 none) × (kinds z ≡ kinds_in q0)
else_kinds [] t s z k e = let f = first_is s Func [] k in absurd (no f.0 (subst (λ gs. drive_else gs s ≡ Ok z) f.2 e) f.3)
  where
    no : (f : Frame) → else_of f.kind f.result s ≡ Ok z → f.kind ≡ Func → ⊥
    no f e i = let d : else_of Func f.result s ≡ Ok z = subst (λ (k : FrameKind). else_of k f.result s ≡ Ok z) i e in cc (d)
else_kinds (in_block b before ∷ outer) t s z k e = let f = first_is s Block (kinds_in outer) k in absurd (no f.0 (subst (λ gs. drive_else gs s ≡ Ok z) f.2 e) f.3)
  where
    no : (f : Frame) → else_of f.kind f.result s ≡ Ok z → f.kind ≡ Block → ⊥
    no f e i = let d : else_of Block f.result s ≡ Ok z = subst (λ (k : FrameKind). else_of k f.result s ≡ Ok z) i e in cc (d)
else_kinds (in_loop b before ∷ outer) t s z k e = let f = first_is s Loop (kinds_in outer) k in absurd (no f.0 (subst (λ gs. drive_else gs s ≡ Ok z) f.2 e) f.3)
  where
    no : (f : Frame) → else_of f.kind f.result s ≡ Ok z → f.kind ≡ Loop → ⊥
    no f e i = let d : else_of Loop f.result s ≡ Ok z = subst (λ (k : FrameKind). else_of k f.result s ≡ Ok z) i e in cc (d)
else_kinds (in_second b before first ∷ outer) t s z k e = let f = first_is s Else (kinds_in outer) k in absurd (no f.0 (subst (λ gs. drive_else gs s ≡ Ok z) f.2 e) f.3)
  where
    no : (f : Frame) → else_of f.kind f.result s ≡ Ok z → f.kind ≡ Else → ⊥
    no f e i = let d : else_of Else f.result s ≡ Ok z = subst (λ (k : FrameKind). else_of k f.result s ≡ Ok z) i e in cc (d)
else_kinds (in_first b before ∷ outer) t s z k e =
    let f = first_is s If (kinds_in outer) k in
    let d : else_of If f.0.result s ≡ Ok z = subst (λ (k : FrameKind). else_of k f.0.result s ≡ Ok z) f.3 (subst (λ gs. drive_else gs s ≡ Ok z) f.2 e) in
    let c = drive_close_kinds f.0.result s (λ g y. Ok (open_frame Else f.0.result y)) z f.0 f.1 f.2 d in
    let q : open_frame Else f.0.result c.0 ≡ z = cc (c.3) in
    (at (in_second b before t ∷ outer) none, refl, in_second b before t ∷ outer, refl, ap kinds (sym q) ∙ ap (λ (fs : List Frame). Else ∷ map (λ f. f.kind) fs) c.1 ∙ ap (λ (ks : List FrameKind). Else ∷ ks) f.4)

given : (gs : List Frame) (t : Option ValType) (y : Stack) → (give_to gs t y).frames ≡ y.frames
given [] t y = refl
given (g ∷ gs) t y = push_frames (option_to_list t) y

ended_frames : (k : FrameKind) (t : Option ValType) (s z : Stack) (f : Frame) (fs : List Frame) → s.frames ≡ f ∷ fs → end_of k t s ≡ Ok z → z.frames ≡ fs
ended_frames k t s z f fs is e = go (may_end k t) e
  where
    go : (b : Bool) → cond b (drive_close t s (λ f z. Ok (give_to z.frames t z))) (Err why.Mismatch) ≡ Ok z → z.frames ≡ fs
    go true e =
        let c = drive_close_kinds t s (λ f z. Ok (give_to z.frames t z)) z f fs is e in
        let q : give_to c.0.frames t c.0 ≡ z = cc (c.3) in
        ap (λ (y : Stack). y.frames) (sym q) ∙ given c.0.frames t c.0 ∙ c.1
    go false e = absurd (cc (e))

end_frames : (s z : Stack) (f : Frame) (fs : List Frame) → s.frames ≡ f ∷ fs → drive_end s.frames s ≡ Ok z → z.frames ≡ fs
end_frames s z f fs is e = ended_frames f.kind f.result s z f fs is (subst (λ gs. drive_end gs s ≡ Ok z) is e)

end_follows : (outer : List Open) (t : Instructions) (s z : Stack) (st : BodyState) → kinds s ≡ kinds_in outer → drive_end s.frames s ≡ Ok z → st ≡ record { stacks = z; table = None } → Follows (at outer t) op.End st
end_follows [] t s z st k e i =
    let f = first_is s Func [] k in
    inr (t, refl, refl, ap (λ (y : BodyState). y.stacks.frames) i ∙ end_frames s z f.0 f.1 f.2 e ∙ no_more f.1 f.4)
  where
    no_more : (fs : List Frame) → map (λ f. f.kind) fs ≡ [] → fs ≡ []
    no_more [] e = refl
    no_more (f ∷ fs) e = absurd (cc (e))
end_follows (in_block b before ∷ outer) t s z st k e i =
    let f = first_is s Block (kinds_in outer) k in
    inl (at outer (snoc before (block b t)), refl, to_place st z outer (snoc before (block b t)) i (ap (map (λ f. f.kind)) (end_frames s z f.0 f.1 f.2 e) ∙ f.4))
end_follows (in_loop b before ∷ outer) t s z st k e i =
    let f = first_is s Loop (kinds_in outer) k in
    inl (at outer (snoc before (loop b t)), refl, to_place st z outer (snoc before (loop b t)) i (ap (map (λ f. f.kind)) (end_frames s z f.0 f.1 f.2 e) ∙ f.4))
end_follows (in_first b before ∷ outer) t s z st k e i =
    let f = first_is s If (kinds_in outer) k in
    inl (at outer (snoc before (choice b t none)), refl, to_place st z outer (snoc before (choice b t none)) i (ap (map (λ f. f.kind)) (end_frames s z f.0 f.1 f.2 e) ∙ f.4))
end_follows (in_second b before first ∷ outer) t s z st k e i =
    let f = first_is s Else (kinds_in outer) k in
    inl (at outer (snoc before (choice b first t)), refl, to_place st z outer (snoc before (choice b first t)) i (ap (map (λ f. f.kind)) (end_frames s z f.0 f.1 f.2 e) ∙ f.4))

-- labels
not_none : (n : ℕ) → nat_eq (suc n) 0 ≡ false
not_none n = grind (arith, nat_tests)

label_kinds : (u : Option ValType) (outer : List Open) (t : Instructions) (seen : List ℕ) (n l : ℕ) (w : Option (Option ValType)) (s : Stack) (st : BodyState) → kinds s ≡ kinds_in outer
    → drive_known u (record { left = n; seen = w }) s ≡ Ok st → Follows (labels outer t seen n) (op.Label l) st
label_kinds u outer t seen zero l w s st k e =
    let r = table_ok None (drive_diverges (option_to_list u) s) st e in
    inl (at outer (snoc t (table seen l)), refl, to_place st r.0 outer (snoc t (table seen l)) r.2 (drive_kinds (is_polymorphic (option_to_list u)) s r.0 r.1 ∙ k))
label_kinds u outer t seen (suc n) l w s st k e =
    let less : suc n - 1 ≡ n = omega arith in
    let d = subst (λ b. cond b (with_table None (drive_diverges (option_to_list u) s)) (Ok (record { stacks = s; table = Some (record { left = suc n - 1; seen = Some u }) })) ≡ Ok st) (not_none n) e in
    let q : record { stacks = s; table = Some (record { left = suc n - 1; seen = Some u }) } ≡ st = cc (d) in
    inl (labels outer t (seen ++ l ∷ []) n, refl, (Some u, ap (λ (y : BodyState). y.table) (sym q) ∙ ap (λ m. Some (record { left = m; seen = Some u })) less, ap (λ (y : BodyState). kinds y.stacks) (sym q) ∙ k))

label_follows : (o : Option (Option ValType)) (outer : List Open) (t : Instructions) (seen : List ℕ) (n l : ℕ) (w : Option (Option ValType)) (s : Stack) (st : BodyState) → kinds s ≡ kinds_in outer
    → drive_label o (record { left = n; seen = w }) s ≡ Ok st → Follows (labels outer t seen n) (op.Label l) st
label_follows None outer t seen n l w s st k e = absurd (cc)
label_follows (Some u) outer t seen n l w s st k e = go (goes_with w u) e
  where
    go : (b : Bool) → cond b (drive_known u (record { left = n; seen = w }) s) (Err why.Mismatch) ≡ Ok st → Follows (labels outer t seen n) (op.Label l) st
    go true e = label_kinds u outer t seen n l w s st k e
    go false e = absurd (cc (e))

at_follows : (c : Context) (x : Op) (s : Stack) (outer : List Open) (t : Instructions) (st : BodyState) → kinds s ≡ kinds_in outer → drive_op c x None s ≡ Ok st → Follows (at outer t) x st
at_follows c (op.Simple i) s outer t st k e =
    let r = table_ok None (drive (effect_of (within_frames c s.frames) i) s) st e in
    inl (at outer (snoc t (simple i)), refl, to_place st r.0 outer (snoc t (simple i)) r.2 (drive_kinds (effect_of (within_frames c s.frames) i) s r.0 r.1 ∙ k))
at_follows c (op.Block b) s outer t st k e = let q : st ≡ record { stacks = open_frame Block b s; table = None } = cc (e) in inl (at (in_block b t ∷ outer) none, refl, to_place st (open_frame Block b s) (in_block b t ∷ outer) none q (ap (λ ks. Block ∷ ks) k))
at_follows c (op.Loop b) s outer t st k e = let q : st ≡ record { stacks = open_frame Loop b s; table = None } = cc (e) in inl (at (in_loop b t ∷ outer) none, refl, to_place st (open_frame Loop b s) (in_loop b t ∷ outer) none q (ap (λ ks. Loop ∷ ks) k))
at_follows c (op.If b) s outer t st k e =
    let r = table_ok None (drive_if b s) st e in
    inl (at (in_first b t ∷ outer) none, refl, to_place st r.0 (in_first b t ∷ outer) none r.2 (if_kinds b s r.0 r.1 ∙ ap (λ ks. If ∷ ks) k))
at_follows c op.Else s outer t st k e =
    let r = table_ok None (drive_else s.frames s) st e in
    let d = else_kinds outer t s r.0 k r.1 in
    inl (at d.2 none, d.1 ∙ ap Some d.3, to_place st r.0 d.2 none r.2 d.4)
at_follows c op.End s outer t st k e = let r = table_ok None (drive_end s.frames s) st e in end_follows outer t s r.0 st k r.1 r.2
at_follows c (op.BrTable n) s outer t st k e =
    let r = table_ok (Some (record { left = n; seen = None })) (drive_count s) st e in
    inl (labels outer t [] n, refl, (None, ap (λ (y : BodyState). y.table) r.2, ap (λ (y : BodyState). kinds y.stacks) r.2 ∙ (count_kinds s r.0 r.1 ∙ k)))
at_follows c (op.Label l) s outer t st k e = absurd (cc)

labels_follow : (c : Context) (x : Op) (s : Stack) (outer : List Open) (t : Instructions) (seen : List ℕ) (n : ℕ) (w : Option (Option ValType)) (st : BodyState) → kinds s ≡ kinds_in outer
    → drive_op c x (Some (record { left = n; seen = w })) s ≡ Ok st → Follows (labels outer t seen n) x st
labels_follow c (op.Label l) s outer t seen n w st k e = label_follows (slice_get (labels_of s.frames) l) outer t seen n l w s st k e
labels_follow c _ s outer t seen n w st k e = absurd (cc)

pub follow : (c : Context) (x : Op) (s st : BodyState) (p : Place) → SamePlace s p → step c s x ≡ Ok st → Follows p x st
follow c x s st (at outer t) h e = at_follows c x s.stacks outer t st h.1 (subst (λ o. drive_op c x o s.stacks ≡ Ok st) h.0 e)
follow c x s st (labels outer t seen n) h e = labels_follow c x s.stacks outer t seen n h.0 st h.2 (subst (λ o. drive_op c x o s.stacks ≡ Ok st) h.1 e)
