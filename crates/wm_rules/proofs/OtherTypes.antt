-- The meaning of `Type` for the lists of types that the innermost open list can leave.
use Rattle.std.proofs.Common.{◌≡◌, ◌⊎◌, ℕ, ◌<◌, inl, inr, Bool, true, false, cond, List, [], ◌∷◌, ◌++◌, Option, Some, None, Result, Ok, Err, reverse, length, map, slice_get, option_to_list, refl, sym, ◌∙◌, ap, subst, nat_eq}
use Rattle.wm_syntax.specs.declared.types.ValType.{ValType}
use Rattle.wm_syntax.specs.declared.types.ValType.TheVariants.{I32}
use Rattle.wm_syntax.specs.declared.why.Why.{Why}
use Rattle.wm_syntax.specs.declared.why.Why.TheVariants as why
use Rattle.wm_syntax.specs.declared.instructions.Simple.{Simple}
use Rattle.wm_syntax.specs.declared.instructions.Op.{Op}
use Rattle.wm_syntax.specs.declared.instructions.Op.TheVariants as op
use Rattle.wm_syntax.proofs.SameTypes.{reflexive}
use Rattle.wm_stacks.specs.declared.stack_entries.Frame.{Frame}
use Rattle.wm_stacks.specs.declared.stack_entries.FrameKind.{FrameKind}
use Rattle.wm_stacks.specs.declared.stack_entries.FrameKind.TheVariants.{Func, Block, Loop, If, Else}
use Rattle.wm_stacks.specs.declared.stack_entries.Reach.{Reach}
use Rattle.wm_stacks.specs.Stack.{Stack}
use Rattle.wm_stacks.specs.exact.Stacks.{open_frame, take_all}
use Rattle.wm_typing.specs.declared.labels.BrTable.{BrTable}
use Rattle.wm_typing.specs.Bodies.{BodyState}
use Rattle.wm_typing.specs.Typing.{Context}
use Rattle.wm_typing.specs.OpenLists.{Head, head, head_of, Work, Place, open_at, within, complete, at}
use Rattle.wm_typing.specs.exact.Effects.{effect_of, is_polymorphic}
use Rattle.wm_typing.specs.exact.Ops.{after_call, drive, drive_close, drive_diverges, drive_else, drive_end, drive_known, drive_label, drive_op, else_of, end_of, give_to, goes_with, labels_of, may_end, same_label, with_table, within_frames}
use Rattle.wm_typing.specs.inner.Frames.{Frames, running, in_table, ended, HasSeen, Holds, Stands, TracksWith}
use Rattle.wm_rules.specs.Meanings.{Leaves, OperandDiffers, TypesDiffer, heads_of}
use Rattle.wm_rules.proofs.DueLabels.{heads_are}
use Rattle.wm_rules.proofs.InnerFrames.{Inner, inner}
use Rattle.wm_rules.proofs.LeftTypes.{Outside, has_shape, has_type, is_outside, labels, never_ill, some_shape, table_err}
use Rattle.wm_rules.proofs.MistypedOperands.{close_clash, differs, drive_clash, one_clash}

-- an if with a result ends without an else, or the result has another type
abbrev NoElse : FrameKind → Option ValType → Type 0
NoElse If (Some t) = Unit {0}
NoElse k t = ⊥

no_else : (k : FrameKind) (t : Option ValType) → may_end k t ≡ false → NoElse k t
no_else If (Some t) e = tt
no_else If None e = absurd (cc)
no_else Func t e = absurd (cc)
no_else Block t e = absurd (cc)
no_else Loop t e = absurd (cc)
no_else Else t e = absurd (cc)

at_end : (c : Context) (k : FrameKind) (t : Option ValType) (hs : List Head) (ws : List Work) (types : List ValType) → NoElse k t ⊎ OperandDiffers types (option_to_list t) → TypesDiffer c (open_at (head k t ∷ hs) ws) op.End types
at_end c If (Some t) hs ws types h = tt
at_end c If None hs ws types h = elim h [ inl n ↦ absurd n | inr d ↦ d ]
at_end c Func t hs ws types h = elim h [ inl n ↦ absurd n | inr d ↦ d ]
at_end c Block t hs ws types h = elim h [ inl n ↦ absurd n | inr d ↦ d ]
at_end c Loop t hs ws types h = elim h [ inl n ↦ absurd n | inr d ↦ d ]
at_end c Else t hs ws types h = elim h [ inl n ↦ absurd n | inr d ↦ d ]

-- the innermost open list is that of the innermost frame
at_list : (c : Context) (q : Place) (f : Frame) (fs : List Frame) (types : List ValType) → Outside q → heads_of q ≡ map head_of (f ∷ fs) → Leaves c q types
    → (OperandDiffers types (option_to_list f.result) → TypesDiffer c q op.Else types) × (NoElse f.kind f.result ⊎ OperandDiffers types (option_to_list f.result) → TypesDiffer c q op.End types)
at_list c (open_at [] ws) f fs types o e l = absurd l
at_list c (open_at (head k t ∷ hs) ws) f fs types o e l =
    let is : t ≡ f.result = cc in
    let kind : k ≡ f.kind = cc in (
      λ d. subst (λ z. OperandDiffers types (option_to_list z)) (sym is) d,
      λ d. at_end c k t hs ws types (subst (λ z. NoElse z t ⊎ OperandDiffers types (option_to_list t)) (sym kind) (subst (λ z. NoElse f.kind z ⊎ OperandDiffers types (option_to_list z)) (sym is) d)),
    )
at_list c (within n seen hs ws) f fs types o e l = absurd o
at_list c (complete r b) f fs types o e l = absurd l

-- a label that goes with no earlier one has another type
same_refl : (t : Option ValType) → same_label t t ≡ true
same_refl None = refl
same_refl (Some t) = reflexive t

other_label : (known : Option (Option ValType)) (u : Option ValType) → goes_with known u ≡ false → (t : Option ValType) × (known ≡ Some t) × (t ≡ u → ⊥)
other_label None u e = absurd (cc)
other_label (Some t) u e = (t, refl, λ i. let no : true ≡ false = sym (same_refl u) ∙ (ap (λ z. same_label z u) (sym i) ∙ e) in cc (no))

abbrev Seen : Context → List Head → List ℕ → Option ValType → Type 0
Seen c hs seen t =
    (front : List ℕ) × (rest : List ℕ) × (k : ℕ) × (u : Option ValType) × (seen ≡ front ++ k ∷ rest) × (slice_get (at c hs).labels k ≡ Some u) × (u ≡ t → ⊥)

module _ (c : Context) (p : Place) (fs : Frames) (u : Option BrTable) (s : Stack) (l : 0 < length s.frames) (h : Holds c p fs) (m : TracksWith u s fs) (types : List ValType) (left : Leaves c p types) where
  i : Inner c p s
  i = inner c p fs u s l h m

  stands : Stands i.f.unreachable i.es (reverse types)
  stands = i.stands types left

  simple_differs : (q : Simple) → drive (effect_of (within_frames c s.frames) q) s ≡ Err why.Mismatch → TypesDiffer c p (op.Simple q) types
  simple_differs q e =
      let d = effect_of (within_frames c s.frames) q in
      let never = never_ill why.Mismatch (λ x. cc) (λ x. cc) (λ x. cc) (within_frames c s.frames) q in
      let some = some_shape why.Mismatch (λ x. cc) (λ x. cc) (λ x. cc) d s never e in (
        (some.0, some.1, has_type c p fs u s h m q some.0 some.1 some.2),
        λ takes gives t.
            differs types takes (drive_clash d s i.f i.es i.over e never takes gives (has_shape c p fs u s h m q takes gives t) i.f.unreachable (reverse types) stands),
      )

  one_differs : (k : Reach → Stack → Stack) → after_call (take_all (I32 ∷ []) s) (λ r z. Ok (k r z)) ≡ Err why.Mismatch → OperandDiffers types (I32 ∷ [])
  one_differs k e = differs types (I32 ∷ []) (one_clash s i.f i.es k i.over e i.f.unreachable (reverse types) stands)

  result_differs : (t : Option ValType) (g : Frame → Stack → Stack) → drive_close t s (λ y z. Ok (g y z)) ≡ Err why.Mismatch → OperandDiffers types (option_to_list t)
  result_differs t g e = differs types (option_to_list t) (close_clash t s i.f i.es g i.over e i.f.unreachable (reverse types) stands)

  else_clash : (k : FrameKind) (t : Option ValType) → else_of k t s ≡ Err why.Mismatch → OperandDiffers types (option_to_list t)
  else_clash If t e = result_differs t (λ y z. open_frame Else t z) e
  else_clash Func t e = absurd (cc)
  else_clash Block t e = absurd (cc)
  else_clash Loop t e = absurd (cc)
  else_clash Else t e = absurd (cc)

  end_clash : (k : FrameKind) (t : Option ValType) → end_of k t s ≡ Err why.Mismatch → NoElse k t ⊎ OperandDiffers types (option_to_list t)
  end_clash k t e = go (may_end k t) refl e
    where
      go : (b : Bool) → may_end k t ≡ b → cond b (drive_close t s (λ y z. Ok (give_to z.frames t z))) (Err why.Mismatch) ≡ Err why.Mismatch → NoElse k t ⊎ OperandDiffers types (option_to_list t)
      go true b e = inr (result_differs t (λ y z. give_to z.frames t z) e)
      go false b e = inl (no_else k t b)

  in_list : Outside p → (OperandDiffers types (option_to_list i.f.result) → TypesDiffer c p op.Else types) × (NoElse i.f.kind i.f.result ⊎ OperandDiffers types (option_to_list i.f.result) → TypesDiffer c p op.End types)
  in_list o = at_list c p i.f i.over.rest types o (heads_are c p fs u s h m ∙ ap (map head_of) i.over.frames) left

  else_differs : Outside p → drive_else s.frames s ≡ Err why.Mismatch → TypesDiffer c p op.Else types
  else_differs o e = (in_list o).0 (else_clash i.f.kind i.f.result (subst (λ gs. drive_else gs s ≡ Err why.Mismatch) i.over.frames e))

  end_differs : Outside p → drive_end s.frames s ≡ Err why.Mismatch → TypesDiffer c p op.End types
  end_differs o e = (in_list o).1 (end_clash i.f.kind i.f.result (subst (λ gs. drive_end gs s ≡ Err why.Mismatch) i.over.frames e))

  label_clash : (hs : List Head) (seen : List ℕ) (o : Option (Option ValType)) (t : BrTable) → ((v : Option ValType) → t.seen ≡ Some v → (w : Option ValType) → (v ≡ w → ⊥) → Seen c hs seen w)
      → drive_label o t s ≡ Err why.Mismatch → (w : Option ValType) × (o ≡ Some w) × (OperandDiffers types (option_to_list w) ⊎ Seen c hs seen w)
  label_clash hs seen None t known e = absurd (cc)
  label_clash hs seen (Some w) t known e = (w, refl, go (goes_with t.seen w) refl e)
    where
      by_left : (b : Bool) (r : Result BodyState Why) → ((v : Why) → r ≡ Err v → ⊥) → cond b (with_table None (drive_diverges (option_to_list w) s)) r ≡ Err why.Mismatch → OperandDiffers types (option_to_list w)
      by_left true r never e =
          differs types (option_to_list w)
          (drive_clash (is_polymorphic (option_to_list w)) s i.f i.es i.over (table_err None (drive_diverges (option_to_list w) s) why.Mismatch e) (λ d. cc) (option_to_list w) [] ([], refl) i.f.unreachable (reverse types) stands)
      by_left false r never e = absurd (never why.Mismatch e)

      go : (b : Bool) → goes_with t.seen w ≡ b → cond b (drive_known w t s) (Err why.Mismatch) ≡ Err why.Mismatch → OperandDiffers types (option_to_list w) ⊎ Seen c hs seen w
      go true g e = inl (by_left (nat_eq t.left 0) _ (λ v i. cc) e)
      go false g e = let v = other_label t.seen w g in inr (known v.0 v.1 w v.2)

-- the type that is known is that of a label which was seen
known_label : (c : Context) (hs : List Head) (seen : List ℕ) (o : Option (Option ValType)) → HasSeen hs seen o → (v : Option ValType) → o ≡ Some v → (w : Option ValType) → (v ≡ w → ⊥) → Seen c hs seen w
known_label c hs [] None h v e w n = absurd (cc)
known_label c hs [] (Some t) h v e w n = absurd h
known_label c hs (k ∷ ks) None h v e w n = absurd h
known_label c hs (k ∷ ks) (Some t) h v e w n = let is : t ≡ v = cc in ([], ks, k, v, refl, h.0 ∙ ap Some is, n)

at_label : (c : Context) (k : ℕ) (t : BrTable) (s : Stack) (p : Place) (fs : Frames) → 0 < length s.frames → Holds c p fs → TracksWith (Some t) s fs → drive_label (slice_get (labels_of s.frames) k) t s ≡ Err why.Mismatch
    → (types : List ValType) → Leaves c p types → TypesDiffer c p (op.Label k) types
at_label c k t s (within n seen hs ws) (in_table j known gs ps) l h m e types left =
    let r = label_clash c (within n seen hs ws) (in_table j known gs ps) (Some t) s l h m types left hs seen (slice_get (labels_of s.frames) k) t
    (λ v i. known_label c hs seen known h.2 v (sym m.1 ∙ i)) e in
    (r.0, ap (λ (ls : List (Option ValType)). slice_get ls k) (sym (labels c (within n seen hs ws) (in_table j known gs ps) (Some t) s h m)) ∙ r.1, r.2)
at_label c k t s (within n seen hs ws) (running gs ps) l h m e types left = absurd h
at_label c k t s (within n seen hs ws) ended l h m e types left = absurd h
at_label c k t s (open_at hs ws) (running gs ps) l h m e types left = absurd m
at_label c k t s (open_at hs ws) (in_table j known gs ps) l h m e types left = absurd h
at_label c k t s (open_at hs ws) ended l h m e types left = absurd h
at_label c k t s (complete r b) (running gs ps) l h m e types left = absurd h
at_label c k t s (complete r b) (in_table j known gs ps) l h m e types left = absurd h
at_label c k t s (complete r b) ended l h m e types left = absurd m

pub types_differ : (c : Context) (o : Op) (u : Option BrTable) (s : Stack) (p : Place) (fs : Frames) → 0 < length s.frames → Holds c p fs → TracksWith u s fs → drive_op c o u s ≡ Err why.Mismatch
    → (types : List ValType) → Leaves c p types → TypesDiffer c p o types
types_differ c (op.Label k) (Some t) s p fs l h m e types left = at_label c k t s p fs l h m e types left
types_differ c (op.Simple q) None s p fs l h m e types left = simple_differs c p fs None s l h m types left q (table_err None _ why.Mismatch e)
types_differ c (op.Block t) None s p fs l h m e types left = absurd (cc)
types_differ c (op.Loop t) None s p fs l h m e types left = absurd (cc)
types_differ c (op.If t) None s p fs l h m e types left = one_differs c p fs None s l h m types left (λ r z. open_frame If t z) (table_err None _ why.Mismatch e)
types_differ c op.Else None s p fs l h m e types left = else_differs c p fs None s l h m types left (is_outside c p fs s h m) (table_err None _ why.Mismatch e)
types_differ c op.End None s p fs l h m e types left = end_differs c p fs None s l h m types left (is_outside c p fs s h m) (table_err None _ why.Mismatch e)
types_differ c (op.BrTable n) None s p fs l h m e types left = one_differs c p fs None s l h m types left (λ r z. z) (table_err (Some (record { left = n; seen = None })) _ why.Mismatch e)
types_differ c (op.Label k) None s p fs l h m e types left = absurd (cc)
types_differ c (op.Simple q) (Some t) s p fs l h m e types left = absurd (cc)
types_differ c (op.Block k) (Some t) s p fs l h m e types left = absurd (cc)
types_differ c (op.Loop k) (Some t) s p fs l h m e types left = absurd (cc)
types_differ c (op.If k) (Some t) s p fs l h m e types left = absurd (cc)
types_differ c op.Else (Some t) s p fs l h m e types left = absurd (cc)
types_differ c op.End (Some t) s p fs l h m e types left = absurd (cc)
types_differ c (op.BrTable n) (Some t) s p fs l h m e types left = absurd (cc)
