-- The effect of one op on the frames and on the open lists.
use Rattle.std.proofs.Common.{ℕ, zero, suc, ◌≡◌, Bool, true, false, cond, List, [], ◌∷◌, ◌++◌, Option, Some, None, reverse, map, slice_get, option_to_list, sym, refl, ap, ◌∙◌, subst, append-nil, append_assoc, ◌↔◌}
use Rattle.std.proofs.lemmas.List.{reverse-append, reverse-reverse}
use Rattle.wm_syntax.specs.declared.types.ValType.{ValType}
use Rattle.wm_syntax.specs.declared.types.ValType.TheVariants.{I32}
use Rattle.wm_syntax.specs.declared.instructions.Simple.{Simple}
use Rattle.wm_syntax.specs.declared.instructions.Op.{Op}
use Rattle.wm_syntax.specs.declared.instructions.Op.TheVariants as op
use Rattle.wm_syntax.specs.Instructions.{Instruction, Instructions, none, snoc, simple, table, block, loop, choice}
use Rattle.wm_stacks.specs.declared.stack_entries.FrameKind.{FrameKind}
use Rattle.wm_stacks.specs.declared.stack_entries.FrameKind.TheVariants.{Func, Block, Loop, If, Else}
use Rattle.wm_typing.specs.Typing.{Context, TypedInstruction, Typed}
use Rattle.wm_typing.specs.OpenLists.{Head, head, Work, work, Place, open_at, within, complete, label_type, at, taken_by, FirstHolds, WorkCan, OpenCan, AllHave, CanType}
use Rattle.wm_typing.specs.exact.Effects.{is_polymorphic, effect_of}
use Rattle.wm_typing.specs.exact.Ops.{may_end, same_label, goes_with}
use Rattle.wm_syntax.proofs.SameTypes.{means, reflexive}
use Rattle.wm_typing.specs.inner.Frames.{Pile, Frames, running, in_table, ended, Stands, Reach, Meets, AllMeet, HasSeen, Holds}
use Rattle.wm_typing.proofs.Effects.{shape, typed}
use Rattle.wm_typing.proofs.FrameOperands.{Take, whole, floor, refused, take_types, apply}
use Rattle.wm_typing.proofs.BodyOps.{with_pile, step_simple, empty, step_begin, take_condition, is_closed, closes, where_closed, push_types, end_frame, at_label, with_label_type, step}
use Rattle.wm_typing.proofs.Frame.{StandsAfter, some_stand, AfterTake, take_law, give_law, known_law, Post, apply_law}
use Rattle.wm_typing.proofs.OpenListOps.{grow, place_grown, place_simple, place_begin, place_else, closed, end_place, place_table, place_label, place_after}

abbrev pub PostInstruction : Context → Instruction → (List ValType → Type 0) → List ValType → Type 0
PostInstruction c i P ts =
    (took : List ValType) × (gave : List ValType) × (below : List ValType)
    × TypedInstruction c i took gave × P (reverse took ++ below) × (ts ≡ reverse gave ++ below)

turn : (s ts : List ValType) → reverse (reverse s ++ reverse ts) ≡ ts ++ s
turn s ts = reverse-append (reverse s) (reverse ts) ∙ ap (λ z. z ++ reverse (reverse s)) (reverse-reverse ts) ∙ ap (λ z. ts ++ z) (reverse-reverse s)

turn_back : (s ts : List ValType) → reverse (reverse s ++ ts) ≡ reverse ts ++ s
turn_back s ts = reverse-append (reverse s) ts ∙ ap (λ z. reverse ts ++ z) (reverse-reverse s)

pub reach_snoc : (c : Context) (s : Instructions) (i : Instruction) (ts : List ValType) → Reach c (snoc s i) ts ↔ PostInstruction c i (Reach c s) ts
reach_snoc c s i ts = (
  λ h. (
    h.1,
    h.2,
    reverse h.0,
    h.4,
    subst (λ z. Typed c s [] z) (sym (turn h.1 h.0)) h.3,
    sym (reverse-reverse ts) ∙ ap reverse h.5 ∙ reverse-append h.0 h.2,
  ),
  λ h. (reverse h.2, h.0, h.1, subst (λ z. Typed c s [] z) (turn_back h.0 h.2) h.4, h.3, ap reverse h.5 ∙ turn_back h.1 h.2),
)

pub post_cong : (c : Context) (i : Instruction) (P Q : List ValType → Type 0) (ts : List ValType) → ((us : List ValType) → P us ↔ Q us)
    → PostInstruction c i P ts ↔ PostInstruction c i Q ts
post_cong c i P Q ts e =
    (λ h. (h.0, h.1, h.2, h.3, (e (reverse h.0 ++ h.2)).0 h.4, h.5), λ h. (h.0, h.1, h.2, h.3, (e (reverse h.0 ++ h.2)).1 h.4, h.5))

-- the typing of a simple instruction is its shape
simple_post : (c : Context) (p : Simple) (P : List ValType → Type 0) (ts : List ValType) → PostInstruction c (simple p) P ts ↔ Post (effect_of c p) P ts
simple_post c p P ts =
    (λ h. (h.0, h.1, h.2, shape h.0 h.1 c p h.3, h.4, h.5), λ h. (h.0, h.1, h.2, typed h.0 h.1 c p h.3, h.4, h.5))

abbrev pub Verdict : Context → Option Place → Option Frames → Type 0
Verdict c None None = Unit {0}
Verdict c None (Some s) = ⊥
Verdict c (Some p) None = CanType c p → ⊥
Verdict c (Some p) (Some s) = Holds c p s

-- an open list can be typed where its frame stands for some list
pub can_reach : (c : Context) (h : Head) (taken : List ValType) (first s : Instructions)
    → WorkCan c h taken (work first s) ↔ (FirstHolds c h first × ((ts : List ValType) × Reach c s (reverse taken ++ ts)))
can_reach c h taken first s = (
  λ m. (m.0, (reverse m.1.0, subst (λ z. Typed c s [] z) (sym (turn taken m.1.0)) m.1.1)),
  λ m. (m.0, (reverse m.1.0, subst (λ z. Typed c s [] z) (turn_back taken m.1.0) m.1.1)),
)

pub meets_can : (c : Context) (h : Head) (taken : List ValType) (w : Work) (f : Pile) → Meets c h taken w f → WorkCan c h taken w
meets_can c h taken (work first s) f m =
    let r = some_stand f.dead f.entries in (can_reach c h taken first s).1 (m.0, (r.0, (m.1 r.0).1 r.1))

pub all_can : (c : Context) (taken : List ValType) (hs : List Head) (ws : List Work) (fs : List Pile) → AllMeet c taken hs ws fs → OpenCan c taken hs ws
all_can c taken [] [] [] m = tt
all_can c taken (h ∷ hs) (w ∷ ws) (f ∷ fs) m = (meets_can (at c (h ∷ hs)) h taken w f m.0, all_can c (taken_by h) hs ws fs m.1)
all_can c taken [] [] (f ∷ fs) m = absurd m
all_can c taken [] (w ∷ ws) fs m = absurd m
all_can c taken (h ∷ hs) [] fs m = absurd m
all_can c taken (h ∷ hs) (w ∷ ws) [] m = absurd m

-- an instruction that leaves the open lists as they are
pub grown_verdict : (c : Context) (h : Head) (hs : List Head) (i : Instruction) (first s : Instructions) (ws : List Work) (fs : List Pile) (o : Option Pile)
    → FirstHolds (at c (h ∷ hs)) h first → AllMeet c (taken_by h) hs ws fs
    → ((ts : List ValType) → PostInstruction (at c (h ∷ hs)) i (Reach (at c (h ∷ hs)) s) ts ↔ StandsAfter o ts)
    → Verdict c (Some (open_at (h ∷ hs) (work first (snoc s i) ∷ ws))) (with_pile o (λ g. running (h ∷ hs) (g ∷ fs)))
grown_verdict c h hs i first s ws fs None m rest law = λ can.
    let k = (can_reach (at c (h ∷ hs)) h [] first (snoc s i)).0 can.0 in
    (law k.1.0).0 ((reach_snoc (at c (h ∷ hs)) s i k.1.0).0 k.1.1)
grown_verdict c h hs i first s ws fs (Some g) m rest law =
    (refl, ((m, λ ts. let r = reach_snoc (at c (h ∷ hs)) s i ts in (λ k. (law ts).0 (r.0 k), λ k. r.1 ((law ts).1 k))), rest))

simple_verdict : (c : Context) (p : Simple) (h : Head) (hs : List Head) (w : Work) (ws : List Work) (f : Pile) (fs : List Pile)
    → AllMeet c [] (h ∷ hs) (w ∷ ws) (f ∷ fs)
    → Verdict c (place_simple p (open_at (h ∷ hs) (w ∷ ws))) (step_simple c p (running (h ∷ hs) (f ∷ fs)))
simple_verdict c p h hs (work first s) ws f fs m =
    grown_verdict c h hs (simple p) first s ws fs (apply (effect_of (at c (h ∷ hs)) p) f) m.0.0 m.1 (λ ts.
    let a = post_cong (at c (h ∷ hs)) (simple p) (Reach (at c (h ∷ hs)) s) (Stands f.dead f.entries) ts m.0.1 in
    let e = simple_post (at c (h ∷ hs)) p (Stands f.dead f.entries) ts in
    let b = apply_law (effect_of (at c (h ∷ hs)) p) f ts in
    (λ k. b.0 (e.0 (a.0 k)), λ k. a.1 (e.1 (b.1 k))))

-- a list that has just been opened
pub fresh_meets : (c : Context) (h : Head) (first : Instructions) → FirstHolds c h first → Meets c h [] (work first none) empty
fresh_meets c h first m = (m, λ ts. (λ e. sym (reverse-reverse ts) ∙ ap reverse (sym e), λ e. ap reverse (sym e)))

block_verdict : (c : Context) (t : Option ValType) (h : Head) (hs : List Head) (w : Work) (ws : List Work) (f : Pile) (fs : List Pile)
    → AllMeet c [] (h ∷ hs) (w ∷ ws) (f ∷ fs)
    → Verdict c (place_begin (head Block t) (open_at (h ∷ hs) (w ∷ ws))) (step_begin (head Block t) (running (h ∷ hs) (f ∷ fs)))
block_verdict c t h hs w ws f fs m = (refl, (fresh_meets (at c (head Block t ∷ h ∷ hs)) (head Block t) none tt, m))

loop_verdict : (c : Context) (t : Option ValType) (h : Head) (hs : List Head) (w : Work) (ws : List Work) (f : Pile) (fs : List Pile)
    → AllMeet c [] (h ∷ hs) (w ∷ ws) (f ∷ fs)
    → Verdict c (place_begin (head Loop t) (open_at (h ∷ hs) (w ∷ ws))) (step_begin (head Loop t) (running (h ∷ hs) (f ∷ fs)))
loop_verdict c t h hs w ws f fs m = (refl, (fresh_meets (at c (head Loop t ∷ h ∷ hs)) (head Loop t) none tt, m))

-- an i32 can be taken exactly where it stands on top
condition_law : (f : Pile) (ts : List ValType) → Stands f.dead f.entries (I32 ∷ ts) ↔ StandsAfter (take_condition f) ts
condition_law f ts =
    let t = take_law f.dead f.entries (I32 ∷ []) ts in
    let g = give_law f.dead (take_types f.dead f.entries (I32 ∷ [])) [] ts in
    (λ h. g.0 (ts, t.0 h, refl), λ h. let r = g.1 h in t.1 (subst (λ z. AfterTake f.dead (take_types f.dead f.entries (I32 ∷ [])) z) (sym r.2) r.1))

condition_cannot : (c : Context) (h : Head) (w : Work) (f : Pile) → Meets c h [] w f → ((ts : List ValType) → Stands f.dead f.entries (I32 ∷ ts) → ⊥)
    → WorkCan c h (I32 ∷ []) w → ⊥
condition_cannot c h (work first s) f m never can =
    let k = (can_reach c h (I32 ∷ []) first s).0 can in never k.1.0 ((m.1 (I32 ∷ k.1.0)).0 k.1.1)

condition_meets : (c : Context) (h : Head) (w : Work) (f g : Pile) → Meets c h [] w f
    → ((ts : List ValType) → Stands f.dead f.entries (I32 ∷ ts) ↔ Stands g.dead g.entries ts)
    → Meets c h (I32 ∷ []) w g
condition_meets c h (work first s) f g m law =
    (m.0, λ ts. (λ k. (law ts).0 ((m.1 (I32 ∷ ts)).0 k), λ k. (m.1 (I32 ∷ ts)).1 ((law ts).1 k)))

if_verdict_at : (c : Context) (t : Option ValType) (h : Head) (hs : List Head) (w : Work) (ws : List Work) (f : Pile) (fs : List Pile) (o : Option Pile)
    → AllMeet c [] (h ∷ hs) (w ∷ ws) (f ∷ fs) → ((ts : List ValType) → Stands f.dead f.entries (I32 ∷ ts) ↔ StandsAfter o ts)
    → Verdict c (place_begin (head If t) (open_at (h ∷ hs) (w ∷ ws))) (with_pile o (λ g. running (head If t ∷ h ∷ hs) (empty ∷ g ∷ fs)))
if_verdict_at c t h hs w ws f fs None m law = λ can. condition_cannot (at c (h ∷ hs)) h w f m.0 (λ ts. (law ts).0) can.1.0
if_verdict_at c t h hs w ws f fs (Some g) m law =
    (refl, (fresh_meets (at c (head If t ∷ h ∷ hs)) (head If t) none tt, (condition_meets (at c (h ∷ hs)) h w f g m.0 law, m.1)))

table_verdict_at : (c : Context) (n : ℕ) (h : Head) (hs : List Head) (w : Work) (ws : List Work) (f : Pile) (fs : List Pile) (o : Option Pile)
    → AllMeet c [] (h ∷ hs) (w ∷ ws) (f ∷ fs) → ((ts : List ValType) → Stands f.dead f.entries (I32 ∷ ts) ↔ StandsAfter o ts)
    → Verdict c (place_table n (open_at (h ∷ hs) (w ∷ ws))) (with_pile o (λ g. in_table n None (h ∷ hs) (g ∷ fs)))
table_verdict_at c n h hs w ws f fs None m law = λ can. condition_cannot (at c (h ∷ hs)) h w f m.0 (λ ts. (law ts).0) can.1.0
table_verdict_at c n h hs w ws f fs (Some g) m law = (refl, refl, tt, (condition_meets (at c (h ∷ hs)) h w f g m.0 law, m.1))

-- what a close of the innermost frame decides
closed_takes : (un : Bool) (tk : Take) → AfterTake un tk [] ↔ (is_closed tk ≡ true)
closed_takes true (whole []) = (λ h. refl, λ h. tt)
closed_takes false (whole []) = (λ h. refl, λ h. refl)
closed_takes un (whole (e ∷ es)) = (λ h. absurd h, λ h. cc)
closed_takes un floor = (λ h. refl, λ h. tt)
closed_takes un refused = (λ h. absurd h, λ h. cc)

closes_law : (c : Context) (s : Instructions) (t : Option ValType) (f : Pile) → ((ts : List ValType) → Reach c s ts ↔ Stands f.dead f.entries ts)
    → Typed c s [] (option_to_list t) ↔ (closes t f ≡ true)
closes_law c s t f m =
    let xs = reverse (option_to_list t) in
    let k = closed_takes f.dead (take_types f.dead f.entries xs) in
    let a = take_law f.dead f.entries xs [] in (
      λ h. k.0 (a.0 (subst (λ z. Stands f.dead f.entries z) (sym (append-nil xs)) ((m xs).0 (subst (λ z. Typed c s [] z) (sym (reverse-reverse (option_to_list t))) h)))),
      λ h. subst (λ z. Typed c s [] z) (reverse-reverse (option_to_list t)) ((m xs).1 (subst (λ z. Stands f.dead f.entries z) (append-nil xs) (a.1 (k.1 h)))),
    )

else_verdict_at : (c : Context) (t : Option ValType) (hs : List Head) (first s : Instructions) (ws : List Work) (f : Pile) (fs : List Pile) (b : Bool)
    → AllMeet c [] (head If t ∷ hs) (work first s ∷ ws) (f ∷ fs)
    → (Typed (at c (head If t ∷ hs)) s [] (option_to_list t) ↔ (b ≡ true))
    → Verdict c (place_else (open_at (head If t ∷ hs) (work first s ∷ ws))) (where_closed b (running (head Else t ∷ hs) (empty ∷ fs)))
else_verdict_at c t hs first s ws f fs true m law = (refl, (fresh_meets (at c (head Else t ∷ hs)) (head Else t) s (law.1 refl), m.1))
else_verdict_at c t hs first s ws f fs false m law = λ can. let e = law.0 can.0.0 in cc

-- what the tree that an end completes asks of the lists in it
abbrev pub InnerHolds : Context → FrameKind → Option ValType → Work → Type 0
InnerHolds c Func t (work first s) = Typed c s [] (option_to_list t)
InnerHolds c Block t (work first s) = Typed c s [] (option_to_list t)
InnerHolds c Loop t (work first s) = Typed c s [] (option_to_list t)
InnerHolds c If t (work first s) = Typed c s [] (option_to_list t) × ([] ≡ option_to_list t)
InnerHolds c Else t (work first s) = Typed c first [] (option_to_list t) × Typed c s [] (option_to_list t)

may_end_none : (t : Option ValType) → [] ≡ option_to_list t → may_end If t ≡ true
may_end_none None e = refl
may_end_none (Some t) e = cc

may_end_only : (t : Option ValType) → may_end If t ≡ true → [] ≡ option_to_list t
may_end_only None e = refl
may_end_only (Some t) e = cc

inner_law : (c : Context) (k : FrameKind) (t : Option ValType) (w : Work) (f : Pile) → Meets c (head k t) [] w f
    → InnerHolds c k t w ↔ ((may_end k t ≡ true) × (closes t f ≡ true))
inner_law c Func t (work first s) f m = let k = closes_law c s t f m.1 in (λ h. (refl, k.0 h), λ h. k.1 h.1)
inner_law c Block t (work first s) f m = let k = closes_law c s t f m.1 in (λ h. (refl, k.0 h), λ h. k.1 h.1)
inner_law c Loop t (work first s) f m = let k = closes_law c s t f m.1 in (λ h. (refl, k.0 h), λ h. k.1 h.1)
inner_law c If t (work first s) f m = let k = closes_law c s t f m.1 in (λ h. (may_end_none t h.1, k.0 h.0), λ h. (k.1 h.1, may_end_only t h.0))
inner_law c Else t (work first s) f m = let k = closes_law c s t f m.1 in (λ h. (refl, k.0 h.1), λ h. (m.0, k.1 h.1))

-- a completed tree takes what its opening took, and gives its result
abbrev pub Closing : List ValType → Type 0 → Option ValType → (List ValType → Type 0) → List ValType → Type 0
Closing taken inner t P ts = inner × ((below : List ValType) × P (reverse taken ++ below) × (ts ≡ reverse (option_to_list t) ++ below))

closed_law : (c : Context) (hs : List Head) (k : FrameKind) (t : Option ValType) (w : Work) (P : List ValType → Type 0) (ts : List ValType)
    → (k ≡ Func → ⊥)
    → PostInstruction (at c hs) (closed k t w) P ts ↔ Closing (taken_by (head k t)) (InnerHolds (at c (head k t ∷ hs)) k t w) t P ts
closed_law c hs Func t w P ts ne = absurd (ne refl)
closed_law c hs Block t (work first s) P ts ne = (
  λ h. (h.3.1, (h.2, subst (λ z. P (reverse z ++ h.2)) h.3.0.0 h.4, h.5 ∙ ap (λ z. reverse z ++ h.2) h.3.0.1)),
  λ h. ([], option_to_list t, h.1.0, ((refl, refl), h.0), h.1.1, h.1.2),
)
closed_law c hs Loop t (work first s) P ts ne = (
  λ h. (h.3.1, (h.2, subst (λ z. P (reverse z ++ h.2)) h.3.0.0 h.4, h.5 ∙ ap (λ z. reverse z ++ h.2) h.3.0.1)),
  λ h. ([], option_to_list t, h.1.0, ((refl, refl), h.0), h.1.1, h.1.2),
)
closed_law c hs If t (work first s) P ts ne = (
  λ h. ((h.3.1, h.3.2), (h.2, subst (λ z. P (reverse z ++ h.2)) h.3.0.0 h.4, h.5 ∙ ap (λ z. reverse z ++ h.2) h.3.0.1)),
  λ h. (I32 ∷ [], option_to_list t, h.1.0, ((refl, refl), h.0.0, h.0.1), h.1.1, h.1.2),
)
closed_law c hs Else t (work first s) P ts ne = (
  λ h. ((h.3.1, h.3.2), (h.2, subst (λ z. P (reverse z ++ h.2)) h.3.0.0 h.4, h.5 ∙ ap (λ z. reverse z ++ h.2) h.3.0.1)),
  λ h. (I32 ∷ [], option_to_list t, h.1.0, ((refl, refl), h.0.0, h.0.1), h.1.1, h.1.2),
)

push_law : (c : Context) (h : Head) (taken : List ValType) (inner : Type 0) (t : Option ValType) (first s : Instructions) (f : Pile) (ts : List ValType)
    → Meets c h taken (work first s) f → inner
    → Closing taken inner t (Reach c s) ts ↔ Stands (push_types t f).dead (push_types t f).entries ts
push_law c h taken inner t first s f ts m i =
    let k = known_law f.dead f.entries (reverse (option_to_list t)) ts in
    (λ p. k.0 (p.1.0, (m.1 p.1.0).0 p.1.1, p.1.2), λ p. let r = k.1 p in (i, (r.0, (m.1 r.0).1 r.1, r.2)))

end_verdict_at : (c : Context) (k : FrameKind) (t : Option ValType) (v : Work) (g : Pile) (h : Head) (hs : List Head) (first s : Instructions) (ws : List Work) (f : Pile) (fs : List Pile)
    (a b : Bool) → (k ≡ Func → ⊥)
    → AllMeet c [] (head k t ∷ h ∷ hs) (v ∷ work first s ∷ ws) (g ∷ f ∷ fs)
    → (InnerHolds (at c (head k t ∷ h ∷ hs)) k t v ↔ ((a ≡ true) × (b ≡ true)))
    → Verdict c (Some (open_at (h ∷ hs) (grow (closed k t v) (work first s) ∷ ws)))
    (cond a (where_closed b (running (h ∷ hs) (push_types t f ∷ fs))) None)
end_verdict_at c k t v g h hs first s ws f fs true true ne m law = (
  refl,
  (
    (
      m.1.0.0,
      λ ts.
          let d = at c (h ∷ hs) in
          let r = reach_snoc d s (closed k t v) ts in
          let q = closed_law c (h ∷ hs) k t v (Reach d s) ts ne in
          let p = push_law d h (taken_by (head k t)) (InnerHolds (at c (head k t ∷ h ∷ hs)) k t v) t first s f ts m.1.0 (law.1 (refl, refl)) in
          (λ x. p.0 (q.0 (r.0 x)), λ x. r.1 (q.1 (p.1 x))),
    ),
    m.1.1,
  ),
)
end_verdict_at c k t v g h hs first s ws f fs true false ne m law = λ can.
    let d = at c (h ∷ hs) in
    let x = (can_reach d h [] first (snoc s (closed k t v))).0 can.0 in
    let y = (reach_snoc d s (closed k t v) x.1.0).0 x.1.1 in
    let e = (law.0 ((closed_law c (h ∷ hs) k t v (Reach d s) x.1.0 ne).0 y).0).1 in cc
end_verdict_at c k t v g h hs first s ws f fs false b ne m law = λ can.
    let d = at c (h ∷ hs) in
    let x = (can_reach d h [] first (snoc s (closed k t v))).0 can.0 in
    let y = (reach_snoc d s (closed k t v) x.1.0).0 x.1.1 in
    let e = (law.0 ((closed_law c (h ∷ hs) k t v (Reach d s) x.1.0 ne).0 y).0).0 in cc

-- the last end of a body
last_verdict_at : (c : Context) (t : Option ValType) (s : Instructions) (b : Bool) → (Typed (at c (head Func t ∷ [])) s [] (option_to_list t) ↔ (b ≡ true))
    → Verdict c (Some (complete t s)) (where_closed b ended)
last_verdict_at c t s true law = law.1 refl
last_verdict_at c t s false law = λ can. let e = law.0 can in cc

end_verdict : (c : Context) (k : FrameKind) (t : Option ValType) (hs : List Head) (w : Work) (ws : List Work) (f : Pile) (fs : List Pile)
    → AllMeet c [] (head k t ∷ hs) (w ∷ ws) (f ∷ fs) → Verdict c (end_place k t w hs ws) (end_frame k t f hs fs)
end_verdict c Func t [] (work first s) [] f [] m = last_verdict_at c t s (closes t f) (closes_law (at c (head Func t ∷ [])) s t f m.0.1)
end_verdict c Func t (h ∷ hs) w (v ∷ ws) f (g ∷ fs) m = tt
end_verdict c Block t (h ∷ hs) w (work first s ∷ ws) f (g ∷ fs) m =
    end_verdict_at c Block t w f h hs first s ws g fs true (closes t f) (λ e. cc) m (inner_law (at c (head Block t ∷ h ∷ hs)) Block t w f m.0)
end_verdict c Loop t (h ∷ hs) w (work first s ∷ ws) f (g ∷ fs) m =
    end_verdict_at c Loop t w f h hs first s ws g fs true (closes t f) (λ e. cc) m (inner_law (at c (head Loop t ∷ h ∷ hs)) Loop t w f m.0)
end_verdict c If t (h ∷ hs) w (work first s ∷ ws) f (g ∷ fs) m =
    end_verdict_at c If t w f h hs first s ws g fs (may_end If t) (closes t f) (λ e. cc) m (inner_law (at c (head If t ∷ h ∷ hs)) If t w f m.0)
end_verdict c Else t (h ∷ hs) w (work first s ∷ ws) f (g ∷ fs) m =
    end_verdict_at c Else t w f h hs first s ws g fs true (closes t f) (λ e. cc) m (inner_law (at c (head Else t ∷ h ∷ hs)) Else t w f m.0)
end_verdict c Block t [] w [] f [] m = tt
end_verdict c Loop t [] w [] f [] m = tt
end_verdict c If t [] w [] f [] m = tt
end_verdict c Else t [] w [] f [] m = tt
end_verdict c k t [] w [] f (g ∷ fs) m = absurd m.1
end_verdict c k t [] w (v ∷ ws) f fs m = absurd m.1
end_verdict c k t (h ∷ hs) w [] f fs m = absurd m.1
end_verdict c k t (h ∷ hs) w (v ∷ ws) f [] m = absurd m.1

all_have_push : (labels : List (Option ValType)) (t : Option ValType) (seen : List ℕ) (l : ℕ)
    → AllHave labels t (seen ++ l ∷ []) ↔ (AllHave labels t seen × (slice_get labels l ≡ Some t))
all_have_push labels t [] l = (λ h. (tt, h.0), λ h. (h.1, tt))
all_have_push labels t (k ∷ seen) l =
    let r = all_have_push labels t seen l in (λ h. let q = r.0 h.1 in ((h.0, q.0), q.1), λ h. (h.0.0, r.1 (h.0.1, h.1)))

table_types : (others u below : List ValType) → reverse (others ++ (u ++ I32 ∷ [])) ++ below ≡ I32 ∷ (reverse (others ++ u) ++ below)
table_types others u below =
    ap (λ z. reverse z ++ below) (sym (append_assoc others u (I32 ∷ []))) ∙ ap (λ z. z ++ below) (reverse-append (others ++ u) (I32 ∷ []))

some_same : (t u : Option ValType) → ◌≡◌ {A = Option (Option ValType)} (Some t) (Some u) → t ≡ u
some_same t u e = cc

-- the whole table, where its i32 was taken before
table_law : (c : Context) (s : Instructions) (seen : List ℕ) (l : ℕ) (t : Option ValType) (f : Pile) (ts : List ValType)
    → AllHave c.labels t (seen ++ l ∷ [])
    → ((ts : List ValType) → Reach c s (I32 ∷ ts) ↔ Stands f.dead f.entries ts)
    → PostInstruction c (table seen l) (Reach c s) ts ↔ Post (is_polymorphic (option_to_list t)) (Stands f.dead f.entries) ts
table_law c s seen l t f ts all m = (
  λ h.
      let u = h.3.0 in
      let e : u ≡ t = some_same u t (sym ((all_have_push c.labels u seen l).0 h.3.1).1 ∙ ((all_have_push c.labels t seen l).0 all).1) in
      let k = m (reverse (h.3.2.0 ++ option_to_list u) ++ h.2) in (
        h.3.2.0 ++ option_to_list u,
        h.1,
        h.2,
        (h.3.2.0, ap (λ z. h.3.2.0 ++ option_to_list z) e),
        k.0 (subst (λ z. Reach c s z) (ap (λ z. reverse z ++ h.2) h.3.2.1 ∙ table_types h.3.2.0 (option_to_list u) h.2) h.4),
        h.5,
      ),
  λ h. (
    h.3.0 ++ (option_to_list t ++ I32 ∷ []),
    h.1,
    h.2,
    (t, all, (h.3.0, refl)),
    subst (λ z. Reach c s z) (sym (table_types h.3.0 (option_to_list t) h.2))
        ((m (reverse (h.3.0 ++ option_to_list t) ++ h.2)).1 (subst (λ z. Stands f.dead f.entries (reverse z ++ h.2)) h.3.1 h.4)),
    h.5,
  ),
)

same_label_true : (t u : Option ValType) → same_label t u ≡ true → t ≡ u
same_label_true None None h = refl
same_label_true None (Some u) h = cc
same_label_true (Some t) None h = cc
same_label_true (Some t) (Some u) h = ap Some (means t u h)

same_label_refl : (t : Option ValType) → same_label t t ≡ true
same_label_refl None = refl
same_label_refl (Some t) = reflexive t

-- the labels so far, with one more that goes with them
seen_more : (hs : List Head) (seen : List ℕ) (l : ℕ) (known : Option (Option ValType)) (t : Option ValType)
    → HasSeen hs seen known → slice_get (map label_type hs) l ≡ Some t → goes_with known t ≡ true
    → AllHave (map label_type hs) t (seen ++ l ∷ [])
seen_more hs [] l None t h e g = (e, tt)
seen_more hs (k ∷ seen) l (Some u) t h e g =
    (all_have_push (map label_type hs) t (k ∷ seen) l).1 (subst (λ z. AllHave (map label_type hs) z (k ∷ seen)) (same_label_true u t g) h, e)
seen_more hs [] l (Some u) t h e g = absurd h
seen_more hs (k ∷ seen) l None t h e g = absurd h

-- one that does not go with them has no common type
seen_apart : (hs : List Head) (seen : List ℕ) (l : ℕ) (known : Option (Option ValType)) (t u : Option ValType)
    → HasSeen hs seen known → slice_get (map label_type hs) l ≡ Some t → goes_with known t ≡ false
    → AllHave (map label_type hs) u (seen ++ l ∷ []) → ⊥
seen_apart hs [] l None t u h e g all = cc
seen_apart hs (k ∷ seen) l (Some v) t u h e g all =
    let p : u ≡ t = some_same u t (sym ((all_have_push (map label_type hs) u (k ∷ seen) l).0 all).1 ∙ e) in
    let q : v ≡ u = some_same v u (sym h.0 ∙ all.0) in
    let r = same_label_refl v in
    let z : same_label v t ≡ true = subst (λ z. same_label v z ≡ true) (q ∙ p) r in cc
seen_apart hs [] l (Some v) t u h e g all = absurd h
seen_apart hs (k ∷ seen) l None t u h e g all = absurd h

seen_is : (hs : List Head) (seen : List ℕ) (l : ℕ) (t : Option ValType) → AllHave (map label_type hs) t (seen ++ l ∷ []) → HasSeen hs (seen ++ l ∷ []) (Some t)
seen_is hs [] l t h = h
seen_is hs (k ∷ seen) l t h = h

-- a label that is refused
label_cannot : (c : Context) (n l : ℕ) (seen : List ℕ) (h : Head) (hs : List Head) (first s : Instructions) (ws : List Work)
    → ((u : Option ValType) → AllHave (map label_type (h ∷ hs)) u (seen ++ l ∷ []) → ⊥)
    → Verdict c (place_label l (within n seen (h ∷ hs) (work first s ∷ ws))) None
label_cannot c zero l seen h hs first s ws never = λ can.
    let d = at c (h ∷ hs) in
    let x = (can_reach d h [] first (snoc s (table seen l))).0 can.0 in
    let y = (reach_snoc d s (table seen l) x.1.0).0 x.1.1 in
    never y.3.0 y.3.1
label_cannot c (suc n) l seen h hs first s ws never = λ can. never can.0.0 can.0.1

label_taken : (c : Context) (n l : ℕ) (seen : List ℕ) (t : Option ValType) (h : Head) (hs : List Head) (first s : Instructions) (ws : List Work) (f : Pile) (fs : List Pile)
    → AllMeet c (I32 ∷ []) (h ∷ hs) (work first s ∷ ws) (f ∷ fs)
    → AllHave (map label_type (h ∷ hs)) t (seen ++ l ∷ [])
    → Verdict c (place_label l (within n seen (h ∷ hs) (work first s ∷ ws))) (at_label n t (h ∷ hs) f fs)
label_taken c zero l seen t h hs first s ws f fs m all =
    grown_verdict c h hs (table seen l) first s ws fs (apply (is_polymorphic (option_to_list t)) f) m.0.0 m.1 (λ ts.
    let a = table_law (at c (h ∷ hs)) s seen l t f ts all m.0.1 in
    let b = apply_law (is_polymorphic (option_to_list t)) f ts in
    (λ k. b.0 (a.0 k), λ k. a.1 (b.1 k)))
label_taken c (suc n) l seen t h hs first s ws f fs m all = (refl, refl, seen_is (h ∷ hs) seen l t all, m)

label_verdict_as : (c : Context) (n l : ℕ) (seen : List ℕ) (known : Option (Option ValType)) (t : Option ValType) (b : Bool)
    (h : Head) (hs : List Head) (first s : Instructions) (ws : List Work) (f : Pile) (fs : List Pile)
    → AllMeet c (I32 ∷ []) (h ∷ hs) (work first s ∷ ws) (f ∷ fs) → HasSeen (h ∷ hs) seen known
    → slice_get (map label_type (h ∷ hs)) l ≡ Some t → goes_with known t ≡ b
    → Verdict c (place_label l (within n seen (h ∷ hs) (work first s ∷ ws))) (cond b (at_label n t (h ∷ hs) f fs) None)
label_verdict_as c n l seen known t true h hs first s ws f fs m seen_by e g = label_taken c n l seen t h hs first s ws f fs m (seen_more (h ∷ hs) seen l known t seen_by e g)
label_verdict_as c n l seen known t false h hs first s ws f fs m seen_by e g = label_cannot c n l seen h hs first s ws (λ u. seen_apart (h ∷ hs) seen l known t u seen_by e g)

none_some : {A : Type 0} (o : Option A) (a : A) → o ≡ None → o ≡ Some a → ⊥
none_some o a e f = cc

label_verdict_at : (c : Context) (n l : ℕ) (seen : List ℕ) (known : Option (Option ValType)) (o : Option (Option ValType))
    (h : Head) (hs : List Head) (first s : Instructions) (ws : List Work) (f : Pile) (fs : List Pile)
    → AllMeet c (I32 ∷ []) (h ∷ hs) (work first s ∷ ws) (f ∷ fs) → HasSeen (h ∷ hs) seen known
    → slice_get (map label_type (h ∷ hs)) l ≡ o
    → Verdict c (place_label l (within n seen (h ∷ hs) (work first s ∷ ws))) (with_label_type o n known (h ∷ hs) f fs)
label_verdict_at c n l seen known None h hs first s ws f fs m seen_by e =
    label_cannot c n l seen h hs first s ws (λ u all. none_some (slice_get (map label_type (h ∷ hs)) l) u e ((all_have_push (map label_type (h ∷ hs)) u seen l).0 all).1)
label_verdict_at c n l seen known (Some t) h hs first s ws f fs m seen_by e =
    label_verdict_as c n l seen known t (goes_with known t) h hs first s ws f fs m seen_by e refl

-- One op is taken exactly where the open lists can still be typed, and what holds of the frames is kept.
running_verdict : (c : Context) (x : Op) (h : Head) (hs : List Head) (w : Work) (ws : List Work) (f : Pile) (fs : List Pile)
    → AllMeet c [] (h ∷ hs) (w ∷ ws) (f ∷ fs)
    → Verdict c (place_after (open_at (h ∷ hs) (w ∷ ws)) x) (step c (running (h ∷ hs) (f ∷ fs)) x)
running_verdict c (op.Simple p) h hs w ws f fs m = simple_verdict c p h hs w ws f fs m
running_verdict c (op.Block t) h hs w ws f fs m = block_verdict c t h hs w ws f fs m
running_verdict c (op.Loop t) h hs w ws f fs m = loop_verdict c t h hs w ws f fs m
running_verdict c (op.If t) h hs w ws f fs m = if_verdict_at c t h hs w ws f fs (take_condition f) m (condition_law f)
running_verdict c op.Else (head If t) hs (work first s) ws f fs m =
    else_verdict_at c t hs first s ws f fs (closes t f) m (closes_law (at c (head If t ∷ hs)) s t f m.0.1)
running_verdict c op.Else (head Func t) hs w ws f fs m = tt
running_verdict c op.Else (head Block t) hs w ws f fs m = tt
running_verdict c op.Else (head Loop t) hs w ws f fs m = tt
running_verdict c op.Else (head Else t) hs w ws f fs m = tt
running_verdict c op.End (head k t) hs w ws f fs m = end_verdict c k t hs w ws f fs m
running_verdict c (op.BrTable n) h hs w ws f fs m = table_verdict_at c n h hs w ws f fs (take_condition f) m (condition_law f)
running_verdict c (op.Label l) h hs w ws f fs m = tt

table_verdict : (c : Context) (x : Op) (n : ℕ) (seen : List ℕ) (known : Option (Option ValType)) (h : Head) (hs : List Head) (w : Work) (ws : List Work) (f : Pile) (fs : List Pile)
    → HasSeen (h ∷ hs) seen known → AllMeet c (I32 ∷ []) (h ∷ hs) (w ∷ ws) (f ∷ fs)
    → Verdict c (place_after (within n seen (h ∷ hs) (w ∷ ws)) x) (step c (in_table n known (h ∷ hs) (f ∷ fs)) x)
table_verdict c (op.Label l) n seen known h hs (work first s) ws f fs seen_by m =
    label_verdict_at c n l seen known (slice_get (map label_type (h ∷ hs)) l) h hs first s ws f fs m seen_by refl
table_verdict c (op.Simple p) n seen known h hs w ws f fs seen_by m = tt
table_verdict c (op.Block t) n seen known h hs w ws f fs seen_by m = tt
table_verdict c (op.Loop t) n seen known h hs w ws f fs seen_by m = tt
table_verdict c (op.If t) n seen known h hs w ws f fs seen_by m = tt
table_verdict c op.Else n seen known h hs w ws f fs seen_by m = tt
table_verdict c op.End n seen known h hs w ws f fs seen_by m = tt
table_verdict c (op.BrTable k) n seen known h hs w ws f fs seen_by m = tt

all_meet_empty : (c : Context) (taken : List ValType) (ws : List Work) (fs : List Pile) (A : Type 0) → ((ws ≡ []) → (fs ≡ []) → A) → AllMeet c taken [] ws fs → A
all_meet_empty c taken [] [] A k m = k refl refl
all_meet_empty c taken [] (f ∷ fs) A k m = absurd m
all_meet_empty c taken (w ∷ ws) fs A k m = absurd m

running_all : (c : Context) (x : Op) (hs : List Head) (ws : List Work) (fs : List Pile)
    → AllMeet c [] hs ws fs → Verdict c (place_after (open_at hs ws) x) (step c (running hs fs) x)
running_all c x (h ∷ hs) (w ∷ ws) (f ∷ fs) m = running_verdict c x h hs w ws f fs m
running_all c x (h ∷ hs) (w ∷ ws) [] m = absurd m
running_all c x (h ∷ hs) [] fs m = absurd m
running_all c x [] (w ∷ ws) fs m = absurd m
running_all c x [] [] (f ∷ fs) m = absurd m
running_all c (op.Simple p) [] [] [] m = tt
running_all c (op.Block t) [] [] [] m = tt
running_all c (op.Loop t) [] [] [] m = tt
running_all c (op.If t) [] [] [] m = tt
running_all c op.Else [] [] [] m = tt
running_all c op.End [] [] [] m = tt
running_all c (op.BrTable n) [] [] [] m = tt
running_all c (op.Label l) [] [] [] m = tt

table_all : (c : Context) (x : Op) (n : ℕ) (seen : List ℕ) (known : Option (Option ValType)) (hs : List Head) (ws : List Work) (fs : List Pile)
    → HasSeen hs seen known → AllMeet c (I32 ∷ []) hs ws fs
    → Verdict c (place_after (within n seen hs ws) x) (step c (in_table n known hs fs) x)
table_all c x n seen known (h ∷ hs) (w ∷ ws) (f ∷ fs) k m = table_verdict c x n seen known h hs w ws f fs k m
table_all c x n seen known (h ∷ hs) (w ∷ ws) [] k m = absurd m
table_all c x n seen known (h ∷ hs) [] fs k m = absurd m
table_all c x n seen known [] (w ∷ ws) fs k m = absurd m
table_all c x n seen known [] [] (f ∷ fs) k m = absurd m
table_all c (op.Simple p) n seen known [] [] [] k m = tt
table_all c (op.Block t) n seen known [] [] [] k m = tt
table_all c (op.Loop t) n seen known [] [] [] k m = tt
table_all c (op.If t) n seen known [] [] [] k m = tt
table_all c op.Else n seen known [] [] [] k m = tt
table_all c op.End n seen known [] [] [] k m = tt
table_all c (op.BrTable i) n seen known [] [] [] k m = tt
table_all c (op.Label l) zero seen known [] [] [] k m = tt
table_all c (op.Label l) (suc n) seen known [] [] [] k m = tt

ended_all : (c : Context) (x : Op) (r : Option ValType) (s : Instructions) → Verdict c (place_after (complete r s) x) (step c ended x)
ended_all c (op.Simple p) r s = tt
ended_all c (op.Block t) r s = tt
ended_all c (op.Loop t) r s = tt
ended_all c (op.If t) r s = tt
ended_all c op.Else r s = tt
ended_all c op.End r s = tt
ended_all c (op.BrTable n) r s = tt
ended_all c (op.Label l) r s = tt

-- One op is taken exactly where the open lists can still be typed, and what holds of the frames is kept.
pub step_verdict : (c : Context) (x : Op) (p : Place) (s : Frames) → Holds c p s → Verdict c (place_after p x) (step c s x)
step_verdict c x (open_at hs ws) (running gs fs) m =
    subst (λ z. Verdict c (place_after (open_at hs ws) x) (step c (running z fs) x)) m.0 (running_all c x hs ws fs m.1)
step_verdict c x (within n seen hs ws) (in_table k t gs fs) m =
    subst (λ z. Verdict c (place_after (within n seen hs ws) x) (step c (in_table z t gs fs) x)) m.0
    (subst (λ z. Verdict c (place_after (within n seen hs ws) x) (step c (in_table n t z fs) x)) m.1 (table_all c x n seen t hs ws fs m.2 m.3))
step_verdict c x (complete r s) ended m = ended_all c x r s
step_verdict c x (open_at hs ws) (in_table k t gs fs) m = absurd m
step_verdict c x (open_at hs ws) ended m = absurd m
step_verdict c x (within n seen hs ws) (running gs fs) m = absurd m
step_verdict c x (within n seen hs ws) ended m = absurd m
step_verdict c x (complete r s) (running gs fs) m = absurd m
step_verdict c x (complete r s) (in_table k t gs fs) m = absurd m

-- what can be typed after an op could be typed before it
abbrev pub CanBack : Context → Place → Option Place → Type 0
CanBack c p None = Unit {0}
CanBack c p (Some q) = CanType c q → CanType c p

work_back : (c : Context) (h : Head) (taken : List ValType) (first s : Instructions) (i : Instruction)
    → WorkCan c h taken (work first (snoc s i)) → (took : List ValType) × (gave : List ValType) × WorkCan c h took (work first s) × TypedInstruction c i took gave
work_back c h taken first s i m = (m.1.1.1, m.1.1.2, (m.0, (m.1.1.0, m.1.1.3)), m.1.1.4)

work_any : (c : Context) (h : Head) (taken : List ValType) (w : Work) → WorkCan c h taken w → WorkCan c h [] w
work_any c h taken (work first s) m = (m.0, (m.1.0 ++ taken, subst (λ z. Typed c s [] z) (sym (append-nil (m.1.0 ++ taken))) m.1.1))

pub work_with : (c : Context) (h : Head) (first s : Instructions) (u : List ValType) → FirstHolds c h first → Typed c s [] u → WorkCan c h [] (work first s)
work_with c h first s u m t = (m, (u, subst (λ z. Typed c s [] z) (sym (append-nil u)) t))

end_back : (c : Context) (k : FrameKind) (t : Option ValType) (w : Work) (hs : List Head) (ws : List Work)
    → CanBack c (open_at (head k t ∷ hs) (w ∷ ws)) (end_place k t w hs ws)
end_back c Func t (work first s) [] [] = λ can. (work_with (at c (head Func t ∷ [])) (head Func t) first s (option_to_list t) tt can, tt)
end_back c Func t w (h ∷ hs) ws = tt
end_back c Func t w [] (v ∷ ws) = tt
end_back c Block t w [] ws = tt
end_back c Loop t w [] ws = tt
end_back c If t w [] ws = tt
end_back c Else t w [] ws = tt
end_back c Block t w (h ∷ hs) [] = tt
end_back c Loop t w (h ∷ hs) [] = tt
end_back c If t w (h ∷ hs) [] = tt
end_back c Else t w (h ∷ hs) [] = tt
end_back c Block t (work first s) (h ∷ hs) (work g b ∷ ws) = λ can.
    let r = work_back (at c (h ∷ hs)) h [] g b (block t s) can.0 in (
      work_with (at c (head Block t ∷ h ∷ hs)) (head Block t) first s (option_to_list t) tt r.3.1,
      (subst (λ z. WorkCan (at c (h ∷ hs)) h z (work g b)) r.3.0.0 r.2, can.1),
    )
end_back c Loop t (work first s) (h ∷ hs) (work g b ∷ ws) = λ can.
    let r = work_back (at c (h ∷ hs)) h [] g b (loop t s) can.0 in (
      work_with (at c (head Loop t ∷ h ∷ hs)) (head Loop t) first s (option_to_list t) tt r.3.1,
      (subst (λ z. WorkCan (at c (h ∷ hs)) h z (work g b)) r.3.0.0 r.2, can.1),
    )
end_back c If t (work first s) (h ∷ hs) (work g b ∷ ws) = λ can.
    let r = work_back (at c (h ∷ hs)) h [] g b (choice t s none) can.0 in (
      work_with (at c (head If t ∷ h ∷ hs)) (head If t) first s (option_to_list t) tt r.3.1,
      (subst (λ z. WorkCan (at c (h ∷ hs)) h z (work g b)) r.3.0.0 r.2, can.1),
    )
end_back c Else t (work first s) (h ∷ hs) (work g b ∷ ws) = λ can.
    let r = work_back (at c (h ∷ hs)) h [] g b (choice t first s) can.0 in (
      work_with (at c (head Else t ∷ h ∷ hs)) (head Else t) first s (option_to_list t) r.3.1 r.3.2,
      (subst (λ z. WorkCan (at c (h ∷ hs)) h z (work g b)) r.3.0.0 r.2, can.1),
    )

grown_back : (c : Context) (i : Instruction) (h : Head) (hs : List Head) (ws : List Work) → CanBack c (open_at (h ∷ hs) ws) (place_grown i (h ∷ hs) ws)
grown_back c i h hs [] = tt
grown_back c i h hs (work first s ∷ ws) = λ can.
    let r = work_back (at c (h ∷ hs)) h [] first s i can.0 in (work_any (at c (h ∷ hs)) h r.0 (work first s) r.2, can.1)

open_any : (c : Context) (taken : List ValType) (hs : List Head) (ws : List Work) → OpenCan c taken hs ws → OpenCan c [] hs ws
open_any c taken [] [] m = tt
open_any c taken (h ∷ hs) [] m = m
open_any c taken [] (w ∷ ws) m = m
open_any c taken (h ∷ hs) (w ∷ ws) m = (work_any (at c (h ∷ hs)) h taken w m.0, m.1)

table_regroup : (a b u : List ValType) → a ++ (b ++ (u ++ I32 ∷ [])) ≡ (a ++ (b ++ u)) ++ I32 ∷ []
table_regroup a b u = ap (λ z. a ++ z) (sym (append_assoc b u (I32 ∷ []))) ∙ sym (append_assoc a (b ++ u) (I32 ∷ []))

label_back : (c : Context) (l n : ℕ) (seen : List ℕ) (hs : List Head) (ws : List Work) → CanBack c (within n seen hs ws) (place_label l (within n seen hs ws))
label_back c l zero seen hs [] = tt
label_back c l (suc n) seen hs [] = tt
label_back c l zero seen [] (w ∷ ws) = λ can. absurd can
label_back c l (suc n) seen [] (w ∷ ws) = λ can. absurd can.1
label_back c l (suc n) seen (h ∷ hs) (w ∷ ws) = λ can.
    ((can.0.0, ((all_have_push (map label_type (h ∷ hs)) can.0.0 seen l).0 can.0.1).0), can.1)
label_back c l zero seen (h ∷ hs) (work first s ∷ ws) = λ can.
    let d = at c (h ∷ hs) in
    let r = work_back d h [] first s (table seen l) can.0 in
    let t = r.3.0 in (
      (t, ((all_have_push (map label_type (h ∷ hs)) t seen l).0 r.3.1).0),
      (
        (
          r.2.0,
          (
            r.2.1.0 ++ (r.3.2.0 ++ option_to_list t),
            subst (λ z. Typed d s [] z) (ap (λ z. r.2.1.0 ++ z) r.3.2.1 ∙ table_regroup r.2.1.0 r.3.2.0 (option_to_list t)) r.2.1.1,
          ),
        ),
        can.1,
      ),
    )

else_back : (c : Context) (p : Place) → CanBack c p (place_else p)
else_back c (open_at (head If t ∷ hs) (work first s ∷ ws)) = λ can. (work_with (at c (head If t ∷ hs)) (head If t) first s (option_to_list t) tt can.0.0, can.1)
else_back c (open_at [] ws) = tt
else_back c (open_at (head If t ∷ hs) []) = tt
else_back c (open_at (head Func t ∷ hs) ws) = tt
else_back c (open_at (head Block t ∷ hs) ws) = tt
else_back c (open_at (head Loop t ∷ hs) ws) = tt
else_back c (open_at (head Else t ∷ hs) ws) = tt
else_back c (within n seen hs ws) = tt
else_back c (complete r s) = tt

pub place_back : (c : Context) (x : Op) (p : Place) → CanBack c p (place_after p x)
place_back c (op.Simple i) (open_at (h ∷ hs) ws) = grown_back c (simple i) h hs ws
place_back c (op.Simple i) (open_at [] ws) = tt
place_back c (op.Simple i) (within n seen hs ws) = tt
place_back c (op.Simple i) (complete r s) = tt
place_back c (op.Block t) (open_at hs (w ∷ ws)) = λ can. open_any c [] hs (w ∷ ws) can.1
place_back c (op.Block t) (open_at hs []) = tt
place_back c (op.Block t) (within n seen hs ws) = tt
place_back c (op.Block t) (complete r s) = tt
place_back c (op.Loop t) (open_at hs (w ∷ ws)) = λ can. open_any c [] hs (w ∷ ws) can.1
place_back c (op.Loop t) (open_at hs []) = tt
place_back c (op.Loop t) (within n seen hs ws) = tt
place_back c (op.Loop t) (complete r s) = tt
place_back c (op.If t) (open_at hs (w ∷ ws)) = λ can. open_any c (I32 ∷ []) hs (w ∷ ws) can.1
place_back c (op.If t) (open_at hs []) = tt
place_back c (op.If t) (within n seen hs ws) = tt
place_back c (op.If t) (complete r s) = tt
place_back c op.Else p = else_back c p
place_back c op.End (open_at (head k t ∷ hs) (w ∷ ws)) = end_back c k t w hs ws
place_back c op.End (open_at (head k t ∷ hs) []) = tt
place_back c op.End (open_at [] ws) = tt
place_back c op.End (within n seen hs ws) = tt
place_back c op.End (complete r s) = tt
place_back c (op.BrTable n) (open_at hs (w ∷ ws)) = λ can. open_any c (I32 ∷ []) hs (w ∷ ws) can.1
place_back c (op.BrTable n) (open_at hs []) = tt
place_back c (op.BrTable n) (within k seen hs ws) = tt
place_back c (op.BrTable n) (complete r s) = tt
place_back c (op.Label l) (within n seen hs ws) = label_back c l n seen hs ws
place_back c (op.Label l) (open_at hs ws) = tt
place_back c (op.Label l) (complete r s) = tt

-- what holds can be typed
pub holds_can : (c : Context) (p : Place) (s : Frames) → Holds c p s → CanType c p
holds_can c (open_at hs ws) (running gs fs) m = all_can c [] hs ws fs m.1
holds_can c (within n [] hs ws) (in_table k None gs fs) m = ((None, tt), all_can c (I32 ∷ []) hs ws fs m.3)
holds_can c (within n (l ∷ seen) hs ws) (in_table k (Some t) gs fs) m = ((t, m.2), all_can c (I32 ∷ []) hs ws fs m.3)
holds_can c (within n [] hs ws) (in_table k (Some t) gs fs) m = absurd m.2
holds_can c (within n (l ∷ seen) hs ws) (in_table k None gs fs) m = absurd m.2
holds_can c (complete r s) ended m = m
holds_can c (open_at hs ws) (in_table k t gs fs) m = absurd m
holds_can c (open_at hs ws) ended m = absurd m
holds_can c (within n seen hs ws) (running gs fs) m = absurd m
holds_can c (within n seen hs ws) ended m = absurd m
holds_can c (complete r s) (running gs fs) m = absurd m
holds_can c (complete r s) (in_table k t gs fs) m = absurd m
