-- The types that one frame denotes, topmost first, and the effect of an instruction on them.
use Rattle.std.proofs.Common.{◌≡◌, Bool, true, false, cond, IsTrue, List, [], ◌∷◌, ◌++◌, Option, Some, None, reverse, map, sym, refl, ap, ◌∙◌, subst, append-nil, append_assoc, ◌↔◌}
use Rattle.std.proofs.lemmas.List.{reverse-append, reverse-reverse}
use Rattle.wm_syntax.specs.declared.types.ValType.{ValType}
use Rattle.wm_syntax.specs.declared.types.ValType.TheVariants.{I32, I64, F32, F64}
use Rattle.wm_stacks.specs.declared.stack_entries.Entry.{Entry}
use Rattle.wm_stacks.specs.declared.stack_entries.Entry.TheVariants.{I32 as Int32, I64 as Int64, F32 as Float32, F64 as Float64, Unknown}
use Rattle.wm_stacks.specs.Stack.{fits}
use Rattle.wm_syntax.proofs.SameTypes.{means}
use Rattle.wm_typing.specs.exact.OperandTypes.{entry_of_type, join}
use Rattle.wm_typing.specs.exact.Effects.{Effect, fixed, indirect, is_polymorphic, drops, selects, ill}
use Rattle.wm_typing.specs.inner.Frames.{Pile, Stands}
use Rattle.wm_typing.proofs.Effects.{HasShape}
use Rattle.wm_typing.proofs.FrameOperands.{Take, whole, floor, refused, take_types, after_take, cut_after, take_any, joined, take_two, select_after, apply}

abbrev Agrees : Entry → ValType → Type 0
Agrees e t = IsTrue (fits e t)

abbrev pub StandsAfter : Option Pile → List ValType → Type 0
StandsAfter None ts = ⊥
StandsAfter (Some f) ts = Stands f.dead f.entries ts

-- each frame stands for some list
pub some_stand : (un : Bool) (es : List Entry) → (ts : List ValType) × Stands un es ts
some_stand true [] = ([], tt)
some_stand false [] = ([], refl)
some_stand un (Int32 ∷ es) = let r = some_stand un es in (I32 ∷ r.0, (refl, r.1))
some_stand un (Int64 ∷ es) = let r = some_stand un es in (I64 ∷ r.0, (refl, r.1))
some_stand un (Float32 ∷ es) = let r = some_stand un es in (F32 ∷ r.0, (refl, r.1))
some_stand un (Float64 ∷ es) = let r = some_stand un es in (F64 ∷ r.0, (refl, r.1))
some_stand un (Unknown ∷ es) = let r = some_stand un es in (I32 ∷ r.0, (refl, r.1))

-- what is left below types that were taken
abbrev pub AfterTake : Bool → Take → List ValType → Type 0
AfterTake un (whole es) ts = Stands un es ts
AfterTake un floor ts = Unit {0}
AfterTake un refused ts = ⊥

take_step : (un : Bool) (es : List Entry) (xs ts : List ValType) (e : Entry) (x : ValType) (b : Bool) → fits e x ≡ b
    → (Stands un es (xs ++ ts) ↔ AfterTake un (take_types un es xs) ts)
    → (Agrees e x × Stands un es (xs ++ ts)) ↔ AfterTake un (cond b (take_types un es xs) refused) ts
take_step un es xs ts e x true h ih = ((λ p. ih.0 p.1), (λ p. (h, ih.1 p)))
take_step un es xs ts e x false h ih = ((λ p. let e = p.0 in cc), (λ p. absurd p))

pub take_law : (un : Bool) (es : List Entry) (xs ts : List ValType) → Stands un es (xs ++ ts) ↔ AfterTake un (take_types un es xs) ts
take_law un es [] ts = (λ h. h, λ h. h)
take_law true [] (x ∷ xs) ts = (λ h. tt, λ h. tt)
take_law false [] (x ∷ xs) ts = (λ h. cc, λ h. absurd h)
take_law un (e ∷ es) (x ∷ xs) ts = take_step un es xs ts e x (fits e x) refl (take_law un es xs ts)

-- the lists that known types on top of a frame give
known_agrees : (x : ValType) → Agrees (entry_of_type x) x
known_agrees I32 = refl
known_agrees I64 = refl
known_agrees F32 = refl
known_agrees F64 = refl

known_only : (x t : ValType) → Agrees (entry_of_type x) t → t ≡ x
known_only I32 t h = sym (means I32 t h)
known_only I64 t h = sym (means I64 t h)
known_only F32 t h = sym (means F32 t h)
known_only F64 t h = sym (means F64 t h)

pub known_law : (un : Bool) (es : List Entry) (xs ts : List ValType)
    → ((below : List ValType) × Stands un es below × (ts ≡ xs ++ below)) ↔ Stands un (map entry_of_type xs ++ es) ts
known_law un es [] ts = ((λ h. subst (λ z. Stands un es z) (sym h.2) h.1), (λ h. (ts, h, refl)))
known_law un es (x ∷ xs) [] = ((λ h. absurd (let e = h.2 in cc)), (λ h. absurd h))
known_law un es (x ∷ xs) (t ∷ ts) = (
  (λ h. (subst (λ z. Agrees (entry_of_type x) z) (let e = h.2 in cc) (known_agrees x), (known_law un es xs ts).0 (h.0, h.1, (let e = h.2 in cc)))),
  (λ h. let r = (known_law un es xs ts).1 h.1 in (r.0, r.1, (let e = r.2 in let f = known_only x t h.0 in cc))),
)

-- what a shape makes of a set of lists, the top first
abbrev pub Post : Effect → (List ValType → Type 0) → List ValType → Type 0
Post s P ts =
    (took : List ValType) × (gave : List ValType) × (below : List ValType)
    × HasShape s took gave × P (reverse took ++ below) × (ts ≡ reverse gave ++ below)

pub give_law : (un : Bool) (tk : Take) (xs ts : List ValType)
    → ((below : List ValType) × AfterTake un tk below × (ts ≡ xs ++ below)) ↔ StandsAfter (after_take un (map entry_of_type xs) tk) ts
give_law un (whole es) xs ts = known_law un es xs ts
give_law un floor xs ts =
    subst (λ z. ((below : List ValType) × Unit {0} × (ts ≡ xs ++ below)) ↔ Stands true z ts) (append-nil (map entry_of_type xs)) (known_law true [] xs ts)
give_law un refused xs ts = ((λ h. h.1), (λ h. absurd h))

-- a take that was not refused leaves some list
abbrev pub Succeeds : Take → Type 0
Succeeds (whole es) = Unit {0}
Succeeds floor = Unit {0}
Succeeds refused = ⊥

left_of : (un : Bool) (tk : Take) → Succeeds tk → (below : List ValType) × AfterTake un tk below
left_of un (whole es) h = some_stand un es
left_of un floor h = ([], tt)
left_of un refused h = absurd h

succeeds_of : (un : Bool) (tk : Take) (ts : List ValType) → AfterTake un tk ts → Succeeds tk
succeeds_of un (whole es) ts h = tt
succeeds_of un floor ts h = tt
succeeds_of un refused ts h = h

cut_law : (tk : Take) (ts : List ValType) → Succeeds tk ↔ StandsAfter (cut_after tk) ts
cut_law (whole es) ts = (λ h. tt, λ h. tt)
cut_law floor ts = (λ h. tt, λ h. tt)
cut_law refused ts = (λ h. h, λ h. h)

unknown_agrees : (e : Entry) → (t : ValType) × Agrees e t
unknown_agrees Int32 = (I32, refl)
unknown_agrees Int64 = (I64, refl)
unknown_agrees Float32 = (F32, refl)
unknown_agrees Float64 = (F64, refl)
unknown_agrees Unknown = (I32, refl)

any_law : (un : Bool) (es : List Entry) (ts : List ValType) → ((t : ValType) × Stands un es (t ∷ ts)) ↔ StandsAfter (take_any un es) ts
any_law true [] ts = (λ h. tt, λ h. (I32, tt))
any_law false [] ts = (λ h. let e = h.1 in cc, λ h. absurd h)
any_law un (e ∷ es) ts = (λ h. h.1.1, λ h. let a = unknown_agrees e in (a.0, (a.1, h)))

abbrev AgreesJoined : Option Entry → ValType → Type 0
AgreesJoined None t = ⊥
AgreesJoined (Some e) t = Agrees e t

join_known : (x : ValType) (b : Entry) (t : ValType) (k : Bool) → fits b x ≡ k
    → (Agrees (entry_of_type x) t × Agrees b t) ↔ AgreesJoined (cond k (Some (entry_of_type x)) None) t
join_known x b t true e = (λ h. h.0, λ h. (h, subst (Agrees b) (sym (known_only x t h)) e))
join_known x b t false e = (
  λ h. (let f : fits b x ≡ true = subst (Agrees b) (known_only x t h.0) h.1 in let g : true ≡ false = sym f ∙ e in cc),
  λ h. absurd h,
)

join_law : (a b : Entry) (t : ValType) → (Agrees a t × Agrees b t) ↔ AgreesJoined (join a b) t
join_law Unknown b t = (λ h. h.1, λ h. (refl, h))
join_law Int32 b t = join_known I32 b t (fits b I32) refl
join_law Int64 b t = join_known I64 b t (fits b I64) refl
join_law Float32 b t = join_known F32 b t (fits b F32) refl
join_law Float64 b t = join_known F64 b t (fits b F64) refl

joined_law : (un : Bool) (es : List Entry) (j : Option Entry) (ts : List ValType)
    → ((t : ValType) × (below : List ValType) × AgreesJoined j t × Stands un es below × (ts ≡ t ∷ below)) ↔ StandsAfter (joined un es j) ts
joined_law un es None ts = (λ h. h.2, λ h. absurd h)
joined_law un es (Some e) [] = (λ h. let e = h.4 in cc, λ h. absurd h)
joined_law un es (Some e) (t ∷ ts) = (
  λ h. let q = h.4 in
      (subst (λ z. Agrees e z) (let r : h.0 ≡ t = cc in r) h.2, subst (λ z. Stands un es z) (let r : h.1 ≡ ts = cc in r) h.3),
  λ h. (t, ts, h.0, h.1, refl),
)

two_law : (un : Bool) (es : List Entry) (ts : List ValType)
    → ((t : ValType) × (below : List ValType) × Stands un es (t ∷ t ∷ below) × (ts ≡ t ∷ below)) ↔ StandsAfter (take_two un es) ts
two_law true [] [] = (λ h. let e = h.3 in cc, λ h. absurd h)
two_law true [] (t ∷ ts) = (λ h. (refl, tt), λ h. (t, ts, tt, refl))
two_law false [] ts = (λ h. let e = h.2 in cc, λ h. absurd h)
two_law true (a ∷ []) [] = (λ h. let e = h.3 in cc, λ h. absurd h)
two_law true (a ∷ []) (t ∷ ts) =
    (λ h. let q = h.3 in (subst (λ z. Agrees a z) (let r : h.0 ≡ t = cc in r) h.2.0, tt), λ h. (t, ts, (h.0, tt), refl))
two_law false (a ∷ []) ts = (λ h. let e = h.2.1 in cc, λ h. absurd h)
two_law un (a ∷ b ∷ es) ts =
    let j = joined_law un es (join a b) ts in (
      λ h. j.0 (h.0, h.1, (join_law a b h.0).0 (h.2.0, h.2.1.0), h.2.1.1, h.3),
      λ h. let r = j.1 h in let k = (join_law a b r.0).1 r.2 in (r.0, r.1, (k.0, (k.1, r.3)), r.4),
    )

select_law : (un : Bool) (tk : Take) (ts : List ValType)
    → ((t : ValType) × (below : List ValType) × AfterTake un tk (t ∷ t ∷ below) × (ts ≡ t ∷ below)) ↔ StandsAfter (select_after un tk) ts
select_law un (whole es) ts = two_law un es ts
select_law un floor [] = (λ h. let e = h.3 in cc, λ h. absurd h)
select_law un floor (t ∷ ts) = (λ h. (refl, tt), λ h. (t, ts, tt, refl))
select_law un refused ts = (λ h. h.2, λ h. absurd h)

pub reverse_below : (others p below : List ValType) → reverse (others ++ p) ++ below ≡ reverse p ++ (reverse others ++ below)
reverse_below others p below = ap (λ z. z ++ below) (reverse-append others p) ∙ append_assoc (reverse p) (reverse others) below

reverse_back : (p r : List ValType) → reverse (reverse r ++ p) ++ [] ≡ reverse p ++ r
reverse_back p r = reverse_below (reverse r) p [] ∙ ap (λ z. reverse p ++ z) (append-nil (reverse (reverse r)) ∙ reverse-reverse r)

-- Exactly the lists that a shape can leave are those that the frame stands for afterwards, and where there is none
-- the frame refuses.
fixed_law : (p q : List ValType) (f : Pile) (ts : List ValType)
    → ((took : List ValType) × (gave : List ValType) × (below : List ValType) × ((took ≡ p) × (gave ≡ q)) × Stands f.dead f.entries (reverse took ++ below) × (ts ≡ reverse gave ++ below))
    ↔ StandsAfter (after_take f.dead (map entry_of_type (reverse q)) (take_types f.dead f.entries (reverse p))) ts
fixed_law p q f ts =
    let g = give_law f.dead (take_types f.dead f.entries (reverse p)) (reverse q) ts in (
      λ h. let a = h.3.0 in let b = h.3.1 in
          g.0 (
            h.2,
            (take_law f.dead f.entries (reverse p) h.2).0 (subst (λ z. Stands f.dead f.entries (reverse z ++ h.2)) a h.4),
            h.5 ∙ ap (λ z. reverse z ++ h.2) b,
          ),
      λ h. let r = g.1 h in (p, q, r.0, (refl, refl), (take_law f.dead f.entries (reverse p) r.0).1 r.1, r.2),
    )

pub apply_law : (s : Effect) (f : Pile) (ts : List ValType) → Post s (Stands f.dead f.entries) ts ↔ StandsAfter (apply s f) ts
apply_law (fixed p q) f ts = fixed_law p q f ts
apply_law (indirect p q) f ts = fixed_law (p ++ I32 ∷ []) q f ts
apply_law (is_polymorphic p) f ts =
    let c = cut_law (take_types f.dead f.entries (reverse p)) ts in (
      λ h. c.0 (succeeds_of f.dead (take_types f.dead f.entries (reverse p)) (reverse h.3.0 ++ h.2)
          ((take_law f.dead f.entries (reverse p) (reverse h.3.0 ++ h.2)).0
          (subst (λ z. Stands f.dead f.entries z) (ap (λ z. reverse z ++ h.2) h.3.1 ∙ reverse_below h.3.0 p h.2) h.4))),
      λ h. let r = left_of f.dead (take_types f.dead f.entries (reverse p)) (c.1 h) in (
        reverse r.0 ++ p,
        reverse ts,
        [],
        (reverse r.0, refl),
        subst (λ z. Stands f.dead f.entries z) (sym (reverse_back p r.0)) ((take_law f.dead f.entries (reverse p) r.0).1 r.1),
        sym (append-nil (reverse (reverse ts)) ∙ reverse-reverse ts),
      ),
    )
apply_law drops f ts =
    let a = any_law f.dead f.entries ts in (
      λ h. a.0 (h.3.0, subst (λ z. Stands f.dead f.entries z) (ap (λ z. reverse z ++ h.2) h.3.1.0 ∙ ap (λ z. h.3.0 ∷ z) (ap (λ z. reverse z ++ h.2) (sym h.3.1.1) ∙ sym h.5)) h.4),
      λ h. let r = a.1 h in (r.0 ∷ [], [], ts, (r.0, (refl, refl)), r.1, refl),
    )
apply_law selects f ts =
    let g = select_law f.dead (take_types f.dead f.entries (I32 ∷ [])) ts in (
      λ h. g.0 (
        h.3.0,
        h.2,
        (take_law f.dead f.entries (I32 ∷ []) (h.3.0 ∷ h.3.0 ∷ h.2)).0 (subst (λ z. Stands f.dead f.entries z) (ap (λ z. reverse z ++ h.2) h.3.1.0) h.4),
        h.5 ∙ ap (λ z. reverse z ++ h.2) h.3.1.1,
      ),
      λ h. let r = g.1 h in
          (r.0 ∷ r.0 ∷ I32 ∷ [], r.0 ∷ [], r.1, (r.0, (refl, refl)), (take_law f.dead f.entries (I32 ∷ []) (r.0 ∷ r.0 ∷ r.1)).1 r.2, r.3),
    )
apply_law (ill w) f ts = (λ h. h.3, λ h. absurd h)
