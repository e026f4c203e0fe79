-- If the answer is `Mismatch`, one operand has a type other than the taken one, whatever types the others stand
-- for.
use Rattle.std.proofs.Common.{◌≡◌, ◌⊎◌, inl, inr, Bool, true, false, cond, List, [], ◌∷◌, ◌++◌, Option, Some, None, Result, Ok, Err, reverse, length, option_to_list, refl, sym, ◌∙◌, ap, subst, arith, append-nil, append_assoc, length-append, nat_le, nat_lt}
use Rattle.std.proofs.lemmas.Bool.{le-leb, leb-true}
use Rattle.std.proofs.lemmas.List.{reverse-append, reverse-reverse}
use Rattle.wm_syntax.specs.declared.types.ValType.{ValType}
use Rattle.wm_syntax.specs.declared.types.ValType.TheVariants as v
use Rattle.wm_syntax.specs.declared.why.Why.{Why}
use Rattle.wm_syntax.specs.declared.why.Why.TheVariants as why
use Rattle.wm_syntax.specs.Runs.{same}
use Rattle.wm_syntax.proofs.SameTypes.{means, reflexive}
use Rattle.wm_stacks.specs.declared.stack_entries.Entry.{Entry}
use Rattle.wm_stacks.specs.declared.stack_entries.Entry.TheVariants as entry
use Rattle.wm_stacks.specs.declared.stack_entries.Frame.{Frame}
use Rattle.wm_stacks.specs.declared.stack_entries.Reach.{Reach}
use Rattle.wm_stacks.specs.declared.stack_entries.Reach.TheVariants.{Whole, Floor}
use Rattle.wm_stacks.specs.Stack.{Stack, fits}
use Rattle.wm_stacks.specs.exact.Stacks.{any_above, at_floor, close, close_at, count_after_move, cut, goes_on, in_frame, look, pop_to, take_above, take_all, take_any, take_one, takes}
use Rattle.wm_typing.specs.exact.OperandTypes.{join}
use Rattle.wm_typing.specs.exact.Effects.{Effect, fixed, indirect, is_polymorphic, drops, selects, ill}
use Rattle.wm_typing.specs.exact.Ops.{after_call, drive, drive_close, drive_fixed, push_all, push_joined, select_from}
use Rattle.wm_typing.specs.inner.Frames.{Stands}
use Rattle.wm_typing.proofs.Effects.{HasShape}
use Rattle.wm_rules.specs.Meanings.{OperandDiffers}
use Rattle.wm_rules.proofs.InnerFrames.{Over}

-- two types are the same or not
one_or_other : (t u : ValType) → (t ≡ u) ⊎ (t ≡ u → ⊥)
one_or_other t u = of (same t u) refl
  where
    of : (b : Bool) → same t u ≡ b → (t ≡ u) ⊎ (t ≡ u → ⊥)
    of true e = inl (means t u e)
    of false e = inr (λ i. let no : true ≡ false = sym (reflexive u) ∙ (ap (λ z. same z u) (sym i) ∙ e) in cc (no))

-- of two lists, the topmost first, the types differ at some place, and agree above it
abbrev pub Clash : List ValType → List ValType → Type 0
Clash [] us = ⊥
Clash (t ∷ ts) [] = ⊥
Clash (t ∷ ts) (u ∷ us) = (t ≡ u → ⊥) ⊎ ((t ≡ u) × Clash ts us)

differ_on : (ts us above : List ValType) → Clash ts us → OperandDiffers (reverse ts ++ above) (reverse us ++ above)
differ_on [] us above h = absurd h
differ_on (t ∷ ts) [] above h = absurd h
differ_on (t ∷ ts) (u ∷ us) above h = elim h [
  | inl n ↦ record { under = reverse ts; there = t; before = reverse us; wanted = u; above = above; left = turned t ts; taken = turned u us; differ = n }
  | inr s ↦ (
      let d = differ_on ts us (u ∷ above) s.1 in
      record {
        under = d.under;
        there = d.there;
        before = d.before;
        wanted = d.wanted;
        above = d.above;
        left = turned t ts ∙ (ap (λ z. reverse ts ++ z ∷ above) s.0 ∙ d.left);
        taken = turned u us ∙ d.taken;
        differ = d.differ;
      })
]
  where
    turned : (x : ValType) (xs : List ValType) → reverse (x ∷ xs) ++ above ≡ reverse xs ++ x ∷ above
    turned x xs = ap (λ z. z ++ above) (reverse-append (x ∷ []) xs) ∙ append_assoc (reverse xs) (x ∷ []) above

back : (ts : List ValType) → reverse (reverse ts) ++ [] ≡ ts
back ts = append-nil (reverse (reverse ts)) ∙ reverse-reverse ts

pub differs : (types takes : List ValType) → Clash (reverse types) (reverse takes) → OperandDiffers types takes
differs types takes h =
    subst (λ z. OperandDiffers z takes) (back types) (subst (λ z. OperandDiffers (reverse (reverse types) ++ []) z) (back takes) (differ_on (reverse types) (reverse takes) [] h))

-- Whatever types these operands stand for, one clashes with those that are taken, or these are the topmost and
-- the others stand for the rest.
abbrev Fits : Bool → List ValType → List Entry → List ValType → Type 0
Fits un ts left types = ((us : List ValType) → Clash types (ts ++ us)) ⊎ ((rest : List ValType) × (types ≡ ts ++ rest) × Stands un left rest)

-- what a take of these types has done
abbrev Taken : Frame → List Entry → List ValType → Result Reach Why → Stack → Type 0
Taken f es ts (Ok Whole) z = (left : List Entry) × Over z f left × ((un : Bool) (types : List ValType) → Stands un es types → Fits un ts left types)
Taken f es ts (Ok Floor) z = Over z f []
Taken f es ts (Err why.Mismatch) z = (un : Bool) (types : List ValType) → Stands un es types → (us : List ValType) → Clash types (ts ++ us)
Taken f es ts (Err w) z = Unit {0}

looked : (s : Stack) (f : Frame) → Over s f [] → Over (look s) f []
looked s f o = record { rest = o.rest; below = o.below; frames = o.frames; operands = o.operands; floor = o.floor }

floor_taken : (t : ValType) (s : Stack) (f : Frame) (b : Bool) → Over s f [] → Taken f [] (t ∷ []) (at_floor Floor b s).0 (at_floor Floor b s).1
floor_taken t s f true o = looked s f o
floor_taken t s f false o = tt

-- no operand of the frame is left where those below it begin
under_floor : (t : ValType) (s : Stack) (f : Frame) (o : Over s f []) (es : List Entry) → o.below ≡ es → Taken f [] (t ∷ []) (take_above t f es s).0 (take_above t f es s).1
under_floor t s f o [] e = floor_taken t s f f.unreachable o
under_floor t s f o (x ∷ es) e =
    subst (λ b. Taken f [] (t ∷ []) (cond b (takes (fits x t) es s) (at_floor Floor f.unreachable s)).0 (cond b (takes (fits x t) es s) (at_floor Floor f.unreachable s)).1)
    (sym (past (nat_le f.floor (length es)) refl)) (floor_taken t s f f.unreachable o)
  where
    past : (b : Bool) → nat_le f.floor (length es) ≡ b → b ≡ false
    past false i = refl
    past true i = let l = leb-true f.floor (length es) i in let n = ap length e in absurd (omega (arith, l, n, o.floor))

top_taken : (t : ValType) (s : Stack) (f : Frame) (e : Entry) (es : List Entry) (o : Over s f (e ∷ es)) (b : Bool) → fits e t ≡ b
    → Taken f (e ∷ es) (t ∷ []) (takes b (es ++ o.below) s).0 (takes b (es ++ o.below) s).1
top_taken t s f e es o true i = (
  es,
  record { rest = o.rest; below = o.below; frames = o.frames; operands = refl; floor = o.floor },
  λ un types h. left un types h,
)
  where
    left : (un : Bool) (types : List ValType) → Stands un (e ∷ es) types → Fits un (t ∷ []) es types
    left un [] h = absurd h
    left un (u ∷ us) h = elim (one_or_other u t) [ inl k ↦ inr (us, ap (λ z. z ∷ us) k, h.1) | inr n ↦ inl (λ xs. inl n) ]
top_taken t s f e es o false i = λ un types h us. other un types h us
  where
    other : (un : Bool) (types : List ValType) → Stands un (e ∷ es) types → (us : List ValType) → Clash types (t ∷ us)
    other un [] h us = absurd h
    other un (u ∷ ts) h us = inl (λ k. let no : true ≡ false = sym h.0 ∙ (ap (fits e) k ∙ i) in cc (no))

above_taken : (t : ValType) (s : Stack) (f : Frame) (es : List Entry) (o : Over s f es) → Taken f es (t ∷ []) (take_above t f (es ++ o.below) s).0 (take_above t f (es ++ o.below) s).1
above_taken t s f [] o = under_floor t s f o o.below refl
above_taken t s f (e ∷ es) o =
    subst (λ b. Taken f (e ∷ es) (t ∷ []) (cond b (takes (fits e t) (es ++ o.below) s) (at_floor Floor f.unreachable s)).0 (cond b (takes (fits e t) (es ++ o.below) s) (at_floor Floor f.unreachable s)).1)
    (sym (le-leb f.floor (length (es ++ o.below)) (omega (arith, o.floor, length-append es o.below)))) (top_taken t s f e es o (fits e t) refl)

one_taken : (t : ValType) (s : Stack) (f : Frame) (es : List Entry) → Over s f es → Taken f es (t ∷ []) (take_one t s).0 (take_one t s).1
one_taken t s f es o =
    subst (λ fs. Taken f es (t ∷ []) (in_frame fs (λ g. take_above t g s.operands s) s).0 (in_frame fs (λ g. take_above t g s.operands s) s).1) (sym o.frames)
    (subst (λ xs. Taken f es (t ∷ []) (take_above t f xs s).0 (take_above t f xs s).1) (sym o.operands) (above_taken t s f es o))

-- one, and then the others
joined : (t : ValType) (ts types us : List ValType) → ((xs : List ValType) → Clash types ((t ∷ []) ++ xs)) → Clash types ((t ∷ ts) ++ us)
joined t ts types us h = h (ts ++ us)

same_first : (t : ValType) (rest types xs : List ValType) → types ≡ (t ∷ []) ++ rest → Clash rest xs → Clash types (t ∷ xs)
same_first t rest types xs e h = subst (λ z. Clash z (t ∷ xs)) (sym e) (inr (refl, h))

more_taken : (f : Frame) (t : ValType) (ts : List ValType) (es left : List Entry) → ((un : Bool) (types : List ValType) → Stands un es types → Fits un (t ∷ []) left types)
    → (r : Result Reach Why) (z : Stack) → Taken f left ts r z → Taken f es (t ∷ ts) r z
more_taken f t ts es left one (Ok Whole) z k = (
  k.0,
  k.1,
  λ un types h. elim (one un types h) [
    | inl c ↦ inl (λ us. joined t ts types us c)
    | inr r ↦ elim (k.2 un r.0 r.2) [
      | inl c ↦ inl (λ us. same_first t r.0 types (ts ++ us) r.1 (c us))
      | inr q ↦ inr (q.0, r.1 ∙ ap (λ y. t ∷ y) q.1, q.2)
    ]
  ],
)
more_taken f t ts es left one (Ok Floor) z k = k
more_taken f t ts es left one (Err why.Mismatch) z k = λ un types h us. elim (one un types h) [
  | inl c ↦ joined t ts types us c
  | inr r ↦ same_first t r.0 types (ts ++ us) r.1 (k un r.0 r.2 us)
]
more_taken f t ts es left one (Err w) z k = tt

then_taken : (f : Frame) (t : ValType) (ts : List ValType) (es : List Entry) (r : Result Reach Why × Stack) (g : Stack → Result Reach Why × Stack) → Taken f es (t ∷ []) r.0 r.1
    → ((z : Stack) (left : List Entry) → Over z f left → Taken f left ts (g z).0 (g z).1) → Taken f es (t ∷ ts) (goes_on r g).0 (goes_on r g).1
then_taken f t ts es (Ok Whole, z) g k next = more_taken f t ts es k.0 k.2 (g z).0 (g z).1 (next z k.0 k.1)
then_taken f t ts es (Ok Floor, z) g k next = k
then_taken f t ts es (Err why.Mismatch, z) g k next = λ un types h us. joined t ts types us (k un types h)
then_taken f t ts es (Err w, z) g k next = tt

all_taken : (ts : List ValType) (s : Stack) (f : Frame) (es : List Entry) → Over s f es → Taken f es ts (take_all ts s).0 (take_all ts s).1
all_taken [] s f es o = (es, o, λ un types h. inr (types, refl, h))
all_taken (t ∷ ts) s f es o = then_taken f t ts es (take_one t s) (take_all ts) (one_taken t s f es o) (λ z left k. all_taken ts z f left k)

-- where nothing is left of a frame, no take is answered so
none_left : (f : Frame) (ts : List ValType) (z : Stack) → Taken f [] ts (Err why.Mismatch) z → ⊥
none_left f ts z h = h false [] refl []

-- one operand of any type: the topmost, or one that is unknown
abbrev TakenAny : Frame → List Entry → Result Entry Why → Stack → Type 0
TakenAny f es (Ok e) z = (left : List Entry) × Over z f left × ((es ≡ e ∷ left) ⊎ (e ≡ entry.Unknown))
TakenAny f es (Err why.Mismatch) z = ⊥
TakenAny f es (Err w) z = Unit {0}

floor_any : (s : Stack) (f : Frame) (b : Bool) → Over s f [] → TakenAny f [] (at_floor entry.Unknown b s).0 (at_floor entry.Unknown b s).1
floor_any s f true o = ([], looked s f o, inr refl)
floor_any s f false o = tt

under_any : (s : Stack) (f : Frame) (o : Over s f []) (es : List Entry) → o.below ≡ es → TakenAny f [] (any_above f es s).0 (any_above f es s).1
under_any s f o [] e = floor_any s f f.unreachable o
under_any s f o (x ∷ es) e =
    subst (λ b. TakenAny f [] (cond {A = Result Entry Why × Stack} b (Ok x, pop_to es s) (at_floor entry.Unknown f.unreachable s)).0 (cond {A = Result Entry Why × Stack} b (Ok x, pop_to es s) (at_floor entry.Unknown f.unreachable s)).1)
    (sym (past (nat_le f.floor (length es)) refl)) (floor_any s f f.unreachable o)
  where
    past : (b : Bool) → nat_le f.floor (length es) ≡ b → b ≡ false
    past false i = refl
    past true i = let l = leb-true f.floor (length es) i in let n = ap length e in absurd (omega (arith, l, n, o.floor))

above_any : (s : Stack) (f : Frame) (es : List Entry) (o : Over s f es) → TakenAny f es (any_above f (es ++ o.below) s).0 (any_above f (es ++ o.below) s).1
above_any s f [] o = under_any s f o o.below refl
above_any s f (e ∷ es) o =
    subst (λ b. TakenAny f (e ∷ es) (cond {A = Result Entry Why × Stack} b (Ok e, pop_to (es ++ o.below) s) (at_floor entry.Unknown f.unreachable s)).0 (cond {A = Result Entry Why × Stack} b (Ok e, pop_to (es ++ o.below) s) (at_floor entry.Unknown f.unreachable s)).1)
    (sym (le-leb f.floor (length (es ++ o.below)) (omega (arith, o.floor, length-append es o.below))))
    (es, record { rest = o.rest; below = o.below; frames = o.frames; operands = refl; floor = o.floor }, inl refl)

any_taken : (s : Stack) (f : Frame) (es : List Entry) → Over s f es → TakenAny f es (take_any s).0 (take_any s).1
any_taken s f es o =
    subst (λ fs. TakenAny f es (in_frame fs (λ g. any_above g s.operands s) s).0 (in_frame fs (λ g. any_above g s.operands s) s).1) (sym o.frames)
    (subst (λ xs. TakenAny f es (any_above f xs s).0 (any_above f xs s).1) (sym o.operands) (above_any s f es o))

-- the first call was refused, where no later one can be
err_first : {A : Type 0} (r : Result A Why × Stack) (k : A → Stack → Stack) → after_call r (λ x z. Ok (k x z)) ≡ Err why.Mismatch → r.0 ≡ Err why.Mismatch
err_first (Ok a, z) k e = absurd (cc)
err_first (Err w, z) k e = let same : w ≡ why.Mismatch = cc in ap Err same

-- all types that the operands stand for clash with these
abbrev AllClash : List Entry → List ValType → Type 0
AllClash es ts = (un : Bool) (types : List ValType) → Stands un es types → (us : List ValType) → Clash types (ts ++ us)

fixed_clash : (p q : List ValType) (s : Stack) (f : Frame) (es : List Entry) → Over s f es → drive_fixed p q s ≡ Err why.Mismatch → AllClash es (reverse p)
fixed_clash p q s f es o e =
    subst (λ r. Taken f es (reverse p) r (take_all (reverse p) s).1) (err_first (take_all (reverse p) s) (λ r z. push_all q z) e) (all_taken (reverse p) s f es o)

indirect_clash : (p q : List ValType) (f : Frame) (es : List Entry) (x : Result Reach Why × Stack) → Taken f es (v.I32 ∷ []) x.0 x.1 → after_call x (λ r z. drive_fixed p q z) ≡ Err why.Mismatch
    → AllClash es (v.I32 ∷ reverse p)
indirect_clash p q f es (Ok Whole, z) t e = more_taken f v.I32 (reverse p) es t.0 t.2 (Err why.Mismatch) z (fixed_clash p q z f t.0 t.1 e)
indirect_clash p q f es (Ok Floor, z) t e = absurd (none_left f (reverse p) z (fixed_clash p q z f [] t e))
indirect_clash p q f es (Err w, z) t e =
    let same : w ≡ why.Mismatch = cc in
    let k = subst (λ y. Taken f es (v.I32 ∷ []) (Err y) z) same t in
    λ un types h us. joined v.I32 (reverse p) types us (k un types h)

-- two operands that do not join stand for no one type
abbrev join_with : Bool → Entry → Option Entry
join_with b e = cond b (Some e) None

by_type : (t : ValType) (a b : Entry) (u : ValType) → t ≡ u → fits b u ≡ true → join_with (fits b t) a ≡ None → ⊥
by_type t a b u i h e =
    let f : fits b t ≡ true = ap (fits b) i ∙ h in
    let some : Some a ≡ None = ap (λ z. join_with z a) (sym f) ∙ e in
    cc (some)

-- a type that an operand may have
abbrev some : Entry → ValType
some entry.Unknown = v.I32
some entry.I32 = v.I32
some entry.I64 = v.I64
some entry.F32 = v.F32
some entry.F64 = v.F64

some_fits : (a : Entry) → fits a (some a) ≡ true
some_fits entry.Unknown = refl
some_fits entry.I32 = refl
some_fits entry.I64 = refl
some_fits entry.F32 = refl
some_fits entry.F64 = refl

no_join : (a b : Entry) (t : ValType) → fits a t ≡ true → fits b t ≡ true → join a b ≡ None → ⊥
no_join entry.Unknown b t g h e = cc
no_join entry.I32 b t g h e = by_type v.I32 entry.I32 b t (means v.I32 t g) h e
no_join entry.I64 b t g h e = by_type v.I64 entry.I64 b t (means v.I64 t g) h e
no_join entry.F32 b t g h e = by_type v.F32 entry.F32 b t (means v.F32 t g) h e
no_join entry.F64 b t g h e = by_type v.F64 entry.F64 b t (means v.F64 t g) h e

push_never : (o : Option Entry) (z : Stack) → push_joined o z ≡ Err why.Mismatch → o ≡ None
push_never None z e = refl
push_never (Some y) z e = absurd (cc)

other_types : (a b : Entry) (un : Bool) (left : List Entry) (types : List ValType) → join a b ≡ None → Stands un (a ∷ b ∷ left) types → (t : ValType) (us : List ValType) → Clash types (t ∷ t ∷ us)
other_types a b un left [] e h t us = absurd h
other_types a b un left (x ∷ []) e h t us = absurd h.1
other_types a b un left (x ∷ y ∷ types) e h t us = elim (one_or_other x t) [
  | inr n ↦ inl n
  | inl i ↦ elim (one_or_other y t) [
    | inr n ↦ inr (i, inl n)
    | inl j ↦ absurd (no_join a b t (ap (fits a) (sym i) ∙ h.0) (ap (fits b) (sym j) ∙ h.1.0) e)
  ]
]

second_clash : (a : Entry) (f : Frame) (es left : List Entry) (x : Result Entry Why × Stack) → ((es ≡ a ∷ left) ⊎ (a ≡ entry.Unknown)) → TakenAny f left x.0 x.1
    → after_call x (λ b z. push_joined (join a b) z) ≡ Err why.Mismatch → (t : ValType) → AllClash es (t ∷ t ∷ [])
second_clash a f es left (Ok b, z) first k e t un types h us = elim first [
  | inr unknown ↦ absurd (let n = push_never (join a b) z e in let j : join entry.Unknown b ≡ None = ap (λ y. join y b) (sym unknown) ∙ n in cc (j))
  | inl is ↦ elim k.2 [
    | inr unknown ↦ absurd (joins a b unknown (push_never (join a b) z e))
    | inl also ↦ other_types a b un k.0 types (push_never (join a b) z e) (subst (λ xs. Stands un xs types) (is ∙ ap (λ y. a ∷ y) also) h) t us
  ]
]
  where
    joins : (a b : Entry) → b ≡ entry.Unknown → join a b ≡ None → ⊥
    joins a b u e = no_join a b (some a) (some_fits a) (ap (λ y. fits y (some a)) u) e
second_clash a f es left (Err w, z) first k e t un types h us =
    let same : w ≡ why.Mismatch = cc in absurd (subst (λ y. TakenAny f left (Err y) z) same k)

first_clash : (f : Frame) (es : List Entry) (x : Result Entry Why × Stack) → TakenAny f es x.0 x.1 → after_call x (λ a y. after_call (take_any y) (λ b z. push_joined (join a b) z)) ≡ Err why.Mismatch
    → (t : ValType) → AllClash es (t ∷ t ∷ [])
first_clash f es (Ok a, y) k e t = second_clash a f es k.0 (take_any y) k.2 (any_taken y f k.0 k.1) e t
first_clash f es (Err w, y) k e t = let same : w ≡ why.Mismatch = cc in absurd (subst (λ z. TakenAny f es (Err z) y) same k)

select_clash : (f : Frame) (es : List Entry) (x : Result Reach Why × Stack) → Taken f es (v.I32 ∷ []) x.0 x.1 → after_call x select_from ≡ Err why.Mismatch
    → (t : ValType) → AllClash es (v.I32 ∷ t ∷ t ∷ [])
select_clash f es (Ok Whole, z) k e t = more_taken f v.I32 (t ∷ t ∷ []) es k.0 k.2 (Err why.Mismatch) z (first_clash f k.0 (take_any z) (any_taken z f k.0 k.1) e t)
select_clash f es (Ok Floor, z) k e t = absurd (cc)
select_clash f es (Err w, z) k e t =
    let same : w ≡ why.Mismatch = cc in
    let m = subst (λ y. Taken f es (v.I32 ∷ []) (Err y) z) same k in
    λ un types h us. joined v.I32 (t ∷ t ∷ []) types us (m un types h)

-- whatever the instruction takes, an operand has another type
pub drive_clash : (d : Effect) (s : Stack) (f : Frame) (es : List Entry) → Over s f es → drive d s ≡ Err why.Mismatch → (d ≡ ill why.Mismatch → ⊥) → (a r : List ValType) → HasShape d a r
    → (un : Bool) (types : List ValType) → Stands un es types → Clash types (reverse a)
drive_clash (fixed p q) s f es o e n a r h un types k =
    subst (λ b. Clash types b) (append-nil (reverse p) ∙ ap reverse (sym h.0)) (fixed_clash p q s f es o e un types k [])
drive_clash (indirect p q) s f es o e n a r h un types k =
    subst (λ b. Clash types b) (append-nil (v.I32 ∷ reverse p) ∙ (sym (reverse-append p (v.I32 ∷ [])) ∙ ap reverse (sym h.0)))
    (indirect_clash p q f es (take_all (v.I32 ∷ []) s) (all_taken (v.I32 ∷ []) s f es o) e un types k [])
drive_clash (is_polymorphic p) s f es o e n a r h un types k =
    subst (λ b. Clash types b) (sym (reverse-append h.0 p) ∙ ap reverse (sym h.1))
    (subst (λ y. Taken f es (reverse p) y (take_all (reverse p) s).1) (err_first (take_all (reverse p) s) (λ r z. cut z) e) (all_taken (reverse p) s f es o) un types k (reverse h.0))
drive_clash drops s f es o e n a r h un types k =
    absurd (subst (λ y. TakenAny f es y (take_any s).1) (err_first (take_any s) (λ x z. z) e) (any_taken s f es o))
drive_clash selects s f es o e n a r h un types k =
    subst (λ b. Clash types b) (ap reverse (sym h.1.0)) (select_clash f es (take_all (v.I32 ∷ []) s) (all_taken (v.I32 ∷ []) s f es o) e h.0 un types k [])
drive_clash (ill w) s f es o e n a r h un types k = absurd h

-- the end of a list is refused so for its result alone
close_never : (z : Stack) (k : Frame → Stack → Stack) → after_call (close z) (λ g y. Ok (k g y)) ≡ Err why.Mismatch → ⊥
close_never z k e = of z.frames e
  where
    of : (fs : List Frame) → after_call (close_at fs z) (λ g y. Ok (k g y)) ≡ Err why.Mismatch → ⊥
    of [] e = cc
    of (f ∷ fs) e = by (nat_lt f.floor (length z.operands)) e
      where
        by : (b : Bool) → after_call (cond {A = Result Frame Why × Stack} b (Err why.Arity, z) (Ok f, record z { frames = fs; moves = count_after_move z.moves })) (λ g y. Ok (k g y)) ≡ Err why.Mismatch → ⊥
        by true e = cc
        by false e = cc

result_clash : (f : Frame) (es : List Entry) (ts : List ValType) (x : Result Reach Why × Stack) (g : Frame → Stack → Stack) → Taken f es ts x.0 x.1
    → after_call x (λ r z. after_call (close z) (λ h y. Ok (g h y))) ≡ Err why.Mismatch → AllClash es ts
result_clash f es ts (Ok r, z) g t e = absurd (close_never z g e)
result_clash f es ts (Err w, z) g t e = let same : w ≡ why.Mismatch = cc in subst (λ y. Taken f es ts (Err y) z) same t

pub close_clash : (t : Option ValType) (s : Stack) (f : Frame) (es : List Entry) (g : Frame → Stack → Stack) → Over s f es → drive_close t s (λ h y. Ok (g h y)) ≡ Err why.Mismatch
    → (un : Bool) (types : List ValType) → Stands un es types → Clash types (reverse (option_to_list t))
close_clash t s f es g o e un types k =
    subst (λ b. Clash types b) (append-nil (reverse (option_to_list t)))
    (result_clash f es (reverse (option_to_list t)) (take_all (reverse (option_to_list t)) s) g (all_taken (reverse (option_to_list t)) s f es o) e un types k [])

pub one_clash : (s : Stack) (f : Frame) (es : List Entry) (k : Reach → Stack → Stack) → Over s f es → after_call (take_all (v.I32 ∷ []) s) (λ r z. Ok (k r z)) ≡ Err why.Mismatch
    → (un : Bool) (types : List ValType) → Stands un es types → Clash types (v.I32 ∷ [])
one_clash s f es k o e un types h =
    subst (λ r. Taken f es (v.I32 ∷ []) r (take_all (v.I32 ∷ []) s).1) (err_first (take_all (v.I32 ∷ []) s) k e) (all_taken (v.I32 ∷ []) s f es o) un types h []
