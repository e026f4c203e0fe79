-- If the answer is `Arity`, too few operands are above the floor of the innermost frame, or too many at the end
-- of a list.
use Rattle.std.proofs.Common.{◌≡◌, ℕ, suc, ◌+◌, ◌-◌, ◌<◌, ◌⊎◌, inl, inr, Bool, true, false, cond, List, [], ◌∷◌, Option, Some, None, Result, Ok, Err, reverse, length, option_to_list, refl, sym, ◌∙◌, ap, subst, arith, length-append, nat_le, nat_lt}
use Rattle.std.proofs.lemmas.Bool.{leb-true, leb-false, ltb-true}
use Rattle.std.proofs.lemmas.List.{length-reverse}
use Rattle.wm_syntax.specs.declared.types.ValType.{ValType}
use Rattle.wm_syntax.specs.declared.types.ValType.TheVariants.{I32}
use Rattle.wm_syntax.specs.declared.why.Why.{Why}
use Rattle.wm_syntax.specs.declared.why.Why.TheVariants as why
use Rattle.wm_stacks.specs.declared.stack_entries.Entry.{Entry}
use Rattle.wm_stacks.specs.declared.stack_entries.Entry.TheVariants.{Unknown}
use Rattle.wm_stacks.specs.declared.stack_entries.Frame.{Frame}
use Rattle.wm_stacks.specs.declared.stack_entries.Reach.{Reach}
use Rattle.wm_stacks.specs.declared.stack_entries.Reach.TheVariants.{Whole, Floor}
use Rattle.wm_stacks.specs.Stack.{Stack, fits}
use Rattle.wm_stacks.specs.exact.Stacks.{any_above, at_floor, close, close_at, count_after_move, cut, goes_on, in_frame, look, pop_to, take_above, take_all, take_any, take_one, takes}
use Rattle.wm_typing.specs.exact.OperandTypes.{join}
use Rattle.wm_typing.specs.exact.Effects.{Effect, fixed, indirect, is_polymorphic, drops, selects, ill}
use Rattle.wm_typing.specs.exact.Ops.{after_call, drive, drive_close, drive_fixed, push_all, push_joined, select_from}
use Rattle.wm_typing.proofs.Effects.{HasShape}

-- so many operands stand above the floor of the innermost frame
pub record Top (s : Stack) (f : Frame) (n : ℕ) : Type 0 where
  pub rest : List Frame
  pub frames : s.frames ≡ f ∷ rest
  pub height : length s.operands ≡ f.floor + n

-- what a take of so many leaves, or lacks
abbrev pub Lacks : Frame → ℕ → ℕ → Type 0
Lacks f n k = (f.unreachable ≡ false) × (n < k)

abbrev Took : Frame → ℕ → ℕ → Result Reach Why → Stack → Type 0
Took f n k (Ok Whole) z = (m : ℕ) × Top z f m × (n ≡ m + k)
Took f n k (Ok Floor) z = (f.unreachable ≡ true) × Top z f 0
Took f n k (Err why.Arity) z = Lacks f n k
Took f n k (Err w) z = Unit {0}

no_more : (f : Frame) (n : ℕ) (s : Stack) → n ≡ 0 → Top s f n → Top (look s) f 0
no_more f n s e t = record { rest = t.rest; frames = t.frames; height = t.height ∙ ap (λ m. f.floor + m) e }

floor_took : (f : Frame) (n : ℕ) (s : Stack) (b : Bool) → f.unreachable ≡ b → n ≡ 0 → Top s f n → Took f n 1 (at_floor Floor b s).0 (at_floor Floor b s).1
floor_took f n s true u e t = (u, no_more f n s e t)
floor_took f n s false u e t = (u, omega (arith, e))

above_took : (t : ValType) (f : Frame) (n : ℕ) (es : List Entry) (s : Stack) → s.operands ≡ es → Top s f n → Took f n 1 (take_above t f es s).0 (take_above t f es s).1
above_took t f n [] s e top =
    let l : length s.operands ≡ 0 = ap length e in
    floor_took f n s f.unreachable refl (omega (arith, l, top.height)) top
above_took t f n (x ∷ es) s e top = go (nat_le f.floor (length es)) refl (fits x t)
  where
    l : length s.operands ≡ suc (length es)
    l = ap length e

    go : (b : Bool) → nat_le f.floor (length es) ≡ b → (d : Bool) → Took f n 1 (cond b (takes d es s) (at_floor Floor f.unreachable s)).0 (cond b (takes d es s) (at_floor Floor f.unreachable s)).1
    go true i true =
        let o = leb-true f.floor (length es) i in
        (n - 1, record { rest = top.rest; frames = top.frames; height = omega (arith, l, o, top.height) }, omega (arith, l, o, top.height))
    go true i false = tt
    go false i d =
        let o = leb-false f.floor (length es) i in
        floor_took f n s f.unreachable refl (omega (arith, l, o, top.height)) top

one_took : (t : ValType) (s : Stack) (f : Frame) (n : ℕ) → Top s f n → Took f n 1 (take_one t s).0 (take_one t s).1
one_took t s f n top =
    subst (λ fs. Took f n 1 (in_frame fs (λ g. take_above t g s.operands s) s).0 (in_frame fs (λ g. take_above t g s.operands s) s).1) (sym top.frames)
    (above_took t f n s.operands s refl top)

one_more : (f : Frame) (n m k : ℕ) (r : Result Reach Why) (z : Stack) → n ≡ m + 1 → Took f m k r z → Took f n (suc k) r z
one_more f n m k (Ok Whole) z e t = (t.0, t.1, omega (arith, e, t.2))
one_more f n m k (Ok Floor) z e t = t
one_more f n m k (Err why.Arity) z e t = (t.0, omega (arith, e, t.1))
one_more f n m k (Err w) z e t = tt

then_took : (f : Frame) (n k : ℕ) (r : Result Reach Why × Stack) (g : Stack → Result Reach Why × Stack) → Took f n 1 r.0 r.1 → ((z : Stack) (m : ℕ) → Top z f m → Took f m k (g z).0 (g z).1)
    → Took f n (suc k) (goes_on r g).0 (goes_on r g).1
then_took f n k (Ok Whole, z) g t next = one_more f n t.0 k (g z).0 (g z).1 t.2 (next z t.0 t.1)
then_took f n k (Ok Floor, z) g t next = t
then_took f n k (Err why.Arity, z) g t next = (t.0, omega (arith, t.1))
then_took f n k (Err w, z) g t next = tt

pub take_took : (ts : List ValType) (s : Stack) (f : Frame) (n : ℕ) → Top s f n → Took f n (length ts) (take_all ts s).0 (take_all ts s).1
take_took [] s f n top = (n, top, omega arith)
take_took (t ∷ ts) s f n top = then_took f n (length ts) (take_one t s) (take_all ts) (one_took t s f n top) (λ z m u. take_took ts z f m u)

-- one operand of any type
abbrev TookAny : Frame → ℕ → Result Entry Why → Stack → Type 0
TookAny f n (Ok e) z = (m : ℕ) × Top z f m × ((n ≡ m + 1) ⊎ (f.unreachable ≡ true))
TookAny f n (Err why.Arity) z = Lacks f n 1
TookAny f n (Err w) z = Unit {0}

floor_any : (f : Frame) (n : ℕ) (s : Stack) (b : Bool) → f.unreachable ≡ b → n ≡ 0 → Top s f n → TookAny f n (at_floor Unknown b s).0 (at_floor Unknown b s).1
floor_any f n s true u e t = (0, no_more f n s e t, inr u)
floor_any f n s false u e t = (u, omega (arith, e))

above_any : (f : Frame) (n : ℕ) (es : List Entry) (s : Stack) → s.operands ≡ es → Top s f n → TookAny f n (any_above f es s).0 (any_above f es s).1
above_any f n [] s e top =
    let l : length s.operands ≡ 0 = ap length e in
    floor_any f n s f.unreachable refl (omega (arith, l, top.height)) top
above_any f n (x ∷ es) s e top = go (nat_le f.floor (length es)) refl
  where
    l : length s.operands ≡ suc (length es)
    l = ap length e

    go : (b : Bool) → nat_le f.floor (length es) ≡ b
        → TookAny f n (cond {A = Result Entry Why × Stack} b (Ok x, pop_to es s) (at_floor Unknown f.unreachable s)).0 (cond {A = Result Entry Why × Stack} b (Ok x, pop_to es s) (at_floor Unknown f.unreachable s)).1
    go true i =
        let o = leb-true f.floor (length es) i in
        (n - 1, record { rest = top.rest; frames = top.frames; height = omega (arith, l, o, top.height) }, inl (omega (arith, l, o, top.height)))
    go false i =
        let o = leb-false f.floor (length es) i in
        floor_any f n s f.unreachable refl (omega (arith, l, o, top.height)) top

any_took : (s : Stack) (f : Frame) (n : ℕ) → Top s f n → TookAny f n (take_any s).0 (take_any s).1
any_took s f n top =
    subst (λ fs. TookAny f n (in_frame fs (λ g. any_above g s.operands s) s).0 (in_frame fs (λ g. any_above g s.operands s) s).1) (sym top.frames)
    (above_any f n s.operands s refl top)

-- the first call was refused, where no later one can be
err_first : {A : Type 0} (r : Result A Why × Stack) (k : A → Stack → Stack) → after_call r (λ x z. Ok (k x z)) ≡ Err why.Arity → r.0 ≡ Err why.Arity
err_first (Ok a, z) k e = absurd (cc)
err_first (Err w, z) k e = let same : w ≡ why.Arity = cc in ap Err same

fixed_lacks : (p q : List ValType) (s : Stack) (f : Frame) (n : ℕ) → Top s f n → drive_fixed p q s ≡ Err why.Arity → Lacks f n (length p)
fixed_lacks p q s f n top e =
    subst (λ k. Lacks f n k) (length-reverse p)
    (subst (λ r. Took f n (length (reverse p)) r (take_all (reverse p) s).1) (err_first (take_all (reverse p) s) (λ r z. push_all q z) e) (take_took (reverse p) s f n top))

clash : {A : Type 0} (b : Bool) → b ≡ true → b ≡ false → A
clash b t e = absurd (let d : true ≡ false = sym t ∙ e in cc (d))

indirect_lacks : (p q : List ValType) (f : Frame) (n : ℕ) (x : Result Reach Why × Stack) → Took f n 1 x.0 x.1 → after_call x (λ r z. drive_fixed p q z) ≡ Err why.Arity → Lacks f n (length p + 1)
indirect_lacks p q f n (Ok Whole, z) t e = let l = fixed_lacks p q z f t.0 t.1 e in (l.0, omega (arith, l.1, t.2))
indirect_lacks p q f n (Ok Floor, z) t e = let l = fixed_lacks p q z f 0 t.1 e in clash f.unreachable t.0 l.0
indirect_lacks p q f n (Err w, z) t e = let same : w ≡ why.Arity = cc in let l = subst (λ v. Took f n 1 (Err v) z) same t in (l.0, omega (arith, l.1))

second_lacks : (a : Entry) (f : Frame) (n : ℕ) (x : Result Entry Why × Stack) → TookAny f n x.0 x.1 → after_call x (λ b z. push_joined (join a b) z) ≡ Err why.Arity → Lacks f n 1
second_lacks a f n (Ok b, z) t e = absurd (none (join a b) e)
  where
    none : (o : Option Entry) → push_joined o z ≡ Err why.Arity → ⊥
    none None e = cc
    none (Some y) e = cc
second_lacks a f n (Err w, z) t e = let same : w ≡ why.Arity = cc in subst (λ v. TookAny f n (Err v) z) same t

first_lacks : (f : Frame) (n : ℕ) (x : Result Entry Why × Stack) → TookAny f n x.0 x.1 → after_call x (λ a y. after_call (take_any y) (λ b z. push_joined (join a b) z)) ≡ Err why.Arity → Lacks f n 2
first_lacks f n (Ok a, y) t e =
    let l = second_lacks a f t.0 (take_any y) (any_took y f t.0 t.1) e in
    (l.0, elim t.2 [ inl i ↦ omega (arith, i, l.1) | inr u ↦ clash f.unreachable u l.0 ])
first_lacks f n (Err w, y) t e = let same : w ≡ why.Arity = cc in let l = subst (λ v. TookAny f n (Err v) y) same t in (l.0, omega (arith, l.1))

select_lacks : (f : Frame) (n : ℕ) (x : Result Reach Why × Stack) → Took f n 1 x.0 x.1 → after_call x select_from ≡ Err why.Arity → Lacks f n 3
select_lacks f n (Ok Whole, z) t e = let l = first_lacks f t.0 (take_any z) (any_took z f t.0 t.1) e in (l.0, omega (arith, l.1, t.2))
select_lacks f n (Ok Floor, z) t e = absurd (cc)
select_lacks f n (Err w, z) t e = let same : w ≡ why.Arity = cc in let l = subst (λ v. Took f n 1 (Err v) z) same t in (l.0, omega (arith, l.1))

-- whatever the instruction takes is more than there is
pub drive_lacks : (d : Effect) (s : Stack) (f : Frame) (n : ℕ) → Top s f n → drive d s ≡ Err why.Arity → (a r : List ValType) → HasShape d a r → Lacks f n (length a)
drive_lacks (fixed p q) s f n top e a r h = subst (λ b. Lacks f n (length b)) (sym h.0) (fixed_lacks p q s f n top e)
drive_lacks (indirect p q) s f n top e a r h =
    let l = indirect_lacks p q f n (take_all (I32 ∷ []) s) (take_took (I32 ∷ []) s f n top) e in
    subst (λ b. Lacks f n (length b)) (sym h.0) (l.0, omega (arith, l.1, length-append p (I32 ∷ [])))
drive_lacks (is_polymorphic p) s f n top e a r h =
    let l = subst (λ z. Took f n (length (reverse p)) z (take_all (reverse p) s).1) (err_first (take_all (reverse p) s) (λ r z. cut z) e) (take_took (reverse p) s f n top) in
    subst (λ b. Lacks f n (length b)) (sym h.1) (l.0, omega (arith, l.1, length-reverse p, length-append h.0 p))
drive_lacks drops s f n top e a r h =
    let l = subst (λ z. TookAny f n z (take_any s).1) (err_first (take_any s) (λ x z. z) e) (any_took s f n top) in
    subst (λ b. Lacks f n (length b)) (sym h.1.0) (l.0, omega (arith, l.1))
drive_lacks selects s f n top e a r h =
    let l = select_lacks f n (take_all (I32 ∷ []) s) (take_took (I32 ∷ []) s f n top) e in
    subst (λ b. Lacks f n (length b)) (sym h.1.0) (l.0, omega (arith, l.1))
drive_lacks (ill w) s f n top e a r h = absurd h

-- at the end of a list: too few for its result, or more
close_kept : (f : Frame) (n : ℕ) (z : Stack) (k : Frame → Stack → Stack) → Top z f n → after_call (close z) (λ g y. Ok (k g y)) ≡ Err why.Arity → 0 < n
close_kept f n z k top e = go (nat_lt f.floor (length z.operands)) refl (subst (λ fs. after_call (close_at fs z) (λ g y. Ok (k g y)) ≡ Err why.Arity) top.frames e)
  where
    go : (b : Bool) → nat_lt f.floor (length z.operands) ≡ b → after_call (cond {A = Result Frame Why × Stack} b (Err why.Arity, z) (Ok f, record z { frames = top.rest; moves = count_after_move z.moves })) (λ g y. Ok (k g y)) ≡ Err why.Arity → 0 < n
    go true i e = let l = ltb-true f.floor (length z.operands) i in omega (arith, l, top.height)
    go false i e = absurd (cc)

abbrev pub Differs : Frame → ℕ → ℕ → Type 0
Differs f n k = Lacks f n k ⊎ (k < n)

ends_with : (f : Frame) (n k : ℕ) (x : Result Reach Why × Stack) (g : Frame → Stack → Stack) → Took f n k x.0 x.1 → after_call x (λ r z. after_call (close z) (λ h y. Ok (g h y))) ≡ Err why.Arity → Differs f n k
ends_with f n k (Ok Whole, z) g t e = let l = close_kept f t.0 z g t.1 e in inr (omega (arith, l, t.2))
ends_with f n k (Ok Floor, z) g t e = let l = close_kept f 0 z g t.1 e in absurd (omega (arith, l))
ends_with f n k (Err w, z) g t e = let same : w ≡ why.Arity = cc in inl (subst (λ v. Took f n k (Err v) z) same t)

pub close_lacks : (t : Option ValType) (s : Stack) (f : Frame) (n : ℕ) (g : Frame → Stack → Stack) → Top s f n → drive_close t s (λ h y. Ok (g h y)) ≡ Err why.Arity → Differs f n (length (option_to_list t))
close_lacks t s f n g top e =
    subst (λ k. Differs f n k) (length-reverse (option_to_list t)) (ends_with f n (length (reverse (option_to_list t))) (take_all (reverse (option_to_list t)) s) g (take_took (reverse (option_to_list t)) s f n top) e)

pub one_lacks : (s : Stack) (f : Frame) (n : ℕ) (k : Reach → Stack → Stack) → Top s f n → after_call (take_all (I32 ∷ []) s) (λ r z. Ok (k r z)) ≡ Err why.Arity → Lacks f n 1
one_lacks s f n k top e =
    subst (λ r. Took f n 1 r (take_all (I32 ∷ []) s).1) (err_first (take_all (I32 ∷ []) s) k e) (take_took (I32 ∷ []) s f n top)
