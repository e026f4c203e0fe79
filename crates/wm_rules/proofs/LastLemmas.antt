-- A change of the last item of a list, as an answer that may be refused.
use Rattle.std.proofs.Common.{◌≡◌, ℕ, zero, suc, ◌-◌, ◌<◌, ◌≤◌, List, [], ◌∷◌, ◌++◌, Result, Ok, Err, length, slice_index_or, slice_set, nat_eq, if◌then◌else◌, Bool, true, false, OnErr, refl, ap, sym, subst, ◌∙◌, arith, length-append}
use Rattle.std.proofs.lemmas.Bool.Decides.{nat_tests}
use Rattle.std.specs.List.{AllByRecursion}
use Rattle.wm_syntax.specs.declared.types.ValType.{ValType}
use Rattle.wm_syntax.specs.declared.why.Why.{Why}
use Rattle.wm_syntax.specs.declared.why.Why.TheVariants.{Arity}
use Rattle.wm_syntax.specs.Types.{Signature}
use Rattle.wm_typing.specs.Contexts.{AreTypes}
use Rattle.wm_machine.specs.Sinks.{Taken, and_then}
use Rattle.wm_rules.specs.exact.Spaces.{on_last, one_param_more, one_result_more}

-- an answer that is carried on by a function
pub taken_then : {A B U : Type 0} (g : A → B) (e : Result A Why) (r : Result U Why) (a : A) → Taken e r a → Taken (and_then e (λ x. Ok (g x))) r (g a)
taken_then g e (Ok u) a t = rw t refl
taken_then g e (Err w) a t = λ no. rw (t no) refl

pub taken_last : {X U : Type 0} (f : X → Result X Why) (x : X) (xs : List X) (e new : X) (r : Result U Why) → slice_index_or (x ∷ xs) (length xs) e ≡ e → Taken (f e) r new → Taken (on_last f (x ∷ xs)) r (slice_set (x ∷ xs) (length xs) new)
taken_last f x [] e new r is t = rw is (taken_then (λ y. y ∷ []) (f e) r new t)
taken_last f x (y ∷ ys) e new r is t = taken_then (λ zs. x ∷ zs) (on_last f (y ∷ ys)) r (slice_set (y ∷ ys) (length ys) new) (taken_last f y ys e new r is t)

-- the same at the index that the code has
pub taken_at_end : {X U : Type 0} (f : X → Result X Why) (xs : List X) (n : ℕ) (e new : X) (r : Result U Why) → n ≡ length xs → 0 < n → e ≡ slice_index_or xs (n - 1) e → Taken (f e) r new → Taken (on_last f xs) r (slice_set xs (n - 1) new)
taken_at_end f [] n e new r is some at t = absurd (omega arith)
taken_at_end f (x ∷ xs) n e new r is some at t =
    let k : n - 1 ≡ length xs = omega arith in
    rw k (taken_last f x xs e new r (rw k at (sym at)) t)

set_same : {X : Type 0} (xs : List X) (i : ℕ) (e : X) → e ≡ slice_index_or xs i e → slice_set xs i e ≡ xs
set_same [] i e is = refl
set_same (x ∷ xs) zero e is = ap (λ y. y ∷ xs) is
set_same (x ∷ xs) (suc i) e is = ap (λ ys. x ∷ ys) (set_same xs i e is)

-- where the last item is put back, nothing has changed
pub put_back : {X U : Type 0} (xs : List X) (n : ℕ) (e new : X) (r : Result U Why) → e ≡ slice_index_or xs n e → OnErr r (new ≡ e) → OnErr r (slice_set xs n new ≡ xs)
put_back xs n e new (Ok u) is h = tt
put_back xs n e new (Err w) is h = ap (slice_set xs n) h ∙ set_same xs n e is

-- what a change of the last item leaves
pub record Keeps {X : Type 0} (P : X → Type 0) (xs ys : List X) : Type 0 where
  pub each : AllByRecursion P xs → AllByRecursion P ys
  pub long : length ys ≡ length xs

and_then_ok : {A B : Type 0} (e : Result A Why) (f : A → Result B Why) (b : B) → and_then e f ≡ Ok b → (a : A) × (e ≡ Ok a) × (f a ≡ Ok b)
and_then_ok (Ok a) f b h = (a, refl, h)
and_then_ok (Err w) f b h = cc

pub last_keeps : {X : Type 0} (P : X → Type 0) (f : X → Result X Why) → ((x y : X) → f x ≡ Ok y → P x → P y) → (xs ys : List X) → on_last f xs ≡ Ok ys → Keeps P xs ys
last_keeps P f step [] ys e = cc
last_keeps {X} P f step (x ∷ []) ys e =
    let s = and_then_ok (f x) (λ (y : X). Ok (y ∷ [])) ys e in
    let is : s.0 ∷ [] ≡ ys = cc (s.2) in
    subst (λ (zs : List X). Keeps P (x ∷ []) zs) is (record { each = λ h. (step x s.0 s.1 h.0, tt); long = refl })
last_keeps {X} P f step (x ∷ y ∷ xs) ys e =
    let s = and_then_ok (on_last f (y ∷ xs)) (λ (zs : List X). Ok (x ∷ zs)) ys e in
    let is : x ∷ s.0 ≡ ys = cc (s.2) in
    let rest = last_keeps P f step (y ∷ xs) s.0 s.1 in
    subst (λ (zs : List X). Keeps P (x ∷ y ∷ xs) zs) is (record { each = λ h. (h.0, rest.each h.1); long = ap suc rest.long })

abbrev OneResult : Signature → Type 0
OneResult f = length f.results ≤ 1

param_keeps : (t : ValType) (f g : Signature) → one_param_more t f ≡ Ok g → OneResult f → OneResult g
param_keeps t f g e h =
    let is : record f { params = f.params ++ t ∷ [] } ≡ g = cc in
    subst OneResult is h

result_keeps : (t : ValType) (f g : Signature) → one_result_more t f ≡ Ok g → OneResult f → OneResult g
result_keeps t f g e h = go (nat_eq (length f.results) 0) refl e
  where
    go : (b : Bool) → nat_eq (length f.results) 0 ≡ b → (if b then Ok (record f { results = f.results ++ t ∷ [] }) else Err Arity) ≡ Ok g → OneResult g
    go true is e =
        let same : record f { results = f.results ++ t ∷ [] } ≡ g = cc in
        let few : length f.results ≡ 0 = grind (arith, nat_tests) in
        subst OneResult same (omega (arith, length-append f.results (t ∷ [])))
    go false is e = cc

same_indices : (functions : List ℕ) (m n : ℕ) → m ≡ n → AllByRecursion (λ x. x < m) functions → AllByRecursion (λ x. x < n) functions
same_indices functions m n e h = rw (← e) h

types_after : {U : Type 0} (f : Signature → Result Signature Why) → ((x y : Signature) → f x ≡ Ok y → OneResult x → OneResult y) → (types new : List Signature) (functions : List ℕ) (r : Result U Why) → Taken (on_last f types) r new → OnErr r (new ≡ types) → AreTypes types functions → AreTypes new functions
types_after f step types new functions (Ok u) t err h =
    let keeps = last_keeps OneResult f step types new t in
    record { results = keeps.each h.results; indices = same_indices functions _ _ (sym keeps.long) h.indices }
types_after f step types new functions (Err w) t err h = subst (λ (ts : List Signature). AreTypes ts functions) (sym err) h

pub param_types : {U : Type 0} (ty : ValType) (types new : List Signature) (functions : List ℕ) (r : Result U Why) → Taken (on_last (one_param_more ty) types) r new → OnErr r (new ≡ types) → AreTypes types functions → AreTypes new functions
param_types ty = types_after (one_param_more ty) (param_keeps ty)

pub result_types : {U : Type 0} (ty : ValType) (types new : List Signature) (functions : List ℕ) (r : Result U Why) → Taken (on_last (one_result_more ty) types) r new → OnErr r (new ≡ types) → AreTypes types functions → AreTypes new functions
result_types ty = types_after (one_result_more ty) (result_keeps ty)
