-- Lists by index and by recursion.
use Rattle.std.proofs.Common.{ℕ, zero, suc, ◌≡◌, ◌≢◌, ◌≤◌, ◌<◌, List, [], ◌∷◌, Some, length, refl, subst, arith, slice_get, slice_index_or, option_to_list}
use Rattle.std.specs.List.{AllByRecursion, AllPairs}
use Rattle.wm_typing.specs.Contexts.{first_of}
use Rattle.wm_rules.proofs.GoodValues.{AreDistinct}

all_at : {X : Type 0} (P : X → Type 0) (xs : List X) → AllByRecursion P xs → (j : ℕ) (d : X) → j < length xs → P (slice_index_or xs j d)
all_at P [] h j d l = absurd (omega (arith, l))
all_at P (x ∷ xs) h zero d l = h.0
all_at P (x ∷ xs) h (suc j) d l = all_at P xs h.1 j d (omega (arith, l))

all_of : {X : Type 0} (P : X → Type 0) (xs : List X) (d : X) → ((j : ℕ) → j < length xs → P (slice_index_or xs j d)) → AllByRecursion P xs
all_of P [] d h = tt
all_of P (x ∷ xs) d h = (h 0 (omega arith), all_of P xs d (λ j l. h (suc j) (omega (arith, l))))

pub pairs_from : (xs : List (List ℕ)) → AreDistinct xs → AllPairs (λ a b. a ≢ b) xs
pairs_from [] h i j d l m = absurd (omega (arith, m))
pairs_from (x ∷ xs) h i zero d l m = absurd (omega (arith, l))
pairs_from (x ∷ xs) h zero (suc j) d l m = all_at (λ y. x ≢ y) xs h.0 j d (omega (arith, m))
pairs_from (x ∷ xs) h (suc i) (suc j) d l m = pairs_from xs h.1 i j d (omega (arith, l)) (omega (arith, m))

pub pairs_to : (xs : List (List ℕ)) → AllPairs (λ a b. a ≢ b) xs → AreDistinct xs
pairs_to [] h = tt
pairs_to (x ∷ xs) h = (
  all_of (λ y. x ≢ y) xs [] (λ j l. h 0 (suc j) [] (omega arith) (omega (arith, l))),
  pairs_to xs (λ i j d l m. h (suc i) (suc j) d (omega (arith, l)) (omega (arith, m))),
)

pub some_at : {X : Type 0} (xs : List X) (k : ℕ) → k < length xs → (x : X) × (slice_get xs k ≡ Some x)
some_at [] k l = absurd (omega (arith, l))
some_at (x ∷ xs) zero l = (x, refl)
some_at (x ∷ xs) (suc k) l = some_at xs k (omega (arith, l))

pub all_get : {X : Type 0} (P : X → Type 0) (xs : List X) → AllByRecursion P xs → (k : ℕ) (x : X) → slice_get xs k ≡ Some x → P x
all_get P [] h k x e = absurd (cc)
all_get P (y ∷ xs) h zero x e = let s : y ≡ x = cc in subst P s h.0
all_get P (y ∷ xs) h (suc k) x e = all_get P xs h.1 k x e

-- at most one item is the first one, if there is one
pub one_item : {X : Type 0} (xs : List X) → length xs ≤ 1 → option_to_list (first_of xs) ≡ xs
one_item [] h = refl
one_item (x ∷ []) h = refl
one_item (x ∷ y ∷ xs) h = absurd (omega (arith, h))
