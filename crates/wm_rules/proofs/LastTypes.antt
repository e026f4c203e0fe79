-- The answers to a change of the last function type.
use Rattle.std.proofs.Common.{◌≡◌, ℕ, zero, suc, ◌-◌, ◌<◌, List, [], ◌∷◌, ◌++◌, Option, Some, None, Result, Ok, Err, length, get_or, slice_get, option_to_list, is_some, true, ◌+◌, ◌^◌, min, take, sum_by, refl, subst, arith}
use Rattle.std.proofs.lemmas.Option.{slice_get-get_or}
use Rattle.wm_syntax.specs.declared.types.ValType.{ValType}
use Rattle.wm_syntax.specs.declared.why.Why.{Why}
use Rattle.wm_syntax.specs.declared.why.Why.TheVariants.{Arity, Index}
use Rattle.wm_syntax.specs.Types.{Signature}
use Rattle.wm_typing.specs.inner.FuncTypes.{with_last}
use Rattle.std.proofs.lemmas.List.Sums.{sum_by_more}
use Rattle.wm_rules.specs.Kept.{capped_count, width}
use Rattle.wm_rules.specs.exact.Spaces.{on_last, one_param_more, one_result_more}

changed : {X : Type 0} (f : X → Result X Why) (g : X → X) (xs : List X) (n : ℕ) (x : X) → length xs ≡ suc n → slice_get xs n ≡ Some x → f x ≡ Ok (g x) → on_last f xs ≡ Ok (with_last g xs)
changed f g [] n x len at is = absurd (omega (arith, len))
changed {X} f g (y ∷ []) zero x len at is =
    let k : x ≡ y = cc in
    let e : f y ≡ Ok (g y) = subst (λ (z : X). f z ≡ Ok (g z)) k is in
    rw e refl
changed f g (y ∷ []) (suc n) x len at is = absurd (omega (arith, len))
changed f g (y ∷ z ∷ ys) zero x len at is = absurd (omega (arith, len))
changed f g (y ∷ z ∷ ys) (suc n) x len at is =
    let k : length (z ∷ ys) ≡ suc n = omega (arith, len) in
    rw (changed f g (z ∷ ys) n x k at is) refl

refused : {X : Type 0} (f : X → Result X Why) (w : Why) (xs : List X) (n : ℕ) (x : X) → length xs ≡ suc n → slice_get xs n ≡ Some x → f x ≡ Err w → on_last f xs ≡ Err w
refused f w [] n x len at is = absurd (omega (arith, len))
refused {X} f w (y ∷ []) zero x len at is =
    let k : x ≡ y = cc in
    let e : f y ≡ Err w = subst (λ (z : X). f z ≡ Err w) k is in
    rw e refl
refused f w (y ∷ []) (suc n) x len at is = absurd (omega (arith, len))
refused f w (y ∷ z ∷ ys) zero x len at is = absurd (omega (arith, len))
refused f w (y ∷ z ∷ ys) (suc n) x len at is =
    let k : length (z ∷ ys) ≡ suc n = omega (arith, len) in
    rw (refused f w (z ∷ ys) n x k at is) refl

-- where there is no type
pub no_last : (f : Signature → Result Signature Why) (ts : List Signature) → slice_get ts (length ts - 1) ≡ None → on_last f ts ≡ Err Index
no_last f [] at = refl
no_last f (t ∷ ts) at =
    let is : slice_get (t ∷ ts) (length (t ∷ ts) - 1) ≡ Some (get_or (t ∷ ts) (length (t ∷ ts) - 1) t) = slice_get-get_or (t ∷ ts) (length (t ∷ ts) - 1) t (omega arith) in
    absurd (cc)

pub none_to_change : (f : Signature → Result Signature Why) (ts : List Signature) → length ts ≡ 0 → on_last f ts ≡ Err Index
none_to_change f [] none = refl
none_to_change f (t ∷ ts) none = absurd (omega (arith, none))

pub one_param : (t : ValType) (ts : List Signature) → 0 < length ts → on_last (one_param_more t) ts ≡ Ok (with_last (λ f. record f { params = f.params ++ t ∷ [] }) ts)
one_param t [] some = absurd (omega (arith, some))
one_param t (x ∷ []) some = refl
one_param t (x ∷ y ∷ ts) some = rw (one_param t (y ∷ ts) (omega arith)) refl

length_of_some : (ts : List Signature) (f : Signature) → slice_get ts (length ts - 1) ≡ Some f → length ts ≡ suc (length ts - 1)
length_of_some [] f at = absurd (cc)
length_of_some (t ∷ ts) f at = omega arith

pub one_result : (t : ValType) (ts : List Signature) (params : List ValType) (given : Option ValType) → slice_get ts (length ts - 1) ≡ Some (record { params = params; results = option_to_list given })
    → given ≡ None → on_last (one_result_more t) ts ≡ Ok (with_last (λ f. record f { results = t ∷ [] }) ts)
one_result t ts params given at none =
    let x : Signature = record { params = params; results = [] } in
    let e : slice_get ts (length ts - 1) ≡ Some x = subst (λ (o : Option ValType). slice_get ts (length ts - 1) ≡ Some (record { params = params; results = option_to_list o })) none at in
    changed (one_result_more t) (λ f. record f { results = t ∷ [] }) ts (length ts - 1) x (length_of_some ts x e) e refl

pub two_results : (t : ValType) (ts : List Signature) (params : List ValType) (given : Option ValType) → slice_get ts (length ts - 1) ≡ Some (record { params = params; results = option_to_list given })
    → is_some given ≡ true → on_last (one_result_more t) ts ≡ Err Arity
two_results t ts params None at some = absurd (cc)
two_results t ts params (Some u) at some =
    let x : Signature = record { params = params; results = u ∷ [] } in
    refused (one_result_more t) Arity ts (length ts - 1) x (length_of_some ts x at) at refl

-- the widths of the types so far, and of one more
pub one_width_more : (ts : List Signature) (i s w r : ℕ) → i < length ts → s ≡ capped_count (sum_by width (take i ts)) → ((f : Signature) → slice_get ts i ≡ Some f → w ≡ width f)
    → r ≡ min (s + w) (2 ^ 64 - 1) → r ≡ capped_count (sum_by width (take (i + 1) ts))
one_width_more ts i s w r l sum is more =
    let none : Signature = record { params = []; results = [] } in
    let own : w ≡ width (get_or ts i none) = is (get_or ts i none) (slice_get-get_or ts i none l) in
    omega (arith, sum, own, more, sum_by_more width ts i none l)
