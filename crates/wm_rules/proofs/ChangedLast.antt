-- A change of the last item of a list, for a builder.
use Rattle.std.proofs.Common.{◌≡◌, ℕ, ◌-◌, ◌<◌, List, [], ◌∷◌, Result, Ok, Err, length, slice_index_or, slice_set, ap, sym, ◌∙◌, arith}
use Rattle.wm_syntax.specs.declared.why.Why.{Why}
use Rattle.wm_machine.specs.Sinks.{Taken}
use Rattle.wm_rules.specs.exact.Built.{change_last}

changed : {X : Type 0} (f : X → X) (x : X) (xs : List X) (e : X) → slice_index_or (x ∷ xs) (length xs) e ≡ e → change_last f (x ∷ xs) ≡ slice_set (x ∷ xs) (length xs) (f e)
changed f x [] e is = ap (λ y. f y ∷ []) is
changed f x (y ∷ ys) e is = ap (λ zs. x ∷ zs) (changed f y ys e is)

changed_at : {X : Type 0} (f : X → X) (xs : List X) (n : ℕ) (e : X) → n ≡ length xs → 0 < n → e ≡ slice_index_or xs (n - 1) e → change_last f xs ≡ slice_set xs (n - 1) (f e)
changed_at f [] n e is some at = absurd (omega arith)
changed_at f (x ∷ xs) n e is some at =
    let k : n - 1 ≡ length xs = omega arith in
    rw k (changed f x xs e (rw k at (sym at)))

-- the last one was taken, changed and put back
pub taken_last : {X : Type 0} (f : X → X) (xs : List X) (n : ℕ) (e new : X) (r : Result (Unit {0}) Why) → n ≡ length xs → 0 < n → e ≡ slice_index_or xs (n - 1) e
    → Taken (Ok (f e)) r new → Taken (Ok (change_last f xs)) r (slice_set xs (n - 1) new)
taken_last f xs n e new (Ok u) is some at t = ap Ok (changed_at f xs n e is some at) ∙ ap (λ y. Ok (slice_set xs (n - 1) y)) (let q : f e ≡ new = cc (t) in q)
taken_last f xs n e new (Err w) is some at t = λ ne. absurd (cc (t ne))
