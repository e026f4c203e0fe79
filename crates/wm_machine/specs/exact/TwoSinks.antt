-- Two sinks that receive the same items.
use Rattle.std.specs.Prelude.{◌≡◌, ◌⊎◌, ℕ, Result, Ok, Err, IsOk, refl}
use Rattle.wm_syntax.specs.declared.why.Why.{Why}
use Rattle.wm_machine.specs.Items.{Item, data_byte}
use Rattle.wm_machine.specs.Sinks.{and_then}

-- the states after an item that goes to the first sink and then to the second
abbrev pub after_both : {A B : Type 0} → (A → Item → Result A Why) → (B → Item → Result B Why) → A × B → Item
    → Result (A × B) Why
after_both f g h x = and_then (f h.0 x) (λ a. and_then (g h.1 x) (λ b. Ok (a, b)))

-- Memory may run out in the first sink, or in the second after the first has taken the item.
abbrev pub either_runs_out : {A B : Type 0} → (A → Item → Result A Why) → (A → Item → Type 0)
    → (B → Item → Type 0) → A × B → Item → Type 0
either_runs_out {A} f first second h x = first h.0 x ⊎ ((a : A) × (f h.0 x ≡ Ok a) × second h.1 x)

one_by_one : {A B : Type 0} (r : Result A Why) (s : Result B Why) → IsOk r → IsOk s
    → IsOk {T = A × B} (and_then r (λ a. and_then s (λ b. Ok (a, b))))
one_by_one (Ok a) (Ok b) p q = refl
one_by_one (Ok a) (Err w) p q = q
one_by_one (Err w) s p q = p

-- If neither sink refuses data bytes, both together refuse none.
pub both_take_data : {A B : Type 0} (f : A → Item → Result A Why) (g : B → Item → Result B Why)
    → ((a : A) (c : ℕ) → IsOk (f a (data_byte c))) → ((b : B) (c : ℕ) → IsOk (g b (data_byte c)))
    → (h : A × B) (c : ℕ) → IsOk {T = A × B} (after_both f g h (data_byte c))
both_take_data f g p q h c = one_by_one (f h.0 (data_byte c)) (g h.1 (data_byte c)) (p h.0 c) (q h.1 c)
