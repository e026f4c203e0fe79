-- A sink that accepts each item without a change takes all items.
use Rattle.std.proofs.Common.{◌≡◌, List, [], ◌∷◌, Result, Ok, Err, IfErr, refl, ◌∙◌, ap}
use Rattle.wm_syntax.specs.declared.why.Why.{Why}
use Rattle.wm_syntax.specs.declared.why.Why.TheVariants as why
use Rattle.wm_machine.specs.Items.{Item}
use Rattle.wm_machine.specs.Sinks.{RunsOut, and_then, all_taken, Took}

all_quiet : {H : Type 0} (after : H → Item → Result H Why) (h : H) → ((x : Item) → after h x ≡ Ok h) → (xs : List Item) → all_taken after h xs ≡ Ok h
all_quiet after h quiet [] = refl
all_quiet after h quiet (x ∷ xs) = ap (λ y. and_then y (λ g. all_taken after g xs)) (quiet x) ∙ all_quiet after h quiet xs

pub taken_quietly : {H U : Type 0} (after : H → Item → Result H Why) (h : H) → ((x : Item) → after h x ≡ Ok h) → (xs : List Item) (u : U) → Took after h xs (Ok u) h
taken_quietly after h quiet [] u = refl
taken_quietly after h quiet (x ∷ []) u = quiet x
taken_quietly after h quiet (x ∷ y ∷ xs) u = all_quiet after h quiet (x ∷ y ∷ xs)

-- A sink that accepts each item without a change, or refuses it as `Memory`, takes all items unless memory is refused.
pub quiet_or_memory : {H U : Type 0} (after : H → Item → Result H Why) (h : H) → ((x : Item) → after h x ≡ Ok h) → (xs : List Item) (r : Result U Why) → IfErr r (λ w. w ≡ why.Memory) → Took after h xs r h
quiet_or_memory after h quiet xs (Ok u) m = taken_quietly after h quiet xs u
quiet_or_memory after h quiet [] (Err w) m = λ ne. absurd (ne m)
quiet_or_memory after h quiet (x ∷ []) (Err w) m = λ ne. absurd (ne m)
quiet_or_memory after h quiet (x ∷ y ∷ xs) (Err w) m = λ ne. absurd (ne m)

-- `RunsOut` holds if memory may run out at any item, and if the sink refused nothing.
pub any_room : {H U : Type 0} (h : H) (xs : List Item) (r : Result U Why) → RunsOut (λ (g : H) (x : Item). Unit {0}) h xs r
any_room h [] r = tt
any_room h (x ∷ []) (Ok u) = tt
any_room h (x ∷ []) (Err w) = λ m. tt
any_room h (x ∷ y ∷ xs) r = tt

pub ok_room : {H U : Type 0} (may : H → Item → Type 0) (h : H) (xs : List Item) (u : U) → RunsOut may h xs (Ok u)
ok_room may h [] u = tt
ok_room may h (x ∷ []) u = tt
ok_room may h (x ∷ y ∷ xs) u = tt
