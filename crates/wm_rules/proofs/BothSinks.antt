-- Two sinks together take the items that each of them takes.
use Rattle.std.proofs.Common.{◌≡◌, List, [], ◌∷◌, Result, Ok, Err, refl, ap, inl, inr}
use Rattle.wm_syntax.specs.declared.why.Why.{Why}
use Rattle.wm_machine.specs.Items.{Item}
use Rattle.wm_machine.specs.Sinks.{and_then, all_taken, RunsOut, Took}
use Rattle.wm_machine.specs.exact.TwoSinks.{after_both, either_runs_out}

module _ {A B : Type 0} (f : A → Item → Result A Why) (g : B → Item → Result B Why) where
  -- what one item leaves of both
  both_split : (ra : Result A Why) (rb : Result B Why) (items : List Item) (c : A) (d : B)
      → ((a : A) (b : B) → all_taken (after_both f g) (a, b) items ≡ Ok (c, d) → (all_taken f a items ≡ Ok c) × (all_taken g b items ≡ Ok d))
      → and_then (and_then ra (λ a. and_then rb (λ b. Ok (a, b)))) (λ h. all_taken (after_both f g) h items) ≡ Ok (c, d)
      → (and_then ra (λ a. all_taken f a items) ≡ Ok c) × (and_then rb (λ b. all_taken g b items) ≡ Ok d)
  both_split (Ok a) (Ok b) items c d rest e = rest a b e
  both_split (Ok a) (Err w) items c d rest e = absurd (cc)
  both_split (Err w) rb items c d rest e = absurd (cc)

  pub each : (a c : A) (b d : B) (items : List Item) → all_taken (after_both f g) (a, b) items ≡ Ok (c, d) → (all_taken f a items ≡ Ok c) × (all_taken g b items ≡ Ok d)
  each a c b d [] e = (ap (λ r. and_then r (λ h. Ok h.0)) e, ap (λ r. and_then r (λ h. Ok h.1)) e)
  each a c b d (x ∷ items) e = both_split (f a x) (g b x) items c d (λ a b e. each a c b d items e) e

  both_join : (ra : Result A Why) (rb : Result B Why) (items : List Item) (c : A) (d : B)
      → ((a : A) (b : B) → all_taken f a items ≡ Ok c → all_taken g b items ≡ Ok d → all_taken (after_both f g) (a, b) items ≡ Ok (c, d))
      → and_then ra (λ a. all_taken f a items) ≡ Ok c → and_then rb (λ b. all_taken g b items) ≡ Ok d
      → and_then (and_then ra (λ a. and_then rb (λ b. Ok (a, b)))) (λ h. all_taken (after_both f g) h items) ≡ Ok (c, d)
  both_join (Ok a) (Ok b) items c d rest e k = rest a b e k
  both_join (Ok a) (Err w) items c d rest e k = absurd (cc)
  both_join (Err w) rb items c d rest e k = absurd (cc)

  pub together : (a c : A) (b d : B) (items : List Item) → all_taken f a items ≡ Ok c → all_taken g b items ≡ Ok d → all_taken (after_both f g) (a, b) items ≡ Ok (c, d)
  together a c b d [] e k = cc
  together a c b d (x ∷ items) e k = both_join (f a x) (g b x) items c d (λ a b e k. together a c b d items e k) e k

  -- the first one refuses
  pub first_refused : (a a' : A) (b b' : B) (items : List Item) (w : Why) → Took {U = Unit {0}} f a items (Err w) a' → Took {U = Unit {0}} (after_both f g) (a, b) items (Err w) (a', b')
  first_refused a a' b b' [] w t = λ ne h e. t ne a refl
  first_refused a a' b b' (x ∷ []) w t = λ ne. ap (λ r. and_then r (λ a. and_then (g b x) (λ b. Ok (a, b)))) (t ne)
  first_refused a a' b b' (x ∷ y ∷ items) w t = λ ne h e. t ne h.0 (each a h.0 b h.1 (x ∷ y ∷ items) e).0

  -- the first one takes, and the second one answers
  pub second_took : (a a' : A) (b b' : B) (items : List Item) (r : Result (Unit {0}) Why) → Took {U = Unit {0}} f a items (Ok tt) a' → Took {U = Unit {0}} g b items r b'
      → Took {U = Unit {0}} (after_both f g) (a, b) items r (a', b')
  second_took a a' b b' [] (Ok u) t k = cc
  second_took a a' b b' [] (Err w) t k = λ ne h e. k ne b refl
  second_took a a' b b' (x ∷ []) (Ok u) t k = rw (t, k) refl
  second_took a a' b b' (x ∷ []) (Err w) t k = λ ne. rw (t, k ne) refl
  second_took a a' b b' (x ∷ y ∷ items) (Ok u) t k = together a a' b b' (x ∷ y ∷ items) t k
  second_took a a' b b' (x ∷ y ∷ items) (Err w) t k = λ ne h e. k ne h.1 (each a h.0 b h.1 (x ∷ y ∷ items) e).1

-- where memory runs out
module _ {A B : Type 0} (f : A → Item → Result A Why) (first : A → Item → Type 0) (second : B → Item → Type 0) where
  pub first_ran_out : (a : A) (b : B) (items : List Item) (w : Why) → RunsOut {U = Unit {0}} first a items (Err w)
      → RunsOut {U = Unit {0}} (either_runs_out f first second) (a, b) items (Err w)
  first_ran_out a b [] w t = tt
  first_ran_out a b (x ∷ []) w t = λ e. inl (t e)
  first_ran_out a b (x ∷ y ∷ items) w t = tt

  pub second_ran_out : (a a' : A) (b : B) (items : List Item) (r : Result (Unit {0}) Why) → Took {U = Unit {0}} f a items (Ok tt) a'
      → RunsOut {U = Unit {0}} second b items r → RunsOut {U = Unit {0}} (either_runs_out f first second) (a, b) items r
  second_ran_out a a' b [] r t k = tt
  second_ran_out a a' b (x ∷ []) (Ok u) t k = tt
  second_ran_out a a' b (x ∷ []) (Err w) t k = λ e. inr (a', t, k e)
  second_ran_out a a' b (x ∷ y ∷ items) r t k = tt
