-- A word and the text after it.
use Rattle.std.proofs.Common.{◌≡◌, ℕ, Bool, true, false, List, [], ◌∷◌, ◌++◌, Option, Some, None, MatchOption, ◌≢◌, refl, sym, ap, ◌∙◌, append-nil, inl, inr}
use Rattle.std.specs.Prelude.{◌==◌}
use Rattle.std.specs.Borrow.{Bor}
use Rattle.std.proofs.lemmas.Bool.{cond-true, eqb-true, eq-eqb}
use Rattle.wm_floats.specs.exact.Atoms.{behind, is_over, is_just}
use Rattle.wm_floats.proofs.Basics.{chosen, same_some, none_some}

pub behind_found : (word b r : List ℕ) → behind word b ≡ Some r → b ≡ word ++ r
behind_found [] b r e = same_some b r e
behind_found (c ∷ word) [] r e = absurd (none_some r e)
behind_found (c ∷ word) (d ∷ b) r e = elim (chosen (c == d) (behind word b) None (Some r) e) [
  | inl p ↦ ap (λ (z : ℕ). z ∷ b) (sym (eqb-true c d p.0)) ∙ ap (λ (z : List ℕ). c ∷ z) (behind_found word b r p.1)
  | inr p ↦ absurd (none_some r p.1)
]

pub behind_more : (word r : List ℕ) → behind word (word ++ r) ≡ Some r
behind_more [] r = refl
behind_more (c ∷ word) r = cond-true (c == c) _ _ (eq-eqb c c refl) ∙ behind_more word r

pub behind_none : (word b : List ℕ) → ((r : List ℕ) → b ≢ word ++ r) → behind word b ≡ None
behind_none word b never = by (behind word b) refl
  where
    by : (o : Option (List ℕ)) → behind word b ≡ o → behind word b ≡ None
    by None e = e
    by (Some r) e = absurd (never r (behind_found word b r e))

-- The text after a word, as the code finds it.
pub behind_cases : (word b : List ℕ) (r : Option (Bor (List ℕ))) → MatchOption r ((rest : List ℕ) → b ≢ word ++ rest) (λ x. b ≡ word ++ x.now)
    → MatchOption r (behind word b ≡ None) (λ x. behind word b ≡ Some x.now)
behind_cases word b None h = behind_none word b h
behind_cases word b (Some x) h = ap (behind word) h ∙ behind_more word x.now

pub just_is : (word b : List ℕ) → is_just word b ≡ true → b ≡ word
just_is word b e = by (behind word b) refl e
  where
    by : (o : Option (List ℕ)) → behind word b ≡ o → is_over o ≡ true → b ≡ word
    by None h e = absurd (let f : false ≡ true = e in cc)
    by (Some []) h e = behind_found word b [] h ∙ append-nil word
    by (Some (c ∷ r)) h e = absurd (let f : false ≡ true = e in cc)

-- A text that is not this word.
pub just_not : (word b : List ℕ) → b ≢ word → is_just word b ≡ false
just_not word b never = by (is_just word b) refl
  where
    by : (t : Bool) → is_just word b ≡ t → is_just word b ≡ false
    by true e = absurd (never (just_is word b e))
    by false e = e
