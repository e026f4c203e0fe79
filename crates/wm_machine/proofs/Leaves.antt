-- A value that is spelled by some bytes, with an item at its last byte, and its reader.
use Rattle.std.proofs.Common.{◌≡◌, ℕ, ◌<◌, ◌^◌, ◌↔◌, List, [], ◌∷◌, Option, Some, None, refl, sym, ◌∙◌, ap}
use Rattle.wm_syntax.specs.Spelling.{Form}
use Rattle.wm_machine.specs.declared.step.reading.Reading.{Reading}
use Rattle.wm_machine.specs.declared.step.reading.Reading.TheVariants.{More, Done, Bad}
use Rattle.wm_machine.specs.exact.Readings.{Goes}
use Rattle.wm_machine.specs.Items.{Item, Marks}
use Rattle.wm_machine.specs.MarkedForms.{Empty, Leaf, marks_ending, outside_mark}
use Rattle.wm_machine.proofs.FirstBytes.{Goes as GoesOn, Next, HasBytes, Never, next_never}

-- a reader of values: what may still come after it, and what each byte makes of it
pub record IsReader {R X : Type 0} (rest : R → X → Form ℕ) (push : R → ℕ → Reading R X) : Type 0 where
  pub law : (r : R) (c : ℕ) → c < 2 ^ 8 → (x : X) (more : List ℕ) → rest r x (c ∷ more) ↔ Goes rest (push r c) x more
  pub some : (r : R) (x : X) → rest r x [] → ⊥

module _ (demanded : Type 0) {R X : Type 0} (rest : R → X → Form ℕ) (push : R → ℕ → Reading R X) (is : IsReader rest push) (part : X → Item) where
  abbrev pub LeafNext : R → ℕ → Reading R X → Type 0
  LeafNext r c (More s) = Next demanded (Leaf (rest r) part) c (outside_mark None) (Leaf (rest s) part)
  LeafNext r c (Done v) = Next demanded (Leaf (rest r) part) c (outside_mark (Some (part v))) Empty
  LeafNext r c (Bad w) = Next demanded (Leaf (rest r) part) c (outside_mark None) Never

  more_to : (r s : R) (c : ℕ) → ((x : X) (more : List ℕ) → rest r x (c ∷ more) ↔ rest s x more) → (x : X) (b : List ℕ) (k : Marks) → rest r x (c ∷ b) → k ≡ marks_ending (Some (part x)) (c ∷ b) → GoesOn (outside_mark None) (Leaf (rest s) part) b k
  more_to r s c h x [] k u m = absurd (is.some s x ((h x []).0 u))
  more_to r s c h x (d ∷ b) k u m = (marks_ending (Some (part x)) (d ∷ b), m, (x, (h x (d ∷ b)).0 u, refl))

  more_from : (r s : R) (c : ℕ) → ((x : X) (more : List ℕ) → rest r x (c ∷ more) ↔ rest s x more) → (x : X) (b : List ℕ) (k later : Marks) → rest s x b → k ≡ outside_mark None ∷ later → later ≡ marks_ending (Some (part x)) b → Leaf (rest r) part (c ∷ b) k
  more_from r s c h x [] k later u m l = absurd (is.some s x u)
  more_from r s c h x (d ∷ b) k later u m l = (x, (h x (d ∷ b)).1 u, m ∙ ap (λ y. outside_mark None ∷ y) l)

  leaf_cases : (r : R) (c : ℕ) (p : Reading R X) → ((x : X) (more : List ℕ) → rest r x (c ∷ more) ↔ Goes rest p x more) → LeafNext r c p
  leaf_cases r c (More s) h = record {
    to = λ t b k q. more_to r s c h q.0 b k q.1 q.2;
    from = λ b k g. more_from r s c h g.2.0 b k g.0 g.2.1 g.1 g.2.2;
  }
  leaf_cases r c (Done v) h = record {
    to = λ t b k q. let e = (h q.0 b).0 q.1 in
        ([], q.2 ∙ (ap (λ y. marks_ending (Some (part q.0)) (c ∷ y)) e.1 ∙ ap (λ y. outside_mark (Some (part y)) ∷ []) e.0), (e.1, refl));
    from = λ b k g. (v, (h v b).1 (refl, g.2.0), g.1 ∙ (ap (λ y. outside_mark (Some (part v)) ∷ y) g.2.1 ∙ sym (ap (λ y. marks_ending (Some (part v)) (c ∷ y)) g.2.0)));
  }
  leaf_cases r c (Bad w) h = next_never demanded (Leaf (rest r) part) c (outside_mark None) (λ t b k q. (h q.0 b).0 q.1)

  pub leaf_next : (r : R) (c : ℕ) → c < 2 ^ 8 → LeafNext r c (push r c)
  leaf_next r c byte = leaf_cases r c (push r c) (λ x more. is.law r c byte x more)

  pub leaf_has : (r : R) → HasBytes demanded (Leaf (rest r) part)
  leaf_has r t k h = is.some r h.0 h.1

  pub leaf_marked : (r : R) (b : List ℕ) → Leaf (rest r) part b [] → ⊥
  leaf_marked r [] h = is.some r h.0 h.1
  leaf_marked r (c ∷ b) h = not_ended (Some (part h.0)) c b h.2
    where
      not_ended : (x : Option Item) (c : ℕ) (b : List ℕ) → [] ≡ marks_ending x (c ∷ b) → ⊥
      not_ended x c [] e = cc
      not_ended x c (d ∷ b) e = cc
