-- How numbers and counted items continue.
use Rattle.std.proofs.Common.{◌≡◌, ℕ, ◌<◌, ◌^◌, ◌↔◌, List, [], ◌∷◌, ◌++◌, Option, None, refl, sym, ◌∙◌, ap, subst, append_assoc}
use Rattle.wm_syntax.specs.Types.{SpellsU32}
use Rattle.wm_syntax.specs.declared.numbers.Step.{Step}
use Rattle.wm_syntax.specs.declared.numbers.Step.TheVariants.{More, Done, Bad}
use Rattle.wm_syntax.specs.inner.Numbers.{Partial}
use Rattle.wm_syntax.specs.exact.Reading.{fresh, unsigned_push}
use Rattle.wm_machine.specs.Items.{Item, Marks}
use Rattle.wm_machine.specs.MarkedForms.{MarkedForm, Then, Counted, MarkedNumber, marks_ending, outside_mark}
use Rattle.wm_machine.proofs.FirstBytes.{Goes, Next, Same, HasBytes, Never, head_same, tail_same, not_nil, next_never, same_then}
use Rattle.wm_machine.proofs.Numbers.{Left, NumberNext, number_next, left_nil, fresh_number}

module _ (demanded : Type 0) where
  abbrev pub CountedNext : (ℕ → Option Item) → (ℕ → MarkedForm) → Partial → ℕ → Step ℕ × Partial → Type 0
  CountedNext x F r c (More, s) = Next demanded (Counted (Left r) x F) c (outside_mark None) (Counted (Left s) x F)
  CountedNext x F r c (Done v, s) = Next demanded (Counted (Left r) x F) c (outside_mark (x v)) (F v)
  CountedNext x F r c (Bad, s) = Next demanded (Counted (Left r) x F) c (outside_mark None) Never

  module _ (x : ℕ → Option Item) (F : ℕ → MarkedForm) (r : Partial) (c : ℕ) where
    more_split : (s : Partial) → NumberNext r c (More, s) → (b : List ℕ) (k : Marks) (n : ℕ) (front back : List ℕ) (bm : Marks) → c ∷ b ≡ front ++ back → k ≡ marks_ending (x n) front ++ bm → Left r n front → F n back bm → Goes (outside_mark None) (Counted (Left s) x F) b k
    more_split s h b k n [] back bm e m u f = absurd (left_nil r n u)
    more_split s h b k n (d ∷ []) back bm e m u f =
        absurd (left_nil s n ((h n []).0 (subst (λ y. Left r n (y ∷ [])) (sym (head_same c d b back e)) u)))
    more_split s h b k n (d ∷ a ∷ rest) back bm e m u f = (
      marks_ending (x n) (a ∷ rest) ++ bm,
      m,
      record {
        n = n;
        front = a ∷ rest;
        back = back;
        back_marks = bm;
        bytes = tail_same c d b (a ∷ rest ++ back) e;
        marks = refl;
        number = (h n (a ∷ rest)).0 (subst (λ y. Left r n (y ∷ a ∷ rest)) (sym (head_same c d b (a ∷ rest ++ back) e)) u);
        rest = f;
      },
    )

    more_back : (s : Partial) → NumberNext r c (More, s) → (b : List ℕ) (k later : Marks) (n : ℕ) (front back : List ℕ) (bm : Marks) → b ≡ front ++ back → k ≡ outside_mark None ∷ later → later ≡ marks_ending (x n) front ++ bm → Left s n front → F n back bm → Counted (Left r) x F (c ∷ b) k
    more_back s h b k later n [] back bm e m l u f = absurd (left_nil s n u)
    more_back s h b k later n (a ∷ rest) back bm e m l u f =
        record { n = n; front = c ∷ a ∷ rest; back = back; back_marks = bm; bytes = ap (λ y. c ∷ y) e; marks = m ∙ ap (λ y. outside_mark None ∷ y) l; number = (h n (a ∷ rest)).1 u; rest = f }

    done_split : (v : ℕ) (s : Partial) → NumberNext r c (Done v, s) → (b : List ℕ) (k : Marks) (n : ℕ) (front back : List ℕ) (bm : Marks) → c ∷ b ≡ front ++ back → k ≡ marks_ending (x n) front ++ bm → Left r n front → F n back bm → Goes (outside_mark (x v)) (F v) b k
    done_split v s h b k n [] back bm e m u f = absurd (left_nil r n u)
    done_split v s h b k n (d ∷ rest) back bm e m u f =
        let g : (n ≡ v) × (rest ≡ []) = (h n rest).0 (subst (λ y. Left r n (y ∷ rest)) (sym (head_same c d b (rest ++ back) e)) u) in
        let all : b ≡ back = tail_same c d b (rest ++ back) e ∙ ap (λ y. y ++ back) g.1 in
        (bm, m ∙ (ap (λ y. marks_ending (x n) (d ∷ y) ++ bm) g.1 ∙ ap (λ y. outside_mark (x y) ∷ bm) g.0), subst (λ y. F v y bm) (sym all) (subst (λ y. F y back bm) g.0 f))

    none_split : (s : Partial) → NumberNext r c (Bad, s) → (b : List ℕ) (n : ℕ) (front back : List ℕ) → c ∷ b ≡ front ++ back → Left r n front → ⊥
    none_split s h b n [] back e u = left_nil r n u
    none_split s h b n (d ∷ rest) back e u = (h n rest).0 (subst (λ y. Left r n (y ∷ rest)) (sym (head_same c d b (rest ++ back) e)) u)

    counted_goes : (p : Step ℕ × Partial) → NumberNext r c p → CountedNext x F r c p
    counted_goes (More, s) h = record {
      to = λ t b k q. more_split s h b k q.n q.front q.back q.back_marks q.bytes q.marks q.number q.rest;
      from = λ b k g. let q = g.2 in more_back s h b k g.0 q.n q.front q.back q.back_marks q.bytes g.1 q.marks q.number q.rest;
    }
    counted_goes (Done v, s) h = record {
      to = λ t b k q. done_split v s h b k q.n q.front q.back q.back_marks q.bytes q.marks q.number q.rest;
      from = λ b k g. record { n = v; front = c ∷ []; back = b; back_marks = g.0; bytes = refl; marks = g.1; number = (h v []).1 (refl, refl); rest = g.2 };
    }
    counted_goes (Bad, s) h = next_never demanded (Counted (Left r) x F) c (outside_mark None) (λ t b k q. none_split s h b q.n q.front q.back q.bytes q.number)

    pub counted_next : c < 2 ^ 8 → CountedNext x F r c (unsigned_push 32 r c)
    counted_next byte = counted_goes (unsigned_push 32 r c) (number_next r c byte)

  no_front : (S : ℕ → List ℕ → Type 0) → ((n : ℕ) → S n [] → ⊥) → (n : ℕ) (front back : List ℕ) → [] ≡ front ++ back → S n front → ⊥
  no_front S e n [] back h u = e n u
  no_front S e n (d ∷ f) back h u = not_nil d (f ++ back) (sym h)

  pub counted_has : (x : ℕ → Option Item) (F : ℕ → MarkedForm) (r : Partial) → HasBytes demanded (Counted (Left r) x F)
  counted_has x F r t k h = no_front (Left r) (left_nil r) h.n h.front h.back h.bytes h.number

  pub counted_then : (S : ℕ → List ℕ → Type 0) (x : ℕ → Option Item) (F : ℕ → MarkedForm) (Q : MarkedForm) → Same demanded (Then (Counted S x F) Q) (Counted S x (λ n. Then (F n) Q))
  counted_then S x F Q = record {
    to = λ t b k h. let i = h.first in record {
      n = i.n;
      front = i.front;
      back = i.back ++ h.back;
      back_marks = i.back_marks ++ h.back_marks;
      bytes = h.bytes ∙ (ap (λ y. y ++ h.back) i.bytes ∙ append_assoc i.front i.back h.back);
      marks = h.marks ∙ (ap (λ y. y ++ h.back_marks) i.marks ∙ append_assoc (marks_ending (x i.n) i.front) i.back_marks h.back_marks);
      number = i.number;
      rest = record { front = i.back; back = h.back; front_marks = i.back_marks; back_marks = h.back_marks; bytes = refl; marks = refl; first = i.rest; second = h.second };
    };
    from = λ b k h. let i = h.rest in record {
      front = h.front ++ i.front;
      back = i.back;
      front_marks = marks_ending (x h.n) h.front ++ i.front_marks;
      back_marks = i.back_marks;
      bytes = h.bytes ∙ (ap (λ y. h.front ++ y) i.bytes ∙ sym (append_assoc h.front i.front i.back));
      marks = h.marks ∙ (ap (λ y. marks_ending (x h.n) h.front ++ y) i.marks ∙ sym (append_assoc (marks_ending (x h.n) h.front) i.front_marks i.back_marks));
      first = record { n = h.n; front = h.front; back = i.front; back_marks = i.front_marks; bytes = refl; marks = refl; number = h.number; rest = i.first };
      second = i.second;
    };
  }

  pub counted_same : (S T : ℕ → List ℕ → Type 0) (x : ℕ → Option Item) (F G : ℕ → MarkedForm) → ((n : ℕ) (b : List ℕ) → S n b ↔ T n b) → ((n : ℕ) → Same demanded (F n) (G n)) → Same demanded (Counted S x F) (Counted T x G)
  counted_same S T x F G s f = record {
    to = λ t b k h. record { n = h.n; front = h.front; back = h.back; back_marks = h.back_marks; bytes = h.bytes; marks = h.marks; number = (s h.n h.front).0 h.number; rest = (f h.n).to t h.back h.back_marks h.rest };
    from = λ b k h. record { n = h.n; front = h.front; back = h.back; back_marks = h.back_marks; bytes = h.bytes; marks = h.marks; number = (s h.n h.front).1 h.number; rest = (f h.n).from h.back h.back_marks h.rest };
  }

  -- a number from its first byte
  pub number_fresh : (x : ℕ → Option Item) (F G : ℕ → MarkedForm) → ((n : ℕ) → Same demanded (F n) (G n)) → Same demanded (MarkedNumber x F) (Counted (Left fresh) x G)
  number_fresh x F G s = counted_same SpellsU32 (Left fresh) x F G fresh_number s

  -- a counted part and what follows it, from its first byte
  pub counted_fresh : (x : ℕ → Option Item) (F : ℕ → MarkedForm) (Q : MarkedForm) (G : ℕ → MarkedForm) → ((n : ℕ) → Same demanded (Then (F n) Q) (G n)) → Same demanded (Then (MarkedNumber x F) Q) (Counted (Left fresh) x G)
  counted_fresh x F Q G s = same_then demanded (Then (MarkedNumber x F) Q) (MarkedNumber x (λ n. Then (F n) Q)) (Counted (Left fresh) x G) (counted_then SpellsU32 x F Q) (number_fresh x (λ n. Then (F n) Q) G s)
