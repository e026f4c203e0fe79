-- How a marked form continues after its first byte. A law that holds under `strict` only has `demanded` as a premise.
-- Each law then serves the strict grammar in both directions, and the loose grammar on the way back.
use Rattle.std.proofs.Common.{◌≡◌, ℕ, List, [], ◌∷◌, ◌++◌, Option, refl, sym, ◌∙◌, ap, subst, append_assoc}
use Rattle.wm_machine.specs.Items.{Item, Mark, Marks}
use Rattle.wm_machine.specs.MarkedForms.{MarkedForm, Empty, MarkedByte, Then, outside_mark}

abbrev pub Never : MarkedForm
Never b k = ⊥

abbrev pub Goes : Mark → MarkedForm → MarkedForm
Goes m Q b k = (later : Marks) × (k ≡ m ∷ later) × Q b later

pub head_same : {A : Type 0} (c d : A) (b e : List A) → c ∷ b ≡ d ∷ e → c ≡ d
head_same c d b e h = cc

pub tail_same : {A : Type 0} (c d : A) (b e : List A) → c ∷ b ≡ d ∷ e → b ≡ e
tail_same c d b e h = cc

pub not_nil : {A : Type 0} (c : A) (b : List A) → c ∷ b ≡ [] → ⊥
not_nil c b h = cc

module _ (demanded : Type 0) where
  -- after this byte, of which m is said, P goes on as Q
  pub record Next (P : MarkedForm) (c : ℕ) (m : Mark) (Q : MarkedForm) : Type 0 where
    pub to : demanded → (b : List ℕ) (k : Marks) → P (c ∷ b) k → Goes m Q b k
    pub from : (b : List ℕ) (k : Marks) → Goes m Q b k → P (c ∷ b) k

  pub record Same (P Q : MarkedForm) : Type 0 where
    pub to : demanded → (b : List ℕ) (k : Marks) → P b k → Q b k
    pub from : (b : List ℕ) (k : Marks) → Q b k → P b k

  abbrev pub HasBytes : MarkedForm → Type 0
  HasBytes P = demanded → (k : Marks) → P [] k → ⊥

  pub same_refl : (P : MarkedForm) → Same P P
  same_refl P = record { to = λ s b k h. h; from = λ b k h. h }

  pub same_then : (P Q R : MarkedForm) → Same P Q → Same Q R → Same P R
  same_then P Q R p q = record { to = λ s b k h. q.to s b k (p.to s b k h); from = λ b k h. p.from b k (q.from b k h) }

  pub next_same : (P Q P' Q' : MarkedForm) (c : ℕ) (m : Mark) → Same P' P → Same Q Q' → Next P c m Q → Next P' c m Q'
  next_same P Q P' Q' c m p q n = record {
    to = λ s b k h. let g = n.to s b k (p.to s (c ∷ b) k h) in (g.0, g.1, q.to s b g.0 g.2);
    from = λ b k g. p.from (c ∷ b) k (n.from b k (g.0, g.1, q.from b g.0 g.2));
  }

  pub next_to : (P Q Q' : MarkedForm) (c : ℕ) (m : Mark) → Same Q Q' → Next P c m Q → Next P c m Q'
  next_to P Q Q' c m q n = next_same P Q P Q' c m (same_refl P) q n

  pub next_from : (P P' Q : MarkedForm) (c : ℕ) (m : Mark) → Same P' P → Next P c m Q → Next P' c m Q
  next_from P P' Q c m p n = next_same P Q P' Q c m p (same_refl Q) n

  -- no way on
  pub next_never : (P : MarkedForm) (c : ℕ) (m : Mark) → (demanded → (b : List ℕ) (k : Marks) → P (c ∷ b) k → ⊥) → Next P c m Never
  next_never P c m h = record { to = λ s b k p. absurd (h s b k p); from = λ b k g. absurd g.2 }

  pub next_byte : (c : ℕ) (x : Option Item) → Next (MarkedByte c x) c (outside_mark x) Empty
  next_byte c x = record {
    to = λ s b k h. ([], h.1, (tail_same c c b [] h.0, refl));
    from = λ b k g. (ap (λ e. c ∷ e) g.2.0, g.1 ∙ ap (λ e. outside_mark x ∷ e) g.2.1);
  }

  pub other_byte : (c d : ℕ) (x : Option Item) (b : List ℕ) (k : Marks) → (d ≡ c → ⊥) → MarkedByte c x (d ∷ b) k → ⊥
  other_byte c d x b k ne h = ne (head_same d c b [] h.0)

  pub byte_has : (c : ℕ) (x : Option Item) → HasBytes (MarkedByte c x)
  byte_has c x s k h = not_nil c [] (sym h.0)

  module _ (P Q : MarkedForm) where
    then_split : (c : ℕ) (m : Mark) (P' : MarkedForm) → Next P c m P' → HasBytes P → demanded → (b : List ℕ) (k : Marks) (front back : List ℕ) (fm bm : Marks) → c ∷ b ≡ front ++ back → k ≡ fm ++ bm → P front fm → Q back bm → Goes m (Then P' Q) b k
    then_split c m P' n e s b k [] back fm bm h l p q = absurd (e s fm p)
    then_split c m P' n e s b k (d ∷ f) back fm bm h l p q =
        let same : c ≡ d = head_same c d b (f ++ back) h in
        let rest : b ≡ f ++ back = tail_same c d b (f ++ back) h in
        let p' : P (c ∷ f) fm = subst (λ y. P (y ∷ f) fm) (sym same) p in
        let g = n.to s f fm p' in
        (g.0 ++ bm, l ∙ ap (λ y. y ++ bm) g.1, record { front = f; back = back; front_marks = g.0; back_marks = bm; bytes = rest; marks = refl; first = g.2; second = q })

    pub next_then : (c : ℕ) (m : Mark) (P' : MarkedForm) → Next P c m P' → HasBytes P → Next (Then P Q) c m (Then P' Q)
    next_then c m P' n e = record {
      to = λ s b k h. then_split c m P' n e s b k h.front h.back h.front_marks h.back_marks h.bytes h.marks h.first h.second;
      from = λ b k g. let t = g.2 in record { front = c ∷ t.front; back = t.back; front_marks = m ∷ t.front_marks; back_marks = t.back_marks; bytes = ap (λ y. c ∷ y) t.bytes; marks = g.1 ∙ ap (λ y. m ∷ y) t.marks; first = n.from t.front (m ∷ t.front_marks) (t.front_marks, refl, t.first); second = t.second };
    }

    then_has_split : HasBytes P → demanded → (k : Marks) (front back : List ℕ) (fm : Marks) → [] ≡ front ++ back → P front fm → ⊥
    then_has_split e s k [] back fm h p = e s fm p
    then_has_split e s k (d ∷ f) back fm h p = not_nil d (f ++ back) (sym h)

    pub then_has : HasBytes P → HasBytes (Then P Q)
    then_has e s k h = then_has_split e s k h.front h.back h.front_marks h.bytes h.first

  pub empty_then : (Q : MarkedForm) → Same (Then Empty Q) Q
  empty_then Q = record {
    to = λ s b k h. subst (λ y. Q b y) (sym (h.marks ∙ ap (λ y. y ++ h.back_marks) h.first.1)) (subst (λ y. Q y h.back_marks) (sym (h.bytes ∙ ap (λ y. y ++ h.back) h.first.0)) h.second);
    from = λ b k q. record { front = []; back = b; front_marks = []; back_marks = k; bytes = refl; marks = refl; first = (refl, refl); second = q };
  }

  pub never_then : (P Q : MarkedForm) → Same P Never → Same (Then P Q) Never
  never_then P Q p = record { to = λ s b k h. p.to s h.front h.front_marks h.first; from = λ b k h. absurd h }

  pub then_assoc : (P Q R : MarkedForm) → Same (Then (Then P Q) R) (Then P (Then Q R))
  then_assoc P Q R = record {
    to = λ s b k h. let i = h.first in record {
      front = i.front;
      back = i.back ++ h.back;
      front_marks = i.front_marks;
      back_marks = i.back_marks ++ h.back_marks;
      bytes = h.bytes ∙ (ap (λ y. y ++ h.back) i.bytes ∙ append_assoc i.front i.back h.back);
      marks = h.marks ∙ (ap (λ y. y ++ h.back_marks) i.marks ∙ append_assoc i.front_marks i.back_marks h.back_marks);
      first = i.first;
      second = record { front = i.back; back = h.back; front_marks = i.back_marks; back_marks = h.back_marks; bytes = refl; marks = refl; first = i.second; second = h.second };
    };
    from = λ b k h. let i = h.second in record {
      front = h.front ++ i.front;
      back = i.back;
      front_marks = h.front_marks ++ i.front_marks;
      back_marks = i.back_marks;
      bytes = h.bytes ∙ (ap (λ y. h.front ++ y) i.bytes ∙ sym (append_assoc h.front i.front i.back));
      marks = h.marks ∙ (ap (λ y. h.front_marks ++ y) i.marks ∙ sym (append_assoc h.front_marks i.front_marks i.back_marks));
      first = record { front = h.front; back = i.front; front_marks = h.front_marks; back_marks = i.front_marks; bytes = refl; marks = refl; first = h.first; second = i.first };
      second = i.second;
    };
  }

  pub then_same : (P Q P' Q' : MarkedForm) → Same P P' → Same Q Q' → Same (Then P Q) (Then P' Q')
  then_same P Q P' Q' p q = record {
    to = λ s b k h. record { front = h.front; back = h.back; front_marks = h.front_marks; back_marks = h.back_marks; bytes = h.bytes; marks = h.marks; first = p.to s h.front h.front_marks h.first; second = q.to s h.back h.back_marks h.second };
    from = λ b k h. record { front = h.front; back = h.back; front_marks = h.front_marks; back_marks = h.back_marks; bytes = h.bytes; marks = h.marks; first = p.from h.front h.front_marks h.first; second = q.from h.back h.back_marks h.second };
  }

  -- after a first part that ends
  pub ends_first : (P Q R : MarkedForm) (c : ℕ) (m : Mark) → Next P c m Empty → HasBytes P → Same Q R → Next (Then P Q) c m R
  ends_first P Q R c m n e q = next_to (Then P Q) (Then Empty Q) R c m (same_then (Then Empty Q) Q R (empty_then Q) q) (next_then P Q c m Empty n e)

  -- after a first part that can't go on
  pub fails_first : (P Q : MarkedForm) (c : ℕ) (m : Mark) → Next P c m Never → HasBytes P → Next (Then P Q) c m Never
  fails_first P Q c m n e = next_to (Then P Q) (Then Never Q) Never c m (never_then Never Q (same_refl Never)) (next_then P Q c m Never n e)
