-- A value with an item at its last byte, and then the parts that depend on the value.
use Rattle.std.proofs.Common.{◌≡◌, ℕ, ◌<◌, ◌^◌, ◌↔◌, List, [], ◌∷◌, ◌++◌, Option, Some, None, refl, sym, ◌∙◌, ap, subst}
use Rattle.wm_syntax.specs.Spelling.{Form}
use Rattle.wm_machine.specs.declared.step.reading.Reading.{Reading}
use Rattle.wm_machine.specs.declared.step.reading.Reading.TheVariants.{More, Done, Bad}
use Rattle.wm_machine.specs.exact.Readings.{Goes}
use Rattle.wm_machine.specs.Items.{Item, Marks}
use Rattle.wm_machine.specs.MarkedForms.{MarkedForm, marks_ending, outside_mark}
use Rattle.wm_machine.proofs.FirstBytes.{Goes as GoesOn, Next, Never, head_same, tail_same, not_nil, next_never}
use Rattle.wm_machine.proofs.Leaves.{IsReader}

pub record Led {X : Type 0} (Spells : X → Form ℕ) (part : X → Item) (F : X → MarkedForm) (b : List ℕ) (k : Marks) : Type 0 where
  pub value : X
  pub front : List ℕ
  pub back : List ℕ
  pub back_marks : Marks
  pub bytes : b ≡ front ++ back
  pub marks : k ≡ marks_ending (Some (part value)) front ++ back_marks
  pub spelled : Spells value front
  pub rest : F value back back_marks

-- some bytes have marks
pub has_mark : (x : Option Item) (front : List ℕ) (k : Marks) → (front ≡ [] → ⊥) → [] ≡ marks_ending x front ++ k → ⊥
has_mark x [] k some e = some refl
has_mark x (c ∷ []) k some e = not_nil (outside_mark x) k (sym e)
has_mark x (c ∷ d ∷ front) k some e = not_nil (outside_mark None) (marks_ending x (d ∷ front) ++ k) (sym e)

-- no bytes have no front
pub no_front : (front back : List ℕ) → [] ≡ front ++ back → front ≡ []
no_front [] back e = refl
no_front (d ∷ front) back e = absurd (not_nil d (front ++ back) (sym e))

module _ (demanded : Type 0) {R X : Type 0} (rest : R → X → Form ℕ) (push : R → ℕ → Reading R X) (is : IsReader rest push) (part : X → Item) (F : X → MarkedForm) where
  abbrev pub LedNext : R → ℕ → Reading R X → Type 0
  LedNext r c (More s) = Next demanded (Led (rest r) part F) c (outside_mark None) (Led (rest s) part F)
  LedNext r c (Done v) = Next demanded (Led (rest r) part F) c (outside_mark (Some (part v))) (F v)
  LedNext r c (Bad w) = Next demanded (Led (rest r) part F) c (outside_mark None) Never

  module _ (r : R) (c : ℕ) where
    more_split : (s : R) → ((x : X) (b : List ℕ) → rest r x (c ∷ b) ↔ rest s x b) → (b : List ℕ) (k : Marks) (x : X) (front back : List ℕ) (m : Marks) → c ∷ b ≡ front ++ back → k ≡ marks_ending (Some (part x)) front ++ m → rest r x front → F x back m → GoesOn (outside_mark None) (Led (rest s) part F) b k
    more_split s h b k x [] back m e l u f = absurd (is.some r x u)
    more_split s h b k x (d ∷ []) back m e l u f =
        absurd (is.some s x ((h x []).0 (subst (λ y. rest r x (y ∷ [])) (sym (head_same c d b back e)) u)))
    more_split s h b k x (d ∷ a ∷ front) back m e l u f = (
      marks_ending (Some (part x)) (a ∷ front) ++ m,
      l,
      record {
        value = x;
        front = a ∷ front;
        back = back;
        back_marks = m;
        bytes = tail_same c d b (a ∷ front ++ back) e;
        marks = refl;
        spelled = (h x (a ∷ front)).0 (subst (λ y. rest r x (y ∷ a ∷ front)) (sym (head_same c d b (a ∷ front ++ back) e)) u);
        rest = f;
      },
    )

    more_back : (s : R) → ((x : X) (b : List ℕ) → rest r x (c ∷ b) ↔ rest s x b) → (b : List ℕ) (k later : Marks) (x : X) (front back : List ℕ) (m : Marks) → b ≡ front ++ back → k ≡ outside_mark None ∷ later → later ≡ marks_ending (Some (part x)) front ++ m → rest s x front → F x back m → Led (rest r) part F (c ∷ b) k
    more_back s h b k later x [] back m e l g u f = absurd (is.some s x u)
    more_back s h b k later x (a ∷ front) back m e l g u f =
        record { value = x; front = c ∷ a ∷ front; back = back; back_marks = m; bytes = ap (λ y. c ∷ y) e; marks = l ∙ ap (λ y. outside_mark None ∷ y) g; spelled = (h x (a ∷ front)).1 u; rest = f }

    done_split : (v : X) → ((x : X) (b : List ℕ) → rest r x (c ∷ b) ↔ ((x ≡ v) × (b ≡ []))) → (b : List ℕ) (k : Marks) (x : X) (front back : List ℕ) (m : Marks) → c ∷ b ≡ front ++ back → k ≡ marks_ending (Some (part x)) front ++ m → rest r x front → F x back m → GoesOn (outside_mark (Some (part v))) (F v) b k
    done_split v h b k x [] back m e l u f = absurd (is.some r x u)
    done_split v h b k x (d ∷ front) back m e l u f =
        let g : (x ≡ v) × (front ≡ []) = (h x front).0 (subst (λ y. rest r x (y ∷ front)) (sym (head_same c d b (front ++ back) e)) u) in
        let all : b ≡ back = tail_same c d b (front ++ back) e ∙ ap (λ y. y ++ back) g.1 in
        (m, l ∙ (ap (λ y. marks_ending (Some (part x)) (d ∷ y) ++ m) g.1 ∙ ap (λ y. outside_mark (Some (part y)) ∷ m) g.0), subst (λ y. F v y m) (sym all) (subst (λ y. F y back m) g.0 f))

    none_split : ((x : X) (b : List ℕ) → rest r x (c ∷ b) ↔ ⊥) → (b : List ℕ) (x : X) (front back : List ℕ) → c ∷ b ≡ front ++ back → rest r x front → ⊥
    none_split h b x [] back e u = is.some r x u
    none_split h b x (d ∷ front) back e u = (h x front).0 (subst (λ y. rest r x (y ∷ front)) (sym (head_same c d b (front ++ back) e)) u)

    led_cases : (a : Reading R X) → ((x : X) (b : List ℕ) → rest r x (c ∷ b) ↔ Goes rest a x b) → LedNext r c a
    led_cases (More s) h = record {
      to = λ t b k q. more_split s h b k q.value q.front q.back q.back_marks q.bytes q.marks q.spelled q.rest;
      from = λ b k g. let q = g.2 in more_back s h b k g.0 q.value q.front q.back q.back_marks q.bytes g.1 q.marks q.spelled q.rest;
    }
    led_cases (Done v) h = record {
      to = λ t b k q. done_split v h b k q.value q.front q.back q.back_marks q.bytes q.marks q.spelled q.rest;
      from = λ b k g. record { value = v; front = c ∷ []; back = b; back_marks = g.0; bytes = refl; marks = g.1; spelled = (h v []).1 (refl, refl); rest = g.2 };
    }
    led_cases (Bad w) h = next_never demanded (Led (rest r) part F) c (outside_mark None) (λ t b k q. none_split h b q.value q.front q.back q.bytes q.spelled)

    pub led_next : c < 2 ^ 8 → LedNext r c (push r c)
    led_next byte = led_cases (push r c) (λ x b. is.law r c byte x b)

  pub led_has : (r : R) (k : Marks) → Led (rest r) part F [] k → ⊥
  led_has r k h = is.some r h.value (subst (rest r h.value) (no_front h.front h.back h.bytes) h.spelled)

  pub led_marked : (r : R) (b : List ℕ) → Led (rest r) part F b [] → ⊥
  led_marked r b h = has_mark (Some (part h.value)) h.front h.back_marks (λ e. is.some r h.value (subst (rest r h.value) e h.spelled)) h.marks
