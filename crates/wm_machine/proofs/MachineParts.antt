-- How a part of the machine continues, whatever its states are: by the thing that it reads next.
use Rattle.std.proofs.Common.{◌≡◌, ℕ, zero, suc, ◌<◌, ◌^◌, List, [], ◌∷◌, ◌++◌, Option, Some, None, refl, sym, ◌∙◌, ap, subst, nat_eq, cond, Result, Ok, Err}
use Rattle.std.proofs.lemmas.Bool.{cond_both, eqb-true, eqb-false}
use Rattle.std.specs.Str.{is_utf8}
use Rattle.wm_syntax.specs.declared.numbers.Step.{Step}
use Rattle.wm_syntax.specs.declared.numbers.Step.TheVariants as step
use Rattle.wm_syntax.specs.inner.Numbers.{Partial}
use Rattle.wm_syntax.specs.exact.Reading.{unsigned_push}
use Rattle.wm_syntax.specs.Spelling.{Form}
use Rattle.wm_syntax.specs.Types.{type_byte}
use Rattle.wm_syntax.specs.declared.why.Why.{Why}
use Rattle.wm_syntax.specs.declared.why.Why.TheVariants as why
use Rattle.wm_syntax.specs.declared.profile.Profile.{Profile}
use Rattle.wm_syntax.specs.Profiles.{HasType}
use Rattle.wm_syntax.specs.declared.types.ValType.{ValType}
use Rattle.wm_machine.specs.declared.machine.NameKind.{NameKind}
use Rattle.wm_machine.specs.declared.machine.Event.{Event}
use Rattle.wm_machine.specs.declared.machine.Event.TheVariants as event
use Rattle.wm_machine.specs.declared.step.reading.Reading.{Reading}
use Rattle.wm_machine.specs.declared.step.reading.Reading.TheVariants.{More, Done, Bad}
use Rattle.wm_machine.specs.Items.{Item, outside}
use Rattle.wm_machine.specs.MarkedForms.{MarkedForm, Empty, MarkedByte, Then, Leaf, Counted, marks_ending, outside_mark}
use Rattle.wm_machine.specs.Grammar.{ValueType}
use Rattle.wm_machine.specs.exact.Runs.{name_item, byte_read, ByteRead}
use Rattle.wm_machine.specs.exact.ValueSteps.{value_type_of}
use Rattle.wm_machine.specs.exact.MemberSteps.{on_number, on_value, on_type}
use Rattle.wm_machine.proofs.FirstBytes.{Next, Same, HasBytes, Never, head_same, tail_same, not_nil, next_to, next_never, next_then, next_byte, other_byte, byte_has, ends_first, fails_first}
use Rattle.wm_machine.proofs.Numbers.{Left}
use Rattle.wm_machine.proofs.Counts.{CountedNext, counted_next}
use Rattle.wm_machine.proofs.Leaves.{IsReader, LeafNext, leaf_next, leaf_has}
use Rattle.wm_machine.proofs.NamesAndSizes.{NameLeft, TextLeft, TextNext, text_done, text_next, text_has, named_byte, left_more, left_last, left_bad, left_has}
use Rattle.wm_machine.proofs.ValueBytes.{TypeAnswer, type_answer}
use Rattle.wm_syntax.proofs.SameTypes.{byte_tells}

module _ (demanded : Type 0) where
  -- value types
  pub value_has : (p : Profile) (g : ValType → Item) → HasBytes demanded (ValueType p g)
  value_has p g s k h = not_nil (type_byte h.0) [] (sym h.1.1)

  pub value_next : (p : Profile) (g : ValType → Item) (t : ValType) → HasType p t → Next demanded (ValueType p g) (type_byte t) (outside_mark (Some (g t))) Empty
  value_next p g t i = record {
    to = λ s b k h.
        let e : b ≡ [] = tail_same (type_byte t) (type_byte h.0) b [] h.1.1 in
        let u : h.0 ≡ t = byte_tells h.0 t (sym (head_same (type_byte t) (type_byte h.0) b [] h.1.1)) in
        ([], h.2 ∙ (ap (λ y. marks_ending (Some (g h.0)) (type_byte t ∷ y)) e ∙ ap (λ y. outside_mark (Some (g y)) ∷ []) u), (e, refl));
    from = λ b k q. (t, (i, ap (λ y. type_byte t ∷ y) q.2.0), q.1 ∙ (ap (λ y. outside_mark (Some (g t)) ∷ y) q.2.1 ∙ sym (ap (λ y. marks_ending (Some (g t)) (type_byte t ∷ y)) q.2.0)));
  }

  value_none : (p : Profile) (g : ValType → Item) (c : ℕ) → ((t : ValType) → HasType p t → c ≡ type_byte t → ⊥) → Next demanded (ValueType p g) c (outside_mark None) Never
  value_none p g c none = next_never demanded (ValueType p g) c (outside_mark None) (λ s b k h. none h.0 h.1.0 (head_same c (type_byte h.0) b [] h.1.1))

  module _ {M : Type 0} (fail : Why → M) (rest : M → List ℕ → MarkedForm) (stuck : (w : Why) → Same demanded Never (rest (fail w) [])) (so_far : List ℕ) (c : ℕ) where
    abbrev pub hears : M × Event → ByteRead M
    hears q = byte_read fail outside so_far c q

    -- P goes on as the answer says
    abbrev pub Follows : MarkedForm → M × Event → Type 0
    Follows P q = Next demanded P c (hears q).mark (rest (hears q).at (hears q).name)

    pub halts : (P : MarkedForm) (w : Why) → Next demanded P c (outside_mark None) Never → Follows P (fail w, event.Nothing)
    halts P w n = next_to demanded P Never (rest (fail w) []) c (outside_mark None) (stuck w) n

    -- a number whose end goes on as F says, and gives what x says
    module _ (x : ℕ → Option Item) (F : ℕ → MarkedForm) (more : Partial → M) (done : ℕ → M × Event)
        (mores : (s : Partial) → Same demanded (Counted (Left s) x F) (rest (more s) []))
        (given : (n : ℕ) → (hears (done n)).mark ≡ outside_mark (x n))
        (dones : (n : ℕ) → Same demanded (F n) (rest (hears (done n)).at (hears (done n)).name)) where
      number_cases : (r : Partial) (q : Step ℕ × Partial) → CountedNext demanded x F r c q → Follows (Counted (Left r) x F) (on_number q more done fail)
      number_cases r (step.More, s) h = next_to demanded (Counted (Left r) x F) (Counted (Left s) x F) (rest (more s) []) c (outside_mark None) (mores s) h
      number_cases r (step.Done v, s) h = next_to demanded (Counted (Left r) x F) (F v) (rest (hears (done v)).at (hears (done v)).name) c (hears (done v)).mark (dones v) (subst (λ y. Next demanded (Counted (Left r) x F) c y (F v)) (sym (given v)) h)
      number_cases r (step.Bad, s) h = halts (Counted (Left r) x F) why.BadNumber h

      pub number_follows : (r : Partial) → c < 2 ^ 8 → Follows (Counted (Left r) x F) (on_number (unsigned_push 32 r c) more done fail)
      number_follows r byte = number_cases r (unsigned_push 32 r c) (counted_next demanded x F r c byte)

    -- a value and what follows it
    module _ {R X : Type 0} (left : R → X → Form ℕ) (push : R → ℕ → Reading R X) (is : IsReader left push) (part : X → Item) (Q : MarkedForm) (more : R → M) (done : X → M × Event)
        (mores : (s : R) → Same demanded (Then (Leaf (left s) part) Q) (rest (more s) []))
        (given : (v : X) → (hears (done v)).mark ≡ outside_mark (Some (part v)))
        (dones : (v : X) → Same demanded Q (rest (hears (done v)).at (hears (done v)).name)) where
      leaf_cases : (r : R) (q : Reading R X) → LeafNext demanded left push is part r c q → Follows (Then (Leaf (left r) part) Q) (on_value q more done fail)
      leaf_cases r (More s) h = next_to demanded (Then (Leaf (left r) part) Q) (Then (Leaf (left s) part) Q) (rest (more s) []) c (outside_mark None) (mores s) (next_then demanded (Leaf (left r) part) Q c (outside_mark None) (Leaf (left s) part) h (leaf_has demanded left push is part r))
      leaf_cases r (Done v) h = subst (λ y. Next demanded (Then (Leaf (left r) part) Q) c y (rest (hears (done v)).at (hears (done v)).name)) (sym (given v)) (ends_first demanded (Leaf (left r) part) Q (rest (hears (done v)).at (hears (done v)).name) c (outside_mark (Some (part v))) h (leaf_has demanded left push is part r) (dones v))
      leaf_cases r (Bad w) h = halts (Then (Leaf (left r) part) Q) w (fails_first demanded (Leaf (left r) part) Q c (outside_mark None) h (leaf_has demanded left push is part r))

      pub leaf_follows : (r : R) → c < 2 ^ 8 → Follows (Then (Leaf (left r) part) Q) (on_value (push r c) more done fail)
      leaf_follows r byte = leaf_cases r (push r c) (leaf_next demanded left push is part r c byte)

    -- a value type and what follows it
    module _ (p : Profile) (g : ValType → Item) (Q : MarkedForm) (done : ValType → M × Event)
        (given : (t : ValType) → (hears (done t)).mark ≡ outside_mark (Some (g t)))
        (dones : (t : ValType) → Same demanded Q (rest (hears (done t)).at (hears (done t)).name)) where
      type_cases : (q : Result ValType Why) → TypeAnswer p c q → Follows (Then (ValueType p g) Q) (on_type q done fail)
      type_cases (Ok t) e =
          subst (λ y. Next demanded (Then (ValueType p g) Q) c y (rest (hears (done t)).at (hears (done t)).name)) (sym (given t))
          (subst (λ y. Next demanded (Then (ValueType p g) Q) y (outside_mark (Some (g t))) (rest (hears (done t)).at (hears (done t)).name)) (sym e.0)
          (ends_first demanded (ValueType p g) Q (rest (hears (done t)).at (hears (done t)).name) (type_byte t) (outside_mark (Some (g t))) (value_next p g t e.1) (value_has p g) (dones t)))
      type_cases (Err w) none = halts (Then (ValueType p g) Q) w (fails_first demanded (ValueType p g) Q c (outside_mark None) (value_none p g c none) (value_has p g))

      pub type_follows : Follows (Then (ValueType p g) Q) (on_type (value_type_of p c) done fail)
      type_follows = type_cases (value_type_of p c) (type_answer p c)

    -- this byte and what follows it
    pub byte_follows : (d : ℕ) (x : Option Item) (Q : MarkedForm) (q : M × Event) → (hears q).mark ≡ outside_mark x → Same demanded Q (rest (hears q).at (hears q).name)
        → Follows (Then (MarkedByte d x) Q) (cond (nat_eq c d) q (fail why.BadByte, event.Nothing))
    byte_follows d x Q q mark s =
        cond_both (nat_eq c d) _ _ (λ (a : M × Event). Follows (Then (MarkedByte d x) Q) a)
        (λ a. subst (λ y. Next demanded (Then (MarkedByte d x) Q) c y (rest (hears q).at (hears q).name)) (sym mark)
        (subst (λ y. Next demanded (Then (MarkedByte d x) Q) y (outside_mark x) (rest (hears q).at (hears q).name)) (sym (eqb-true c d a))
        (ends_first demanded (MarkedByte d x) Q (rest (hears q).at (hears q).name) d (outside_mark x) (next_byte demanded d x) (byte_has demanded d x) s)))
        (λ a. halts (Then (MarkedByte d x) Q) why.BadByte (fails_first demanded (MarkedByte d x) Q c (outside_mark None) (next_never demanded (MarkedByte d x) c (outside_mark None) (λ s b k h. other_byte demanded d c x b k (eqb-false c d a) h)) (byte_has demanded d x)))

    -- a name and what follows it
    module _ (of : NameKind) (Q : MarkedForm) (after : M) (afters : Same demanded Q (rest after [])) (left : ℕ → M) (lefts : (n : ℕ) (y : List ℕ) → Same demanded (Then (NameLeft demanded y (suc n) (name_item of)) Q) (rest (left n) y)) where
      abbrev ended_length : ℕ → M × Event
      ended_length zero = (after, event.EmptyName of)
      ended_length (suc n) = (left n, event.Nothing)

      module _ (more : Partial → M) (mores : (s : Partial) → Same demanded (Then (TextLeft demanded s (name_item of)) Q) (rest (more s) [])) where
        abbrev P : Partial → MarkedForm
        P r = Then (TextLeft demanded r (name_item of)) Q

        length_done : (r : Partial) (v : ℕ) → text_done demanded r c (name_item of) v → Follows (P r) (ended_length v)
        length_done r zero h = ends_first demanded (TextLeft demanded r (name_item of)) Q (rest after []) c (outside_mark (name_item of [])) h (text_has demanded (name_item of) r) afters
        length_done r (suc n) h = next_to demanded (P r) (Then (NameLeft demanded [] (suc n) (name_item of)) Q) (rest (left n) []) c (outside_mark None) (lefts n []) (next_then demanded (TextLeft demanded r (name_item of)) Q c (outside_mark None) (NameLeft demanded [] (suc n) (name_item of)) h (text_has demanded (name_item of) r))

        length_cases : (r : Partial) (q : Step ℕ × Partial) → TextNext demanded (name_item of) r c q → Follows (P r) (on_number q more ended_length fail)
        length_cases r (step.More, s) h = next_to demanded (P r) (P s) (rest (more s) []) c (outside_mark None) (mores s) (next_then demanded (TextLeft demanded r (name_item of)) Q c (outside_mark None) (TextLeft demanded s (name_item of)) h (text_has demanded (name_item of) r))
        length_cases r (step.Done v, s) h = length_done r v h
        length_cases r (step.Bad, s) h = halts (P r) why.BadNumber (fails_first demanded (TextLeft demanded r (name_item of)) Q c (outside_mark None) h (text_has demanded (name_item of) r))

        pub length_follows : (r : Partial) → c < 2 ^ 8 → Follows (P r) (on_number (unsigned_push 32 r c) more ended_length fail)
        length_follows r byte = length_cases r (unsigned_push 32 r c) (text_next demanded (name_item of) r c byte)

      abbrev ended_name : ℕ → M × Event
      ended_name zero = (after, event.EndsName of)
      ended_name (suc n) = (left n, event.InName)

      pub name_follows : (n : ℕ) → Follows (Then (NameLeft demanded so_far (suc n) (name_item of)) Q) (ended_name n)
      name_follows zero =
          let N : MarkedForm = NameLeft demanded so_far 1 (name_item of) in
          cond_both (is_utf8 (so_far ++ c ∷ [])) _ _ (λ (h : ByteRead M). Next demanded (Then N Q) c h.mark (rest h.at h.name))
          (λ u. ends_first demanded N Q (rest after []) c (outside_mark (name_item of (so_far ++ c ∷ []))) (left_last demanded so_far (name_item of) c u) (left_has demanded so_far 0 (name_item of)) afters)
          (λ u. halts (Then N Q) why.BadUtf8 (fails_first demanded N Q c (outside_mark None) (left_bad demanded so_far (name_item of) c u) (left_has demanded so_far 0 (name_item of))))
      name_follows (suc n) =
          next_to demanded (Then (NameLeft demanded so_far (suc (suc n)) (name_item of)) Q) (Then (NameLeft demanded (so_far ++ c ∷ []) (suc n) (name_item of)) Q) (rest (left n) (so_far ++ c ∷ [])) c named_byte (lefts n (so_far ++ c ∷ []))
          (next_then demanded (NameLeft demanded so_far (suc (suc n)) (name_item of)) Q c named_byte (NameLeft demanded (so_far ++ c ∷ []) (suc n) (name_item of)) (left_more demanded so_far n (name_item of) c) (left_has demanded so_far (suc n) (name_item of)))
