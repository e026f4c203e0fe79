-- How names and parts with a size continue.
use Rattle.std.proofs.Common.{◌≡◌, ℕ, zero, suc, ◌-◌, ◌<◌, ◌≤◌, ◌^◌, List, [], ◌∷◌, ◌++◌, Option, None, length, refl, sym, ◌∙◌, ap, subst, append_assoc, arith, IsUtf8, Bool, true, false}
use Rattle.std.specs.Str.{is_utf8}
use Rattle.std.proofs.lemmas.Str.{IsUtf8-from_is_utf8, is_utf8-from_IsUtf8}
use Rattle.wm_syntax.specs.Spelling.{AreBytes}
use Rattle.wm_syntax.specs.declared.numbers.Step.{Step}
use Rattle.wm_syntax.specs.declared.numbers.Step.TheVariants.{More, Done, Bad}
use Rattle.wm_syntax.specs.inner.Numbers.{Partial}
use Rattle.wm_syntax.specs.exact.Reading.{fresh, unsigned_push}
use Rattle.wm_machine.specs.Items.{Item, name, Mark, Marks}
use Rattle.wm_machine.specs.MarkedForms.{MarkedForm, Empty, Sized, Filled, Text, Name, marks_ending, name_byte_marks, name_marks, outside_mark}
use Rattle.wm_machine.proofs.FirstBytes.{Goes, Next, Same, HasBytes, Never, head_same, tail_same, not_nil, next_never}
use Rattle.wm_machine.proofs.Numbers.{Left, NumberNext, number_next, left_nil, fresh_number}

-- a byte of a name that goes on
abbrev pub named_byte : Mark
named_byte = record { zone = name; item = None }

naming_more : (y : Option Item) (c : ℕ) (b : List ℕ) → (b ≡ [] → ⊥) → name_byte_marks y (c ∷ b) ≡ named_byte ∷ name_byte_marks y b
naming_more y c [] h = absurd (h refl)
naming_more y c (d ∷ b) h = refl

-- before the last byte of the length
length_more : (y : Option Item) (c a : ℕ) (rest text : List ℕ) → name_marks y (c ∷ a ∷ rest) text ≡ outside_mark None ∷ name_marks y (a ∷ rest) text
length_more y c a rest [] = refl
length_more y c a rest (t ∷ text) = refl

-- at the last byte of the length of a name that is not empty
length_last : (y : Option Item) (c n : ℕ) (text : List ℕ) → length text ≡ suc n → name_marks y (c ∷ []) text ≡ outside_mark None ∷ name_byte_marks y text
length_last y c n [] h = absurd (omega (arith, h))
length_last y c n (t ∷ text) h = refl

pub is_nil : (b : List ℕ) → length b ≡ 0 → b ≡ []
is_nil [] h = refl
is_nil (d ∷ b) h = absurd (omega (arith, h))

pub long : (n : ℕ) (b : List ℕ) → length b ≡ suc n → b ≡ [] → ⊥
long n b e h = let z : length b ≡ 0 = ap length h in omega arith

nil_utf8 : IsUtf8 []
nil_utf8 = ([], (refl, refl))

differ : (t : Bool) → t ≡ true → t ≡ false → ⊥
differ t a b = cc

module _ (demanded : Type 0) where
  -- the last bytes of a name, so many, after these
  abbrev pub NameLeft : List ℕ → ℕ → (List ℕ → Option Item) → MarkedForm
  NameLeft so_far n x b k = (length b ≡ n) × (demanded → IsUtf8 (so_far ++ b)) × (k ≡ name_byte_marks (x (so_far ++ b)) b)

  abbrev pub TextLeft : Partial → (List ℕ → Option Item) → MarkedForm
  TextLeft r x = Text demanded (Left r) x

  abbrev pub text_done : Partial → ℕ → (List ℕ → Option Item) → ℕ → Type 0
  text_done r c x zero = Next demanded (TextLeft r x) c (outside_mark (x [])) Empty
  text_done r c x (suc n) = Next demanded (TextLeft r x) c (outside_mark None) (NameLeft [] (suc n) x)

  abbrev pub TextNext : (List ℕ → Option Item) → Partial → ℕ → Step ℕ × Partial → Type 0
  TextNext x r c (More, s) = Next demanded (TextLeft r x) c (outside_mark None) (TextLeft s x)
  TextNext x r c (Done v, s) = text_done r c x v
  TextNext x r c (Bad, s) = Next demanded (TextLeft r x) c (outside_mark None) Never

  module _ (x : List ℕ → Option Item) (r : Partial) (c : ℕ) where
    more_split : (s : Partial) → NumberNext r c (More, s) → (b : List ℕ) (k : Marks) (front text : List ℕ) → c ∷ b ≡ front ++ text → k ≡ name_marks (x text) front text → Left r (length text) front → (demanded → IsUtf8 text) → Goes (outside_mark None) (TextLeft s x) b k
    more_split s h b k [] text e m u i = absurd (left_nil r (length text) u)
    more_split s h b k (d ∷ []) text e m u i =
        absurd (left_nil s (length text) ((h (length text) []).0 (subst (λ y. Left r (length text) (y ∷ [])) (sym (head_same c d b text e)) u)))
    more_split s h b k (d ∷ a ∷ rest) text e m u i = (
      name_marks (x text) (a ∷ rest) text,
      m ∙ length_more (x text) d a rest text,
      record {
        front = a ∷ rest;
        text = text;
        bytes = tail_same c d b (a ∷ rest ++ text) e;
        marks = refl;
        number = (h (length text) (a ∷ rest)).0 (subst (λ y. Left r (length text) (y ∷ a ∷ rest)) (sym (head_same c d b (a ∷ rest ++ text) e)) u);
        utf8 = i;
      },
    )

    more_back : (s : Partial) → NumberNext r c (More, s) → (b : List ℕ) (k later : Marks) (front text : List ℕ) → b ≡ front ++ text → k ≡ outside_mark None ∷ later → later ≡ name_marks (x text) front text → Left s (length text) front → (demanded → IsUtf8 text) → TextLeft r x (c ∷ b) k
    more_back s h b k later [] text e m l u i = absurd (left_nil s (length text) u)
    more_back s h b k later (a ∷ rest) text e m l u i =
        record { front = c ∷ a ∷ rest; text = text; bytes = ap (λ y. c ∷ y) e; marks = m ∙ (ap (λ y. outside_mark None ∷ y) l ∙ sym (length_more (x text) c a rest text)); number = (h (length text) (a ∷ rest)).1 u; utf8 = i }

    -- the number's last byte
    done_split : (v : ℕ) (s : Partial) → NumberNext r c (Done v, s) → (b : List ℕ) (k : Marks) (front text : List ℕ) → c ∷ b ≡ front ++ text → k ≡ name_marks (x text) front text → Left r (length text) front → (length text ≡ v) × (b ≡ text) × (k ≡ name_marks (x text) (c ∷ []) text)
    done_split v s h b k [] text e m u = absurd (left_nil r (length text) u)
    done_split v s h b k (d ∷ rest) text e m u =
        let g : (length text ≡ v) × (rest ≡ []) = (h (length text) rest).0 (subst (λ y. Left r (length text) (y ∷ rest)) (sym (head_same c d b (rest ++ text) e)) u) in
        (g.0, tail_same c d b (rest ++ text) e ∙ ap (λ y. y ++ text) g.1, m ∙ (ap (λ y. name_marks (x text) (d ∷ y) text) g.1 ∙ ap (λ y. name_marks (x text) (y ∷ []) text) (sym (head_same c d b (rest ++ text) e))))

    none_split : (s : Partial) → NumberNext r c (Bad, s) → (b : List ℕ) (front text : List ℕ) → c ∷ b ≡ front ++ text → Left r (length text) front → ⊥
    none_split s h b [] text e u = left_nil r (length text) u
    none_split s h b (d ∷ rest) text e u = (h (length text) rest).0 (subst (λ y. Left r (length text) (y ∷ rest)) (sym (head_same c d b (rest ++ text) e)) u)

    done_goes : (v : ℕ) (s : Partial) → NumberNext r c (Done v, s) → text_done r c x v
    done_goes zero s h = record {
      to = λ t b k q.
          let d = done_split zero s h b k q.front q.text q.bytes q.marks q.number in
          let e : q.text ≡ [] = is_nil q.text d.0 in
          ([], d.2 ∙ ap (λ y. name_marks (x y) (c ∷ []) y) e, (d.1 ∙ e, refl));
      from = λ b k g. record { front = c ∷ []; text = []; bytes = ap (λ y. c ∷ y) g.2.0; marks = g.1 ∙ ap (λ y. outside_mark (x []) ∷ y) g.2.1; number = (h 0 []).1 (refl, refl); utf8 = λ t. nil_utf8 };
    }
    done_goes (suc n) s h = record {
      to = λ t b k q.
          let d = done_split (suc n) s h b k q.front q.text q.bytes q.marks q.number in
          let l : length b ≡ suc n = ap length d.1 ∙ d.0 in
          let m : k ≡ name_marks (x b) (c ∷ []) b = d.2 ∙ ap (λ y. name_marks (x y) (c ∷ []) y) (sym d.1) in
          (name_byte_marks (x b) b, m ∙ length_last (x b) c n b l, (l, λ u. subst IsUtf8 (sym d.1) (q.utf8 u), refl));
      from = λ b k g. let t = g.2 in record { front = c ∷ []; text = b; bytes = refl; marks = g.1 ∙ (ap (λ y. outside_mark None ∷ y) t.2 ∙ sym (length_last (x b) c n b t.0)); number = (h (length b) []).1 (t.0, refl); utf8 = t.1 };
    }

    text_goes : (p : Step ℕ × Partial) → NumberNext r c p → TextNext x r c p
    text_goes (More, s) h = record {
      to = λ t b k q. more_split s h b k q.front q.text q.bytes q.marks q.number q.utf8;
      from = λ b k g. let q = g.2 in more_back s h b k g.0 q.front q.text q.bytes g.1 q.marks q.number q.utf8;
    }
    text_goes (Done v, s) h = done_goes v s h
    text_goes (Bad, s) h = next_never demanded (TextLeft r x) c (outside_mark None) (λ t b k q. none_split s h b q.front q.text q.bytes q.number)

    pub text_next : c < 2 ^ 8 → TextNext x r c (unsigned_push 32 r c)
    text_next byte = text_goes (unsigned_push 32 r c) (number_next r c byte)

  no_text : (r : Partial) (front text : List ℕ) → [] ≡ front ++ text → Left r (length text) front → ⊥
  no_text r [] text h u = left_nil r (length text) u
  no_text r (d ∷ f) text h u = not_nil d (f ++ text) (sym h)

  pub text_has : (x : List ℕ → Option Item) (r : Partial) → HasBytes demanded (TextLeft r x)
  text_has x r s k h = no_text r h.front h.text h.bytes h.number

  pub text_fresh : (x : List ℕ → Option Item) → Same demanded (Name demanded x) (TextLeft fresh x)
  text_fresh x = record {
    to = λ s b k h. record { front = h.front; text = h.text; bytes = h.bytes; marks = h.marks; number = (fresh_number (length h.text) h.front).0 h.number; utf8 = h.utf8 };
    from = λ b k h. record { front = h.front; text = h.text; bytes = h.bytes; marks = h.marks; number = (fresh_number (length h.text) h.front).1 h.number; utf8 = h.utf8 };
  }

  pub left_more : (so_far : List ℕ) (n : ℕ) (x : List ℕ → Option Item) (c : ℕ) → Next demanded (NameLeft so_far (suc (suc n)) x) c named_byte (NameLeft (so_far ++ c ∷ []) (suc n) x)
  left_more so_far n x c =
      record {
        to = λ s b k h.
            let a : (so_far ++ c ∷ []) ++ b ≡ so_far ++ c ∷ b = append_assoc so_far (c ∷ []) b in
            let l : length b ≡ suc n = omega (arith, h.0) in
            (name_byte_marks (x (so_far ++ c ∷ b)) b, h.2 ∙ naming_more (x (so_far ++ c ∷ b)) c b (long n b l), (l, λ u. subst IsUtf8 (sym a) (h.1 u), ap (λ y. name_byte_marks (x y) b) (sym a)));
        from = λ b k g.
            let a : (so_far ++ c ∷ []) ++ b ≡ so_far ++ c ∷ b = append_assoc so_far (c ∷ []) b in
            let t = g.2 in
            (omega (arith, t.0), λ u. subst IsUtf8 a (t.1 u), g.1 ∙ (ap (λ y. named_byte ∷ y) (t.2 ∙ ap (λ y. name_byte_marks (x y) b) a) ∙ sym (naming_more (x (so_far ++ c ∷ b)) c b (long n b t.0))));
      }

  pub left_last : (so_far : List ℕ) (x : List ℕ → Option Item) (c : ℕ) → is_utf8 (so_far ++ c ∷ []) ≡ true → Next demanded (NameLeft so_far 1 x) c (outside_mark (x (so_far ++ c ∷ []))) Empty
  left_last so_far x c u = record {
    to = λ s b k h.
        let z : length b ≡ 0 = omega (arith, h.0) in
        let e : b ≡ [] = is_nil b z in
        ([], h.2 ∙ ap (λ y. name_byte_marks (x (so_far ++ c ∷ y)) (c ∷ y)) e, (e, refl));
    from = λ b k g. let e = g.2.0 in (
      ap (λ y. length (c ∷ y)) e,
      λ s. subst (λ y. IsUtf8 (so_far ++ c ∷ y)) (sym e) (IsUtf8-from_is_utf8 (so_far ++ c ∷ []) u),
      g.1 ∙ (ap (λ y. outside_mark (x (so_far ++ c ∷ [])) ∷ y) g.2.1 ∙ sym (ap (λ y. name_byte_marks (x (so_far ++ c ∷ y)) (c ∷ y)) e)),
    );
  }

  pub left_bad : (so_far : List ℕ) (x : List ℕ → Option Item) (c : ℕ) → is_utf8 (so_far ++ c ∷ []) ≡ false → Next demanded (NameLeft so_far 1 x) c (outside_mark None) Never
  left_bad so_far x c u = next_never demanded (NameLeft so_far 1 x) c (outside_mark None) (λ s b k h.
      let z : length b ≡ 0 = omega (arith, h.0) in
      let i : IsUtf8 (so_far ++ c ∷ []) = subst (λ y. IsUtf8 (so_far ++ c ∷ y)) (is_nil b z) (h.1 s) in
      differ (is_utf8 (so_far ++ c ∷ [])) (is_utf8-from_IsUtf8 (so_far ++ c ∷ []) i) u)

  pub left_has : (so_far : List ℕ) (n : ℕ) (x : List ℕ → Option Item) → HasBytes demanded (NameLeft so_far (suc n) x)
  left_has so_far n x s k h = omega (arith, h.0)

  -- so many bytes
  pub sized_next : (P Q : MarkedForm) (n c : ℕ) (m : Mark) → Next demanded P c m Q → Next demanded (Sized demanded (suc n) P) c m (Sized demanded n Q)
  sized_next P Q n c m g = record {
    to = λ s b k h. let q = g.to s b k h.1 in let l : suc (length b) ≡ suc n = h.0 s in (q.0, q.1, (λ t. omega (arith, l), q.2));
    from = λ b k q. (λ s. let l : length b ≡ n = q.2.0 s in omega (arith, l), g.from b k (q.0, q.1, q.2.1));
  }

  pub sized_has : (P : MarkedForm) (n : ℕ) → HasBytes demanded (Sized demanded (suc n) P)
  sized_has P n s k h = let l : 0 ≡ suc n = h.0 s in omega (arith, l)

  pub sized_none : (P : MarkedForm) → HasBytes demanded P → Same demanded (Sized demanded 0 P) Never
  sized_none P e = record { to = λ s b k h. e s k (subst (λ y. P y k) (is_nil b (h.0 s)) h.1); from = λ b k h. absurd h }

  pub sized_empty : Same demanded (Sized demanded 0 Empty) Empty
  sized_empty = record { to = λ s b k h. h.1; from = λ b k h. (λ s. ap length h.0, h) }

  pub sized_over : (n : ℕ) → Same demanded (Sized demanded (suc n) Empty) Never
  sized_over n = record { to = λ s b k h. long n b (h.0 s) h.1.0; from = λ b k h. absurd h }

  pub sized_never : (n : ℕ) → Same demanded (Sized demanded n Never) Never
  sized_never n = record { to = λ s b k h. h.1; from = λ b k h. absurd h }

  pub sized_same : (P Q : MarkedForm) (n : ℕ) → Same demanded P Q → Same demanded (Sized demanded n P) (Sized demanded n Q)
  sized_same P Q n p = record { to = λ s b k h. (h.0, p.to s b k h.1); from = λ b k h. (h.0, p.from b k h.1) }

  -- so many bytes, whatever they are
  abbrev pub AnyBytes : ℕ → MarkedForm
  AnyBytes n b k = (length b ≡ n) × AreBytes b × (k ≡ marks_ending None b)

  pub any_more : (b : List ℕ) (c : ℕ) → marks_ending None (c ∷ b) ≡ outside_mark None ∷ marks_ending None b
  any_more [] c = refl
  any_more (d ∷ b) c = refl

  pub any_next : (n c : ℕ) → c < 2 ^ 8 → Next demanded (AnyBytes (suc n)) c (outside_mark None) (AnyBytes n)
  any_next n c byte = record {
    to = λ s b k h. (marks_ending None b, h.2 ∙ any_more b c, (omega (arith, h.0), h.1.1, refl));
    from = λ b k g. let t = g.2 in (omega (arith, t.0), (byte, t.1), g.1 ∙ (ap (λ y. outside_mark None ∷ y) t.2 ∙ sym (any_more b c)));
  }

  pub any_none : Same demanded (AnyBytes 0) Empty
  any_none = record {
    to = λ s b k h. let e = is_nil b h.0 in (e, h.2 ∙ ap (marks_ending None) e);
    from = λ b k h. (ap length h.0, subst AreBytes (sym h.0) tt, h.1 ∙ sym (ap (marks_ending None) h.0));
  }

  pub any_has : (n : ℕ) → HasBytes demanded (AnyBytes (suc n))
  any_has n s k h = omega (arith, h.0)

  -- something and then any bytes
  filled_split : (P P' : MarkedForm) (n c : ℕ) (m : Mark) → Next demanded P c m P' → HasBytes demanded P → demanded → (b : List ℕ) (k : Marks) (front back : List ℕ) (fm : Marks) → c ∷ b ≡ front ++ back → k ≡ fm ++ marks_ending None back → P front fm → length front ≤ suc n → length back ≡ suc n - length front → AreBytes back → Goes m (Filled demanded n P') b k
  filled_split P P' n c m g e s b k [] back fm h l p f z a = absurd (e s fm p)
  filled_split P P' n c m g e s b k (d ∷ rest) back fm h l p f z a =
      let q = g.to s rest fm (subst (λ y. P (y ∷ rest) fm) (sym (head_same c d b (rest ++ back) h)) p) in (
        q.0 ++ marks_ending None back,
        l ∙ ap (λ y. y ++ marks_ending None back) q.1,
        record { front = rest; back = back; front_marks = q.0; bytes = tail_same c d b (rest ++ back) h; marks = refl; first = q.2; fits = λ t. omega (arith, f); size = omega (arith, z); are_bytes = a },
      )

  pub filled_next : (P P' : MarkedForm) (n c : ℕ) (m : Mark) → Next demanded P c m P' → HasBytes demanded P → Next demanded (Filled demanded (suc n) P) c m (Filled demanded n P')
  filled_next P P' n c m g e = record {
    to = λ s b k h. filled_split P P' n c m g e s b k h.front h.back h.front_marks h.bytes h.marks h.first (h.fits s) h.size h.are_bytes;
    from = λ b k q. let t = q.2 in record {
      front = c ∷ t.front;
      back = t.back;
      front_marks = m ∷ t.front_marks;
      bytes = ap (λ y. c ∷ y) t.bytes;
      marks = q.1 ∙ ap (λ y. m ∷ y) t.marks;
      first = g.from t.front (m ∷ t.front_marks) (t.front_marks, refl, t.first);
      fits = λ s. let f : length t.front ≤ n = t.fits s in omega (arith, f);
      size = omega (arith, t.size);
      are_bytes = t.are_bytes;
    };
  }

  filled_has_split : (P : MarkedForm) → HasBytes demanded P → demanded → (front back : List ℕ) (fm : Marks) → [] ≡ front ++ back → P front fm → ⊥
  filled_has_split P e s [] back fm h p = e s fm p
  filled_has_split P e s (d ∷ f) back fm h p = not_nil d (f ++ back) (sym h)

  pub filled_has : (P : MarkedForm) (n : ℕ) → HasBytes demanded P → HasBytes demanded (Filled demanded n P)
  filled_has P n e s k h = filled_has_split P e s h.front h.back h.front_marks h.bytes h.first

  no_room : (P : MarkedForm) → HasBytes demanded P → demanded → (front : List ℕ) (fm : Marks) → length front ≤ 0 → P front fm → ⊥
  no_room P e s [] fm f p = e s fm p
  no_room P e s (d ∷ front) fm f p = omega (arith, f)

  pub filled_none : (P : MarkedForm) → HasBytes demanded P → Same demanded (Filled demanded 0 P) Never
  filled_none P e = record { to = λ s b k h. no_room P e s h.front h.front_marks (h.fits s) h.first; from = λ b k h. absurd h }

  pub filled_never : (n : ℕ) → Same demanded (Filled demanded n Never) Never
  filled_never n = record { to = λ s b k h. h.first; from = λ b k h. absurd h }

  pub filled_empty : (n : ℕ) → Same demanded (Filled demanded n Empty) (AnyBytes n)
  filled_empty n = record {
    to = λ s b k h.
        let e : b ≡ h.back = h.bytes ∙ ap (λ y. y ++ h.back) h.first.0 in
        let z : length h.back ≡ n - length h.front = h.size in
        let l : length h.front ≡ 0 = ap length h.first.0 in
        let i : length b ≡ length h.back = ap length e in
        let m : k ≡ marks_ending None h.back = h.marks ∙ ap (λ y. y ++ marks_ending None h.back) h.first.1 in
        (omega (arith, i, z, l), subst AreBytes (sym e) h.are_bytes, m ∙ ap (marks_ending None) (sym e));
    from = λ b k h. record { front = []; back = b; front_marks = []; bytes = refl; marks = h.2; first = (refl, refl); fits = λ s. omega arith; size = omega (arith, h.0); are_bytes = h.1 };
  }

  pub filled_same : (P Q : MarkedForm) (n : ℕ) → Same demanded P Q → Same demanded (Filled demanded n P) (Filled demanded n Q)
  filled_same P Q n p = record {
    to = λ s b k h. record { front = h.front; back = h.back; front_marks = h.front_marks; bytes = h.bytes; marks = h.marks; first = p.to s h.front h.front_marks h.first; fits = h.fits; size = h.size; are_bytes = h.are_bytes };
    from = λ b k h. record { front = h.front; back = h.back; front_marks = h.front_marks; bytes = h.bytes; marks = h.marks; first = p.from h.front h.front_marks h.first; fits = h.fits; size = h.size; are_bytes = h.are_bytes };
  }
