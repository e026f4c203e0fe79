-- The sections that may come next.
use Rattle.std.proofs.Common.{◌≡◌, ℕ, zero, suc, ◌+◌, ◌<◌, ◌≤◌, List, [], ◌∷◌, ◌++◌, None, refl, sym, ◌∙◌, ap, subst, inl, inr, ◌⊎◌, arith, true, false, nat_lt}
use Rattle.std.proofs.lemmas.Bool.{ltb-true, ltb-false}
use Rattle.wm_syntax.specs.declared.profile.Profile.{Profile}
use Rattle.wm_syntax.specs.exact.Reading.{fresh}
use Rattle.wm_machine.specs.Items.{Marks}
use Rattle.wm_machine.specs.MarkedForms.{MarkedForm, MarkedByte, Then, Times, Counted, MarkedNumber, Name, Sized, Filled, nothing_at, outside_mark}
use Rattle.wm_machine.specs.Grammar.{ModuleCounts, HasSection, Contents, Section, Custom, Customs, MayMiss, Optional, Chain, id_at}
use Rattle.wm_machine.proofs.FirstBytes.{Next, HasBytes, head_same, not_nil, same_refl, next_from, next_byte, byte_has, then_has, then_assoc, ends_first}
use Rattle.wm_machine.proofs.Numbers.{Left}
use Rattle.wm_machine.proofs.Counts.{counted_fresh}
use Rattle.wm_machine.proofs.Customs.{unnamed}
use Rattle.wm_machine.proofs.Ranks.{rank_at, rank_is, same_rank}

-- what holds besides
abbrev pub Where : Type 0 → MarkedForm → MarkedForm
Where C P b k = C × P b k

-- the sections of these ranks may be left out
abbrev pub Missing : (f : ModuleCounts) (low high : ℕ) → Type 0
Missing f low high = (i : ℕ) → low ≤ i → i < high → MayMiss f i

pub same_or_more : (a b : ℕ) → a ≤ b → (a ≡ b) ⊎ (a < b)
same_or_more a b h = (elim (nat_lt a b) as (λ v. nat_lt a b ≡ v → (a ≡ b) ⊎ (a < b)) [
  | true ↦ λ e. inr (ltb-true a b e)
  | false ↦ λ e. inl (let g : b ≤ a = ltb-false a b e in omega (arith, g, h))
]) refl

missing_more : (f : ModuleCounts) (low high : ℕ) → MayMiss f low → Missing f (suc low) high → Missing f low high
missing_more f low high m h i above below = elim (same_or_more low i above) [
  | inl e ↦ subst (λ y. MayMiss f y) e m
  | inr a ↦ h i (omega (arith, a)) below
]

missing_none : (f : ModuleCounts) (low high : ℕ) → high ≤ low → Missing f low high
missing_none f low high none i above below = absurd (omega (arith, none, above, below))

module _ (demanded : Type 0) (p : Profile) (f : ModuleCounts) where
  -- the size of a section other than a custom one, and its contents
  abbrev Sizes : ℕ → MarkedForm
  Sizes id = MarkedNumber nothing_at (λ n. Sized demanded n (Contents demanded p f id))

  -- after the id of a section, and after that of a custom one
  abbrev pub InSection : ℕ → MarkedForm → MarkedForm
  InSection id Q = Counted (Left fresh) nothing_at (λ n. Then (Sized demanded n (Contents demanded p f id)) Q)

  abbrev pub InCustomSection : MarkedForm → MarkedForm
  InCustomSection Q = Counted (Left fresh) nothing_at (λ n. Then (Filled demanded n (Name demanded unnamed)) Q)

  section_next : (id : ℕ) (G : ℕ → MarkedForm) (Q : MarkedForm) → Next demanded (Then (Then (MarkedByte id None) (MarkedNumber nothing_at G)) Q) id (outside_mark None) (Counted (Left fresh) nothing_at (λ n. Then (G n) Q))
  section_next id G Q =
      let N : MarkedForm = MarkedNumber nothing_at G in
      let R : MarkedForm = Counted (Left fresh) nothing_at (λ n. Then (G n) Q) in
      next_from demanded (Then (MarkedByte id None) (Then N Q)) (Then (Then (MarkedByte id None) N) Q) R id (outside_mark None) (then_assoc demanded (MarkedByte id None) N Q)
      (ends_first demanded (MarkedByte id None) (Then N Q) R id (outside_mark None) (next_byte demanded id None) (byte_has demanded id None)
      (counted_fresh demanded nothing_at G Q (λ n. Then (G n) Q) (λ n. same_refl demanded (Then (G n) Q))))

  -- what begins with a section begins with its id
  byte_front : (id c : ℕ) (b : List ℕ) (front back : List ℕ) (k : Marks) → c ∷ b ≡ front ++ back → MarkedByte id None front k → c ≡ id
  byte_front id c b [] back k e h = absurd (not_nil id [] (sym h.0))
  byte_front id c b (d ∷ front) back k e h = head_same c d b (front ++ back) e ∙ head_same d id front [] h.0

  id_has : (id : ℕ) (N : MarkedForm) → HasBytes (Unit {0}) (Then (MarkedByte id None) N)
  id_has id N = then_has (Unit {0}) (MarkedByte id None) N (byte_has (Unit {0}) id None)

  id_front : (id : ℕ) (N : MarkedForm) (c : ℕ) (b : List ℕ) (front back : List ℕ) (k : Marks) → c ∷ b ≡ front ++ back → Then (MarkedByte id None) N front k → c ≡ id
  id_front id N c b [] back k e h = absurd (id_has id N tt k h)
  id_front id N c b (d ∷ front) back k e h = head_same c d b (front ++ back) e ∙ byte_front id d front h.front h.back h.front_marks h.bytes h.first

  -- the same of what stands first
  first_front : (id : ℕ) (N Q : MarkedForm) (c : ℕ) (b : List ℕ) (k : Marks) → Then (Then (MarkedByte id None) N) Q (c ∷ b) k → c ≡ id
  first_front id N Q c b k h = id_front id N c b h.front h.back h.front_marks h.bytes h.first

  -- no custom section, and then the rest
  module _ {P : MarkedForm} where
    none_first : (b : List ℕ) (k : Marks) → P b k → Then (Customs demanded) P b k
    none_first b k h = record { front = []; back = b; front_marks = []; back_marks = k; bytes = refl; marks = refl; first = (0, (refl, refl)); second = h }

    one_more : (b : List ℕ) (k : Marks) → Then (Custom demanded) (Then (Customs demanded) P) b k → Then (Customs demanded) P b k
    one_more b k h =
        let t = (then_assoc demanded (Custom demanded) (Customs demanded) P).from b k h in
        record { front = t.front; back = t.back; front_marks = t.front_marks; back_marks = t.back_marks; bytes = t.bytes; marks = t.marks; first = joined t.first; second = t.second }
      where
        joined : {b : List ℕ} {k : Marks} → Then (Custom demanded) (Customs demanded) b k → Customs demanded b k
        joined h = (suc h.second.0, record { front = h.front; back = h.back; front_marks = h.front_marks; back_marks = h.back_marks; bytes = h.bytes; marks = h.marks; first = h.first; second = h.second.1 })

    -- either no custom section comes first, or one does
    split : (b : List ℕ) (k : Marks) → Then (Customs demanded) P b k → P b k ⊎ Then (Custom demanded) (Then (Customs demanded) P) b k
    split b k h = by_count h.first.0 h.front h.back h.front_marks h.back_marks h.bytes h.marks h.first.1 h.second
      where
        by_count : (n : ℕ) (front back : List ℕ) (fm bm : Marks) → b ≡ front ++ back → k ≡ fm ++ bm → Times n (Custom demanded) front fm → P back bm → P b k ⊎ Then (Custom demanded) (Then (Customs demanded) P) b k
        by_count zero front back fm bm e m t q =
            let eb : back ≡ b = sym (e ∙ ap (λ y. y ++ back) t.0) in
            let ek : bm ≡ k = sym (m ∙ ap (λ y. y ++ bm) t.1) in
            inl (subst (λ y. P y k) eb (subst (λ y. P back y) ek q))
        by_count (suc n) front back fm bm e m t q =
            let all : Then (Then (Custom demanded) (Customs demanded)) P b k =
            record { front = front; back = back; front_marks = fm; back_marks = bm; bytes = e; marks = m; first = record { front = t.front; back = t.back; front_marks = t.front_marks; back_marks = t.back_marks; bytes = t.bytes; marks = t.marks; first = t.first; second = (n, t.second) }; second = q } in
            inr (assoc b k all)
          where
            assoc : (b : List ℕ) (k : Marks) → Then (Then (Custom demanded) (Customs demanded)) P b k → Then (Custom demanded) (Then (Customs demanded) P) b k
            assoc b k h = (then_assoc (Unit {0}) (Custom demanded) (Customs demanded) P).to tt b k h

  abbrev Sections : (count id : ℕ) → MarkedForm
  Sections count id = Chain demanded p f count id

  -- a section that may be missing is
  pub left_out : (count id : ℕ) → MayMiss f id → (b : List ℕ) (k : Marks) → Sections count (suc id) b k → Sections (suc count) id b k
  left_out count id may b k h = none_first b k (record { front = []; back = b; front_marks = []; back_marks = k; bytes = refl; marks = refl; first = inr (may, (refl, refl)); second = h })

  present : (count id : ℕ) → HasSection p id → (b : List ℕ) (k : Marks) → Then (Section demanded p f id) (Sections count (suc id)) b k → Sections (suc count) id b k
  present count id has b k h = none_first b k (record { front = h.front; back = h.back; front_marks = h.front_marks; back_marks = h.back_marks; bytes = h.bytes; marks = h.marks; first = inl (has, h.first); second = h.second })

  optional_split : (count id : ℕ) (b : List ℕ) (k : Marks) → Then (Optional demanded p f id) (Sections count (suc id)) b k → (HasSection p id × Then (Section demanded p f id) (Sections count (suc id)) b k) ⊎ (MayMiss f id × Sections count (suc id) b k)
  optional_split count id b k h = elim h.first [
    | inl s ↦ inl (s.0, record { front = h.front; back = h.back; front_marks = h.front_marks; back_marks = h.back_marks; bytes = h.bytes; marks = h.marks; first = s.1; second = h.second })
    | inr e ↦
        let eb : h.back ≡ b = sym (h.bytes ∙ ap (λ y. y ++ h.back) e.1.0) in
        let ek : h.back_marks ≡ k = sym (h.marks ∙ ap (λ y. y ++ h.back_marks) e.1.1) in
        inr (e.0, subst (λ y. Sections count (suc id) y k) eb (subst (λ y. Sections count (suc id) h.back y) ek h.second))
  ]

  -- a custom section may come first at any time
  custom_more : (count id : ℕ) (b : List ℕ) (k : Marks) → Then (Custom demanded) (Sections count id) b k → Sections count id b k
  custom_more zero id b k h = (suc h.second.0, record { front = h.front; back = h.back; front_marks = h.front_marks; back_marks = h.back_marks; bytes = h.bytes; marks = h.marks; first = h.first; second = h.second.1 })
  custom_more (suc count) id b k h = one_more b k h

  with_rest : (P Q R : MarkedForm) → ((b : List ℕ) (k : Marks) → Q b k → R b k) → (b : List ℕ) (k : Marks) → Then P Q b k → Then P R b k
  with_rest P Q R g b k h = record { front = h.front; back = h.back; front_marks = h.front_marks; back_marks = h.back_marks; bytes = h.bytes; marks = h.marks; first = h.first; second = g h.back h.back_marks h.second }

  times_split : (n : ℕ) (c : ℕ) (b : List ℕ) (k : Marks) → Times n (Custom demanded) (c ∷ b) k → Then (Custom demanded) (Customs demanded) (c ∷ b) k
  times_split zero c b k h = absurd (not_nil c b h.0)
  times_split (suc n) c b k h = record { front = h.front; back = h.back; front_marks = h.front_marks; back_marks = h.back_marks; bytes = h.bytes; marks = h.marks; first = h.first; second = (n, h.second) }

  no_zero : (rank : ℕ) → 0 ≡ id_at (suc rank) → ⊥
  no_zero rank e = let z : 0 ≡ suc rank = same_rank 0 (suc rank) e in omega (arith, z)

  custom_of : (count id : ℕ) (b : List ℕ) (k : Marks) → Sections count (suc id) (0 ∷ b) k → Then (Custom demanded) (Sections count (suc id)) (0 ∷ b) k
  custom_of zero id b k h = times_split h.0 0 b k h.1
  custom_of (suc count) id b k h = elim (split (0 ∷ b) k h) [
    | inr c ↦ c
    | inl o ↦ elim (optional_split count (suc id) (0 ∷ b) k o) [
      | inl s ↦ absurd (no_zero id (first_front (id_at (suc id)) (Sizes (suc id)) (Sections count (suc (suc id))) 0 b k s.1))
      | inr e ↦ with_rest (Custom demanded) (Sections count (suc (suc id))) (Sections (suc count) (suc id)) (left_out count (suc id) e.0) (0 ∷ b) k (custom_of count (suc id) b k e.1)
    ]
  ]

  abbrev Nameless : ℕ → MarkedForm
  Nameless n = Filled demanded n (Name demanded unnamed)

  pub custom_next : (count id : ℕ) → Next demanded (Sections count (suc id)) 0 (outside_mark None) (InCustomSection (Sections count (suc id)))
  custom_next count id =
      let g = section_next 0 Nameless (Sections count (suc id)) in
      record {
        to = λ s b k h. g.to s b k (custom_of count id b k h);
        from = λ b k h. custom_more count (suc id) (0 ∷ b) k (g.from b k h);
      }

  -- no custom section begins with another id
  not_custom : (Q : MarkedForm) (c : ℕ) (b : List ℕ) (k : Marks) → Then (Custom demanded) Q (suc c ∷ b) k → ⊥
  not_custom Q c b k t = let z : suc c ≡ 0 = first_front 0 (MarkedNumber nothing_at Nameless) Q (suc c) b k t in omega (arith, z)

  -- which first bytes there may be
  first_rank : (count rank c : ℕ) (b : List ℕ) (k : Marks) → Sections count rank (suc c ∷ b) k → (rank ≤ rank_at (suc c)) × (rank_at (suc c) < rank + count) × HasSection p (rank_at (suc c))
  first_rank zero rank c b k h = absurd (not_custom (Customs demanded) c b k (times_split h.0 (suc c) b k h.1))
  first_rank (suc count) rank c b k h = elim (split (suc c ∷ b) k h) [
    | inr t ↦ absurd (not_custom (Then (Customs demanded) (Then (Optional demanded p f rank) (Sections count (suc rank)))) c b k t)
    | inl o ↦ elim (optional_split count rank (suc c ∷ b) k o) [
      | inl s ↦
          let e : rank_at (suc c) ≡ rank = rank_is (suc c) rank (first_front (id_at rank) (Sizes rank) (Sections count (suc rank)) (suc c) b k s.1) in
          (omega (arith, e), omega (arith, e), subst (HasSection p) (sym e) s.0)
      | inr m ↦ let r = first_rank count (suc rank) c b k m.1 in (omega (arith, r.0), omega (arith, r.1), r.2)
    ]
  ]

  -- the sections in between are missing
  abbrev Found : (count low rank c : ℕ) (b : List ℕ) → Marks → Type 0
  Found count low rank c b k = (HasSection p rank × Missing f low rank) × Then (Section demanded p f rank) (Sections count (suc rank)) (suc c ∷ b) k

  section_of : (j count low rank c : ℕ) → suc c ≡ id_at rank → rank ≡ low + j → (b : List ℕ) (k : Marks) → Sections (suc (j + count)) low (suc c ∷ b) k → Found count low rank c b k
  section_of zero count low rank c id e b k h =
      let i : low ≡ rank = omega (arith, e) in
      let h' : Sections (suc count) rank (suc c ∷ b) k = subst (λ y. Sections (suc count) y (suc c ∷ b) k) i (subst (λ y. Sections (suc y) low (suc c ∷ b) k) (let z : 0 + count ≡ count = omega arith in z) h) in
      elim (split (suc c ∷ b) k h') [
        | inr t ↦ absurd (not_custom (Then (Customs demanded) (Then (Optional demanded p f rank) (Sections count (suc rank)))) c b k t)
        | inl o ↦ elim (optional_split count rank (suc c ∷ b) k o) [
          | inl s ↦ ((s.0, missing_none f low rank (omega (arith, i))), s.1)
          | inr m ↦ let r = first_rank count (suc rank) c b k m.1 in absurd (omega (arith, r.0, rank_is (suc c) rank id))
        ]
      ]
  section_of (suc j) count low rank c id e b k h =
      elim (split (suc c ∷ b) k h) [
        | inr t ↦ absurd (not_custom (Then (Customs demanded) (Then (Optional demanded p f low) (Sections (suc j + count) (suc low)))) c b k t)
        | inl o ↦ elim (optional_split (suc j + count) low (suc c ∷ b) k o) [
          | inl s ↦
              let r : suc c ≡ id_at low = first_front (id_at low) (Sizes low) (Sections (suc j + count) (suc low)) (suc c) b k s.1 in
              let same : low ≡ rank = same_rank low rank (sym r ∙ id) in
              absurd (omega (arith, same, e))
          | inr m ↦
              let i : rank ≡ suc low + j = omega (arith, e) in
              let r = section_of j count (suc low) rank c id i b k (subst (λ y. Sections y (suc low) (suc c ∷ b) k) (let z : suc j + count ≡ suc (j + count) = omega arith in z) m.1) in
              ((r.0.0, missing_more f low rank m.0 r.0.1), r.1)
        ]
      ]

  of_section : (j count low rank : ℕ) → rank ≡ low + j → HasSection p rank → Missing f low rank → (b : List ℕ) (k : Marks) → Then (Section demanded p f rank) (Sections count (suc rank)) b k → Sections (suc (j + count)) low b k
  of_section zero count low rank e has may b k h =
      let i : rank ≡ low = omega (arith, e) in
      subst (λ y. Sections (suc y) low b k) (let z : count ≡ 0 + count = omega arith in z) (subst (λ y. Sections (suc count) y b k) i (present count rank has b k h))
  of_section (suc j) count low rank e has may b k h =
      let i : rank ≡ suc low + j = omega (arith, e) in
      let below : low < rank = omega (arith, e) in
      left_out (suc j + count) low (may low (omega arith) below) b k
      (subst (λ y. Sections y (suc low) b k) (let z : suc (j + count) ≡ suc j + count = omega arith in z)
      (of_section j count (suc low) rank i has (λ m at_least high. may m (omega (arith, at_least)) high) b k h))

  pub section_goes : (j count low rank c : ℕ) → suc c ≡ id_at rank → rank ≡ low + j → Next demanded (Sections (suc (j + count)) low) (suc c) (outside_mark None) (Where (HasSection p rank × Missing f low rank) (InSection rank (Sections count (suc rank))))
  section_goes j count low rank c id e =
      let S : MarkedForm = Then (Section demanded p f rank) (Sections count (suc rank)) in
      let g : Next demanded S (suc c) (outside_mark None) (InSection rank (Sections count (suc rank))) =
      subst (λ y. Next demanded S y (outside_mark None) (InSection rank (Sections count (suc rank)))) (sym id)
      (section_next (id_at rank) (λ n. Sized demanded n (Contents demanded p f rank)) (Sections count (suc rank))) in
      record {
        to = λ s b k h. let r = section_of j count low rank c id e b k h in let t = g.to s b k r.1 in (t.0, t.1, (r.0, t.2));
        from = λ b k h. of_section j count low rank e h.2.0.0 h.2.0.1 (suc c ∷ b) k (g.from b k (h.0, h.1, h.2.1));
      }

  pub not_first : (count rank c : ℕ) (b : List ℕ) (k : Marks) → (rank ≤ rank_at (suc c) → rank_at (suc c) < rank + count → HasSection p (rank_at (suc c)) → ⊥) → Sections count rank (suc c ∷ b) k → ⊥
  not_first count rank c b k none h = let r = first_rank count rank c b k h in none r.0 r.1 r.2

  -- the sections may be over
  no_times : (n : ℕ) (k : Marks) → Times n (Custom demanded) [] k → k ≡ []
  no_times zero k h = h.1
  no_times (suc n) k h = absurd (then_has (Unit {0}) (Custom demanded) (Times n (Custom demanded)) (id_has 0 (MarkedNumber nothing_at Nameless)) tt k h)

  no_section : (id : ℕ) (Q : MarkedForm) → HasBytes (Unit {0}) (Then (Section demanded p f id) Q)
  no_section id Q = then_has (Unit {0}) (Section demanded p f id) Q (id_has (id_at id) (Sizes id))

  pub over_missing : (count id : ℕ) (k : Marks) → Sections count id [] k → (k ≡ []) × Missing f id (id + count)
  over_missing zero id k h = (no_times h.0 k h.1, missing_none f id (id + 0) (omega arith))
  over_missing (suc count) id k h = elim (split [] k h) [
    | inr t ↦ absurd (then_has (Unit {0}) (Custom demanded) (Then (Customs demanded) (Then (Optional demanded p f id) (Sections count (suc id)))) (id_has 0 (MarkedNumber nothing_at Nameless)) tt k t)
    | inl o ↦ elim (optional_split count id [] k o) [
      | inl s ↦ absurd (no_section id (Sections count (suc id)) tt k s.1)
      | inr m ↦
          let r = over_missing count (suc id) k m.1 in
          (r.0, missing_more f id (id + suc count) m.0 (λ i low high. r.1 i low (omega (arith, high))))
    ]
  ]

  pub over : (count id : ℕ) → ((i : ℕ) → MayMiss f i) → Sections count id [] []
  over zero id may = (0, (refl, refl))
  over (suc count) id may = left_out count id (may id) [] [] (over count (suc id) may)

-- after code nothing speaks of the number of functions
pub renumbered : (demanded : Type 0) (p : Profile) (f : ModuleCounts) (n : ℕ) (b : List ℕ) (k : Marks) → Chain demanded p f 1 12 b k → Chain demanded p (record { functions = n; segments = f.segments }) 1 12 b k
renumbered demanded p f n b k h =
    let t = h.second in
    record {
      front = h.front;
      back = h.back;
      front_marks = h.front_marks;
      back_marks = h.back_marks;
      bytes = h.bytes;
      marks = h.marks;
      first = h.first;
      second = record { front = t.front; back = t.back; front_marks = t.front_marks; back_marks = t.back_marks; bytes = t.bytes; marks = t.marks; first = elim t.first [ inl s ↦ inl s | inr e ↦ inr (((λ i. last 12 refl i), e.0.1), e.1) ]; second = t.second };
    }
  where
    last : (rank : ℕ) → rank ≡ 12 → (rank ≡ 3) ⊎ (rank ≡ 11) → n ≡ 0
    last rank is e = elim e [ inl a ↦ absurd (omega (arith, is, a)) | inr a ↦ absurd (omega (arith, is, a)) ]
