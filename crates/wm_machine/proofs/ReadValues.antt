-- A marked form and the values whose bytes it describes, with the items of each.
use Rattle.std.proofs.Common.{ℕ, zero, suc, ◌≡◌, List, [], ◌∷◌, ◌++◌, Option, Some, None, length, flat_map, map, refl, sym, ◌∙◌, ap, subst, append-nil, IsUtf8}
use Rattle.std.proofs.lemmas.List.Concat.{flat_map_single}
use Rattle.wm_syntax.specs.Spelling.{Form, Each, ◌▸◌}
use Rattle.wm_syntax.specs.Types.{SpellsU32, SpellsList, SpellsName}
use Rattle.wm_machine.specs.Sections.{Sized as SizedForm}
use Rattle.wm_machine.specs.Items.{Item, Marks, put_item, items_at}
use Rattle.wm_machine.specs.MarkedForms.{MarkedForm, Empty, MarkedByte, Then, Times, Leaf, MarkedNumber, Vector, Index, Name, Sized, Entry, nothing_at, marks_ending, name_byte_marks, name_marks, outside_mark, entry_marks}
use Rattle.wm_machine.specs.Grammar.{strict}
use Rattle.wm_machine.proofs.NameBytes.{utf8_bytes}

pub parts-append : (j k : Marks) → items_at (j ++ k) ≡ items_at j ++ items_at k
parts-append [] k = refl
parts-append (m ∷ j) k = added m.item (items_at (j ++ k)) (items_at j) (items_at k) (parts-append j k)
  where
    added : (x : Option Item) (a b c : List Item) → a ≡ b ++ c → put_item x a ≡ put_item x b ++ c
    added None a b c e = e
    added (Some part) a b c e = ap (λ y. part ∷ y) e

pub parts-entered : (k : Marks) → items_at (entry_marks k) ≡ items_at k
parts-entered [] = refl
parts-entered (m ∷ []) = refl
parts-entered (m ∷ n ∷ k) = ap (λ y. put_item m.item y) (parts-entered (n ∷ k))

parts-ending : (x : Option Item) (c : ℕ) (b : List ℕ) → items_at (marks_ending x (c ∷ b)) ≡ put_item x []
parts-ending x c [] = refl
parts-ending x c (d ∷ b) = parts-ending x d b

parts-naming : (x : Option Item) (c : ℕ) (b : List ℕ) → items_at (name_byte_marks x (c ∷ b)) ≡ put_item x []
parts-naming x c [] = refl
parts-naming x c (d ∷ b) = parts-naming x d b

pub parts-nothing : (b : List ℕ) → items_at (marks_ending None b) ≡ []
parts-nothing [] = refl
parts-nothing (c ∷ b) = parts-ending None c b

-- there is a byte, at the last of which an item may be complete
abbrev pub HasByte : List ℕ → Type 0
HasByte b = (c : ℕ) × (rest : List ℕ) × (b ≡ c ∷ rest)

pub parts-some : (x : Option Item) (b : List ℕ) → HasByte b → items_at (marks_ending x b) ≡ put_item x []
parts-some x b h = ap (λ y. items_at (marks_ending x y)) h.2 ∙ parts-ending x h.0 h.1

pub number_some : (n : ℕ) (b : List ℕ) → SpellsU32 n b → HasByte b
number_some n [] h = absurd h
number_some n (c ∷ b) h = (c, b, refl)

-- what begins with something has a byte where that has one
pub front_some : (b front back : List ℕ) → b ≡ front ++ back → HasByte front → HasByte b
front_some b front back e h = (h.0, h.1 ++ back, e ∙ ap (λ y. y ++ back) h.2)

pub byte_some : (c : ℕ) (b : List ℕ) → b ≡ c ∷ [] → HasByte b
byte_some c b e = (c, [], e)

parts-number : (n : ℕ) (x : Option Item) (b : List ℕ) → SpellsU32 n b → items_at (marks_ending x b) ≡ put_item x []
parts-number n x b h = parts-some x b (number_some n b h)

pub parts-name : (n : ℕ) (x : Option Item) (front text : List ℕ) → SpellsU32 n front → items_at (name_marks x front text) ≡ put_item x []
parts-name n x front [] h = parts-number n x front h
parts-name n x front (c ∷ text) h =
    parts-append (marks_ending None front) (name_byte_marks x (c ∷ text)) ∙ (ap (λ y. y ++ items_at (name_byte_marks x (c ∷ text))) (parts-number n None front h) ∙ parts-naming x c text)

-- each reading of the shape is that of a value, and each spelling of a value is read
pub record Reads {X : Type 0} (P : MarkedForm) (V : X → Form ℕ) (p : X → List Item) : Type 0 where
  pub to : (b : List ℕ) (k : Marks) → P b k → (x : X) × V x b × (items_at k ≡ p x)
  pub from : (x : X) (b : List ℕ) → V x b → (k : Marks) × P b k × (items_at k ≡ p x)

-- the same values under other names
pub reads_as : {X Y : Type 0} {P : MarkedForm} {V : X → Form ℕ} {W : Y → Form ℕ} {p : X → List Item} {q : Y → List Item}
    → Reads P V p → ((x : X) (b : List ℕ) → V x b → (y : Y) × W y b × (p x ≡ q y))
    → ((y : Y) (b : List ℕ) → W y b → (x : X) × V x b × (p x ≡ q y)) → Reads P W q
reads_as r f g = record {
  to = λ b k h. let u = r.to b k h in let v = f u.0 b u.1 in (v.0, v.1, u.2 ∙ v.2);
  from = λ y b h. let v = g y b h in let u = r.from v.0 b v.1 in (u.0, u.1, u.2 ∙ v.2);
}

pub reads_empty : Reads {X = Unit {0}} Empty (λ u b. b ≡ []) (λ u. [])
reads_empty = record { to = λ b k h. (tt, h.0, ap items_at h.1); from = λ u b h. ([], (h, refl), refl) }

pub reads_byte : (c : ℕ) (x : Option Item) → Reads {X = Unit {0}} (MarkedByte c x) (λ u b. b ≡ c ∷ []) (λ u. put_item x [])
reads_byte c x = record { to = λ b k h. (tt, h.0, ap items_at h.1); from = λ u b h. (outside_mark x ∷ [], (h, refl), refl) }

pub reads_leaf : {X : Type 0} (V : X → Form ℕ) (part : X → Item) → ((x : X) (b : List ℕ) → V x b → HasByte b) → Reads (Leaf V part) V (λ x. part x ∷ [])
reads_leaf V part some = record {
  to = λ b k h. (h.0, h.1, ap items_at h.2 ∙ parts-some (Some (part h.0)) b (some h.0 b h.1));
  from = λ x b h. (marks_ending (Some (part x)) b, (x, h, refl), parts-some (Some (part x)) b (some x b h));
}

pub reads_then : {X Y : Type 0} {P Q : MarkedForm} {V : X → Form ℕ} {W : Y → Form ℕ} {p : X → List Item} {q : Y → List Item}
    → Reads P V p → Reads Q W q → Reads {X = X × Y} (Then P Q) (λ z. V z.0 ▸ W z.1) (λ z. p z.0 ++ q z.1)
reads_then r s = record {
  to = λ b k h.
      let u = r.to h.front h.front_marks h.first in
      let v = s.to h.back h.back_marks h.second in
      ((u.0, v.0), (h.front, h.back, h.bytes, u.1, v.1), ap items_at h.marks ∙ (parts-append h.front_marks h.back_marks ∙ cc (u.2, v.2)));
  from = λ z b h.
      let u = r.from z.0 h.0 h.3 in
      let v = s.from z.1 h.1 h.4 in
      (u.0 ++ v.0, record { front = h.0; back = h.1; front_marks = u.0; back_marks = v.0; bytes = h.2; marks = refl; first = u.1; second = v.1 }, parts-append u.0 v.0 ∙ cc (u.2, v.2));
}

-- what comes first says nothing of the value
pub reads_after : {X : Type 0} {P Q : MarkedForm} {F : Form ℕ} {V : X → Form ℕ} {p : X → List Item}
    → Reads {X = Unit {0}} P (λ u. F) (λ u. []) → Reads Q V p → Reads (Then P Q) (λ x. F ▸ V x) p
reads_after r s = reads_as (reads_then r s) (λ z b h. (z.1, h, refl)) (λ x b h. ((tt, x), h, refl))

pub reads_number : {Y : Type 0} {F : ℕ → MarkedForm} {W : ℕ → Y → Form ℕ} {q : ℕ → Y → List Item} (x : ℕ → Option Item)
    → ((n : ℕ) → Reads (F n) (W n) (q n))
    → Reads {X = ℕ × Y} (MarkedNumber x F) (λ z. SpellsU32 z.0 ▸ W z.0 z.1) (λ z. put_item (x z.0) [] ++ q z.0 z.1)
reads_number x r = record {
  to = λ b k h.
      let v = (r h.n).to h.back h.back_marks h.rest in
      ((h.n, v.0), (h.front, h.back, h.bytes, h.number, v.1), ap items_at h.marks ∙ (parts-append (marks_ending (x h.n) h.front) h.back_marks ∙ cc (parts-number h.n (x h.n) h.front h.number, v.2)));
  from = λ z b h.
      let v = (r z.0).from z.1 h.1 h.4 in (
        marks_ending (x z.0) h.0 ++ v.0,
        record { n = z.0; front = h.0; back = h.1; back_marks = v.0; bytes = h.2; marks = refl; number = h.3; rest = v.1 },
        parts-append (marks_ending (x z.0) h.0) v.0 ∙ cc (parts-number z.0 (x z.0) h.0 h.3, v.2),
      );
}

-- so many values
abbrev pub Many : {X : Type 0} → (X → Form ℕ) → ℕ → List X → Form ℕ
Many V n xs b = (n ≡ length xs) × Each V xs b

module _ {X : Type 0} {P : MarkedForm} {V : X → Form ℕ} {p : X → List Item} (r : Reads P V p) where
  times_to : (n : ℕ) (b : List ℕ) (k : Marks) → Times n P b k → (xs : List X) × Many V n xs b × (items_at k ≡ flat_map p xs)
  times_to zero b k h = ([], (refl, h.0), ap items_at h.1)
  times_to (suc n) b k h =
      let u = r.to h.front h.front_marks h.first in
      let v = times_to n h.back h.back_marks h.second in
      (u.0 ∷ v.0, (ap suc v.1.0, (h.front, h.back, h.bytes, u.1, v.1.1)), ap items_at h.marks ∙ (parts-append h.front_marks h.back_marks ∙ cc (u.2, v.2)))

  times_from : (xs : List X) (b : List ℕ) → Each V xs b → (k : Marks) × Times (length xs) P b k × (items_at k ≡ flat_map p xs)
  times_from [] b h = ([], (h, refl), refl)
  times_from (x ∷ xs) b h =
      let u = r.from x h.0 h.3 in
      let v = times_from xs h.1 h.4 in
      (u.0 ++ v.0, record { front = h.0; back = h.1; front_marks = u.0; back_marks = v.0; bytes = h.2; marks = refl; first = u.1; second = v.1 }, parts-append u.0 v.0 ∙ cc (u.2, v.2))

  pub reads_times : (n : ℕ) → Reads (Times n P) (Many V n) (flat_map p)
  reads_times n = record {
    to = λ b k h. times_to n b k h;
    from = λ xs b h. let v = times_from xs b h.1 in (v.0, subst (λ m. Times m P b v.0) (sym h.0) v.1, v.2);
  }

  pub reads_vector : Reads (Vector P) (SpellsList V) (flat_map p)
  reads_vector = reads_as (reads_number nothing_at (λ n. reads_times n))
      (λ z b h. (z.1, (h.0, h.1, h.2, subst (λ m. SpellsU32 m h.0) h.4.0 h.3, h.4.1), refl))
      (λ xs b h. ((length xs, xs), (h.0, h.1, h.2, h.3, (refl, h.4)), refl))

  -- how many bytes there are, and then those
  pub reads_sized : (x : Option Item) → Reads (MarkedNumber (λ n. x) (λ n. Sized strict n P)) (λ v. SizedForm (V v)) (λ v. put_item x [] ++ p v)
  reads_sized x = record {
    to = λ b k h.
        let v = r.to h.back h.back_marks h.rest.1 in (
          v.0,
          (h.front, h.back, h.bytes, subst (λ m. SpellsU32 m h.front) (sym (h.rest.0 tt)) h.number, v.1),
          ap items_at h.marks ∙ (parts-append (marks_ending x h.front) h.back_marks ∙ cc (parts-number h.n x h.front h.number, v.2)),
        );
    from = λ v b h.
        let u = r.from v h.1 h.4 in (
          marks_ending x h.0 ++ u.0,
          record { n = length h.1; front = h.0; back = h.1; back_marks = u.0; bytes = h.2; marks = refl; number = h.3; rest = (λ s. refl, u.1) },
          parts-append (marks_ending x h.0) u.0 ∙ cc (parts-number (length h.1) x h.0 h.3, u.2),
        );
  }

  pub reads_entry : Reads (Entry P) V p
  reads_entry = record {
    to = λ b k h. let v = r.to b h.inner h.contents in (v.0, v.1, ap items_at h.marks ∙ (parts-entered h.inner ∙ v.2));
    from = λ x b h. let v = r.from x b h in (entry_marks v.0, record { inner = v.0; marks = refl; contents = v.1 }, parts-entered v.0 ∙ v.2);
  }

-- of values that are an item each
pub reads_list : {X : Type 0} {P : MarkedForm} {V : X → Form ℕ} (part : X → Item) → Reads P V (λ x. part x ∷ []) → Reads (Vector P) (SpellsList V) (map part)
reads_list part r = reads_as (reads_vector r) (λ xs b h. (xs, h, flat_map_single part xs)) (λ xs b h. (xs, h, flat_map_single part xs))

pub reads_index : (part : ℕ → Item) → Reads (Index part) SpellsU32 (λ n. part n ∷ [])
reads_index part = reads_as (reads_number (λ n. Some (part n)) (λ n. reads_empty))
    (λ z b h. (z.0, subst (λ y. SpellsU32 z.0 y) (sym (h.2 ∙ (ap (λ y. h.0 ++ y) h.4 ∙ append-nil h.0))) h.3, refl))
    (λ n b h. ((n, tt), (b, [], sym (append-nil b), h, refl), refl))

pub reads_name : (x : List ℕ → Option Item) → Reads (Name strict x) SpellsName (λ text. put_item (x text) [])
reads_name x = record {
  to = λ b k h.
      let u : IsUtf8 h.text = h.utf8 tt in
      (h.text, ((h.front, h.text, h.bytes, h.number, (refl, utf8_bytes h.text u)), u), ap items_at h.marks ∙ parts-name (length h.text) (x h.text) h.front h.text h.number);
  from = λ text b h.
      let c = h.0 in (
        name_marks (x text) c.0 text,
        record { front = c.0; text = text; bytes = c.2 ∙ ap (λ y. c.0 ++ y) c.4.0; marks = refl; number = c.3; utf8 = λ s. h.1 },
        parts-name (length text) (x text) c.0 text c.3,
      );
}
