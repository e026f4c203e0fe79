-- The retained state of bodies at every front of an input. It is bounded by the bytes of the entry at hand, and
-- between entries nothing of a body is retained.
use Rattle.std.proofs.Common.{ℕ, suc, ◌+◌, ◌-◌, ◌≡◌, ◌≤◌, List, [], ◌∷◌, ◌++◌, Option, Some, None, Ok, length, refl, sym, ◌∙◌, ap, subst, append-nil, arith, map, length-append, inl, inr, ◌⊎◌}
use Rattle.std.specs.List.{AllByRecursion}
use Rattle.std.proofs.lemmas.List.{length-map}
use Rattle.wm_syntax.specs.declared.profile.Profile.{Profile}
use Rattle.wm_syntax.proofs.ProfileLaws.{all_append, all_front}
use Rattle.wm_machine.specs.Fronts.{IsFront, entry_more, entry_after, entry_bytes}
use Rattle.wm_machine.specs.Grammar.{Code, IsExpression, Items, loose, strict}
use Rattle.wm_machine.specs.Items.{Item, Zone, outside, name, entry, closing, Mark, Marks, body, locals, body_op, put_item, items_at}
use Rattle.wm_machine.specs.MarkedForms.{marks_ending, name_byte_marks, name_marks, entry_marks, in_zone}
use Rattle.wm_machine.specs.Sinks.{all_taken}
use Rattle.wm_machine.proofs.ReadValues.{HasByte, number_some, parts-append, parts-entered, parts-some}
use Rattle.wm_machine.proofs.EntryBytes.{run_part}
use Rattle.wm_machine.proofs.GrammarValues.{reads_body}
use Rattle.wm_rules.specs.Bounds.{FiguresWithin, run_more, longest_after, longest_entry}
use Rattle.wm_rules.specs.exact.Checking.{after, empty_checker}
use Rattle.wm_rules.specs.Holding.{Held}
use Rattle.wm_typing.specs.Bodies.{body_entries}
use Rattle.wm_syntax.specs.declared.types.ValType.{ValType}
use Rattle.wm_syntax.specs.declared.instructions.Op.{Op}
use Rattle.wm_rules.proofs.OutsideBodies.{IsOutside, part_calm}
use Rattle.wm_rules.proofs.CodeEntries.{AtHand, Idle, entry_front, entry_whole, idle_at_hand, more_at_hand}
use Rattle.wm_rules.proofs.EveryRule.{IsNamed, IsPlain, Passes, has_module}
use Rattle.wm_rules.proofs.MemberFolds.{ok_then, taken-append}

-- the longest entry of marks one after another
more_run : (z : Zone) (m n : ℕ) → m ≤ n → run_more z m ≤ run_more z n
more_run outside m n l = omega arith
more_run name m n l = omega arith
more_run entry m n l = omega (arith, l)
more_run closing m n l = omega (arith, l)

longest_more : (k : Marks) (m n : ℕ) → m ≤ n → longest_after m k ≤ longest_after n k
longest_more [] m n l = l
longest_more (x ∷ k) m n l = let r = longest_more k (run_more x.zone m) (run_more x.zone n) (more_run x.zone m n l) in omega (arith, l, r)

longest_left : (a b : Marks) (n : ℕ) → longest_after n a ≤ longest_after n (a ++ b)
longest_left [] [] n = omega arith
longest_left [] (x ∷ b) n = omega arith
longest_left (x ∷ a) b n = let r = longest_left a b (run_more x.zone n) in omega (arith, r)

longest_right : (a b : Marks) (n : ℕ) → longest_after 0 b ≤ longest_after n (a ++ b)
longest_right [] b n = longest_more b 0 n (omega arith)
longest_right (x ∷ a) b n = let r = longest_right a b (run_more x.zone n) in omega (arith, r)

longest_entered : (k : Marks) (n : ℕ) → n + length k ≤ longest_after n (entry_marks k)
longest_entered [] n = omega arith
longest_entered (x ∷ []) n = omega arith
longest_entered (x ∷ y ∷ k) n = let r : suc n + length (y ∷ k) ≤ longest_after (suc n) (entry_marks (y ∷ k)) = longest_entered (y ∷ k) (suc n) in omega (arith, r)

-- the bytes of the entry at hand
entry-append : (a b : Marks) (n : ℕ) → entry_after n (a ++ b) ≡ entry_after (entry_after n a) b
entry-append [] b n = refl
entry-append (m ∷ a) b n = entry-append a b (entry_more m.zone n)

ended_entry : (k : Marks) → entry_after 0 (entry_marks k) ≡ 0
ended_entry k = go k 0 refl
  where
    go : (k : Marks) (n : ℕ) → n ≡ 0 → entry_after n (entry_marks k) ≡ 0
    go [] n e = e
    go (x ∷ []) n e = refl
    go (x ∷ y ∷ k) n e = last y k (suc n)
      where
        last : (y : Mark) (k : Marks) (n : ℕ) → entry_after n (entry_marks (y ∷ k)) ≡ 0
        last y [] n = refl
        last y (z ∷ k) n = last z k (suc n)

-- before an entry's last byte
within_entry : (k j l : Marks) (n : ℕ) → entry_marks k ≡ j ++ l → (l ≡ []) ⊎ (entry_after n j ≡ n + length j)
within_entry [] [] l n e = inl (sym e)
within_entry [] (x ∷ j) l n e = absurd (cc)
within_entry (x ∷ k) [] l n e = inr (omega arith)
within_entry (x ∷ []) (y ∷ j) l n e = let t : [] ≡ j ++ l = cc in inl (after_all j l t)
  where
    after_all : (a b : Marks) → [] ≡ a ++ b → b ≡ []
    after_all [] b e = sym e
    after_all (x ∷ a) b e = absurd (cc)
within_entry (x ∷ z ∷ k) (y ∷ j) l n e =
    let h : in_zone entry x ≡ y = cc in
    let t : entry_marks (z ∷ k) ≡ j ++ l = cc in
    let zone : entry_more y.zone n ≡ suc n = ap (λ m. entry_more m.zone n) (sym h) in
    elim (within_entry (z ∷ k) j l (suc n) t) [
      | inl r ↦ inl r
      | inr r ↦ inr (ap (λ i. entry_after i j) zone ∙ (let s : entry_after (suc n) j ≡ suc n + length j = r in omega (arith, s)))
    ]

parts_few : (k : Marks) → length (items_at k) ≤ length k
parts_few [] = omega arith
parts_few (m ∷ k) = go m.item (parts_few k)
  where
    go : (x : Option Item) → length (items_at k) ≤ length k → length (put_item x (items_at k)) ≤ length (m ∷ k)
    go None h = omega (arith, h)
    go (Some x) h = omega (arith, h)

-- a front of two lists ends in the first or goes on into the second
split_front : (a b j l : Marks) → a ++ b ≡ j ++ l → ((r : Marks) × (a ≡ j ++ r)) ⊎ ((r : Marks) × (j ≡ a ++ r) × (b ≡ r ++ l))
split_front [] b j l e = inr (j, refl, e)
split_front (m ∷ a) b [] l e = inl (m ∷ a, refl)
split_front (m ∷ a) b (n ∷ j) l e =
    let h : m ≡ n = cc in
    let t : a ++ b ≡ j ++ l = cc in
    elim (split_front a b j l t) [ inl r ↦ inl (r.0, cc (h, r.1)) | inr r ↦ inr (r.0, cc (h, r.1), r.2) ]

-- From a moment between entries on, all that is kept of a body is paid for; and no entry goes on after the last of these
-- marks.
pub record Fine (top : ℕ) (k : Marks) : Type 0 where
  pub along : (front back : Marks) → k ≡ front ++ back → longest_entry k ≤ top → (h g : Held) → Idle top h → all_taken after h (items_at front) ≡ Ok g → AtHand (entry_bytes front) g
  pub whole : longest_entry k ≤ top → (h g : Held) → Idle top h → all_taken after h (items_at k) ≡ Ok g → Idle top g
  pub done : entry_bytes k ≡ 0

module _ (top : ℕ) where
  on_from : (a b : Marks) (h g : Held) → Fine top a → longest_entry a ≤ top → Idle top h → all_taken after h (items_at (a ++ b)) ≡ Ok g → (k : Held) × Idle top k × (all_taken after k (items_at b) ≡ Ok g)
  on_from a b h g f few i e =
      let s = ok_then (all_taken after h (items_at a)) (λ k. all_taken after k (items_at b)) g (sym (ap (λ ps. all_taken after h ps) (parts-append a b) ∙ taken-append after (items_at a) (items_at b) h) ∙ e) in
      (s.0, f.whole few h s.0 i s.1, s.2)

  fine_append : (a b : Marks) → Fine top a → Fine top b → Fine top (a ++ b)
  fine_append a b f q = record {
    along = λ j l e few h g i t. elim (split_front a b j l e) [
      | inl r ↦ f.along j r.0 r.1 (left few) h g i t
      | inr r ↦ into j l r.0 r.1 r.2 few h g i t
    ];
    whole = λ few h g i t. let s = on_from a b h g f (left few) i t in q.whole (right few) s.0 g s.1 s.2;
    done = entry-append a b 0 ∙ (ap (λ n. entry_after n b) f.done ∙ q.done);
  }
    where
      left : longest_entry (a ++ b) ≤ top → longest_entry a ≤ top
      left few = let l = longest_left a b 0 in omega (arith, few, l)

      right : longest_entry (a ++ b) ≤ top → longest_entry b ≤ top
      right few = let l = longest_right a b 0 in omega (arith, few, l)

      into : (j l r : Marks) → j ≡ a ++ r → b ≡ r ++ l → longest_entry (a ++ b) ≤ top → (h g : Held) → Idle top h → all_taken after h (items_at j) ≡ Ok g → AtHand (entry_bytes j) g
      into j l r e s few h g i t =
          let m = on_from a r h g f (left few) i (subst (λ z. all_taken after h (items_at z) ≡ Ok g) e t) in
          let n : entry_bytes j ≡ entry_bytes r = ap (λ z. entry_bytes z) e ∙ (entry-append a r 0 ∙ ap (λ n. entry_after n r) f.done) in
          subst (λ n. AtHand n g) (sym n) (q.along r l s (right few) m.0 g m.1 m.2)

  -- marks outside code entries
  abbrev pub IsQuiet : Mark → Type 0
  IsQuiet m = (entry_more m.zone 0 ≡ 0) × ((x : Item) → m.item ≡ Some x → IsOutside x)

  abbrev pub Quiet : Marks → Type 0
  Quiet k = AllByRecursion IsQuiet k

  quiet_zone : (z : Zone) (n : ℕ) → entry_more z 0 ≡ 0 → entry_more z n ≡ 0
  quiet_zone outside n e = refl
  quiet_zone name n e = refl
  quiet_zone entry n e = absurd (omega (arith, e))
  quiet_zone closing n e = refl

  quiet_bytes : (k : Marks) → Quiet k → entry_after 0 k ≡ 0
  quiet_bytes [] h = refl
  quiet_bytes (m ∷ k) h = ap (λ n. entry_after n k) h.0.0 ∙ quiet_bytes k h.1

  quiet_parts : (k : Marks) (h g : Held) → Quiet k → Idle top h → all_taken after h (items_at k) ≡ Ok g → Idle top g
  quiet_parts [] h g q i e = let is : h ≡ g = cc in subst (Idle top) is i
  quiet_parts (m ∷ k) h g q i e = go (λ z j t. quiet_parts k z g q.1 j t) m.item refl e
    where
      go : ((z : Held) → Idle top z → all_taken after z (items_at k) ≡ Ok g → Idle top g) → (x : Option Item) → m.item ≡ x → all_taken after h (put_item x (items_at k)) ≡ Ok g → Idle top g
      go rest None is e = rest h i e
      go rest (Some x) is e =
          let s = ok_then (after h x) (λ z. all_taken after z (items_at k)) g e in
          let c = part_calm h s.0 x (q.0.1 x is) s.1 in
          rest s.0 (record {
            kept = subst (λ b. body_entries b ≡ 0) (sym c.body) i.kept;
            closed = c.in_body ∙ i.closed;
            most = λ low. subst (FiguresWithin top) (sym c.most) (i.most low);
            one = c.one i.one;
          }) s.2

  quiet_fine : (k : Marks) → Quiet k → Fine top k
  quiet_fine k q = record {
    along = λ j l e few h g i t. idle_at_hand top (entry_bytes j) g (quiet_parts j h g (all_front IsQuiet j l (subst Quiet e q)) i t);
    whole = λ few h g i t. quiet_parts k h g q i t;
    done = quiet_bytes k q;
  }

  pub plain_outside : (x : Option Item) → IsPlain x → (y : Item) → x ≡ Some y → IsOutside y
  plain_outside x i y e = go y (subst IsPlain e i)
    where
      go : (y : Item) → IsPlain (Some y) → IsOutside y
      go body i = i
      go (locals n t) i = i
      go (body_op o) i = i
      go _ i = tt

  pub named_outside : (text : List ℕ) (x : Option Item) → IsNamed text x → (y : Item) → x ≡ Some y → IsOutside y
  named_outside text x i y e = go y (subst (IsNamed text) e i)
    where
      go : (y : Item) → IsNamed text (Some y) → IsOutside y
      go body i = i
      go (locals n t) i = i
      go (body_op o) i = i
      go _ i = tt

  none_outside : (y : Item) → None ≡ Some y → IsOutside y
  none_outside y e = absurd (cc)

  pub quiet_ending : (x : Option Item) (b : List ℕ) → ((y : Item) → x ≡ Some y → IsOutside y) → Quiet (marks_ending x b)
  quiet_ending x [] o = tt
  quiet_ending x (c ∷ []) o = ((refl, o), tt)
  quiet_ending x (c ∷ d ∷ b) o = ((refl, none_outside), quiet_ending x (d ∷ b) o)

  quiet_naming : (x : Option Item) (c : ℕ) (b : List ℕ) → ((y : Item) → x ≡ Some y → IsOutside y) → Quiet (name_byte_marks x (c ∷ b))
  quiet_naming x c [] o = ((refl, o), tt)
  quiet_naming x c (d ∷ b) o = ((refl, none_outside), quiet_naming x d b o)

  pub quiet_name : (x : Option Item) (front text : List ℕ) → ((y : Item) → x ≡ Some y → IsOutside y) → Quiet (name_marks x front text)
  quiet_name x front [] o = quiet_ending x front o
  quiet_name x front (c ∷ text) o = all_append IsQuiet (marks_ending None front) (name_byte_marks x (c ∷ text)) (quiet_ending None front none_outside) (quiet_naming x c text o)

  -- the size of a code entry, and the entry
  module _ (front : List ℕ) (inner : Marks) (runs : List (ℕ × ValType)) (ops : List Op) (some : HasByte front) (i : IsExpression ops) (inside : items_at inner ≡ map run_part runs ++ map body_op ops) where
    abbrev size : Marks
    size = marks_ending (Some body) front

    abbrev items : List Item
    items = body ∷ map run_part runs ++ map body_op ops

    size_parts : items_at size ≡ body ∷ []
    size_parts = parts-some (Some body) front some

    all_parts : items_at (size ++ entry_marks inner) ≡ items
    all_parts = parts-append size (entry_marks inner) ∙ cc (size_parts, parts-entered inner, inside)

    quiet_size : entry_bytes size ≡ 0
    quiet_size = go (Some body) front
      where
        go : (x : Option Item) (b : List ℕ) → entry_bytes (marks_ending x b) ≡ 0
        go x [] = refl
        go x (c ∷ []) = refl
        go x (c ∷ d ∷ b) = go x (d ∷ b)

    short : longest_entry (size ++ entry_marks inner) ≤ top → length ops ≤ top
    short few =
        let l : 0 + length inner ≤ longest_after 0 (entry_marks inner) = longest_entered inner 0 in
        let r = longest_right size (entry_marks inner) 0 in
        let n = ap length inside in
        omega (arith, few, l, r, n, parts_few inner, length-append (map run_part runs) (map body_op ops), length-map ops body_op)

    -- of a front that ends in the entry
    in_entry : (j l r : Marks) → j ≡ size ++ r → entry_marks inner ≡ r ++ l → longest_entry (size ++ entry_marks inner) ≤ top → (h g : Held) → Idle top h
        → items_at j ++ items_at l ≡ items → all_taken after h (items_at j) ≡ Ok g → AtHand (entry_bytes j) g
    in_entry j l r e s few h g idle split t = elim (within_entry inner r l 0 s) [
      | inl none ↦ (let all : items_at j ≡ items = sym (append-nil (items_at j)) ∙ (ap (λ z. items_at j ++ items_at z) (sym none) ∙ split) in
          idle_at_hand top (entry_bytes j) g (entry_whole h g idle.one runs top ops (short few) i idle.most (subst (λ ps. all_taken after h ps ≡ Ok g) all t)))
      | inr long ↦ (
          let bytes : entry_bytes j ≡ 0 + length r = ap entry_bytes e ∙ (entry-append size r 0 ∙ (ap (λ n. entry_after n r) quiet_size ∙ long)) in
          let own : length (items_at j) ≡ suc (length (items_at r)) = ap length (ap items_at e ∙ (parts-append size r ∙ ap (λ z. z ++ items_at r) size_parts)) in
          more_at_hand (length (items_at j) - 1) (entry_bytes j) g (omega (arith, bytes, own, parts_few r)) (entry_front top h g runs ops (items_at j) (items_at l) idle split t))
    ]

    -- and of one that ends in its size
    in_size : (j l r : Marks) → size ≡ j ++ r → (h g : Held) → Idle top h → items_at j ++ items_at l ≡ items
        → all_taken after h (items_at j) ≡ Ok g → AtHand (entry_bytes j) g
    in_size j l r e h g idle split t =
        let n : 1 ≡ length (items_at j ++ items_at r) = ap length (sym size_parts ∙ (ap items_at e ∙ parts-append j r)) in
        more_at_hand (length (items_at j) - 1) (entry_bytes j) g (omega (arith, n, length-append (items_at j) (items_at r))) (entry_front top h g runs ops (items_at j) (items_at l) idle split t)

    along : (j l : Marks) → size ++ entry_marks inner ≡ j ++ l → longest_entry (size ++ entry_marks inner) ≤ top → (h g : Held) → Idle top h → all_taken after h (items_at j) ≡ Ok g → AtHand (entry_bytes j) g
    along j l e few h g idle t =
        let split : items_at j ++ items_at l ≡ items = sym (parts-append j l) ∙ (ap items_at (sym e) ∙ all_parts) in
        elim (split_front size (entry_marks inner) j l e) [
          | inl r ↦ in_size j l r.0 r.1 h g idle split t
          | inr r ↦ in_entry j l r.0 r.1 r.2 few h g idle split t
        ]

    fine_entry : Fine top (size ++ entry_marks inner)
    fine_entry = record {
      along = along;
      whole = λ few h g idle e. entry_whole h g idle.one runs top ops (short few) i idle.most (subst (λ ps. all_taken after h ps ≡ Ok g) all_parts e);
      done = entry-append size (entry_marks inner) 0 ∙ (ap (λ n. entry_after n (entry_marks inner)) quiet_size ∙ ended_entry inner);
    }

  fine_code : {demanded : Type 0} (p : Profile) (b : List ℕ) (k : Marks) → Code demanded p b k → Fine top k
  fine_code p b k h =
      let e = h.rest.1 in
      let v = (reads_body p).to h.back e.inner e.contents in
      subst (Fine top) (sym (h.marks ∙ ap (λ j. marks_ending (Some body) h.front ++ j) e.marks))
      (fine_entry h.front e.inner v.0.0 v.0.1 (number_some h.n h.front h.number) v.1.4.0 v.2)

  fine : (demanded : Type 0) (p : Profile) → Passes demanded p (Fine top)
  fine demanded p = record {
    none = quiet_fine [] tt;
    both = fine_append;
    plain = λ x b i. quiet_fine (marks_ending x b) (quiet_ending x b (plain_outside x i));
    named = λ x front text i n. quiet_fine (name_marks x front text) (quiet_name x front text (named_outside text x i));
    code = fine_code p;
  }

  idle_first : Idle top empty_checker
  idle_first = record {
    kept = refl;
    closed = refl;
    most = λ low. record {
      operands = omega arith;
      controls = omega arith;
      moves = omega arith;
      operands_twice = omega arith;
      controls_twice = omega arith;
      probes = omega arith;
    };
    one = tt;
  }

-- what is kept of the body at hand, at any front
pub front_at_hand : (p : Profile) (b : List ℕ) (k : Marks) (h : Held) → IsFront p b k → all_taken after empty_checker (items_at k) ≡ Ok h → AtHand (entry_bytes k) h
front_at_hand p b k h f t =
    let top = longest_entry (k ++ f.rest_marks) in
    let all = has_module loose p (Fine top) (fine top loose p) (b ++ f.rest) (k ++ f.rest_marks) f.whole in
    all.along k f.rest_marks refl (omega arith) empty_checker h (idle_first top) t

-- the figures at the end
pub whole_idle : (p : Profile) (b : List ℕ) (k : Marks) (h : Held) → Items p b k → all_taken after empty_checker (items_at k) ≡ Ok h → Idle (longest_entry k) h
whole_idle p b k h m t =
    let top = longest_entry k in
    (has_module strict p (Fine top) (fine top strict p) b k m).whole (omega arith) empty_checker h (idle_first top) t
