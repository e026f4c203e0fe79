-- The fast path for indices of one byte each has the effect of the slow path.
use Rattle.std.proofs.Common.{◌≡◌, ℕ, zero, suc, ◌+◌, ◌<◌, ◌≤◌, ◌^◌, List, [], ◌∷◌, Option, Some, None, Result, Ok, Err, Bool, true, false, length, length-take, map, min, take, get_or-take, slice_index, nat_lt, cond, refl, sym, ◌∙◌, ap, subst, arith}
use Rattle.std.proofs.lemmas.Bool.{ltb-true}
use Rattle.std.proofs.lemmas.List.{take-take}
use Rattle.std.specs.List.{prefix_len}
use Rattle.wm_syntax.specs.declared.profile.Profile.{Profile}
use Rattle.wm_syntax.specs.declared.why.Why.{Why}
use Rattle.wm_shortcuts.specs.declared.ways.Shortcut.{Shortcut}
use Rattle.wm_shortcuts.specs.declared.indices.InIndices.{InIndices}
use Rattle.wm_machine.specs.Items.{Item}
use Rattle.wm_machine.specs.Sinks.{all_taken}
use Rattle.wm_shortcuts.specs.exact.Completed.{Completed, Completes, with_last}
use Rattle.wm_shortcuts.specs.exact.Completed.Completed.{part}
use Rattle.wm_shortcuts.specs.exact.Completed.Completes.{no_byte}
use Rattle.wm_shortcuts.specs.exact.Indices.{GaveEach, LiesIn, before_index, followed_in, index_item_in, index_part, indices_after, most_indices, room_in}
use Rattle.wm_shortcuts.specs.exact.Shortcuts.{Advances}
use Rattle.wm_shortcuts.proofs.Completed.{Gave, alone, gave_last, ok}
use Rattle.wm_shortcuts.proofs.Completed.Gave.{also, nothing}
use Rattle.wm_shortcuts.proofs.IndexNumbers.{index_completes, indices_start}
use Rattle.wm_machine.proofs.TakenItems.{last_number}
use Rattle.wm_shortcuts.proofs.WholeNumbers.{u32_short}

-- a byte that is a whole index
abbrev pub is_short : ℕ → Bool
is_short c = nat_lt c (2 ^ 7)

one_short : (c n : ℕ) (k : ℕ) (X : Type 0) → (x : Bool) → nat_lt c (2 ^ 7) ≡ x → n < cond x (1 + k) 0 → (c < 2 ^ 7 → n ≤ k → X) → X
one_short c n k X true e m go = go (ltb-true c (2 ^ 7) e) (omega arith)
one_short c n k X false e m go = absurd (omega arith)

short_at : (b : List ℕ) (n : ℕ) → n < prefix_len is_short b → slice_index b n < 2 ^ 7
short_at [] n front = absurd (omega arith)
short_at (c ∷ b) zero front =
    one_short c 0 (prefix_len is_short b) (c < 2 ^ 7) (nat_lt c (2 ^ 7)) refl front (λ less m. less)
short_at (c ∷ b) (suc n) front =
    one_short c (suc n) (prefix_len is_short b) (slice_index b n < 2 ^ 7) (nat_lt c (2 ^ 7)) refl front (λ less m. short_at b n m)

-- those of a front are no more than those of the whole
front_by : (x : Bool) (m n : ℕ) → m ≤ n → cond x (1 + m) 0 ≤ cond x (1 + n) 0
front_by true m n h = omega arith
front_by false m n h = omega arith

front_of : (n : ℕ) (b : List ℕ) → prefix_len is_short (take n b) ≤ prefix_len is_short b
front_of zero b = omega arith
front_of (suc n) [] = omega arith
front_of (suc n) (c ∷ b) = front_by (nat_lt c (2 ^ 7)) (prefix_len is_short (take n b)) (prefix_len is_short b) (front_of n b)

-- the first bytes are whole indices of the list, and more come after them
pub record InFront (bytes : List ℕ) (i : InIndices) (count : ℕ) : Type 0 where
  pub lies : LiesIn i.of i.list
  pub most : count ≤ most_indices i
  pub short : count ≤ prefix_len is_short bytes
  pub inside : count ≤ length bytes

-- the same by what the code knows
pub in_front : (bytes : List ℕ) (i : InIndices) (count most : ℕ) → LiesIn i.of i.list → count ≡ prefix_len is_short (take most bytes) → count ≤ length (take most bytes) → most ≤ most_indices i
    → InFront bytes i count
in_front bytes i count most lies front size fewer = record {
  lies = lies;
  most = omega (arith, length-take most bytes);
  short = omega (arith, front_of most bytes);
  inside = omega (arith, length-take most bytes);
}

module _ {H : Type 0} (after : H → Item → Result H Why) (p : Profile) (bytes : List ℕ) (q : InIndices) (count : ℕ) (front : InFront bytes q count) (h : H) where
  abbrev Front : List Completed → Option Completed → ℕ → Type 0
  Front xs last n = Completes p bytes 0 (before_index q) xs last n (before_index (indices_after q n))

  one_more : {xs : List Completed} {last : Option Completed} (n : ℕ) → n < count → Front xs last n → Front (with_last last xs) (Some (part (index_part q.list (slice_index bytes n)))) (n + 1)
  one_more n less steps =
      let most : count ≤ min (room_in q.more q.list) (followed_in q.left q.list) = front.most in
      let short : count ≤ prefix_len is_short bytes = front.short in
      let inside : count ≤ length bytes = front.inside in
      index_completes q n n front.lies (u32_short bytes n (omega arith) (short_at bytes n (omega arith))) (omega arith) (omega arith) steps

  -- those that a sink took
  front_completes : (n : ℕ) (g : H) → n ≤ count → all_taken after h (map (index_item_in q.list) (take n bytes)) ≡ Ok g → (xs : List Completed) × (last : Option Completed) × Front xs last n × Gave after (with_last last xs) h g
  front_completes zero g less taken = let same : h ≡ g = cc in ([], None, subst (Completes p bytes 0 (before_index q) [] None 0) (sym (indices_start q)) no_byte, subst (Gave after [] h) same nothing)
  front_completes (suc n) g less taken =
      let inside : count ≤ length bytes = front.inside in
      let next : n + 1 ≡ suc n = omega arith in
      let t = last_number after (index_item_in q.list) h g bytes n (omega arith) (ap (λ y. all_taken after h (map (index_item_in q.list) (take y bytes))) next ∙ taken) in
      let r = front_completes n t.0 (omega arith) t.1 in
      (with_last r.1 r.0, Some (part (index_part q.list (slice_index bytes n))), subst (Front (with_last r.1 r.0) (Some (part (index_part q.list (slice_index bytes n))))) next (one_more n (omega arith) r.2), also r.3 t.2)

  pub advances_indices : (may : H → Item → Type 0) (g : H) (s : Shortcut) → 2 ≤ count → GaveEach after (index_item_in q.list) (take count bytes) h s.used s.refused g → Advances after may p bytes (before_index q) h s (before_index (indices_after q s.used)) g
  advances_indices may g s two gave = by_answer s.refused refl gave
    where
      inside : count ≤ length bytes
      inside = front.inside

      none : 0 ≤ length bytes
      none = omega arith

      by_answer : (r : Option Why) → s.refused ≡ r → GaveEach after (index_item_in q.list) (take count bytes) h s.used r g → Advances after may p bytes (before_index q) h s (before_index (indices_after q s.used)) g
      by_answer None er (used, taken) =
          let all : s.used ≡ count = omega (arith, used, length-take count bytes) in
          let r = front_completes s.used g (omega arith) (ap (λ y. all_taken after h (map (index_item_in q.list) (take y bytes))) all ∙ taken) in
          let t = gave_last after r.1 r.0 h g r.3 in
          alone p bytes 0 (before_index q) after none may r.0 r.1 s.used (before_index (indices_after q s.used)) r.2 (omega arith) refl (λ k far. omega arith) h t.0 g t.1 s (omega arith) ok er t.2 (λ short. absurd (omega arith))
      by_answer (Some w) er (k, f, used, less, taken, refused) =
          let below : k < count = omega (arith, less, length-take count bytes) in
          let item = index_item_in q.list in
          let r = front_completes k f (omega arith) (ap (λ (y : List ℕ). all_taken after h (map item y)) (sym (take-take k count bytes (omega arith))) ∙ taken) in
          let last : k + 1 ≡ s.used = sym used in
          let end : Front (with_last r.1 r.0) (Some (part (index_part q.list (slice_index bytes k)))) s.used = subst (Front (with_last r.1 r.0) (Some (part (index_part q.list (slice_index bytes k))))) last (one_more k below r.2) in
          alone p bytes 0 (before_index q) after none {U = Unit {0}} may (with_last r.1 r.0) (Some (part (index_part q.list (slice_index bytes k)))) s.used (before_index (indices_after q s.used)) end (omega arith) refl (λ k far. omega arith) h f g r.3 s (omega arith) (Err w) er
          (λ ne. subst (λ y. after f (item y) ≡ Err w) (get_or-take count bytes k 0 below) (refused ne)) (λ short. absurd (omega arith))
