-- The readers of numbers answer according to the grammar of numbers.
use Rattle.std.proofs.Common.{◌≡◌, ℕ, zero, suc, true, false, subst, ◌+◌, ◌-◌, ◌*◌, ◌^◌, ◌<◌, ◌≤◌, inl, inr, ◌↔◌, List, [], ◌∷◌, ◌++◌, ℤ, pos, negsuc, ◌+ℤ◌, ◌-ℤ◌, ◌*ℤ◌, nat_lt, nat_le, refl, sym, ap, ◌∙◌, arith, append_assoc, append-nil, pow_pos}
use Rattle.std.proofs.lemmas.Bool.{cond_both, ltb-true, ltb-false}
use Rattle.std.proofs.lemmas.Bool.Decides.{nat_tests}
use Rattle.std.proofs.lemmas.Int.{ints}
use Rattle.std.proofs.Math.Nat.{mul-le-mul_left}
use Rattle.std.proofs.Math.IntN.{neg_ℤ, suc_ℤ-*ℤ, zero-*ℤ, +ℤ_idl, *ℤ_comm, *ℤ-one}
use Rattle.wm_syntax.specs.Spelling.{Form}
use Rattle.wm_syntax.specs.Leb128.{FitsBits, Signed, Unsigned}
use Rattle.wm_syntax.specs.inner.Numbers.{Partial, UnsignedRest, SignedRest, NumberAfter}
use Rattle.wm_syntax.specs.Reading.{Answers, IfDone}
use Rattle.wm_syntax.specs.exact.Reading.{over, fresh, last_signed, unsigned_push, signed_push}
use Rattle.wm_syntax.specs.declared.numbers.Step.{Step}
use Rattle.wm_syntax.specs.declared.numbers.Step.TheVariants.{More, Done, Bad}
use Rattle.wm_syntax.proofs.Room.{pow7, pow_split, room_last}

more_unsigned : (low m d w v : ℕ) → v ≡ w * 128 → low + (128 * m + d) * w ≡ (low + d * w) + m * v
more_unsigned low m d w v e = rw e (omega arith)

-- Products of integers, as far as they are needed.
step_linear : (a x : ℤ) (n d : ℕ) → (a +ℤ pos n) +ℤ (x +ℤ pos d) ≡ (a +ℤ x) +ℤ pos (n + d)
step_linear a x n d = omega (arith, ints)

times_sum : (w : ℕ) (x : ℤ) (d : ℕ) → pos w *ℤ (x +ℤ pos d) ≡ (pos w *ℤ x) +ℤ pos (d * w)
times_sum zero x d = rw (zero-*ℤ, zero-*ℤ) (ap pos (let e : 0 ≡ 0 + d * 0 = omega arith in e))
times_sum (suc w) x d =
    suc_ℤ-*ℤ (pos w) (x +ℤ pos d)
    ∙ ap (λ (y : ℤ). y +ℤ (x +ℤ pos d)) (times_sum w x d)
    ∙ step_linear (pos w *ℤ x) x (d * w) d
    ∙ ap (λ (n : ℕ). ((pos w *ℤ x) +ℤ x) +ℤ pos n) (let e : d * w + d ≡ d * suc w = omega arith in e)
    ∙ ap (λ (y : ℤ). y +ℤ pos (d * suc w)) (sym (suc_ℤ-*ℤ (pos w) x))

times_neg : (w n : ℕ) → pos w *ℤ neg_ℤ (pos n) ≡ neg_ℤ (pos (w * n))
times_neg w zero = let e : w * 0 ≡ 0 = omega arith in rw e refl
times_neg w (suc n) = refl

times_times : (w : ℕ) (h : ℤ) → pos w *ℤ (pos 128 *ℤ h) ≡ pos (w * 128) *ℤ h
times_times w (pos b) = ap pos (let e : w * (128 * b) ≡ (w * 128) * b = omega arith in e)
times_times w (negsuc b) = times_neg w (128 * suc b) ∙ ap (λ (m : ℕ). neg_ℤ (pos m)) (let e : w * (128 * suc b) ≡ (w * 128) * suc b = omega arith in e)

regroup : (low n : ℕ) (y : ℤ) → pos low +ℤ (y +ℤ pos n) ≡ pos (low + n) +ℤ y
regroup low n y = omega (arith, ints)

more_signed : (low d w v : ℕ) (h : ℤ) → v ≡ w * 128 → pos low +ℤ (pos w *ℤ ((pos 128 *ℤ h) +ℤ pos d)) ≡ pos (low + d * w) +ℤ (pos v *ℤ h)
more_signed low d w v h e =
    ap (λ (y : ℤ). pos low +ℤ y) (times_sum w (pos 128 *ℤ h) d)
    ∙ regroup low (d * w) (pos w *ℤ (pos 128 *ℤ h))
    ∙ ap (λ (y : ℤ). pos (low + d * w) +ℤ y) (times_times w h ∙ ap (λ (m : ℕ). pos m *ℤ h) (sym e))

same_size : (bits k : ℕ) → bits - 7 * (k + 1) ≡ bits - 7 * k - 7
same_size bits k = omega arith

-- How an encoding continues after an answer, given the bytes that may still come in each state of a reader.
module _ {A : Type 0} (rest : Partial → A → Form ℕ) where
  abbrev pub Goes : Step A × Partial → A → Form ℕ
  Goes (More, r) n more = rest r n more
  Goes (Done v, r) n more = (n ≡ v) × (more ≡ [])
  Goes (Bad, r) n more = ⊥

  -- A reader that has answered anything but More has finished.
  abbrev IsClosed : Step A × Partial → Type 0
  IsClosed (More, r) = Unit {0}
  IsClosed (Done v, r) = r ≡ over
  IsClosed (Bad, r) = r ≡ over

  -- A reader that has answered More can still be completed, and is not complete.
  abbrev IsLive : Step A × Partial → Type 0
  IsLive (More, r) = (n : A) × (more : List ℕ) × rest r n more
  IsLive (Done v, r) = Unit {0}
  IsLive (Bad, r) = Unit {0}

  goes_on : (p : Step A × Partial) → IsClosed p → ((n : A) (b : List ℕ) → rest over n b → ⊥) → (n : A) (d : ℕ) (more : List ℕ) → Goes p n (d ∷ more) ↔ rest p.1 n (d ∷ more)
  goes_on (More, r) closed none n d more = (λ g. g, λ g. g)
  goes_on (Done v, r) closed none n d more = (λ g. absurd (no_more d more g.1), λ h. absurd (none n (d ∷ more) (let Q : Partial → Type 0 = λ s. rest s n (d ∷ more) in subst Q closed h)))
    where
      no_more : (d : ℕ) (more : List ℕ) → d ∷ more ≡ [] → ⊥
      no_more d more e = cc
  goes_on (Bad, r) closed none n d more = (λ g. absurd g, λ h. absurd (none n (d ∷ more) (let Q : Partial → Type 0 = λ s. rest s n (d ∷ more) in subst Q closed h)))

  said : (Spells : A → Form ℕ) (p : Step A × Partial) (bytes : List ℕ) → ((n : A) (more : List ℕ) → Spells n (bytes ++ more) ↔ Goes p n more) → IsLive p
      → ((r : Partial) (n : A) → rest r n [] → ⊥) → Answers Spells p.0 bytes
  said Spells (More, r) bytes h live none =
      (λ n u. none r n ((h n []).0 (let e : bytes ++ [] ≡ bytes = append-nil bytes in rw e u)), live.0, live.1, (h live.0 live.1).1 live.2)
  said Spells (Done v, r) bytes h live none = h
  said Spells (Bad, r) bytes h live none = λ n more. (h n more).0

le-true : (a b : ℕ) → nat_le a b ≡ true → a ≤ b
le-true a b e = grind (arith, nat_tests)

le-false : (a b : ℕ) → nat_le a b ≡ false → b < a
le-false a b e = grind (arith, nat_tests)

nothing : {X : Type 0} → (X → ⊥) → X ↔ ⊥
nothing f = (f, λ e. absurd e)

-- One byte of an unsigned number.
unsigned_more : (bits : ℕ) (r : Partial) (n c : ℕ) (more : List ℕ) → 128 ≤ c → c < 256 → 7 * r.count + 7 < bits
    → UnsignedRest bits r n (c ∷ more) ↔ UnsignedRest bits (record { low = r.low + (c - 128) * 2 ^ (7 * r.count); count = r.count + 1 }) n more
unsigned_more bits r n c more big byte few = (
  (λ h. elim h.3 [
    | inl s ↦ absurd (omega (arith, s.0))
    | inr s ↦ (omega arith, s.3, h.2 ∙ (ap (λ x. r.low + x * 2 ^ (7 * r.count)) s.4 ∙ more_unsigned r.low s.3 (c - 128) (2 ^ (7 * r.count)) _ (pow7 r.count)), rw (same_size bits r.count) s.5)
  ]),
  (λ h. (omega arith, 128 * h.1 + (c - 128), h.2 ∙ sym (more_unsigned r.low h.1 (c - 128) (2 ^ (7 * r.count)) _ (pow7 r.count)), inr (big, byte, omega arith, h.1, refl, rw (← same_size bits r.count) h.3))),
)

unsigned_done : (bits : ℕ) (r : Partial) (n c : ℕ) (more : List ℕ) → 7 * r.count < bits → c < 128 → c < 2 ^ (bits - 7 * r.count)
    → UnsignedRest bits r n (c ∷ more) ↔ ((n ≡ r.low + c * 2 ^ (7 * r.count)) × (more ≡ []))
unsigned_done bits r n c more unread small fits = (
  (λ h. elim h.3 [
    | inl s ↦ (h.2 ∙ ap (λ x. r.low + x * 2 ^ (7 * r.count)) s.2, s.3)
    | inr s ↦ absurd (omega (arith, s.0))
  ]),
  (λ h. (unread, c, h.0, inl (small, fits, refl, h.1))),
)

unsigned_none : (bits : ℕ) (r : Partial) (n c : ℕ) (more : List ℕ) → (c < 128 → 2 ^ (bits - 7 * r.count) ≤ c) → (128 ≤ c → bits ≤ 7 * r.count + 7) → UnsignedRest bits r n (c ∷ more) → ⊥
unsigned_none bits r n c more small big h = elim h.3 [ inl s ↦ omega (arith, small s.0, s.1) | inr s ↦ omega (arith, big s.0, s.2) ]

pub unsigned_law : (bits : ℕ) (r : Partial) (n c : ℕ) (more : List ℕ) → c < 256 → UnsignedRest bits r n (c ∷ more) ↔ Goes (UnsignedRest bits) (unsigned_push bits r c) n more
unfolding unsigned_push
unsigned_law bits r n c more byte =
    let P : Step ℕ × Partial → Type 0 = λ p. UnsignedRest bits r n (c ∷ more) ↔ Goes (UnsignedRest bits) p n more in
    cond_both (nat_lt (7 * r.count) bits) _ _ P
    (λ a. cond_both (nat_lt c 128) _ _ P
    (λ b. cond_both (nat_lt c (2 ^ (bits - 7 * r.count))) _ _ P
    (λ d. unsigned_done bits r n c more (ltb-true _ _ a) (ltb-true _ _ b) (ltb-true _ _ d))
    (λ d. nothing (unsigned_none bits r n c more (λ _. ltb-false _ _ d) (λ e. absurd (omega (arith, ltb-true _ _ b, e))))))
    (λ b. cond_both (nat_lt (7 * r.count + 7) bits) _ _ P
    (λ d. unsigned_more bits r n c more (ltb-false _ _ b) byte (ltb-true _ _ d))
    (λ d. nothing (unsigned_none bits r n c more (λ e. absurd (omega (arith, ltb-false _ _ b, e))) (λ _. ltb-false _ _ d)))))
    (λ a. nothing (λ h. omega (arith, ltb-false _ _ a, h.0)))

unsigned_closed : (bits : ℕ) (r : Partial) (c : ℕ) → IsClosed (UnsignedRest bits) (unsigned_push bits r c)
unfolding unsigned_push
unsigned_closed bits r c =
    let P : Step ℕ × Partial → Type 0 = IsClosed (UnsignedRest bits) in
    cond_both (nat_lt (7 * r.count) bits) _ _ P
    (λ a. cond_both (nat_lt c 128) _ _ P
    (λ b. cond_both (nat_lt c (2 ^ (bits - 7 * r.count))) _ _ P (λ d. refl) (λ d. refl))
    (λ b. cond_both (nat_lt (7 * r.count + 7) bits) _ _ P (λ d. tt) (λ d. refl)))
    (λ a. refl)

unsigned_zero : (bits : ℕ) (r : Partial) → 7 * r.count < bits → (n : ℕ) × (more : List ℕ) × UnsignedRest bits r n more
unsigned_zero bits r few = (r.low, 0 ∷ [], (few, 0, omega arith, inl (omega arith, pow_pos (bits - 7 * r.count), refl, refl)))

unsigned_live : (bits : ℕ) (r : Partial) (c : ℕ) → IsLive (UnsignedRest bits) (unsigned_push bits r c)
unfolding unsigned_push
unsigned_live bits r c =
    let P : Step ℕ × Partial → Type 0 = IsLive (UnsignedRest bits) in
    cond_both (nat_lt (7 * r.count) bits) _ _ P
    (λ a. cond_both (nat_lt c 128) _ _ P
    (λ b. cond_both (nat_lt c (2 ^ (bits - 7 * r.count))) _ _ P (λ d. tt) (λ d. tt))
    (λ b. cond_both (nat_lt (7 * r.count + 7) bits) _ _ P
    (λ d. unsigned_zero bits (record { low = r.low + (c - 128) * 2 ^ (7 * r.count); count = r.count + 1 }) (let e : 7 * r.count + 7 < bits = ltb-true _ _ d in omega arith)) (λ d. tt)))
    (λ a. tt)

unsigned_over : (bits : ℕ) → bits ≤ 64 → (n : ℕ) (b : List ℕ) → UnsignedRest bits over n b → ⊥
unsigned_over bits few n b h = omega (arith, h.0)

unsigned_some : (bits : ℕ) (r : Partial) (n : ℕ) → UnsignedRest bits r n [] → ⊥
unsigned_some bits r n h = h.3

both_ways : {A B C : Type 0} → A ↔ B → B ↔ C → A ↔ C
both_ways p q = (λ a. q.0 (p.0 a), λ c. p.1 (q.1 c))

-- The answer and the state of a reader after one more byte, by the law of that byte.
module _ {A : Type 0} (Spells : A → Form ℕ) (rest : Partial → A → Form ℕ) where
  next_after : (r : Partial) (before : List ℕ) (c : ℕ) (p : Step A × Partial) → NumberAfter Spells (rest r) before
      → ((n : A) (more : List ℕ) → rest r n (c ∷ more) ↔ Goes rest p n more) → ((n : A) (d : ℕ) (more : List ℕ) → Goes rest p n (d ∷ more) ↔ rest p.1 n (d ∷ more))
      → NumberAfter Spells (rest p.1) (before ++ c ∷ [])
  next_after r before c p a law goes = record {
    same = λ n d more. rw (append_assoc before (c ∷ []) (d ∷ more)) (both_ways (a.same n c (d ∷ more)) (both_ways (law n (d ∷ more)) (goes n d more)));
  }

  next_spelled : (r : Partial) (before : List ℕ) (c : ℕ) (p : Step A × Partial) → NumberAfter Spells (rest r) before
      → ((n : A) (more : List ℕ) → rest r n (c ∷ more) ↔ Goes rest p n more)
      → (n : A) (more : List ℕ) → Spells n ((before ++ c ∷ []) ++ more) ↔ Goes rest p n more
  next_spelled r before c p a law n more = rw (append_assoc before (c ∷ []) more) (both_ways (a.same n c more) (law n more))

pub unsigned_after : (bits : ℕ) → bits ≤ 64 → (r : Partial) (before : List ℕ) (c : ℕ) → c < 256 → NumberAfter (Unsigned bits) (UnsignedRest bits r) before
    → NumberAfter (Unsigned bits) (UnsignedRest bits (unsigned_push bits r c).1) (before ++ c ∷ [])
unsigned_after bits few r before c byte a =
    next_after (Unsigned bits) (UnsignedRest bits) r before c (unsigned_push bits r c) a (λ n more. unsigned_law bits r n c more byte)
    (goes_on (UnsignedRest bits) (unsigned_push bits r c) (unsigned_closed bits r c) (unsigned_over bits few))

pub unsigned_answers : (bits : ℕ) (r : Partial) (before : List ℕ) (c : ℕ) → c < 256 → NumberAfter (Unsigned bits) (UnsignedRest bits r) before
    → Answers (Unsigned bits) (unsigned_push bits r c).0 (before ++ c ∷ [])
unsigned_answers bits r before c byte a =
    said (UnsignedRest bits) (Unsigned bits) (unsigned_push bits r c) (before ++ c ∷ [])
    (next_spelled (Unsigned bits) (UnsignedRest bits) r before c (unsigned_push bits r c) a (λ n more. unsigned_law bits r n c more byte)) (unsigned_live bits r c) (unsigned_some bits)

pub unsigned_fresh : (bits : ℕ) → 0 < bits → NumberAfter (Unsigned bits) (UnsignedRest bits fresh) []
unsigned_fresh bits some = record {
  same = λ n c more. (
    (λ u. (omega arith, n, omega arith, subst (λ (b : ℕ). Unsigned b n (c ∷ more)) (let z : bits ≡ bits - 0 = omega arith in z) u)),
    (λ h. subst (λ (m : ℕ). Unsigned bits m (c ∷ more)) (let e : h.1 ≡ n = omega (arith, h.2) in e)
        (subst (λ (b : ℕ). Unsigned b h.1 (c ∷ more)) (let z : bits - 0 ≡ bits = omega arith in z) h.3)),
  );
}

-- One byte of a signed number.
signed_more : (bits : ℕ) (r : Partial) (n : ℤ) (c : ℕ) (more : List ℕ) → 128 ≤ c → c < 256 → 7 * r.count + 7 < bits
    → SignedRest bits r n (c ∷ more) ↔ SignedRest bits (record { low = r.low + (c - 128) * 2 ^ (7 * r.count); count = r.count + 1 }) n more
signed_more bits r n c more big byte few = (
  (λ h. elim h.3 [
    | inl s ↦ absurd (omega (arith, s.0))
    | inr (inl s) ↦ absurd (omega (arith, s.1))
    | inr (inr s) ↦ (omega arith, s.3, h.2 ∙ (ap (λ (x : ℤ). last_signed r x) s.4 ∙ more_signed r.low (c - 128) (2 ^ (7 * r.count)) _ s.3 (pow7 r.count)), rw (same_size bits r.count) s.5)
  ]),
  (λ h. (
    omega arith,
    (pos 128 *ℤ h.1) +ℤ pos (c - 128),
    h.2 ∙ sym (more_signed r.low (c - 128) (2 ^ (7 * r.count)) _ h.1 (pow7 r.count)),
    inr (inr (big, byte, omega arith, h.1, refl, rw (← same_size bits r.count) h.3)),
  )),
)

signed_positive : (bits : ℕ) (r : Partial) (n : ℤ) (c : ℕ) (more : List ℕ) → 7 * r.count < bits → c < 64 → c < 2 ^ (bits - 7 * r.count - 1)
    → SignedRest bits r n (c ∷ more) ↔ ((n ≡ last_signed r (pos c)) × (more ≡ []))
signed_positive bits r n c more unread small fits = (
  (λ h. elim h.3 [
    | inl s ↦ (h.2 ∙ ap (λ (x : ℤ). last_signed r x) s.2, s.3)
    | inr (inl s) ↦ absurd (omega (arith, s.0))
    | inr (inr s) ↦ absurd (omega (arith, s.0))
  ]),
  (λ h. (unread, pos c, h.0, inl (small, fits, refl, h.1))),
)

signed_negative : (bits : ℕ) (r : Partial) (n : ℤ) (c : ℕ) (more : List ℕ) → 7 * r.count < bits → 64 ≤ c → c < 128 → 128 ≤ c + 2 ^ (bits - 7 * r.count - 1)
    → SignedRest bits r n (c ∷ more) ↔ ((n ≡ last_signed r (pos c -ℤ pos 128)) × (more ≡ []))
signed_negative bits r n c more unread from below fits = (
  (λ h. elim h.3 [
    | inl s ↦ absurd (omega (arith, s.0))
    | inr (inl s) ↦ (h.2 ∙ ap (λ (x : ℤ). last_signed r x) s.3, s.4)
    | inr (inr s) ↦ absurd (omega (arith, s.0))
  ]),
  (λ h. (unread, pos c -ℤ pos 128, h.0, inr (inl (from, below, fits, refl, h.1)))),
)

signed_none : (bits : ℕ) (r : Partial) (n : ℤ) (c : ℕ) (more : List ℕ)
    → (c < 64 → c < 2 ^ (bits - 7 * r.count - 1) → ⊥) → (64 ≤ c → c < 128 → 128 ≤ c + 2 ^ (bits - 7 * r.count - 1) → ⊥) → (128 ≤ c → bits ≤ 7 * r.count + 7)
    → SignedRest bits r n (c ∷ more) → ⊥
signed_none bits r n c more small below big h =
    elim h.3 [ inl s ↦ small s.0 s.1 | inr (inl s) ↦ below s.0 s.1 s.2 | inr (inr s) ↦ omega (arith, big s.0, s.2) ]

pub signed_law : (bits : ℕ) (r : Partial) (n : ℤ) (c : ℕ) (more : List ℕ) → c < 256 → SignedRest bits r n (c ∷ more) ↔ Goes (SignedRest bits) (signed_push bits r c) n more
unfolding signed_push
signed_law bits r n c more byte =
    let P : Step ℤ × Partial → Type 0 = λ p. SignedRest bits r n (c ∷ more) ↔ Goes (SignedRest bits) p n more in
    cond_both (nat_lt (7 * r.count) bits) _ _ P
    (λ a. cond_both (nat_lt c 64) _ _ P
    (λ b. cond_both (nat_lt c (2 ^ (bits - 7 * r.count - 1))) _ _ P
    (λ d. signed_positive bits r n c more (ltb-true _ _ a) (ltb-true _ _ b) (ltb-true _ _ d))
    (λ d. nothing (signed_none bits r n c more (λ s t. omega (arith, ltb-false _ _ d, t)) (λ s t u. omega (arith, ltb-true _ _ b, s)) (λ e. absurd (omega (arith, ltb-true _ _ b, e))))))
    (λ b. cond_both (nat_lt c 128) _ _ P
    (λ e. cond_both (nat_le 128 (c + 2 ^ (bits - 7 * r.count - 1))) _ _ P
    (λ d. signed_negative bits r n c more (ltb-true _ _ a) (ltb-false _ _ b) (ltb-true _ _ e) (le-true _ _ d))
    (λ d. nothing (signed_none bits r n c more (λ s t. omega (arith, ltb-false _ _ b, s)) (λ s t u. omega (arith, le-false _ _ d, u)) (λ f. absurd (omega (arith, ltb-true _ _ e, f))))))
    (λ e. cond_both (nat_lt (7 * r.count + 7) bits) _ _ P
    (λ d. signed_more bits r n c more (ltb-false _ _ e) byte (ltb-true _ _ d))
    (λ d. nothing (signed_none bits r n c more (λ s t. omega (arith, ltb-false _ _ b, s)) (λ s t u. omega (arith, ltb-false _ _ e, t)) (λ _. ltb-false _ _ d))))))
    (λ a. nothing (λ h. omega (arith, ltb-false _ _ a, h.0)))

signed_closed : (bits : ℕ) (r : Partial) (c : ℕ) → IsClosed (SignedRest bits) (signed_push bits r c)
unfolding signed_push
signed_closed bits r c =
    let P : Step ℤ × Partial → Type 0 = IsClosed (SignedRest bits) in
    cond_both (nat_lt (7 * r.count) bits) _ _ P
    (λ a. cond_both (nat_lt c 64) _ _ P
    (λ b. cond_both (nat_lt c (2 ^ (bits - 7 * r.count - 1))) _ _ P (λ d. refl) (λ d. refl))
    (λ b. cond_both (nat_lt c 128) _ _ P
    (λ e. cond_both (nat_le 128 (c + 2 ^ (bits - 7 * r.count - 1))) _ _ P (λ d. refl) (λ d. refl))
    (λ e. cond_both (nat_lt (7 * r.count + 7) bits) _ _ P (λ d. tt) (λ d. refl))))
    (λ a. refl)

signed_zero : (bits : ℕ) (r : Partial) → 7 * r.count < bits → (n : ℤ) × (more : List ℕ) × SignedRest bits r n more
signed_zero bits r few = (last_signed r (pos 0), 0 ∷ [], (few, pos 0, refl, inl (omega arith, pow_pos (bits - 7 * r.count - 1), refl, refl)))

signed_live : (bits : ℕ) (r : Partial) (c : ℕ) → IsLive (SignedRest bits) (signed_push bits r c)
unfolding signed_push
signed_live bits r c =
    let P : Step ℤ × Partial → Type 0 = IsLive (SignedRest bits) in
    cond_both (nat_lt (7 * r.count) bits) _ _ P
    (λ a. cond_both (nat_lt c 64) _ _ P
    (λ b. cond_both (nat_lt c (2 ^ (bits - 7 * r.count - 1))) _ _ P (λ d. tt) (λ d. tt))
    (λ b. cond_both (nat_lt c 128) _ _ P
    (λ e. cond_both (nat_le 128 (c + 2 ^ (bits - 7 * r.count - 1))) _ _ P (λ d. tt) (λ d. tt))
    (λ e. cond_both (nat_lt (7 * r.count + 7) bits) _ _ P
    (λ d. signed_zero bits (record { low = r.low + (c - 128) * 2 ^ (7 * r.count); count = r.count + 1 }) (let f : 7 * r.count + 7 < bits = ltb-true _ _ d in omega arith)) (λ d. tt))))
    (λ a. tt)

signed_over : (bits : ℕ) → bits ≤ 64 → (n : ℤ) (b : List ℕ) → SignedRest bits over n b → ⊥
signed_over bits few n b h = omega (arith, h.0)

signed_some : (bits : ℕ) (r : Partial) (n : ℤ) → SignedRest bits r n [] → ⊥
signed_some bits r n h = h.3

pub signed_after : (bits : ℕ) → bits ≤ 64 → (r : Partial) (before : List ℕ) (c : ℕ) → c < 256 → NumberAfter (Signed bits) (SignedRest bits r) before
    → NumberAfter (Signed bits) (SignedRest bits (signed_push bits r c).1) (before ++ c ∷ [])
signed_after bits few r before c byte a =
    next_after (Signed bits) (SignedRest bits) r before c (signed_push bits r c) a (λ n more. signed_law bits r n c more byte)
    (goes_on (SignedRest bits) (signed_push bits r c) (signed_closed bits r c) (signed_over bits few))

pub signed_answers : (bits : ℕ) (r : Partial) (before : List ℕ) (c : ℕ) → c < 256 → NumberAfter (Signed bits) (SignedRest bits r) before
    → Answers (Signed bits) (signed_push bits r c).0 (before ++ c ∷ [])
signed_answers bits r before c byte a =
    said (SignedRest bits) (Signed bits) (signed_push bits r c) (before ++ c ∷ [])
    (next_spelled (Signed bits) (SignedRest bits) r before c (signed_push bits r c) a (λ n more. signed_law bits r n c more byte)) (signed_live bits r c) (signed_some bits)

unweighed : (x : ℤ) → pos 0 +ℤ (pos 1 *ℤ x) ≡ x
unfolding lib.IntN.one
unweighed x = +ℤ_idl (pos 1 *ℤ x) ∙ *ℤ_comm (pos 1) x ∙ *ℤ-one x

pub signed_fresh : (bits : ℕ) → 0 < bits → NumberAfter (Signed bits) (SignedRest bits fresh) []
signed_fresh bits some = record {
  same = λ n c more. (
    (λ u. (omega arith, n, sym (unweighed n), subst (λ (b : ℕ). Signed b n (c ∷ more)) (let z : bits ≡ bits - 0 = omega arith in z) u)),
    (λ h. subst (λ (m : ℤ). Signed bits m (c ∷ more)) (sym (h.2 ∙ unweighed h.1))
        (subst (λ (b : ℕ). Signed b h.1 (c ∷ more)) (let z : bits - 0 ≡ bits = omega arith in z) h.3)),
  );
}

-- The number that was read is in its range.
unsigned_last : (bits low c k : ℕ) → low < 2 ^ (7 * k) → 7 * k < bits → c < 2 ^ (bits - 7 * k) → low + c * 2 ^ (7 * k) < 2 ^ bits
unsigned_last bits low c k a b d = room_last bits low c k (2 ^ (7 * k)) refl (omega arith) a d

pub unsigned_range : (bits : ℕ) (r : Partial) (c : ℕ) → r.low < 2 ^ (7 * r.count) → IfDone (unsigned_push bits r c).0 (λ n. n < 2 ^ bits)
unfolding unsigned_push
unsigned_range bits r c low =
    let P : Step ℕ × Partial → Type 0 = λ p. IfDone p.0 (λ n. n < 2 ^ bits) in
    cond_both (nat_lt (7 * r.count) bits) _ _ P
    (λ a. cond_both (nat_lt c 128) _ _ P
    (λ b. cond_both (nat_lt c (2 ^ (bits - 7 * r.count))) _ _ P (λ d. unsigned_last bits r.low c r.count low (ltb-true _ _ a) (ltb-true _ _ d)) (λ d. tt))
    (λ b. cond_both (nat_lt (7 * r.count + 7) bits) _ _ P (λ d. tt) (λ d. tt)))
    (λ a. tt)

same_place : (bits k : ℕ) → bits - 7 * k - 1 ≡ bits - 1 - 7 * k
same_place bits k = omega arith

positive_fits : (bits low c k : ℕ) → low < 2 ^ (7 * k) → 7 * k < bits → c < 2 ^ (bits - 7 * k - 1) → low + 2 ^ (7 * k) * c < 2 ^ (bits - 1)
positive_fits bits low c k a b d =
    let small : c < 2 ^ (bits - 1 - 7 * k) = rw (← same_place bits k) d in
    let h : low + c * 2 ^ (7 * k) < 2 ^ (bits - 1) = room_last (bits - 1) low c k (2 ^ (7 * k)) refl (omega arith) a small in
    omega (arith, h)

negative_is : (low c w : ℕ) → low < w → c < 128 → pos low +ℤ (pos w *ℤ (pos c -ℤ pos 128)) ≡ negsuc ((127 - c) * w + (w - 1 - low))
negative_is low c w a b =
    let e : pos c -ℤ pos 128 ≡ negsuc (127 - c) = omega (arith, ints) in
    ap (λ (z : ℤ). pos low +ℤ (pos w *ℤ z)) e ∙ linear low w ((127 - c) * w) (w * suc (127 - c)) a (omega arith)
  where
    linear : (low w k m : ℕ) → low < w → m ≡ k + w → pos low +ℤ neg_ℤ (pos m) ≡ negsuc (k + (w - 1 - low))
    linear low w k m a e = omega (arith, ints)

negative_fits : (bits low c k : ℕ) → low < 2 ^ (7 * k) → 7 * k < bits → c < 128 → 128 ≤ c + 2 ^ (bits - 7 * k - 1) → (127 - c) * 2 ^ (7 * k) + (2 ^ (7 * k) - 1 - low) < 2 ^ (bits - 1)
negative_fits bits low c k a b small d =
    let top : 128 - c ≤ 2 ^ (bits - 1 - 7 * k) = rw (← same_place bits k) (let q : 128 - c ≤ 2 ^ (bits - 7 * k - 1) = omega arith in q) in
    let e : 2 ^ (7 * k) * 2 ^ (bits - 1 - 7 * k) ≡ 2 ^ (bits - 1) = pow_split k (bits - 1) (omega arith) in
    let h : 2 ^ (7 * k) * (128 - c) ≤ 2 ^ (7 * k) * 2 ^ (bits - 1 - 7 * k) = mul-le-mul_left (2 ^ (7 * k)) top in
    below (127 - c) (128 - c) (2 ^ (7 * k)) low (2 ^ (bits - 1)) (omega arith) a (omega (arith, e, h))
  where
    below : (n m w low most : ℕ) → m ≡ n + 1 → low < w → w * m ≤ most → n * w + (w - 1 - low) < most
    below n m w low most e a h = let f : w * m ≡ n * w + w = rw e (omega arith) in omega (arith, f)

pub signed_range : (bits : ℕ) (r : Partial) (c : ℕ) → r.low < 2 ^ (7 * r.count) → IfDone (signed_push bits r c).0 (FitsBits bits)
unfolding signed_push
signed_range bits r c low =
    let P : Step ℤ × Partial → Type 0 = λ p. IfDone p.0 (FitsBits bits) in
    cond_both (nat_lt (7 * r.count) bits) _ _ P
    (λ a. cond_both (nat_lt c 64) _ _ P
    (λ b. cond_both (nat_lt c (2 ^ (bits - 7 * r.count - 1))) _ _ P (λ d. positive_fits bits r.low c r.count low (ltb-true _ _ a) (ltb-true _ _ d)) (λ d. tt))
    (λ b. cond_both (nat_lt c 128) _ _ P
    (λ e. cond_both (nat_le 128 (c + 2 ^ (bits - 7 * r.count - 1))) _ _ P
    (λ d. subst (FitsBits bits) (sym (negative_is r.low c (2 ^ (7 * r.count)) low (ltb-true _ _ e))) (negative_fits bits r.low c r.count low (ltb-true _ _ a) (ltb-true _ _ e) (le-true _ _ d))) (λ d. tt))
    (λ e. cond_both (nat_lt (7 * r.count + 7) bits) _ _ P (λ d. tt) (λ d. tt))))
    (λ a. tt)

-- The answer and the state of a reader of unsigned numbers after one more byte.
pub unsigned_reads : (bits : ℕ) → bits ≤ 64 → (p : Step ℕ × Partial) (r old : Partial) (c : ℕ) → p ≡ unsigned_push bits r c → r ≡ old → c < 256
    → (before : List ℕ) → NumberAfter (Unsigned bits) (UnsignedRest bits old) before
    → Answers (Unsigned bits) p.0 (before ++ c ∷ []) × NumberAfter (Unsigned bits) (UnsignedRest bits p.1) (before ++ c ∷ [])
unsigned_reads bits few p r old c e same byte before a =
    let pushed : unsigned_push bits old c ≡ p = ap (λ (r : Partial). unsigned_push bits r c) (sym same) ∙ sym e in (
      subst (λ (q : Step ℕ × Partial). Answers (Unsigned bits) q.0 (before ++ c ∷ [])) pushed (unsigned_answers bits old before c byte a),
      subst (λ (q : Step ℕ × Partial). NumberAfter (Unsigned bits) (UnsignedRest bits q.1) (before ++ c ∷ [])) pushed (unsigned_after bits few old before c byte a),
    )

pub unsigned_in_range : (bits : ℕ) (p : Step ℕ × Partial) (r : Partial) (c : ℕ) → p ≡ unsigned_push bits r c → r.low < 2 ^ (7 * r.count) → IfDone p.0 (λ n. n < 2 ^ bits)
unsigned_in_range bits p r c e low = subst (λ (q : Step ℕ × Partial). IfDone q.0 (λ n. n < 2 ^ bits)) (sym e) (unsigned_range bits r c low)

-- The answer and the state of a reader of signed numbers after one more byte.
pub signed_reads : (bits : ℕ) → bits ≤ 64 → (p : Step ℤ × Partial) (r old : Partial) (c : ℕ) → p ≡ signed_push bits r c → r ≡ old → c < 256
    → (before : List ℕ) → NumberAfter (Signed bits) (SignedRest bits old) before
    → Answers (Signed bits) p.0 (before ++ c ∷ []) × NumberAfter (Signed bits) (SignedRest bits p.1) (before ++ c ∷ [])
signed_reads bits few p r old c e same byte before a =
    let pushed : signed_push bits old c ≡ p = ap (λ (r : Partial). signed_push bits r c) (sym same) ∙ sym e in (
      subst (λ (q : Step ℤ × Partial). Answers (Signed bits) q.0 (before ++ c ∷ [])) pushed (signed_answers bits old before c byte a),
      subst (λ (q : Step ℤ × Partial). NumberAfter (Signed bits) (SignedRest bits q.1) (before ++ c ∷ [])) pushed (signed_after bits few old before c byte a),
    )

pub signed_in_range : (bits : ℕ) (p : Step ℤ × Partial) (r : Partial) (c : ℕ) → p ≡ signed_push bits r c → r.low < 2 ^ (7 * r.count) → IfDone p.0 (FitsBits bits)
signed_in_range bits p r c e low = subst (λ (q : Step ℤ × Partial). IfDone q.0 (FitsBits bits)) (sym e) (signed_range bits r c low)
