-- Numbers that lie whole in a list of bytes.
use Rattle.std.proofs.Common.{◌≡◌, ℕ, ◌+◌, ◌-◌, ◌<◌, ◌≤◌, ◌^◌, List, [], ◌∷◌, ◌++◌, length, refl, sym, ◌∙◌, ap, subst, arith, append_assoc, slice_range, slice_index, nat_lt, nat_le, true, false, ℤ, pos, negsuc, suc, ◌-ℤ◌, ◌*◌, take, drop}
use Rattle.std.proofs.lemmas.Int.{ints}
use Rattle.std.proofs.lemmas.Bool.{cond_both, lt-ltb, le-ltb, le-leb, ltb-true, ltb-false}
use Rattle.wm_syntax.specs.declared.numbers.Step.{Step}
use Rattle.wm_syntax.specs.declared.numbers.Step.TheVariants.{More, Done}
use Rattle.wm_syntax.specs.inner.Numbers.{Partial}
use Rattle.wm_syntax.specs.exact.Reading.{fresh, over, last_signed, unsigned_push, signed_push}
use Rattle.wm_shortcuts.specs.exact.WholeOps.{NumberGoes, IsNumber, LiesAt, one_signed}
use Rattle.wm_machine.proofs.Ranges.{range_more}

module _ {T : Type 0} (push : Partial → ℕ → Step T × Partial) where
  -- after these bytes the reader stands so, whatever follows
  abbrev pub Stands : Partial → List ℕ → Partial → Type 0
  Stands r before s = (b : List ℕ) (v : T) → IsNumber push s b v → IsNumber push r (before ++ b) v

  pub stands_more : (r s t : Partial) (before : List ℕ) (c : ℕ) → Stands r before s → (More, t) ≡ push s c → Stands r (before ++ c ∷ []) t
  stands_more r s t before c h e b v n =
      let one : IsNumber push s (c ∷ b) v = subst (λ y. NumberGoes y (λ q. IsNumber push q b v) b v) e n in
      subst (λ y. IsNumber push r y v) (sym (append_assoc before (c ∷ []) b)) (h (c ∷ b) v one)

  pub stands_done : (r s t : Partial) (before : List ℕ) (c : ℕ) (v : T) → Stands r before s → (Done v, t) ≡ push s c → IsNumber push r (before ++ c ∷ []) v
  stands_done r s t before c v h e =
      let one : IsNumber push s (c ∷ []) v = subst (λ y. NumberGoes y (λ q. IsNumber push q [] v) [] v) e (refl, refl) in
      h (c ∷ []) v one

  -- the same in a slice
  pub range_stands : (xs : List ℕ) (i j : ℕ) (s t : Partial) → i ≤ j → j < length xs → Stands fresh (slice_range xs i j) s → (More, t) ≡ push s (slice_index xs j) → Stands fresh (slice_range xs i (j + 1)) t
  range_stands xs i j s t order within h e =
      subst (λ y. Stands fresh y t) (sym (range_more xs i j order within)) (stands_more fresh s t (slice_range xs i j) (slice_index xs j) h e)

  pub range_done : (xs : List ℕ) (i j : ℕ) (s t : Partial) (v : T) → i ≤ j → j < length xs → Stands fresh (slice_range xs i j) s → (Done v, t) ≡ push s (slice_index xs j) → LiesAt push xs i (j + 1) v
  range_done xs i j s t v order within h e = record {
    some = omega arith;
    within = omega arith;
    spelled = subst (λ y. IsNumber push fresh y v) (sym (range_more xs i j order within)) (stands_done fresh s t (slice_range xs i j) (slice_index xs j) v h e);
  }

pub one_range : (xs : List ℕ) (i : ℕ) → i < length xs → slice_range xs i (i + 1) ≡ slice_index xs i ∷ []
one_range xs i less =
    range_more xs i i (omega arith) less ∙ ap (λ y. y ++ slice_index xs i ∷ []) (none xs i)
  where
    none : (xs : List ℕ) (i : ℕ) → slice_range xs i i ≡ []
    none xs i = let e : i - i ≡ 0 = omega arith in ap (λ n. take n (drop i xs)) e

pub u32_one : (c : ℕ) → c < 2 ^ 7 → unsigned_push 32 fresh c ≡ (Done c, over)
unfolding unsigned_push
u32_one c less =
    let a : nat_lt c (2 ^ 7) ≡ true = lt-ltb c (2 ^ 7) less in
    let b : nat_lt c (2 ^ 32) ≡ true = lt-ltb c (2 ^ 32) (omega arith) in
    let v : 0 + c * 1 ≡ c = omega arith in
    rw (a, b, v)

pub u32_short : (xs : List ℕ) (i : ℕ) → i < length xs → slice_index xs i < 2 ^ 7 → LiesAt (unsigned_push 32) xs i (i + 1) (slice_index xs i)
u32_short xs i within less = record {
  some = omega arith;
  within = omega arith;
  spelled = subst (λ y. IsNumber (unsigned_push 32) fresh y (slice_index xs i)) (sym (one_range xs i within))
      (subst (λ y. NumberGoes y (λ q. IsNumber (unsigned_push 32) q [] (slice_index xs i)) [] (slice_index xs i)) (sym (u32_one (slice_index xs i) less)) (refl, refl));
}

-- the same of two bytes
two_range : (xs : List ℕ) (i : ℕ) → i + 1 < length xs → slice_range xs i (i + 2) ≡ slice_index xs i ∷ slice_index xs (i + 1) ∷ []
two_range xs i less =
    let two : i + 2 ≡ i + 1 + 1 = omega arith in
    ap (λ n. slice_range xs i n) two
    ∙ (range_more xs i (i + 1) (omega arith) less
    ∙ ap (λ y. y ++ slice_index xs (i + 1) ∷ []) (one_range xs i (omega arith)))

pub u32_goes_on : (c : ℕ) → 2 ^ 7 ≤ c → unsigned_push 32 fresh c ≡ (More, record { low = c - 2 ^ 7; count = 1 })
unfolding unsigned_push
u32_goes_on c high =
    let a : nat_lt c (2 ^ 7) ≡ false = le-ltb c (2 ^ 7) high in
    let v : 0 + (c - 2 ^ 7) * 1 ≡ c - 2 ^ 7 = omega arith in
    rw (a, v)

pub u32_second : (l c : ℕ) → c < 2 ^ 7 → unsigned_push 32 (record { low = l; count = 1 }) c ≡ (Done (l + c * 2 ^ 7), over)
unfolding unsigned_push
u32_second l c less =
    let a : nat_lt c (2 ^ 7) ≡ true = lt-ltb c (2 ^ 7) less in
    let b : nat_lt c (2 ^ 25) ≡ true = lt-ltb c (2 ^ 25) (omega arith) in
    rw (a, b)

pub u32_two : (xs : List ℕ) (i : ℕ) → i + 1 < length xs → 2 ^ 7 ≤ slice_index xs i → slice_index xs (i + 1) < 2 ^ 7
    → LiesAt (unsigned_push 32) xs i (i + 2) (slice_index xs i - 2 ^ 7 + slice_index xs (i + 1) * 2 ^ 7)
u32_two xs i within high less =
    let b : ℕ = slice_index xs i in
    let c : ℕ = slice_index xs (i + 1) in
    let v : ℕ = b - 2 ^ 7 + c * 2 ^ 7 in
    record {
      some = omega arith;
      within = omega arith;
      spelled = subst (λ y. IsNumber (unsigned_push 32) fresh y v) (sym (two_range xs i within))
          (subst (λ y. NumberGoes y (λ q. IsNumber (unsigned_push 32) q (c ∷ []) v) (c ∷ []) v) (sym (u32_goes_on b high))
          (subst (λ y. NumberGoes y (λ q. IsNumber (unsigned_push 32) q [] v) [] v) (sym (u32_second (b - 2 ^ 7) c less)) (refl, refl)));
    }

-- a signed number of one byte
last_same : (z : ℤ) → last_signed fresh z ≡ z
last_same z = omega (arith, ints)

s32_low : (c : ℕ) → c < 2 ^ 6 → signed_push 32 fresh c ≡ (Done (one_signed c), over)
unfolding signed_push
s32_low c less =
    let a : nat_lt c (2 ^ 6) ≡ true = lt-ltb c (2 ^ 6) less in
    let b : nat_lt c (2 ^ 31) ≡ true = lt-ltb c (2 ^ 31) (omega arith) in
    let v : last_signed fresh (pos c) ≡ pos c = last_same (pos c) in
    rw (a, b, v)

s32_high : (c : ℕ) → c < 2 ^ 7 → 2 ^ 6 ≤ c → signed_push 32 fresh c ≡ (Done (one_signed c), over)
unfolding signed_push
s32_high c less high =
    let a : nat_lt c (2 ^ 6) ≡ false = le-ltb c (2 ^ 6) high in
    let b : nat_lt c (2 ^ 7) ≡ true = lt-ltb c (2 ^ 7) less in
    let d : nat_le (2 ^ 7) (c + 2 ^ 31) ≡ true = le-leb (2 ^ 7) (c + 2 ^ 31) (omega arith) in
    let v : last_signed fresh (pos c -ℤ pos (2 ^ 7)) ≡ pos c -ℤ pos (2 ^ 7) = last_same (pos c -ℤ pos (2 ^ 7)) in
    rw (a, d) (rw b (ap (λ (z : ℤ). (Done z, over)) (last_same (negsuc (128 - suc c)))))

s32_one : (c : ℕ) → c < 2 ^ 7 → signed_push 32 fresh c ≡ (Done (one_signed c), over)
s32_one c less =
    cond_both (nat_lt c (2 ^ 6)) 0 0 (λ (_ : ℕ). signed_push 32 fresh c ≡ (Done (one_signed c), over))
    (λ e. s32_low c (ltb-true c (2 ^ 6) e)) (λ e. s32_high c less (ltb-false c (2 ^ 6) e))

pub s32_short : (xs : List ℕ) (i : ℕ) → i < length xs → slice_index xs i < 2 ^ 7 → LiesAt (signed_push 32) xs i (i + 1) (one_signed (slice_index xs i))
s32_short xs i within less = record {
  some = omega arith;
  within = omega arith;
  spelled = subst (λ y. IsNumber (signed_push 32) fresh y (one_signed (slice_index xs i))) (sym (one_range xs i within))
      (subst (λ y. NumberGoes y (λ q. IsNumber (signed_push 32) q [] (one_signed (slice_index xs i))) [] (one_signed (slice_index xs i))) (sym (s32_one (slice_index xs i) less)) (refl, refl));
}

s64_low : (c : ℕ) → c < 2 ^ 6 → signed_push 64 fresh c ≡ (Done (one_signed c), over)
unfolding signed_push
s64_low c less =
    let a : nat_lt c (2 ^ 6) ≡ true = lt-ltb c (2 ^ 6) less in
    let b : nat_lt c (2 ^ 63) ≡ true = lt-ltb c (2 ^ 63) (omega arith) in
    let v : last_signed fresh (pos c) ≡ pos c = last_same (pos c) in
    rw (a, b, v)

s64_high : (c : ℕ) → c < 2 ^ 7 → 2 ^ 6 ≤ c → signed_push 64 fresh c ≡ (Done (one_signed c), over)
unfolding signed_push
s64_high c less high =
    let a : nat_lt c (2 ^ 6) ≡ false = le-ltb c (2 ^ 6) high in
    let b : nat_lt c (2 ^ 7) ≡ true = lt-ltb c (2 ^ 7) less in
    let d : nat_le (2 ^ 7) (c + 2 ^ 63) ≡ true = le-leb (2 ^ 7) (c + 2 ^ 63) (omega arith) in
    let v : last_signed fresh (pos c -ℤ pos (2 ^ 7)) ≡ pos c -ℤ pos (2 ^ 7) = last_same (pos c -ℤ pos (2 ^ 7)) in
    rw (a, d) (rw b (ap (λ (z : ℤ). (Done z, over)) (last_same (negsuc (128 - suc c)))))

s64_one : (c : ℕ) → c < 2 ^ 7 → signed_push 64 fresh c ≡ (Done (one_signed c), over)
s64_one c less =
    cond_both (nat_lt c (2 ^ 6)) 0 0 (λ (_ : ℕ). signed_push 64 fresh c ≡ (Done (one_signed c), over))
    (λ e. s64_low c (ltb-true c (2 ^ 6) e)) (λ e. s64_high c less (ltb-false c (2 ^ 6) e))

pub s64_short : (xs : List ℕ) (i : ℕ) → i < length xs → slice_index xs i < 2 ^ 7 → LiesAt (signed_push 64) xs i (i + 1) (one_signed (slice_index xs i))
s64_short xs i within less = record {
  some = omega arith;
  within = omega arith;
  spelled = subst (λ y. IsNumber (signed_push 64) fresh y (one_signed (slice_index xs i))) (sym (one_range xs i within))
      (subst (λ y. NumberGoes y (λ q. IsNumber (signed_push 64) q [] (one_signed (slice_index xs i))) [] (one_signed (slice_index xs i))) (sym (s64_one (slice_index xs i) less)) (refl, refl));
}
