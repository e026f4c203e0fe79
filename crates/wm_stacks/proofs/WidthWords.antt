-- The bits of the widths in their words.
use Rattle.std.proofs.Common.{ℕ, zero, suc, ◌≡◌, ◌≢◌, ◌-◌, ◌*◌, ◌/◌, ◌%◌, ◌^◌, ◌<◌, ◌≤◌, Bool, true, false, nat_eq, List, ◌∷◌, length, set, get_or, get_or-set_same, get_or-set_other, inl, inr, sym, refl, ap, ◌∙◌, arith, w64, bit_and, bit_or}
use Rattle.std.specs.Int.{bit_at}
use Rattle.std.proofs.lemmas.Bool.{cases_eq}
use Rattle.std.proofs.lemmas.List.{get_or_past}
use Rattle.std.proofs.lemmas.Nat.Bits.{bit_at-zero, bit_at_set_same, bit_at_set_other, bit_at_clear_same, bit_at_clear_other}
use Rattle.wm_stacks.specs.inner.Widths.{wide_in}

-- the word with bit k set, and without it
abbrev pub bit : ℕ → ℕ
bit k = 1 * 2 ^ k % 18446744073709551616

abbrev pub with_one : ℕ → ℕ → ℕ
with_one word k = bit_or word (bit k)

abbrev pub without : ℕ → ℕ → ℕ
without word k = bit_and word (18446744073709551615 - bit k)

pub one_there : (word k : ℕ) → k < 64 → nat_eq (bit_at (with_one word k) k) 1 ≡ true
one_there word k h = ap (λ b. nat_eq b 1) (bit_at_set_same w64 word k h)

pub one_apart : (word k i : ℕ) → k < 64 → i ≢ k → bit_at (with_one word k) i ≡ bit_at word i
one_apart word k i h n = bit_at_set_other w64 word k h i n

pub none_there : (word k : ℕ) → k < 64 → nat_eq (bit_at (without word k) k) 1 ≡ false
none_there word k h = ap (λ b. nat_eq b 1) (bit_at_clear_same w64 word k h)

pub none_apart : (word k i : ℕ) → k < 64 → i < 64 → i ≢ k → bit_at (without word k) i ≡ bit_at word i
none_apart word k i h l n = bit_at_clear_other w64 word k h i l n

-- a word after the first
pub next_word : (first : ℕ) (rest : List ℕ) (i : ℕ) → (i ≡ 0 → ⊥) → get_or rest (i - 1) 0 ≡ get_or (first ∷ rest) i 0
next_word first rest zero n = absurd (n refl)
next_word first rest (suc i) n = let e : suc i - 1 ≡ i = omega arith in ap (λ j. get_or rest j 0) e

-- the words after a write, of the first or of a later one
pub first_written : (first v i : ℕ) (rest : List ℕ) → i ≡ 0 → ◌≡◌ {A = List ℕ} (v ∷ rest) (set (first ∷ rest) i v)
first_written first v i rest e = ap (λ j. set (first ∷ rest) j v) (sym e)

pub next_written : (first v i : ℕ) (rest : List ℕ) → (i ≡ 0 → ⊥) → ◌≡◌ {A = List ℕ} (first ∷ set rest (i - 1) v) (set (first ∷ rest) i v)
next_written first v zero rest n = absurd (n refl)
next_written first v (suc i) rest n = let e : suc i - 1 ≡ i = omega arith in ap (λ j. first ∷ set rest j v) e

-- a word that was not made has no bit set
pub past_words : (words : List ℕ) (at : ℕ) → length words ≤ at / 64 → wide_in words at ≡ false
past_words words at l =
    ap (λ x. nat_eq (bit_at x (at % 64)) 1) (get_or_past words (at / 64) 0 l) ∙ ap (λ b. nat_eq b 1) (bit_at-zero (at % 64))

-- later words that agree
same_words : (first : ℕ) (xs ys : List ℕ) → ((i : ℕ) → get_or xs i 0 ≡ get_or ys i 0) → (i : ℕ) → get_or (first ∷ xs) i 0 ≡ get_or (first ∷ ys) i 0
same_words first xs ys h zero = refl
same_words first xs ys h (suc i) = h i

pub same_widths : (first : ℕ) (xs ys : List ℕ) → ((i : ℕ) → get_or xs i 0 ≡ get_or ys i 0) → (at : ℕ) → wide_in (first ∷ xs) at ≡ wide_in (first ∷ ys) at
same_widths first xs ys h at = ap (λ x. nat_eq (bit_at x (at % 64)) 1) (same_words first xs ys h (at / 64))

other_bits : (words : List ℕ) (at new i : ℕ) → at / 64 < length words → i ≢ at
    → ((k : ℕ) → k < 64 → k ≢ at % 64 → bit_at new k ≡ bit_at (get_or words (at / 64) 0) k)
    → wide_in (set words (at / 64) new) i ≡ wide_in words i
other_bits words at new i l n others =
    elim (cases_eq (i / 64) (at / 64)) [
      | inl row ↦
          let apart : i % 64 ≢ at % 64 = omega (arith, row, n) in
          ap (λ j. nat_eq (bit_at (get_or (set words (at / 64) new) j 0) (i % 64)) 1) row
          ∙ ap (λ x. nat_eq (bit_at x (i % 64)) 1) (get_or-set_same words (at / 64) new 0 l)
          ∙ ap (λ b. nat_eq b 1) (others (i % 64) (omega arith) apart)
          ∙ ap (λ j. nat_eq (bit_at (get_or words j 0) (i % 64)) 1) (sym row)
      | inr apart ↦ ap (λ x. nat_eq (bit_at x (i % 64)) 1) (get_or-set_other words (at / 64) (i / 64) new 0 apart)
    ]

-- one word is written, in which only the bit of one operand changes
pub record Bits (at : ℕ) (wide : Bool) (old new : List ℕ) : Type 0 where
  pub there : wide_in new at ≡ wide
  pub others : (i : ℕ) → i ≢ at → wide_in new i ≡ wide_in old i

pub bits_written : (old new : List ℕ) (at word : ℕ) (wide : Bool) → new ≡ set old (at / 64) word → at / 64 < length old
    → nat_eq (bit_at word (at % 64)) 1 ≡ wide
    → ((k : ℕ) → k < 64 → k ≢ at % 64 → bit_at word k ≡ bit_at (get_or old (at / 64) 0) k) → Bits at wide old new
bits_written old new at word wide is l there others =
    record {
      there = ap (λ (z : List ℕ). wide_in z at) is ∙ ap (λ x. nat_eq (bit_at x (at % 64)) 1) (get_or-set_same old (at / 64) word 0 l) ∙ there;
      others = λ i n. ap (λ (z : List ℕ). wide_in z i) is ∙ other_bits old at word i l n others;
    }
