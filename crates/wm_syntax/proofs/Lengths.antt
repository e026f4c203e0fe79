-- The length of a number, byte by byte.
use Rattle.std.proofs.Common.{◌≡◌, ℕ, zero, suc, ◌+◌, ◌-◌, ◌%◌, ◌/◌, ◌<◌, ◌≤◌, [], ◌∷◌, length, refl, ap, ◌∙◌, arith, ℤ, pos, negsuc, neg_ℤ, ◌≤ℤ◌, ◌<ℤ◌, Bool, true, false, cond, nat_lt}
use Rattle.std.proofs.lemmas.Int.{ints}
use Rattle.wm_syntax.specs.Leb128.{unsigned_bytes, signed_bytes}
use Rattle.wm_syntax.proofs.NumberLoops.{last_byte, more_bytes, last_positive, more_positive, no_signed}

-- For an unsigned number: the last byte, a byte before others, and the last of five bytes.
last_len : (k n : ℕ) → 0 < k → n < 128 → length (unsigned_bytes k n) ≡ 1
last_len k n some h = ap length (last_byte k n some h)

more_len : (k n : ℕ) → 128 ≤ n → length (unsigned_bytes (k + 1) n) ≡ length (unsigned_bytes k (n / 128)) + 1
more_len k n h =
    let less : (k + 1) - 1 ≡ k = omega arith in
    let e = ap length (more_bytes (k + 1) n (omega arith) h ∙ ap (λ (j : ℕ). (n % 128 + 128) ∷ unsigned_bytes j (n / 128)) less) in
    omega (arith, e)

pub one_byte : (n : ℕ) → n < 128 → length (unsigned_bytes 5 n) ≡ 1
one_byte n h = last_len 5 n (omega arith) h

pub two_bytes : (n : ℕ) → 128 ≤ n → n < 16384 → length (unsigned_bytes 5 n) ≡ 2
two_bytes n h k = omega (arith, more_len 4 n h, last_len 4 (n / 128) (omega arith) (omega arith))

pub three_bytes : (n : ℕ) → 16384 ≤ n → n < 2097152 → length (unsigned_bytes 5 n) ≡ 3
three_bytes n h k =
    omega (arith, more_len 4 n (omega arith), more_len 3 (n / 128) (omega arith), last_len 3 (n / 128 / 128) (omega arith) (omega arith))

pub four_bytes : (n : ℕ) → 2097152 ≤ n → n < 268435456 → length (unsigned_bytes 5 n) ≡ 4
four_bytes n h k =
    omega (
      arith,
      more_len 4 n (omega arith),
      more_len 3 (n / 128) (omega arith),
      more_len 2 (n / 128 / 128) (omega arith),
      last_len 2 (n / 128 / 128 / 128) (omega arith) (omega arith),
    )

one_left : (n : ℕ) → length (unsigned_bytes 1 n) ≡ 1
unfolding unsigned_bytes
one_left n = go (nat_lt n 128)
  where
    go : (b : Bool) → length (cond b (n ∷ []) ((n % 128 + 128) ∷ [])) ≡ 1
    go true = refl
    go false = refl

pub five_bytes : (n : ℕ) → 268435456 ≤ n → length (unsigned_bytes 5 n) ≡ 5
five_bytes n h =
    omega (
      arith,
      more_len 4 n (omega arith),
      more_len 3 (n / 128) (omega arith),
      more_len 2 (n / 128 / 128) (omega arith),
      more_len 1 (n / 128 / 128 / 128) (omega arith),
      one_left (n / 128 / 128 / 128 / 128),
    )

-- For a signed number: the last byte, and a byte before others.
pub last_signed_len : (k n : ℕ) → 0 < k → n < 64 → length (signed_bytes k (pos n)) ≡ 1
last_signed_len k n some h = ap length (last_positive k n some h)

pub more_signed_len : (most i n : ℕ) → i < most → 64 ≤ n → length (signed_bytes (most - i) (pos n)) ≡ length (signed_bytes (most - (i + 1)) (pos (n / 128))) + 1
more_signed_len most i n few h =
    let less : (most - i) - 1 ≡ most - (i + 1) = omega arith in
    let e = ap length (more_positive (most - i) n (omega arith) h ∙ ap (λ (j : ℕ). (n % 128 + 128) ∷ signed_bytes j (pos (n / 128))) less) in
    omega (arith, e)

pub none_signed_len : (k n : ℕ) → k ≡ 0 → length (signed_bytes k (pos n)) ≡ 0
none_signed_len k n h = ap (λ (j : ℕ). length (signed_bytes j (pos n))) h ∙ ap length (no_signed (pos n))

-- -1 - n has as many bytes as n
pub negative_len : (k n : ℕ) → length (signed_bytes k (negsuc n)) ≡ length (signed_bytes k (pos n))
unfolding signed_bytes
negative_len zero n = refl
negative_len (suc k) n = go (nat_lt n 64) (negative_len k (n / 128))
  where
    go : (b : Bool) → length (signed_bytes k (negsuc (n / 128))) ≡ length (signed_bytes k (pos (n / 128)))
        → length (cond b ((127 - n) ∷ []) ((255 - n % 128) ∷ signed_bytes k (negsuc (n / 128)))) ≡ length (cond b (n ∷ []) ((n % 128 + 128) ∷ signed_bytes k (pos (n / 128))))
    go true h = refl
    go false h = ap suc h

-- a signed number of one byte
pub one_signed_len : (k : ℕ) (z : ℤ) → 0 < k → neg_ℤ (pos 64) ≤ℤ z → z <ℤ pos 64 → length (signed_bytes k z) ≡ 1
one_signed_len k (pos n) some low high = last_signed_len k n some (omega (arith, ints))
one_signed_len k (negsuc n) some low high = negative_len k n ∙ last_signed_len k n some (omega (arith, ints))
