-- Writing a number, its low bits first.
use Rattle.std.proofs.Common.{◌≡◌, ℕ, zero, suc, ◌+◌, ◌-◌, ◌%◌, ◌/◌, ◌<◌, ◌≤◌, List, [], ◌∷◌, ◌++◌, length, refl, sym, ap, ◌∙◌, append_assoc, append-nil, length-append, arith, nat_lt, true, false, ℤ, pos, negsuc, Bool, cond}
use Rattle.std.proofs.lemmas.Bool.{lt-ltb}
use Rattle.std.proofs.lemmas.Bool.Decides.{nat_tests}
use Rattle.wm_syntax.specs.Leb128.{unsigned_bytes, signed_bytes}

not_less : (n k : ℕ) → k ≤ n → nat_lt n k ≡ false
not_less n k h = grind (arith, nat_tests)

-- the last byte, and a byte before others, with k more to come
pub last_byte : (k n : ℕ) → 0 < k → n < 128 → unsigned_bytes k n ≡ n ∷ []
unfolding unsigned_bytes
last_byte zero n some h = absurd (omega arith)
last_byte (suc k) n some h = rw (lt-ltb n 128 h) refl

pub more_bytes : (k n : ℕ) → 0 < k → 128 ≤ n → unsigned_bytes k n ≡ (n % 128 + 128) ∷ unsigned_bytes (k - 1) (n / 128)
unfolding unsigned_bytes
more_bytes zero n some h = absurd (omega arith)
more_bytes (suc k) n some h = rw (not_less n 128 h) (ap (λ j. (n % 128 + 128) ∷ unsigned_bytes j (n / 128)) (let e : k ≡ suc k - 1 = omega arith in e))

pub last_positive : (k n : ℕ) → 0 < k → n < 64 → signed_bytes k (pos n) ≡ n ∷ []
unfolding signed_bytes
last_positive zero n some h = absurd (omega arith)
last_positive (suc k) n some h = rw (lt-ltb n 64 h) refl

pub more_positive : (k n : ℕ) → 0 < k → 64 ≤ n → signed_bytes k (pos n) ≡ (n % 128 + 128) ∷ signed_bytes (k - 1) (pos (n / 128))
unfolding signed_bytes
more_positive zero n some h = absurd (omega arith)
more_positive (suc k) n some h = rw (not_less n 64 h) (ap (λ (j : ℕ). (n % 128 + 128) ∷ signed_bytes j (pos (n / 128))) (let e : k ≡ suc k - 1 = omega arith in e))

pub last_negative : (k n : ℕ) → 0 < k → n < 64 → signed_bytes k (negsuc n) ≡ (127 - n) ∷ []
unfolding signed_bytes
last_negative zero n some h = absurd (omega arith)
last_negative (suc k) n some h = rw (lt-ltb n 64 h) refl

pub more_negative : (k n : ℕ) → 0 < k → 64 ≤ n → signed_bytes k (negsuc n) ≡ (255 - n % 128) ∷ signed_bytes (k - 1) (negsuc (n / 128))
unfolding signed_bytes
more_negative zero n some h = absurd (omega arith)
more_negative (suc k) n some h = rw (not_less n 64 h) (ap (λ (j : ℕ). (255 - n % 128) ∷ signed_bytes j (negsuc (n / 128))) (let e : k ≡ suc k - 1 = omega arith in e))

-- No bytes are written if there is no room.
pub no_unsigned : (n : ℕ) → unsigned_bytes 0 n ≡ []
unfolding unsigned_bytes
no_unsigned n = refl

pub no_signed : (z : ℤ) → signed_bytes 0 z ≡ []
unfolding signed_bytes
no_signed z = refl

-- A step of the loop: the byte x was written, and the bytes b are still to be written.
pub one_more : (out b rest whole : List ℕ) (x : ℕ) → out ++ whole ≡ rest → whole ≡ x ∷ b → (out ++ x ∷ []) ++ b ≡ rest
one_more out b rest whole x e w = append_assoc out (x ∷ []) b ∙ ap (λ z. out ++ z) (sym w) ∙ e

-- The steps of a loop that writes one byte at a time: the last byte, a byte before others, and no room.
pub last_out : (new out rest whole : List ℕ) (x : ℕ) → new ≡ out ++ x ∷ [] → whole ≡ x ∷ [] → out ++ whole ≡ rest → new ≡ rest
last_out new out rest whole x n w e = n ∙ ap (λ z. out ++ z) (sym w) ∙ e

pub one_out : (new out rest whole b : List ℕ) (x : ℕ) → new ≡ out ++ x ∷ [] → whole ≡ x ∷ b → out ++ whole ≡ rest → new ++ b ≡ rest
one_out new out rest whole b x n w e = ap (λ z. z ++ b) n ∙ append_assoc out (x ∷ []) b ∙ ap (λ z. out ++ z) (sym w) ∙ e

pub none_out : (out rest whole : List ℕ) → whole ≡ [] → out ++ whole ≡ rest → out ≡ rest
none_out out rest whole w e = sym (append-nil out) ∙ ap (λ z. out ++ z) (sym w) ∙ e

pub room_less : (new out : List ℕ) (x m k : ℕ) → new ≡ out ++ x ∷ [] → k < m → length out + (m - k) ≤ 16 → length new + (m - (k + 1)) ≤ 16
room_less new out x m k n less room = let e : length new ≡ length out + 1 = ap length n ∙ length-append out (x ∷ []) in omega arith

-- A number has no more bytes than it is allowed to have.
pub short : (k n : ℕ) → length (unsigned_bytes k n) ≤ k
unfolding unsigned_bytes
short zero n = omega arith
short (suc k) n = go (nat_lt n 128) (short k (n / 128))
  where
    go : (b : Bool) → length (unsigned_bytes k (n / 128)) ≤ k → length (cond b (n ∷ []) ((n % 128 + 128) ∷ unsigned_bytes k (n / 128))) ≤ suc k
    go true h = omega arith
    go false h = omega arith

pub short_after : (new old : List ℕ) (k n : ℕ) → new ≡ old ++ unsigned_bytes k n → length new ≤ length old + k
short_after new old k n e = omega (arith, ap length e, length-append old (unsigned_bytes k n), short k n)

pub short_signed : (k : ℕ) (z : ℤ) → length (signed_bytes k z) ≤ k
unfolding signed_bytes
short_signed zero z = omega arith
short_signed (suc k) (pos n) = go (nat_lt n 64) (short_signed k (pos (n / 128)))
  where
    go : (b : Bool) → length (signed_bytes k (pos (n / 128))) ≤ k → length (cond b (n ∷ []) ((n % 128 + 128) ∷ signed_bytes k (pos (n / 128)))) ≤ suc k
    go true h = omega arith
    go false h = omega arith
short_signed (suc k) (negsuc n) = go (nat_lt n 64) (short_signed k (negsuc (n / 128)))
  where
    go : (b : Bool) → length (signed_bytes k (negsuc (n / 128))) ≤ k → length (cond b ((127 - n) ∷ []) ((255 - n % 128) ∷ signed_bytes k (negsuc (n / 128)))) ≤ suc k
    go true h = omega arith
    go false h = omega arith

pub signed_short_after : (new old : List ℕ) (k : ℕ) (z : ℤ) → new ≡ old ++ signed_bytes k z → length new ≤ length old + k
signed_short_after new old k z e = omega (arith, ap length e, length-append old (signed_bytes k z), short_signed k z)
