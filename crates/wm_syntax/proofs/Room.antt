-- The number that a reader has read stays within its bits.
use Rattle.std.proofs.Common.{◌≡◌, ℕ, ◌+◌, ◌-◌, ◌*◌, ◌^◌, ◌<◌, ◌≤◌, sym, ap, ◌∙◌, arith}
use Rattle.std.proofs.lemmas.Nat.{pow-add}
use Rattle.std.proofs.Math.Nat.{mul-le-mul_left}
use Rattle.std.proofs.Math.Pow.{pow_mono}

pub pow7 : (k : ℕ) → 2 ^ (7 * (k + 1)) ≡ 2 ^ (7 * k) * 128
pow7 k = let e : 7 * (k + 1) ≡ 7 * k + 7 = omega arith in rw (e, pow-add 2 (7 * k) 7)

-- A digit below p, of the weight w, above a number below w.
pub room : (low c w p : ℕ) → low < w → c < p → low + c * w < w * p
room low c w p a b = let more : c + 1 ≤ p = omega arith in let h : w * (c + 1) ≤ w * p = mul-le-mul_left w more in omega (arith, h)

pub pow_split : (k bits : ℕ) → 7 * k ≤ bits → 2 ^ (7 * k) * 2 ^ (bits - 7 * k) ≡ 2 ^ bits
pow_split k bits few = sym (pow-add 2 (7 * k) (bits - 7 * k)) ∙ ap (λ x. 2 ^ x) (let f : 7 * k + (bits - 7 * k) ≡ bits = omega arith in f)

pub room_last : (bits low c k w : ℕ) → w ≡ 2 ^ (7 * k) → 7 * k ≤ bits → low < 2 ^ (7 * k) → c < 2 ^ (bits - 7 * k) → low + c * w < 2 ^ bits
room_last bits low c k w e few a b = rw (e, ← pow_split k bits few) (room low c (2 ^ (7 * k)) (2 ^ (bits - 7 * k)) a b)

pub room_more : (low c k w : ℕ) → w ≡ 2 ^ (7 * k) → low < 2 ^ (7 * k) → c < 128 → low + c * w < 2 ^ (7 * (k + 1))
room_more low c k w e a b = rw (e, pow7 k) (room low c (2 ^ (7 * k)) 128 a b)

pub within_64 : (bits x : ℕ) → bits ≤ 64 → x < 2 ^ bits → x < 2 ^ 64
within_64 bits x few h = let le : 2 ^ bits ≤ 2 ^ 64 = pow_mono few in omega (arith, h, le)

pub below_pow : (bits byte : ℕ) → 6 < bits → byte < 128 → byte < 2 ^ bits
below_pow bits byte many small = let le : 2 ^ 7 ≤ 2 ^ bits = pow_mono (let q : 7 ≤ bits = omega arith in q) in omega (arith, le)

pub above_pow : (bits byte : ℕ) → 5 < bits → 64 ≤ byte → 128 ≤ byte + 2 ^ bits
above_pow bits byte many from = let le : 2 ^ 6 ≤ 2 ^ bits = pow_mono (let q : 6 ≤ bits = omega arith in q) in omega (arith, le)

-- A last digit with one bit less than is left leaves room for the sign.
pub room_signed : (bits x k : ℕ) → bits ≤ 64 → 7 * k < bits → x ≤ 2 ^ (bits - 7 * k - 1) → x * 2 ^ (7 * k) ≤ 2 ^ 63
room_signed bits x k few read h =
    let p : 2 ^ (7 * k) * 2 ^ (bits - 7 * k - 1) ≡ 2 ^ (bits - 1) =
    sym (pow-add 2 (7 * k) (bits - 7 * k - 1)) ∙ ap (λ n. 2 ^ n) (let f : 7 * k + (bits - 7 * k - 1) ≡ bits - 1 = omega arith in f) in
    let le : 2 ^ (bits - 1) ≤ 2 ^ 63 = pow_mono (let q : bits - 1 ≤ 63 = omega arith in q) in
    let m : 2 ^ (7 * k) * x ≤ 2 ^ (7 * k) * 2 ^ (bits - 7 * k - 1) = mul-le-mul_left (2 ^ (7 * k)) h in
    omega (arith, p, le, m)
