-- The bytes inside and outside code entries.
use Rattle.std.proofs.Common.{◌≡◌, ℕ, suc, ◌+◌, ◌≤◌, [], ◌∷◌, length, arith}
use Rattle.wm_machine.specs.Items.{Zone, outside, name, entry, closing, Marks}
use Rattle.wm_machine.specs.Fronts.{outside_bytes, inside_bytes, entry_more, entry_after, entry_bytes}

-- a byte by its zone
abbrev more_outside : Zone → ℕ → ℕ
more_outside z n = elim z [ outside ↦ suc n | name ↦ suc n | entry ↦ n | closing ↦ n ]

abbrev more_inside : Zone → ℕ → ℕ
more_inside z n = elim z [ outside ↦ n | name ↦ n | entry ↦ suc n | closing ↦ suc n ]

one_zone : (z : Zone) (a b n : ℕ) → a + b ≡ n → more_outside z a + more_inside z b ≡ suc n
one_zone outside a b n e = omega (arith, e)
one_zone name a b n e = omega (arith, e)
one_zone entry a b n e = omega (arith, e)
one_zone closing a b n e = omega (arith, e)

pub all_bytes : (k : Marks) → outside_bytes k + inside_bytes k ≡ length k
all_bytes [] = omega arith
all_bytes (m ∷ k) = let e : outside_bytes k + inside_bytes k ≡ length k = all_bytes k in one_zone m.zone (outside_bytes k) (inside_bytes k) (length k) e

within : (z : Zone) (n a : ℕ) → entry_more z n + a ≤ n + more_inside z a
within outside n a = omega arith
within name n a = omega arith
within entry n a = omega arith
within closing n a = omega arith

entry_within : (k : Marks) (n : ℕ) → entry_after n k ≤ n + inside_bytes k
entry_within [] n = omega arith
entry_within (m ∷ k) n =
    let a : entry_after (entry_more m.zone n) k ≤ entry_more m.zone n + inside_bytes k = entry_within k (entry_more m.zone n) in
    let b : entry_more m.zone n + inside_bytes k ≤ n + more_inside m.zone (inside_bytes k) = within m.zone n (inside_bytes k) in
    omega (arith, a, b)

pub at_hand : (k : Marks) → entry_bytes k ≤ inside_bytes k
at_hand k = let a : entry_after 0 k ≤ 0 + inside_bytes k = entry_within k 0 in omega (arith, a)
