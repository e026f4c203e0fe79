-- Floats as bits, and the float nearest to a fraction (Core spec 2.2.3, 4.3.1, 4.3.3, 5.2.3). Nothing here
-- computes with floats.
use Rattle.std.specs.Prelude.{◌≡◌, ◌⊎◌, ℕ, zero, suc, Bool, true, false, ◌+◌, ◌-◌, ◌*◌, ◌/◌, ◌%◌, ◌^◌}
use Rattle.std.specs.Prelude.{◌<◌, ◌≤◌}
use Rattle.wm_syntax.specs.declared.instructions.FloatType.{FloatType}
use Rattle.wm_syntax.specs.Floats.{signif, expon}

-- The bits of infinity, without a sign.
abbrev pub infinity : FloatType → ℕ
infinity w = (2 ^ expon w - 1) * 2 ^ signif w

-- The least float above 0 is 2 ^ - least: 2 ^ -149 for an f32, and 2 ^ -1074 for an f64.
abbrev pub least : FloatType → ℕ
least w = 2 ^ (expon w - 1) + signif w - 2

-- The value of these bits without a sign, in units of the least float above 0. An exponent's field of 0 has
-- no leading digit, and counts as a field of 1. The bits of infinity have the value of the limit of
-- Core spec 4.3.3, which is the next one.
abbrev pub of_fields : FloatType → ℕ → ℕ → ℕ
of_fields w zero digits = digits
of_fields w (suc e) digits = (2 ^ signif w + digits) * 2 ^ e

abbrev pub units : FloatType → ℕ → ℕ
units w bits = of_fields w (bits / 2 ^ signif w) (bits % 2 ^ signif w)

-- The fraction num / den is at least the candidate `bits`, and below the next one (Core spec 4.3.3, candidate
-- pair).
pub record IsFrom (w : FloatType) (num den bits : ℕ) : Type 0 where
  pub from : units w bits * den ≤ num * 2 ^ least w
  pub below : num * 2 ^ least w < units w (bits + 1) * den

-- Twice the fraction, and the sum of both candidates, each times den * 2 ^ least.
abbrev pub doubled : FloatType → ℕ → ℕ
doubled w num = 2 * (num * 2 ^ least w)

abbrev pub both : FloatType → ℕ → ℕ → ℕ
both w den bits = (units w bits + units w (bits + 1)) * den

-- The candidate that is chosen: the nearer one, and at a tie the even one (Core spec 4.3.3).
abbrev pub Rounds : FloatType → ℕ → ℕ → ℕ → ℕ → Type 0
Rounds w num den under bits =
    ((doubled w num < both w den under) × (bits ≡ under))
    ⊎ ((doubled w num ≡ both w den under) × (bits ≡ under + under % 2))
    ⊎ ((both w den under < doubled w num) × (bits ≡ under + 1))

-- The bits are those of the candidate nearest to num / den.
abbrev pub Chosen : FloatType → ℕ → ℕ → ℕ → Type 0
Chosen w num den bits = (under : ℕ) × IsFrom w num den under × Rounds w num den under bits

-- The bits are those of the float nearest to num / den (Core spec 4.3.3), which is no infinity
-- (Core spec 6.3.2).
abbrev pub IsNearest : FloatType → ℕ → ℕ → ℕ → Type 0
IsNearest w num den bits = (bits < infinity w) × Chosen w num den bits

-- The fraction num / den is digits * 2 ^ up / 2 ^ down. With the flag `true` it has more digits after these:
-- it is above that value and below the one for digits + 1.
abbrev pub IsBinary : ℕ → ℕ → ℕ → Bool → ℕ → ℕ → Type 0
IsBinary num den digits false up down = num * 2 ^ down ≡ digits * 2 ^ up * den
IsBinary num den digits true up down =
    (digits * 2 ^ up * den < num * 2 ^ down) × (num * 2 ^ down < (digits + 1) * 2 ^ up * den)
