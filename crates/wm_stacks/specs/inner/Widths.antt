-- The widths of the floats among the operands: one bit each, at the operand's index.
use Rattle.std.specs.Prelude.{ℕ, ◌/◌, ◌%◌, ◌≡◌, ◌≢◌, Bool, List, ◌∷◌, nat_eq, slice_index}
use Rattle.std.specs.Int.{bit_at}
use Rattle.wm_stacks.specs.declared.widths.Widths.{Widths}

-- Bit i % 64 of word i / 64. A word that was not made has no bit set.
abbrev pub wide_in : List ℕ → ℕ → Bool
wide_in words i = nat_eq (bit_at (slice_index words (i / 64)) (i % 64)) 1

abbrev pub words_of : Widths → List ℕ
words_of w = w.first ∷ w.rest.items

-- Whether the operand with this index is an f64, if it is a float. The lowest operand has index 0.
abbrev pub is_wide : Widths → ℕ → Bool
is_wide w i = wide_in (words_of w) i

-- From v to w the bit of one operand was written, and all other bits stayed.
pub record Written (at : ℕ) (wide : Bool) (v w : Widths) : Type 0 where
  pub there : is_wide w at ≡ wide
  pub others : (i : ℕ) → i ≢ at → is_wide w i ≡ is_wide v i
