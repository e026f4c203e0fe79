-- When a call on the stacks may run out of memory, and how much the stacks weigh.
use Rattle.std.specs.Prelude.{ℕ, ◌+◌, ◌≡◌, ◌≤◌, ◌⊎◌, Result, Ok, Err, length}
use Rattle.wm_syntax.specs.declared.why.Why.{Why}
use Rattle.wm_syntax.specs.declared.why.Why.TheVariants.{Memory}
use Rattle.wm_stacks.specs.Stack.{Stack, height_sum}

-- A call on these stacks fails with `Memory` only if there are at least 64 operands or 32 frames.
abbrev pub Room : {A : Type 0} → Stack → Result A Why → Type 0
Room s (Ok a) = Unit {0}
Room s (Err why) = why ≡ Memory → (64 ≤ length s.operands) ⊎ (32 ≤ length s.frames)

-- The number of moves plus the number of operands and frames.
abbrev pub stack_weight : Stack → ℕ
stack_weight s = s.moves + height_sum s
