-- The nesting depth of instructions.
use Rattle.std.specs.Prelude.{ℕ, ◌+◌, max}
use Rattle.wm_syntax.specs.Instructions.{Instruction, Instructions, none, snoc, simple, table, block, loop}
use Rattle.wm_syntax.specs.Instructions.{choice}

-- The deepest nesting of block, loop and if; 0 if there is none.
abbrev mutual
  pub depth : Instruction → ℕ
  depth (simple i) = 0
  depth (table labels default) = 0
  depth (block t body) = nesting body + 1
  depth (loop t body) = nesting body + 1
  depth (choice t first second) = max (nesting first) (nesting second) + 1

  pub nesting : Instructions → ℕ
  nesting none = 0
  nesting (snoc s i) = max (nesting s) (depth i)
