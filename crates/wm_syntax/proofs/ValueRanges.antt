-- If each value of a module is in its range, the whole module is.
use Rattle.std.proofs.Common.{ℕ, ◌<◌, List, [], ◌∷◌, ◌++◌, map}
use Rattle.std.specs.List.{AllByRecursion}
use Rattle.wm_syntax.specs.declared.instructions.Op.{Op}
use Rattle.wm_syntax.specs.declared.instructions.Op.TheVariants as op
use Rattle.wm_syntax.specs.Instructions.{Instruction, Instructions, none, snoc, simple, table, block, loop, choice, instruction_ops, ops_of, else_ops}
use Rattle.wm_syntax.specs.Modules.{IsU32, IsInstruction, AreInstructions}
use Rattle.wm_syntax.specs.Spelling.{AreBytes}
use Rattle.wm_syntax.specs.inner.Ranges.{IsInRange}
use Rattle.wm_syntax.proofs.ProfileLaws.{all_front, all_back}

pub all_bytes : (bs : List ℕ) → AllByRecursion (λ b. b < 256) bs → AreBytes bs
all_bytes [] h = tt
all_bytes (b ∷ bs) h = (h.0, all_bytes bs h.1)

abbrev AllIn : List Op → Type 0
AllIn = AllByRecursion IsInRange

labels_in : (ls : List ℕ) (d : ℕ) → AllIn (map op.Label ls ++ op.Label d ∷ []) → AllByRecursion IsU32 ls × IsU32 d
labels_in [] d h = (tt, h.0)
labels_in (l ∷ ls) d h = let k = labels_in ls d h.1 in ((h.0, k.0), k.1)

second_in : (s : Instructions) → AllIn (else_ops s (ops_of s)) → (AllIn (ops_of s) → AreInstructions s) → AreInstructions s
second_in none h rest = tt
second_in (snoc s i) h rest = rest h.1

mutual
  instruction_in : (i : Instruction) → AllIn (instruction_ops i) → IsInstruction i
  instruction_in (simple i) h = h.0
  instruction_in (table ls d) h = let k = labels_in ls d h.1 in (k.0, h.0, k.1)
  instruction_in (block t s) h = instructions_in s (all_front IsInRange (ops_of s) (op.End ∷ []) h.1)
  instruction_in (loop t s) h = instructions_in s (all_front IsInRange (ops_of s) (op.End ∷ []) h.1)
  instruction_in (choice t first second) h =
      let both = all_front IsInRange (ops_of first ++ else_ops second (ops_of second)) (op.End ∷ []) h.1 in (
        instructions_in first (all_front IsInRange (ops_of first) (else_ops second (ops_of second)) both),
        second_in second (all_back IsInRange (ops_of first) (else_ops second (ops_of second)) both) (λ k. instructions_in second k),
      )

  pub instructions_in : (s : Instructions) → AllIn (ops_of s) → AreInstructions s
  instructions_in none h = tt
  instructions_in (snoc s i) h =
      (instructions_in s (all_front IsInRange (ops_of s) (instruction_ops i) h), instruction_in i (all_back IsInRange (ops_of s) (instruction_ops i) h))
