-- An encoding under a profile is one under each profile that extends it.
use Rattle.std.proofs.Common.{ℕ, IsTrue, List, inl, inr}
use Rattle.wm_syntax.specs.Spelling.{Form, Byte, ◌▸◌}
use Rattle.wm_syntax.specs.Opcodes.{opcode}
use Rattle.wm_syntax.specs.Types.{SpellsU32}
use Rattle.wm_syntax.specs.Profiles.{has}
use Rattle.wm_syntax.specs.Instructions.{Instruction, Instructions, none, snoc, simple, table, block, loop, choice}
use Rattle.wm_syntax.specs.Encodings.{SpellsOpcode, SpellsElse, SpellsExpression, SpellsImmediates, SpellsInstruction, SpellsInstructions, SpellsOp, SpellsSimple, SpellsTable}
use Rattle.wm_syntax.specs.declared.profile.Profile.{Profile}
use Rattle.wm_syntax.specs.declared.profile.Feature.TheVariants.{LongIndex}
use Rattle.wm_syntax.specs.declared.instructions.Simple.{Simple}
use Rattle.wm_syntax.specs.declared.instructions.Simple.TheVariants as s
use Rattle.wm_syntax.specs.declared.instructions.Op.{Op}
use Rattle.wm_syntax.specs.declared.instructions.Op.TheVariants as op

abbrev Within : Form ℕ → Form ℕ → Type 0
Within P Q = (b : List ℕ) → P b → Q b

then_within : (P Q Q' : Form ℕ) → Within Q Q' → Within (P ▸ Q) (P ▸ Q')
then_within P Q Q' w b (x, y, e, h, k) = (x, y, e, h, w y k)

module _ (p q : Profile) (more : IsTrue (has p LongIndex) → IsTrue (has q LongIndex)) where
  pub table_spelled_more : (b : List ℕ) → SpellsTable p b → SpellsTable q b
  table_spelled_more b (inl e) = inl e
  table_spelled_more b (inr h) = inr (more h.0, h.1)

  immediates_spelled_more : (i : Simple) (b : List ℕ) → SpellsImmediates p i b → SpellsImmediates q i b
  immediates_spelled_more (s.CallIndirect x) b h = then_within (SpellsU32 x) (SpellsTable p) (SpellsTable q) table_spelled_more b h
  immediates_spelled_more _ b h = h

  simple_spelled_more : (i : Simple) (b : List ℕ) → SpellsSimple p i b → SpellsSimple q i b
  simple_spelled_more i b h = then_within (SpellsOpcode (opcode i).0) (SpellsImmediates p i) (SpellsImmediates q i) (immediates_spelled_more i) b h

  pub op_spelled_more : (o : Op) (b : List ℕ) → SpellsOp p o b → SpellsOp q o b
  op_spelled_more (op.Simple i) b h = simple_spelled_more i b h
  op_spelled_more _ b h = h

  else_spelled_more : (second : Instructions) (b : List ℕ) → Within (SpellsInstructions p second) (SpellsInstructions q second) → SpellsElse second (SpellsInstructions p second) b → SpellsElse second (SpellsInstructions q second) b
  else_spelled_more none b w (inl h) = inl (then_within (Byte 0x05) (SpellsInstructions p none) (SpellsInstructions q none) w b h)
  else_spelled_more none b w (inr h) = inr h
  else_spelled_more (snoc s i) b w h = then_within (Byte 0x05) (SpellsInstructions p (snoc s i)) (SpellsInstructions q (snoc s i)) w b h

  mutual
    pub instruction_spelled_more : (i : Instruction) (b : List ℕ) → SpellsInstruction p i b → SpellsInstruction q i b
    instruction_spelled_more (simple i) b h = simple_spelled_more i b h
    instruction_spelled_more (table ls d) b h = h
    instruction_spelled_more (block t body) b (x, y, e, h, (u, v, f, k, (w, z, g, l, m))) = (x, y, e, h, (u, v, f, k, (w, z, g, instructions_spelled_more body w l, m)))
    instruction_spelled_more (loop t body) b (x, y, e, h, (u, v, f, k, (w, z, g, l, m))) = (x, y, e, h, (u, v, f, k, (w, z, g, instructions_spelled_more body w l, m)))
    instruction_spelled_more (choice t first second) b (x, y, e, h, (u, v, f, k, (w, z, g, l, (a, c, n, r, m)))) =
        (x, y, e, h, (u, v, f, k, (w, z, g, instructions_spelled_more first w l, (a, c, n, else_spelled_more second a (λ d i. instructions_spelled_more second d i) r, m))))

    pub instructions_spelled_more : (s : Instructions) (b : List ℕ) → SpellsInstructions p s b → SpellsInstructions q s b
    instructions_spelled_more none b h = h
    instructions_spelled_more (snoc s i) b (x, y, e, h, k) = (x, y, e, instructions_spelled_more s x h, instruction_spelled_more i y k)

  pub expression_spelled_more : (s : Instructions) (b : List ℕ) → SpellsExpression p s b → SpellsExpression q s b
  expression_spelled_more s b (x, y, e, h, k) = (x, y, e, instructions_spelled_more s x h, k)
