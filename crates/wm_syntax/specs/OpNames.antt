-- The names of instructions in the text format (Core spec 6.5).
use Rattle.std.specs.Prelude.{ℕ, List, Option}
use Rattle.std.specs.Option.{option_map}
use Rattle.wm_syntax.specs.declared.instructions.Op.{Op}
use Rattle.wm_syntax.specs.Opcodes.{op_code}

-- The name of an instruction, an else or an end. A label has none.
abbrev pub op_name : Op → Option (List ℕ)
op_name o = option_map (λ row. row.1) (op_code o)
