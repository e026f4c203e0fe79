-- Alignments that can be printed as a number of bytes: at most eight, as in every valid module (Core spec 3.3.4).
use Rattle.std.specs.Prelude.{Bool, nat_le, true}
use Rattle.std.specs.List.{list_all}
use Rattle.wm_syntax.specs.declared.instructions.Op.{Op}
use Rattle.wm_syntax.specs.declared.instructions.Op.TheVariants as op
use Rattle.wm_syntax.specs.declared.instructions.Simple.{Simple}
use Rattle.wm_syntax.specs.declared.instructions.Simple.TheVariants.{Load, Store}
use Rattle.wm_syntax.specs.Instructions.{ops_of}
use Rattle.wm_syntax.specs.Modules.{Function}

abbrev pub is_simple_printable : Simple → Bool
is_simple_printable (Load o at) = nat_le at.align 3
is_simple_printable (Store o at) = nat_le at.align 3
is_simple_printable _ = true

abbrev pub is_printable : Op → Bool
is_printable (op.Simple i) = is_simple_printable i
is_printable _ = true

abbrev pub is_function_printable : Function → Bool
is_function_printable f = list_all is_printable (ops_of f.body)
