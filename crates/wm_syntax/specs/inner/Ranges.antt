-- The numbers in an op are in their ranges.
use Rattle.wm_syntax.specs.Modules.{IsSimple, IsU32}
use Rattle.wm_syntax.specs.declared.instructions.Op.{Op}
use Rattle.wm_syntax.specs.declared.instructions.Op.TheVariants as op

abbrev pub IsInRange : Op → Type 0
IsInRange (op.Simple i) = IsSimple i
IsInRange (op.BrTable n) = IsU32 n
IsInRange (op.Label l) = IsU32 l
IsInRange _ = Unit {0}
