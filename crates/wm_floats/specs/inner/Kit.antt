-- The two widths as formats of the kit.
use lib.Ieee.{Format, binary32, binary64}
use Rattle.wm_syntax.specs.declared.instructions.FloatType.{FloatType}
use Rattle.wm_syntax.specs.declared.instructions.FloatType.TheVariants.{F32, F64}

abbrev pub format_of : FloatType → Format
format_of F32 = binary32
format_of F64 = binary64
