-- The widths of the two fields of a float's bits, below the sign (Core spec 2.2.3).
use Rattle.std.specs.Prelude.{ℕ}
use Rattle.wm_syntax.specs.declared.instructions.FloatType.{FloatType}
use Rattle.wm_syntax.specs.declared.instructions.FloatType.TheVariants.{F32, F64}

-- signif: the number of bits of the significand's field, which is the lowest
abbrev pub signif : FloatType → ℕ
signif F32 = 23
signif F64 = 52

-- expon: the number of bits of the exponent's field
abbrev pub expon : FloatType → ℕ
expon F32 = 8
expon F64 = 11
