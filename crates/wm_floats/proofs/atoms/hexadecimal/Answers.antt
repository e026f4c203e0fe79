use Rattle.wm_floats.specs.inner.Parts.{parts_of}
use Rattle.wm_floats.proofs.NumeralParts.{hexadecimal_digits}
use Rattle.wm_floats.proofs.atoms.hexadecimal.Goals as goal

pub hexadecimal_bits-requires-clause-digits : goal.hexadecimal_bits-requires-clause-digits
hexadecimal_bits-requires-clause-digits c = hexadecimal_digits c.args.digits.now (parts_of c.in-Some.number) c.in-Some.ensures
