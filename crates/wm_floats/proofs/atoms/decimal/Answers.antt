use Rattle.wm_floats.specs.inner.Parts.{parts_of}
use Rattle.wm_floats.proofs.NumeralParts.{decimal_digits}
use Rattle.wm_floats.proofs.atoms.decimal.Goals as goal

pub decimal_bits-requires : goal.decimal_bits-requires
decimal_bits-requires c = decimal_digits c.args.text.now (parts_of c.in-Some.number) c.in-Some.ensures
