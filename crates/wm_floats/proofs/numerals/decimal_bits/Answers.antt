use Rattle.std.proofs.Common.{◌∙◌}
use Rattle.wm_floats.specs.inner.Parts.{parts_of}
use Rattle.wm_floats.proofs.Kit.{decimal_told}
use Rattle.wm_floats.proofs.numerals.decimal_bits.Goals as goal

pub returns : goal.returns
returns c =
    decimal_told c.args.width (parts_of c.args.number) c.deref.result.now c.nearest_decimal.result c.requires (c.deref.ensures.value ∙ c.in_ok-text.ensures)
    c.nearest_decimal.ensures
