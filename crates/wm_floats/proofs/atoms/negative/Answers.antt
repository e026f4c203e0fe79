use Rattle.std.proofs.Common.{arith, sym, ◌∙◌}
use Rattle.wm_floats.proofs.Ranges.{signed_fits}
use Rattle.wm_floats.proofs.atoms.negative.Goals as goal

pub overflow_add-result : goal.overflow_add-result
overflow_add-result c =
    omega (arith, signed_fits c.args.width c.args.text.now c.in-Some.bits c.sign_bit.result (sym c.in-Some.is ∙ c.in_ok-bits.ensures) c.sign_bit.ensures)
