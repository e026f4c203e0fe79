use Rattle.std.proofs.Common.{◌*◌, ◌-◌, ◌^◌, ◌<◌, arith, sym, ◌∙◌}
use Rattle.std.proofs.lemmas.Bool.{ltb-true}
use Rattle.wm_syntax.proofs.Room.{room_last, within_64}
use Rattle.wm_syntax.proofs.numbers.Leb128.advance_unsigned.Goals as goal

pub overflow_mul-result : goal.overflow_mul-result
overflow_mul-result c =
    let fits : c.from.result < 2 ^ (c.args.bits - 7 * c.self.inside.count) = rw c.from.ensures (ltb-true _ _ (sym c.fits.ensures ∙ c.if-fits.true)) in
    omega (arith, within_64 c.args.bits _ c.requires (room_last c.args.bits c.self.inside.low c.from.result c.self.inside.count c.weight.result c.weight.ensures (omega arith) c.self.invariant.1 fits))

pub overflow_add-result : goal.overflow_add-result
overflow_add-result c =
    let fits : c.from.result < 2 ^ (c.args.bits - 7 * c.self.inside.count) = rw c.from.ensures (ltb-true _ _ (sym c.fits.ensures ∙ c.if-fits.true)) in
    omega (arith, within_64 c.args.bits _ c.requires (room_last c.args.bits c.self.inside.low c.from.result c.self.inside.count c.weight.result c.weight.ensures (omega arith) c.self.invariant.1 fits))
