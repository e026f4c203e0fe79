use Rattle.std.proofs.Common.{◌+◌, ◌*◌, ◌^◌, ◌<◌, arith}
use Rattle.wm_syntax.proofs.Room.{room_more, within_64}
use Rattle.wm_syntax.proofs.numbers.Leb128.more.Goals as goal

pub overflow_mul-low : goal.overflow_mul-low
overflow_mul-low g c =
    let h : c.self.inside.low + c.from.result * c.weight.result < 2 ^ (7 * (c.self.inside.count + 1)) =
    room_more c.self.inside.low c.from.result c.self.inside.count c.weight.result c.weight.ensures c.self.invariant.1 (omega arith) in
    omega (arith, within_64 (7 * (c.self.inside.count + 1)) _ (omega arith) h)

pub overflow_add-low : goal.overflow_add-low
overflow_add-low g c =
    let h : c.self.inside.low + c.from.result * c.weight.result < 2 ^ (7 * (c.self.inside.count + 1)) =
    room_more c.self.inside.low c.from.result c.self.inside.count c.weight.result c.weight.ensures c.self.invariant.1 (omega arith) in
    omega (arith, within_64 (7 * (c.self.inside.count + 1)) _ (omega arith) h)

pub invariant_of-result : goal.invariant_of-result
invariant_of-result g c =
    (omega arith, room_more c.self.inside.low c.from.result c.self.inside.count c.weight.result c.weight.ensures c.self.invariant.1 (omega arith))
