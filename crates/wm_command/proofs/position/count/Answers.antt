use Rattle.std.proofs.Common.{ap, arith, filter, length}
use Rattle.wm_command.proofs.PositionLemmas.{count_parts}
use Rattle.wm_command.proofs.position.count.Goals as goal

pub loop-rest-preserved : goal.loop-rest-preserved
loop-rest-preserved g c =
    let test = g.K.Kind.holds in
    let parts = count_parts test 128 c.loop-rest.rest.now in
    let front = ap (λ z. length (filter test z)) c.split_at.ensures.front in
    let back = ap (λ z. length (filter test z)) c.split_at.ensures.back in
    let (sum, within) = c.loop-rest.invariant in (
      omega (arith, parts, front, back, sum, c.count_in.ensures.count, c.from-sum.ensures),
      omega (arith, within, c.split_at.ensures.front_len, c.split_at.ensures.back_len, c.count_in.ensures.few, c.from-sum.ensures),
    )
