use Rattle.std.proofs.Common.{◌-◌, ◌==◌, ◌∙◌, arith, sym}
use Rattle.wm_command.proofs.PositionLemmas.{span_passed}
use Rattle.wm_command.proofs.position.behind_feeds.Goals as goal

pub loop-from-preserved : goal.loop-from-preserved
loop-from-preserved c =
    let from = c.loop-from.from in
    let (within, none) = c.loop-from.invariant in (
      omega (arith, within),
      span_passed (λ y. y == 10) c.args.before.now (from - 128) from (omega arith) (sym c.count_in.ensures.count ∙ c.if-count_in-eq0.true) none,
    )
