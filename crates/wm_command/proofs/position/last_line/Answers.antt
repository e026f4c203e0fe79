use Rattle.std.proofs.Common.{◌-◌, arith}
use Rattle.wm_command.proofs.PositionLemmas.{line_begins, only_line, rest_line}
use Rattle.wm_command.proofs.position.last_line.Goals as goal
use Rattle.wm_command.proofs.position.last_line.Goals.{then-loop-from-test+else-before-from-ne10, else-loop-from-test}

pub returns : goal.returns
returns c =
    let bytes = c.args.before.now in
    let from = c.loop-from.from in
    let (within, none) = c.loop-from.invariant in
    rest_line bytes from (elim c.loop-from-test.branch [
      | then-loop-from-test+else-before-from-ne10 w ↦ line_begins bytes from (from - 1) (omega (arith, w.loop-from-test.true)) within w.if-before-from-ne10.false none
      | else-loop-from-test w ↦ only_line bytes from w.loop-from-test.false none
    ])
