use Rattle.std.proofs.Common.{arith, refl}
use Rattle.wm_shortcuts.proofs.Completed.{first_refused, first_then}
use Rattle.wm_shortcuts.proofs.Completed.Gave.{also, nothing}
use Rattle.wm_shortcuts.proofs.HeadBytes.{head_begun, short_lies, sized}
use Rattle.wm_shortcuts.proofs.heads.HeadLink.take.Goals as goal

pub returns-in-Err : goal.returns-in-Err
returns-in-Err g c =
    let b = c.in-Some-begin_head in
    let lies = short_lies {bytes = c.args.bytes.now} b.ensures.size (omega (arith, b.ensures.within)) in
    first_refused c.in-Some.ensures (sized c.in-Some.start b.ensures.size (omega arith) (omega (arith, b.ensures.section)) (omega (arith, b.ensures.within))) lies.some nothing c.out.ensures.used c.give_body.result _ c.out.ensures.refused c.in-Err.is c.give_body.ensures.given c.give_body.ensures.room

pub returns : goal.returns
returns g c =
    let b = c.in-Some-begin_head in
    first_then c.in-Some.ensures (head_begun c.in-Some.start b.begun.at b.ensures.size b.ensures.within b.ensures.section b.ensures.count.0 b.ensures.count.1 b.ensures.at) (omega arith) refl (also nothing c.in_default-give_body.ensures.given)
    c.give_runs-given.ensures.advances c.after.ensures refl refl
