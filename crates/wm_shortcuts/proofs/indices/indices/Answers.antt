use Rattle.std.proofs.Common.{arith}
use Rattle.wm_shortcuts.proofs.Advances.{advances_by}
use Rattle.wm_shortcuts.proofs.IndexBytes.{advances_indices, in_front}
use Rattle.wm_shortcuts.proofs.indices.indices.Goals as goal

pub returns : goal.returns
returns g c =
    let i = c.in-Some.before in
    let count = c.short_front-count in
    let front = in_front c.args.bytes.now i count.result c.min_len-most.result c.in-Some.ensures.of count.ensures.value count.ensures.within (omega (arith, c.most.ensures)) in
    advances_by g.S.Sink.after g.S.Sink.may_run_out c.args.profile _ _ _ _ _ _ _ _ c.in-Some.ensures.machine c.after.ensures
    (advances_indices g.S.Sink.after c.args.profile c.args.bytes.now i count.result front (g.S.Sink.held c.args.sink.now) g.S.Sink.may_run_out (g.S.Sink.held c.give_indices-given.new.sink) c.give_indices-given.result (omega arith) c.give_indices-given.ensures.given)
