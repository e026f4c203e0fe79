use Rattle.std.proofs.Common.{◌≡◌, min, arith, rules, subst, sym}
use Rattle.wm_shortcuts.specs.exact.WholeOps.{RanTo}
use Rattle.wm_shortcuts.proofs.Advances.{advances_by, advances_idle}
use Rattle.wm_shortcuts.proofs.WholeOps.{advances_ops, none_ran}
use Rattle.wm_shortcuts.proofs.code_entries.OpsLink.take.Goals as goal

pub returns-then-ran-eq0 : goal.returns-then-ran-eq0
returns-then-ran-eq0 g c =
    let held = g.S.Sink.held in
    let ran = c.take_ops-ran.result in
    advances_idle g.S.Sink.after g.S.Sink.may_run_out c.args.profile c.args.bytes.now c.args.machine.now (held c.args.sink.now) (held c.take_ops-ran.new.sink) c.none-then-ran-eq0.result c.none-then-ran-eq0.ensures.used c.none-then-ran-eq0.ensures.refused
    (sym (none_ran g.S.Sink.after c.args.profile c.args.bytes.now c.min-room.result c.in-Some.body.depth ran.used ran.depth ran.refused (held c.args.sink.now) (held c.take_ops-ran.new.sink) c.take_ops-ran.ensures.ran (omega arith)))

pub returns : goal.returns
returns g c =
    let held = g.S.Sink.held in
    let ran = c.take_ops-ran.result in
    let least : c.min-room.result ≡ min c.in-Some.body.more c.in-Some.body.rest = search rules in
    advances_by g.S.Sink.after g.S.Sink.may_run_out c.args.profile _ _ _ _ _ _ _ _ c.in-Some.ensures c.after.ensures
    (advances_ops g.S.Sink.after c.args.profile c.args.bytes.now c.in-Some.body (held c.args.sink.now) g.S.Sink.may_run_out (held c.take_ops-ran.new.sink) _ ran.depth
    (subst (λ n. RanTo g.S.Sink.after c.args.profile (held c.args.sink.now) c.args.bytes.now n c.in-Some.body.depth ran.used ran.depth ran.refused (held c.take_ops-ran.new.sink)) least c.take_ops-ran.ensures.ran)
    c.take_ops-ran.ensures.inside (omega arith) c.take_ops-ran.ensures.one)
