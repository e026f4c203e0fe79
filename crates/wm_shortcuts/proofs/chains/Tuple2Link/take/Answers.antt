use Rattle.std.proofs.Common.{List, ℕ, refl, rules, subst}
use Rattle.std.proofs.lemmas.List.{take_rest}
use Rattle.wm_shortcuts.specs.exact.Shortcuts.{Advances}
use Rattle.wm_shortcuts.proofs.Advances.{advances_on}
use Rattle.wm_shortcuts.proofs.chains.Tuple2Link.take.Goals as goal

pub returns : goal.returns
returns g c =
    let held = g.S.Sink.held in
    let one = c.take-front.result in
    let two = c.take-back.result in
    let bytes : List ℕ = c.args.bytes.now in
    advances_on g.S.Sink.after g.S.Sink.may_run_out c.args.profile bytes c.args.machine.now c.take-front.new.machine c.take-back.new.machine (held c.args.sink.now) (held c.take-front.new.sink) (held c.take-back.new.sink) one two _
    c.take-front.ensures (search rules)
    (subst (λ (y : List ℕ). Advances g.S.Sink.after g.S.Sink.may_run_out c.args.profile y c.take-front.new.machine (held c.take-front.new.sink) two c.take-back.new.machine (held c.take-back.new.sink)) (take_rest bytes one.used) c.take-back.ensures)
    refl refl
