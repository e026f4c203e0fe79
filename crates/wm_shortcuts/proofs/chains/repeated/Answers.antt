use Rattle.std.proofs.Common.{List, ℕ, None, arith, refl, subst}
use Rattle.std.proofs.lemmas.List.{take_rest}
use Rattle.wm_shortcuts.specs.exact.Shortcuts.{Advances}
use Rattle.wm_shortcuts.proofs.Advances.{advances_none, advances_on}
use Rattle.wm_shortcuts.proofs.chains.repeated.Goals as goal

pub loop-used-init : goal.loop-used-init
loop-used-init g c = record {
  within = omega arith;
  advanced = advances_none g.S.Sink.after g.S.Sink.may_run_out c.args.profile c.args.bytes.now c.args.machine.now (g.S.Sink.held c.args.sink.now) (record { used = 0; refused = None }) refl refl;
}

pub returns-then-taken-eq0 : goal.returns-then-taken-eq0
returns-then-taken-eq0 g c =
    let held = g.S.Sink.held in
    let l = c.loop-used in
    let taken = c.take-taken.result in
    let bytes : List ℕ = c.args.bytes.now in
    advances_on g.S.Sink.after g.S.Sink.may_run_out c.args.profile bytes c.args.machine.now l.machine c.take-taken.new.machine (held c.args.sink.now) (held l.sink) (held c.take-taken.new.sink) (record { used = l.used; refused = None }) taken _
    l.invariant.advanced refl
    (subst (λ (y : List ℕ). Advances g.S.Sink.after g.S.Sink.may_run_out c.args.profile y l.machine (held l.sink) taken c.take-taken.new.machine (held c.take-taken.new.sink)) (take_rest bytes l.used) c.take-taken.ensures)
    refl refl
