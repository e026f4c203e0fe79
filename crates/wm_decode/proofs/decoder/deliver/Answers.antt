use Rattle.std.proofs.Common.{◌≡◌, ◌<◌, ◌+◌, ◌++◌, ℕ, Result, Err, MatchResult, rules, slice_range, slice_index, subst, sym}
use Rattle.wm_syntax.specs.declared.why.Why.{Why}
use Rattle.wm_syntax.specs.declared.why.Why.TheVariants.{Memory}
use Rattle.wm_machine.specs.declared.machine.Event.{Event}
use Rattle.wm_machine.specs.exact.Live.{MayRunOutAtEvent}
use Rattle.wm_machine.proofs.Room.{name_ends}
use Rattle.wm_decode.proofs.decoder.deliver.Goals as goal

pub returns-in_err-end_name-in-EndsName-clause-room : goal.returns-in_err-end_name-in-EndsName-clause-room
returns-in_err-end_name-in-EndsName-clause-room g c =
    let a = c.args in
    let w = c.in_err-end_name-in-EndsName.field-0.0 in
    let may : Event → Type 0 = λ x. MayRunOutAtEvent g.S.Sink.may_run_out x (a.name.now.items ++ slice_range a.piece.now a.from a.i) (slice_index a.piece.now a.i) (g.S.Sink.held a.sink.now) in
    let fact : w ≡ Memory → may a.event = λ e.
    subst may (sym c.in-EndsName.is)
    (name_ends g.S.Sink.may_run_out c.in-EndsName.kind a.name.now.items a.piece.now a.from a.i (g.S.Sink.held a.sink.now) c.requires.order c.requires.within (c.in_err-end_name-in-EndsName.ensures.room e)) in
    let is : c.from_residual-in_err-end_name-in-EndsName.result ≡ Err w = search rules in
    subst (λ (r : Result ℕ Why). MatchResult r (λ next. next < a.i + 1 → may a.event) (λ v. v ≡ Memory → may a.event)) (sym is) fact
