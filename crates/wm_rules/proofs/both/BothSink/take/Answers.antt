use Rattle.wm_machine.specs.Sinks.{items_for}
use Rattle.wm_rules.proofs.BothSinks.{first_refused, first_ran_out, second_took, second_ran_out}
use Rattle.wm_rules.proofs.both.BothSink.take.Goals as goal

pub returns-in-Ok-clause-took : goal.returns-in-Ok-clause-took
returns-in-Ok-clause-took g c =
    second_took g.A.Sink.after g.B.Sink.after _ _ _ _ (items_for c.args.item) c.take-in-Ok.result c.in-Ok.ensures.took c.take-in-Ok.ensures.took

pub returns-in-Ok-clause-room : goal.returns-in-Ok-clause-room
returns-in-Ok-clause-room g c =
    second_ran_out g.A.Sink.after g.A.Sink.may_run_out g.B.Sink.may_run_out _ _ _ (items_for c.args.item) c.take-in-Ok.result c.in-Ok.ensures.took c.take-in-Ok.ensures.room

pub returns-in-Err-clause-took : goal.returns-in-Err-clause-took
returns-in-Err-clause-took g c = first_refused g.A.Sink.after g.B.Sink.after _ _ _ _ (items_for c.args.item) c.in-Err.why c.in-Err.ensures.took

pub returns-in-Err-clause-room : goal.returns-in-Err-clause-room
returns-in-Err-clause-room g c = first_ran_out g.A.Sink.after g.A.Sink.may_run_out g.B.Sink.may_run_out _ _ (items_for c.args.item) c.in-Err.why c.in-Err.ensures.room
