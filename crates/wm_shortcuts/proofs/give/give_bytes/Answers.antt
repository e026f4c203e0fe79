use Rattle.wm_machine.proofs.TakenItems.{slice_taken}
use Rattle.wm_shortcuts.proofs.give.give_bytes.Goals as goal

pub returns-clause-given : goal.returns-clause-given
returns-clause-given g c =
    slice_taken g.S.Sink.after g.met.S.Sink.takes_data (g.S.Sink.held c.args.sink.now) (g.S.Sink.held c.take.new.self) c.args.bytes.now c.take.result c.take.ensures.took
