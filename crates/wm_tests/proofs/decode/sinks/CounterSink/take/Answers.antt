use Rattle.std.proofs.Common.{Ok, refl}
use Rattle.wm_machine.specs.Sinks.{items_for}
use Rattle.wm_tests.proofs.IdleSinks.{ok_room, taken_quietly}
use Rattle.wm_tests.proofs.decode.sinks.CounterSink.take.Goals as goal

pub returns-in-DataBytes-clause-took : goal.returns-in-DataBytes-clause-took
returns-in-DataBytes-clause-took c = taken_quietly (λ h x. Ok h) tt (λ x. refl) (items_for c.args.item) tt

pub returns-in-DataBytes-clause-room : goal.returns-in-DataBytes-clause-room
returns-in-DataBytes-clause-room c = ok_room {H = Unit {0}} (λ h x. ⊥) tt (items_for c.args.item) tt
