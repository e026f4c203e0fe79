use Rattle.std.proofs.Common.{Ok, refl}
use Rattle.wm_machine.specs.Sinks.{items_for}
use Rattle.wm_tests.proofs.IdleSinks.{any_room, quiet_or_memory}
use Rattle.wm_tests.proofs.decode.sinks.RecorderSink.take.Goals as goal

pub returns-clause-took : goal.returns-clause-took
returns-clause-took c = quiet_or_memory (λ h x. Ok h) tt (λ x. refl) (items_for c.args.item) c.write_item.result c.write_item.ensures

pub returns-clause-room : goal.returns-clause-room
returns-clause-room c = any_room {H = Unit {0}} tt (items_for c.args.item) c.write_item.result
