use Rattle.wm_rules.specs.inner.Builders.{built}
use Rattle.wm_machine.specs.Sinks.{items_for}
use Rattle.wm_rules.proofs.BuiltData.{bytes_room, bytes_took}
use Rattle.wm_rules.proofs.builder.Builder.take_other.Goals as goal

pub returns-in-DataBytes-clause-took : goal.returns-in-DataBytes-clause-took
returns-in-DataBytes-clause-took c = rw c.in-DataBytes.is (bytes_took c.in-DataBytes.bytes.now (built c.args.self.now) c.add_bytes.new.segments.items c.add_bytes.result c.add_bytes.ensures)

pub returns-in-DataBytes-clause-room : goal.returns-in-DataBytes-clause-room
returns-in-DataBytes-clause-room c = bytes_room (items_for c.args.item) (built c.args.self.now) c.add_bytes.result
