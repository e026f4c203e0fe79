use Rattle.std.proofs.Common.{get_or, sym, ◌∙◌}
use Rattle.wm_machine.proofs.Header.{memory_late, goes_at}
use Rattle.wm_decode.proofs.decoder.state.Decoder.byte.Goals as goal

pub returns-in-Some-clause-memory : goal.returns-in-Some-clause-memory
returns-in-Some-clause-memory g c = λ at. memory_late c.args.self.now.profile c.args.self.now.machine (get_or c.args.piece.now c.args.i 0) c.args.self.now.at (c.step-event.new.machine, c.step-event.result) c.in-Some.why c.step-event.ensures at (sym c.refusal_of.ensures ∙ c.in-Some.is)

pub returns-in-None-clause-memory : goal.returns-in-None-clause-memory
returns-in-None-clause-memory g c =
    goes_at c.args.self.now.profile c.args.self.now.machine (get_or c.args.piece.now c.args.i 0) c.args.self.now.at c.in-Ok.from c.args.i (c.step-event.new.machine, c.step-event.result) c.deliver.result c.step-event.ensures c.deliver.ensures.quiet c.in-Ok.is
