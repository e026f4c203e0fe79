use Rattle.std.proofs.Common.{arith}
use Rattle.wm_decode.proofs.DecoderCalls.{are_bytes, fed_after, on_taken, on_so_far, on_refused, on_same, on_place, on_header, on_float, on_refusal, stands_refused}
use Rattle.wm_decode.specs.exact.Standing.{state_of}
use Rattle.wm_decode.proofs.NoMemory.{take_room}
use Rattle.wm_decode.proofs.decoder.state.Decoder.feed.Goals as goal

pub returns-clause-after : goal.returns-clause-after
returns-clause-after g c = λ s b a. fed_after g.S.Sink.held g.S.Sink.after s c.args.self.now c.take_piece.new.self c.args.piece.now b c.take_piece.result (are_bytes c.args.piece.now (λ i. omega (arith, c.type_inv.piece i))) c.take_piece.ensures.limit c.take_piece.ensures.profile c.take_piece.ensures.fed c.take_piece.ensures.sticky c.take_piece.ensures.place c.take_piece.ensures.memory a

pub returns-clause-taken : goal.returns-clause-taken
returns-clause-taken g c = on_taken g.S.Sink.held g.S.Sink.after c.args.self.now c.take_piece.new.self c.args.piece.now c.take_piece.result _ c.take_piece.ensures.fed (returns-clause-after g c)

pub returns-clause-so_far : goal.returns-clause-so_far
returns-clause-so_far g c = on_so_far g.S.Sink.held g.S.Sink.after c.args.self.now c.take_piece.new.self c.args.piece.now c.take_piece.result _ c.take_piece.ensures.fed (returns-clause-after g c)

pub returns-clause-refused : goal.returns-clause-refused
returns-clause-refused g c = on_refused g.S.Sink.held g.S.Sink.after c.args.self.now c.take_piece.new.self c.args.piece.now c.take_piece.result _ c.take_piece.ensures.fed (returns-clause-after g c)

pub returns-clause-same : goal.returns-clause-same
returns-clause-same g c = on_same g.S.Sink.held g.S.Sink.after c.args.self.now c.take_piece.new.self c.args.piece.now c.take_piece.result _ c.take_piece.ensures.fed (returns-clause-after g c)

pub returns-clause-place : goal.returns-clause-place
returns-clause-place g c = on_place g.S.Sink.held g.S.Sink.after c.args.self.now c.take_piece.new.self c.args.piece.now c.take_piece.result _ c.take_piece.ensures.fed (returns-clause-after g c)

pub returns-clause-header : goal.returns-clause-header
returns-clause-header g c = on_header g.S.Sink.held g.S.Sink.after c.args.self.now c.take_piece.new.self c.args.piece.now c.take_piece.result _ c.take_piece.ensures.fed (returns-clause-after g c)

pub returns-clause-float : goal.returns-clause-float
returns-clause-float g c = on_float g.S.Sink.held g.S.Sink.after c.args.self.now c.take_piece.new.self c.args.piece.now c.take_piece.result _ c.take_piece.ensures.fed (returns-clause-after g c)

pub returns-clause-sticky : goal.returns-clause-sticky
returns-clause-sticky g c = λ r e. c.take_piece.ensures.sticky r (stands_refused (state_of g.S.Sink.held c.args.self.now) r e)

pub returns-clause-refusal : goal.returns-clause-refusal
returns-clause-refusal g c = on_refusal g.S.Sink.held g.S.Sink.after c.args.self.now c.take_piece.new.self c.args.piece.now c.take_piece.result _ c.take_piece.ensures.fed

pub returns-clause-room : goal.returns-clause-room
returns-clause-room g c = λ live b one.
    take_room g.S.Sink.may_run_out c.args.self.now.profile g.S.Sink.held c.args.self.now b live c.take_piece.result (c.take_piece.ensures.room b one)
