use Rattle.std.proofs.Common.{◌≡◌, length, arith, ap}
use Rattle.wm_machine.proofs.Room.{only_byte}
use Rattle.wm_decode.proofs.decoder.state.Decoder.bytes.Goals as goal

pub returns-in-Err-clause-room : goal.returns-in-Err-clause-room
returns-in-Err-clause-room g c = λ b one memory.
    let l : length c.args.piece.now ≡ 1 = ap length one in
    let first : c.loop-i.i ≡ 0 = omega arith in
    only_byte g.S.Sink.may_run_out c.loop-i.self.profile c.args.self.now.profile _ _ c.args.piece.now c.loop-i.i b c.loop-i.invariant.profile (c.loop-i.invariant.first first) first one
    (c.in-Err.ensures.room (omega arith) memory)

pub returns-clause-room : goal.returns-clause-room
returns-clause-room g c = λ b one low.
    let l : length c.args.piece.now ≡ 1 = ap length one in
    c.loop-i.invariant.one b one (omega arith) low
