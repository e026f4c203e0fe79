use Rattle.wm_machine.proofs.Room.{kept_byte}
use Rattle.wm_decode.proofs.decoder.state.Decoder.take_cut.Goals as goal

pub returns-in-Ok-clause-room : goal.returns-in-Ok-clause-room
returns-in-Ok-clause-room g c = λ b one. kept_byte _ _ _ _ c.keep.result c.args.piece.now c.in-Ok.from _ b one (c.in-Ok.ensures.room b one) c.keep.ensures.kept
