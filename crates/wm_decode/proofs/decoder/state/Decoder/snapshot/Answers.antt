use Rattle.wm_decode.proofs.Places.{is_after}
use Rattle.wm_decode.proofs.decoder.state.Decoder.snapshot.Goals as goal

pub returns : goal.returns
returns g c = λ none s bytes a. is_after g.S.Sink.held g.S.Sink.after s c.args.self.now bytes none a
