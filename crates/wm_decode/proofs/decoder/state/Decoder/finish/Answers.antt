use Rattle.wm_decode.proofs.DecoderCalls.{finish_ok, finish_refused, finish_same, finish_within, finish_header, finish_float}
use Rattle.wm_decode.proofs.decoder.state.Decoder.finish.Goals as goal

pub returns-clause-ok : goal.returns-clause-ok
returns-clause-ok g c = finish_ok g.S.Sink.held g.S.Sink.after c.args.self c.end.result c.end.ensures.ended

pub returns-clause-refused : goal.returns-clause-refused
returns-clause-refused g c = finish_refused g.S.Sink.held g.S.Sink.after c.args.self c.end.result c.end.ensures.ended

pub returns-clause-same : goal.returns-clause-same
returns-clause-same g c = finish_same g.S.Sink.held g.S.Sink.after c.args.self c.end.result c.end.ensures.ended

pub returns-clause-place : goal.returns-clause-place
returns-clause-place g c = finish_within g.S.Sink.held g.S.Sink.after c.args.self c.end.result c.end.ensures.ended

pub returns-clause-header : goal.returns-clause-header
returns-clause-header g c = finish_header g.S.Sink.held g.S.Sink.after c.args.self c.end.result c.end.ensures.ended

pub returns-clause-float : goal.returns-clause-float
returns-clause-float g c = finish_float g.S.Sink.held g.S.Sink.after c.args.self c.end.result c.end.ensures.ended
