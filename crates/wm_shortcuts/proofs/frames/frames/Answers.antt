use Rattle.std.proofs.Common.{◌≤◌, arith, refl}
use Rattle.wm_shortcuts.proofs.FrameBytes.{frames_advance, past_header}
use Rattle.wm_shortcuts.proofs.frames.frames.Goals as goal

pub returns-in_default : goal.returns-in_default
returns-in_default g c =
    let s = c.sections-used in
    frames_advance g.S.Sink.after c.args.profile g.S.Sink.may_run_out c.args.bytes.now c.args.machine.now s.new.machine (g.S.Sink.held c.args.sink.now) _ s.ensures refl
    (λ k far some. let late : 8 ≤ k = past_header c.args.machine.now c.in_default.not-Header c.in_default.not-Refused k far in omega arith)
