use Rattle.std.proofs.Common.{◌+◌, length, slice_range, refl, subst, sym, arith}
use Rattle.wm_machine.specs.declared.machine.Machine.TheVariants as machine
use Rattle.wm_machine.specs.exact.Steps.{no_counts}
use Rattle.wm_shortcuts.specs.exact.Frames.{LeadsTo}
use Rattle.wm_shortcuts.proofs.FrameBytes.{frames_advance, frames_join, header_leads}
use Rattle.wm_shortcuts.proofs.frames.from_header.Goals as goal

pub returns : goal.returns
returns g c =
    let b = c.args.bytes.now in
    let s = c.sections-used in
    frames_advance g.S.Sink.after c.args.profile g.S.Sink.may_run_out b c.args.machine.now s.new.machine (g.S.Sink.held c.args.sink.now) _
    (subst (λ m. LeadsTo c.args.profile b m (8 + s.result) s.new.machine) (sym c.requires)
    (frames_join c.args.profile b (machine.Header 0) (machine.Between 0 no_counts) s.new.machine 8 s.result
    (header_leads c.args.profile b (omega arith) (c.has_header.ensures c.if-not-has_header.false))
    (subst (λ k. LeadsTo c.args.profile (slice_range b 8 (length b)) (machine.Between 0 k) s.result s.new.machine) c.none-counts.ensures s.ensures)))
    refl (λ k far some. omega arith)
