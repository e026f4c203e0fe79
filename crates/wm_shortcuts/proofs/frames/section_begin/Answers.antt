use Rattle.std.proofs.Common.{slice_index, subst}
use Rattle.wm_machine.specs.declared.machine.Machine.TheVariants as machine
use Rattle.wm_syntax.specs.exact.Reading.{fresh}
use Rattle.wm_shortcuts.specs.exact.Frames.{IsFrameStep}
use Rattle.wm_shortcuts.proofs.FrameBytes.{frames_more}
use Rattle.wm_shortcuts.proofs.frames.section_begin.Goals as goal

pub returns : goal.returns
returns c =
    let b = c.args.bytes.now in
    let counts = c.in-Between.counts in
    let x = c.in-Some-short_size in
    let next = c.in-Some-count_end.next in
    frames_more c.args.profile b c.args.machine.now (machine.Count c.in-Some.of counts x.size.more fresh) next x.size.next x.ensures.leads x.ensures.within
    (subst (λ n. IsFrameStep (machine.Count c.in-Some.of counts x.size.more n) (slice_index b x.size.next) next) c.new.ensures.fresh c.in-Some-count_end.ensures)
