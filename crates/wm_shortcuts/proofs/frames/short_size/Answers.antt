use Rattle.std.proofs.Common.{slice_index, subst, arith}
use Rattle.wm_machine.specs.declared.machine.Machine.TheVariants as machine
use Rattle.wm_syntax.specs.exact.Reading.{fresh}
use Rattle.wm_shortcuts.specs.exact.Frames.{IsFrameStep}
use Rattle.wm_shortcuts.proofs.FrameBytes.{frames_more, frames_none}
use Rattle.wm_shortcuts.proofs.frames.short_size.Goals as goal

pub returns-then-bytes-lt128-clause-leads : goal.returns-then-bytes-lt128-clause-leads
returns-then-bytes-lt128-clause-leads c =
    let a = c.args in
    let b = a.bytes.now in
    let size = machine.Size a.of a.counts fresh in
    let count = machine.Count a.of a.counts c.in_ok-more.more fresh in
    frames_more a.profile b a.machine.now size count 1
    (frames_more a.profile b a.machine.now a.machine.now size 0 (frames_none a.profile b a.machine.now) (omega arith) c.requires.begun)
    (omega arith) (subst (λ n. IsFrameStep (machine.Size a.of a.counts n) (slice_index b 1) count) c.new-number.ensures.fresh c.in_ok-more.ensures)

pub returns-clause-leads : goal.returns-clause-leads
returns-clause-leads c =
    let a = c.args in
    let b = a.bytes.now in
    let size = machine.Size a.of a.counts fresh in
    let longer = machine.Size a.of a.counts c.in_ok-number.number in
    let count = machine.Count a.of a.counts c.in_ok-more-2.more fresh in
    frames_more a.profile b a.machine.now longer count 2
    (frames_more a.profile b a.machine.now size longer 1
    (frames_more a.profile b a.machine.now a.machine.now size 0 (frames_none a.profile b a.machine.now) (omega arith) c.requires.begun)
    (omega arith) (subst (λ n. IsFrameStep (machine.Size a.of a.counts n) (slice_index b 1) longer) c.new-number.ensures.fresh c.in_ok-number.ensures))
    (omega arith) c.in_ok-more-2.ensures
