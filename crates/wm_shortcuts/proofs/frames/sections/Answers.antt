use Rattle.std.proofs.Common.{◌≡◌, ◌+◌, ◌∙◌, arith, subst, sym}
use Rattle.wm_shortcuts.specs.exact.Frames.{LeadsTo}
use Rattle.wm_shortcuts.proofs.FrameBytes.{frames_join, frames_more}
use Rattle.wm_shortcuts.proofs.frames.sections.Goals as goal
use Rattle.wm_shortcuts.proofs.frames.sections.Goals.{then-used-bytes-via-then-used-bytes, then-used-bytes-via-else-used-bytes+then-not-frame_byte}

pub returns-then-used-bytes : goal.returns-then-used-bytes
returns-then-used-bytes c =
    let b = c.args.bytes.now in
    let s = c.section_begin-used in
    let same : c.then-used-bytes.machine ≡ s.new.machine = elim c.then-used-bytes.branch [ then-used-bytes-via-then-used-bytes w ↦ w.machine-is | then-used-bytes-via-else-used-bytes+then-not-frame_byte w ↦ w.machine-is ∙ w.frame_byte.ensures.left w.if-not-frame_byte.true ] in
    subst (LeadsTo c.args.profile b c.args.machine.now (c.loop-used.used + s.result)) (sym same)
    (frames_join c.args.profile b c.args.machine.now c.loop-used.machine s.new.machine c.loop-used.used s.result c.loop-used.invariant s.ensures)

pub loop-used-preserved : goal.loop-used-preserved
loop-used-preserved c =
    let b = c.args.bytes.now in
    let s = c.section_begin-used in
    frames_more c.args.profile b c.args.machine.now s.new.machine c.frame_byte.new.machine (c.loop-used.used + s.result)
    (frames_join c.args.profile b c.args.machine.now c.loop-used.machine s.new.machine c.loop-used.used s.result c.loop-used.invariant s.ensures)
    (omega arith) (c.frame_byte.ensures.taken c.if-not-frame_byte.false)
