use Rattle.std.proofs.Common.{subst, sym}
use Rattle.wm_shortcuts.specs.exact.WholeOps.{OpUnder}
use Rattle.wm_shortcuts.proofs.OpLists.{behind_drop}
use Rattle.wm_shortcuts.proofs.whole_ops.segment_drop.Goals as goal

pub returns : goal.returns
returns c =
    let h = c.args.here in
    let s = c.in_ok-segment.segment in
    let is = c.in_ok-segment.ensures in
    subst (λ v. OpUnder h.profile.now h.bytes.now h.at s.next h.depth h.depth v) (sym c.op.ensures)
    (behind_drop h.profile.now h.bytes.now h.at h.depth c.requires.within c.requires.first c.args.op s.next s.value c.requires.code is.feature is.index)
