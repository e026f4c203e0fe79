use Rattle.std.proofs.Common.{refl}
use Rattle.wm_shortcuts.proofs.OpLists.{behind_memory_init}
use Rattle.wm_shortcuts.proofs.whole_ops.memory_init.Goals as goal

pub returns : goal.returns
returns c =
    let h = c.args.here in
    let s = c.in_ok-segment.segment in
    let is = c.in_ok-segment.ensures in
    let zero = c.if-not-has_zero.ensures refl in
    behind_memory_init h.profile.now h.bytes.now h.at h.depth c.requires.within c.requires.first s.next s.value c.requires.code is.feature is.index zero.0 zero.1
