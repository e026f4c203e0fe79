use Rattle.std.proofs.Common.{refl, sym}
use Rattle.wm_shortcuts.proofs.OpLists.{behind_fill}
use Rattle.wm_shortcuts.proofs.whole_ops.memory_fill.Goals as goal

pub returns : goal.returns
returns c =
    let h = c.args.here in
    let zero = c.if-not-has_zero.ensures refl in
    behind_fill h.profile.now h.bytes.now h.at h.depth c.requires.within c.requires.first c.requires.code (sym c.if-not-has.ensures) zero.0 zero.1
