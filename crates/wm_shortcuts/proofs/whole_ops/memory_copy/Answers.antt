use Rattle.std.proofs.Common.{arith, refl, sym}
use Rattle.wm_shortcuts.proofs.OpLists.{behind_copy}
use Rattle.wm_shortcuts.proofs.whole_ops.memory_copy.Goals as goal

pub returns : goal.returns
returns c =
    let h = c.args.here in
    let zeros = c.if-not-has_zeros.ensures refl in
    behind_copy h.profile.now h.bytes.now h.at h.depth c.requires.within c.requires.first c.requires.code (sym c.if-not-has.ensures) (omega arith) zeros.1 zeros.2
