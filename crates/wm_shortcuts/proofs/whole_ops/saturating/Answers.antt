use Rattle.std.proofs.Common.{sym}
use Rattle.wm_shortcuts.proofs.OpLists.{behind_saturation}
use Rattle.wm_shortcuts.proofs.whole_ops.saturating.Goals as goal

pub returns : goal.returns
returns c =
    let h = c.args.here in
    behind_saturation h.profile.now h.bytes.now h.at h.depth c.requires.within c.requires.first c.args.op c.requires.code c.requires.small (sym c.if-not-has.ensures)
