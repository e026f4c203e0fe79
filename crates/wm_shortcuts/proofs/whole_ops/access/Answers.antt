use Rattle.std.proofs.Common.{sym, subst}
use Rattle.wm_shortcuts.specs.exact.WholeOps.{OpUnder}
use Rattle.wm_shortcuts.proofs.OpLists.{under_access}
use Rattle.wm_shortcuts.proofs.whole_ops.access.Goals as goal

pub returns : goal.returns
returns c =
    let h = c.args.here in
    let a = c.in_ok-align.align in
    let o = c.in_ok-offset.offset in
    subst (λ v. OpUnder h.profile.now h.bytes.now h.at o.next h.depth h.depth v) (sym c.op.ensures)
    (under_access h.profile.now h.bytes.now h.at a.next o.next h.depth a.value o.value c.args.op c.requires.class c.in_ok-align.ensures c.in_ok-offset.ensures)
