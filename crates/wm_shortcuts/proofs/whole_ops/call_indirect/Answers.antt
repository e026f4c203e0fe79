use Rattle.wm_shortcuts.proofs.OpLists.{under_call_indirect}
use Rattle.wm_shortcuts.proofs.whole_ops.call_indirect.Goals as goal

pub returns : goal.returns
returns c =
    let h = c.args.here in
    let ty = c.in_ok-ty.ty in
    let next = c.in_ok-next.next in
    under_call_indirect h.profile.now h.bytes.now h.at ty.next next h.depth ty.value c.requires.class c.in_ok-ty.ensures c.in_ok-next.ensures.within.0 c.in_ok-next.ensures.within.1 c.in_ok-next.ensures.table
