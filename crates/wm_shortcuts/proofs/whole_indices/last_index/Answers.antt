use Rattle.std.proofs.Common.{◌-◌, ◌≤◌, arith}
use Rattle.wm_shortcuts.specs.exact.Indices.{index_room}
use Rattle.wm_shortcuts.proofs.Completed.{first_taken}
use Rattle.wm_shortcuts.proofs.Completed.Gave.{nothing}
use Rattle.wm_shortcuts.proofs.IndexNumbers.{last_index_completes}
use Rattle.wm_shortcuts.proofs.whole_indices.last_index.Goals as goal

pub returns : goal.returns
returns g c =
    let x = c.in-Some in
    let within : x.index.next ≤ c.min-end.result = x.ensures.within in
    let room : x.index.next - 1 ≤ index_room c.args.before = omega (arith, c.room.ensures) in
    first_taken c.requires.stands (last_index_completes c.args.before x.ensures.lies room c.requires.last) x.ensures.lies.some nothing c.ended-2.ensures.used c.give_index-given.result _ c.ended.ensures c.ended-2.ensures.refused c.give_index-given.ensures.given c.give_index-given.ensures.room
