use Rattle.std.proofs.Common.{◌+◌, ◌-◌, ◌≤◌, ◌<◌, arith, length}
use Rattle.wm_shortcuts.proofs.Completed.{first_refused, first_taken}
use Rattle.wm_shortcuts.proofs.Completed.Gave.{also, nothing}
use Rattle.wm_shortcuts.proofs.NamedMembers.{export_named, last_export_completes}
use Rattle.wm_shortcuts.proofs.exports.LastExportLink.take.Goals as goal

pub returns-in-Err : goal.returns-in-Err
returns-in-Err g c =
    let x = c.in-Some-export_at in
    let first : 1 < x.found.stop = x.ensures.name.some in
    let order : x.found.stop + 1 < x.found.next = x.ensures.index.some in
    let whole : x.found.next ≤ length c.args.bytes.now = x.ensures.index.within in
    first_refused c.in-Some.ensures (export_named c.in-Some.start.more x.ensures.name (omega arith) (omega arith)) (omega arith) nothing c.out.ensures.used c.give_name.result _ c.out.ensures.refused c.in-Err.is c.give_name.ensures.given c.give_name.ensures.room

pub returns : goal.returns
returns g c =
    let x = c.in-Some-export_at in
    let order : x.found.stop + 1 < x.found.next = x.ensures.index.some in
    let whole : x.found.next ≤ length c.args.bytes.now = x.ensures.index.within in
    first_taken c.in-Some.ensures (last_export_completes c.in-Some.start.more x.ensures.name (omega arith) (omega arith) x.ensures.kind x.ensures.index (c.in-Some.start.more - (x.found.next - 1)) (omega arith)) (omega arith) (also nothing c.in_default-give_name.ensures.given) c.ended.ensures.used c.give_export-given.result _ c.over.ensures c.ended.ensures.refused c.give_export-given.ensures.given c.give_export-given.ensures.room
