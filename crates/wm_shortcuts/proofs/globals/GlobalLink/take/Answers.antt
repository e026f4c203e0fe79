use Rattle.std.proofs.Common.{◌<◌, arith, length}
use Rattle.wm_shortcuts.proofs.Completed.{first_refused, first_taken}
use Rattle.wm_shortcuts.proofs.Completed.Gave.{also, nothing}
use Rattle.wm_shortcuts.proofs.WholeMembers.{global_closed, global_typed, global_valued}
use Rattle.wm_shortcuts.proofs.globals.GlobalLink.take.Goals as goal

pub returns-in-Err : goal.returns-in-Err
returns-in-Err g c =
    let x = c.in-Some-global_at in
    let some : 2 < x.found.value.stop = x.ensures.op.some in
    let within : x.found.value.stop < length c.args.bytes.now = x.ensures.within in
    first_refused c.in-Some.ensures (global_typed c.in-Some.start x.found.ty x.ensures.ty x.ensures.var (omega arith) (omega arith)) (omega arith) nothing c.out.ensures.used c.give_global.result _ c.out.ensures.refused c.in-Err.is c.give_global.ensures.given c.give_global.ensures.room

pub returns-in-Err-give_constant : goal.returns-in-Err-give_constant
returns-in-Err-give_constant g c =
    let x = c.in-Some-global_at in
    let out = c.out-in-Err-give_constant in
    let some : 2 < x.found.value.stop = x.ensures.op.some in
    first_refused c.in-Some.ensures (global_valued c.in-Some.start x.found.ty x.ensures.ty x.ensures.var x.ensures.op x.ensures.within (omega arith)) (omega arith) (also nothing c.in_default-give_global.ensures.given) out.ensures.used c.give_constant.result _ out.ensures.refused c.in-Err-give_constant.is c.give_constant.ensures.given c.give_constant.ensures.room

pub returns : goal.returns
returns g c =
    let x = c.in-Some-global_at in
    let some : 2 < x.found.value.stop = x.ensures.op.some in
    first_taken c.in-Some.ensures (global_closed c.in-Some.start x.found.ty x.ensures.ty x.ensures.var x.ensures.op x.ensures.within (omega arith) x.ensures.end) (omega arith) (also (also nothing c.in_default-give_global.ensures.given) c.in_default-give_constant.ensures.given) c.ended.ensures.used c.give_constant-given.result _ c.over.ensures c.ended.ensures.refused c.give_constant-given.ensures.given c.give_constant-given.ensures.room
