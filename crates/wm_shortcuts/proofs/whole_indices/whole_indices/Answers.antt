use Rattle.std.proofs.Common.{◌≤◌, arith, refl}
use Rattle.wm_shortcuts.specs.exact.Indices.{index_room}
use Rattle.wm_shortcuts.specs.exact.Completed.Completes.{no_byte}
use Rattle.wm_shortcuts.proofs.Completed.{none_yet, ok, then_refused, then_taken}
use Rattle.wm_shortcuts.proofs.Completed.Gave.{nothing}
use Rattle.wm_shortcuts.proofs.IndexNumbers.{index_completes, indices_start}
use Rattle.wm_shortcuts.proofs.whole_indices.whole_indices.Goals as goal

pub loop-count-init : goal.loop-count-init
loop-count-init g c = record {
  within = omega arith;
  room = omega arith;
  followed = omega arith;
  advanced = none_yet (indices_start c.args.before);
}

pub returns-in-Err : goal.returns-in-Err
returns-in-Err g c =
    let l = c.loop-count in
    let x = c.in-Some in
    let within : x.index.next ≤ c.min-end.result = x.ensures.within in
    let room : x.index.next ≤ index_room c.args.before = omega (arith, c.room.ensures) in
    then_refused c.requires.stands l.invariant.advanced (index_completes c.args.before l.used l.count c.requires.lies x.ensures.lies room (omega arith) no_byte) x.ensures.lies.some nothing c.out.ensures.used c.give_index.result _ c.out.ensures.refused c.in-Err.is c.give_index.ensures.given c.give_index.ensures.room

pub loop-count-preserved : goal.loop-count-preserved
loop-count-preserved g c =
    let l = c.loop-count in
    let x = c.in-Some in
    let within : x.index.next ≤ c.min-end.result = x.ensures.within in
    let room : x.index.next ≤ index_room c.args.before = omega (arith, c.room.ensures) in
    record {
      within = omega arith;
      room = room;
      followed = omega arith;
      advanced = then_taken refl l.invariant.advanced (index_completes c.args.before l.used l.count c.requires.lies x.ensures.lies room (omega arith) no_byte) x.ensures.lies.some nothing refl ok _ refl refl c.in_default-give_index.ensures.given tt;
    }
