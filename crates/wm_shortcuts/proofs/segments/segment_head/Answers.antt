use Rattle.std.proofs.Common.{◌≡◌, ◌+◌, ◌-◌, ◌≤◌, ◌<◌, ap, arith, length, refl, ◌∙◌}
use Rattle.wm_shortcuts.specs.exact.Segments.{section_of}
use Rattle.wm_machine.specs.exact.Steps.{machine_in_member}
use Rattle.wm_shortcuts.proofs.Completed.{first_refused, first_taken, ok}
use Rattle.wm_shortcuts.proofs.Completed.Gave.{also, nothing}
use Rattle.wm_shortcuts.proofs.SegmentHeads.{head_begun, head_closed, head_offset, head_sized}
use Rattle.wm_shortcuts.proofs.segments.segment_head.Goals as goal

pub returns-in-Err : goal.returns-in-Err
returns-in-Err g c =
    let b = c.in-Some.start in
    let x = c.in-Some-head_at in
    let second : 1 < x.head.offset.stop = x.ensures.op.some in
    let third : x.head.offset.stop + 1 < x.head.next = x.ensures.size.some in
    let all : x.head.next ≤ length c.args.bytes.now = x.ensures.size.within in
    first_refused c.in-Some.ensures (head_begun b.of b.place (omega arith) x.ensures.first (omega arith)) (omega arith) nothing c.out.ensures.used c.give.result (g.S.Sink.held c.give.new.sink) c.out.ensures.refused c.in-Err.is (rw (← c.first_item.ensures) c.give.ensures.given) (rw (← c.first_item.ensures) c.give.ensures.room)

pub returns-in-Err-give_constant : goal.returns-in-Err-give_constant
returns-in-Err-give_constant g c =
    let b = c.in-Some.start in
    let x = c.in-Some-head_at in
    let out = c.out-in-Err-give_constant in
    let second : 1 < x.head.offset.stop = x.ensures.op.some in
    let third : x.head.offset.stop + 1 < x.head.next = x.ensures.size.some in
    let all : x.head.next ≤ length c.args.bytes.now = x.ensures.size.within in
    first_refused c.in-Some.ensures (head_offset b.of b.place (omega arith) x.ensures.first x.ensures.op (omega arith)) (omega arith) (also nothing (rw (← c.first_item.ensures) c.in_default-give.ensures.given)) out.ensures.used c.give_constant.result _ out.ensures.refused c.in-Err-give_constant.is c.give_constant.ensures.given c.give_constant.ensures.room

pub returns-in-Err-give_constant-2 : goal.returns-in-Err-give_constant-2
returns-in-Err-give_constant-2 g c =
    let b = c.in-Some.start in
    let x = c.in-Some-head_at in
    let out = c.out-in-Err-give_constant-2 in
    let second : 1 < x.head.offset.stop = x.ensures.op.some in
    let third : x.head.offset.stop + 1 < x.head.next = x.ensures.size.some in
    let all : x.head.next ≤ length c.args.bytes.now = x.ensures.size.within in
    first_refused c.in-Some.ensures (head_closed b.of b.place (omega arith) x.ensures.first x.ensures.op (omega arith) x.ensures.end (omega arith) (omega arith)) (omega arith) (also (also nothing (rw (← c.first_item.ensures) c.in_default-give.ensures.given)) c.in_default-give_constant.ensures.given) out.ensures.used c.give_constant-2.result _ out.ensures.refused c.in-Err-give_constant-2.is c.give_constant-2.ensures.given c.give_constant-2.ensures.room

pub returns : goal.returns
returns g c =
    let b = c.in-Some.start in
    let i = c.in-Some.start.place in
    let x = c.in-Some-head_at in
    let second : 1 < x.head.offset.stop = x.ensures.op.some in
    let third : x.head.offset.stop + 1 < x.head.next = x.ensures.size.some in
    let all : x.head.next ≤ length c.args.bytes.now = x.ensures.size.within in
    let rest = i.more - (x.head.next - 1) in
    let next = c.framed.ensures ∙ (ap (λ y. machine_in_member y i.counts rest i.left c.after_head-at.result) c.section_of.ensures ∙ ap (machine_in_member (section_of b.of) i.counts rest i.left) c.after_head-at.ensures) in
    first_taken c.in-Some.ensures (head_sized b.of b.place (omega arith) x.ensures.first x.ensures.op (omega arith) x.ensures.end (omega arith) (omega arith) rest x.ensures.size (omega arith)) (omega arith) (also (also (also nothing (rw (← c.first_item.ensures) c.in_default-give.ensures.given)) c.in_default-give_constant.ensures.given) c.in_default-give_constant-2.ensures.given) refl ok _ next c.refusal_of.ensures refl tt
