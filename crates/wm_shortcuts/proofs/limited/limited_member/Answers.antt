use Rattle.std.proofs.Common.{◌-◌, ◌∙◌, ap, arith}
use Rattle.wm_machine.specs.declared.machine.member.InMember.TheVariants as at
use Rattle.wm_machine.specs.exact.Steps.{machine_in_member}
use Rattle.wm_shortcuts.proofs.Completed.{first_taken}
use Rattle.wm_shortcuts.proofs.Completed.Gave.{nothing}
use Rattle.wm_shortcuts.proofs.LimitBytes.{limits_complete}
use Rattle.wm_shortcuts.proofs.limited.limited_member.Goals as goal

pub returns : goal.returns
returns g c =
    let b = c.in-Some.start in
    let x = c.in-Some-limits_at in
    first_taken c.in-Some.ensures (limits_complete b.place b.of c.in-Some-begin.from x.found.next x.found.limits c.in-Some-begin.ensures.begin (omega arith) x.ensures.lie) x.ensures.some nothing c.ended.ensures.used c.give-given.result _ (c.over.ensures ∙ ap (λ y. machine_in_member y b.place.counts (b.place.more - (x.found.next - 1)) b.place.left at.Over) c.section.ensures) c.ended.ensures.refused (rw (← c.item.ensures) c.give-given.ensures.given) (rw (← c.item.ensures) c.give-given.ensures.room)
