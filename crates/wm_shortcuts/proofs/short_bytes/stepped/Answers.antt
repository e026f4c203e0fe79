use Rattle.std.proofs.Common.{IfSome, arith, refl, slice_index, subst, ◌∙◌}
use Rattle.wm_shortcuts.specs.exact.Completed.Completes.{no_byte}
use Rattle.wm_shortcuts.specs.exact.ShortSteps.{StepsTo}
use Rattle.wm_shortcuts.proofs.Completed.{byte_on, first_taken, why_given}
use Rattle.wm_shortcuts.proofs.Completed.Gave.{nothing}
use Rattle.wm_shortcuts.proofs.short_bytes.stepped.Goals as goal

pub returns : goal.returns
returns g c =
    let q = c.args.place in
    let byte = slice_index c.args.bytes.now 0 in
    let known : StepsTo c.args.profile q.of q.left q.at byte c.in-Some.next = subst (λ y. IfSome y (λ s. StepsTo c.args.profile q.of q.left q.at byte s)) c.in-Some.is c.requires.found in
    first_taken c.requires.machine (byte_on c.in-Some.next no_byte c.requires.some c.requires.more known refl) (omega arith) nothing refl c.give_part.result _ refl (c.err-refused.ensures.value ∙ why_given c.give_part.result refl refl) c.give_part.ensures.given c.give_part.ensures.room
