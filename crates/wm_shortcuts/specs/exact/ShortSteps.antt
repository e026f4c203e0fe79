-- Exact answers about one byte of function types and of code entries, with a further byte in the section.
use Rattle.std.specs.Prelude.{◌≡◌, ℕ, suc, Option, Some, None}
use Rattle.wm_syntax.specs.declared.profile.Profile.{Profile}
use Rattle.wm_machine.specs.declared.machine.Counts.{Counts}
use Rattle.wm_machine.specs.declared.machine.Plain.{Plain}
use Rattle.wm_machine.specs.declared.machine.Event.{Event}
use Rattle.wm_machine.specs.declared.machine.Event.TheVariants as event
use Rattle.wm_machine.specs.declared.machine.Machine.{Machine}
use Rattle.wm_machine.specs.declared.machine.Machine.TheVariants as machine
use Rattle.wm_machine.specs.declared.machine.member.SectionKind.{SectionKind}
use Rattle.wm_machine.specs.declared.machine.member.InMember.{InMember}
use Rattle.wm_shortcuts.specs.declared.short_steps.Stepped.{Stepped}
use Rattle.wm_shortcuts.specs.declared.short_steps.Place.{Place}
use Rattle.wm_machine.specs.exact.Steps.{step_of}

-- the effect of a byte that completes this item, if any
abbrev pub part_event : Option Plain → Event
part_event (Some part) = event.Complete part
part_event None = event.Nothing

abbrev pub standing : Place → Machine
standing p = machine.Section p.of p.counts p.more p.left p.at

abbrev pub after_stepped : SectionKind → Counts → ℕ → Stepped → Machine
after_stepped of counts more s = machine.Section of counts more s.left s.at

-- under the profile this is the effect of the byte c, if a further byte of the section comes after it
abbrev pub StepsTo : Profile → SectionKind → ℕ → InMember → ℕ → Stepped → Type 0
StepsTo p of left at c s = (counts : Counts) (more : ℕ)
    → step_of p (machine.Section of counts (suc more) left at) c
    ≡ (after_stepped of counts more s, part_event s.part)
