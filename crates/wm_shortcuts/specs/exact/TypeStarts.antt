-- Exact answers about the state of a machine inside a function type.
use Rattle.std.specs.Prelude.{ℕ, ◌-◌}
use Rattle.wm_syntax.specs.exact.Reading.{fresh}
use Rattle.wm_machine.specs.declared.machine.Machine.{Machine}
use Rattle.wm_machine.specs.declared.machine.Machine.TheVariants as machine
use Rattle.wm_machine.specs.declared.machine.member.SectionKind.TheVariants as section_kind
use Rattle.wm_machine.specs.declared.machine.member.InMember.TheVariants as at
use Rattle.wm_shortcuts.specs.declared.function_types.InParams.{InParams}
use Rattle.wm_shortcuts.specs.declared.in_section.InSection.{InSection}
use Rattle.wm_machine.specs.exact.MemberSteps.{after_param}
use Rattle.wm_shortcuts.specs.exact.WholeMembers.{in_member}

-- the machine before the result count
abbrev pub before_results : InSection → Machine
before_results = in_member section_kind.Type (at.ResultCount fresh)

-- the machine before a parameter, or before the result count if none is to come
abbrev pub in_params : InParams → Machine
in_params i = machine.Section section_kind.Type i.counts i.more i.left (after_param i.params)

-- the counts there after `used` more bytes, with `params` parameters to come
abbrev pub params_after : InParams → ℕ → ℕ → InParams
params_after i used params = record i { more = i.more - used; params = params }
