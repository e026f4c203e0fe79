-- Exact answers about the state of a machine inside a section.
use Rattle.std.specs.Prelude.{ℕ, ◌-◌}
use Rattle.wm_machine.specs.declared.machine.Machine.{Machine}
use Rattle.wm_machine.specs.declared.machine.Machine.TheVariants as machine
use Rattle.wm_machine.specs.declared.machine.member.SectionKind.{SectionKind}
use Rattle.wm_machine.specs.declared.machine.member.InMember.{InMember}
use Rattle.wm_shortcuts.specs.declared.in_section.InSection.{InSection}
use Rattle.wm_machine.specs.exact.Members.{member_at_start}

-- the machine with this state in a member, and the machine before a member
abbrev pub in_member : SectionKind → InMember → InSection → Machine
in_member of at i = machine.Section of i.counts i.more i.left at

abbrev pub before_member : SectionKind → InSection → Machine
before_member of i = in_member of (member_at_start of) i

-- the counts after `used` more bytes, with `left` members to come after the next
abbrev pub section_after : InSection → ℕ → ℕ → InSection
section_after i used left = record i { more = i.more - used; left = left }
