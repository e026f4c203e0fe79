-- Exact answers about the head of a code entry with short numbers.
use Rattle.std.specs.Prelude.{◌≡◌, ℕ, ◌+◌, ◌-◌, ◌*◌, ◌^◌, ◌<◌, ◌≤◌, ◌⊎◌, List, slice_index}
use Rattle.wm_machine.specs.declared.machine.Machine.{Machine}
use Rattle.wm_machine.specs.declared.machine.Machine.TheVariants as machine
use Rattle.wm_machine.specs.declared.machine.member.SectionKind.TheVariants as section_kind
use Rattle.wm_machine.specs.declared.machine.member.InMember.TheVariants as at
use Rattle.wm_shortcuts.specs.declared.heads.InHead.{InHead}
use Rattle.wm_machine.specs.exact.MemberSteps.{runs_or_body}

-- the machine before a run of locals, or before the first op if none is to come
abbrev pub in_head : InHead → Machine
in_head i =
    machine.Section section_kind.Code i.counts i.more i.left (at.Entry i.rest (runs_or_body i.runs))

-- the counts there after `used` more bytes, with `runs` runs to come
abbrev pub head_after : InHead → ℕ → ℕ → InHead
head_after i used runs = record i { more = i.more - used; rest = i.rest - used; runs = runs }

-- the first `used` bytes, one or two, spell the number v
abbrev pub IsShort : List ℕ → ℕ → ℕ → Type 0
IsShort bytes used v =
    ((used ≡ 1) × (slice_index bytes 0 < 2 ^ 7) × (v ≡ slice_index bytes 0))
    ⊎ ((used ≡ 2) × (2 ^ 7 ≤ slice_index bytes 0) × (slice_index bytes 1 < 2 ^ 7)
    × (v ≡ slice_index bytes 0 - 2 ^ 7 + slice_index bytes 1 * 2 ^ 7))
