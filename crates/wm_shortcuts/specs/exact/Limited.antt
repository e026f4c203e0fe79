-- Exact answers about a table or a memory that lies in a piece.
use Rattle.std.specs.Prelude.{◌≡◌, ◌⊎◌, ◌+◌, ℕ, List, Some, None, slice_index}
use Rattle.wm_syntax.specs.declared.types.Limits.{Limits}
use Rattle.wm_syntax.specs.exact.Reading.{unsigned_push}
use Rattle.wm_machine.specs.declared.machine.Plain.{Plain}
use Rattle.wm_machine.specs.declared.machine.Plain.TheVariants as plain
use Rattle.wm_machine.specs.declared.machine.member.SectionKind.{SectionKind}
use Rattle.wm_machine.specs.declared.machine.member.SectionKind.TheVariants as section_kind
use Rattle.wm_machine.specs.declared.machine.member.InMember.{InMember}
use Rattle.wm_machine.specs.declared.machine.member.InMember.TheVariants as at
use Rattle.wm_machine.specs.declared.step.values.InLimits.{InLimits}
use Rattle.wm_machine.specs.declared.step.values.InTableType.TheVariants as table
use Rattle.wm_machine.specs.declared.step.values.InValue.TheVariants as value
use Rattle.wm_shortcuts.specs.declared.limited.Limited.{Limited}
use Rattle.wm_shortcuts.specs.declared.limited.Limited.TheVariants as limited
use Rattle.wm_shortcuts.specs.exact.WholeOps.{LiesAt}

-- for a table or a memory: its section, the state inside its limits, and the item that these complete
abbrev pub limited_section : Limited → SectionKind
limited_section limited.Table = section_kind.Table
limited_section limited.Memory = section_kind.Memory

abbrev pub in_limits : Limited → InLimits → InMember
in_limits limited.Table l = at.Value (value.Table (table.Limits l))
in_limits limited.Memory l = at.Value (value.Memory l)

abbrev pub limited_item : Limited → Limits → Plain
limited_item limited.Table l = plain.Table l
limited_item limited.Memory l = plain.Memory l

-- the limits begin at `from`: those of a table after the element type
abbrev pub LimitsBegin : Limited → List ℕ → ℕ → Type 0
LimitsBegin limited.Table bytes from = (slice_index bytes 0 ≡ 0x70) × (from ≡ 1)
LimitsBegin limited.Memory bytes from = from ≡ 0

-- limits lie from `from` up to `next`: without a maximum, or with one
pub record LeastLies (bytes : List ℕ) (from next : ℕ) (l : Limits) : Type 0 where
  pub flag : slice_index bytes from ≡ 0
  pub least : ℕ
  pub min : LiesAt (unsigned_push 32) bytes (from + 1) next least
  pub is : l ≡ record { min = least; max = None }

pub record BothLie (bytes : List ℕ) (from next : ℕ) (l : Limits) : Type 0 where
  pub flag : slice_index bytes from ≡ 1
  pub least : ℕ
  pub middle : ℕ
  pub greatest : ℕ
  pub min : LiesAt (unsigned_push 32) bytes (from + 1) middle least
  pub max : LiesAt (unsigned_push 32) bytes middle next greatest
  pub is : l ≡ record { min = least; max = Some greatest }

abbrev pub LimitsLie : List ℕ → ℕ → ℕ → Limits → Type 0
LimitsLie bytes from next l = LeastLies bytes from next l ⊎ BothLie bytes from next l
