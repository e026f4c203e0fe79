-- The fast paths for imports and exports have the effect of the slow path.
use Rattle.std.proofs.Common.{◌≡◌, ℕ, suc, ◌+◌, ◌-◌, ◌<◌, ◌≤◌, List, [], ◌∷◌, Some, None, length, slice_index, slice_range, refl, ◌∙◌, ap, arith}
use Rattle.wm_syntax.specs.declared.profile.Profile.{Profile}
use Rattle.wm_syntax.specs.declared.modules.ImportDesc.TheVariants as desc
use Rattle.wm_syntax.specs.declared.modules.ExportKind.{ExportKind}
use Rattle.wm_syntax.specs.exact.Reading.{fresh, unsigned_push}
use Rattle.wm_machine.specs.declared.machine.Counts.{Counts}
use Rattle.wm_machine.specs.declared.machine.Machine.{Machine}
use Rattle.wm_machine.specs.declared.machine.Machine.TheVariants as machine
use Rattle.wm_machine.specs.declared.machine.NameKind.TheVariants as name
use Rattle.wm_machine.specs.declared.machine.Plain.TheVariants as plain
use Rattle.wm_machine.specs.declared.machine.member.SectionKind.TheVariants as section_kind
use Rattle.wm_machine.specs.declared.machine.member.InMember.TheVariants as at
use Rattle.wm_machine.specs.declared.step.reading.Reading.TheVariants.{Done}
use Rattle.wm_machine.specs.declared.step.values.InValue.TheVariants as value
use Rattle.wm_machine.specs.declared.step.values.InImportDesc.TheVariants as import
use Rattle.wm_machine.specs.declared.step.values.InExportDesc.TheVariants as target
use Rattle.wm_shortcuts.specs.declared.in_section.InSection.{InSection}
use Rattle.wm_machine.specs.exact.Steps.{machine_in_member}
use Rattle.wm_machine.specs.exact.MemberSteps.{on_value, with_item_given}
use Rattle.wm_machine.specs.exact.ValueSteps.{desc_kind_step, of_export, of_import, read_number}
use Rattle.wm_shortcuts.specs.exact.ShortSteps.{StepsTo}
use Rattle.wm_machine.specs.exact.Members.{member_at_start}
use Rattle.wm_machine.specs.declared.machine.member.SectionKind.{SectionKind}
use Rattle.wm_shortcuts.specs.exact.Completed.{Completes}
use Rattle.wm_shortcuts.specs.exact.Completed.Completed.{part, named}
use Rattle.wm_shortcuts.specs.exact.Completed.Completes.{no_byte, one_name}
use Rattle.wm_shortcuts.specs.exact.WholeMembers.{before_member, section_after}
use Rattle.wm_shortcuts.specs.exact.WholeOps.{LiesAt}
use Rattle.wm_shortcuts.specs.exact.WholeNames.{IsKindByte, NameLies}
use Rattle.wm_shortcuts.proofs.Completed.{byte_on}
use Rattle.wm_shortcuts.proofs.NumberSteps.{ByteGoesOn, EndsWithNumber, ReadsNumber, framed, number_on, number_over}

-- an import's kind and the index of its function's type
function_alone : (p : Profile) (left c : ℕ) → c ≡ 0 → StepsTo p section_kind.Import left (at.Value (value.Import import.Kind)) c (record { left = left; at = at.Value (value.Import (import.Func fresh)); part = None })
function_alone p left c is f more =
    ap (λ y. framed section_kind.Import f more left (on_value (of_import (desc_kind_step y)) at.Value (λ q. with_item_given at.Over q) at.Failed)) is

type_reads : (p : Profile) (left : ℕ) → 0 < left
    → ReadsNumber p section_kind.Import left (λ s. at.Value (value.Import (import.Func s))) (λ v. record { left = left - 1; at = at.NameLength name.ImportModule fresh; part = Some (plain.Import (desc.Func v)) })
type_reads p left some = record {
  goes_on = λ r s c e f more. ap (λ y. framed section_kind.Import f more left (on_value (of_import (read_number y import.Func (λ n. Done (desc.Func n)))) at.Value (λ q. with_item_given at.Over q) at.Failed)) e;
  ends = λ r s c v e f more.
      let one : left ≡ suc (left - 1) = omega arith in
      ap (λ y. framed section_kind.Import f more left (on_value (of_import (read_number y import.Func (λ n. Done (desc.Func n)))) at.Value (λ q. with_item_given at.Over q) at.Failed)) e
      ∙ ap (λ n. framed section_kind.Import f more n (with_item_given at.Over (plain.Import (desc.Func v)))) one;
}

-- what an export gives out
kind_alone : (p : Profile) (left c : ℕ) (k : ExportKind) → IsKindByte c k → StepsTo p section_kind.Export left (at.Value (value.Export target.Kind)) c (record { left = left; at = at.Value (value.Export (target.Index k fresh)); part = None })
kind_alone p left c k is f more =
    ap (λ y. framed section_kind.Export f more left (on_value (of_export y) at.Value (λ q. with_item_given at.Over q) at.Failed)) is

index_goes_on : (p : Profile) (left : ℕ) (k : ExportKind) → ByteGoesOn p section_kind.Export left (λ s. at.Value (value.Export (target.Index k s))) (λ s. at.Value (value.Export (target.Index k s)))
index_goes_on p left k r s c e f more =
    ap (λ y. framed section_kind.Export f more left (on_value (of_export (read_number y (λ s. target.Index k s) (λ n. Done (k, n)))) at.Value (λ q. with_item_given at.Over q) at.Failed)) e

index_reads : (p : Profile) (left : ℕ) (k : ExportKind) → 0 < left
    → ReadsNumber p section_kind.Export left (λ s. at.Value (value.Export (target.Index k s))) (λ v. record { left = left - 1; at = at.NameLength name.Export fresh; part = Some (plain.Export k v) })
index_reads p left k some = record {
  goes_on = index_goes_on p left k;
  ends = λ r s c v e f more.
      let one : left ≡ suc (left - 1) = omega arith in
      ap (λ y. framed section_kind.Export f more left (on_value (of_export (read_number y (λ s. target.Index k s) (λ n. Done (k, n)))) at.Value (λ q. with_item_given at.Over q) at.Failed)) e
      ∙ ap (λ n. framed section_kind.Export f more n (with_item_given at.Over (plain.Export k v))) one;
}

index_ends : (p : Profile) (left : ℕ) (k : ExportKind) → EndsWithNumber p section_kind.Export left (λ s. at.Value (value.Export (target.Index k s))) (λ v. at.Over) (λ v. Some (plain.Export k v))
index_ends p left k = record {
  goes_on = index_goes_on p left k;
  ends = λ r s c v e. ap (λ y. on_value (of_export (read_number y (λ s. target.Index k s) (λ n. Done (k, n)))) at.Value (λ q. with_item_given at.Over q) at.Failed) e;
}

-- how many bytes of the section come after the next, at a later place
abbrev left_after : ℕ → ℕ → ℕ → ℕ
left_after more from to = more - (to - from)

abbrev at_import : Counts → ℕ → ℕ → Machine
at_import f more left = machine.Section section_kind.Import f more left (at.NameLength name.ImportModule fresh)

abbrev at_export : Counts → ℕ → ℕ → Machine
at_export f more left = machine.Section section_kind.Export f more left (at.NameLength name.Export fresh)

module _ {p : Profile} {bytes : List ℕ} {i : ℕ} {f : Counts} {left : ℕ} (more : ℕ) where
  -- an import after other bytes: the name of its module, its own, and what it brings in
  module _ {middle : ℕ} (lies : NameLies bytes i middle) (inside : middle ≤ length bytes) (section : middle ≤ i + more) where
    pub module_named : Completes p bytes i (at_import f more left) [] (Some (named name.ImportModule (slice_range bytes (i + 1) middle))) middle (machine.Section section_kind.Import f (left_after more i middle) left (at.NameLength name.ImportName fresh))
    module_named = one_name section_kind.Import name.ImportModule f more left middle no_byte lies inside section (λ n. refl)

    module _ {stop : ℕ} (next : NameLies bytes middle stop) (within : stop ≤ length bytes) (room : stop ≤ i + more) where
      pub import_named : Completes p bytes i (at_import f more left) (named name.ImportModule (slice_range bytes (i + 1) middle) ∷ []) (Some (named name.ImportName (slice_range bytes (middle + 1) stop))) stop
          (machine.Section section_kind.Import f (left_after (left_after more i middle) middle stop) left (at.Value (value.Import import.Kind)))
      import_named =
          let some : i + 1 < middle = lies.some in
          one_name section_kind.Import name.ImportName f (left_after more i middle) left stop module_named next within (omega arith) (λ n. refl)

      pub import_completes : {x last : ℕ} (n : Machine) → slice_index bytes stop ≡ 0 → LiesAt (unsigned_push 32) bytes (stop + 1) last x → last ≤ i + more → 0 < left
          → n ≡ machine.Section section_kind.Import f (left_after more i last) (left - 1) (at.NameLength name.ImportModule fresh)
          → Completes p bytes i (at_import f more left) (named name.ImportName (slice_range bytes (middle + 1) stop) ∷ named name.ImportModule (slice_range bytes (i + 1) middle) ∷ []) (Some (part (plain.Import (desc.Func x)))) last n
      import_completes {last = last} n kind index far some en =
          let first : i + 1 < middle = lies.some in
          let second : middle + 1 < stop = next.some in
          let order : stop + 1 < last = index.some in
          let whole : last ≤ length bytes = index.within in
          let place : left_after more i last ≡ left_after (left_after (left_after more i middle) middle stop - 1) (stop + 1) last = omega arith in
          number_on (type_reads p left some) index
          (byte_on (record { left = left; at = at.Value (value.Import (import.Func fresh)); part = None }) import_named (omega arith) (omega arith) (function_alone p left (slice_index bytes stop) kind) refl) (omega arith)
          (en ∙ ap (λ y. machine.Section section_kind.Import f y (left - 1) (at.NameLength name.ImportModule fresh)) place)

  -- an export after other bytes: its name, and what it gives out
  module _ {stop : ℕ} (lies : NameLies bytes i stop) (inside : stop ≤ length bytes) (section : stop ≤ i + more) where
    pub export_named : Completes p bytes i (at_export f more left) [] (Some (named name.Export (slice_range bytes (i + 1) stop))) stop (machine.Section section_kind.Export f (left_after more i stop) left (at.Value (value.Export target.Kind)))
    export_named = one_name section_kind.Export name.Export f more left stop no_byte lies inside section (λ n. refl)

    module _ {k : ExportKind} {x last : ℕ} (kind : IsKindByte (slice_index bytes stop) k) (index : LiesAt (unsigned_push 32) bytes (stop + 1) last x) where
      -- up to the index of what it gives out
      export_begun : stop < i + more → Completes p bytes i (at_export f more left) (named name.Export (slice_range bytes (i + 1) stop) ∷ []) None (stop + 1) (machine.Section section_kind.Export f (left_after more i stop - 1) left (at.Value (value.Export (target.Index k fresh))))
      export_begun far =
          let some : i + 1 < stop = lies.some in
          let order : stop + 1 < last = index.some in
          let whole : last ≤ length bytes = index.within in
          byte_on (record { left = left; at = at.Value (value.Export (target.Index k fresh)); part = None }) export_named (omega arith) (omega arith) (kind_alone p left (slice_index bytes stop) k kind) refl

      pub export_completes : (n : Machine) → last ≤ i + more → 0 < left → n ≡ machine.Section section_kind.Export f (left_after more i last) (left - 1) (at.NameLength name.Export fresh)
          → Completes p bytes i (at_export f more left) (named name.Export (slice_range bytes (i + 1) stop) ∷ []) (Some (part (plain.Export k x))) last n
      export_completes n far some en =
          let first : i + 1 < stop = lies.some in
          let order : stop + 1 < last = index.some in
          let place : left_after more i last ≡ left_after (left_after more i stop - 1) (stop + 1) last = omega arith in
          number_on (index_reads p left k some) index (export_begun (omega arith)) (omega arith) (en ∙ ap (λ y. machine.Section section_kind.Export f y (left - 1) (at.NameLength name.Export fresh)) place)

      -- the last of its section, or one that ends too early or too late
      pub last_export_completes : (rest : ℕ) → last + rest ≡ i + more + 1 → Completes p bytes i (at_export f more left) (named name.Export (slice_range bytes (i + 1) stop) ∷ []) (Some (part (plain.Export k x))) last (machine_in_member section_kind.Export f rest left at.Over)
      last_export_completes rest room =
          let first : i + 1 < stop = lies.some in
          let order : stop + 1 < last = index.some in
          number_over rest (index_ends p left k) index (export_begun (omega arith)) (omega arith)

-- before the first of them
pub start_of : (of : SectionKind) (i : InSection) → before_member of (section_after i 0 i.left) ≡ before_member of i
start_of of i =
    let a : i.more - 0 ≡ i.more = omega arith in
    ap (λ x. machine.Section of i.counts x i.left (member_at_start of)) a

-- and after it
pub next_at : (of : SectionKind) (i : InSection) (left from to : ℕ) → from < to → before_member of (section_after i to left) ≡ machine.Section of i.counts (i.more - from - (to - from)) left (member_at_start of)
next_at of i left from to less =
    let a : i.more - to ≡ i.more - from - (to - from) = omega arith in
    ap (λ x. machine.Section of i.counts x left (member_at_start of)) a
