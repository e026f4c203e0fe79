-- The fast path for a table or a memory has the effect of the slow path.
use Rattle.std.proofs.Common.{◌≡◌, ℕ, ◌+◌, ◌-◌, ◌<◌, ◌≤◌, inl, inr, Bool, true, false, List, [], Some, None, length, slice_index, refl, sym, ap, subst, arith}
use Rattle.wm_syntax.specs.declared.profile.Profile.{Profile}
use Rattle.wm_syntax.specs.declared.types.Limits.{Limits}
use Rattle.wm_syntax.specs.exact.Reading.{fresh}
use Rattle.wm_machine.specs.declared.machine.Machine.{Machine}
use Rattle.wm_machine.specs.declared.machine.Machine.TheVariants as machine
use Rattle.wm_machine.specs.declared.machine.Event.{Event}
use Rattle.wm_machine.specs.declared.machine.member.SectionKind.{SectionKind}
use Rattle.wm_machine.specs.declared.machine.member.SectionKind.TheVariants as section_kind
use Rattle.wm_machine.specs.declared.machine.member.InMember.{InMember}
use Rattle.wm_machine.specs.declared.machine.member.InMember.TheVariants as at
use Rattle.wm_machine.specs.declared.step.reading.Reading.{Reading}
use Rattle.wm_machine.specs.declared.step.reading.Reading.TheVariants.{More, Done}
use Rattle.wm_machine.specs.declared.step.values.InLimits.{InLimits}
use Rattle.wm_machine.specs.declared.step.values.InLimits.TheVariants as limits
use Rattle.wm_machine.specs.declared.step.values.InTableType.TheVariants as table
use Rattle.wm_machine.specs.declared.step.values.InValue.TheVariants as value
use Rattle.wm_shortcuts.specs.declared.in_section.InSection.{InSection}
use Rattle.wm_shortcuts.specs.declared.limited.Limited.{Limited}
use Rattle.wm_shortcuts.specs.declared.limited.Limited.TheVariants as limited
use Rattle.wm_machine.specs.exact.Steps.{machine_in_member}
use Rattle.wm_machine.specs.exact.MemberSteps.{member_step, on_value, with_item_given}
use Rattle.wm_machine.specs.exact.ValueSteps.{after_min, flag_step, limits_push, map_reading, of_memory, of_table, read_number}
use Rattle.wm_shortcuts.specs.exact.Limited.{LimitsBegin, LimitsLie, in_limits, limited_item, limited_section}
use Rattle.wm_shortcuts.specs.exact.ShortSteps.{StepsTo, part_event}
use Rattle.wm_shortcuts.specs.exact.Completed.{Completes}
use Rattle.wm_shortcuts.specs.exact.Completed.Completed.{part}
use Rattle.wm_shortcuts.specs.exact.Completed.Completes.{no_byte}
use Rattle.wm_shortcuts.specs.exact.WholeMembers.{before_member}
use Rattle.wm_shortcuts.proofs.Completed.{byte_on}
use Rattle.wm_shortcuts.proofs.NumberSteps.{EndsWithNumber, ReadsNumber, framed, number_on, number_over}

-- what an answer of the reader of limits makes of the member
abbrev answered : Limited → Reading InLimits Limits → InMember × Event
answered limited.Table y = on_value (of_table (map_reading table.Limits (λ l. l) y)) at.Value (λ q. with_item_given at.Over q) at.Failed
answered limited.Memory y = on_value (of_memory y) at.Value (λ q. with_item_given at.Over q) at.Failed

goes : (p : Profile) (l : Limited) (of : SectionKind) (left : ℕ) (q r : InLimits) (c : ℕ) → limits_push q c ≡ More r
    → StepsTo p of left (in_limits l q) c (record { left = left; at = in_limits l r; part = None })
goes p limited.Table of left q r c is f more = ap (λ y. framed of f more left (answered limited.Table y)) is
goes p limited.Memory of left q r c is f more = ap (λ y. framed of f more left (answered limited.Memory y)) is

ends : (p : Profile) (l : Limited) (q : InLimits) (c : ℕ) (x : Limits) → limits_push q c ≡ Done x → member_step p (in_limits l q) c ≡ (at.Over, part_event (Some (limited_item l x)))
ends p limited.Table q c x is = ap (answered limited.Table) is
ends p limited.Memory q c x is = ap (answered limited.Memory) is

-- the type of a table's elements
element_goes : (p : Profile) (left c : ℕ) → c ≡ 0x70
    → StepsTo p section_kind.Table left (at.Value (value.Table table.ElementType)) c (record { left = left; at = in_limits limited.Table limits.Flag; part = None })
element_goes p left c e = subst (λ y. StepsTo p section_kind.Table left (at.Value (value.Table table.ElementType)) y (record { left = left; at = in_limits limited.Table limits.Flag; part = None })) (sym e) (λ f more. refl)

-- a least size before a greatest one, a least size alone, and a greatest one
min_reads : (p : Profile) (l : Limited) (of : SectionKind) (left : ℕ)
    → ReadsNumber p of left (λ r. in_limits l (limits.Min true r)) (λ v. record { left = left; at = in_limits l (limits.Max v fresh); part = None })
min_reads p l of left = record {
  goes_on = λ r s c e. goes p l of left (limits.Min true r) (limits.Min true s) c (ap (λ y. read_number y (λ s. limits.Min true s) (after_min true)) e);
  ends = λ r s c v e. goes p l of left (limits.Min true r) (limits.Max v fresh) c (ap (λ y. read_number y (λ s. limits.Min true s) (after_min true)) e);
}

min_ends : (p : Profile) (l : Limited) (of : SectionKind) (left : ℕ)
    → EndsWithNumber p of left (λ r. in_limits l (limits.Min false r)) (λ v. at.Over) (λ v. Some (limited_item l (record { min = v; max = None })))
min_ends p l of left = record {
  goes_on = λ r s c e. goes p l of left (limits.Min false r) (limits.Min false s) c (ap (λ y. read_number y (λ s. limits.Min false s) (after_min false)) e);
  ends = λ r s c v e. ends p l (limits.Min false r) c (record { min = v; max = None }) (ap (λ y. read_number y (λ s. limits.Min false s) (after_min false)) e);
}

max_ends : (p : Profile) (l : Limited) (of : SectionKind) (left min : ℕ)
    → EndsWithNumber p of left (λ r. in_limits l (limits.Max min r)) (λ v. at.Over) (λ v. Some (limited_item l (record { min = min; max = Some v })))
max_ends p l of left min = record {
  goes_on = λ r s c e. goes p l of left (limits.Max min r) (limits.Max min s) c (ap (λ y. read_number y (λ s. limits.Max min s) (λ n. Done (record { min = min; max = Some n }))) e);
  ends = λ r s c v e. ends p l (limits.Max min r) c (record { min = min; max = Some v }) (ap (λ y. read_number y (λ s. limits.Max min s) (λ n. Done (record { min = min; max = Some n }))) e);
}

-- in the limits, after so many bytes
abbrev in_them : InSection → Limited → ℕ → InLimits → Machine
in_them i l used q = machine.Section (limited_section l) i.counts (i.more - used) i.left (in_limits l q)

module _ {p : Profile} {bytes : List ℕ} (i : InSection) where
  -- up to the limits
  begun : (l : Limited) (from : ℕ) → LimitsBegin l bytes from → 0 < length bytes → 0 < i.more → Completes p bytes 0 (before_member (limited_section l) i) [] None from (in_them i l from limits.Flag)
  begun limited.Table from b some room =
      subst (λ n. Completes p bytes 0 (before_member (limited_section limited.Table) i) [] None n (in_them i limited.Table n limits.Flag)) (sym b.1)
      (byte_on (record { left = i.left; at = in_limits limited.Table limits.Flag; part = None }) no_byte some room (element_goes p i.left (slice_index bytes 0) b.0) refl)
  begun limited.Memory from b some room =
      let all : i.more ≡ i.more - 0 = omega arith in
      subst (λ n. Completes p bytes 0 (before_member (limited_section limited.Memory) i) [] None n (in_them i limited.Memory n limits.Flag)) (sym b)
      (subst (λ n. Completes p bytes 0 (before_member (limited_section limited.Memory) i) [] None 0 (machine.Section section_kind.Memory i.counts n i.left (in_limits limited.Memory limits.Flag))) all no_byte)

  -- with the flag
  flagged : (l : Limited) (from : ℕ) (bounded : Bool) → LimitsBegin l bytes from → flag_step (slice_index bytes from) ≡ More (limits.Min bounded fresh) → from < length bytes → from < i.more
      → Completes p bytes 0 (before_member (limited_section l) i) [] None (from + 1) (in_them i l (from + 1) (limits.Min bounded fresh))
  flagged l from bounded b is inside room =
      let place : i.more - (from + 1) ≡ i.more - from - 1 = omega arith in
      byte_on (record { left = i.left; at = in_limits l (limits.Min bounded fresh); part = None }) (begun l from b (omega arith) (omega arith)) inside (omega arith)
      (goes p l (limited_section l) i.left limits.Flag (limits.Min bounded fresh) (slice_index bytes from) is) (ap (λ n. machine.Section (limited_section l) i.counts n i.left (in_limits l (limits.Min bounded fresh))) place)

  pub limits_complete : (l : Limited) (from next : ℕ) (x : Limits) → LimitsBegin l bytes from → next ≤ i.more + 1 → LimitsLie bytes from next x
      → Completes p bytes 0 (before_member (limited_section l) i) [] (Some (part (limited_item l x))) next (machine_in_member (limited_section l) i.counts (i.more - (next - 1)) i.left at.Over)
  limits_complete l from next x b room (inl v) =
      let some : from + 1 < next = v.min.some in
      let whole : next ≤ length bytes = v.min.within in
      subst (λ y. Completes p bytes 0 (before_member (limited_section l) i) [] (Some (part (limited_item l y))) next (machine_in_member (limited_section l) i.counts (i.more - (next - 1)) i.left at.Over)) (sym v.is)
      (number_over (i.more - (next - 1)) (min_ends p l (limited_section l) i.left) v.min (flagged l from false b (ap flag_step v.flag) (omega arith) (omega arith)) (omega arith))
  limits_complete l from next x b room (inr v) =
      let some : from + 1 < v.middle = v.min.some in
      let more : v.middle < next = v.max.some in
      let whole : next ≤ length bytes = v.max.within in
      let place : i.more - v.middle ≡ i.more - (from + 1) - (v.middle - (from + 1)) = omega arith in
      let least : Completes p bytes 0 (before_member (limited_section l) i) [] None v.middle (in_them i l v.middle (limits.Max v.least fresh)) =
      number_on (min_reads p l (limited_section l) i.left) v.min (flagged l from true b (ap flag_step v.flag) (omega arith) (omega arith)) (omega arith)
      (ap (λ n. machine.Section (limited_section l) i.counts n i.left (in_limits l (limits.Max v.least fresh))) place) in
      subst (λ y. Completes p bytes 0 (before_member (limited_section l) i) [] (Some (part (limited_item l y))) next (machine_in_member (limited_section l) i.counts (i.more - (next - 1)) i.left at.Over)) (sym v.is)
      (number_over (i.more - (next - 1)) (max_ends p l (limited_section l) i.left v.least) v.max least (omega arith))
