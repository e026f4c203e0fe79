-- The fast path for the head of a segment has the effect of the slow path.
use Rattle.std.proofs.Common.{◌≡◌, ℕ, ◌+◌, ◌-◌, ◌<◌, ◌≤◌, List, [], ◌∷◌, Some, None, length, slice_index, refl, sym, ◌∙◌, ap, subst, arith, Bool, true, false}
use Rattle.wm_syntax.specs.declared.profile.Feature.TheVariants.{BulkMemory}
use Rattle.wm_syntax.specs.Profiles.{has}
use Rattle.wm_shortcuts.proofs.WholeNumbers.{u32_one}
use Rattle.wm_syntax.specs.declared.profile.Profile.{Profile}
use Rattle.wm_syntax.specs.declared.instructions.Op.{Op}
use Rattle.wm_syntax.specs.declared.instructions.Op.TheVariants as op
use Rattle.wm_syntax.specs.exact.Reading.{fresh, unsigned_push}
use Rattle.wm_machine.specs.declared.machine.Machine.{Machine}
use Rattle.wm_machine.specs.declared.machine.Machine.TheVariants as machine
use Rattle.wm_machine.specs.declared.machine.Event.TheVariants as event
use Rattle.wm_machine.specs.declared.machine.Plain.TheVariants as plain
use Rattle.wm_machine.specs.declared.machine.member.SectionKind.{SectionKind}
use Rattle.wm_machine.specs.declared.machine.member.SegmentKind.{SegmentKind}
use Rattle.wm_machine.specs.declared.machine.member.SegmentKind.TheVariants as segment
use Rattle.wm_machine.specs.declared.machine.member.LengthOf.{LengthOf}
use Rattle.wm_machine.specs.declared.machine.member.InMember.TheVariants as at
use Rattle.wm_shortcuts.specs.declared.in_section.InSection.{InSection}
use Rattle.wm_shortcuts.specs.declared.short_steps.Stepped.{Stepped}
use Rattle.wm_machine.specs.exact.Steps.{machine_in_member}
use Rattle.wm_machine.specs.exact.ExpressionSteps.{at_next_op}
use Rattle.wm_machine.specs.exact.MemberSteps.{constant_over, index_item, list_or_over, on_number, segment_begun, segment_index, segment_unfinished, with_item_given}
use Rattle.wm_shortcuts.specs.exact.Segments.{offset_of, section_of, size_of}
use Rattle.wm_shortcuts.specs.exact.ShortSteps.{StepsTo}
use Rattle.wm_shortcuts.specs.exact.Completed.{Completed, Completes}
use Rattle.wm_shortcuts.specs.exact.Completed.Completed.{part}
use Rattle.wm_shortcuts.specs.exact.Completed.Completes.{no_byte}
use Rattle.wm_shortcuts.specs.exact.WholeMembers.{before_member}
use Rattle.wm_shortcuts.specs.exact.WholeOps.{LiesAt, WholeOp}
use Rattle.wm_shortcuts.proofs.Completed.{byte_on}
use Rattle.wm_shortcuts.proofs.NumberSteps.{EndsWithNumber, framed, number_over}
use Rattle.wm_shortcuts.proofs.WholeMembers.{constant_closed, constant_completes}

-- a byte 00 at the front of a segment, with and without flags
zero_begins : (flagged : Bool) (s : SegmentKind) → segment_begun flagged s 0 ≡ with_item_given (at.Constant (offset_of s) (at_next_op 0)) (index_item (segment_index s) 0)
zero_begins false segment.Element = refl
zero_begins false segment.Data = refl
zero_begins true segment.Element = refl
zero_begins true segment.Data = refl

-- the state and the item after it
abbrev begun : SegmentKind → ℕ → Stepped
begun s left = record { left = left; at = at.Constant (offset_of s) (at_next_op 0); part = Some (index_item (segment_index s) 0) }

zero_steps : (p : Profile) (s : SegmentKind) (left c : ℕ) → c ≡ 0 → StepsTo p (section_of s) left (at.SegmentStart s fresh) c (begun s left)
zero_steps p s left c z f more =
    let flagged = has p BulkMemory in
    ap (λ y. framed (section_of s) f more left (on_number y (segment_unfinished flagged s) (segment_begun flagged s) at.Failed)) (ap (unsigned_push 32 fresh) z ∙ u32_one 0 (omega arith))
    ∙ ap (framed (section_of s) f more left) (zero_begins flagged s)

-- the end of the offset
offset_over : (s : SegmentKind) → constant_over (offset_of s) ≡ at.Length (size_of s) fresh
offset_over segment.Element = refl
offset_over segment.Data = refl

offset_ends : (p : Profile) (s : SegmentKind) (left c : ℕ) → c ≡ 0x0B
    → StepsTo p (section_of s) left (at.Constant (offset_of s) (at_next_op 0)) c (record { left = left; at = at.Length (size_of s) fresh; part = Some (plain.ConstOp op.End) })
offset_ends p s left c is f more =
    ap (framed (section_of s) f more left) (constant_closed p (offset_of s) c is)
    ∙ ap (λ y. framed (section_of s) f more left (y, event.Complete (plain.ConstOp op.End))) (offset_over s)

-- the count of functions, or the length
size_ends : (p : Profile) (of : SectionKind) (long : LengthOf) (left : ℕ) → EndsWithNumber p of left (λ r. at.Length long r) (λ v. list_or_over long v) (λ v. None)
size_ends p of long left = record {
  goes_on = λ r s c e f more. ap (λ y. framed of f more left (on_number y (λ s. at.Length long s) (λ n. (list_or_over long n, event.Nothing)) at.Failed)) e;
  ends = λ r s c v e. ap (λ y. on_number y (λ s. at.Length long s) (λ n. (list_or_over long n, event.Nothing)) at.Failed) e;
}

-- in a head, after so many bytes of it, and the item of its first byte
abbrev in_offset : SegmentKind → InSection → ℕ → Machine
in_offset s i used = machine.Section (section_of s) i.counts (i.more - used) i.left (at.Constant (offset_of s) (at_next_op 0))

abbrev before_size : SegmentKind → InSection → ℕ → Machine
before_size s i used = machine.Section (section_of s) i.counts (i.more - used) i.left (at.Length (size_of s) fresh)

abbrev item : SegmentKind → Completed
item s = part (index_item (segment_index s) 0)

-- a head at the front: its first byte, its offset, the end of its offset, and its size
module _ {p : Profile} {bytes : List ℕ} (s : SegmentKind) (i : InSection) (within : 0 < length bytes) (zero : slice_index bytes 0 ≡ 0) where
  pub head_begun : 1 ≤ i.more → Completes p bytes 0 (before_member (section_of s) i) [] (Some (item s)) 1 (in_offset s i 1)
  head_begun room = by s room
    where
      by : (s : SegmentKind) → 1 ≤ i.more → Completes p bytes 0 (before_member (section_of s) i) [] (Some (item s)) 1 (in_offset s i 1)
      by segment.Element room = byte_on (begun segment.Element i.left) no_byte within (omega arith) (zero_steps p segment.Element i.left (slice_index bytes 0) zero) refl
      by segment.Data room = byte_on (begun segment.Data i.left) no_byte within (omega arith) (zero_steps p segment.Data i.left (slice_index bytes 0) zero) refl

  module _ {stop : ℕ} {o : Op} (whole : WholeOp bytes 1 stop 0 0 o) (room : stop ≤ i.more) where
    pub head_offset : Completes p bytes 0 (before_member (section_of s) i) (item s ∷ []) (Some (part (plain.ConstOp o))) stop (in_offset s i stop)
    head_offset =
        let some : 1 < stop = whole.some in
        let place : i.more - stop ≡ i.more - 1 - (stop - 1) = omega arith in
        constant_completes (in_offset s i stop) whole (head_begun (omega arith)) (omega arith) (ap (λ y. machine.Section (section_of s) i.counts y i.left (at.Constant (offset_of s) (at_next_op 0))) place)

    module _ (byte : slice_index bytes stop ≡ 0x0B) (inside : stop < length bytes) (more : stop < i.more) where
      pub head_closed : Completes p bytes 0 (before_member (section_of s) i) (part (plain.ConstOp o) ∷ item s ∷ []) (Some (part (plain.ConstOp op.End))) (stop + 1) (before_size s i (stop + 1))
      head_closed =
          let place : i.more - (stop + 1) ≡ i.more - stop - 1 = omega arith in
          byte_on (record { left = i.left; at = at.Length (size_of s) fresh; part = Some (plain.ConstOp op.End) }) head_offset inside (omega arith) (offset_ends p s i.left (slice_index bytes stop) byte)
          (ap (λ y. machine.Section (section_of s) i.counts y i.left (at.Length (size_of s) fresh)) place)

      pub head_sized : {n next : ℕ} (rest : ℕ) → LiesAt (unsigned_push 32) bytes (stop + 1) next n → next + rest ≡ i.more + 1
          → Completes p bytes 0 (before_member (section_of s) i) (part (plain.ConstOp op.End) ∷ part (plain.ConstOp o) ∷ item s ∷ []) None next (machine_in_member (section_of s) i.counts rest i.left (list_or_over (size_of s) n))
      head_sized rest size room = number_over rest (size_ends p (section_of s) (size_of s) i.left) size head_closed (omega arith)
