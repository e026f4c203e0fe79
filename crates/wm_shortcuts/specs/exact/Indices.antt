-- Exact answers about consecutive indices, as the slow path reads them.
use Rattle.std.specs.Prelude.{◌≡◌, ◌≢◌, ℕ, ◌+◌, ◌-◌, ◌<◌, min, List, length, map, take, slice_index, Result}
use Rattle.std.specs.Prelude.{Ok, Err, Option, Some, None}
use Rattle.wm_syntax.specs.declared.why.Why.{Why}
use Rattle.wm_syntax.specs.declared.why.Why.TheVariants as why
use Rattle.wm_syntax.specs.declared.instructions.Op.TheVariants as op
use Rattle.wm_syntax.specs.exact.Reading.{fresh}
use Rattle.wm_machine.specs.declared.machine.Machine.{Machine}
use Rattle.wm_machine.specs.declared.machine.Machine.TheVariants as machine
use Rattle.wm_machine.specs.declared.machine.Plain.{Plain}
use Rattle.wm_machine.specs.declared.machine.Plain.TheVariants as plain
use Rattle.wm_machine.specs.declared.machine.member.SectionKind.{SectionKind}
use Rattle.wm_machine.specs.declared.machine.member.SectionKind.TheVariants as section_kind
use Rattle.wm_machine.specs.declared.machine.member.InMember.{InMember}
use Rattle.wm_machine.specs.declared.machine.member.InMember.TheVariants as at
use Rattle.wm_machine.specs.declared.machine.member.IndexOf.TheVariants as index_of
use Rattle.wm_machine.specs.declared.machine.member.InEntry.TheVariants as entry
use Rattle.wm_machine.specs.declared.step.expressions.InExpression.TheVariants as expression
use Rattle.wm_shortcuts.specs.declared.indices.IndexList.{IndexList}
use Rattle.wm_shortcuts.specs.declared.indices.IndexList.TheVariants as list
use Rattle.wm_shortcuts.specs.declared.indices.InIndices.{InIndices}
use Rattle.wm_machine.specs.Items.{Item}
use Rattle.wm_machine.specs.Sinks.{all_taken}
use Rattle.wm_machine.specs.exact.Runs.{plain_item}
use Rattle.wm_machine.specs.exact.Steps.{machine_in_member}
use Rattle.wm_machine.specs.exact.ExpressionSteps.{at_next_op}
use Rattle.wm_machine.specs.exact.MemberSteps.{member_in_entry}

-- the state in a member before an index of this list
abbrev pub at_index : IndexList → InMember
at_index list.Types = at.Index index_of.Function fresh
at_index (list.Functions rest) = at.Index (index_of.ElementFunction rest) fresh
at_index (list.Labels rest depth labels) = at.Entry rest (entry.Body (expression.Label depth labels fresh))

-- type indices are in the function section
abbrev pub LiesIn : SectionKind → IndexList → Type 0
LiesIn of list.Types = of ≡ section_kind.Function
LiesIn of x = Unit {0}

-- the machine before an index
abbrev pub before_index : InIndices → Machine
before_index i = machine.Section i.of i.counts i.more i.left (at_index i.list)

-- how many bytes come after the next in the section, and for labels in the entry too
abbrev pub room_in : ℕ → IndexList → ℕ
room_in more (list.Labels rest depth labels) = min more rest
room_in more x = more

abbrev pub index_room : InIndices → ℕ
index_room i = room_in i.more i.list

-- how many indices to come are followed by another of the list
abbrev pub followed_in : ℕ → IndexList → ℕ
followed_in left list.Types = left
followed_in left (list.Functions rest) = rest
followed_in left (list.Labels rest depth labels) = labels

abbrev pub followed_indices : InIndices → ℕ
followed_indices i = followed_in i.left i.list

-- the greatest number of one-byte indices such that another index follows each, and another byte of section and entry
abbrev pub most_indices : InIndices → ℕ
most_indices i = min (room_in i.more i.list) (followed_in i.left i.list)

-- how many members come after the next, once n indices are read
abbrev pub members_after : ℕ → IndexList → ℕ → ℕ
members_after left list.Types n = left - n
members_after left x n = left

-- the list after `used` bytes, which were n indices
abbrev pub list_past : IndexList → ℕ → ℕ → IndexList
list_past list.Types used n = list.Types
list_past (list.Functions rest) used n = list.Functions (rest - n)
list_past (list.Labels rest depth labels) used n = list.Labels (rest - used) depth (labels - n)

abbrev pub indices_past : InIndices → ℕ → ℕ → InIndices
indices_past i used n = record i {
  more = i.more - used;
  left = members_after i.left i.list n;
  list = list_past i.list used n;
}

-- the counts after n indices of one byte each
abbrev pub indices_after : InIndices → ℕ → InIndices
indices_after i n = indices_past i n n

-- the state in a member after the last index of a list, which has n bytes before its last byte
abbrev pub after_last : IndexList → ℕ → InMember
after_last (list.Labels rest depth labels) n = member_in_entry (rest - n) (entry.Body (at_next_op depth))
after_last l n = at.Over

-- the machine after the last index, which has n bytes before its last byte
abbrev pub indices_ended : InIndices → ℕ → Machine
indices_ended i n = machine_in_member i.of i.counts (i.more - n) i.left (after_last i.list n)

abbrev pub index_part : IndexList → ℕ → Plain
index_part list.Types x = plain.Function x
index_part (list.Functions rest) x = plain.ElementFunction x
index_part (list.Labels rest depth labels) x = plain.BodyOp (op.Label x)

abbrev pub index_item_in : IndexList → ℕ → Item
index_item_in l x = plain_item (index_part l x)

-- a sink took an item for each of these bytes, or for those before one that it refused
abbrev pub GaveEach : {H : Type 0} → (H → Item → Result H Why) → (ℕ → Item) → List ℕ → H → ℕ → Option Why → H
    → Type 0
GaveEach after item bytes h used None g = (used ≡ length bytes) × (all_taken after h (map item bytes) ≡ Ok g)
GaveEach {H} after item bytes h used (Some w) g =
    (k : ℕ) × (f : H) × (used ≡ k + 1) × (k < length bytes)
    × (all_taken after h (map item (take k bytes)) ≡ Ok f)
    × (w ≢ why.Memory → after f (item (slice_index bytes k)) ≡ Err w)
