-- What the number at the front of a segment leads to, case by case.
use Rattle.std.proofs.Common.{ℕ, zero, suc, Bool, true, false, nat_le}
use Rattle.std.proofs.lemmas.Bool.{cond_both}
use Rattle.wm_syntax.specs.exact.Reading.{fresh}
use Rattle.wm_syntax.specs.inner.Numbers.{Partial}
use Rattle.wm_syntax.specs.declared.why.Why.TheVariants as why
use Rattle.wm_machine.specs.declared.machine.Plain.TheVariants as plain
use Rattle.wm_machine.specs.declared.machine.Event.{Event}
use Rattle.wm_machine.specs.declared.machine.Event.TheVariants as event
use Rattle.wm_machine.specs.declared.machine.member.ConstantOf.TheVariants as constant
use Rattle.wm_machine.specs.declared.machine.member.IndexOf.TheVariants as index
use Rattle.wm_machine.specs.declared.machine.member.SegmentKind.{SegmentKind}
use Rattle.wm_machine.specs.declared.machine.member.SegmentKind.TheVariants as segments
use Rattle.wm_machine.specs.declared.machine.member.LengthOf.TheVariants as length_of
use Rattle.wm_machine.specs.declared.machine.member.InMember.{InMember}
use Rattle.wm_machine.specs.declared.machine.member.InMember.TheVariants as at
use Rattle.wm_machine.specs.exact.ExpressionSteps.{start}
use Rattle.wm_machine.specs.exact.MemberSteps.{segment_begun, segment_unfinished}

-- The state after an active segment's number, and the flag before an index. A passive segment continues with its bytes,
-- or with the kind of its elements.
abbrev pub active_element : InMember
active_element = at.Constant constant.Element start

abbrev pub indexed_element : InMember
indexed_element = at.Index index.Element fresh

abbrev pub active_data : InMember
active_data = at.Constant constant.Segment start

abbrev pub passive_data : InMember
passive_data = at.Length length_of.Bytes fresh

abbrev pub indexed_data : InMember
indexed_data = at.Index index.Segment fresh

abbrev pub refused : InMember
refused = at.Failed why.BadNumber

pub unfinished_any : (P : InMember → Type 0) (flagged : Bool) (of : SegmentKind) (r : Partial) → P (at.SegmentStart of r) → P refused → P (segment_unfinished flagged of r)
unfinished_any P false of r some none = some
unfinished_any P true of r some none = cond_both (nat_le r.low 2) _ _ P (λ _. some) (λ _. none)

module _ (P : InMember × Event → Type 0)
    (one : (n : ℕ) → P (active_element, event.Complete (plain.Element n))) (two : P (at.ElementKind, event.Complete plain.PassiveElement)) (three : P (indexed_element, event.Nothing))
    (four : (n : ℕ) → P (active_data, event.Complete (plain.Segment n))) (five : P (passive_data, event.Complete plain.PassiveSegment)) (six : P (indexed_data, event.Nothing))
    (none : P (refused, event.Nothing)) where
  pub begun_any : (flagged : Bool) (of : SegmentKind) (n : ℕ) → P (segment_begun flagged of n)
  begun_any false segments.Element n = one n
  begun_any false segments.Data n = four n
  begun_any true segments.Element zero = one 0
  begun_any true segments.Data zero = four 0
  begun_any true segments.Element (suc zero) = two
  begun_any true segments.Data (suc zero) = five
  begun_any true segments.Element (suc (suc zero)) = three
  begun_any true segments.Data (suc (suc zero)) = six
  begun_any true of (suc (suc (suc n))) = none

-- the same of the state alone
pub begun_state : (P : InMember → Type 0) → P active_element → P at.ElementKind → P indexed_element → P active_data → P passive_data → P indexed_data → P refused
    → (flagged : Bool) (of : SegmentKind) (n : ℕ) → P (segment_begun flagged of n).0
begun_state P one two three four five six none = begun_any (λ q. P q.0) (λ n. one) two three (λ n. four) five six none
