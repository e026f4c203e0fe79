-- The fast path for an index of any length has the effect of the slow path, for the last of a list and for those
-- before.
use Rattle.std.proofs.Common.{◌≡◌, ℕ, suc, ◌+◌, ◌-◌, ◌<◌, ◌≤◌, List, [], Option, Some, None, slice_index, refl, sym, ◌∙◌, ap, subst, arith}
use Rattle.wm_syntax.specs.declared.profile.Profile.{Profile}
use Rattle.wm_syntax.specs.declared.numbers.Step.TheVariants as step
use Rattle.wm_syntax.specs.inner.Numbers.{Partial}
use Rattle.wm_syntax.specs.declared.why.Why.TheVariants as why
use Rattle.wm_syntax.specs.declared.instructions.Op.TheVariants as op
use Rattle.wm_syntax.specs.exact.Reading.{fresh, unsigned_push}
use Rattle.wm_machine.specs.declared.machine.Counts.{Counts}
use Rattle.wm_machine.specs.declared.machine.Machine.{Machine}
use Rattle.wm_machine.specs.declared.machine.Machine.TheVariants as machine
use Rattle.wm_machine.specs.declared.machine.Event.TheVariants as event
use Rattle.wm_machine.specs.declared.machine.Plain.TheVariants as plain
use Rattle.wm_machine.specs.declared.machine.member.SectionKind.{SectionKind}
use Rattle.wm_machine.specs.declared.machine.member.SectionKind.TheVariants as section_kind
use Rattle.wm_machine.specs.declared.machine.member.InMember.{InMember}
use Rattle.wm_machine.specs.declared.machine.member.InMember.TheVariants as at
use Rattle.wm_machine.specs.declared.machine.member.IndexOf.TheVariants as index_of
use Rattle.wm_machine.specs.declared.machine.member.InEntry.TheVariants as entry
use Rattle.wm_machine.specs.declared.step.expressions.InExpression.TheVariants as expression
use Rattle.wm_shortcuts.specs.declared.short_steps.Stepped.{Stepped}
use Rattle.wm_shortcuts.specs.declared.indices.IndexList.{IndexList}
use Rattle.wm_shortcuts.specs.declared.indices.IndexList.TheVariants as list
use Rattle.wm_shortcuts.specs.declared.indices.InIndices.{InIndices}
use Rattle.wm_machine.specs.exact.OpSteps.{on_answer}
use Rattle.wm_machine.specs.exact.ExpressionSteps.{after_label, expression_failed}
use Rattle.wm_machine.specs.exact.MemberSteps.{member_step, on_number, after_index, index_item, with_item_given, member_in_entry, entry_after_op, op_event}
use Rattle.wm_shortcuts.specs.exact.ShortSteps.{StepsTo}
use Rattle.wm_shortcuts.specs.exact.Completed.{Completed, Completes, with_last}
use Rattle.wm_shortcuts.specs.exact.Completed.Completed.{part}
use Rattle.wm_shortcuts.specs.exact.Completed.Completes.{no_byte}
use Rattle.wm_machine.specs.exact.Steps.{machine_in_member}
use Rattle.wm_shortcuts.specs.exact.Indices.{LiesIn, after_last, at_index, before_index, followed_in, index_part, indices_ended, indices_past, list_past, members_after, room_in}
use Rattle.wm_shortcuts.specs.exact.WholeOps.{LiesAt}
use Rattle.wm_shortcuts.proofs.NumberSteps.{NumberGoesOn, framed, number_whole}

-- where an index of a list stands after some of its bytes, with so many bytes of what it lies in to come after the next
abbrev in_index : IndexList → ℕ → Partial → InMember
in_index list.Types room r = at.Index index_of.Function r
in_index (list.Functions rest) room r = at.Index (index_of.ElementFunction rest) r
in_index (list.Labels rest depth labels) room r = at.Entry room (entry.Body (expression.Label depth labels r))

-- how many bytes of the entry that a list lies in come after the next, or of the section
abbrev space_in : ℕ → IndexList → ℕ
space_in more (list.Labels rest depth labels) = rest
space_in more l = more

-- a byte that is not its last
index_goes_on : (p : Profile) (of : SectionKind) (left : ℕ) (l : IndexList) → NumberGoesOn p of left (in_index l)
index_goes_on p of left list.Types room r s c e f more =
    ap (λ y. framed of f more left (on_number y (λ s. at.Index index_of.Function s) (λ n. with_item_given (after_index index_of.Function) (index_item index_of.Function n)) at.Failed)) e
index_goes_on p of left (list.Functions rest) room r s c e f more =
    ap (λ y. framed of f more left (on_number y (λ s. at.Index (index_of.ElementFunction rest) s) (λ n. with_item_given (after_index (index_of.ElementFunction rest)) (index_item (index_of.ElementFunction rest) n)) at.Failed)) e
index_goes_on p of left (list.Labels rest depth labels) room r s c e f more =
    ap (λ x. let y = on_answer x (λ s. (expression.Label depth labels s, None)) (λ l. (after_label depth labels, Some (op.Label l))) (expression_failed why.BadNumber)
    in framed of f more left (member_in_entry (suc room) (entry_after_op y.0), op_event plain.BodyOp y.1)) e

-- its last byte, where another index comes after it
abbrev index_done : ℕ → IndexList → ℕ → ℕ → Stepped
index_done left l room v = record { left = members_after left l 1; at = in_index (list_past l 1 1) room fresh; part = Some (index_part l v) }

types_end : (p : Profile) (of : SectionKind) (left room v : ℕ) → of ≡ section_kind.Function → 0 < left → (r s : Partial) (c : ℕ) → unsigned_push 32 r c ≡ (step.Done v, s)
    → StepsTo p of left (in_index list.Types room r) c (index_done left list.Types room v)
types_end p section_kind.Function left room v lies some r s c e f more =
    let one : left ≡ suc (left - 1) = omega arith in
    ap (λ y. framed section_kind.Function f more left (on_number y (λ s. at.Index index_of.Function s) (λ n. with_item_given (after_index index_of.Function) (index_item index_of.Function n)) at.Failed)) e
    ∙ ap (λ n. framed section_kind.Function f more n (with_item_given at.Over (plain.Function v))) one
types_end p of left room v lies some r s c e f more = cc

index_ends : (p : Profile) (of : SectionKind) (left room v : ℕ) (l : IndexList) → LiesIn of l → 0 < followed_in left l → (r s : Partial) (c : ℕ) → unsigned_push 32 r c ≡ (step.Done v, s)
    → StepsTo p of left (in_index l (suc room) r) c (index_done left l room v)
index_ends p of left room v list.Types lies some r s c e f more = types_end p of left room v lies some r s c e f more
index_ends p of left room v (list.Functions rest) lies some r s c e f more =
    let one : rest ≡ suc (rest - 1) = omega arith in
    ap (λ y. framed of f more left (on_number y (λ s. at.Index (index_of.ElementFunction rest) s) (λ n. with_item_given (after_index (index_of.ElementFunction rest)) (index_item (index_of.ElementFunction rest) n)) at.Failed)) e
    ∙ ap (λ n. framed of f more left (with_item_given (after_index (index_of.ElementFunction n)) (plain.ElementFunction v))) one
index_ends p of left room v (list.Labels rest depth labels) lies some r s c e f more =
    let one : labels ≡ suc (labels - 1) = omega arith in
    ap (λ x. let y = on_answer x (λ s. (expression.Label depth labels s, None)) (λ l. (after_label depth labels, Some (op.Label l))) (expression_failed why.BadNumber)
    in framed of f more left (member_in_entry (suc room) (entry_after_op y.0), op_event plain.BodyOp y.1)) e
    ∙ ap (λ n. framed of f more left (member_in_entry (suc room) (entry_after_op (after_label depth n)), op_event plain.BodyOp (Some (op.Label v)))) one

-- those bytes are of the section, and of the entry
in_section : (more n : ℕ) (l : IndexList) → n ≤ room_in more l → n ≤ more
in_section more n list.Types less = less
in_section more n (list.Functions rest) less = less
in_section more n (list.Labels rest depth labels) less = omega arith

in_space : (more n : ℕ) (l : IndexList) → n ≤ room_in more l → n ≤ space_in more l
in_space more n list.Types less = less
in_space more n (list.Functions rest) less = less
in_space more n (list.Labels rest depth labels) less = omega arith

-- where an index begins, and where the next one does
begins : (more : ℕ) (l : IndexList) → at_index l ≡ in_index l (space_in more l) fresh
begins more list.Types = refl
begins more (list.Functions rest) = refl
begins more (list.Labels rest depth labels) = refl

begins_next : (more n : ℕ) (l : IndexList) → at_index (list_past l n 1) ≡ in_index (list_past l 1 1) (space_in more l - n) fresh
begins_next more n list.Types = refl
begins_next more n (list.Functions rest) = refl
begins_next more n (list.Labels rest depth labels) = refl

-- after some bytes, which were some indices, they are of the same list
pub lies_past : (of : SectionKind) (l : IndexList) (i j : ℕ) → LiesIn of l → LiesIn of (list_past l i j)
lies_past of list.Types i j lies = lies
lies_past of (list.Functions rest) i j lies = tt
lies_past of (list.Labels rest depth labels) i j lies = tt

pub part_past : (l : IndexList) (i j v : ℕ) → index_part (list_past l i j) v ≡ index_part l v
part_past list.Types i j v = refl
part_past (list.Functions rest) i j v = refl
part_past (list.Labels rest depth labels) i j v = refl

module _ {p : Profile} {bytes : List ℕ} {start : ℕ} {m : Machine} {xs : List Completed} {before : Option Completed} (q : InIndices) where
  -- one index after which another comes
  one_index : {i last v : ℕ} (n : Machine) → LiesIn q.of q.list → LiesAt (unsigned_push 32) bytes i last v → last - i ≤ room_in q.more q.list → 0 < followed_in q.left q.list → Completes p bytes start m xs before i (before_index q)
      → n ≡ before_index (indices_past q (last - i) 1) → Completes p bytes start m (with_last before xs) (Some (part (index_part q.list v))) last n
  one_index {i = i} {last = last} {v = v} n lies number room some steps en =
      let order : i < last = number.some in
      let size : ℕ = last - i in
      let space : ℕ = space_in q.more q.list in
      let in_more : size ≤ q.more = in_section q.more size q.list room in
      let in_list : size ≤ space = in_space q.more size q.list room in
      number_whole (in_index q.list) (index_goes_on p q.of q.left q.list) (suc (q.more - size)) (suc (space - size)) n (Some (index_part q.list v)) number
      (subst (λ y. Completes p bytes start m xs before i (machine.Section q.of q.counts q.more q.left y)) (begins q.more q.list) steps) (omega arith) (omega arith)
      (λ r s e. index_ends p q.of q.left (space - size) v q.list lies some r s (slice_index bytes (last - 1)) e q.counts (q.more - size)
      ∙ ap (λ (y : Machine). (y, event.Complete (index_part q.list v))) (ap (λ y. machine.Section q.of q.counts (q.more - size) (members_after q.left q.list 1) y) (sym (begins_next q.more size q.list)) ∙ sym en))

-- so many more of a list, after some of it
past_again : (more left i j n : ℕ) (l : IndexList) (of : SectionKind) (f : Counts) → i ≤ n
    → before_index (indices_past (indices_past (record { of = of; counts = f; more = more; left = left; list = l }) i j) (n - i) 1)
    ≡ before_index (indices_past (record { of = of; counts = f; more = more; left = left; list = l }) n (j + 1))
past_again more left i j n list.Types of f less =
    let a : more - i - (n - i) ≡ more - n = omega arith in
    let b : left - j - 1 ≡ left - (j + 1) = omega arith in
    ap (λ y. machine.Section of f y (left - j - 1) (at_index list.Types)) a ∙ ap (λ y. machine.Section of f (more - n) y (at_index list.Types)) b
past_again more left i j n (list.Functions rest) of f less =
    let a : more - i - (n - i) ≡ more - n = omega arith in
    let b : rest - j - 1 ≡ rest - (j + 1) = omega arith in
    ap (λ y. machine.Section of f y left (at_index (list.Functions (rest - j - 1)))) a ∙ ap (λ y. machine.Section of f (more - n) left (at_index (list.Functions y))) b
past_again more left i j n (list.Labels rest depth labels) of f less =
    let a : more - i - (n - i) ≡ more - n = omega arith in
    let b : labels - j - 1 ≡ labels - (j + 1) = omega arith in
    let d : rest - i - (n - i) ≡ rest - n = omega arith in
    ap (λ y. machine.Section of f y left (at_index (list.Labels (rest - i - (n - i)) depth (labels - j - 1)))) a
    ∙ (ap (λ y. machine.Section of f (more - n) left (at_index (list.Labels (rest - i - (n - i)) depth y))) b
    ∙ ap (λ y. machine.Section of f (more - n) left (at_index (list.Labels y depth (labels - (j + 1))))) d)

room_past : (more i j n : ℕ) (l : IndexList) → n ≤ room_in more l → n - i ≤ room_in (more - i) (list_past l i j)
room_past more i j n list.Types less = omega arith
room_past more i j n (list.Functions rest) less = omega arith
room_past more i j n (list.Labels rest depth labels) less = omega arith

followed_past : (left i j : ℕ) (l : IndexList) → j < followed_in left l → 0 < followed_in (members_after left l j) (list_past l i j)
followed_past left i j list.Types less = omega arith
followed_past left i j (list.Functions rest) less = omega arith
followed_past left i j (list.Labels rest depth labels) less = omega arith

-- before the first of them
pub indices_start : (q : InIndices) → before_index (indices_past q 0 0) ≡ before_index q
indices_start q = by q.of q.counts q.more q.left q.list
  where
    none : (n : ℕ) → n - 0 ≡ n
    none n = omega arith

    by : (of : SectionKind) (f : Counts) (more left : ℕ) (l : IndexList) → before_index (indices_past (record { of = of; counts = f; more = more; left = left; list = l }) 0 0)
        ≡ before_index (record { of = of; counts = f; more = more; left = left; list = l })
    by of f more left list.Types =
        ap (λ y. machine.Section of f y (left - 0) (at_index list.Types)) (none more) ∙ ap (λ y. machine.Section of f more y (at_index list.Types)) (none left)
    by of f more left (list.Functions rest) =
        ap (λ y. machine.Section of f y left (at_index (list.Functions (rest - 0)))) (none more) ∙ ap (λ y. machine.Section of f more left (at_index (list.Functions y))) (none rest)
    by of f more left (list.Labels rest depth labels) =
        ap (λ y. machine.Section of f y left (at_index (list.Labels (rest - 0) depth (labels - 0)))) (none more)
        ∙ (ap (λ y. machine.Section of f more left (at_index (list.Labels y depth (labels - 0)))) (none rest)
        ∙ ap (λ y. machine.Section of f more left (at_index (list.Labels rest depth y))) (none labels))

module _ {p : Profile} {bytes : List ℕ} {start : ℕ} {m : Machine} {xs : List Completed} {before : Option Completed} (q : InIndices) where
  -- one more index of a list
  pub index_completes : (i j : ℕ) {last v : ℕ} → LiesIn q.of q.list → LiesAt (unsigned_push 32) bytes i last v → last ≤ room_in q.more q.list → j < followed_in q.left q.list → Completes p bytes start m xs before i (before_index (indices_past q i j))
      → Completes p bytes start m (with_last before xs) (Some (part (index_part q.list v))) last (before_index (indices_past q last (j + 1)))
  index_completes i j {last = last} {v = v} lies number room some steps =
      let order : i < last = number.some in
      subst (λ y. Completes p bytes start m (with_last before xs) (Some (part y)) last (before_index (indices_past q last (j + 1)))) (part_past q.list i j v)
      (one_index (indices_past q i j) (before_index (indices_past q last (j + 1))) (lies_past q.of q.list i j lies) number (room_past q.more i j last q.list room) (followed_past q.left i j q.list some) steps
      (sym (past_again q.more q.left i j last q.list q.of q.counts (omega arith))))

-- the last byte of the last index
index_over : (p : Profile) (left all n v : ℕ) (l : IndexList) → followed_in left l ≡ 0 → (r s : Partial) (c : ℕ) → unsigned_push 32 r c ≡ (step.Done v, s)
    → member_step p (in_index l (space_in all l - n) r) c ≡ (after_last l n, event.Complete (index_part l v))
index_over p left all n v list.Types none r s c e =
    ap (λ y. on_number y (λ s. at.Index index_of.Function s) (λ n. with_item_given (after_index index_of.Function) (index_item index_of.Function n)) at.Failed) e
index_over p left all n v (list.Functions rest) none r s c e =
    ap (λ y. on_number y (λ s. at.Index (index_of.ElementFunction rest) s) (λ n. with_item_given (after_index (index_of.ElementFunction rest)) (index_item (index_of.ElementFunction rest) n)) at.Failed) e
    ∙ ap (λ y. (after_index (index_of.ElementFunction y), event.Complete (plain.ElementFunction v))) none
index_over p left all n v (list.Labels rest depth labels) none r s c e =
    ap (λ x. let y = on_answer x (λ s. (expression.Label depth labels s, None)) (λ l. (after_label depth labels, Some (op.Label l))) (expression_failed why.BadNumber)
    in (member_in_entry (rest - n) (entry_after_op y.0), op_event plain.BodyOp y.1)) e
    ∙ ap (λ y. (member_in_entry (rest - n) (entry_after_op (after_label depth y)), op_event plain.BodyOp (Some (op.Label v)))) none

-- the last index
pub last_index_completes : {p : Profile} {bytes : List ℕ} (q : InIndices) {last v : ℕ} → LiesAt (unsigned_push 32) bytes 0 last v → last - 1 ≤ room_in q.more q.list → followed_in q.left q.list ≡ 0
    → Completes p bytes 0 (before_index q) [] (Some (part (index_part q.list v))) last (indices_ended q (last - 1))
last_index_completes {p = p} {bytes = bytes} q {last = last} {v = v} number room none =
    let order : 0 < last = number.some in
    let a : last - 1 ≤ q.more = in_section q.more (last - 1) q.list room in
    let b : last - 1 ≤ space_in q.more q.list = in_space q.more (last - 1) q.list room in
    number_whole (in_index q.list) (index_goes_on p q.of q.left q.list) (q.more - (last - 1)) (space_in q.more q.list - (last - 1)) (indices_ended q (last - 1)) (Some (index_part q.list v)) number
    (subst (λ y. Completes p bytes 0 (before_index q) [] None 0 (machine.Section q.of q.counts q.more q.left y)) (begins q.more q.list) no_byte) (omega arith) (omega arith)
    (λ r s e. ap (λ y. (machine_in_member q.of q.counts (q.more - (last - 1)) q.left y.0, y.1)) (index_over p q.left q.more (last - 1) v q.list none r s (slice_index bytes (last - 1)) e))
