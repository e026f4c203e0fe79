-- The fast path for one byte has the effect of the slow path.
use Rattle.std.proofs.Common.{◌≡◌, ℕ, zero, suc, ◌+◌, ◌-◌, ◌<◌, inl, Option, Some, None, List, Result, Err, length, refl, sym, ◌∙◌, ap, subst, drop, slice_index, cond, arith}
use Rattle.std.proofs.lemmas.Bool.{lt-ltb}
use Rattle.std.proofs.lemmas.List.{drop_more}
use Rattle.wm_syntax.specs.declared.profile.Profile.{Profile}
use Rattle.wm_syntax.specs.declared.why.Why.{Why}
use Rattle.wm_syntax.specs.declared.why.Why.TheVariants as why
use Rattle.wm_syntax.specs.declared.instructions.Op.TheVariants as op
use Rattle.wm_syntax.specs.exact.Reading.{fresh}
use Rattle.wm_syntax.specs.inner.Numbers.{Partial}
use Rattle.wm_machine.specs.declared.machine.Counts.{Counts}
use Rattle.wm_machine.specs.declared.machine.Machine.{Machine}
use Rattle.wm_machine.specs.declared.machine.Machine.TheVariants as machine
use Rattle.wm_machine.specs.declared.machine.Event.{Event}
use Rattle.wm_machine.specs.declared.machine.Event.TheVariants as event
use Rattle.wm_machine.specs.declared.machine.Plain.{Plain}
use Rattle.wm_machine.specs.declared.machine.Plain.TheVariants as plain
use Rattle.wm_machine.specs.declared.machine.member.SectionKind.{SectionKind}
use Rattle.wm_machine.specs.declared.machine.member.SectionKind.TheVariants as section_kind
use Rattle.wm_machine.specs.declared.machine.member.InMember.{InMember}
use Rattle.wm_machine.specs.declared.machine.member.InMember.TheVariants as at
use Rattle.wm_machine.specs.declared.machine.member.InEntry.TheVariants as entry
use Rattle.wm_machine.specs.declared.step.expressions.InExpression.TheVariants as expression
use Rattle.wm_machine.specs.declared.step.ops.InOp.{InOp}
use Rattle.wm_machine.specs.declared.step.ops.InOp.TheVariants as in_op
use Rattle.wm_shortcuts.specs.declared.short_steps.Stepped.{Stepped}
use Rattle.wm_machine.specs.Items.{Item}
use Rattle.wm_machine.specs.Sinks.{and_then}
use Rattle.wm_machine.specs.exact.Steps.{step_of, machine_in_member}
use Rattle.wm_machine.specs.exact.MemberSteps.{member_in_entry, entry_after_op, op_event}
use Rattle.wm_machine.specs.exact.ExpressionSteps.{after_reading}
use Rattle.wm_shortcuts.specs.exact.ShortSteps.{StepsTo, part_event}
use Rattle.wm_shortcuts.specs.exact.Completed.{LastMayRunOut, completed_part}
use Rattle.wm_machine.specs.exact.Live.{MayRunOutAtByte, MayRunOutAtEvent, live_from, event_effect, decoder_after}
use Rattle.wm_shortcuts.specs.exact.Shortcuts.{live_so}
use Rattle.wm_shortcuts.proofs.OpLists.{is_alone}

-- the end of a body, where another entry comes after this one
pub last_end : (p : Profile) (f : Counts) (more left : ℕ)
    → step_of p (machine.Section section_kind.Code f (suc more) (suc left) (at.Entry 0 (entry.Body (expression.Op 0 in_op.First)))) 0x0B
    ≡ (machine.Section section_kind.Code f more left (at.EntrySize fresh), event.Complete (plain.BodyOp op.End))
last_end p f more left =
    ap (λ y. (machine_in_member section_kind.Code f (suc more) (suc left) (member_in_entry 0 (entry_after_op (after_reading 0 y).0)), op_event plain.BodyOp (after_reading 0 y).1)) (is_alone p 0x0B op.End refl)

-- the same for what the code knows
pub last_steps : (p : Profile) (left more depth c : ℕ) (q : InOp) (r : Partial) → q ≡ in_op.First → c ≡ 0x0B → depth ≡ 0 → more ≡ 0 → 0 < left → r ≡ fresh
    → StepsTo p section_kind.Code left (at.Entry more (entry.Body (expression.Op depth q))) c (record { left = left - 1; at = at.EntrySize r; part = Some (plain.BodyOp op.End) })
last_steps p zero more depth c q r eq ec ed em less er = absurd (omega arith)
last_steps p (suc l) more depth c q r eq ec ed em less er = λ f n.
    let one : l ≡ suc l - 1 = omega arith in
    ap (λ y. step_of p (machine.Section section_kind.Code f (suc n) (suc l) (at.Entry more (entry.Body (expression.Op depth y)))) c) eq
    ∙ (ap (λ y. step_of p (machine.Section section_kind.Code f (suc n) (suc l) (at.Entry more (entry.Body (expression.Op depth in_op.First)))) y) ec
    ∙ (ap (λ y. step_of p (machine.Section section_kind.Code f (suc n) (suc l) (at.Entry more (entry.Body (expression.Op y in_op.First)))) 0x0B) ed
    ∙ (ap (λ y. step_of p (machine.Section section_kind.Code f (suc n) (suc l) (at.Entry y (entry.Body (expression.Op 0 in_op.First)))) 0x0B) em
    ∙ (last_end p f n l
    ∙ (ap (λ y. (machine.Section section_kind.Code f n y (at.EntrySize fresh), event.Complete (plain.BodyOp op.End))) one
    ∙ ap (λ y. (machine.Section section_kind.Code f n (suc l - 1) (at.EntrySize y), event.Complete (plain.BodyOp op.End))) (sym er))))))

-- the first of some bytes, after which the section goes on
module _ {H : Type 0} (after : H → Item → Result H Why) (p : Profile) (limit : ℕ) where
  pub first_step : (bytes : List ℕ) (m n : Machine) (e : Event) (name : List ℕ) (h : H) (k : ℕ) → 0 < length bytes → k < limit
      → step_of p m (slice_index bytes 0) ≡ (n, e)
      → decoder_after after p limit (live_so m name h k) bytes
      ≡ and_then (live_from n (k + 1) (event_effect after e name (slice_index bytes 0) h)) (λ l. decoder_after after p limit l (drop 1 bytes))
  first_step bytes m n e name h k some less step =
      ap (λ (z : List ℕ). decoder_after after p limit (live_so m name h k) z) (drop_more bytes 0 0 some)
      ∙ (ap (λ y. and_then (cond y (live_from (step_of p m (slice_index bytes 0)).0 (k + 1) (event_effect after (step_of p m (slice_index bytes 0)).1 name (slice_index bytes 0) h)) (Err (record { at = limit + 1; why = why.TooLong }))) (λ l. decoder_after after p limit l (drop 1 bytes))) (lt-ltb k limit less)
      ∙ ap (λ y. and_then (live_from y.0 (k + 1) (event_effect after y.1 name (slice_index bytes 0) h)) (λ l. decoder_after after p limit l (drop 1 bytes))) step)

-- memory may run out at what was completed
pub part_room : {H : Type 0} (may : H → Item → Type 0) (p : Profile) (m n : Machine) (part : Option Plain) (name : List ℕ) (h : H) (k c : ℕ)
    → step_of p m c ≡ (n, part_event part) → LastMayRunOut may (completed_part part) h → MayRunOutAtByte may p (live_so m name h k) c
part_room may p m n part name h k c step room = inl (subst (λ y. MayRunOutAtEvent may y.1 name c h) (sym step) (at_event part room))
  where
    at_event : (part : Option Plain) → LastMayRunOut may (completed_part part) h → MayRunOutAtEvent may (part_event part) name c h
    at_event (Some x) r = r
    at_event None r = absurd r

-- the same place, by what is known of it
pub steps_so : (p : Profile) (of kind : SectionKind) (left : ℕ) (q r : InMember) (c : ℕ) (s : Stepped) → of ≡ kind → q ≡ r → StepsTo p kind left r c s → StepsTo p of left q c s
steps_so p of kind left q r c s e f h = subst (λ y. StepsTo p y left q c s) (sym e) (subst (λ y. StepsTo p kind left y c s) (sym f) h)
