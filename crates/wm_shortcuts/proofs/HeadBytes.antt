-- The fast path for the head of a code entry has the effect of the slow path.
use Rattle.std.proofs.Common.{◌≡◌, ℕ, zero, suc, ◌+◌, ◌-◌, ◌*◌, ◌^◌, ◌<◌, ◌≤◌, List, [], ◌∷◌, Some, None, Ok, inl, inr, length, slice_index, refl, sym, ◌∙◌, ap, subst, arith}
use Rattle.wm_syntax.specs.declared.profile.Profile.{Profile}
use Rattle.wm_syntax.specs.declared.types.ValType.{ValType}
use Rattle.wm_syntax.specs.exact.Reading.{fresh, unsigned_push}
use Rattle.wm_syntax.specs.declared.numbers.Step.{Step}
use Rattle.wm_syntax.specs.inner.Numbers.{Partial}
use Rattle.wm_shortcuts.specs.exact.WholeOps.{LiesAt}
use Rattle.wm_machine.specs.declared.machine.Counts.{Counts}
use Rattle.wm_machine.specs.declared.machine.Machine.{Machine}
use Rattle.wm_machine.specs.declared.machine.Machine.TheVariants as machine
use Rattle.wm_machine.specs.declared.machine.Event.{Event}
use Rattle.wm_machine.specs.declared.machine.Event.TheVariants as event
use Rattle.wm_machine.specs.declared.machine.Plain.TheVariants as plain
use Rattle.wm_machine.specs.declared.machine.member.SectionKind.TheVariants as section_kind
use Rattle.wm_machine.specs.declared.machine.member.InMember.TheVariants as at
use Rattle.wm_machine.specs.declared.machine.member.InEntry.{InEntry}
use Rattle.wm_machine.specs.declared.machine.member.InEntry.TheVariants as entry
use Rattle.wm_machine.specs.declared.step.reading.Reading.{Reading}
use Rattle.wm_machine.specs.declared.step.values.InRun.{InRun}
use Rattle.wm_machine.specs.declared.step.values.InRun.TheVariants as run
use Rattle.wm_shortcuts.specs.declared.heads.InHead.{InHead}
use Rattle.wm_shortcuts.specs.declared.in_section.InSection.{InSection}
use Rattle.wm_shortcuts.specs.declared.short_steps.Stepped.{Stepped}
use Rattle.wm_machine.specs.exact.MemberSteps.{member_in_entry, on_number, on_value, runs_or_body, with_item_given}
use Rattle.wm_machine.specs.exact.ValueSteps.{read_number, read_type, value_type_of}
use Rattle.wm_shortcuts.specs.exact.ShortSteps.{StepsTo}
use Rattle.wm_shortcuts.specs.exact.Heads.{IsShort, head_after, in_head}
use Rattle.wm_shortcuts.specs.exact.Completed.{Completes}
use Rattle.wm_shortcuts.specs.exact.Completed.Completed.{part}
use Rattle.wm_shortcuts.specs.exact.Completed.Completes.{no_byte}
use Rattle.wm_shortcuts.specs.exact.WholeMembers.{before_member}
use Rattle.wm_machine.specs.declared.step.reading.Reading.TheVariants.{More, Done}
use Rattle.wm_shortcuts.proofs.Completed.{byte_on}
use Rattle.wm_shortcuts.proofs.NumberSteps.{framed, number_whole}
use Rattle.wm_shortcuts.proofs.WholeNumbers.{u32_one, u32_short, u32_two}

pub short_one : (bytes : List ℕ) → slice_index bytes 0 < 2 ^ 7 → IsShort bytes 1 (slice_index bytes 0)
short_one bytes less = inl (refl, less, refl)

pub short_two : (bytes : List ℕ) → 2 ^ 7 ≤ slice_index bytes 0 → slice_index bytes 1 < 2 ^ 7 → IsShort bytes 2 (slice_index bytes 0 - 2 ^ 7 + slice_index bytes 1 * 2 ^ 7)
short_two bytes high less = inr (refl, high, less, refl)

-- they spell it as the byte step reads it
pub short_lies : {bytes : List ℕ} {used v : ℕ} → IsShort bytes used v → used ≤ length bytes → LiesAt (unsigned_push 32) bytes 0 used v
short_lies {bytes = bytes} {used = used} {v = v} (inl (a, less, b)) inside = subst (λ n. LiesAt (unsigned_push 32) bytes 0 n v) (sym a) (subst (LiesAt (unsigned_push 32) bytes 0 1) (sym b) (u32_short bytes 0 (omega arith) less))
short_lies {bytes = bytes} {used = used} {v = v} (inr (a, high, less, b)) inside = subst (λ n. LiesAt (unsigned_push 32) bytes 0 n v) (sym a) (subst (LiesAt (unsigned_push 32) bytes 0 2) (sym b) (u32_two bytes 0 (omega arith) high less))

-- the count of runs
at_runs : (f : Counts) (more left rest n : ℕ) (e : Event) → framed section_kind.Code f more left (member_in_entry (suc rest) (runs_or_body n), e) ≡ (machine.Section section_kind.Code f more left (at.Entry rest (runs_or_body n)), e)
at_runs f more left rest zero e = refl
at_runs f more left rest (suc n) e = refl

runs_alone : (p : Profile) (left rest c : ℕ) → 0 < rest → c < 2 ^ 7 → StepsTo p section_kind.Code left (at.Entry rest (entry.RunCount fresh)) c (record { left = left; at = at.Entry (rest - 1) (runs_or_body c); part = None })
runs_alone p left rest c some less f more =
    let one : rest ≡ suc (rest - 1) = omega arith in
    ap (λ y. framed section_kind.Code f more left (member_in_entry rest (on_number y entry.RunCount (λ n. (runs_or_body n, event.Nothing)) entry.Failed).0, (on_number y entry.RunCount (λ n. (runs_or_body n, event.Nothing)) entry.Failed).1)) (u32_one c less)
    ∙ (ap (λ n. framed section_kind.Code f more left (member_in_entry n (runs_or_body c), event.Nothing)) one
    ∙ at_runs f more left (rest - 1) c event.Nothing)

-- a run: its count and its type
abbrev run_goes : ℕ → Reading InRun (ℕ × ValType) → InEntry × Event
run_goes runs y = on_value y (entry.Run runs) (λ x. with_item_given (runs_or_body runs) (plain.Locals x.0 x.1)) entry.Failed

abbrev run_framed : Counts → ℕ → ℕ → ℕ → InEntry × Event → Machine × Event
run_framed f more left rest z = framed section_kind.Code f more left (member_in_entry rest z.0, z.1)

count_alone : (p : Profile) (left rest runs c : ℕ) → 0 < rest → c < 2 ^ 7
    → StepsTo p section_kind.Code left (at.Entry rest (entry.Run runs (run.Count fresh))) c (record { left = left; at = at.Entry (rest - 1) (entry.Run runs (run.Type c)); part = None })
count_alone p left rest runs c some less f more =
    let one : rest ≡ suc (rest - 1) = omega arith in
    ap (λ y. run_framed f more left rest (run_goes runs (read_number y run.Count (λ n. More (run.Type n))))) (u32_one c less)
    ∙ ap (λ n. framed section_kind.Code f more left (member_in_entry n (entry.Run runs (run.Type c)), event.Nothing)) one

type_alone : (p : Profile) (left rest runs n c : ℕ) (t : ValType) → 0 < rest → value_type_of p c ≡ Ok t
    → StepsTo p section_kind.Code left (at.Entry rest (entry.Run runs (run.Type n))) c (record { left = left; at = at.Entry (rest - 1) (runs_or_body runs); part = Some (plain.Locals n t) })
type_alone p left rest runs n c t some is f more =
    let one : rest ≡ suc (rest - 1) = omega arith in
    ap (λ y. run_framed f more left rest (run_goes runs (read_type y (λ t. Done (n, t))))) is
    ∙ (ap (λ m. framed section_kind.Code f more left (member_in_entry m (runs_or_body runs), event.Complete (plain.Locals n t))) one
    ∙ at_runs f more left (rest - 1) runs (event.Complete (plain.Locals n t)))

-- after the size
abbrev sized_at : InSection → ℕ → ℕ → Machine
sized_at e used v = machine.Section section_kind.Code e.counts (e.more - used) e.left (at.Entry (v - 1) (entry.RunCount fresh))

abbrev sized_by : InSection → Counts → ℕ → Step ℕ × Partial → Machine × Event
sized_by e f more y = framed section_kind.Code f more e.left (on_number y at.EntrySize (λ n. with_item_given (member_in_entry n (entry.RunCount fresh)) plain.Body) at.Failed)

module _ {p : Profile} {bytes : List ℕ} where
  module _ (e : InSection) where
    pub sized : {used v : ℕ} → IsShort bytes used v → 0 < v → used ≤ e.more → used ≤ length bytes → Completes p bytes 0 (before_member section_kind.Code e) [] (Some (part plain.Body)) used (sized_at e used v)
    sized {used = used} {v = v} short some more inside =
        let lies : LiesAt (unsigned_push 32) bytes 0 used v = short_lies short inside in
        let first : 0 < used = lies.some in
        let one : v ≡ suc (v - 1) = omega arith in
        number_whole {room = used - 1} (λ _. at.EntrySize) (λ _ r s c is f more. ap (λ y. sized_by e f more y) is) (suc (e.more - used)) 0 (sized_at e used v) (Some plain.Body) lies no_byte (omega arith) (omega arith)
        (λ r s is. ap (λ y. sized_by e e.counts (e.more - used) y) is ∙ ap (λ n. framed section_kind.Code e.counts (e.more - used) e.left (with_item_given (member_in_entry n (entry.RunCount fresh)) plain.Body)) one)

    pub head_begun : {used : ℕ} (i : InHead) → IsShort bytes used (i.rest + 2) → used < length bytes → used < e.more → slice_index bytes used ≡ i.runs → i.runs < 2 ^ 7
        → i ≡ record { counts = e.counts; more = e.more - (used + 1); left = e.left; rest = i.rest; runs = i.runs } → Completes p bytes 0 (before_member section_kind.Code e) (part plain.Body ∷ []) None (used + 1) (in_head i)
    head_begun {used = used} i size inside more count short is =
        let next : Stepped = record { left = e.left; at = at.Entry (i.rest + 2 - 1 - 1) (runs_or_body i.runs); part = None } in
        let place : e.more - (used + 1) ≡ e.more - used - 1 = omega arith in
        let less : i.rest ≡ i.rest + 2 - 1 - 1 = omega arith in
        byte_on next (sized size (omega arith) (omega arith) (omega arith)) inside (omega arith)
        (subst (λ c. StepsTo p section_kind.Code e.left (at.Entry (i.rest + 2 - 1) (entry.RunCount fresh)) c next) (sym count) (runs_alone p e.left (i.rest + 2 - 1) i.runs (omega arith) short))
        (ap in_head is
        ∙ (ap (λ n. machine.Section section_kind.Code e.counts n e.left (at.Entry i.rest (runs_or_body i.runs))) place
        ∙ ap (λ n. machine.Section section_kind.Code e.counts (e.more - used - 1) e.left (at.Entry n (runs_or_body i.runs))) less))

  -- a run of locals after others
  pub run_completes : (i : InHead) (used : ℕ) {runs all n : ℕ} {t : ValType} → all ≡ suc runs → n ≡ slice_index bytes used → n < 2 ^ 7 → value_type_of p (slice_index bytes (used + 1)) ≡ Ok t → used + 1 < length bytes → used + 2 ≤ i.more → used + 2 ≤ i.rest
      → Completes p bytes used (in_head (head_after i used all)) [] (Some (part (plain.Locals n t))) (used + 2) (in_head (head_after i (used + 2) runs))
  run_completes i used {runs = runs} {n = n} {t = t} one count short type inside section own =
      let more : ℕ = i.more - used in
      let rest : ℕ = i.rest - used in
      let counted : Stepped = record { left = i.left; at = at.Entry (rest - 1) (entry.Run runs (run.Type n)); part = None } in
      let a : i.more - (used + 2) ≡ more - 1 - 1 = omega arith in
      let b : i.rest - (used + 2) ≡ rest - 1 - 1 = omega arith in
      let end : used + 1 + 1 ≡ used + 2 = omega arith in
      subst (λ k. Completes p bytes used (in_head (head_after i used k)) [] (Some (part (plain.Locals n t))) (used + 2) (in_head (head_after i (used + 2) runs))) (sym one)
      (subst (λ k. Completes p bytes used (in_head (head_after i used (suc runs))) [] (Some (part (plain.Locals n t))) k (in_head (head_after i (used + 2) runs))) end
      (byte_on (record { left = i.left; at = at.Entry (rest - 1 - 1) (runs_or_body runs); part = Some (plain.Locals n t) })
      (byte_on counted no_byte (omega arith) (omega arith) (subst (λ c. StepsTo p section_kind.Code i.left (at.Entry rest (entry.Run runs (run.Count fresh))) c counted) count (count_alone p i.left rest runs n (omega arith) short)) refl)
      inside (omega arith) (type_alone p i.left (rest - 1) runs n (slice_index bytes (used + 1)) t (omega arith) type)
      (ap (λ x. machine.Section section_kind.Code i.counts x i.left (at.Entry (i.rest - (used + 2)) (runs_or_body runs))) a
      ∙ ap (λ x. machine.Section section_kind.Code i.counts (more - 1 - 1) i.left (at.Entry x (runs_or_body runs))) b)))

-- before the first of them
pub head_start : (i : InHead) → in_head (head_after i 0 i.runs) ≡ in_head i
head_start i =
    let a : i.more - 0 ≡ i.more = omega arith in
    let b : i.rest - 0 ≡ i.rest = omega arith in
    ap (λ x. machine.Section section_kind.Code i.counts x i.left (at.Entry (i.rest - 0) (runs_or_body i.runs))) a
    ∙ ap (λ x. machine.Section section_kind.Code i.counts i.more i.left (at.Entry x (runs_or_body i.runs))) b
