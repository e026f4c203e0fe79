-- The last `end` of an entry, after which its section continues or may end.
use Rattle.std.proofs.Common.{◌≡◌, ℕ, ◌-◌, ◌<◌, List, [], Some, length, slice_index, refl, sym, ◌∙◌, ap}
use Rattle.wm_syntax.specs.declared.profile.Profile.{Profile}
use Rattle.wm_syntax.specs.declared.instructions.Op.TheVariants as op
use Rattle.wm_syntax.specs.exact.Reading.{fresh}
use Rattle.wm_machine.specs.declared.machine.Machine.TheVariants as machine
use Rattle.wm_machine.specs.declared.machine.Event.TheVariants as event
use Rattle.wm_machine.specs.declared.machine.member.SectionKind.TheVariants as section_kind
use Rattle.wm_machine.specs.declared.machine.member.InMember.{InMember}
use Rattle.wm_shortcuts.specs.declared.short_steps.Stepped.{Stepped}
use Rattle.wm_machine.specs.declared.machine.Plain.TheVariants as plain
use Rattle.wm_machine.specs.declared.machine.member.InMember.TheVariants as at
use Rattle.wm_machine.specs.declared.machine.member.InEntry.TheVariants as entry
use Rattle.wm_machine.specs.declared.step.ops.InOp.TheVariants.{First}
use Rattle.wm_machine.specs.declared.step.expressions.InExpression.TheVariants as expression
use Rattle.wm_shortcuts.specs.declared.in_body.InBody.{InBody}
use Rattle.wm_machine.specs.exact.Steps.{machine_in_member}
use Rattle.wm_machine.specs.exact.ExpressionSteps.{after_reading}
use Rattle.wm_machine.specs.exact.MemberSteps.{entry_after_op, member_in_entry, member_step, op_event}
use Rattle.wm_shortcuts.specs.exact.Completed.{Completes}
use Rattle.wm_shortcuts.specs.exact.Completed.Completed.{part}
use Rattle.wm_shortcuts.specs.exact.Completed.Completes.{no_byte}
use Rattle.wm_shortcuts.specs.exact.WholeOps.{before_op}
use Rattle.wm_shortcuts.proofs.Completed.{byte_on, byte_over}
use Rattle.wm_shortcuts.proofs.ShortSteps.{last_steps, steps_so}
use Rattle.wm_shortcuts.proofs.OpLists.{is_alone}

entry_closed : (p : Profile) (rest depth c : ℕ) → c ≡ 0x0B → depth ≡ 0 → rest ≡ 0
    → member_step p (at.Entry rest (entry.Body (expression.Op depth First))) c ≡ (at.Over, event.Complete (plain.BodyOp op.End))
entry_closed p rest depth c byte outermost last =
    ap (λ y. member_step p (at.Entry rest (entry.Body (expression.Op depth First))) y) byte
    ∙ (ap (λ y. member_step p (at.Entry rest (entry.Body (expression.Op y First))) 0x0B) outermost
    ∙ (ap (λ y. member_step p (at.Entry y (entry.Body (expression.Op 0 First))) 0x0B) last
    ∙ ap (λ y. (member_in_entry 0 (entry_after_op (after_reading 0 y).0), op_event plain.BodyOp (after_reading 0 y).1)) (is_alone p 0x0B op.End refl)))

module _ {p : Profile} {bytes : List ℕ} (b : InBody) (byte : slice_index bytes 0 ≡ 0x0B) (depth : b.depth ≡ 0) (rest : b.rest ≡ 0) (some : 0 < length bytes) where
  pub entry_over : Completes p bytes 0 (before_op b) [] (Some (part (plain.BodyOp op.End))) 1 (machine_in_member b.of b.counts b.more b.left at.Over)
  entry_over = byte_over at.Over (Some (plain.BodyOp op.End)) no_byte some (entry_closed p b.rest b.depth (slice_index bytes 0) byte depth rest)

  pub entry_ends : b.of ≡ section_kind.Code → 0 < b.left → 0 < b.more
      → Completes p bytes 0 (before_op b) [] (Some (part (plain.BodyOp op.End))) 1 (machine.Section section_kind.Code b.counts (b.more - 1) (b.left - 1) (at.EntrySize fresh))
  entry_ends of left more =
      let q : InMember = at.Entry b.rest (entry.Body (expression.Op b.depth First)) in
      let ended : Stepped = record { left = b.left - 1; at = at.EntrySize fresh; part = Some (plain.BodyOp op.End) } in
      byte_on ended no_byte some more (steps_so p b.of section_kind.Code b.left q q (slice_index bytes 0) ended of refl (last_steps p b.left b.rest b.depth (slice_index bytes 0) First fresh refl byte depth rest left refl))
      (ap (λ k. machine.Section k b.counts (b.more - 1) (b.left - 1) (at.EntrySize fresh)) (sym of))
