use Rattle.std.proofs.Common.{◌-◌, ap, arith, refl, ◌∙◌}
use Rattle.wm_machine.specs.declared.machine.member.InMember.TheVariants as at
use Rattle.wm_shortcuts.specs.declared.in_section.InSection.{InSection}
use Rattle.wm_machine.specs.exact.Live.{refusal_in_machine}
use Rattle.wm_machine.specs.exact.Steps.{machine_in_member}
use Rattle.wm_shortcuts.specs.exact.WholeMembers.{in_member}
use Rattle.wm_shortcuts.proofs.Advances.{advances_by, advances_data, advances_data_end, advances_data_out}
use Rattle.wm_shortcuts.proofs.byte_runs.data.Goals as goal

pub returns-then-end-bytes : goal.returns-then-end-bytes
returns-then-end-bytes g c =
    let q = c.in-Some in
    let i = c.in-Some.start in
    let held = g.S.Sink.held in
    advances_by g.S.Sink.after g.S.Sink.may_run_out c.args.profile _ _ _ _ _ _ _ _ (q.ensures ∙ ap (λ y. in_member q.of y i) c.in-Data.is)
    (c.at.ensures ∙ ap (in_member q.of (at.Data (c.in-Data.rest - c.min_len-count.result))) c.after-next.ensures)
    (advances_data g.S.Sink.after g.S.Sink.may_run_out c.args.profile c.args.bytes.now (held c.args.sink.now) (held c.give_bytes.new.sink) _ q.of i.counts i.left i.more c.in-Data.rest
    c.give_bytes.result (omega arith) (omega arith) (omega arith) (omega arith) c.err-refused.ensures.value c.give_bytes.ensures.given c.give_bytes.ensures.room)

pub returns-in-Err : goal.returns-in-Err
returns-in-Err g c =
    let q = c.in-Some in
    let i = c.in-Some.start in
    let held = g.S.Sink.held in
    let out = c.in-Err.ensures in
    advances_by g.S.Sink.after g.S.Sink.may_run_out c.args.profile _ _ _ _ _ _ _ _ (q.ensures ∙ ap (λ y. in_member q.of y i) c.in-Data.is) refl
    (advances_data_out g.S.Sink.after g.S.Sink.may_run_out c.args.profile c.args.bytes.now (held c.args.sink.now) (held c.give_bytes-2.new.sink) c.out.result q.of i.counts i.left i.more c.in-Data.rest
    c.framed.result c.min_len-count.result c.in-Err.why c.out.ensures.used (omega arith) c.out.ensures.refused out.given (λ one. out.room one out.given))

pub returns : goal.returns
returns g c =
    let q = c.in-Some in
    let i = c.in-Some.start in
    let held = g.S.Sink.held in
    let used = c.min_len-count.result in
    let next = c.framed.ensures ∙ (ap (λ (n : InSection). machine_in_member q.of n.counts n.more n.left c.data_or_over.result) c.after-next.ensures ∙ ap (machine_in_member q.of i.counts (i.more - used) i.left) c.data_or_over.ensures) in
    advances_by g.S.Sink.after g.S.Sink.may_run_out c.args.profile _ _ _ _ _ _ _ _ (q.ensures ∙ ap (λ y. in_member q.of y i) c.in-Data.is) next
    (advances_data_end g.S.Sink.after g.S.Sink.may_run_out c.args.profile c.args.bytes.now (held c.args.sink.now) (held c.give_bytes-2.new.sink) _ q.of i.counts i.left i.more c.in-Data.rest
    used refl (omega arith) (omega arith) (omega arith) (c.refusal_of.ensures ∙ ap refusal_in_machine next) c.in_default-give_bytes.ensures.given)
