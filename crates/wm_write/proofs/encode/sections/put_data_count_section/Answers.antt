use Rattle.std.proofs.Common.{◌∙◌, ap, length, sym}
use Rattle.wm_syntax.specs.Modules.{bodies_name_segment}
use Rattle.wm_write.proofs.SectionLemmas.{no_count, sent_count}
use Rattle.wm_write.proofs.encode.sections.put_data_count_section.Goals as goal

pub returns-then-not-name_segment : goal.returns-then-not-name_segment
returns-then-not-name_segment g c =
    no_count (bodies_name_segment c.args.functions.now) (length c.args.segments.now) _ (sym c.name_segment.ensures ∙ c.if-not-name_segment.true)

pub returns : goal.returns
returns g c =
    sent_count (bodies_name_segment c.args.functions.now) (length c.args.segments.now) _ _ _ _ _
    (sym c.name_segment.ensures ∙ c.if-not-name_segment.false) (c.as_slice-2.ensures ∙ c.number-count.ensures)
    (ap length (c.as_slice.ensures ∙ sym c.as_slice-2.ensures)) c.put_head.ensures c.put_bytes.ensures
