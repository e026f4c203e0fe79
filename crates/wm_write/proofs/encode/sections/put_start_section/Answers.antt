use Rattle.std.proofs.Common.{◌∙◌, ap, length, sym}
use Rattle.wm_write.specs.Canon.{u32_bytes}
use Rattle.wm_write.proofs.SectionLemmas.{no_start, sent_start}
use Rattle.wm_write.proofs.encode.sections.put_start_section.Goals as goal

pub returns-in_default : goal.returns-in_default
returns-in_default g c = no_start c.args.start _ c.in_default.is

pub returns : goal.returns
returns g c =
    sent_start c.args.start c.in-Some.index _ _ _ _ _ c.in-Some.is (c.as_slice-2.ensures ∙ c.number-index.ensures ∙ ap u32_bytes c.from.ensures)
    (ap length (c.as_slice.ensures ∙ sym c.as_slice-2.ensures)) c.put_head.ensures c.put_bytes.ensures
