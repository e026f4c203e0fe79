use Rattle.wm_write.proofs.SectionLemmas.{sent_no_section, sent_section}
use Rattle.wm_write.proofs.encode.sections.put_section.Goals as goal

pub returns-then-is_empty : goal.returns-then-is_empty
returns-then-is_empty g c = sent_no_section c.args.id g.P.Part.bytes c.args.values.now _ c.if-is_empty.ensures

pub returns : goal.returns
returns g c = sent_section c.args.id g.P.Part.bytes c.args.values.now c.args.size _ _ _ c.if-is_empty.ensures c.requires c.put_head.ensures c.put_list.ensures
