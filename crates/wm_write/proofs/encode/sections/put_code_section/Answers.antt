use Rattle.wm_write.specs.Canon.{code_bytes}
use Rattle.wm_write.proofs.SectionLemmas.{sent_no_section, sent_section}
use Rattle.wm_write.proofs.encode.sections.put_code_section.Goals as goal

pub returns-then-is_empty : goal.returns-then-is_empty
returns-then-is_empty g c = sent_no_section 10 code_bytes c.args.functions.now _ c.if-is_empty.ensures

pub returns : goal.returns
returns g c = sent_section 10 code_bytes c.args.functions.now c.args.size _ _ _ c.if-is_empty.ensures c.requires.size c.put_head.ensures c.put_codes.ensures
