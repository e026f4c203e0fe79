use Rattle.wm_write.specs.Canon.{code_bytes, element_bytes, export_bytes, global_bytes, import_bytes, limits_bytes, segment_bytes, signature_bytes, table_bytes, u32_bytes}
use Rattle.wm_write.proofs.SectionLemmas.{at_count, at_section}
use Rattle.wm_write.proofs.Writes.{sent_then}
use Rattle.wm_write.proofs.encode.put_module.Goals as goal

pub returns : goal.returns
returns g c =
    sent_then _ _ _ _ _ c.put_bytes.ensures
    (sent_then _ _ _ _ _ (at_section 1 signature_bytes _ c.args.m.now.types.items _ _ c.deref.ensures.value c.put_section.ensures)
    (sent_then _ _ _ _ _ (at_section 2 import_bytes _ c.args.m.now.imports.items _ _ c.deref-2.ensures.value c.put_section-2.ensures)
    (sent_then _ _ _ _ _ (at_section 3 (λ f. u32_bytes f.type_index) _ c.args.m.now.functions.items _ _ c.deref-3.ensures.value c.put_section-3.ensures)
    (sent_then _ _ _ _ _ (at_section 4 table_bytes _ c.args.m.now.tables.items _ _ c.deref-4.ensures.value c.put_section-4.ensures)
    (sent_then _ _ _ _ _ (at_section 5 limits_bytes _ c.args.m.now.memories.items _ _ c.deref-5.ensures.value c.put_section-5.ensures)
    (sent_then _ _ _ _ _ (at_section 6 global_bytes _ c.args.m.now.globals.items _ _ c.deref-6.ensures.value c.put_section-6.ensures)
    (sent_then _ _ _ _ _ (at_section 7 export_bytes _ c.args.m.now.exports.items _ _ c.deref-7.ensures.value c.put_section-7.ensures)
    (sent_then _ _ _ _ _ c.put_start_section.ensures
    (sent_then _ _ _ _ _ (at_section 9 (element_bytes c.args.flagged) _ c.args.m.now.elements.items _ _ c.deref-8.ensures.value c.put_elements.ensures)
    (sent_then _ _ _ _ _ (at_count _ c.args.m.now.functions.items _ c.args.m.now.segments.items _ _ c.deref-9.ensures.value c.deref-10.ensures.value c.put_data_count_section.ensures)
    (sent_then _ _ _ _ _ (at_section 10 code_bytes _ c.args.m.now.functions.items _ _ c.deref-11.ensures.value c.put_code_section.ensures)
    (at_section 11 (segment_bytes c.args.flagged) _ c.args.m.now.segments.items _ _ c.deref-12.ensures.value c.put_segments.ensures))))))))))))
