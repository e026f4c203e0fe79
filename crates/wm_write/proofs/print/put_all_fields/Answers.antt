use Rattle.std.proofs.Common.{◌∙◌, [], ap, refl, true}
use Rattle.wm_syntax.specs.Values.{value_of}
use Rattle.wm_write.specs.Layout.{element_field, export_field, function_field, global_field, memory_field, places, segment_field, table_field, type_field}
use Rattle.wm_write.specs.Layout.{import_fields}
use Rattle.wm_write.proofs.PrintedModules.{all_of, sent_fields, sent_list, sent_part}
use Rattle.wm_write.proofs.PrintedWords.{sent_seen}
use Rattle.wm_write.proofs.print.put_all_fields.Goals as goal

pub put_fields-requires : goal.put_fields-requires
put_fields-requires g c = all_of (λ _. true) (λ x. refl) c.deref.result.now

pub put_fields-requires-3 : goal.put_fields-requires-3
put_fields-requires-3 g c = all_of (λ _. true) (λ x. refl) c.deref-4.result.now

pub put_fields-requires-4 : goal.put_fields-requires-4
put_fields-requires-4 g c = all_of (λ _. true) (λ x. refl) c.deref-5.result.now

pub put_fields-requires-5 : goal.put_fields-requires-5
put_fields-requires-5 g c = all_of (λ _. true) (λ x. refl) c.deref-6.result.now

pub returns : goal.returns
returns g c =
    let m = c.args.m.now in
    let counted = c.put_imports-imported.ensures.places ∙ ap places c.deref-2.ensures.value in
    sent_fields (value_of m) _ _ _ _ _ _ _ _ _ _ _ (sent_part type_field 0 0 _ m.types.items _ _ refl c.deref.ensures.value c.put_fields.ensures)
    (sent_seen (import_fields []) _ m.imports.items _ _ c.deref-2.ensures.value c.put_imports-imported.ensures.sent)
    (sent_part function_field _ (places m.imports.items).functions _ m.functions.items _ _ (ap (λ p. p.functions) counted) c.deref-3.ensures.value c.put_fields-2.ensures)
    (sent_part table_field _ (places m.imports.items).tables _ m.tables.items _ _ (ap (λ p. p.tables) counted) c.deref-4.ensures.value c.put_fields-3.ensures)
    (sent_part memory_field _ (places m.imports.items).memories _ m.memories.items _ _ (ap (λ p. p.memories) counted) c.deref-5.ensures.value c.put_fields-4.ensures)
    (sent_part global_field _ (places m.imports.items).globals _ m.globals.items _ _ (ap (λ p. p.globals) counted) c.deref-6.ensures.value c.put_fields-5.ensures)
    (sent_list export_field _ m.exports.items _ _ c.deref-7.ensures.value c.put_each.ensures)
    c.put_start.ensures
    (sent_list element_field _ m.elements.items _ _ c.deref-8.ensures.value c.put_each-2.ensures)
    (sent_list segment_field _ m.segments.items _ _ c.deref-9.ensures.value c.put_each-3.ensures)
