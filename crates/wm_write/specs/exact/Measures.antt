-- The length of each section's contents, in bytes.
use Rattle.std.specs.Prelude.{◌≡◌, Bool, length}
use Rattle.wm_syntax.specs.Modules.{Module}
use Rattle.wm_write.specs.declared.encode.sizes.Sizes.{Sizes}
use Rattle.wm_write.specs.Canon.{code_bytes, element_bytes, export_bytes, global_bytes, import_bytes}
use Rattle.wm_write.specs.Canon.{limits_bytes, listed, segment_bytes, signature_bytes, table_bytes, u32_bytes}

pub record Measures (flagged : Bool) (s : Sizes) (m : Module) : Type 0 where
  pub types : s.types ≡ length (listed signature_bytes m.types)
  pub imports : s.imports ≡ length (listed import_bytes m.imports)
  pub functions : s.functions ≡ length (listed (λ f. u32_bytes f.type_index) m.functions)
  pub tables : s.tables ≡ length (listed table_bytes m.tables)
  pub memories : s.memories ≡ length (listed limits_bytes m.memories)
  pub globals : s.globals ≡ length (listed global_bytes m.globals)
  pub exports : s.exports ≡ length (listed export_bytes m.exports)
  pub elements : s.elements ≡ length (listed (element_bytes flagged) m.elements)
  pub codes : s.codes ≡ length (listed code_bytes m.functions)
  pub segments : s.segments ≡ length (listed (segment_bytes flagged) m.segments)
