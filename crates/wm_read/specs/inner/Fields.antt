-- Fields of the code as plain values, without their addresses.
use Rattle.std.specs.Prelude.{ℕ, List, [], ◌∷◌, ◌++◌, Option, Some, None, codes}
use Rattle.wm_syntax.specs.declared.profile.Profile.{Profile}
use Rattle.wm_syntax.specs.Modules.{Module}
use Rattle.wm_read.specs.declared.fields.Field.{Field as Code}
use Rattle.wm_read.specs.declared.fields.Field.TheVariants as code
use Rattle.wm_tokens.specs.Fields.{Field, type_field, import_field, function_field, table_field, memory_field}
use Rattle.wm_tokens.specs.Fields.{global_field, export_field, start_field, element_field, segment_field}
use Rattle.wm_bodies.specs.inner.Ids.{id_of}
use Rattle.wm_tokens.specs.Written.{Named, Names}
use Rattle.wm_bodies.specs.exact.NamedUses.{named_use_at}
use Rattle.wm_bodies.specs.exact.Reading.{Reader, then_at}
use Rattle.wm_bodies.specs.exact.TypeUses.{named_at}

-- The exact answer for a function's type use and its locals.
abbrev pub head_at : Profile → Names → Reader ((ℕ × List Named) × List Named)
head_at p names = then_at (named_use_at p names) (named_at p (codes "local"))

-- The value of a field of the code.
abbrev pub field_of : Code → Field
field_of (code.Type id f) = type_field (id_of id) f
field_of (code.Import id i) = import_field (id_of id) i
field_of (code.Function id f) = function_field (id_of id) f
field_of (code.Table id l) = table_field (id_of id) l
field_of (code.Memory id l) = memory_field (id_of id) l
field_of (code.Global id g) = global_field (id_of id) g
field_of (code.Export e) = export_field e
field_of (code.Start x) = start_field x
field_of (code.Element e) = element_field e
field_of (code.Segment s) = segment_field s

-- The first of two options that is not None.
abbrev pub or : {X : Type 0} → Option X → Option X → Option X
or (Some x) o = Some x
or None o = o

-- A module after one more field. A second start changes nothing.
abbrev pub with_field : Module → Field → Module
with_field m (type_field id f) = record m { types = m.types ++ f ∷ [] }
with_field m (import_field id i) = record m { imports = m.imports ++ i ∷ [] }
with_field m (function_field id f) = record m { functions = m.functions ++ f ∷ [] }
with_field m (table_field id l) = record m { tables = m.tables ++ l ∷ [] }
with_field m (memory_field id l) = record m { memories = m.memories ++ l ∷ [] }
with_field m (global_field id g) = record m { globals = m.globals ++ g ∷ [] }
with_field m (export_field e) = record m { exports = m.exports ++ e ∷ [] }
with_field m (start_field x) = record m { start = or m.start (Some x) }
with_field m (element_field e) = record m { elements = m.elements ++ e ∷ [] }
with_field m (segment_field s) = record m { segments = m.segments ++ s ∷ [] }
