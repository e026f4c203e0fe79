-- The value of a module that the code holds.
use Rattle.wm_syntax.specs.Modules.{Module as ModuleValue}
use Rattle.wm_syntax.specs.declared.modules.Module.{Module}

abbrev pub value_of : Module → ModuleValue
value_of m = record {
  types = m.types.items;
  imports = m.imports.items;
  functions = m.functions.items;
  tables = m.tables.items;
  memories = m.memories.items;
  globals = m.globals.items;
  exports = m.exports.items;
  start = m.start;
  elements = m.elements.items;
  segments = m.segments.items;
}
