-- The state of a builder.
use Rattle.std.specs.Prelude.{List, Option, None, Some}
use Rattle.std.specs.String.{string_bytes}
use Rattle.wm_syntax.specs.declared.types.ValType.{ValType}
use Rattle.wm_syntax.specs.inner.Building.{Place}
use Rattle.wm_syntax.specs.Values.{value_of}
use Rattle.wm_rules.specs.declared.builder.Builder.{Builder}
use Rattle.wm_rules.specs.exact.Built.{Built, Code}

-- The code entry at hand; `None` if there are no locals of one.
abbrev pub code_at : Option (List ValType) → Place → Option Code
code_at None p = None
code_at (Some ts) p = Some (record { locals = ts; body = p })

abbrev pub built : Builder → Built
built b = record {
  value = value_of b.module_value;
  indices = b.indices.items;
  module_name = string_bytes b.module_name;
  item_name = string_bytes b.item_name;
  exported = string_bytes b.exported;
  constant = b.constant;
  code = code_at b.locals b.body;
}
