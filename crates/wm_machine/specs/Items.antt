-- The items (decoder events) of a module, and the mark of each byte. Core spec, chapter 2.
use Rattle.std.specs.Prelude.{ℕ, List, [], ◌∷◌, Option, Some, None}
use Rattle.wm_syntax.specs.declared.types.ValType.{ValType}
use Rattle.wm_syntax.specs.declared.types.Limits.{Limits}
use Rattle.wm_syntax.specs.declared.types.GlobalType.{GlobalType}
use Rattle.wm_syntax.specs.declared.instructions.Op.{Op}
use Rattle.wm_syntax.specs.declared.modules.ImportDesc.{ImportDesc}
use Rattle.wm_syntax.specs.declared.modules.ExportKind.{ExportKind}

-- An item of a module as a value: it has the bytes of a name, not their address. Each data byte is an item.
pub data Item : Type 0 where
  new_type : Item
  param : ValType → Item
  result_count : ℕ → Item
  one_result : ValType → Item
  import_module : List ℕ → Item
  import_name : List ℕ → Item
  import_desc : ImportDesc → Item
  function : ℕ → Item
  table : Limits → Item
  memory : Limits → Item
  global : GlobalType → Item
  const_op : Op → Item
  export_name : List ℕ → Item
  export : ExportKind → ℕ → Item
  start : ℕ → Item
  element : ℕ → Item
  passive_element : Item
  element_function : ℕ → Item
  data_count : ℕ → Item
  body : Item
  locals : ℕ → ValType → Item
  body_op : Op → Item
  segment : ℕ → Item
  passive_segment : Item
  data_byte : ℕ → Item

-- Where a byte lies. `name`: in the bytes of a name, before the last. `entry`: after the size of a code entry, before
-- its last byte. `closing`: the last byte of a code entry. `outside`: anywhere else.
pub data Zone : Type 0 where
  outside : Zone
  name : Zone
  entry : Zone
  closing : Zone

-- the mark of a byte: its zone, and the item that it completes, if any
pub record Mark : Type 0 where
  pub zone : Zone
  pub item : Option Item

-- the marks of some bytes, in order
abbrev pub Marks : Type 0
Marks = List Mark

-- the items with this one before them, if any
abbrev pub put_item : Option Item → List Item → List Item
put_item None items = items
put_item (Some part) items = part ∷ items

-- the items of these marks, in order
abbrev pub items_at : Marks → List Item
items_at [] = []
items_at (m ∷ k) = put_item m.item (items_at k)
