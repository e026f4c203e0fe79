-- Exact answers of functions of the printer.
use Rattle.std.specs.Prelude.{ℕ, ◌+◌, ◌<◌, ◌^◌, ◌&&◌, ◌==◌, Bool, List, codes, is_none, length}
use Rattle.wm_syntax.specs.declared.modules.ExportKind.{ExportKind}
use Rattle.wm_syntax.specs.declared.modules.ExportKind.TheVariants as kind
use Rattle.wm_syntax.specs.declared.modules.ImportDesc.{ImportDesc}
use Rattle.wm_syntax.specs.declared.modules.ImportDesc.TheVariants.{Func, Table, Memory, Global}
use Rattle.wm_syntax.specs.Modules.{Module}
use Rattle.wm_write.specs.declared.print.fields.Places.{Places}

-- The counts after one more import.
abbrev pub one_more : ImportDesc → Places → Places
one_more (Func x) p = record p { functions = p.functions + 1 }
one_more (Table l) p = record p { tables = p.tables + 1 }
one_more (Memory l) p = record p { memories = p.memories + 1 }
one_more (Global g) p = record p { globals = p.globals + 1 }

-- One more import can be counted without overflow.
pub record IsCountable (p : Places) : Type 0 where
  pub functions : p.functions + 1 < 2 ^ 64
  pub tables : p.tables + 1 < 2 ^ 64
  pub memories : p.memories + 1 < 2 ^ 64
  pub globals : p.globals + 1 < 2 ^ 64

-- The text of an export descriptor before its index.
abbrev pub item_front : ExportKind → List ℕ
item_front kind.Func = codes " (func $f"
item_front kind.Table = codes " (table $tab"
item_front kind.Memory = codes " (memory $mem"
item_front kind.Global = codes " (global $g"

-- The module has no fields.
abbrev pub is_empty_module : Module → Bool
is_empty_module m =
    (length m.types == 0) && (length m.imports == 0) && (length m.functions == 0) && (length m.tables == 0)
    && (length m.memories == 0) && (length m.globals == 0) && (length m.exports == 0) && is_none m.start
    && (length m.elements == 0) && (length m.segments == 0)
