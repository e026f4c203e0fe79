-- The number of entries that a checker retains: the sum of the lengths of its lists.
use Rattle.std.specs.Prelude.{ℕ, ◌+◌, ◌-◌, ◌^◌, List, length, min, sum_by}
use Rattle.wm_syntax.specs.declared.modules.ImportDesc.TheVariants.{Func, Global}
use Rattle.wm_syntax.specs.Types.{Signature}
use Rattle.wm_typing.specs.Bodies.{body_entries}
use Rattle.wm_machine.specs.Items.{Item, new_type, param, one_result, import_desc, function, global}
use Rattle.wm_machine.specs.Items.{export_name}
use Rattle.wm_rules.specs.Holding.{IndexSpaces, Held}

-- The number of parameters and results of a function type.
abbrev pub width : Signature → ℕ
width f = length f.params + length f.results

-- The number of types with their parameters and results, functions and globals. Imported ones are included.
abbrev pub entries_in : IndexSpaces → ℕ
entries_in s = sum_by width s.types + length s.types + length s.functions + length s.globals

-- The number of names plus the number of their bytes.
abbrev pub name_entries : List (List ℕ) → ℕ
name_entries names = length names + sum_by length names

-- The number of entries that a checker retains outside function bodies.
abbrev pub list_entries : Held → ℕ
list_entries h = entries_in h.spaces + name_entries h.names

-- The number of all entries: also the runs of locals, the operands and the frames of the body at hand.
abbrev pub entries_of : Held → ℕ
entries_of h = list_entries h + body_entries h.body

-- The number, or 2^64 - 1 if it is greater.
abbrev pub capped_count : ℕ → ℕ
capped_count n = min n (2 ^ 64 - 1)

-- The number of entries that an item adds outside function bodies.
abbrev pub item_weight : Item → ℕ
item_weight new_type = 1
item_weight (param t) = 1
item_weight (one_result t) = 1
item_weight (import_desc d) = elim d [ Func x ↦ 1 | Global g ↦ 1 | _ ↦ 0 ]
item_weight (function x) = 1
item_weight (global g) = 1
item_weight (export_name name) = 1 + length name
item_weight _ = 0
