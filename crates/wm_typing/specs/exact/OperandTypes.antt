-- Entries for operands of known types, and the entry for two operands of one type.
use Rattle.std.specs.Prelude.{Option, Some, None, if◌then◌else◌}
use Rattle.wm_syntax.specs.declared.types.ValType.{ValType}
use Rattle.wm_syntax.specs.declared.types.ValType.TheVariants as t
use Rattle.wm_stacks.specs.declared.stack_entries.Entry.{Entry}
use Rattle.wm_stacks.specs.declared.stack_entries.Entry.TheVariants.{I32, I64, F32, F64, Unknown}
use Rattle.wm_stacks.specs.Stack.{fits}

abbrev pub entry_of_type : ValType → Entry
entry_of_type t.I32 = I32
entry_of_type t.I64 = I64
entry_of_type t.F32 = F32
entry_of_type t.F64 = F64

-- The entry that stands for both operands; `None` if both are known and differ.
abbrev pub join : Entry → Entry → Option Entry
join Unknown b = Some b
join I32 b = if fits b t.I32 then Some I32 else None
join I64 b = if fits b t.I64 then Some I64 else None
join F32 b = if fits b t.F32 then Some F32 else None
join F64 b = if fits b t.F64 then Some F64 else None
