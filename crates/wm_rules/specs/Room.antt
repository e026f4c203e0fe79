-- When a checker may refuse an item with `Memory`.
use Rattle.std.specs.Prelude.{◌≢◌, ◌≤◌, ◌⊎◌, None, length}
use Rattle.wm_typing.specs.Bodies.{Body}
use Rattle.wm_machine.specs.Items.{Item, result_count, import_module, import_name, body_op, data_byte}
use Rattle.wm_rules.specs.Holding.{Held}

-- The body has refused an op, or it has 64 operands or more, or 32 frames or more. Its stacks need no
-- allocation below these heights.
abbrev pub IsFull : Body → Type 0
IsFull b = (b.refused ≢ None) ⊎ (64 ≤ length b.state.stacks.operands) ⊎ (32 ≤ length b.state.stacks.frames)

-- The checker may refuse the item with `Memory`. An op gets this refusal only if the body is full. A result
-- count, a name of an import and a data byte never get it.
abbrev pub MayRunOut : Held → Item → Type 0
MayRunOut h (result_count n) = ⊥
MayRunOut h (import_module name) = ⊥
MayRunOut h (import_name name) = ⊥
MayRunOut h (body_op o) = IsFull h.body
MayRunOut h (data_byte c) = ⊥
MayRunOut h x = Unit {0}
