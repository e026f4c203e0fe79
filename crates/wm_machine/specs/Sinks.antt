-- A sink as contracts see it: its state, and what each item makes of this state.
use Rattle.std.specs.Prelude.{◌≡◌, ◌≢◌, List, [], ◌∷◌, Result, Ok, Err, map}
use Rattle.wm_syntax.specs.declared.why.Why.{Why}
use Rattle.wm_syntax.specs.declared.why.Why.TheVariants as why
use Rattle.wm_syntax.specs.declared.modules.ImportDesc.TheVariants as desc
use Rattle.wm_machine.specs.declared.item.Item.{Item as Given}
use Rattle.wm_machine.specs.declared.item.Item.TheVariants as items
use Rattle.wm_machine.specs.Items.{Item, new_type, param, result_count, one_result, import_module, import_name}
use Rattle.wm_machine.specs.Items.{import_desc, function, table, memory, global, const_op, export_name, export}
use Rattle.wm_machine.specs.Items.{start, element, element_function, data_count, body, locals, body_op, segment}
use Rattle.wm_machine.specs.Items.{data_byte, passive_element, passive_segment}

-- the items that a borrowed item stands for: a slice of data bytes stands for one item per byte
abbrev pub items_for : Given → List Item
items_for items.NewType = new_type ∷ []
items_for (items.Param t) = param t ∷ []
items_for (items.Results n) = result_count n ∷ []
items_for (items.Result t) = one_result t ∷ []
items_for (items.ImportModule text) = import_module text.now ∷ []
items_for (items.ImportName text) = import_name text.now ∷ []
items_for (items.ImportFunc x) = import_desc (desc.Func x) ∷ []
items_for (items.ImportTable l) = import_desc (desc.Table l) ∷ []
items_for (items.ImportMemory l) = import_desc (desc.Memory l) ∷ []
items_for (items.ImportGlobal g) = import_desc (desc.Global g) ∷ []
items_for (items.Func x) = function x ∷ []
items_for (items.Table l) = table l ∷ []
items_for (items.Memory l) = memory l ∷ []
items_for (items.Global g) = global g ∷ []
items_for (items.ConstOp o) = const_op o ∷ []
items_for (items.ExportName text) = export_name text.now ∷ []
items_for (items.Export kind x) = export kind x ∷ []
items_for (items.Start x) = start x ∷ []
items_for (items.Elem x) = element x ∷ []
items_for items.PassiveElem = passive_element ∷ []
items_for (items.ElemFunc x) = element_function x ∷ []
items_for (items.DataCount n) = data_count n ∷ []
items_for items.Body = body ∷ []
items_for (items.Locals n t) = locals n t ∷ []
items_for (items.Op o) = body_op o ∷ []
items_for (items.Segment x) = segment x ∷ []
items_for items.PassiveSegment = passive_segment ∷ []
items_for (items.DataBytes bytes) = map data_byte bytes.now

-- the result of f on an `Ok` value; an error stays as it is
abbrev pub and_then : {A B E : Type 0} → Result A E → (A → Result B E) → Result B E
and_then (Ok x) f = f x
and_then (Err e) f = Err e

-- the state after these items, one after another, or the reason of the first refusal among them
abbrev pub all_taken : {H : Type 0} → (H → Item → Result H Why) → H → List Item → Result H Why
all_taken after h [] = Ok h
all_taken after h (x ∷ xs) = and_then (after h x) (λ g. all_taken after g xs)

-- The result is as expected, unless it is the error `Memory`. If it is `Ok`, the state now is as expected too.
abbrev pub Taken : {H U : Type 0} → Result H Why → Result U Why → H → Type 0
Taken expected (Ok u) now = expected ≡ Ok now
Taken expected (Err w) now = w ≢ why.Memory → expected ≡ Err w

-- If a single item is refused as `Memory`, memory may run out at it. This says nothing about no item or several.
abbrev pub RunsOut : {H U : Type 0} → (H → Item → Type 0) → H → List Item → Result U Why → Type 0
RunsOut may h (x ∷ []) (Err w) = w ≡ why.Memory → may h x
RunsOut may h xs result = Unit {0}

-- As `Taken`, but another error than `Memory` only means that the expected result is an error too, with any reason.
abbrev pub TakenOrNot : {H U : Type 0} → Result H Why → Result U Why → H → Type 0
TakenOrNot {H} expected (Ok u) now = expected ≡ Ok now
TakenOrNot {H} expected (Err w) now = w ≢ why.Memory → (h : H) → expected ≡ Ok h → ⊥

-- A sink with the state h was given a borrowed item that stands for these items. Unless memory ran out, its state now
-- is the one after these items, or it refused one of them. The reason is exact only for a single item.
abbrev pub Took : {H U : Type 0} → (H → Item → Result H Why) → H → List Item → Result U Why → H → Type 0
Took after h (x ∷ []) result now = Taken (after h x) result now
Took after h xs result now = TakenOrNot (all_taken after h xs) result now
