-- The meaning of each name of a refusal, for the bytes up to the offset. Names of rules and of a policy speak
-- of the items that are complete in these bytes. Names of the format mean the same for any sink.
use Rattle.std.specs.Prelude.{◌≡◌, ◌≢◌, ℕ, ◌+◌, ◌-◌, ◌^◌, ◌<◌, ◌≤◌, Bool, true, false, List, [], ◌∷◌, ◌++◌}
use Rattle.std.specs.Prelude.{None}
use Rattle.std.specs.Prelude.{◌⊎◌, Option, Some, length, map, option_to_list, slice_get}
use Rattle.wm_syntax.specs.declared.types.GlobalType.{GlobalType}
use Rattle.wm_syntax.specs.declared.instructions.Simple.TheVariants as simple
use Rattle.wm_syntax.specs.declared.instructions.Op.{Op}
use Rattle.wm_syntax.specs.declared.instructions.Op.TheVariants as op
use Rattle.wm_syntax.specs.Instructions.{endings, openings, opens}
use Rattle.wm_syntax.specs.Opcodes.{load, store}
use Rattle.wm_syntax.specs.declared.profile.Profile.{Profile}
use Rattle.wm_syntax.specs.declared.why.Why.{Why}
use Rattle.wm_syntax.specs.declared.why.Why.TheVariants as why
use Rattle.wm_syntax.specs.declared.modules.ImportDesc.TheVariants as desc
use Rattle.wm_syntax.specs.declared.modules.ExportKind.{ExportKind}
use Rattle.wm_syntax.specs.declared.modules.ExportKind.TheVariants as kind
use Rattle.wm_syntax.specs.Modules.{locals_of}
use Rattle.wm_syntax.specs.Types.{Signature}
use Rattle.wm_syntax.specs.declared.types.ValType.{ValType}
use Rattle.wm_syntax.specs.declared.types.ValType.TheVariants.{I32, I64, F32, F64}
use Rattle.wm_stacks.specs.declared.stack_entries.FrameKind.TheVariants.{If}
use Rattle.wm_typing.specs.OpenLists.{Head, head, work, Place, open_at, within, complete, at, levels}
use Rattle.wm_typing.specs.TypedBodies.{HaveTyping, IsTypedBody}
use Rattle.wm_machine.specs.Flat.{FlatCode, code_items}
use Rattle.wm_typing.specs.Contexts.{context, body_context}
use Rattle.wm_typing.specs.Typing.{Context, Typed, TypedSimple, function_type}
use Rattle.wm_machine.specs.declared.refusal.Refusal.{Refusal}
use Rattle.wm_machine.specs.Items.{Item, new_type, param, result_count, one_result, import_desc}
use Rattle.wm_machine.specs.Items.{function, table, memory}
use Rattle.wm_machine.specs.Items.{global, const_op, export_name, export, start, element, element_function}
use Rattle.wm_machine.specs.Items.{passive_element, data_count, body, locals, body_op, segment}
use Rattle.wm_machine.specs.Meanings.{AtItem, Meant, MeansOfFormat}
use Rattle.wm_rules.specs.declared.policy.Policy.{Policy}
use Rattle.wm_rules.specs.Holding.{IndexSpaces}
use Rattle.wm_rules.specs.Policies.{AtMost, GoesPast}
use Rattle.wm_rules.specs.Validation.{ValidMemory, ValidTable}

-- The index spaces of the module so far, computed from its items. Core spec 2.5.1.
abbrev pub no_spaces : IndexSpaces
no_spaces = record {
  types = [];
  functions = [];
  globals = [];
  imported_functions = 0;
  imported_globals = 0;
  bodies = 0;
  has_table = false;
  has_memory = false;
  elements = 0;
  segments = 0;
}

abbrev pub with_last_type : (Signature → Signature) → List Signature → List Signature
with_last_type f [] = []
with_last_type f (t ∷ []) = f t ∷ []
with_last_type f (t ∷ u ∷ ts) = t ∷ with_last_type f (u ∷ ts)

abbrev pub with_item : IndexSpaces → Item → IndexSpaces
with_item s new_type = record s { types = s.types ++ record { params = []; results = [] } ∷ [] }
with_item s (param t) =
    record s { types = with_last_type (λ f. record f { params = f.params ++ t ∷ [] }) s.types }
with_item s (one_result t) =
    record s { types = with_last_type (λ f. record f { results = f.results ++ t ∷ [] }) s.types }
with_item s (import_desc (desc.Func x)) =
    record s { functions = s.functions ++ x ∷ []; imported_functions = s.imported_functions + 1 }
with_item s (import_desc (desc.Table l)) = record s { has_table = true }
with_item s (import_desc (desc.Memory l)) = record s { has_memory = true }
with_item s (import_desc (desc.Global g)) =
    record s { globals = s.globals ++ g ∷ []; imported_globals = s.imported_globals + 1 }
with_item s (function x) = record s { functions = s.functions ++ x ∷ [] }
with_item s (table l) = record s { has_table = true }
with_item s (memory l) = record s { has_memory = true }
with_item s (global g) = record s { globals = s.globals ++ g ∷ [] }
with_item s (element x) = record s { elements = s.elements + 1 }
with_item s passive_element = record s { elements = s.elements + 1 }
with_item s (data_count n) = record s { segments = n }
with_item s body = record s { bodies = s.bodies + 1 }
with_item s _ = s

abbrev pub with_items : IndexSpaces → List Item → IndexSpaces
with_items s [] = s
with_items s (x ∷ xs) = with_items (with_item s x) xs

abbrev pub so_far : List Item → IndexSpaces
so_far items = with_items no_spaces items

-- The context of the module so far. Core spec 3.4.10.
abbrev pub context_so_far : IndexSpaces → Context
context_so_far s = context s.types s.functions s.globals s.has_table s.has_memory s.elements s.segments

abbrev pub one_where : Bool → ℕ
one_where true = 1
one_where false = 0

-- The number of items of a kind.
abbrev pub how_many : ExportKind → IndexSpaces → ℕ
how_many kind.Func s = length s.functions
how_many kind.Table s = one_where s.has_table
how_many kind.Memory s = one_where s.has_memory
how_many kind.Global s = length s.globals

-- `Limits`: the limits of a table or a memory, imported or not, are invalid. Core spec 3.2.3 and 3.2.4.
abbrev pub IsOutOfRange : List Item → Item → Type 0
IsOutOfRange items (table l) = ValidTable l → ⊥
IsOutOfRange items (memory l) = ValidMemory l → ⊥
IsOutOfRange items (import_desc (desc.Table l)) = ValidTable l → ⊥
IsOutOfRange items (import_desc (desc.Memory l)) = ValidMemory l → ⊥
IsOutOfRange items _ = ⊥

-- `Second`: a table or a memory, imported or not, comes after another one. Core spec 3.4.10.
abbrev pub IsSecond : List Item → Item → Type 0
IsSecond items (table l) = (so_far items).has_table ≡ true
IsSecond items (memory l) = (so_far items).has_memory ≡ true
IsSecond items (import_desc (desc.Table l)) = (so_far items).has_table ≡ true
IsSecond items (import_desc (desc.Memory l)) = (so_far items).has_memory ≡ true
IsSecond items _ = ⊥

-- `DuplicateExport`: an earlier export has the same name. Core spec 3.4.10.
abbrev pub IsRepeated : List Item → Item → Type 0
IsRepeated items (export_name n) = (before after : List Item) × (items ≡ before ++ export_name n ∷ after)
IsRepeated items _ = ⊥

-- `StartType`: the start function has parameters or a result. Core spec 3.4.7.
abbrev pub IsNoStart : List Item → Item → Type 0
IsNoStart items (start x) =
    (f : Signature) × (function_type (context_so_far (so_far items)) x ≡ Some f)
    × ((f.params ≡ []) × (f.results ≡ []) → ⊥)
IsNoStart items _ = ⊥

-- The code entry at hand: the items end with its runs of locals and its ops so far.
pub record InEntry (items : List Item) : Type 0 where
  pub before : List Item
  pub code : FlatCode
  pub whole : items ≡ before ++ code_items code

-- The type index of the function whose code entry comes next. Imported functions have no code entry.
-- Core spec 2.5.3.
abbrev pub next_function : IndexSpaces → Option ℕ
next_function s = slice_get s.functions (s.imported_functions + s.bodies)

-- The context of the entry's body, if its function has the type index `x`. Core spec 3.4.1.
abbrev pub context_of_body : {items : List Item} → InEntry items → ℕ → Context
context_of_body e x = body_context (context_so_far (so_far e.before)) x (locals_of e.code.runs)

-- The body at hand: the type index of its function, and a typing of its ops so far. The ops are typed in the
-- lists of instructions that they leave open.
pub record InBody (items : List Item) : Type 0 where
  pub entry : InEntry items
  pub type_index : ℕ
  pub is_type : next_function (so_far entry.before) ≡ Some type_index
  pub typing : HaveTyping (context_of_body entry type_index) entry.code.ops

-- The heads of the open lists, the innermost first.
abbrev pub heads_of : Place → List Head
heads_of (open_at hs ws) = hs
heads_of (within n seen hs ws) = hs
heads_of (complete r s) = []

-- The context inside the open lists, with their labels.
abbrev pub context_inside : {items : List Item} → InBody items → Context
context_inside b = at (context_of_body b.entry b.type_index) (heads_of b.typing.0)

-- The item begins a constant expression of type `t` that may name the first `globals` globals only. The
-- initialiser of a global has its type, and may name imported globals only (Core spec 3.4.10). The offset of a
-- segment is an i32, and may name any global (Core spec 3.4.5 and 3.4.6).
abbrev pub IsConstantOf : IndexSpaces → Item → ValType → ℕ → Type 0
IsConstantOf s (global g) t globals = (t ≡ g.ty) × (globals ≡ s.imported_globals)
IsConstantOf s (element x) t globals = (t ≡ I32) × (globals ≡ length s.globals)
IsConstantOf s (segment x) t globals = (t ≡ I32) × (globals ≡ length s.globals)
IsConstantOf s _ t globals = ⊥

-- The constant expression at hand: the items end with the one that begins it, and its ops so far.
pub record InConstant (items : List Item) : Type 0 where
  pub before : List Item
  pub opening : Item
  pub ops : List Op
  pub whole : items ≡ before ++ opening ∷ map const_op ops
  pub wanted : ValType
  pub globals : ℕ
  pub constant_of : IsConstantOf (so_far before) opening wanted globals

-- `Index`, outside constants and bodies: there is no such type (Core spec 3.4.1 and 3.4.9), function, table,
-- memory or global (Core spec 3.4.5 to 3.4.8). Or a code entry comes when no function is left.
abbrev pub NamesNothing : IndexSpaces → Item → Type 0
NamesNothing s (function x) = length s.types ≤ x
NamesNothing s (import_desc (desc.Func x)) = length s.types ≤ x
NamesNothing s (export k x) = how_many k s ≤ x
NamesNothing s (start x) = function_type (context_so_far s) x ≡ None
NamesNothing s (element x) = how_many kind.Table s ≤ x
NamesNothing s (element_function x) = how_many kind.Func s ≤ x
NamesNothing s body = next_function s ≡ None
NamesNothing s (segment x) = how_many kind.Memory s ≤ x
NamesNothing s _ = ⊥

-- `Index`, in a constant: the expression may not name this global. Core spec 3.3.7 and 3.4.10.
abbrev pub ConstantNamesNothing : ℕ → Op → Type 0
ConstantNamesNothing globals (op.Simple (simple.GlobalGet x)) = globals ≤ x
ConstantNamesNothing globals _ = ⊥

-- `Index`, in a body: there is no such label, function, type, local, global or element segment, or no table or memory.
-- Or the number of data segments, which the data count section gives, is not above this index. Without that section it
-- is 0. Core spec 3.3.3 to 3.3.5, WebAssembly 2.0 3.3.6, 3.3.7 and 5.5.16.
abbrev pub OpNamesNothing : Context → Op → Type 0
OpNamesNothing c (op.Simple (simple.Br l)) = slice_get c.labels l ≡ None
OpNamesNothing c (op.Simple (simple.BrIf l)) = slice_get c.labels l ≡ None
OpNamesNothing c (op.Simple (simple.Call x)) = function_type c x ≡ None
OpNamesNothing c (op.Simple (simple.CallIndirect x)) = (c.has_table ≡ false) ⊎ (slice_get c.types x ≡ None)
OpNamesNothing c (op.Simple (simple.LocalGet x)) = slice_get c.locals x ≡ None
OpNamesNothing c (op.Simple (simple.LocalSet x)) = slice_get c.locals x ≡ None
OpNamesNothing c (op.Simple (simple.LocalTee x)) = slice_get c.locals x ≡ None
OpNamesNothing c (op.Simple (simple.GlobalGet x)) = slice_get c.globals x ≡ None
OpNamesNothing c (op.Simple (simple.GlobalSet x)) = slice_get c.globals x ≡ None
OpNamesNothing c (op.Simple simple.MemorySize) = c.has_memory ≡ false
OpNamesNothing c (op.Simple simple.MemoryGrow) = c.has_memory ≡ false
OpNamesNothing c (op.Simple simple.MemoryCopy) = c.has_memory ≡ false
OpNamesNothing c (op.Simple simple.MemoryFill) = c.has_memory ≡ false
OpNamesNothing c (op.Simple (simple.MemoryInit x)) = (c.segments ≤ x) ⊎ (c.has_memory ≡ false)
OpNamesNothing c (op.Simple (simple.DataDrop x)) = c.segments ≤ x
OpNamesNothing c (op.Simple (simple.TableInit x)) = (c.elements ≤ x) ⊎ (c.has_table ≡ false)
OpNamesNothing c (op.Simple (simple.ElemDrop x)) = c.elements ≤ x
OpNamesNothing c (op.Simple simple.TableCopy) = c.has_table ≡ false
OpNamesNothing c (op.Simple (simple.Load o a)) = c.has_memory ≡ false
OpNamesNothing c (op.Simple (simple.Store o a)) = c.has_memory ≡ false
OpNamesNothing c (op.Label l) = slice_get c.labels l ≡ None
OpNamesNothing c _ = ⊥

abbrev pub HasNoItem : List Item → Item → Type 0
HasNoItem items (const_op o) = (c : InConstant items) × ConstantNamesNothing c.globals o
HasNoItem items (body_op o) = (b : InBody items) × OpNamesNothing (context_inside b) o
HasNoItem items x = NamesNothing (so_far items) x

-- `Immutable`: a `global.set` names an immutable global. Core spec 3.3.3.
abbrev pub SetsConstant : List GlobalType → Op → Type 0
SetsConstant globals (op.Simple (simple.GlobalSet x)) =
    (g : GlobalType) × (slice_get globals x ≡ Some g) × (g.var ≡ false)
SetsConstant globals _ = ⊥

-- `Align`: the alignment is greater than the width of the access. Core spec 3.3.4.
abbrev pub IsAlignedPast : Op → Type 0
IsAlignedPast (op.Simple (simple.Load o a)) = (load o).width < 2 ^ a.align
IsAlignedPast (op.Simple (simple.Store o a)) = (store o).width < 2 ^ a.align
IsAlignedPast _ = ⊥

-- `NotConst`: no constant expression has this op, or it is a `global.get` of a mutable global. Core spec 3.3.7.
abbrev pub CannotBeConstant : List GlobalType → Op → Type 0
CannotBeConstant globals (op.Simple (simple.I32Const n)) = ⊥
CannotBeConstant globals (op.Simple (simple.I64Const n)) = ⊥
CannotBeConstant globals (op.Simple (simple.F32Const n)) = ⊥
CannotBeConstant globals (op.Simple (simple.F64Const n)) = ⊥
CannotBeConstant globals (op.Simple (simple.GlobalGet x)) =
    (g : GlobalType) × (slice_get globals x ≡ Some g) × (g.var ≡ true)
CannotBeConstant globals op.End = ⊥
CannotBeConstant globals _ = Unit {0}

-- The item is an op of a body (`AtOp`) or of a constant expression (`AtConstant`), and `IsWrong` holds for it
-- and the globals so far.
abbrev pub AtOp : (List GlobalType → Op → Type 0) → List Item → Item → Type 0
AtOp IsWrong items (body_op o) = IsWrong (so_far items).globals o
AtOp IsWrong items _ = ⊥

abbrev pub AtConstant : (List GlobalType → Op → Type 0) → List Item → Item → Type 0
AtConstant IsWrong items (const_op o) = IsWrong (so_far items).globals o
AtConstant IsWrong items _ = ⊥

-- `TooManyLocals`: with this run, the code entry declares 2^32 locals or more. Core spec 5.5.13.
abbrev pub AreTooMany : List Item → Item → Type 0
AreTooMany items (locals n t) =
    (e : InEntry items) × (e.code.ops ≡ []) × (2 ^ 32 ≤ length (locals_of e.code.runs) + n)
AreTooMany items _ = ⊥

abbrev pub IsNoFirstBranch : List Head → Type 0
IsNoFirstBranch (head If t ∷ hs) = ⊥
IsNoFirstBranch _ = Unit {0}

-- `ElsePlace`: an `else` comes while the innermost open list is not the first branch of an `if`.
-- Core spec 5.4.1.
abbrev pub IsElseOutside : List Item → Item → Type 0
IsElseOutside items (body_op op.Else) = (b : InBody items) × IsNoFirstBranch (heads_of b.typing.0)
IsElseOutside items _ = ⊥

-- Some typed body begins with these ops. Core spec 3.4.1.
abbrev pub BeginsBody : Context → List Op → Type 0
BeginsBody c ops = (more : List Op) × IsTypedBody c (ops ++ more)

-- The ops before this op begin a typed body. Nothing is claimed before a label of a br_table. There the ops
-- have a typing, but the default label may take operands that are missing.
abbrev pub BeginsBefore : Context → List Op → Op → Type 0
BeginsBefore c ops (op.Label l) = Unit {0}
BeginsBefore c ops _ = BeginsBody c ops

-- `Type` and `Arity`, in a body: the ops so far begin a typed body (`BeginsBefore`), but with this op they do
-- not. Core spec 3.3.
abbrev pub EndsTyping : {items : List Item} → InBody items → Op → Type 0
EndsTyping b o =
    BeginsBefore (context_of_body b.entry b.type_index) b.entry.code.ops o
    × (BeginsBody (context_of_body b.entry b.type_index) (b.entry.code.ops ++ o ∷ []) → ⊥)

-- `Type`, in a constant: the type of the instruction is not the wanted one. Core spec 3.3.7.
abbrev pub HasOtherType : ValType → List GlobalType → Op → Type 0
HasOtherType t globals (op.Simple (simple.I32Const n)) = t ≢ I32
HasOtherType t globals (op.Simple (simple.I64Const n)) = t ≢ I64
HasOtherType t globals (op.Simple (simple.F32Const n)) = t ≢ F32
HasOtherType t globals (op.Simple (simple.F64Const n)) = t ≢ F64
HasOtherType t globals (op.Simple (simple.GlobalGet x)) =
    (g : GlobalType) × (slice_get globals x ≡ Some g) × (t ≢ g.ty)
HasOtherType t globals _ = ⊥

-- `Arity`, in a constant: it ends without an instruction, or has a second one. Core spec 3.3.7.
abbrev pub IsNotOne : List Op → Op → Type 0
IsNotOne ops op.End = ops ≡ []
IsNotOne ops _ = ops ≢ []

-- `Arity`, in a function type: another result comes, but the last type has one already. Core spec 3.2.2.
abbrev pub LastHasResult : List Signature → Type 0
LastHasResult [] = ⊥
LastHasResult (f ∷ []) = f.results ≢ []
LastHasResult (f ∷ g ∷ types) = LastHasResult (g ∷ types)

-- The innermost open list can leave these operand types. Among the labels of a br_table, the i32 that it took
-- is not one of them. Core spec 3.3.6.
abbrev pub Leaves : Context → Place → List ValType → Type 0
Leaves c (open_at (h ∷ hs) (work first s ∷ ws)) types = Typed (at c (h ∷ hs)) s [] types
Leaves c (within n seen (h ∷ hs) (work first s ∷ ws)) types = Typed (at c (h ∷ hs)) s [] (types ++ I32 ∷ [])
Leaves c _ types = ⊥

-- The two lists of types, topmost last, agree above some position. At this position both have a type, and the
-- types differ.
pub record OperandDiffers (types takes : List ValType) : Type 0 where
  pub under : List ValType
  pub there : ValType
  pub before : List ValType
  pub wanted : ValType
  pub above : List ValType
  pub left : types ≡ under ++ there ∷ above
  pub taken : takes ≡ before ++ wanted ∷ above
  pub differ : there ≢ wanted

-- `Type`, in a body. The op has a type in its context, but some operand has a type other than the op takes,
-- whichever type the op has. At an `else` or an `end`, the result of the list has another type. No operand need
-- differ if an `if` with a result ends without an `else`. At a label of a br_table, the operand has another
-- type, or an earlier label has. Core spec 3.3.1 to 3.3.6.
abbrev pub TypesDiffer : Context → Place → Op → List ValType → Type 0
TypesDiffer c q (op.Simple p) types =
    ((takes gives : List ValType) × TypedSimple (at c (heads_of q)) p takes gives)
    × ((takes gives : List ValType) → TypedSimple (at c (heads_of q)) p takes gives
    → OperandDiffers types takes)
TypesDiffer c q (op.If t) types = OperandDiffers types (I32 ∷ [])
TypesDiffer c q (op.BrTable n) types = OperandDiffers types (I32 ∷ [])
TypesDiffer c (within n seen hs ws) (op.Label l) types =
    (t : Option ValType) × (slice_get (at c hs).labels l ≡ Some t)
    × (OperandDiffers types (option_to_list t)
    ⊎ ((front rest : List ℕ) × (k : ℕ) × (u : Option ValType) × (seen ≡ front ++ k ∷ rest)
    × (slice_get (at c hs).labels k ≡ Some u) × (u ≢ t)))
TypesDiffer c (open_at (head k t ∷ hs) ws) op.Else types = OperandDiffers types (option_to_list t)
TypesDiffer c (open_at (head If (Some t) ∷ hs) ws) op.End types = Unit {0}
TypesDiffer c (open_at (head k t ∷ hs) ws) op.End types = OperandDiffers types (option_to_list t)
TypesDiffer c q _ types = ⊥

abbrev pub IsMistyped : List Item → Item → Type 0
IsMistyped items (const_op o) =
    (c : InConstant items) × (c.ops ≡ []) × HasOtherType c.wanted (so_far items).globals o
IsMistyped items (body_op o) =
    (b : InBody items) × EndsTyping b o
    × ((types : List ValType) → Leaves (context_of_body b.entry b.type_index) b.typing.0 types
    → TypesDiffer (context_of_body b.entry b.type_index) b.typing.0 o types)
IsMistyped items _ = ⊥

-- `Arity`, in a body. The op has a type in its context, but takes more operands than there are, whichever type
-- it has. At an `else` or an `end`, the number of types is not that of the result. Core spec 3.3.1 to 3.3.6.
abbrev pub CountDiffers : Context → Place → Op → List ValType → Type 0
CountDiffers c q (op.Simple p) types =
    ((takes gives : List ValType) × TypedSimple (at c (heads_of q)) p takes gives)
    × ((takes gives : List ValType) → TypedSimple (at c (heads_of q)) p takes gives
    → length types < length takes)
CountDiffers c q (op.If t) types = length types < 1
CountDiffers c q (op.BrTable n) types = length types < 1
CountDiffers c q (op.Label l) types =
    (t : Option ValType) × (slice_get (at c (heads_of q)).labels l ≡ Some t)
    × (length types < length (option_to_list t))
CountDiffers c (open_at (head k t ∷ hs) ws) op.Else types = length types ≢ length (option_to_list t)
CountDiffers c (open_at (head k t ∷ hs) ws) op.End types = length types ≢ length (option_to_list t)
CountDiffers c q _ types = ⊥

abbrev pub HasWrongCount : List Item → Item → Type 0
HasWrongCount items (result_count n) = 1 < n
HasWrongCount items (one_result t) = LastHasResult (so_far items).types
HasWrongCount items (const_op o) = (c : InConstant items) × IsNotOne c.ops o
HasWrongCount items (body_op o) =
    (b : InBody items) × EndsTyping b o
    × ((types : List ValType) → Leaves (context_of_body b.entry b.type_index) b.typing.0 types
    → CountDiffers (context_of_body b.entry b.type_index) b.typing.0 o types)
HasWrongCount items _ = ⊥

-- `ManyFunctions`: the first function, imported or not, that exceeds the limit of the policy.
abbrev pub AreManyFunctions : Policy → List Item → Item → Type 0
AreManyFunctions q items (function x) =
    GoesPast q.functions (length (so_far items).functions) (length (so_far items).functions + 1)
AreManyFunctions q items (import_desc (desc.Func x)) =
    GoesPast q.functions (length (so_far items).functions) (length (so_far items).functions + 1)
AreManyFunctions q items _ = ⊥

-- `ManyLocals`: the first run of locals with which the code entry exceeds the limit of the policy.
abbrev pub AreManyLocals : Policy → List Item → Item → Type 0
AreManyLocals q items (locals n t) =
    (e : InEntry items) × (e.code.ops ≡ [])
    × GoesPast q.locals (length (locals_of e.code.runs)) (length (locals_of e.code.runs) + n)
AreManyLocals q items _ = ⊥

-- `Deep`: the first block, loop or if of the body with which more are open than the policy allows. After each
-- front of the ops, the number of open blocks is the number of openings less the number of ends. The body
-- itself is an open list but no block. Hence the number of open blocks with this op is the number of open lists
-- before it.
abbrev pub IsTooDeep : Policy → List Item → Item → Type 0
IsTooDeep q items (body_op o) =
    (b : InBody items) × (opens o ≡ 1)
    × ((front back : List Op) → b.entry.code.ops ≡ front ++ back
    → AtMost q.depth (openings front - endings front))
    × (AtMost q.depth (levels b.typing.0) → ⊥)
IsTooDeep q items _ = ⊥

-- The meaning of a name. It covers the 15 names of the format, the twelve of rules, and the three of a policy.
-- Nothing is claimed for `Memory`.
abbrev pub Means : Profile → ℕ → Policy → List ℕ → List ℕ → Why → Type 0
Means p limit q used rest why.Index = AtItem p HasNoItem used
Means p limit q used rest why.Limits = AtItem p IsOutOfRange used
Means p limit q used rest why.Second = AtItem p IsSecond used
Means p limit q used rest why.DuplicateExport = AtItem p IsRepeated used
Means p limit q used rest why.StartType = AtItem p IsNoStart used
Means p limit q used rest why.NotConst = AtItem p (AtConstant CannotBeConstant) used
Means p limit q used rest why.Immutable = AtItem p (AtOp SetsConstant) used
Means p limit q used rest why.Align = AtItem p (AtOp (λ globals o. IsAlignedPast o)) used
Means p limit q used rest why.TooManyLocals = AtItem p AreTooMany used
Means p limit q used rest why.Mismatch = AtItem p IsMistyped used
Means p limit q used rest why.Arity = AtItem p HasWrongCount used
Means p limit q used rest why.ElsePlace = AtItem p IsElseOutside used
Means p limit q used rest why.ManyFunctions = AtItem p (AreManyFunctions q) used
Means p limit q used rest why.ManyLocals = AtItem p (AreManyLocals q) used
Means p limit q used rest why.Deep = AtItem p (IsTooDeep q) used
Means p limit q used rest w = MeansOfFormat p limit used rest w

-- The offset of the refusal lies within the input, and the meaning of its name holds for the bytes up to it.
abbrev pub Meaning : Profile → ℕ → Policy → List ℕ → Refusal → Type 0
Meaning p limit q input r = Meant (Means p limit q) input r
