-- A flat value is good if each of its members is, by the rules of validation. Core spec 3.4.
use Rattle.std.specs.Prelude.{ℕ, ◌<◌, ◌≤◌, ◌^◌, ◌≡◌, ◌≢◌, List, [], ◌∷◌, ◌++◌, Some, IfSome, length, map, filter_map, Option, None}
use Rattle.std.specs.List.{AllByRecursion, AllZip}
use Rattle.wm_syntax.specs.declared.types.ValType.{ValType}
use Rattle.wm_syntax.specs.declared.types.ValType.TheVariants.{I32}
use Rattle.wm_syntax.specs.declared.types.Limits.{Limits}
use Rattle.wm_syntax.specs.declared.types.GlobalType.{GlobalType}
use Rattle.wm_syntax.specs.declared.types.Const.{Const}
use Rattle.wm_syntax.specs.declared.instructions.Op.{Op}
use Rattle.wm_syntax.specs.declared.modules.ExportKind.{ExportKind}
use Rattle.wm_syntax.specs.declared.modules.ExportKind.TheVariants as kind
use Rattle.wm_syntax.specs.Modules.{imported_function, imported_table, imported_memory, imported_global}
use Rattle.wm_typing.specs.TypedBodies.{IsTypedBody}
use Rattle.wm_typing.specs.Contexts.{body_context, context}
use Rattle.wm_typing.specs.Typing.{Context, function_type}
use Rattle.wm_machine.specs.Flat.{FlatModule, FlatCode, constant_ops}
use Rattle.wm_machine.specs.Grammar.{IsExpression}
use Rattle.wm_syntax.specs.Modules.{locals_of}
use Rattle.wm_rules.specs.Validation.{TypedConst, ValidDesc, ValidTable, ValidMemory, is_some_item}

-- the ops of a constant expression of this type, over the globals that it may name (section 3.3.7)
abbrev pub IsTypedConst : List GlobalType → List Op → ValType → Type 0
IsTypedConst globals ops t = (c : Const) × (ops ≡ constant_ops c) × TypedConst globals c t

-- the ops of the offset of a segment with this index of a table or a memory: an expression, or none if it is passive
abbrev pub IsOffset : Option ℕ → List Op → Type 0
IsOffset None ops = ops ≡ []
IsOffset (Some x) ops = IsExpression ops

-- a segment with this index of a table or a memory and these ops of an offset, among so many tables or memories
abbrev pub IsGoodMode : (targets : ℕ) → List GlobalType → Option ℕ → List Op → Type 0
IsGoodMode targets globals None ops = ops ≡ []
IsGoodMode targets globals (Some x) ops = (x < targets) × IsTypedConst globals ops I32

-- the index spaces
abbrev pub flat_functions : FlatModule → List ℕ
flat_functions v = filter_map imported_function v.imports ++ v.functions

abbrev pub flat_tables : FlatModule → List Limits
flat_tables v = filter_map imported_table v.imports ++ v.tables

abbrev pub flat_memories : FlatModule → List Limits
flat_memories v = filter_map imported_memory v.imports ++ v.memories

abbrev pub flat_globals : FlatModule → List GlobalType
flat_globals v = filter_map imported_global v.imports ++ map (λ g. g.ty) v.globals

-- the number in a data count section, or 0
abbrev pub given : Option ℕ → ℕ
given None = 0
given (Some n) = n

abbrev pub flat_context : FlatModule → Context
flat_context v =
    context v.types (flat_functions v) (flat_globals v) (is_some_item (flat_tables v)) (is_some_item (flat_memories v)) (length v.elements) (given v.data_count)

abbrev pub flat_items : FlatModule → ExportKind → ℕ
flat_items v kind.Func = length (flat_functions v)
flat_items v kind.Table = length (flat_tables v)
flat_items v kind.Memory = length (flat_memories v)
flat_items v kind.Global = length (flat_globals v)

-- each name differs from those after it
abbrev pub AreDistinct : List (List ℕ) → Type 0
AreDistinct [] = Unit {0}
AreDistinct (x ∷ xs) = AllByRecursion (λ y. x ≢ y) xs × AreDistinct xs

-- the code of a function of this type
pub record TypedCode (c : Context) (x : ℕ) (code : FlatCode) : Type 0 where
  pub few : length (locals_of code.runs) < 2 ^ 32
  pub typed : IsTypedBody (body_context c x (locals_of code.runs)) code.ops

pub record IsGood (v : FlatModule) : Type 0 where
  pub types : AllByRecursion (λ f. length f.results ≤ 1) v.types
  pub imports : AllByRecursion (λ i. ValidDesc (length v.types) i.desc) v.imports
  pub functions : AllByRecursion (λ x. x < length v.types) v.functions
  pub tables : AllByRecursion ValidTable v.tables
  pub memories : AllByRecursion ValidMemory v.memories
  pub one_table : length (flat_tables v) ≤ 1
  pub one_memory : length (flat_memories v) ≤ 1
  pub globals : AllByRecursion (λ g. IsTypedConst (filter_map imported_global v.imports) g.init g.ty.ty) v.globals
  pub exports : AllByRecursion (λ e. e.index < flat_items v e.kind) v.exports
  pub names : AreDistinct (map (λ e. e.name) v.exports)
  pub start : IfSome v.start (λ x. function_type (flat_context v) x ≡ Some (record { params = []; results = [] }))
  pub elements : AllByRecursion (λ e. IsGoodMode (length (flat_tables v)) (flat_globals v) e.table e.offset × AllByRecursion (λ x. x < length (flat_functions v)) e.functions) v.elements
  pub codes : AllZip (TypedCode (flat_context v)) v.functions v.codes
  pub segments : AllByRecursion (λ s. IsGoodMode (length (flat_memories v)) (flat_globals v) s.memory s.offset) v.segments

-- what the format demands of a flat value, beyond its bytes
pub record IsGrammatical (v : FlatModule) : Type 0 where
  pub globals : AllByRecursion (λ g. IsExpression g.init) v.globals
  pub elements : AllByRecursion (λ e. IsOffset e.table e.offset) v.elements
  pub codes : AllByRecursion (λ c. IsExpression c.ops) v.codes
  pub segments : AllByRecursion (λ s. IsOffset s.memory s.offset) v.segments
  pub paired : length v.functions ≡ length v.codes
  pub counted : IfSome v.data_count (λ n. n ≡ length v.segments)
