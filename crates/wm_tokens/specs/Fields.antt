-- The text of a module: which tokens write it. Core spec 6.6.
use Rattle.std.specs.Prelude.{◌≡◌, ℕ, ◌<◌, ◌≤◌, ◌^◌, List, [], ◌∷◌, ◌++◌, Bool, true, false, Option, Some}
use Rattle.wm_syntax.specs.declared.modules.SegmentMode.TheVariants.{Passive, Active}
use Rattle.wm_syntax.specs.declared.modules.SegmentMode.{SegmentMode}
use Rattle.std.specs.Prelude.{None, IsUtf8, AllPairs, codes, length, map, filter_map, flat_map, slice_get}
use Rattle.std.specs.Prelude.{◌≢◌, if◌then◌else◌}
use Rattle.wm_syntax.specs.Spelling.{Form, Each, ◌▸◌, ◌∣◌}
use Rattle.wm_syntax.specs.declared.types.ValType.{ValType}
use Rattle.wm_syntax.specs.declared.types.Limits.{Limits}
use Rattle.wm_syntax.specs.declared.types.Const.{Const}
use Rattle.wm_syntax.specs.declared.modules.ImportDesc.{ImportDesc}
use Rattle.wm_syntax.specs.declared.modules.ImportDesc.TheVariants.{Func, Table, Memory, Global}
use Rattle.wm_syntax.specs.declared.modules.ExportKind.{ExportKind}
use Rattle.wm_syntax.specs.declared.modules.ExportKind.TheVariants as kind
use Rattle.wm_syntax.specs.declared.profile.Profile.{Profile}
use Rattle.wm_syntax.specs.Types.{Signature}
use Rattle.wm_syntax.specs.Profiles.{IsOf}
use Rattle.wm_syntax.specs.Opcodes.{opcode}
use Rattle.wm_syntax.specs.Modules.{Import, Function, GlobalDef, Export, Element, Segment, Module, constant}
use Rattle.wm_tokens.specs.Tokens.{Token, string}
use Rattle.wm_tokens.specs.Identifiers.{Id, Ids, AreDistinct, WritesId, Resolves}
use Rattle.wm_tokens.specs.Written.{Keyword, Paren, Nothing, UnsignedNumber, WritesType, Named, WritesGroups}
use Rattle.wm_tokens.specs.Written.{WritesResults, types_of, ids_of, Names, TypeUse, WritesSimple}
use Rattle.wm_tokens.specs.Written.{WritesInstructions, WritesOperand}

abbrev pub WritesName : List ℕ → Form Token
WritesName name k = IsUtf8 name × (k ≡ string name ∷ [])

abbrev pub WritesSignature : Signature → Form Token
WritesSignature f k =
    (ps : List Named) × (types_of ps ≡ f.params)
    × Paren (codes "func") (WritesGroups (codes "param") ps ▸ WritesResults f.results) k

abbrev pub WritesMax : Option ℕ → Form Token
WritesMax None = Nothing
WritesMax (Some max) = UnsignedNumber max

abbrev pub WritesLimits : Limits → Form Token
WritesLimits l = UnsignedNumber l.min ▸ WritesMax l.max

abbrev pub WritesTableType : Limits → Form Token
WritesTableType l = WritesLimits l ▸ Keyword (codes "funcref")

abbrev pub WritesGlobalType : Bool → ValType → Form Token
WritesGlobalType false t = WritesType t
WritesGlobalType true t = Paren (codes "mut") (WritesType t)

-- The instruction of a constant, in parentheses. Core spec 6.5.7.
abbrev pub WritesFolded : Names → Const → Form Token
WritesFolded names c =
    Paren (opcode (constant c)).1 (WritesOperand (record { names = names; locals = [] }) [] (constant c))

-- A constant: its instruction, without parentheses or within them.
abbrev pub WritesConst : Names → Const → Form Token
WritesConst names c =
    WritesSimple (record { names = names; locals = [] }) [] (constant c) ∣ WritesFolded names c

-- The value of a field, with the identifier that it defines.
pub data Field : Type 0 where
  type_field : Id → Signature → Field
  import_field : Id → Import → Field
  function_field : Id → Function → Field
  table_field : Id → Limits → Field
  memory_field : Id → Limits → Field
  global_field : Id → GlobalDef → Field
  export_field : Export → Field
  start_field : ℕ → Field
  element_field : Element → Field
  segment_field : Segment → Field

-- The description of an import. The identifiers of a function's parameters mean nothing here. Two of them may
-- thus be the same, which Core spec 6.6.3 does not allow.
abbrev pub WritesDesc : Names → Id → ImportDesc → Form Token
WritesDesc names id (Func x) = λ k. (ps : List Named)
    × Paren (codes "func") (WritesId id ▸ TypeUse names x ps) k
WritesDesc names id (Table l) = Paren (codes "table") (WritesId id ▸ WritesTableType l)
WritesDesc names id (Memory l) = Paren (codes "memory") (WritesId id ▸ WritesLimits l)
WritesDesc names id (Global g) = Paren (codes "global") (WritesId id ▸ WritesGlobalType g.var g.ty)

abbrev pub WritesExport : Names → ExportKind → ℕ → Form Token
WritesExport names kind.Func x = Paren (codes "func") (Resolves names.functions x)
WritesExport names kind.Table x = Paren (codes "table") (Resolves names.tables x)
WritesExport names kind.Memory x = Paren (codes "memory") (Resolves names.memories x)
WritesExport names kind.Global x = Paren (codes "global") (Resolves names.globals x)

-- A function. Its parameters and locals are one index space of distinct identifiers. Core spec 6.6.5.
abbrev pub WritesFunction : Names → Id → Function → Form Token
WritesFunction names id f k =
    (params locals : List Named) × (types_of locals ≡ f.locals) × (length f.locals < 2 ^ 32)
    × AreDistinct (ids_of (params ++ locals))
    × Paren (codes "func") (WritesId id ▸ TypeUse names f.type_index params
    ▸ WritesGroups (codes "local") locals
    ▸ WritesInstructions (record { names = names; locals = ids_of (params ++ locals) }) [] f.body) k

-- The strings of a data field, which are joined.
abbrev pub WritesStrings : List ℕ → Form Token
WritesStrings bytes k = (items : List (List ℕ)) × (bytes ≡ flat_map (λ part. part) items)
    × (k ≡ map string items)

-- An offset: `( offset const )`, or an instruction in parentheses. Core spec 6.6.11 and 6.6.12.
abbrev pub WritesOffset : Names → Const → Form Token
WritesOffset names c = Paren (codes "offset") (WritesConst names c) ∣ WritesFolded names c

-- No item of the space has this identifier.
abbrev pub IsNoneOf : Ids → Id → Type 0
IsNoneOf ids id = (name : List ℕ) (x : ℕ) → id ≡ Some name → slice_get ids x ≢ Some (Some name)

-- An optional identifier that no item of the space has.
abbrev pub WritesOwn : Ids → Form Token
WritesOwn ids k = (own : Id) × IsNoneOf ids own × WritesId own k

-- The index of a segment's table or memory, given the identifiers of that space. It is 0 if no index is written.
-- Core spec 6.6.11 and 6.6.12. An identifier that no item of the space has may then be written. It is the
-- segment's own, as later versions of the standard allow, and means nothing here.
abbrev pub WritesTarget : Ids → ℕ → Form Token
WritesTarget ids x = Resolves ids x ∣ (λ k. (x ≡ 0) × WritesOwn ids k)

-- The mode of a segment, given the identifiers of the tables or memories. A passive one has no index and no offset
-- (WebAssembly 2.0, 6.6.11 and 6.6.12). It may have an identifier of its own, which no item of the space has.
abbrev pub WritesMode : Names → Ids → SegmentMode → Form Token
WritesMode names ids Passive = WritesOwn ids
WritesMode names ids (Active x offset) = WritesTarget ids x ▸ WritesOffset names offset

-- The functions of an element segment of this mode. The keyword `func` comes before those of a passive one
-- (WebAssembly 2.0, 6.6.11). It may come before those of an active one, as later versions of the standard allow.
abbrev pub WritesFunctions : Ids → SegmentMode → List ℕ → Form Token
WritesFunctions ids Passive xs = Keyword (codes "func") ▸ Each (Resolves ids) xs
WritesFunctions ids (Active x offset) xs = (Nothing ∣ Keyword (codes "func")) ▸ Each (Resolves ids) xs

abbrev pub WritesField : Names → Field → Form Token
WritesField names (type_field id f) = Paren (codes "type") (WritesId id ▸ WritesSignature f)
WritesField names (import_field id i) =
    Paren (codes "import") (WritesName i.module_name ▸ WritesName i.item_name ▸ WritesDesc names id i.desc)
WritesField names (function_field id f) = WritesFunction names id f
WritesField names (table_field id l) = Paren (codes "table") (WritesId id ▸ WritesTableType l)
WritesField names (memory_field id l) = Paren (codes "memory") (WritesId id ▸ WritesLimits l)
WritesField names (global_field id g) =
    Paren (codes "global") (WritesId id ▸ WritesGlobalType g.ty.var g.ty.ty ▸ WritesConst names g.init)
WritesField names (export_field e) =
    Paren (codes "export") (WritesName e.name ▸ WritesExport names e.kind e.index)
WritesField names (start_field x) = Paren (codes "start") (Resolves names.functions x)
WritesField names (element_field e) =
    Paren (codes "elem")
    (WritesMode names names.tables e.mode ▸ WritesFunctions names.functions e.mode e.functions)
WritesField names (segment_field s) =
    Paren (codes "data") (WritesMode names names.memories s.mode ▸ WritesStrings s.bytes)

-- The value of a field, if the field is of this kind.
abbrev pub type_of : Field → Option (Id × Signature)
type_of (type_field id f) = Some (id, f)
type_of _ = None

abbrev pub import_of : Field → Option Import
import_of (import_field id i) = Some i
import_of _ = None

abbrev pub function_of : Field → Option Function
function_of (function_field id f) = Some f
function_of _ = None

abbrev pub table_of : Field → Option Limits
table_of (table_field id l) = Some l
table_of _ = None

abbrev pub memory_of : Field → Option Limits
memory_of (memory_field id l) = Some l
memory_of _ = None

abbrev pub global_of : Field → Option GlobalDef
global_of (global_field id g) = Some g
global_of _ = None

abbrev pub export_of : Field → Option Export
export_of (export_field e) = Some e
export_of _ = None

abbrev pub start_of : Field → Option ℕ
start_of (start_field x) = Some x
start_of _ = None

abbrev pub element_of : Field → Option Element
element_of (element_field e) = Some e
element_of _ = None

abbrev pub segment_of : Field → Option Segment
segment_of (segment_field s) = Some s
segment_of _ = None

-- The identifier that a field defines in each index space (`id_in`).
abbrev pub imports_in : ExportKind → ImportDesc → Bool
imports_in kind.Func (Func x) = true
imports_in kind.Table (Table l) = true
imports_in kind.Memory (Memory l) = true
imports_in kind.Global (Global g) = true
imports_in _ _ = false

abbrev pub id_in : ExportKind → Field → Option Id
id_in space (import_field id i) = if imports_in space i.desc then Some id else None
id_in kind.Func (function_field id f) = Some id
id_in kind.Table (table_field id l) = Some id
id_in kind.Memory (memory_field id l) = Some id
id_in kind.Global (global_field id g) = Some id
id_in _ _ = None

abbrev pub names_of : List Field → Names
names_of fields = record {
  signatures = map (λ t. t.1) (filter_map type_of fields);
  types = map (λ t. t.0) (filter_map type_of fields);
  functions = filter_map (id_in kind.Func) fields;
  tables = filter_map (id_in kind.Table) fields;
  memories = filter_map (id_in kind.Memory) fields;
  globals = filter_map (id_in kind.Global) fields;
}

abbrev pub module_of : List Field → Module
module_of fields = record {
  types = map (λ t. t.1) (filter_map type_of fields);
  imports = filter_map import_of fields;
  functions = filter_map function_of fields;
  tables = filter_map table_of fields;
  memories = filter_map memory_of fields;
  globals = filter_map global_of fields;
  exports = filter_map export_of fields;
  start = slice_get (filter_map start_of fields) 0;
  elements = filter_map element_of fields;
  segments = filter_map segment_of fields;
}

abbrev pub IsDefinition : Field → Type 0
IsDefinition (function_field id f) = Unit {0}
IsDefinition (table_field id l) = Unit {0}
IsDefinition (memory_field id l) = Unit {0}
IsDefinition (global_field id g) = Unit {0}
IsDefinition _ = ⊥

abbrev pub IsImport : Field → Type 0
IsImport (import_field id i) = Unit {0}
IsImport _ = ⊥

-- In each index space, no two items have the same identifier.
pub record HasDistinct (names : Names) : Type 0 where
  pub types : AreDistinct names.types
  pub functions : AreDistinct names.functions
  pub tables : AreDistinct names.tables
  pub memories : AreDistinct names.memories
  pub globals : AreDistinct names.globals

-- The tokens write a module of the profile: each value type, constant and instruction in it is of the profile, and each
-- mode of a segment.
-- Core spec 6.6.13.
pub record Writes (p : Profile) (k : List Token) (m : Module) : Type 0 where
  pub id : Id
  pub fields : List Field
  pub text : Paren (codes "module") (WritesId id ▸ Each (WritesField (names_of fields)) fields) k
  pub value : module_of fields ≡ m
  pub instructions : IsOf p m
  -- Imports come before definitions, at most one field is a start, and the identifiers of each index space are
  -- distinct.
  pub imports_first : AllPairs (λ f g. IsDefinition f → IsImport g → ⊥) fields
  pub one_start : length (filter_map start_of fields) ≤ 1
  pub distinct : HasDistinct (names_of fields)
