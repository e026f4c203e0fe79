-- Exact answers of the readers of fields (Core spec 6.6), given what the heads of all fields define.
use Rattle.std.specs.Prelude.{ℕ, suc, ◌&&◌, List, [], ◌∷◌, ◌++◌, Bool, true, false, Option, Some, None}
use Rattle.wm_syntax.specs.Profiles.{has}
use Rattle.wm_syntax.specs.declared.profile.Feature.TheVariants.{BulkMemory}
use Rattle.wm_syntax.specs.declared.modules.SegmentMode.TheVariants.{Passive, Active}
use Rattle.wm_syntax.specs.declared.modules.SegmentMode.{SegmentMode}
use Rattle.std.specs.Prelude.{if◌then◌else◌, codes, flat_map, length, nat_lt}
use Rattle.std.specs.Str.{is_utf8}
use Rattle.wm_syntax.specs.declared.types.Const.{Const}
use Rattle.wm_syntax.specs.declared.types.Const.TheVariants as const
use Rattle.wm_syntax.specs.declared.instructions.FloatType.TheVariants as float
use Rattle.wm_floats.specs.exact.Atoms.{float_of}
use Rattle.wm_syntax.specs.declared.modules.ImportDesc.{ImportDesc}
use Rattle.wm_syntax.specs.declared.modules.ImportDesc.TheVariants as desc
use Rattle.wm_syntax.specs.declared.modules.ExportKind.{ExportKind}
use Rattle.wm_syntax.specs.declared.modules.ExportKind.TheVariants as kind
use Rattle.wm_syntax.specs.declared.instructions.op_class.Immediates.{Immediates}
use Rattle.wm_syntax.specs.declared.instructions.op_class.Indexed.TheVariants as indexed
use Rattle.wm_syntax.specs.declared.instructions.op_class.Immediates.TheVariants as k
use Rattle.wm_syntax.specs.declared.instructions.op_class.OpClass.{OpClass}
use Rattle.wm_syntax.specs.declared.instructions.op_class.OpClass.TheVariants as class
use Rattle.wm_syntax.specs.declared.profile.Profile.{Profile}
use Rattle.wm_syntax.specs.exact.NameTable.{class_named}
use Rattle.wm_syntax.specs.Modules.{Function}
use Rattle.wm_tokens.specs.Tokens.{Token, close_paren, string, atom}
use Rattle.wm_tokens.specs.Identifiers.{Id, Ids}
use Rattle.wm_tokens.specs.Written.{Named, Names, types_of, ids_of}
use Rattle.wm_tokens.specs.Fields.{Field, type_field, import_field, function_field, table_field, memory_field}
use Rattle.wm_tokens.specs.Fields.{global_field, export_field, start_field, element_field, segment_field}
use Rattle.wm_read.specs.declared.fields.keywords.FieldKind.{FieldKind}
use Rattle.wm_read.specs.declared.fields.keywords.FieldKind.TheVariants as field
use Rattle.wm_bodies.specs.exact.Reading.{Reader, ◌>>=◌, made, same_bytes, open_at, close_at, atom_at, then_at}
use Rattle.wm_bodies.specs.exact.Reading.{paren_at, many_at, id_at, index_of, is_new, integer_of, labels_at}
use Rattle.wm_read.specs.exact.FieldTypes.{limits_at, table_type_at, global_type_at}
use Rattle.wm_read.specs.exact.Signatures.{signature_at}
use Rattle.wm_bodies.specs.exact.NamedUses.{named_use_at}
use Rattle.wm_bodies.specs.exact.TypeUses.{begins_group, begins_open, instructions_at, named_at}

-- ---- keywords of fields and descriptors

abbrev pub field_word : FieldKind → List ℕ
field_word field.Type = codes "type"
field_word field.Import = codes "import"
field_word field.Func = codes "func"
field_word field.Table = codes "table"
field_word field.Memory = codes "memory"
field_word field.Global = codes "global"
field_word field.Export = codes "export"
field_word field.Start = codes "start"
field_word field.Elem = codes "elem"
field_word field.Data = codes "data"

abbrev pub item_word : ExportKind → List ℕ
item_word kind.Func = codes "func"
item_word kind.Table = codes "table"
item_word kind.Memory = codes "memory"
item_word kind.Global = codes "global"

-- The first of these kinds that has this keyword.
abbrev pub with_word : {K : Type 0} → (K → List ℕ) → List K → List ℕ → Option K
with_word word [] a = None
with_word word (x ∷ xs) a = if same_bytes a (word x) then Some x else with_word word xs a

abbrev pub field_named : List ℕ → Option FieldKind
field_named a =
    with_word field_word (field.Type ∷ field.Import ∷ field.Func ∷ field.Table ∷ field.Memory ∷ field.Global
    ∷ field.Export ∷ field.Start ∷ field.Elem ∷ field.Data ∷ []) a

abbrev pub item_named : List ℕ → Option ExportKind
item_named a = with_word item_word (kind.Func ∷ kind.Table ∷ kind.Memory ∷ kind.Global ∷ []) a

-- ( keyword .. ), where the keyword decides how the rest is read.
abbrev pub headed_at : {K X : Type 0} → (List ℕ → Option K) → (K → Reader X) → Reader X
headed_at named r k =
    open_at k >>= λ o. atom_at named o.1 >>= λ w. r w.0 w.1 >>= λ x. close_at x.1 >>= λ c. Some (x.0, c.1)

-- ---- names and strings

abbrev pub name_at : Reader (List ℕ)
name_at (string b ∷ k) = if is_utf8 b then Some (b, k) else None
name_at _ = None

abbrev pub strings_at : Reader (List (List ℕ))
strings_at (string b ∷ k) = strings_at k >>= λ x. Some (b ∷ x.0, x.1)
strings_at k = Some ([], k)

-- The bytes of all strings up to another token, joined.
abbrev pub bytes_at : Reader (List ℕ)
bytes_at k = made (λ parts. flat_map (λ part. part) parts) (strings_at k)

-- ---- constants

abbrev pub const_kind : Names → Immediates → Reader Const
const_kind names k.I32Const t = made const.I32 (atom_at (integer_of 32) t)
const_kind names k.I64Const t = made const.I64 (atom_at (integer_of 64) t)
const_kind names k.F32Const t = made const.F32 (atom_at (float_of float.F32) t)
const_kind names k.F64Const t = made const.F64 (atom_at (float_of float.F64) t)
const_kind names (k.Index indexed.GlobalGet) t = made const.Global (atom_at (index_of names.globals) t)
const_kind names _ t = None

abbrev pub const_class : Names → OpClass → Reader Const
const_class names (class.With kind) t = const_kind names kind t
const_class names _ t = None

abbrev pub instruction_at : Profile → Names → Reader Const
instruction_at p names (atom w ∷ t) = const_class names (class_named p w) t
instruction_at p names _ = None

-- An instruction and a closing parenthesis.
abbrev pub folded_at : Profile → Names → Reader Const
folded_at p names k = instruction_at p names k >>= λ x. close_at x.1 >>= λ c. Some (x.0, c.1)

abbrev pub paren_const_at : Profile → Names → Reader Const
paren_const_at p names k = open_at k >>= λ o. folded_at p names o.1

abbrev pub const_at : Profile → Names → Reader Const
const_at p names k = if begins_open k then paren_const_at p names k else instruction_at p names k

-- A constant and a closing parenthesis.
abbrev pub closed_const_at : Profile → Names → Reader Const
closed_const_at p names k = const_at p names k >>= λ x. close_at x.1 >>= λ c. Some (x.0, c.1)

abbrev pub offset_at : Profile → Names → Reader Const
offset_at p names k =
    if begins_group (codes "offset") k then paren_at (codes "offset") (const_at p names) k
    else paren_const_at p names k

-- ---- tables, memories and functions of segments

abbrev pub target_at : Ids → Reader ℕ
target_at ids k =
    id_at k >>= λ i. if is_new ids i.0 && begins_open i.1 then Some (0, i.1) else atom_at (index_of ids) k

abbrev pub after_func : List Token → List Token
after_func (atom a ∷ k) = if same_bytes a (codes "func") then k else atom a ∷ k
after_func k = k

abbrev pub functions_at : Ids → Reader (List ℕ)
functions_at ids k = labels_at ids (after_func k)

-- ---- descriptors of imports and exports

abbrev pub desc_kind : Profile → Names → ExportKind → Reader ImportDesc
desc_kind p names kind.Func t = made (λ u. desc.Func u.0) (named_use_at p names t)
desc_kind p names kind.Table t = made desc.Table (table_type_at t)
desc_kind p names kind.Memory t = made desc.Memory (limits_at t)
desc_kind p names kind.Global t = made desc.Global (global_type_at p t)

abbrev pub desc_at : Profile → Names → Reader (Id × ImportDesc)
desc_at p names = headed_at item_named (λ kind. then_at id_at (desc_kind p names kind))

abbrev pub space_of : Names → ExportKind → Ids
space_of names kind.Func = names.functions
space_of names kind.Table = names.tables
space_of names kind.Memory = names.memories
space_of names kind.Global = names.globals

abbrev pub item_at : Names → Reader (ExportKind × ℕ)
item_at names =
    headed_at item_named (λ kind t. made (λ x. (kind, x)) (atom_at (index_of (space_of names kind)) t))

-- ---- functions

-- No identifier repeats, and none is among those seen.
abbrev pub all_new : Ids → Ids → Bool
all_new seen [] = true
all_new seen (id ∷ ids) = is_new seen id && all_new (seen ++ id ∷ []) ids

abbrev pub function_of : ℕ → List Named → List Named → Profile → Names → Reader Function
function_of x params locals p names t =
    instructions_at p (record { names = names; locals = ids_of (params ++ locals) }) t
    >>= λ b. Some (record { type_index = x; locals = types_of locals; body = b.0 }, b.1)

-- There are fewer than 2^32 locals, and identifiers of parameters and locals are distinct.
abbrev pub is_function : List Named → List Named → Bool
is_function params locals =
    nat_lt (length (types_of locals)) 0x1_0000_0000 && all_new [] (ids_of (params ++ locals))

abbrev pub function_by : Profile → Names → ℕ → List Named → List Named → Reader Function
function_by p names x params locals t =
    if is_function params locals then function_of x params locals p names t else None

unfoldable pub function_at : Profile → Names → Reader Function
function_at p names t =
    then_at (named_use_at p names) (named_at p (codes "local")) t
    >>= λ h. function_by p names h.0.0.0 h.0.0.1 h.0.1 h.1

-- ---- fields

abbrev pub import_at : Profile → Names → Reader Field
import_at p names t =
    made (λ x. import_field x.1.1.0 (record {
      module_name = x.0;
      item_name = x.1.0;
      desc = x.1.1.1;
    })) (then_at name_at (then_at name_at (desc_at p names)) t)

abbrev pub global_at : Profile → Names → Reader Field
global_at p names t =
    made (λ x. global_field x.0 (record {
      ty = x.1.0;
      init = x.1.1;
    })) (then_at id_at (then_at (global_type_at p) (const_at p names)) t)

abbrev pub export_at : Names → Reader Field
export_at names t =
    made (λ x. export_field (record {
      name = x.0;
      kind = x.1.0;
      index = x.1.1;
    })) (then_at name_at (item_at names) t)

abbrev pub begins_func : List Token → Bool
begins_func (atom a ∷ k) = same_bytes a (codes "func")
begins_func _ = false

abbrev pub begins_strings : List Token → Bool
begins_strings (string b ∷ k) = true
begins_strings (close_paren ∷ k) = true
begins_strings _ = false

abbrev pub active_at : Profile → Names → Ids → Reader SegmentMode
active_at p names ids t = made (λ x. Active x.0 x.1) (then_at (target_at ids) (offset_at p names) t)

-- Whether a segment is passive: the profile has passive segments, and the segment's list comes first, or after an
-- identifier that no item of the space has.
abbrev pub is_passive : Profile → Ids → Id → Bool → Bool
is_passive p ids own listed = (has p BulkMemory && listed) && is_new ids own

-- The mode of a segment. `listed` says whether tokens begin its list.
abbrev pub mode_at : Profile → Names → Ids → (List Token → Bool) → Reader SegmentMode
mode_at p names ids listed t =
    id_at t >>= λ i. if is_passive p ids i.0 (listed i.1) then Some (Passive, i.1) else active_at p names ids t

abbrev pub element_at : Profile → Names → Reader Field
element_at p names t =
    made (λ x. element_field (record { mode = x.0; functions = x.1 }))
    (then_at (mode_at p names names.tables begins_func) (functions_at names.functions) t)

abbrev pub segment_at : Profile → Names → Reader Field
segment_at p names t =
    made (λ x. segment_field (record { mode = x.0; bytes = x.1 }))
    (then_at (mode_at p names names.memories begins_strings) bytes_at t)

-- The contents of a field: all between its keyword and its closing parenthesis.
abbrev pub inside_at : Profile → Names → FieldKind → Reader Field
inside_at p names field.Type t = made (λ x. type_field x.0 x.1) (then_at id_at (signature_at p) t)
inside_at p names field.Import t = import_at p names t
inside_at p names field.Func t = made (λ x. function_field x.0 x.1) (then_at id_at (function_at p names) t)
inside_at p names field.Table t = made (λ x. table_field x.0 x.1) (then_at id_at table_type_at t)
inside_at p names field.Memory t = made (λ x. memory_field x.0 x.1) (then_at id_at limits_at t)
inside_at p names field.Global t = global_at p names t
inside_at p names field.Export t = export_at names t
inside_at p names field.Start t = made start_field (atom_at (index_of names.functions) t)
inside_at p names field.Elem t = element_at p names t
inside_at p names field.Data t = segment_at p names t

unfoldable pub field_at : Profile → Names → Reader Field
field_at p names = headed_at field_named (inside_at p names)

-- All fields up to a token that is no opening parenthesis.
unfoldable pub fields_at : Profile → Names → Reader (List Field)
fields_at p names t = many_at (suc (length t)) begins_open (field_at p names) t
