-- The printed text of a module (Core spec chapter 6). Each field is on a new line, and so is each instruction. The text
-- is a list of words. A word is a token and the white space before it, so one definition gives the text and its tokens.
use Rattle.std.specs.Prelude.{ℕ, ◌/◌, ◌%◌, ◌^◌, ◌&&◌, ◌==◌, not, List, [], ◌∷◌, ◌++◌, Bool, Option, Some}
use Rattle.wm_syntax.specs.declared.modules.SegmentMode.TheVariants.{Passive, Active}
use Rattle.wm_syntax.specs.declared.modules.SegmentMode.{SegmentMode}
use Rattle.std.specs.Prelude.{None, codes, decimal, filter_map, flat_map, if◌then◌else◌, length, map, nat_le}
use Rattle.std.specs.Fmt.{signed_decimal}
use Rattle.std.specs.List.{enumerate_from}
use Rattle.wm_syntax.specs.declared.types.ValType.{ValType}
use Rattle.wm_syntax.specs.declared.types.Limits.{Limits}
use Rattle.wm_syntax.specs.declared.types.GlobalType.{GlobalType}
use Rattle.wm_syntax.specs.declared.types.Const.{Const}
use Rattle.wm_syntax.specs.declared.instructions.FloatType.TheVariants as float
use Rattle.wm_syntax.specs.declared.instructions.MemArg.{MemArg}
use Rattle.wm_syntax.specs.declared.instructions.Simple.{Simple}
use Rattle.wm_syntax.specs.declared.instructions.Simple.TheVariants.{Br, BrIf, Call, CallIndirect, LocalGet}
use Rattle.wm_syntax.specs.declared.instructions.Simple.TheVariants.{LocalSet, LocalTee, GlobalGet, GlobalSet}
use Rattle.wm_syntax.specs.declared.instructions.Simple.TheVariants.{I32Const, I64Const, F32Const, F64Const}
use Rattle.wm_syntax.specs.declared.instructions.Simple.TheVariants.{Load, Store, MemoryInit, DataDrop, TableInit, ElemDrop}
use Rattle.wm_syntax.specs.declared.instructions.Op.{Op}
use Rattle.wm_syntax.specs.declared.instructions.Op.TheVariants as op
use Rattle.wm_syntax.specs.declared.modules.ImportDesc.{ImportDesc}
use Rattle.wm_syntax.specs.declared.modules.ImportDesc.TheVariants.{Func, Table, Memory, Global}
use Rattle.wm_syntax.specs.declared.modules.ExportKind.{ExportKind}
use Rattle.wm_syntax.specs.declared.modules.ExportKind.TheVariants as kind
use Rattle.wm_syntax.specs.Instructions.{ops_of}
use Rattle.wm_syntax.specs.Modules.{Import, Function, GlobalDef, Export, Element, Segment, Module, constant}
use Rattle.wm_syntax.specs.Modules.{imported_function, imported_table, imported_memory, imported_global}
use Rattle.wm_syntax.specs.Opcodes.{load, opcode, store}
use Rattle.wm_syntax.specs.OpNames.{op_name}
use Rattle.wm_syntax.specs.Types.{Signature, type_text}
use Rattle.wm_write.specs.FloatText.{float_text, hex_digit}
use Rattle.wm_write.specs.declared.print.fields.Places.{Places}

-- The token of a word: a parenthesis, a string by its bytes, or an atom by its characters (Core spec 6.2.2).
pub data WordMeaning : Type 0 where
  opening : WordMeaning
  closing : WordMeaning
  string : List ℕ → WordMeaning
  atom : List ℕ → WordMeaning

-- The text of a string's bytes (Core spec 6.3.3). A printable ASCII character other than " and \ is written as itself.
-- Any other byte is written as \ and two hexadecimal digits, in lower case.
abbrev pub is_plain : ℕ → Bool
is_plain b = nat_le 0x20 b && nat_le b 0x7E && not (b == 34) && not (b == 92)

abbrev pub escaped : ℕ → List ℕ
escaped b = if is_plain b then b ∷ [] else 92 ∷ hex_digit (b / 16) ∷ hex_digit (b % 16) ∷ []

abbrev pub meaning_text : WordMeaning → List ℕ
meaning_text opening = 40 ∷ []
meaning_text closing = 41 ∷ []
meaning_text (string bytes) = 34 ∷ flat_map escaped bytes ++ 34 ∷ []
meaning_text (atom a) = a

-- A word: a token and the white space before it.
pub record Word : Type 0 where
  pub space : List ℕ
  pub means : WordMeaning

abbrev pub word_text : Word → List ℕ
word_text w = w.space ++ meaning_text w.means

abbrev pub words_text : List Word → List ℕ
words_text words = flat_map word_text words

abbrev pub word_at : List ℕ → WordMeaning → Word
word_at space means = record { space = space; means = means }

-- White space: a space between words, a line feed and two spaces before a field, and a line feed and four spaces in a
-- function.
abbrev pub gap : List ℕ
gap = 32 ∷ []

abbrev pub field_line : List ℕ
field_line = 10 ∷ 32 ∷ 32 ∷ []

abbrev pub body_line : List ℕ
body_line = 10 ∷ 32 ∷ 32 ∷ 32 ∷ 32 ∷ []

-- A word after a space: an atom, a number or a string.
abbrev pub spaced : List ℕ → Word
spaced a = word_at gap (atom a)

abbrev pub number : ℕ → Word
number n = spaced (decimal n)

abbrev pub quoted : List ℕ → Word
quoted bytes = word_at gap (string bytes)

-- `( head words )`. White space `before` precedes the opening parenthesis, and white space `after` the closing one.
abbrev pub parens : List ℕ → List ℕ → List Word → List ℕ → List Word
parens before head words after =
    word_at before opening ∷ word_at [] (atom head) ∷ words ++ word_at after closing ∷ []

abbrev pub form : List ℕ → List ℕ → List Word → List Word
form before head words = parens before head words []

-- The identifier of an item: a prefix for its kind, and its index, imports included (Core spec 6.3.5).
abbrev pub name : List ℕ → ℕ → Word
name prefix i = spaced (prefix ++ decimal i)

abbrev pub type_name : ℕ → Word
type_name i = name (codes "$t") i

abbrev pub function_name : ℕ → Word
function_name i = name (codes "$f") i

abbrev pub table_name : ℕ → Word
table_name i = name (codes "$tab") i

abbrev pub memory_name : ℕ → Word
memory_name i = name (codes "$mem") i

abbrev pub global_name : ℕ → Word
global_name i = name (codes "$g") i

-- A value type (Core spec 6.4.1).
abbrev pub type_word : ValType → Word
type_word t = spaced (type_text t)

-- `( head types )`, or nothing if there are no types: parameters, results or locals (Core spec 6.4.3, 6.6.5).
abbrev pub types_words : List ℕ → List ℕ → List ValType → List Word
types_words before head [] = []
types_words before head (t ∷ ts) = form before head (map type_word (t ∷ ts))

abbrev pub params_words : List ValType → List Word
params_words ts = types_words gap (codes "param") ts

abbrev pub results_words : List ValType → List Word
results_words ts = types_words gap (codes "result") ts

-- Limits (Core spec 6.4.4), which are also a memory type (Core spec 6.4.5). In a table type `funcref` follows them
-- (Core spec 6.4.6).
abbrev pub max_words : Option ℕ → List Word
max_words None = []
max_words (Some max) = number max ∷ []

abbrev pub limits_words : Limits → List Word
limits_words l = number l.min ∷ max_words l.max

abbrev pub table_words : Limits → List Word
table_words l = limits_words l ++ spaced (codes "funcref") ∷ []

-- A global type (Core spec 6.4.7).
abbrev pub global_type_words : GlobalType → List Word
global_type_words g = if g.var then form gap (codes "mut") (type_word g.ty ∷ []) else type_word g.ty ∷ []

-- A type use (Core spec 6.6.3).
abbrev pub type_use : ℕ → List Word
type_use x = form gap (codes "type") (type_name x ∷ [])

-- A part of a memory argument, omitted if it has its default value (Core spec 6.5.5).
abbrev pub key_words : List ℕ → ℕ → ℕ → List Word
key_words key usual n = if n == usual then [] else spaced (key ++ decimal n) ∷ []

abbrev pub access_words : ℕ → MemArg → List Word
access_words width at =
    key_words (codes "offset=") 0 at.offset ++ key_words (codes "align=") width (2 ^ at.align)

-- The operands of an instruction (Core spec 6.5.2 to 6.5.6). Locals and labels are numbers. Types, functions and
-- globals are identifiers.
abbrev pub immediate_words : Simple → List Word
immediate_words (Br l) = number l ∷ []
immediate_words (BrIf l) = number l ∷ []
immediate_words (Call x) = function_name x ∷ []
immediate_words (CallIndirect x) = type_use x
immediate_words (LocalGet x) = number x ∷ []
immediate_words (LocalSet x) = number x ∷ []
immediate_words (LocalTee x) = number x ∷ []
immediate_words (GlobalGet x) = global_name x ∷ []
immediate_words (GlobalSet x) = global_name x ∷ []
immediate_words (MemoryInit x) = number x ∷ []
immediate_words (DataDrop x) = number x ∷ []
immediate_words (TableInit x) = number x ∷ []
immediate_words (ElemDrop x) = number x ∷ []
immediate_words (I32Const n) = spaced (signed_decimal n) ∷ []
immediate_words (I64Const n) = spaced (signed_decimal n) ∷ []
immediate_words (F32Const n) = spaced (float_text float.F32 n) ∷ []
immediate_words (F64Const n) = spaced (float_text float.F64 n) ∷ []
immediate_words (Load o at) = access_words (load o).width at
immediate_words (Store o at) = access_words (store o).width at
immediate_words _ = []

-- The result type of a block (Core spec 6.5.2).
abbrev pub result_words : Option ValType → List Word
result_words None = []
result_words (Some t) = results_words (t ∷ [])

abbrev pub operand_words : Op → List Word
operand_words (op.Simple i) = immediate_words i
operand_words (op.Block t) = result_words t
operand_words (op.Loop t) = result_words t
operand_words (op.If t) = result_words t
operand_words (op.Label l) = number l ∷ []
operand_words _ = []

-- The name of an op, on a new line. A label has none, and follows its br_table.
abbrev pub head_words : Option (List ℕ) → List Word
head_words None = []
head_words (Some name) = word_at body_line (atom name) ∷ []

-- An op (Core spec 6.5). All lines of a body have one indent, so the words of a body are those of its ops in order.
abbrev pub op_words : Op → List Word
op_words o = head_words (op_name o) ++ operand_words o

abbrev pub body_words : List Op → List Word
body_words ops = flat_map op_words ops

-- A constant expression, on the line of its field (Core spec 6.5.8).
abbrev pub const_words : Const → List Word
const_words c = spaced (opcode (constant c)).1 ∷ immediate_words (constant c)

abbrev pub offset_words : Const → List Word
offset_words c = form gap (codes "offset") (const_words c)

-- A type field, for an index and a function type (Core spec 6.6.2).
abbrev pub type_field : ℕ × Signature → List Word
type_field e =
    form field_line (codes "type") (type_name e.0
    ∷ form gap (codes "func") (params_words e.1.params ++ results_words e.1.results))

-- The number of imports of each kind.
abbrev pub places : List Import → Places
places imports = record {
  functions = length (filter_map imported_function imports);
  tables = length (filter_map imported_table imports);
  memories = length (filter_map imported_memory imports);
  globals = length (filter_map imported_global imports);
}

-- An import, given the number of earlier imports of each kind. The number for its kind is its index (Core spec 6.6.4).
abbrev pub desc_words : Places → ImportDesc → List Word
desc_words before (Func x) = form gap (codes "func") (function_name before.functions ∷ type_use x)
desc_words before (Table l) = form gap (codes "table") (table_name before.tables ∷ table_words l)
desc_words before (Memory l) = form gap (codes "memory") (memory_name before.memories ∷ limits_words l)
desc_words before (Global g) = form gap (codes "global") (global_name before.globals ∷ global_type_words g)

abbrev pub import_field : Places → Import → List Word
import_field before i =
    form field_line (codes "import") (quoted i.module_name ∷ quoted i.item_name ∷ desc_words before i.desc)

abbrev pub import_fields : List Import → List Import → List Word
import_fields before [] = []
import_fields before (i ∷ is) = import_field (places before) i ++ import_fields (before ++ i ∷ []) is

-- A function (Core spec 6.6.5).
abbrev pub function_words : Function → List Word
function_words f =
    type_use f.type_index ++ (types_words body_line (codes "local") f.locals ++ body_words (ops_of f.body))

abbrev pub function_field : ℕ × Function → List Word
function_field e = parens field_line (codes "func") (function_name e.0 ∷ function_words e.1) field_line

-- A table (Core spec 6.6.6), a memory (Core spec 6.6.7) and a global (Core spec 6.6.8), each with its index.
abbrev pub table_field : ℕ × Limits → List Word
table_field e = form field_line (codes "table") (table_name e.0 ∷ table_words e.1)

abbrev pub memory_field : ℕ × Limits → List Word
memory_field e = form field_line (codes "memory") (memory_name e.0 ∷ limits_words e.1)

abbrev pub global_field : ℕ × GlobalDef → List Word
global_field e =
    form field_line (codes "global") (global_name e.0 ∷ global_type_words e.1.ty ++ const_words e.1.init)

-- An export (Core spec 6.6.9).
abbrev pub item_words : ExportKind → ℕ → List Word
item_words kind.Func x = form gap (codes "func") (function_name x ∷ [])
item_words kind.Table x = form gap (codes "table") (table_name x ∷ [])
item_words kind.Memory x = form gap (codes "memory") (memory_name x ∷ [])
item_words kind.Global x = form gap (codes "global") (global_name x ∷ [])

abbrev pub export_field : Export → List Word
export_field e = form field_line (codes "export") (quoted e.name ∷ item_words e.kind e.index)

-- The start function, if there is one (Core spec 6.6.10).
abbrev pub start_field : Option ℕ → List Word
start_field None = []
start_field (Some x) = form field_line (codes "start") (function_name x ∷ [])

-- An element segment (Core spec 6.6.11) and a data segment (Core spec 6.6.12). A passive one has no table or memory and no
-- offset (WebAssembly 2.0, 6.6.11 and 6.6.12), and a passive element segment has its element kind.
abbrev pub element_mode_words : SegmentMode → List Word
element_mode_words Passive = spaced (codes "func") ∷ []
element_mode_words (Active x offset) = table_name x ∷ offset_words offset

abbrev pub element_field : Element → List Word
element_field e = form field_line (codes "elem") (element_mode_words e.mode ++ map function_name e.functions)

abbrev pub data_mode_words : SegmentMode → List Word
data_mode_words Passive = []
data_mode_words (Active x offset) = memory_name x ∷ offset_words offset

abbrev pub segment_field : Segment → List Word
segment_field s = form field_line (codes "data") (data_mode_words s.mode ++ quoted s.bytes ∷ [])

-- The fields of a module in their order. Definitions are numbered after the imports of their kind.
abbrev pub field_words : Module → List Word
field_words m =
    flat_map type_field (enumerate_from 0 m.types)
    ++ (import_fields [] m.imports
    ++ (flat_map function_field (enumerate_from (places m.imports).functions m.functions)
    ++ (flat_map table_field (enumerate_from (places m.imports).tables m.tables)
    ++ (flat_map memory_field (enumerate_from (places m.imports).memories m.memories)
    ++ (flat_map global_field (enumerate_from (places m.imports).globals m.globals)
    ++ (flat_map export_field m.exports
    ++ (start_field m.start
    ++ (flat_map element_field m.elements
    ++ flat_map segment_field m.segments))))))))

-- The white space before the last parenthesis: a line feed, or nothing if there are no fields.
abbrev pub last_line : List Word → List ℕ
last_line [] = []
last_line (w ∷ words) = 10 ∷ []

-- A module (Core spec 6.6.13); its text ends with a line feed.
abbrev pub module_words : Module → List Word
module_words m = parens [] (codes "module") (field_words m) (last_line (field_words m))

abbrev pub layout : Module → List ℕ
layout m = words_text (module_words m) ++ 10 ∷ []
