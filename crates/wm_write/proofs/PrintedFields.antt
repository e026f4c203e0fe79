-- The printed text of a field writes it.
use Rattle.std.proofs.Common.{◌≡◌, ℕ, zero, suc, ◌<◌, ◌^◌, Bool, true, false, List, [], ◌∷◌, ◌++◌, length, map, Option, Some, None, refl, sym, ap, inl, inr, slice_get}
use Rattle.wm_write.specs.Layout.{data_mode_words, element_mode_words}
use Rattle.wm_tokens.specs.Fields.{WritesMode, WritesOwn, WritesStrings, IsNoneOf}
use Rattle.wm_syntax.specs.declared.modules.SegmentMode.TheVariants.{Passive, Active}
use Rattle.wm_syntax.specs.declared.modules.SegmentMode.{SegmentMode}
use Rattle.std.specs.Prelude.{IfSome, IsUtf8, codes}
use Rattle.std.specs.List.{AllByRecursion}
use Rattle.std.proofs.lemmas.List.{append-nil}
use Rattle.wm_syntax.specs.Spelling.{Each, AreBytes, ◌▸◌}
use Rattle.wm_syntax.specs.Types.{Signature}
use Rattle.wm_syntax.specs.declared.types.ValType.{ValType}
use Rattle.wm_syntax.specs.declared.types.Limits.{Limits}
use Rattle.wm_syntax.specs.declared.types.GlobalType.{GlobalType}
use Rattle.wm_syntax.specs.declared.types.Const.{Const}
use Rattle.wm_syntax.specs.declared.modules.ImportDesc.{ImportDesc}
use Rattle.wm_syntax.specs.declared.modules.ImportDesc.TheVariants.{Func, Table, Memory, Global}
use Rattle.wm_syntax.specs.declared.modules.ExportKind.{ExportKind}
use Rattle.wm_syntax.specs.declared.modules.ExportKind.TheVariants as kind
use Rattle.wm_syntax.specs.Modules.{AreLimits, Element, Export, Function, GlobalDef, Import, IsU32, Segment, constant}
use Rattle.wm_machine.proofs.NameBytes.{utf8_bytes}
use Rattle.wm_write.specs.Layout.{Word, body_line, body_words, const_words, desc_words, field_line, form, function_name, function_words, gap, global_name, global_type_words, item_words, limits_words, max_words, memory_name, number, offset_words, params_words, places, quoted, results_words, spaced, table_name, table_words, type_name, type_use, type_word, types_words}
use Rattle.wm_write.specs.Layout as l
use Rattle.wm_tokens.specs.Identifiers.{Id, Ids, Resolves}
use Rattle.wm_tokens.specs.Written.{Named, Names, Scope, TypeUse, WritesGroups, WritesResults, WritesType, ids_of, types_of}
use Rattle.wm_tokens.specs.Fields.{WritesConst, WritesDesc, WritesExport, WritesField, WritesFunctions, WritesGlobalType, WritesLimits, WritesMax, WritesName, WritesOffset, WritesSignature, WritesTableType, WritesTarget, element_field, export_field, function_field, global_field, import_field, memory_field, segment_field, start_field, table_field, type_field}
use Rattle.wm_write.specs.inner.Printed.{tokens}
use Rattle.wm_write.proofs.PrintedTokens.{IsBreak, IsHead, body_line_breaks, field_line_breaks, gap_breaks}
use Rattle.wm_write.proofs.PrintedForms.{IsPrefix, Prints, head_is, id_at, prints_as, prints_block, prints_form, prints_id, prints_nothing, prints_number, prints_string, prints_then, prints_type, prints_use, prints_word}
use Rattle.wm_write.proofs.PrintedRanges.{AreFine, Counts, IsFine}
use Rattle.wm_write.proofs.PrintedBodies.{HasNames, Numbers, f_prefix, g_prefix, instructions_printed, prints_const, prints_type_use, t_prefix, type_head}

-- ---- types

abbrev unnamed : List ValType → List Named
unnamed ts = map (λ t. (None, t)) ts

prints_types : (ts : List ValType) → Prints (Each WritesType ts) (map type_word ts)
prints_types [] = prints_nothing
prints_types (t ∷ ts) = prints_then (type_word t ∷ []) (map type_word ts) (prints_type t) (prints_types ts)

param_head : IsHead (codes "param")
param_head = head_is 112 (codes "aram") refl refl refl

result_head : IsHead (codes "result")
result_head = head_is 114 (codes "esult") refl refl refl

local_head : IsHead (codes "local")
local_head = head_is 108 (codes "ocal") refl refl refl

func_head : IsHead (codes "func")
func_head = head_is 102 (codes "unc") refl refl refl

-- parameters or locals with no identifiers, in one group or in none
prints_group : (before head : List ℕ) → IsBreak before → IsHead head → (ts : List ValType) → Prints (WritesGroups head (unnamed ts)) (types_words before head ts)
prints_group before head b h [] = prints_as [] (λ e. ([], refl, e)) prints_nothing
prints_group before head b h (t ∷ ts) =
    let g = prints_form before head (map type_word (t ∷ ts)) b h (prints_types (t ∷ ts)) in
    prints_as (types_words before head (t ∷ ts))
    (λ k. (unnamed (t ∷ ts) ∷ [], sym (append-nil (unnamed (t ∷ ts))), (tokens (types_words before head (t ∷ ts)), [], sym (append-nil (tokens (types_words before head (t ∷ ts)))), inr (t ∷ ts, refl, k), refl))) g

prints_results : (ts : List ValType) → Prints (WritesResults ts) (results_words ts)
prints_results [] = prints_as [] (λ e. ([], refl, e)) prints_nothing
prints_results (t ∷ ts) =
    let g = prints_form gap (codes "result") (map type_word (t ∷ ts)) gap_breaks result_head (prints_types (t ∷ ts)) in
    prints_as (results_words (t ∷ ts))
    (λ k. ((t ∷ ts) ∷ [], sym (append-nil (t ∷ ts)), (tokens (results_words (t ∷ ts)), [], sym (append-nil (tokens (results_words (t ∷ ts)))), k, refl))) g

types_back : (ts : List ValType) → types_of (unnamed ts) ≡ ts
types_back [] = refl
types_back (t ∷ ts) = ap (λ z. t ∷ z) (types_back ts)

prints_signature : (f : Signature) → Prints (WritesSignature f) (form gap (codes "func") (params_words f.params ++ results_words f.results))
prints_signature f =
    prints_as _ (λ k. (unnamed f.params, types_back f.params, k))
    (prints_form gap (codes "func") (params_words f.params ++ results_words f.results) gap_breaks func_head
    (prints_then (params_words f.params) (results_words f.results) (prints_group gap (codes "param") gap_breaks param_head f.params) (prints_results f.results)))

pub prints_type_field : (names : Names) (i : ℕ) (f : Signature) → i < 2 ^ 64 → Prints (WritesField names (type_field (id_at (codes "$t") i) f)) (l.type_field (i, f))
prints_type_field names i f lt = prints_form field_line (codes "type") _ field_line_breaks type_head (prints_then (type_name i ∷ []) _ (prints_id (codes "$t") i t_prefix lt) (prints_signature f))

-- ---- limits and global types

prints_max : (max : Option ℕ) → IfSome max IsU32 → Prints (WritesMax max) (max_words max)
prints_max None h = prints_nothing
prints_max (Some max) h = prints_number max h

prints_limits : (x : Limits) → AreLimits x → Prints (WritesLimits x) (limits_words x)
prints_limits x h = prints_then (number x.min ∷ []) (max_words x.max) (prints_number x.min h.0) (prints_max x.max h.1)

prints_table : (x : Limits) → AreLimits x → Prints (WritesTableType x) (table_words x)
prints_table x h = prints_then (limits_words x) (spaced (codes "funcref") ∷ []) (prints_limits x h) (prints_word gap (codes "funcref") gap_breaks (refl, inr (inr refl)))

prints_global_type : (g : GlobalType) → Prints (WritesGlobalType g.var g.ty) (global_type_words g)
prints_global_type g = by g.var g.ty
  where
    by : (var : Bool) (t : ValType) → Prints (WritesGlobalType var t) (global_type_words (record { ty = t; var = var }))
    by false t = prints_type t
    by true t = prints_form gap (codes "mut") (type_word t ∷ []) gap_breaks (head_is 109 (codes "ut") refl refl refl) (prints_type t)

-- ---- names

prints_name : (b : List ℕ) → IsUtf8 b → Prints (WritesName b) (quoted b ∷ [])
prints_name b u = prints_as (quoted b ∷ []) (λ e. (u, e)) (prints_string b (utf8_bytes b u))

pub tab_prefix : IsPrefix (codes "$tab")
tab_prefix = record { first = 116; rest = codes "ab"; is = refl; chars = refl }

pub mem_prefix : IsPrefix (codes "$mem")
mem_prefix = record { first = 109; rest = codes "em"; is = refl; chars = refl }

table_head : IsHead (codes "table")
table_head = head_is 116 (codes "able") refl refl refl

memory_head : IsHead (codes "memory")
memory_head = head_is 109 (codes "emory") refl refl refl

global_head : IsHead (codes "global")
global_head = head_is 103 (codes "lobal") refl refl refl

-- The identifier of an import, from the number of earlier imports of its kind.
abbrev pub import_id : List Import → ImportDesc → Id
import_id before (Func x) = id_at (codes "$f") (places before).functions
import_id before (Table x) = id_at (codes "$tab") (places before).tables
import_id before (Memory x) = id_at (codes "$mem") (places before).memories
import_id before (Global g) = id_at (codes "$g") (places before).globals

pub record AreSmall (before : List Import) : Type 0 where
  pub functions : (places before).functions < 2 ^ 64
  pub tables : (places before).tables < 2 ^ 64
  pub memories : (places before).memories < 2 ^ 64
  pub globals : (places before).globals < 2 ^ 64

-- The definitions of a module, with all identifiers of its text.
pub record HasAllNames (names : Names) (c : Counts) (ts ms : ℕ) : Type 0 where
  pub body : HasNames names c
  pub tables : Numbers (codes "$tab") names.tables ts
  pub memories : Numbers (codes "$mem") names.memories ms

-- An import descriptor whose numbers are in range.
abbrev pub IsFineDesc : Counts → ImportDesc → Type 0
IsFineDesc c (Func x) = IsU32 x × (x < c.types)
IsFineDesc c (Table x) = AreLimits x
IsFineDesc c (Memory x) = AreLimits x
IsFineDesc c (Global g) = Unit {0}

-- how many items of a kind there are
abbrev pub items_in : Counts → ℕ → ℕ → ExportKind → ℕ
items_in c tables memories kind.Func = c.functions
items_in c tables memories kind.Table = tables
items_in c tables memories kind.Memory = memories
items_in c tables memories kind.Global = c.globals

module _ (names : Names) (c : Counts) (tables memories : ℕ) (h : HasAllNames names c tables memories) where
  prints_desc : (before : List Import) → AreSmall before → (d : ImportDesc) → IsFineDesc c d → Prints (WritesDesc names (import_id before d) d) (desc_words (places before) d)
  prints_desc before b (Func x) f =
      let g = h.body.signatures x f.1 in
      prints_as _ (λ k. (map (λ t. (None, t)) g.0.params, k))
      (prints_form gap (codes "func") (function_name (places before).functions ∷ type_use x) gap_breaks func_head
      (prints_then (function_name (places before).functions ∷ []) (type_use x) (prints_id (codes "$f") (places before).functions f_prefix b.functions) (prints_type_use names c h.body x f.0 f.1 g.0 g.1)))
  prints_desc before b (Table x) f =
      prints_form gap (codes "table") (table_name (places before).tables ∷ table_words x) gap_breaks table_head (prints_then (table_name (places before).tables ∷ []) (table_words x) (prints_id (codes "$tab") (places before).tables tab_prefix b.tables) (prints_table x f))
  prints_desc before b (Memory x) f =
      prints_form gap (codes "memory") (memory_name (places before).memories ∷ limits_words x) gap_breaks memory_head (prints_then (memory_name (places before).memories ∷ []) (limits_words x) (prints_id (codes "$mem") (places before).memories mem_prefix b.memories) (prints_limits x f))
  prints_desc before b (Global g) f =
      prints_form gap (codes "global") (global_name (places before).globals ∷ global_type_words g) gap_breaks global_head (prints_then (global_name (places before).globals ∷ []) (global_type_words g) (prints_id (codes "$g") (places before).globals g_prefix b.globals) (prints_global_type g))

  pub prints_import : (before : List Import) → AreSmall before → (i : Import) → IsUtf8 i.module_name × IsUtf8 i.item_name × IsFineDesc c i.desc
      → Prints (WritesField names (import_field (import_id before i.desc) i)) (l.import_field (places before) i)
  prints_import before b i f =
      prints_form field_line (codes "import") (quoted i.module_name ∷ quoted i.item_name ∷ desc_words (places before) i.desc) field_line_breaks (head_is 105 (codes "mport") refl refl refl)
      (prints_then (quoted i.module_name ∷ []) _ (prints_name i.module_name f.0) (prints_then (quoted i.item_name ∷ []) (desc_words (places before) i.desc) (prints_name i.item_name f.1) (prints_desc before b i.desc f.2)))

  -- ---- functions

  no_id : (ts us : List ValType) (x : ℕ) (b : List ℕ) → slice_get (ids_of (unnamed ts ++ unnamed us)) x ≡ Some (Some b) → ⊥
  no_id [] [] x b e = let f : ◌≡◌ {A = Option Id} None (Some (Some b)) = e in cc
  no_id [] (u ∷ us) zero b e = let f : ◌≡◌ {A = Option Id} (Some None) (Some (Some b)) = e in cc
  no_id [] (u ∷ us) (suc x) b e = no_id [] us x b e
  no_id (t ∷ ts) us zero b e = let f : ◌≡◌ {A = Option Id} (Some None) (Some (Some b)) = e in cc
  no_id (t ∷ ts) us (suc x) b e = no_id ts us x b e

  pub prints_function : (i : ℕ) (f : Function) → i < 2 ^ 64 → IsU32 f.type_index × (f.type_index < c.types) × (length f.locals < 2 ^ 32) × AreFine c f.body
      → Prints (WritesField names (function_field (id_at (codes "$f") i) f)) (l.function_field (i, f))
  prints_function i f lt fine =
      let g = h.body.signatures f.type_index fine.1 in
      let params = unnamed g.0.params in
      let locals = unnamed f.locals in
      let scope : Scope = record { names = names; locals = ids_of (params ++ locals) } in
      prints_as _ (λ k. (params, locals, types_back f.locals, fine.2, (λ b x y e d. absurd (no_id g.0.params f.locals x b e)), k))
      (prints_block field_line (codes "func") (function_name i ∷ function_words f) field_line field_line_breaks func_head field_line_breaks
      (prints_then (function_name i ∷ []) (function_words f) (prints_id (codes "$f") i f_prefix lt)
      (prints_then (type_use f.type_index) _ (typed f.type_index fine.0 fine.1 g.0 g.1)
      (prints_then (types_words body_line (codes "local") f.locals) (body_words _) (prints_group body_line (codes "local") body_line_breaks local_head f.locals)
      (instructions_printed scope c h.body [] f.body fine.3)))))
    where
      typed : (x : ℕ) → x < 2 ^ 32 → x < c.types → (g : Signature) → slice_get names.signatures x ≡ Some g → Prints (TypeUse names x (unnamed g.params)) (type_use x)
      typed x lt below g e = prints_type_use names c h.body x lt below g e

  -- ---- tables, memories, globals

  pub prints_table_field : (i : ℕ) (x : Limits) → i < 2 ^ 64 → AreLimits x → Prints (WritesField names (table_field (id_at (codes "$tab") i) x)) (l.table_field (i, x))
  prints_table_field i x lt f = prints_form field_line (codes "table") (table_name i ∷ table_words x) field_line_breaks table_head (prints_then (table_name i ∷ []) (table_words x) (prints_id (codes "$tab") i tab_prefix lt) (prints_table x f))

  pub prints_memory_field : (i : ℕ) (x : Limits) → i < 2 ^ 64 → AreLimits x → Prints (WritesField names (memory_field (id_at (codes "$mem") i) x)) (l.memory_field (i, x))
  prints_memory_field i x lt f = prints_form field_line (codes "memory") (memory_name i ∷ limits_words x) field_line_breaks memory_head (prints_then (memory_name i ∷ []) (limits_words x) (prints_id (codes "$mem") i mem_prefix lt) (prints_limits x f))

  prints_init : (x : Const) → IsFine c (constant x) → Prints (WritesConst names x) (const_words x)
  prints_init x f = prints_as (const_words x) (λ k. inl k) (prints_const (record { names = names; locals = [] }) c h.body x f)

  pub prints_global_field : (i : ℕ) (g : GlobalDef) → i < 2 ^ 64 → IsFine c (constant g.init) → Prints (WritesField names (global_field (id_at (codes "$g") i) g)) (l.global_field (i, g))
  prints_global_field i g lt f =
      prints_form field_line (codes "global") (global_name i ∷ global_type_words g.ty ++ const_words g.init) field_line_breaks global_head
      (prints_then (global_name i ∷ []) _ (prints_id (codes "$g") i g_prefix lt) (prints_then (global_type_words g.ty) (const_words g.init) (prints_global_type g.ty) (prints_init g.init f)))

  -- ---- exports, the start function, segments

  prints_item : (k : ExportKind) (x : ℕ) → IsU32 x → x < items_in c tables memories k → Prints (WritesExport names k x) (item_words k x)
  prints_item kind.Func x lt below = prints_form gap (codes "func") (function_name x ∷ []) gap_breaks func_head (prints_use (codes "$f") names.functions x f_prefix lt (h.body.functions x below))
  prints_item kind.Table x lt below = prints_form gap (codes "table") (table_name x ∷ []) gap_breaks table_head (prints_use (codes "$tab") names.tables x tab_prefix lt (h.tables x below))
  prints_item kind.Memory x lt below = prints_form gap (codes "memory") (memory_name x ∷ []) gap_breaks memory_head (prints_use (codes "$mem") names.memories x mem_prefix lt (h.memories x below))
  prints_item kind.Global x lt below = prints_form gap (codes "global") (global_name x ∷ []) gap_breaks global_head (prints_use (codes "$g") names.globals x g_prefix lt (h.body.globals x below))

  pub prints_export : (e : Export) → IsUtf8 e.name × IsU32 e.index × (e.index < items_in c tables memories e.kind) → Prints (WritesField names (export_field e)) (l.export_field e)
  prints_export e f =
      prints_form field_line (codes "export") (quoted e.name ∷ item_words e.kind e.index) field_line_breaks (head_is 101 (codes "xport") refl refl refl)
      (prints_then (quoted e.name ∷ []) (item_words e.kind e.index) (prints_name e.name f.0) (prints_item e.kind e.index f.1 f.2))

  prints_function_use : (x : ℕ) → IsU32 x × (x < c.functions) → Prints (Resolves names.functions x) (function_name x ∷ [])
  prints_function_use x f = prints_use (codes "$f") names.functions x f_prefix f.0 (h.body.functions x f.1)

  pub prints_start : (x : ℕ) → IsU32 x × (x < c.functions) → Prints (WritesField names (start_field x)) (l.start_field (Some x))
  prints_start x f = prints_form field_line (codes "start") (function_name x ∷ []) field_line_breaks (head_is 115 (codes "tart") refl refl refl) (prints_function_use x f)

  prints_offset : (x : Const) → IsFine c (constant x) → Prints (WritesOffset names x) (offset_words x)
  prints_offset x f = prints_as (offset_words x) (λ k. inl k) (prints_form gap (codes "offset") (const_words x) gap_breaks (head_is 111 (codes "ffset") refl refl refl) (prints_init x f))

  functions_used : (xs : List ℕ) → AllByRecursion (λ x. IsU32 x × (x < c.functions)) xs → Prints (Each (Resolves names.functions) xs) (map function_name xs)
  functions_used [] f = prints_nothing
  functions_used (x ∷ xs) f = prints_then (function_name x ∷ []) (map function_name xs) (prints_function_use x f.0) (functions_used xs f.1)

  prints_functions : (x : ℕ) (k : Const) (xs : List ℕ) → AllByRecursion (λ x. IsU32 x × (x < c.functions)) xs → Prints (WritesFunctions names.functions (Active x k) xs) (map function_name xs)
  prints_functions x k xs f = prints_as (map function_name xs) (λ k. ([], tokens (map function_name xs), refl, inl refl, k)) (functions_used xs f)

  prints_target : (ids : Ids) (x : ℕ) (ws : List Word) → Prints (Resolves ids x) ws → Prints (WritesTarget ids x) ws
  prints_target ids x ws h = prints_as ws (λ k. inl k) h

  -- a mode whose table or memory and whose constant are there
  abbrev pub IsFineMode : ℕ → SegmentMode → Type 0
  IsFineMode count Passive = Unit {0}
  IsFineMode count (Active x k) = IsU32 x × (x < count) × IsFine c (constant k)

  none_of : (ids : Ids) → IsNoneOf ids None
  none_of ids = λ name x e. let n : ⊥ = cc e in absurd n

  prints_own : (ids : Ids) → Prints (WritesOwn ids) []
  prints_own ids = prints_as [] (λ k. (None, none_of ids, k)) prints_nothing

  prints_element_words : (d : SegmentMode) (xs : List ℕ) → IsFineMode tables d → AllByRecursion (λ x. IsU32 x × (x < c.functions)) xs
      → Prints (WritesMode names names.tables d ▸ WritesFunctions names.functions d xs) (element_mode_words d ++ map function_name xs)
  prints_element_words Passive xs f g =
      prints_then [] (spaced (codes "func") ∷ map function_name xs) (prints_own names.tables)
      (prints_then (spaced (codes "func") ∷ []) (map function_name xs) (prints_word gap (codes "func") gap_breaks (refl, inr (inr refl))) (functions_used xs g))
  prints_element_words (Active x k) xs f g =
      prints_then (table_name x ∷ offset_words k) (map function_name xs)
      (prints_then (table_name x ∷ []) (offset_words k) (prints_target names.tables x (table_name x ∷ []) (prints_use (codes "$tab") names.tables x tab_prefix f.0 (h.tables x f.1))) (prints_offset k f.2))
      (prints_functions x k xs g)

  pub prints_element : (e : Element) → IsFineMode tables e.mode × AllByRecursion (λ x. IsU32 x × (x < c.functions)) e.functions
      → Prints (WritesField names (element_field e)) (l.element_field e)
  prints_element e f =
      prints_form field_line (codes "elem") (element_mode_words e.mode ++ map function_name e.functions) field_line_breaks (head_is 101 (codes "lem") refl refl refl)
      (prints_element_words e.mode e.functions f.0 f.1)

  prints_strings : (bytes : List ℕ) → AreBytes bytes → Prints (WritesStrings bytes) (quoted bytes ∷ [])
  prints_strings bytes f = prints_as (quoted bytes ∷ []) (λ e. (bytes ∷ [], sym (append-nil bytes), e)) (prints_string bytes f)

  prints_mode : (d : SegmentMode) → IsFineMode memories d → Prints (WritesMode names names.memories d) (data_mode_words d)
  prints_mode Passive f = prints_own names.memories
  prints_mode (Active x k) f =
      prints_then (memory_name x ∷ []) (offset_words k) (prints_target names.memories x (memory_name x ∷ []) (prints_use (codes "$mem") names.memories x mem_prefix f.0 (h.memories x f.1)))
      (prints_offset k f.2)

  pub prints_segment : (s : Segment) → IsFineMode memories s.mode × AreBytes s.bytes → Prints (WritesField names (segment_field s)) (l.segment_field s)
  prints_segment s f =
      prints_form field_line (codes "data") (data_mode_words s.mode ++ quoted s.bytes ∷ []) field_line_breaks (head_is 100 (codes "ata") refl refl refl)
      (prints_then (data_mode_words s.mode) (quoted s.bytes ∷ []) (prints_mode s.mode f.0) (prints_strings s.bytes f.1))
