-- Fields are read exactly as tokens write them.
use Rattle.std.proofs.Common.{◌≡◌, ℕ, ◌<◌, true, false, List, [], ◌∷◌, ◌++◌, length, Some, refl, sym, ap, subst, ◌∙◌, arith, append_assoc, length-append}
use Rattle.std.specs.Prelude.{suc}
use Rattle.wm_syntax.specs.Spelling.{Form, Each, ◌▸◌}
use Rattle.wm_syntax.specs.declared.types.Const.{Const}
use Rattle.wm_syntax.specs.declared.types.GlobalType.{GlobalType}
use Rattle.wm_syntax.specs.declared.modules.ExportKind.{ExportKind}
use Rattle.wm_syntax.specs.declared.profile.Profile.{Profile}
use Rattle.wm_syntax.specs.Modules.{Function}
use Rattle.wm_syntax.specs.Profiles.{HasDesc, HasFunction, HasGlobal, HasMode, HasSignature, IsOf}
use Rattle.wm_syntax.specs.Types.{Signature}
use Rattle.wm_tokens.specs.Tokens.{Token, open_paren, close_paren, string, atom}
use Rattle.wm_tokens.specs.Identifiers.{WritesId, Resolves}
use Rattle.wm_tokens.specs.Written.{Names, Paren}
use Rattle.wm_tokens.specs.Fields.{Field, type_field, import_field, function_field, table_field, memory_field, global_field, export_field, start_field, element_field, segment_field, HasDistinct, WritesExport, WritesField, WritesFunctions, WritesLimits, WritesName, WritesStrings, WritesTableType, module_of}
use Rattle.wm_read.specs.declared.fields.keywords.FieldKind.{FieldKind}
use Rattle.wm_read.specs.declared.fields.keywords.FieldKind.TheVariants as kind
use Rattle.wm_bodies.specs.exact.Reading.{atom_at, id_at, index_of, then_at}
use Rattle.wm_bodies.specs.exact.TypeUses.{begins_open}
use Rattle.wm_read.specs.exact.Signatures.{signature_at}
use Rattle.wm_read.specs.exact.FieldTypes.{limits_at, table_type_at, global_type_at}
use Rattle.wm_read.specs.exact.Fields.{field_word, field_named, name_at, begins_func, begins_strings, bytes_at, const_at, mode_at, functions_at, desc_at, item_at, function_at, inside_at, field_at, fields_at}
use Rattle.wm_read.proofs.FieldParts.{OfConst, OfDesc, headed_sound, headed_complete, with_found, name_sound, name_complete, const_sound, const_complete, desc_sound, desc_complete, item_sound, item_complete, number_not_id, table_not_id, type_not_id, use_not_id, close_number}
use Rattle.wm_read.proofs.FieldTypes.{NoNumber, OfGlobalType, limits_sound, limits_complete, table_type_sound, table_type_complete, global_type_sound, global_type_complete}
use Rattle.wm_read.proofs.FunctionLaws.{FunctionAt, function_sound, function_complete}
use Rattle.wm_bodies.proofs.Immediates.{NotId, id_sound, id_complete}
use Rattle.wm_bodies.proofs.Indices.{index_sound, index_complete}
use Rattle.wm_bodies.proofs.Readers.{Sound, Complete, Any, Both, Begins, BeginsClose, made_is, made_sound, many_complete, many_sound, then_complete, then_sound}
use Rattle.wm_read.proofs.SegmentParts.{OfMode, element_complete, element_sound, mode_of, mode_written, segment_complete, segment_sound}
use Rattle.wm_read.proofs.SignatureLaws.{OfSignature, signature_sound, signature_complete}
use Rattle.wm_bodies.proofs.TypeUseLaws.{KnowsTypes}

-- ---- a field, within its parentheses

abbrev pub kind_of : Field → FieldKind
kind_of (type_field id f) = kind.Type
kind_of (import_field id i) = kind.Import
kind_of (function_field id f) = kind.Func
kind_of (table_field id l) = kind.Table
kind_of (memory_field id l) = kind.Memory
kind_of (global_field id g) = kind.Global
kind_of (export_field e) = kind.Export
kind_of (start_field x) = kind.Start
kind_of (element_field e) = kind.Elem
kind_of (segment_field s) = kind.Data

-- the types, constants, instructions and the mode of a field are of the profile
abbrev pub FieldOf : Profile → Field → Type 0
FieldOf p (type_field id f) = HasSignature p f
FieldOf p (import_field id i) = HasDesc p i.desc
FieldOf p (function_field id f) = HasFunction p f
FieldOf p (global_field id g) = HasGlobal p g
FieldOf p (element_field e) = HasMode p e.mode
FieldOf p (segment_field s) = HasMode p s.mode
FieldOf p _ = Unit {0}

abbrev Item : Names → ExportKind × ℕ → Form Token
Item names x = WritesExport names x.0 x.1

-- The contents of a field after its keyword.
abbrev pub Inside : Profile → (Function → Form Token) → Names → Field → Form Token
Inside p Fn names (type_field id f) = WritesId id ▸ OfSignature p f
Inside p Fn names (import_field id i) = WritesName i.module_name ▸ WritesName i.item_name ▸ OfDesc p names (id, i.desc)
Inside p Fn names (function_field id f) = WritesId id ▸ Fn f
Inside p Fn names (table_field id l) = WritesId id ▸ WritesTableType l
Inside p Fn names (memory_field id l) = WritesId id ▸ WritesLimits l
Inside p Fn names (global_field id g) = WritesId id ▸ OfGlobalType p g.ty ▸ OfConst p names g.init
Inside p Fn names (export_field e) = WritesName e.name ▸ Item names (e.kind, e.index)
Inside p Fn names (start_field x) = Resolves names.functions x
Inside p Fn names (element_field e) = OfMode p names names.tables e.mode ▸ WritesFunctions names.functions e.mode e.functions
Inside p Fn names (segment_field s) = OfMode p names names.memories s.mode ▸ WritesStrings s.bytes

abbrev Written : Profile → Names → Field → Form Token
Written p names f k = WritesField names f k × FieldOf p f

to_field : (p : Profile) (names : Names) (f : Field) (k : List Token) → Paren (field_word (kind_of f)) (Inside p (FunctionAt p names) names f) k → Written p names f k
to_field p names (type_field id f) k (a, b, e, w, (x, c, e2, (y, z, e3, i, (h, of)), l)) = ((a, b, e, w, (x, c, e2, (y, z, e3, i, h), l)), of)
to_field p names (import_field id i) k (a, b, e, w, (x, c, e2, (y, z, e3, m, (u, v, e4, n, (h, of))), l)) =
    ((a, b, e, w, (x, c, e2, (y, z, e3, m, (u, v, e4, n, h)), l)), of)
to_field p names (function_field id f) k (a, b, e, w, (x, c, e2, (y, z, e3, i, (ps, ls, t, few, d, forms, of)), l)) =
    ((ps, ls, t, few, d, (a, b, e, w, (x, c, e2, (y, z, e3, i, forms), l))), of)
to_field p names (table_field id l) k h = (h, tt)
to_field p names (memory_field id l) k h = (h, tt)
to_field p names (global_field id g) k (a, b, e, w, (x, c, e2, (y, z, e3, i, (u, v, e4, (h, of), (m, ofc))), l)) =
    ((a, b, e, w, (x, c, e2, (y, z, e3, i, (u, v, e4, h, m)), l)), (of, ofc))
to_field p names (export_field e) k h = (h, tt)
to_field p names (start_field x) k h = (h, tt)
to_field p names (element_field d) k (a, b, e, w, (x, c, e2, (y, z, e3, h, m), l)) =
    let both = mode_written p names names.tables d.mode y h in
    ((a, b, e, w, (x, c, e2, (y, z, e3, both.0, m), l)), both.1)
to_field p names (segment_field d) k (a, b, e, w, (x, c, e2, (y, z, e3, h, m), l)) =
    let both = mode_written p names names.memories d.mode y h in
    ((a, b, e, w, (x, c, e2, (y, z, e3, both.0, m), l)), both.1)

from_field : (p : Profile) (names : Names) (f : Field) (k : List Token) → Written p names f k → Paren (field_word (kind_of f)) (Inside p (FunctionAt p names) names f) k
from_field p names (type_field id f) k ((a, b, e, w, (x, c, e2, (y, z, e3, i, h), l)), of) = (a, b, e, w, (x, c, e2, (y, z, e3, i, (h, of)), l))
from_field p names (import_field id i) k ((a, b, e, w, (x, c, e2, (y, z, e3, m, (u, v, e4, n, h)), l)), of) =
    (a, b, e, w, (x, c, e2, (y, z, e3, m, (u, v, e4, n, (h, of))), l))
from_field p names (function_field id f) k ((ps, ls, t, few, d, (a, b, e, w, (x, c, e2, (y, z, e3, i, forms), l))), of) =
    (a, b, e, w, (x, c, e2, (y, z, e3, i, (ps, ls, t, few, d, forms, of)), l))
from_field p names (table_field id l) k (h, of) = h
from_field p names (memory_field id l) k (h, of) = h
from_field p names (global_field id g) k ((a, b, e, w, (x, c, e2, (y, z, e3, i, (u, v, e4, h, m)), l)), of) =
    (a, b, e, w, (x, c, e2, (y, z, e3, i, (u, v, e4, (h, of.0), (m, of.1))), l))
from_field p names (export_field e) k (h, of) = h
from_field p names (start_field x) k (h, of) = h
from_field p names (element_field d) k ((a, b, e, w, (x, c, e2, (y, z, e3, h, m), l)), of) =
    (a, b, e, w, (x, c, e2, (y, z, e3, mode_of p names names.tables d.mode y h of, m), l))
from_field p names (segment_field d) k ((a, b, e, w, (x, c, e2, (y, z, e3, h, m), l)), of) =
    (a, b, e, w, (x, c, e2, (y, z, e3, mode_of p names names.memories d.mode y h of, m), l))

abbrev pub OfKind : Profile → (Function → Form Token) → Names → FieldKind → Field → Form Token
OfKind p Fn names x f k = (kind_of f ≡ x) × Inside p Fn names f k

field_found : (a : List ℕ) (x : FieldKind) → field_named a ≡ Some x → a ≡ field_word x
field_found a x e =
    with_found field_word (kind.Type ∷ kind.Import ∷ kind.Func ∷ kind.Table ∷ kind.Memory ∷ kind.Global ∷ kind.Export ∷ kind.Start ∷ kind.Elem ∷ kind.Data ∷ []) a x e

-- Given that the reader of functions is sound.
module _ (p : Profile) (names : Names) (Fn : Function → Form Token) (fn_sound : Sound (function_at p names) Fn) where
  inside_sound : (x : FieldKind) → Sound (inside_at p names x) (OfKind p Fn names x)
  inside_sound kind.Type =
      made_sound (λ x. type_field x.0 x.1) (then_at id_at (signature_at p)) (Both WritesId (OfSignature p)) (OfKind p Fn names kind.Type)
      (then_sound id_at (signature_at p) WritesId (OfSignature p) id_sound (signature_sound p)) (λ x front h. (refl, h))
  inside_sound kind.Import =
      made_sound (λ x. import_field x.1.1.0 (record { module_name = x.0; item_name = x.1.0; desc = x.1.1.1 })) (then_at name_at (then_at name_at (desc_at p names)))
      (Both WritesName (Both WritesName (OfDesc p names))) (OfKind p Fn names kind.Import)
      (then_sound name_at (then_at name_at (desc_at p names)) WritesName (Both WritesName (OfDesc p names)) name_sound
      (then_sound name_at (desc_at p names) WritesName (OfDesc p names) name_sound (desc_sound p names))) (λ x front h. (refl, h))
  inside_sound kind.Func =
      made_sound (λ x. function_field x.0 x.1) (then_at id_at (function_at p names)) (Both WritesId Fn) (OfKind p Fn names kind.Func)
      (then_sound id_at (function_at p names) WritesId Fn id_sound fn_sound) (λ x front h. (refl, h))
  inside_sound kind.Table =
      made_sound (λ x. table_field x.0 x.1) (then_at id_at table_type_at) (Both WritesId WritesTableType) (OfKind p Fn names kind.Table)
      (then_sound id_at table_type_at WritesId WritesTableType id_sound table_type_sound) (λ x front h. (refl, h))
  inside_sound kind.Memory =
      made_sound (λ x. memory_field x.0 x.1) (then_at id_at limits_at) (Both WritesId WritesLimits) (OfKind p Fn names kind.Memory)
      (then_sound id_at limits_at WritesId WritesLimits id_sound limits_sound) (λ x front h. (refl, h))
  inside_sound kind.Global =
      made_sound (λ x. global_field x.0 (record { ty = x.1.0; init = x.1.1 })) (then_at id_at (then_at (global_type_at p) (const_at p names))) (Both WritesId (Both (OfGlobalType p) (OfConst p names))) (OfKind p Fn names kind.Global)
      (then_sound id_at (then_at (global_type_at p) (const_at p names)) WritesId (Both (OfGlobalType p) (OfConst p names)) id_sound
      (then_sound (global_type_at p) (const_at p names) (OfGlobalType p) (OfConst p names) (global_type_sound p) (const_sound p names))) (λ x front h. (refl, h))
  inside_sound kind.Export =
      made_sound (λ x. export_field (record { name = x.0; kind = x.1.0; index = x.1.1 })) (then_at name_at (item_at names)) (Both WritesName (Item names)) (OfKind p Fn names kind.Export)
      (then_sound name_at (item_at names) WritesName (Item names) name_sound (item_sound names)) (λ x front h. (refl, h))
  inside_sound kind.Start = made_sound start_field (atom_at (index_of names.functions)) (Resolves names.functions) (OfKind p Fn names kind.Start) (index_sound names.functions) (λ x front h. (refl, h))
  inside_sound kind.Elem =
      made_sound (λ x. element_field (record { mode = x.0; functions = x.1 })) (then_at (mode_at p names names.tables begins_func) (functions_at names.functions))
      (λ x. OfMode p names names.tables x.0 ▸ WritesFunctions names.functions x.0 x.1) (OfKind p Fn names kind.Elem) (element_sound p names) (λ x front h. (refl, h))
  inside_sound kind.Data =
      made_sound (λ x. segment_field (record { mode = x.0; bytes = x.1 })) (then_at (mode_at p names names.memories begins_strings) bytes_at) (Both (OfMode p names names.memories) WritesStrings) (OfKind p Fn names kind.Data)
      (segment_sound p names) (λ x front h. (refl, h))

  pub field_front : Sound (field_at p names) (λ f k. (x : FieldKind) × Paren (field_word x) (OfKind p Fn names x f) k)
  unfolding field_at
  field_front k f rest e = headed_sound field_named field_word (inside_at p names) (OfKind p Fn names) field_found inside_sound k f rest e

module _ (p : Profile) (names : Names) (d : HasDistinct names) where
  of_kind : (x : FieldKind) (f : Field) (k : List Token) → Paren (field_word x) (OfKind p (FunctionAt p names) names x f) k → Written p names f k
  of_kind x f k (a, b, e, w, (u, v, e2, (s, h), l)) = to_field p names f k (a, b, e, subst (λ (z : FieldKind). a ≡ open_paren ∷ atom (field_word z) ∷ []) (sym s) w, (u, v, e2, h, l))

  pub field_sound : Sound (field_at p names) (Written p names)
  field_sound k f rest e = let g = field_front p names (FunctionAt p names) (function_sound p names d) k f rest e in (g.0, g.1, of_kind g.2.0 f g.0 g.2.1)

  each_parts : (fs : List Field) (k : List Token) → Each (Written p names) fs k → Each (WritesField names) fs k × IsOf p (module_of fs)
  each_parts [] k h = (h, record { types = tt; imports = tt; functions = tt; globals = tt; elements = tt; segments = tt })
  each_parts (f ∷ fs) k (a, b, e, (w, of), more) = let m = each_parts fs b more in ((a, b, e, w, m.0), by f of m.1)
    where
      by : (f : Field) → FieldOf p f → IsOf p (module_of fs) → IsOf p (module_of (f ∷ fs))
      by (type_field id g) of m = record { types = (of, m.types); imports = m.imports; functions = m.functions; globals = m.globals; elements = m.elements; segments = m.segments }
      by (import_field id i) of m = record { types = m.types; imports = (of, m.imports); functions = m.functions; globals = m.globals; elements = m.elements; segments = m.segments }
      by (function_field id g) of m = record { types = m.types; imports = m.imports; functions = (of, m.functions); globals = m.globals; elements = m.elements; segments = m.segments }
      by (global_field id g) of m = record { types = m.types; imports = m.imports; functions = m.functions; globals = (of, m.globals); elements = m.elements; segments = m.segments }
      by (element_field e) of m = record { types = m.types; imports = m.imports; functions = m.functions; globals = m.globals; elements = (of, m.elements); segments = m.segments }
      by (segment_field s) of m = record { types = m.types; imports = m.imports; functions = m.functions; globals = m.globals; elements = m.elements; segments = (of, m.segments) }
      by _ of m = record { types = m.types; imports = m.imports; functions = m.functions; globals = m.globals; elements = m.elements; segments = m.segments }

  pub fields_sound : Sound (fields_at p names) (λ fs k. Each (WritesField names) fs k × IsOf p (module_of fs))
  unfolding fields_at
  fields_sound k fs rest e =
      let g = many_sound (suc (length k)) begins_open (field_at p names) (Written p names) field_sound k fs rest e in
      (g.0, g.1, each_parts fs g.0 g.2)

module _ (p : Profile) (names : Names) (d : HasDistinct names) (knows : KnowsTypes p names) where
  signature_not_id : (f : Signature) (front rest : List Token) → OfSignature p f front → NotId (front ++ rest)
  signature_not_id f front rest ((ps, t, (a, b, e, w, m)), of) = subst (λ (z : List Token). NotId (z ++ rest)) (sym (e ∙ ap (λ (z : List Token). z ++ b) w)) tt

  function_not_id : (f : Function) (front rest : List Token) → FunctionAt p names f front → NotId (front ++ rest)
  function_not_id f front rest (ps, ls, t, few, u, (a, b, e, w, m), of) =
      subst NotId (sym (ap (λ (z : List Token). z ++ rest) e ∙ append_assoc a b rest)) (use_not_id names f.type_index ps a (b ++ rest) w)

  global_not_id : (y : GlobalType × Const) (front rest : List Token) → Both (OfGlobalType p) (OfConst p names) y front → NotId (front ++ rest)
  global_not_id y front rest (a, b, e, w, m) = subst NotId (sym (ap (λ (z : List Token). z ++ rest) e ∙ append_assoc a b rest)) (type_not_id y.0.var y.0.ty a (b ++ rest) w.0)

  inside_complete : (f : Field) (front rest : List Token) → Inside p (FunctionAt p names) names f front → BeginsClose rest → inside_at p names (kind_of f) (front ++ rest) ≡ Some (f, rest)
  inside_complete (type_field id f) front rest h c =
      made_is (λ x. type_field x.0 x.1) (then_at id_at (signature_at p) (front ++ rest)) (id, f) rest
      (then_complete id_at (signature_at p) WritesId (OfSignature p) NotId Any id_complete (signature_complete p) (λ y a b w g. signature_not_id y a b w) (id, f) front rest h tt)
  inside_complete (import_field id i) front rest h c =
      made_is (λ x. import_field x.1.1.0 (record { module_name = x.0; item_name = x.1.0; desc = x.1.1.1 })) (then_at name_at (then_at name_at (desc_at p names)) (front ++ rest)) (i.module_name, (i.item_name, (id, i.desc))) rest
      (then_complete name_at (then_at name_at (desc_at p names)) WritesName (Both WritesName (OfDesc p names)) Any Any name_complete
      (then_complete name_at (desc_at p names) WritesName (OfDesc p names) Any Any name_complete (desc_complete p names d knows) (λ y a b w g. tt)) (λ y a b w g. tt)
      (i.module_name, (i.item_name, (id, i.desc))) front rest h tt)
  inside_complete (function_field id f) front rest h c =
      made_is (λ x. function_field x.0 x.1) (then_at id_at (function_at p names) (front ++ rest)) (id, f) rest
      (then_complete id_at (function_at p names) WritesId (FunctionAt p names) NotId BeginsClose id_complete (function_complete p names d knows) (λ y a b w g. function_not_id y a b w) (id, f) front rest h c)
  inside_complete (table_field id l) front rest h c =
      made_is (λ x. table_field x.0 x.1) (then_at id_at table_type_at (front ++ rest)) (id, l) rest
      (then_complete id_at table_type_at WritesId WritesTableType NotId Any id_complete table_type_complete (λ y a b w g. table_not_id a b y w) (id, l) front rest h tt)
  inside_complete (memory_field id l) front rest h c =
      made_is (λ x. memory_field x.0 x.1) (then_at id_at limits_at (front ++ rest)) (id, l) rest
      (then_complete id_at limits_at WritesId WritesLimits NotId NoNumber id_complete limits_complete (λ y a b w g. number_not_id a b y w) (id, l) front rest h (close_number rest c))
  inside_complete (global_field id g) front rest h c =
      made_is (λ x. global_field x.0 (record { ty = x.1.0; init = x.1.1 })) (then_at id_at (then_at (global_type_at p) (const_at p names)) (front ++ rest)) (id, (g.ty, g.init)) rest
      (then_complete id_at (then_at (global_type_at p) (const_at p names)) WritesId (Both (OfGlobalType p) (OfConst p names)) NotId Any id_complete
      (then_complete (global_type_at p) (const_at p names) (OfGlobalType p) (OfConst p names) Any Any (global_type_complete p) (const_complete p names d) (λ y a b w i. tt)) (λ y a b w i. global_not_id y a b w)
      (id, (g.ty, g.init)) front rest h tt)
  inside_complete (export_field e) front rest h c =
      made_is (λ x. export_field (record { name = x.0; kind = x.1.0; index = x.1.1 })) (then_at name_at (item_at names) (front ++ rest)) (e.name, (e.kind, e.index)) rest
      (then_complete name_at (item_at names) WritesName (Item names) Any Any name_complete (item_complete names d) (λ y a b w g. tt) (e.name, (e.kind, e.index)) front rest h tt)
  inside_complete (start_field x) front rest h c = made_is start_field (atom_at (index_of names.functions) (front ++ rest)) x rest (index_complete names.functions d.functions x front rest h tt)
  inside_complete (element_field e) front rest h c =
      made_is (λ x. element_field (record { mode = x.0; functions = x.1 })) (then_at (mode_at p names names.tables begins_func) (functions_at names.functions) (front ++ rest)) (e.mode, e.functions) rest
      (element_complete p names d (e.mode, e.functions) front rest h c)
  inside_complete (segment_field s) front rest h c =
      made_is (λ x. segment_field (record { mode = x.0; bytes = x.1 })) (then_at (mode_at p names names.memories begins_strings) bytes_at (front ++ rest)) (s.mode, s.bytes) rest
      (segment_complete p names d (s.mode, s.bytes) front rest h c)

  -- ---- a field

  field_more : (x : FieldKind) → field_named (field_word x) ≡ Some x
  field_more kind.Type = refl
  field_more kind.Import = refl
  field_more kind.Func = refl
  field_more kind.Table = refl
  field_more kind.Memory = refl
  field_more kind.Global = refl
  field_more kind.Export = refl
  field_more kind.Start = refl
  field_more kind.Elem = refl
  field_more kind.Data = refl

  with_kind : (f : Field) (k : List Token) → Paren (field_word (kind_of f)) (Inside p (FunctionAt p names) names f) k → Paren (field_word (kind_of f)) (OfKind p (FunctionAt p names) names (kind_of f) f) k
  with_kind f k (a, b, e, w, (u, v, e2, h, l)) = (a, b, e, w, (u, v, e2, (refl, h), l))

  pub field_complete : Complete (field_at p names) (Written p names) Any
  unfolding field_at
  field_complete f front rest h any =
      headed_complete field_named field_word (inside_at p names) (OfKind p (FunctionAt p names) names (kind_of f)) (kind_of f) (field_more (kind_of f))
      (λ y a b w c. ap (λ (z : FieldKind). inside_at p names z (a ++ b)) (sym w.0) ∙ inside_complete y a b w.1 c)
      f front rest (with_kind f front (from_field p names f front h))

  field_begins : Begins begins_open (Written p names)
  field_begins f front rest h = by (from_field p names f front h)
    where
      by : Paren (field_word (kind_of f)) (Inside p (FunctionAt p names) names f) front → (begins_open (front ++ rest) ≡ true) × (0 < length front)
      by (a, b, e, w, m) =
          let text : front ≡ open_paren ∷ atom (field_word (kind_of f)) ∷ b = e ∙ ap (λ (z : List Token). z ++ b) w in
          (ap (λ (z : List Token). begins_open (z ++ rest)) text, subst (λ (z : List Token). 0 < length z) (sym text) (omega arith))

  -- ---- fields

  each_written : (fs : List Field) (k : List Token) → Each (WritesField names) fs k → IsOf p (module_of fs) → Each (Written p names) fs k
  each_written [] k h of = h
  each_written (f ∷ fs) k (a, b, e, w, more) of = let o = by f of in (a, b, e, (w, o.0), each_written fs b more o.1)
    where
      by : (f : Field) → IsOf p (module_of (f ∷ fs)) → FieldOf p f × IsOf p (module_of fs)
      by (type_field id g) m = (m.types.0, record { types = m.types.1; imports = m.imports; functions = m.functions; globals = m.globals; elements = m.elements; segments = m.segments })
      by (import_field id i) m = (m.imports.0, record { types = m.types; imports = m.imports.1; functions = m.functions; globals = m.globals; elements = m.elements; segments = m.segments })
      by (function_field id g) m = (m.functions.0, record { types = m.types; imports = m.imports; functions = m.functions.1; globals = m.globals; elements = m.elements; segments = m.segments })
      by (global_field id g) m = (m.globals.0, record { types = m.types; imports = m.imports; functions = m.functions; globals = m.globals.1; elements = m.elements; segments = m.segments })
      by (element_field e) m = (m.elements.0, record { types = m.types; imports = m.imports; functions = m.functions; globals = m.globals; elements = m.elements.1; segments = m.segments })
      by (segment_field s) m = (m.segments.0, record { types = m.types; imports = m.imports; functions = m.functions; globals = m.globals; elements = m.elements; segments = m.segments.1 })
      by _ m = (tt, record { types = m.types; imports = m.imports; functions = m.functions; globals = m.globals; elements = m.elements; segments = m.segments })

  pub fields_complete : Complete (fields_at p names) (λ fs k. Each (WritesField names) fs k × IsOf p (module_of fs)) BeginsClose
  unfolding fields_at
  fields_complete fs front rest h c =
      many_complete (suc (length (front ++ rest))) begins_open (field_at p names) (Written p names) Any field_complete field_begins (λ xs a b w i. tt)
      fs front rest (omega (arith, length-append front rest)) (each_written fs front h.0 h.1) (closed rest c)
    where
      closed : (k : List Token) → BeginsClose k → begins_open k ≡ false
      closed [] c = absurd c
      closed (open_paren ∷ k) c = absurd c
      closed (close_paren ∷ k) c = refl
      closed (string b ∷ k) c = absurd c
      closed (atom a ∷ k) c = absurd c
