-- The first pass notes what the tokens of fields write, and checks the rules on order and identifiers.
use Rattle.std.proofs.Common.{◌≡◌, ℕ, zero, suc, ◌<◌, Bool, true, false, cond, List, [], ◌∷◌, ◌++◌, length, Option, Some, None, refl, sym, ap, subst, ◌∙◌, arith, append_assoc, length-append}
use Rattle.wm_tokens.specs.Fields.{WritesMode}
use Rattle.std.specs.Prelude.{codes, not, ◌&&◌}
use Rattle.std.proofs.lemmas.Bool.{cond-true, cond-false}
use Rattle.wm_syntax.specs.Spelling.{Form, Each, ◌▸◌}
use Rattle.wm_syntax.specs.declared.types.ValType.{ValType}
use Rattle.wm_syntax.specs.declared.types.ValType.TheVariants.{I32, I64, F32, F64}
use Rattle.wm_syntax.specs.declared.types.Limits.{Limits}
use Rattle.wm_syntax.specs.declared.modules.ExportKind.{ExportKind}
use Rattle.wm_syntax.specs.declared.modules.ExportKind.TheVariants as kind
use Rattle.wm_syntax.specs.declared.modules.ImportDesc.{ImportDesc}
use Rattle.wm_syntax.specs.declared.modules.ImportDesc.TheVariants.{Func, Table, Memory, Global}
use Rattle.wm_syntax.specs.Types.{Signature}
use Rattle.wm_syntax.specs.Modules.{Import, Function}
use Rattle.wm_syntax.specs.declared.profile.Profile.{Profile}
use Rattle.wm_syntax.specs.Profiles.{HasSignature}
use Rattle.wm_tokens.specs.Tokens.{Token, open_paren, close_paren, atom}
use Rattle.wm_tokens.specs.Identifiers.{Id, WritesId, Resolves}
use Rattle.wm_tokens.specs.Written.{Keyword, Paren, UnsignedNumber, WritesType, Named, WritesGroups, Names, TypeUse, WritesInstructions, ids_of}
use Rattle.wm_tokens.specs.Fields.{Field, type_field, import_field, function_field, table_field, memory_field, global_field, export_field, start_field, element_field, segment_field, WritesName, WritesSignature, WritesMax, WritesLimits, WritesTableType, WritesGlobalType, WritesConst, WritesDesc, WritesExport, WritesFunctions, WritesStrings, WritesField, names_of}
use Rattle.wm_read.specs.exact.Fields.{name_at, space_of}
use Rattle.wm_read.specs.exact.FirstReading.{Noted, with_item, with_type, free_id_at, skip, type_head_at, desc_head_at, import_head_at, item_head_at, head_by, head_at, heads_within, heads_at}
use Rattle.wm_read.specs.exact.Signatures.{signature_at}
use Rattle.wm_bodies.specs.exact.Reading.{Reader, ◌>>=◌, close_at, id_at, is_new}
use Rattle.wm_bodies.specs.exact.TypeUses.{begins_open}
use Rattle.wm_tokens.proofs.Atoms.{magnitude_more}
use Rattle.wm_read.proofs.Balanced.{AllBalanced, balanced_then, balanced_groups, balanced_use, balanced_instructions, balanced_limits, balanced_table_type, balanced_global_type, balanced_const, balanced_export, balanced_start, balanced_element, balanced_segment}
use Rattle.wm_read.proofs.FieldParts.{name_complete}
use Rattle.wm_bodies.proofs.Immediates.{NotId, id_complete}
use Rattle.wm_bodies.proofs.Indices.{number_not_id}
use Rattle.wm_bodies.proofs.Readers.{bind_is}
use Rattle.wm_read.proofs.Rules.{kind_of, after, allowed, note_all}
use Rattle.wm_read.proofs.SignatureLaws.{signature_complete}
use Rattle.wm_bodies.proofs.TypeUseLaws.{KnowsTypes}

-- ---- the contents of parentheses

abbrev pub Inside : List ℕ → Form Token → List Token → Type 0
Inside w P front = (x : List Token) × P x × ((rest : List Token) → front ++ rest ≡ open_paren ∷ atom w ∷ (x ++ close_paren ∷ rest))

pub inside : (w : List ℕ) (P : Form Token) (front : List Token) → Paren w P front → Inside w P front
inside w P front (a, b, e, is, (x, c, e2, h, last)) = (
  x,
  h,
  λ rest.
      ap (λ (z : List Token). z ++ rest) (e ∙ ap (λ (z : List Token). z ++ b) is ∙ ap (λ (z : List Token). open_paren ∷ atom w ∷ z) (e2 ∙ ap (λ (z : List Token). x ++ z) last))
      ∙ ap (λ (z : List Token). open_paren ∷ atom w ∷ z) (append_assoc x (close_paren ∷ []) rest),
)

-- ---- forms that begin with no identifier

abbrev Plain : Form Token → Type 0
Plain P = (f rest : List Token) → P f → NotId (f ++ rest)

plain_then : (P Q : Form Token) → Plain P → Plain (P ▸ Q)
plain_then P Q p f rest (x, y, e, a, b) = subst NotId (sym (ap (λ (z : List Token). z ++ rest) e ∙ append_assoc x y rest)) (p x (y ++ rest) a)

plain_paren : (w : List ℕ) (P : Form Token) → Plain (Paren w P)
plain_paren w P f rest (a, b, e, is, h) = subst (λ (z : List Token). NotId (z ++ rest)) (sym (e ∙ ap (λ (z : List Token). z ++ b) is)) tt

plain_number : (n : ℕ) → Plain (UnsignedNumber n)
plain_number n f rest (a, e, (lt, h)) = subst (λ (z : List Token). NotId (z ++ rest)) (sym e) (number_not_id n a (magnitude_more n a h))

plain_type : (t : ValType) → Plain (WritesType t)
plain_type I32 f rest e = subst (λ (z : List Token). NotId (z ++ rest)) (sym e) refl
plain_type I64 f rest e = subst (λ (z : List Token). NotId (z ++ rest)) (sym e) refl
plain_type F32 f rest e = subst (λ (z : List Token). NotId (z ++ rest)) (sym e) refl
plain_type F64 f rest e = subst (λ (z : List Token). NotId (z ++ rest)) (sym e) refl

plain_limits : (l : Limits) → Plain (WritesLimits l)
plain_limits l = plain_then (UnsignedNumber l.min) (WritesMax l.max) (plain_number l.min)

plain_table_type : (l : Limits) → Plain (WritesTableType l)
plain_table_type l = plain_then (WritesLimits l) (Keyword (codes "funcref")) (plain_limits l)

plain_global_type : (var : Bool) (t : ValType) → Plain (WritesGlobalType var t)
plain_global_type false t = plain_type t
plain_global_type true t = plain_paren (codes "mut") (WritesType t)

plain_use : (names : Names) (x : ℕ) (ps : List Named) → Plain (TypeUse names x ps)
plain_use names x ps f rest (g, qs, rs, look, (a, b, e, h, more), which) =
    subst NotId (sym (ap (λ (z : List Token). z ++ rest) e ∙ append_assoc a b rest)) (plain_paren (codes "type") (Resolves names.types x) a (b ++ rest) h)

-- ---- heads after their keywords

-- The answer for an optional identifier.
free_is : (s : Noted) (id : Id) (Q : Form Token) → Plain Q → (ids : List Id) (x rest : List Token) → (w : (WritesId id ▸ Q) x)
    → free_id_at ids (x ++ rest) ≡ cond (is_new ids id) (Some (id, w.1 ++ rest)) None
free_is s id Q q ids x rest (i, b, e, w, h) =
    ap (λ (z : List Token). free_id_at ids (z ++ rest)) e ∙ ap (free_id_at ids) (append_assoc i b rest)
    ∙ bind_is (id_at (i ++ (b ++ rest))) (λ j. cond (is_new ids j.0) (Some j) None) (id, b ++ rest) (id_complete id i (b ++ rest) w (q b rest h))

type_is : (pr : Profile) (s : Noted) (id : Id) (f : Signature) (x rest : List Token) → HasSignature pr f → (WritesId id ▸ WritesSignature f) x
    → type_head_at pr s (x ++ close_paren ∷ rest) ≡ cond (is_new s.names.types id) (Some (record s { names = with_type s.names id f }, rest)) None
type_is pr s id f x rest of w =
    ap (λ (o : Option (Id × List Token)). ◌>>=◌ {B = Noted × List Token} o (λ i. signature_at pr i.1 >>= λ g. close_at g.1 >>= λ c. Some (record s { names = with_type s.names i.0 g.0 }, c.1)))
    (free_is s id (WritesSignature f) (λ g r h. plain_paren (codes "func") _ g r h.2) s.names.types x (close_paren ∷ rest) w)
    ∙ by (is_new s.names.types id)
  where
    by : (t : Bool) → ◌>>=◌ {A = Id × List Token} {B = Noted × List Token} (cond t (Some (id, w.1 ++ close_paren ∷ rest)) None) (λ i. signature_at pr i.1 >>= λ g. close_at g.1 >>= λ c. Some (record s { names = with_type s.names i.0 g.0 }, c.1))
        ≡ cond t (Some (record s { names = with_type s.names id f }, rest)) None
    by true = bind_is (signature_at pr (w.1 ++ close_paren ∷ rest)) (λ g. close_at g.1 >>= λ c. Some (record s { names = with_type s.names id g.0 }, c.1)) (f, close_paren ∷ rest) (signature_complete pr f w.1 (close_paren ∷ rest) (w.4, of) tt)
    by false = refl

item_is : (kind : ExportKind) (s : Noted) (id : Id) (Q : Form Token) → AllBalanced Q → Plain Q → (x rest : List Token) → (WritesId id ▸ Q) x
    → item_head_at kind s (x ++ close_paren ∷ rest) ≡ cond (is_new (space_of s.names kind) id) (Some (record s { names = with_item s.names kind id; defined = true }, rest)) None
item_is kind s id Q balanced q x rest w =
    ap (λ (o : Option (Id × List Token)). ◌>>=◌ {B = Noted × List Token} o (λ i. skip 1 i.1 >>= λ r. Some (record s { names = with_item s.names kind i.0; defined = true }, r)))
    (free_is s id Q q (space_of s.names kind) x (close_paren ∷ rest) w)
    ∙ by (is_new (space_of s.names kind) id)
  where
    by : (t : Bool) → ◌>>=◌ {A = Id × List Token} {B = Noted × List Token} (cond t (Some (id, w.1 ++ close_paren ∷ rest)) None) (λ i. skip 1 i.1 >>= λ r. Some (record s { names = with_item s.names kind i.0; defined = true }, r))
        ≡ cond t (Some (record s { names = with_item s.names kind id; defined = true }, rest)) None
    by true = bind_is (skip 1 (w.1 ++ close_paren ∷ rest)) (λ r. Some (record s { names = with_item s.names kind id; defined = true }, r)) rest (balanced w.1 w.4 0 (close_paren ∷ rest))
    by false = refl

-- ---- imports

abbrev Imported : Noted → ExportKind → Id → List Token → Option (Noted × List Token)
Imported s kind id rest = cond (is_new (space_of s.names kind) id) (Some (record s { names = with_item s.names kind id }, rest)) None

-- from what is brought in to the end of the import
abbrev skipped : Option (Noted × List Token) → Option (Noted × List Token)
skipped o = o >>= λ d. skip 2 d.1 >>= λ r. Some (d.0, r)

-- An import descriptor after its keyword.
abbrev kind_head_at : ExportKind → Noted → Reader Noted
kind_head_at kind s k = free_id_at (space_of s.names kind) k >>= λ i. Some (record s { names = with_item s.names kind i.0 }, i.1)

kind_is : (kind : ExportKind) (s : Noted) (id : Id) (Q : Form Token) → AllBalanced Q → Plain Q → (x rest : List Token) → (WritesId id ▸ Q) x
    → skipped (kind_head_at kind s (x ++ close_paren ∷ close_paren ∷ rest)) ≡ Imported s kind id rest
kind_is kind s id Q balanced q x rest w =
    ap (λ (o : Option (Id × List Token)). skipped (o >>= λ i. Some (record s { names = with_item s.names kind i.0 }, i.1)))
    (free_is s id Q q (space_of s.names kind) x (close_paren ∷ close_paren ∷ rest) w)
    ∙ by (is_new (space_of s.names kind) id)
  where
    by : (t : Bool) → skipped (◌>>=◌ {A = Id × List Token} (cond t (Some (id, w.1 ++ close_paren ∷ close_paren ∷ rest)) None) (λ i. Some (record s { names = with_item s.names kind i.0 }, i.1)))
        ≡ cond t (Some (record s { names = with_item s.names kind id }, rest)) None
    by true = bind_is (skip 2 (w.1 ++ close_paren ∷ close_paren ∷ rest)) (λ r. Some (record s { names = with_item s.names kind id }, r)) rest (balanced w.1 w.4 1 (close_paren ∷ close_paren ∷ rest))
    by false = refl

desc_is : (names : Names) (s : Noted) (id : Id) (d : ImportDesc) (front rest : List Token) → WritesDesc names id d front
    → skipped (desc_head_at s (front ++ close_paren ∷ rest)) ≡ Imported s (kind_of d) id rest
desc_is names s id (Func x) front rest (ps, h) =
    let g = inside (codes "func") (WritesId id ▸ TypeUse names x ps) front h in
    ap (λ (z : List Token). skipped (desc_head_at s z)) (g.2 (close_paren ∷ rest))
    ∙ kind_is kind.Func s id (TypeUse names x ps) (balanced_use names x ps) (plain_use names x ps) g.0 rest g.1
desc_is names s id (Table l) front rest h =
    let g = inside (codes "table") (WritesId id ▸ WritesTableType l) front h in
    ap (λ (z : List Token). skipped (desc_head_at s z)) (g.2 (close_paren ∷ rest))
    ∙ kind_is kind.Table s id (WritesTableType l) (balanced_table_type l) (plain_table_type l) g.0 rest g.1
desc_is names s id (Memory l) front rest h =
    let g = inside (codes "memory") (WritesId id ▸ WritesLimits l) front h in
    ap (λ (z : List Token). skipped (desc_head_at s z)) (g.2 (close_paren ∷ rest))
    ∙ kind_is kind.Memory s id (WritesLimits l) (balanced_limits l) (plain_limits l) g.0 rest g.1
desc_is names s id (Global t) front rest h =
    let g = inside (codes "global") (WritesId id ▸ WritesGlobalType t.var t.ty) front h in
    ap (λ (z : List Token). skipped (desc_head_at s z)) (g.2 (close_paren ∷ rest))
    ∙ kind_is kind.Global s id (WritesGlobalType t.var t.ty) (balanced_global_type t.var t.ty) (plain_global_type t.var t.ty) g.0 rest g.1

import_is : (names : Names) (s : Noted) (id : Id) (i : Import) (x rest : List Token) → (WritesName i.module_name ▸ WritesName i.item_name ▸ WritesDesc names id i.desc) x
    → import_head_at s (x ++ close_paren ∷ rest) ≡ Imported s (kind_of i.desc) id rest
import_is names s id i x rest (a, b, e, m, (c, d, e2, n, h)) =
    let text : x ++ close_paren ∷ rest ≡ a ++ (c ++ (d ++ close_paren ∷ rest)) =
    ap (λ (z : List Token). z ++ close_paren ∷ rest) e ∙ append_assoc a b (close_paren ∷ rest)
    ∙ ap (λ (z : List Token). a ++ z) (ap (λ (z : List Token). z ++ close_paren ∷ rest) e2 ∙ append_assoc c d (close_paren ∷ rest)) in
    ap (import_head_at s) text
    ∙ bind_is (name_at (a ++ (c ++ (d ++ close_paren ∷ rest)))) (λ j. name_at j.1 >>= λ k. skipped (desc_head_at s k.1)) (i.module_name, c ++ (d ++ close_paren ∷ rest)) (name_complete i.module_name a (c ++ (d ++ close_paren ∷ rest)) m tt)
    ∙ bind_is (name_at (c ++ (d ++ close_paren ∷ rest))) (λ k. skipped (desc_head_at s k.1)) (i.item_name, d ++ close_paren ∷ rest) (name_complete i.item_name c (d ++ close_paren ∷ rest) n tt)
    ∙ desc_is names s id i.desc d rest h

-- ---- a field

-- The answer for a field's head.
abbrev pub Given : Noted → Field → List Token → Option (Noted × List Token)
Given s f rest = cond (allowed s f) (Some (after s f, rest)) None

-- the rest of a field is skipped
past : (Q : Form Token) → AllBalanced Q → (x rest : List Token) → Q x → skip 1 (x ++ close_paren ∷ rest) ≡ Some rest
past Q q x rest h = q x h 0 (close_paren ∷ rest)

other_is : (s : Noted) (Q : Form Token) → AllBalanced Q → (x rest : List Token) → Q x → ◌>>=◌ {B = Noted × List Token} (skip 1 (x ++ close_paren ∷ rest)) (λ r. Some (s, r)) ≡ Some (s, rest)
other_is s Q q x rest h = bind_is (skip 1 (x ++ close_paren ∷ rest)) (λ r. Some (s, r)) rest (past Q q x rest h)

-- A rule on order is checked first.
placed : (t u : Bool) (o : Option (Noted × List Token)) (x : Noted × List Token) → o ≡ cond u (Some x) None → cond t None o ≡ cond (not t && u) (Some x) None
placed true u o x e = refl
placed false u o x e = e

once : (t : Bool) (o : Option (Noted × List Token)) (x : Noted × List Token) → o ≡ Some x → cond t None o ≡ cond (not t) (Some x) None
once true o x e = refl
once false o x e = e

abbrev Body : Names → Function → List Named → List Named → Form Token
Body names f params locals = TypeUse names f.type_index params ▸ WritesGroups (codes "local") locals ▸ WritesInstructions (record { names = names; locals = ids_of (params ++ locals) }) [] f.body

body_balanced : (names : Names) (f : Function) (params locals : List Named) → AllBalanced (Body names f params locals)
body_balanced names f params locals =
    balanced_then (TypeUse names f.type_index params) (WritesGroups (codes "local") locals ▸ WritesInstructions (record { names = names; locals = ids_of (params ++ locals) }) [] f.body)
    (balanced_use names f.type_index params)
    (balanced_then (WritesGroups (codes "local") locals) (WritesInstructions (record { names = names; locals = ids_of (params ++ locals) }) [] f.body)
    (balanced_groups (codes "local") refl locals) (balanced_instructions (record { names = names; locals = ids_of (params ++ locals) }) [] f.body))

body_plain : (names : Names) (f : Function) (params locals : List Named) → Plain (Body names f params locals)
body_plain names f params locals =
    plain_then (TypeUse names f.type_index params) (WritesGroups (codes "local") locals ▸ WritesInstructions (record { names = names; locals = ids_of (params ++ locals) }) [] f.body)
    (plain_use names f.type_index params)

-- The type of a type field is of the profile.
abbrev pub TypeOf : Profile → Field → Type 0
TypeOf pr (type_field id f) = HasSignature pr f
TypeOf pr _ = Unit {0}

types_of_fields : (pr : Profile) (f : Field) (fs : List Field) → KnowsTypes pr (names_of (f ∷ fs)) → TypeOf pr f × KnowsTypes pr (names_of fs)
types_of_fields pr (type_field id f) fs h = (h.0, h.1)
types_of_fields pr _ fs h = (tt, h)

pub head_is : (pr : Profile) (names : Names) (s : Noted) (f : Field) (front rest : List Token) → TypeOf pr f → WritesField names f front → head_at pr s (front ++ rest) ≡ Given s f rest
unfolding head_at head_by
head_is pr names s (type_field id f) front rest of h =
    let g = inside (codes "type") (WritesId id ▸ WritesSignature f) front h in
    ap (head_at pr s) (g.2 rest) ∙ type_is pr s id f g.0 rest of g.1
head_is pr names s (import_field id i) front rest of h =
    let g = inside (codes "import") (WritesName i.module_name ▸ WritesName i.item_name ▸ WritesDesc names id i.desc) front h in
    ap (head_at pr s) (g.2 rest)
    ∙ placed s.defined (is_new (space_of s.names (kind_of i.desc)) id) (import_head_at s (g.0 ++ close_paren ∷ rest)) (after s (import_field id i), rest) (import_is names s id i g.0 rest g.1)
head_is pr names s (function_field id f) front rest of (params, locals, types, few, distinct, h) =
    let g = inside (codes "func") (WritesId id ▸ Body names f params locals) front h in
    ap (head_at pr s) (g.2 rest) ∙ item_is kind.Func s id (Body names f params locals) (body_balanced names f params locals) (body_plain names f params locals) g.0 rest g.1
head_is pr names s (table_field id l) front rest of h =
    let g = inside (codes "table") (WritesId id ▸ WritesTableType l) front h in
    ap (head_at pr s) (g.2 rest) ∙ item_is kind.Table s id (WritesTableType l) (balanced_table_type l) (plain_table_type l) g.0 rest g.1
head_is pr names s (memory_field id l) front rest of h =
    let g = inside (codes "memory") (WritesId id ▸ WritesLimits l) front h in
    ap (head_at pr s) (g.2 rest) ∙ item_is kind.Memory s id (WritesLimits l) (balanced_limits l) (plain_limits l) g.0 rest g.1
head_is pr names s (global_field id d) front rest of h =
    let g = inside (codes "global") (WritesId id ▸ WritesGlobalType d.ty.var d.ty.ty ▸ WritesConst names d.init) front h in
    ap (head_at pr s) (g.2 rest)
    ∙ item_is kind.Global s id (WritesGlobalType d.ty.var d.ty.ty ▸ WritesConst names d.init)
    (balanced_then (WritesGlobalType d.ty.var d.ty.ty) (WritesConst names d.init) (balanced_global_type d.ty.var d.ty.ty) (balanced_const names d.init))
    (plain_then (WritesGlobalType d.ty.var d.ty.ty) (WritesConst names d.init) (plain_global_type d.ty.var d.ty.ty)) g.0 rest g.1
head_is pr names s (export_field e) front rest of h =
    let g = inside (codes "export") (WritesName e.name ▸ WritesExport names e.kind e.index) front h in
    ap (head_at pr s) (g.2 rest) ∙ other_is s (WritesName e.name ▸ WritesExport names e.kind e.index) (balanced_export names e) g.0 rest g.1
head_is pr names s (start_field x) front rest of h =
    let g = inside (codes "start") (Resolves names.functions x) front h in
    ap (head_at pr s) (g.2 rest)
    ∙ once s.started (◌>>=◌ {B = Noted × List Token} (skip 1 (g.0 ++ close_paren ∷ rest)) (λ r. Some (record s { started = true }, r))) (record s { started = true }, rest)
    (other_is (record s { started = true }) (Resolves names.functions x) (balanced_start names x) g.0 rest g.1)
head_is pr names s (element_field e) front rest of h =
    let g = inside (codes "elem") (WritesMode names names.tables e.mode ▸ WritesFunctions names.functions e.mode e.functions) front h in
    ap (head_at pr s) (g.2 rest)
    ∙ other_is s (WritesMode names names.tables e.mode ▸ WritesFunctions names.functions e.mode e.functions) (balanced_element names e) g.0 rest g.1
head_is pr names s (segment_field d) front rest of h =
    let g = inside (codes "data") (WritesMode names names.memories d.mode ▸ WritesStrings d.bytes) front h in
    ap (head_at pr s) (g.2 rest)
    ∙ other_is s (WritesMode names names.memories d.mode ▸ WritesStrings d.bytes) (balanced_segment names d) g.0 rest g.1

-- ---- all fields

-- each field begins with a parenthesis
pub field_opens : (names : Names) (f : Field) (front : List Token) → WritesField names f front → (more : List Token) × (front ≡ open_paren ∷ more)
field_opens names f front h = by f h
  where
    paren : (w : List ℕ) (P : Form Token) → Paren w P front → (more : List Token) × (front ≡ open_paren ∷ more)
    paren w P (a, b, e, is, more) = (atom w ∷ b, e ∙ ap (λ (z : List Token). z ++ b) is)

    by : (f : Field) → WritesField names f front → (more : List Token) × (front ≡ open_paren ∷ more)
    by (type_field id f) h = paren (codes "type") _ h
    by (import_field id i) h = paren (codes "import") _ h
    by (function_field id f) (params, locals, types, few, distinct, h) = paren (codes "func") _ h
    by (table_field id l) h = paren (codes "table") _ h
    by (memory_field id l) h = paren (codes "memory") _ h
    by (global_field id d) h = paren (codes "global") _ h
    by (export_field e) h = paren (codes "export") _ h
    by (start_field x) h = paren (codes "start") _ h
    by (element_field e) h = paren (codes "elem") _ h
    by (segment_field d) h = paren (codes "data") _ h

within_is : (pr : Profile) (names : Names) (n : ℕ) (s : Noted) (fs : List Field) (front rest : List Token) → length front < n → KnowsTypes pr (names_of fs) → Each (WritesField names) fs front → begins_open rest ≡ false
    → heads_within pr n s (front ++ rest) ≡ (note_all s fs >>= λ t. Some (t, rest))
within_is pr names zero s fs front rest lt of h e = absurd (omega (arith, lt))
within_is pr names (suc n) s [] front rest lt of h e = ap (λ (z : List Token). heads_within pr (suc n) s (z ++ rest)) h ∙ cond-false (begins_open rest) _ _ e
within_is pr names (suc n) s (f ∷ fs) front rest lt of (a, b, is, w, more) e =
    let each = types_of_fields pr f fs of in
    let text : front ++ rest ≡ a ++ (b ++ rest) = ap (λ (z : List Token). z ++ rest) is ∙ append_assoc a b rest in
    let o = field_opens names f a w in
    let opens : begins_open (a ++ (b ++ rest)) ≡ true = ap (λ (z : List Token). begins_open (z ++ (b ++ rest))) o.1 in
    let size : length front ≡ length (a ++ b) = ap length is in
    let some : length a ≡ suc (length o.0) = ap length o.1 in
    ap (heads_within pr (suc n) s) text ∙ cond-true (begins_open (a ++ (b ++ rest))) _ _ opens
    ∙ ap (λ (z : Option (Noted × List Token)). z >>= λ x. heads_within pr n x.0 x.1) (head_is pr names s f a (b ++ rest) each.0 w)
    ∙ by (allowed s f) (within_is pr names n (after s f) fs b rest (omega (arith, size, length-append a b, some, lt)) each.1 more e)
  where
    by : (t : Bool) → heads_within pr n (after s f) (b ++ rest) ≡ (note_all (after s f) fs >>= λ t. Some (t, rest))
        → ◌>>=◌ {A = Noted × List Token} {B = Noted × List Token} (cond t (Some (after s f, b ++ rest)) None) (λ x. heads_within pr n x.0 x.1) ≡ ◌>>=◌ {B = Noted × List Token} (cond t (note_all (after s f) fs) None) (λ t. Some (t, rest))
    by true h = h
    by false h = refl

pub heads_are : (pr : Profile) (names : Names) (s : Noted) (fs : List Field) (front rest : List Token) → KnowsTypes pr (names_of fs) → Each (WritesField names) fs front → begins_open rest ≡ false
    → heads_at pr s (front ++ rest) ≡ (note_all s fs >>= λ t. Some (t, rest))
unfolding heads_at
heads_are pr names s fs front rest of h e = within_is pr names (suc (length (front ++ rest))) s fs front rest (omega (arith, length-append front rest)) of h e
