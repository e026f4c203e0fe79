-- The rules on identifiers and order: which fields may follow the notes, and the notes after them.
use Rattle.std.proofs.Common.{◌≡◌, ℕ, zero, suc, ◌≤◌, ◌+◌, ◌⊎◌, Bool, true, false, cond, List, [], ◌∷◌, ◌++◌, length, Option, Some, None, AllPairs, refl, sym, ap, subst, ◌∙◌, inl, inr, arith, append_assoc}
use Rattle.std.specs.Prelude.{not, ◌&&◌, filter_map, slice_get}
use Rattle.std.specs.List.{AllByRecursion}
use Rattle.std.proofs.lemmas.Bool.{cond-true, and_parts, and_from}
use Rattle.std.proofs.lemmas.List.{append-nil}
use Rattle.std.proofs.lemmas.List.Elements.{All-from_recursion, recursion_from_All}
use Rattle.std.proofs.lemmas.List.Kept.{AllPairs-cons}
use Rattle.wm_syntax.specs.declared.modules.ExportKind.{ExportKind}
use Rattle.wm_syntax.specs.declared.modules.ExportKind.TheVariants as kind
use Rattle.wm_syntax.specs.declared.modules.ImportDesc.{ImportDesc}
use Rattle.wm_syntax.specs.declared.modules.ImportDesc.TheVariants.{Func, Table, Memory, Global}
use Rattle.wm_syntax.specs.Types.{Signature}
use Rattle.wm_tokens.specs.Identifiers.{Id, Ids, AreDistinct}
use Rattle.wm_tokens.specs.Written.{Names}
use Rattle.wm_tokens.specs.Fields.{Field, type_field, import_field, function_field, table_field, memory_field, global_field, export_field, start_field, element_field, segment_field, start_of, names_of, IsDefinition, IsImport, HasDistinct}
use Rattle.wm_read.specs.exact.Fields.{space_of}
use Rattle.wm_bodies.specs.exact.Reading.{is_new}
use Rattle.wm_read.specs.exact.FirstReading.{Noted, nothing, with_item, with_type}
use Rattle.wm_tokens.proofs.Basics.{chosen, same_some}
use Rattle.wm_read.proofs.DistinctIds.{distinct_new}
use Rattle.wm_read.proofs.HeadSteps.{with_item_distinct, with_type_distinct}

-- ---- what a field adds to the notes, and whether the notes allow it

abbrev pub kind_of : ImportDesc → ExportKind
kind_of (Func x) = kind.Func
kind_of (Table l) = kind.Table
kind_of (Memory l) = kind.Memory
kind_of (Global g) = kind.Global

abbrev pub defined : ExportKind → Noted → Id → Noted
defined kind s id = record { names = with_item s.names kind id; defined = true; started = s.started }

abbrev pub after : Noted → Field → Noted
after s (type_field id f) = record s { names = with_type s.names id f }
after s (import_field id i) = record s { names = with_item s.names (kind_of i.desc) id }
after s (function_field id f) = defined kind.Func s id
after s (table_field id l) = defined kind.Table s id
after s (memory_field id l) = defined kind.Memory s id
after s (global_field id g) = defined kind.Global s id
after s (export_field e) = s
after s (start_field x) = record s { started = true }
after s (element_field e) = s
after s (segment_field d) = s

abbrev pub allowed : Noted → Field → Bool
allowed s (type_field id f) = is_new s.names.types id
allowed s (import_field id i) = not s.defined && is_new (space_of s.names (kind_of i.desc)) id
allowed s (function_field id f) = is_new s.names.functions id
allowed s (table_field id l) = is_new s.names.tables id
allowed s (memory_field id l) = is_new s.names.memories id
allowed s (global_field id g) = is_new s.names.globals id
allowed s (export_field e) = true
allowed s (start_field x) = not s.started
allowed s (element_field e) = true
allowed s (segment_field d) = true

abbrev pub after_all : Noted → List Field → Noted
after_all s [] = s
after_all s (f ∷ fs) = after_all (after s f) fs

abbrev pub AllAllowed : Noted → List Field → Type 0
AllAllowed s [] = Unit {0}
AllAllowed s (f ∷ fs) = (allowed s f ≡ true) × AllAllowed (after s f) fs

abbrev pub note_all : Noted → List Field → Option Noted
note_all s [] = Some s
note_all s (f ∷ fs) = cond (allowed s f) (note_all (after s f) fs) None

pub noted : (s t : Noted) (fs : List Field) → note_all s fs ≡ Some t → AllAllowed s fs × (after_all s fs ≡ t)
noted s t [] e = (tt, same_some s t e)
noted s t (f ∷ fs) e = elim (chosen (allowed s f) (note_all (after s f) fs) None (Some t) e) [
  | inl p ↦ (let g = noted (after s f) t fs p.1 in ((p.0, g.0), g.1))
  | inr p ↦ absurd (let c : ◌≡◌ {A = Option Noted} None (Some t) = p.1 in cc)
]

pub notes : (s : Noted) (fs : List Field) → AllAllowed s fs → note_all s fs ≡ Some (after_all s fs)
notes s [] h = refl
notes s (f ∷ fs) h = cond-true (allowed s f) _ _ h.0 ∙ notes (after s f) fs h.1

-- ---- the names

abbrev pub joined : Names → Names → Names
joined a b = record {
  signatures = a.signatures ++ b.signatures;
  types = a.types ++ b.types;
  functions = a.functions ++ b.functions;
  tables = a.tables ++ b.tables;
  memories = a.memories ++ b.memories;
  globals = a.globals ++ b.globals;
}

joined_none : (a : Names) → joined a (names_of []) ≡ a
joined_none a = simp append-nil

-- An item that is appended comes before the items that are joined later.
added_type : (a b : Names) (id : Id) (f : Signature) → joined (with_type a id f) b ≡ joined a (record b { types = id ∷ b.types; signatures = f ∷ b.signatures })
added_type a b id f = simp append_assoc

added_function : (a b : Names) (id : Id) → joined (with_item a kind.Func id) b ≡ joined a (record b { functions = id ∷ b.functions })
added_function a b id = simp append_assoc

added_table : (a b : Names) (id : Id) → joined (with_item a kind.Table id) b ≡ joined a (record b { tables = id ∷ b.tables })
added_table a b id = simp append_assoc

added_memory : (a b : Names) (id : Id) → joined (with_item a kind.Memory id) b ≡ joined a (record b { memories = id ∷ b.memories })
added_memory a b id = simp append_assoc

added_global : (a b : Names) (id : Id) → joined (with_item a kind.Global id) b ≡ joined a (record b { globals = id ∷ b.globals })
added_global a b id = simp append_assoc

added_import : (a : Names) (fs : List Field) (id : Id) (m n : List ℕ) (d : ImportDesc)
    → joined (with_item a (kind_of d) id) (names_of fs) ≡ joined a (names_of (import_field id (record { module_name = m; item_name = n; desc = d }) ∷ fs))
added_import a fs id m n (Func x) = added_function a (names_of fs) id
added_import a fs id m n (Table l) = added_table a (names_of fs) id
added_import a fs id m n (Memory l) = added_memory a (names_of fs) id
added_import a fs id m n (Global g) = added_global a (names_of fs) id

names_step : (s : Noted) (f : Field) (fs : List Field) → joined (after s f).names (names_of fs) ≡ joined s.names (names_of (f ∷ fs))
names_step s (type_field id f) fs = added_type s.names (names_of fs) id f
names_step s (import_field id i) fs = added_import s.names fs id i.module_name i.item_name i.desc
names_step s (function_field id f) fs = added_function s.names (names_of fs) id
names_step s (table_field id l) fs = added_table s.names (names_of fs) id
names_step s (memory_field id l) fs = added_memory s.names (names_of fs) id
names_step s (global_field id g) fs = added_global s.names (names_of fs) id
names_step s (export_field e) fs = refl
names_step s (start_field x) fs = refl
names_step s (element_field e) fs = refl
names_step s (segment_field d) fs = refl

names_joined : (s : Noted) (fs : List Field) → (after_all s fs).names ≡ joined s.names (names_of fs)
names_joined s [] = sym (joined_none s.names)
names_joined s (f ∷ fs) = names_joined (after s f) fs ∙ names_step s f fs

-- from nothing on they are the names of the fields
pub names_found : (fs : List Field) → (after_all nothing fs).names ≡ names_of fs
names_found fs = names_joined nothing fs

-- ---- identifiers

-- A field that the notes allow keeps identifiers distinct.
keeps : (s : Noted) (f : Field) → allowed s f ≡ true → HasDistinct s.names → HasDistinct (after s f).names
keeps s (type_field id f) h d = with_type_distinct s.names id f h d
keeps s (import_field id i) h d = with_item_distinct s.names (kind_of i.desc) id (and_parts (not s.defined) (is_new (space_of s.names (kind_of i.desc)) id) h).1 d
keeps s (function_field id f) h d = with_item_distinct s.names kind.Func id h d
keeps s (table_field id l) h d = with_item_distinct s.names kind.Table id h d
keeps s (memory_field id l) h d = with_item_distinct s.names kind.Memory id h d
keeps s (global_field id g) h d = with_item_distinct s.names kind.Global id h d
keeps s (export_field e) h d = d
keeps s (start_field x) h d = d
keeps s (element_field e) h d = d
keeps s (segment_field g) h d = d

keeps_all : (s : Noted) (fs : List Field) → AllAllowed s fs → HasDistinct s.names → HasDistinct (after_all s fs).names
keeps_all s [] h d = d
keeps_all s (f ∷ fs) h d = keeps_all (after s f) fs h.1 (keeps s f h.0 d)

none_distinct : AreDistinct []
none_distinct name x y e g = absurd (let f : ◌≡◌ {A = Option Id} None (Some (Some name)) = e in cc)

pub nothing_distinct : HasDistinct nothing.names
nothing_distinct = record { types = none_distinct; functions = none_distinct; tables = none_distinct; memories = none_distinct; globals = none_distinct }

-- an identifier that is added to distinct ones is a new one
new_free : (ids : Ids) (id : Id) → AreDistinct (ids ++ id ∷ []) → is_new ids id ≡ true
new_free ids id d = (and_parts (is_new ids id) true (distinct_new ids (id ∷ []) d)).0

front_get : (ids more : Ids) (x : ℕ) (id : Id) → slice_get ids x ≡ Some id → slice_get (ids ++ more) x ≡ Some id
front_get [] more x id e = absurd cc
front_get (i ∷ ids) more zero id e = e
front_get (i ∷ ids) more (suc x) id e = front_get ids more x id e

front_distinct : (ids more : Ids) → AreDistinct (ids ++ more) → AreDistinct ids
front_distinct ids more d name x y e g = d name x y (front_get ids more x (Some name) e) (front_get ids more y (Some name) g)

fresh_item : (names : Names) (kind : ExportKind) (id : Id) → HasDistinct (with_item names kind id) → (is_new (space_of names kind) id ≡ true) × HasDistinct names
fresh_item names kind.Func id d = (
  new_free names.functions id d.functions,
  record { types = d.types; functions = front_distinct names.functions (id ∷ []) d.functions; tables = d.tables; memories = d.memories; globals = d.globals },
)
fresh_item names kind.Table id d = (
  new_free names.tables id d.tables,
  record { types = d.types; functions = d.functions; tables = front_distinct names.tables (id ∷ []) d.tables; memories = d.memories; globals = d.globals },
)
fresh_item names kind.Memory id d = (
  new_free names.memories id d.memories,
  record { types = d.types; functions = d.functions; tables = d.tables; memories = front_distinct names.memories (id ∷ []) d.memories; globals = d.globals },
)
fresh_item names kind.Global id d = (
  new_free names.globals id d.globals,
  record { types = d.types; functions = d.functions; tables = d.tables; memories = d.memories; globals = front_distinct names.globals (id ∷ []) d.globals },
)

-- whether its identifier is new
abbrev Free : Noted → Field → Type 0
Free s (type_field id f) = is_new s.names.types id ≡ true
Free s (import_field id i) = is_new (space_of s.names (kind_of i.desc)) id ≡ true
Free s (function_field id f) = is_new s.names.functions id ≡ true
Free s (table_field id l) = is_new s.names.tables id ≡ true
Free s (memory_field id l) = is_new s.names.memories id ≡ true
Free s (global_field id g) = is_new s.names.globals id ≡ true
Free s _ = Unit {0}

fresh : (s : Noted) (f : Field) → HasDistinct (after s f).names → Free s f × HasDistinct s.names
fresh s (type_field id f) d = (
  new_free s.names.types id d.types,
  record { types = front_distinct s.names.types (id ∷ []) d.types; functions = d.functions; tables = d.tables; memories = d.memories; globals = d.globals },
)
fresh s (import_field id i) d = fresh_item s.names (kind_of i.desc) id d
fresh s (function_field id f) d = fresh_item s.names kind.Func id d
fresh s (table_field id l) d = fresh_item s.names kind.Table id d
fresh s (memory_field id l) d = fresh_item s.names kind.Memory id d
fresh s (global_field id g) d = fresh_item s.names kind.Global id d
fresh s (export_field e) d = (tt, d)
fresh s (start_field x) d = (tt, d)
fresh s (element_field e) d = (tt, d)
fresh s (segment_field g) d = (tt, d)

fresh_all : (s : Noted) (fs : List Field) → HasDistinct (after_all s fs).names → HasDistinct s.names
fresh_all s [] d = d
fresh_all s (f ∷ fs) d = (fresh s f (fresh_all (after s f) fs d)).1

-- ---- order

abbrev NoImport : Field → Type 0
NoImport f = IsImport f → ⊥

abbrev pub InOrder : Field → Field → Type 0
InOrder f g = IsDefinition f → IsImport g → ⊥

-- once something was defined, it stays so
stays : (s : Noted) (f : Field) → s.defined ≡ true → (after s f).defined ≡ true
stays s (type_field id f) h = h
stays s (import_field id i) h = h
stays s (function_field id f) h = refl
stays s (table_field id l) h = refl
stays s (memory_field id l) h = refl
stays s (global_field id g) h = refl
stays s (export_field e) h = h
stays s (start_field x) h = h
stays s (element_field e) h = h
stays s (segment_field d) h = h

defines : (s : Noted) (f : Field) → IsDefinition f → (after s f).defined ≡ true
defines s (type_field id f) h = absurd h
defines s (import_field id i) h = absurd h
defines s (function_field id f) h = refl
defines s (table_field id l) h = refl
defines s (memory_field id l) h = refl
defines s (global_field id g) h = refl
defines s (export_field e) h = absurd h
defines s (start_field x) h = absurd h
defines s (element_field e) h = absurd h
defines s (segment_field d) h = absurd h

-- Which field set `defined`.
definer : (s : Noted) (f : Field) → (after s f).defined ≡ true → (s.defined ≡ true) ⊎ IsDefinition f
definer s (type_field id f) h = inl h
definer s (import_field id i) h = inl h
definer s (function_field id f) h = inr tt
definer s (table_field id l) h = inr tt
definer s (memory_field id l) h = inr tt
definer s (global_field id g) h = inr tt
definer s (export_field e) h = inl h
definer s (start_field x) h = inl h
definer s (element_field e) h = inl h
definer s (segment_field d) h = inl h

not_both : (t : Bool) → not t ≡ true → t ≡ true → ⊥
not_both true n h = cc
not_both false n h = cc

not_defined : (s : Noted) (f : Field) → allowed s f ≡ true → s.defined ≡ true → NoImport f
not_defined s (type_field id f) h d i = i
not_defined s (import_field id g) h d i = not_both s.defined (and_parts (not s.defined) (is_new (space_of s.names (kind_of g.desc)) id) h).0 d
not_defined s (function_field id f) h d i = i
not_defined s (table_field id l) h d i = i
not_defined s (memory_field id l) h d i = i
not_defined s (global_field id g) h d i = i
not_defined s (export_field e) h d i = i
not_defined s (start_field x) h d i = i
not_defined s (element_field e) h d i = i
not_defined s (segment_field g) h d i = i

no_imports : (s : Noted) (fs : List Field) → AllAllowed s fs → s.defined ≡ true → AllByRecursion NoImport fs
no_imports s [] h d = tt
no_imports s (f ∷ fs) h d = (not_defined s f h.0 d, no_imports (after s f) fs h.1 (stays s f d))

in_order : (s : Noted) (fs : List Field) → AllAllowed s fs → AllPairs InOrder fs
in_order s [] h = λ i j d l m. absurd (omega (arith, m))
in_order s (f ∷ fs) h =
    AllPairs-cons InOrder f fs
    (λ j d l def imp. All-from_recursion NoImport fs (no_imports (after s f) fs h.1 (defines s f def)) j d l imp)
    (in_order (after s f) fs h.1)

-- ---- the start

abbrev starts : Noted → ℕ
starts s = cond s.started 1 0

abbrev start_count : List Field → ℕ
start_count fs = length (filter_map start_of fs)

one_at_most : (t : Bool) → cond t 1 0 ≤ 1
one_at_most true = omega arith
one_at_most false = omega arith

not_started : (t : Bool) → not t ≡ true → ◌≡◌ {A = ℕ} (cond t 1 0) 0
not_started true h = cc
not_started false h = refl

counted : (s : Noted) (f : Field) (fs : List Field) → allowed s f ≡ true → starts (after s f) + start_count fs ≡ starts s + start_count (f ∷ fs)
counted s (type_field id f) fs h = refl
counted s (import_field id i) fs h = refl
counted s (function_field id f) fs h = refl
counted s (table_field id l) fs h = refl
counted s (memory_field id l) fs h = refl
counted s (global_field id g) fs h = refl
counted s (export_field e) fs h = refl
counted s (start_field x) fs h = let z = not_started s.started h in omega (arith, z)
counted s (element_field e) fs h = refl
counted s (segment_field d) fs h = refl

started_once : (s : Noted) (fs : List Field) → AllAllowed s fs → starts s + start_count fs ≤ 1
started_once s [] h = let l = one_at_most s.started in omega (arith, l)
started_once s (f ∷ fs) h = let l = started_once (after s f) fs h.1 in let e = counted s f fs h.0 in omega (arith, l, e)

-- ---- fields that keep the rules are allowed

is_not : (t : Bool) → (t ≡ true → ⊥) → not t ≡ true
is_not true h = absurd (h refl)
is_not false h = refl

unstarted : (t : Bool) (n : ℕ) → cond t 1 0 + suc n ≤ 1 → not t ≡ true
unstarted true n l = absurd (omega (arith, l))
unstarted false n l = refl

may_stand : (s : Noted) (f : Field) (fs : List Field) → Free s f → (s.defined ≡ true → NoImport f) → starts s + start_count (f ∷ fs) ≤ 1 → allowed s f ≡ true
may_stand s (type_field id f) fs free order one = free
may_stand s (import_field id i) fs free order one = and_from (not s.defined) (is_new (space_of s.names (kind_of i.desc)) id) (is_not s.defined (λ d. order d tt)) free
may_stand s (function_field id f) fs free order one = free
may_stand s (table_field id l) fs free order one = free
may_stand s (memory_field id l) fs free order one = free
may_stand s (global_field id g) fs free order one = free
may_stand s (export_field e) fs free order one = refl
may_stand s (start_field x) fs free order one = unstarted s.started (start_count fs) one
may_stand s (element_field e) fs free order one = refl
may_stand s (segment_field d) fs free order one = refl

all_may_stand : (s : Noted) (fs : List Field) → HasDistinct (after_all s fs).names → (s.defined ≡ true → AllByRecursion NoImport fs) → AllPairs InOrder fs → starts s + start_count fs ≤ 1 → AllAllowed s fs
all_may_stand s [] distinct none order one = tt
all_may_stand s (f ∷ fs) distinct none order one =
    let new = fresh s f (fresh_all (after s f) fs distinct) in
    let h = may_stand s f fs new.0 (λ d. (none d).0) one in
    let e = counted s f fs h in (
      h,
      all_may_stand (after s f) fs distinct
          (λ d. elim (definer s f d) [
            | inl was ↦ (none was).1
            | inr def ↦ recursion_from_All NoImport fs (λ j g l. order 0 (suc j) g (omega arith) (omega (arith, l)) def)
          ])
          (λ i j g l m. order (suc i) (suc j) g (omega (arith, l)) (omega (arith, m))) (omega (arith, one, e)),
    )

-- ---- the rules as a module has them

pub record Keeps (fs : List Field) : Type 0 where
  pub imports_first : AllPairs InOrder fs
  pub one_start : start_count fs ≤ 1
  pub distinct : HasDistinct (names_of fs)

-- No start came before.
from_none : (n : ℕ) → n ≤ 1 → starts nothing + n ≤ 1
from_none n l = omega (arith, l)

pub rules_kept : (fs : List Field) (t : Noted) → note_all nothing fs ≡ Some t → (t.names ≡ names_of fs) × Keeps fs
rules_kept fs t e =
    let n = noted nothing t fs e in
    let names : t.names ≡ names_of fs = ap (λ (z : Noted). z.names) (sym n.1) ∙ names_found fs in (
      names,
      record {
        imports_first = in_order nothing fs n.0;
        one_start = let l = started_once nothing fs n.0 in omega (arith, l);
        distinct = subst HasDistinct (names_found fs) (keeps_all nothing fs n.0 nothing_distinct);
      },
    )

pub rules_noted : (fs : List Field) → Keeps fs → (t : Noted) × (note_all nothing fs ≡ Some t) × (t.names ≡ names_of fs)
rules_noted fs h =
    let all = all_may_stand nothing fs (subst HasDistinct (sym (names_found fs)) h.distinct) (λ d. let f : false ≡ true = d in absurd (cc)) h.imports_first (from_none (start_count fs) h.one_start) in
    (after_all nothing fs, notes nothing fs all, names_found fs)
