-- The fields of a module, one after another.
use Rattle.std.proofs.Common.{◌≡◌, ℕ, zero, suc, ◌<◌, true, false, List, [], ◌∷◌, ◌++◌, length, Option, Some, None, refl, sym, ap, ◌∙◌, subst, inl, inr, arith, append_assoc, length-append}
use Rattle.std.proofs.lemmas.Bool.{cond-false, cond-true}
use Rattle.std.proofs.lemmas.List.{append-nil}
use Rattle.wm_syntax.specs.Spelling.{Form}
use Rattle.wm_syntax.specs.Types.{Signature}
use Rattle.wm_syntax.specs.declared.types.Limits.{Limits}
use Rattle.wm_syntax.specs.Instructions.{Instructions}
use Rattle.wm_syntax.specs.Modules.{Element, Export, Function, GlobalDef, Import, Module, Segment, empty_module}
use Rattle.wm_syntax.specs.declared.instructions.Op.{Op}
use Rattle.wm_syntax.specs.declared.profile.Profile.{Profile}
use Rattle.wm_syntax.specs.inner.Building.{tree_of}
use Rattle.wm_tokens.specs.Tokens.{Token, open_paren, close_paren, string, atom}
use Rattle.wm_tokens.specs.Written.{Named, Names, Scope, ids_of, types_of}
use Rattle.std.specs.Prelude.{codes}
use Rattle.wm_tokens.specs.Fields.{Field, type_field, import_field, function_field, table_field, memory_field, global_field, export_field, start_field, element_field, segment_field, module_of}
use Rattle.wm_read.specs.declared.fields.keywords.FieldKind.{FieldKind}
use Rattle.wm_read.specs.inner.Fields.{head_at, or, with_field}
use Rattle.wm_bodies.specs.inner.Pieces.{Opened, after, piece_ops}
use Rattle.wm_bodies.specs.exact.Reading.{◌>>=◌, made, many_at, ops_at, ops_within, piece_at}
use Rattle.wm_bodies.specs.exact.TypeUses.{begins_open, call_use_at, instructions_at, named_at}
use Rattle.wm_bodies.specs.exact.NamedUses.{named_use_at}
use Rattle.wm_read.specs.exact.Fields.{field_at, field_word, fields_at, function_at, function_by, function_of, is_function}
use Rattle.wm_tokens.specs.Written.{Paren, TypeUse}
use Rattle.wm_tokens.proofs.Basics.{chosen, same_some}
use Rattle.wm_read.proofs.FieldLaws.{OfKind, field_front}
use Rattle.wm_bodies.proofs.Groups.{many_is}
use Rattle.wm_bodies.proofs.NamedGroups.{OfGroups, groups_are_written}
use Rattle.wm_bodies.proofs.NamedUses.{uses_are_written}
use Rattle.wm_bodies.proofs.PieceLaws.{piece_sound}
use Rattle.wm_bodies.proofs.Readers.{Sound, bind_is, bind_ok, then_sound}
use Rattle.wm_bodies.proofs.TypeUseLaws.{call_sound}

-- ---- the tokens in front write what is read, for any names

ops_front : (p : Profile) (sc : Scope) (n : ℕ) (bs : Opened) (k : List Token) (ops : List Op) (rest : List Token) → ops_within (call_use_at p sc.names) p sc n bs k ≡ Some (ops, rest) → (front : List Token) × (k ≡ front ++ rest)
ops_front p sc zero bs k ops rest e = absurd cc
ops_front p sc (suc n) bs (atom w ∷ k) ops rest e =
    let a = bind_ok (piece_at (call_use_at p sc.names) p sc bs w k) (λ x. ops_within (call_use_at p sc.names) p sc n (after bs x.0) x.1 >>= λ y. Some (piece_ops x.0 ++ y.0, y.1)) (ops, rest) e in
    let b = bind_ok (ops_within (call_use_at p sc.names) p sc n (after bs a.0.0) a.0.1) (λ y. Some (piece_ops a.0.0 ++ y.0, y.1)) (ops, rest) a.2 in
    let one = piece_sound (call_use_at p sc.names) sc (call_sound p sc.names) p bs w k a.0.0 a.0.1 a.1 in
    let two = ops_front p sc n (after bs a.0.0) a.0.1 b.0.0 b.0.1 b.1 in
    let is : ◌≡◌ {A = List Op × List Token} (piece_ops a.0.0 ++ b.0.0, b.0.1) (ops, rest) = same_some (piece_ops a.0.0 ++ b.0.0, b.0.1) (ops, rest) b.2 in
    (atom w ∷ (one.0 ++ two.0), ap (λ (z : List Token). atom w ∷ z) (one.1 ∙ ap (λ (z : List Token). one.0 ++ z) two.1 ∙ sym (append_assoc one.0 two.0 b.0.1)) ∙ ap (λ (z : List Op × List Token). (atom w ∷ (one.0 ++ two.0)) ++ z.1) is)
ops_front p sc (suc n) [] (close_paren ∷ k) ops rest e = ([], ap (λ (z : List Op × List Token). z.1) (same_some ([], close_paren ∷ k) (ops, rest) e))
ops_front p sc (suc n) (b ∷ bs) (close_paren ∷ k) ops rest e = absurd cc
ops_front p sc (suc n) [] [] ops rest e = absurd cc
ops_front p sc (suc n) (b ∷ bs) [] ops rest e = absurd cc
ops_front p sc (suc n) [] (open_paren ∷ k) ops rest e = absurd cc
ops_front p sc (suc n) (b ∷ bs) (open_paren ∷ k) ops rest e = absurd cc
ops_front p sc (suc n) [] (string s ∷ k) ops rest e = absurd cc
ops_front p sc (suc n) (b ∷ bs) (string s ∷ k) ops rest e = absurd cc

abbrev AnyFunction : Function → Form Token
AnyFunction f k = Unit {0}

abbrev IsUse : Names → ℕ × List Named → Form Token
IsUse names y = TypeUse names y.0 y.1

function_front : (p : Profile) (names : Names) → Sound (function_at p names) AnyFunction
unfolding function_at ops_at
function_front p names k f rest e =
    let a = bind_ok (head_at p names k) (λ h. function_by p names h.0.0.0 h.0.0.1 h.0.1 h.1) (f, rest) e in
    let one = then_sound (named_use_at p names) (named_at p (codes "local")) (IsUse names) (OfGroups p (codes "local")) (uses_are_written p names) (groups_are_written p (codes "local")) k a.0.0 a.0.1 a.1 in
    elim (chosen (is_function a.0.0.0.1 a.0.0.1) (function_of a.0.0.0.0 a.0.0.0.1 a.0.0.1 p names a.0.1) None (Some (f, rest)) a.2) [
      | inl t ↦ by a.0.0.0.0 a.0.0.0.1 a.0.0.1 a.0.1 one.0 one.1 t.1
      | inr t ↦ absurd (let n : ◌≡◌ {A = Option (Function × List Token)} None (Some (f, rest)) = t.1 in cc)
    ]
  where
    by : (x : ℕ) (params locals : List Named) (j front : List Token) → k ≡ front ++ j → function_of x params locals p names j ≡ Some (f, rest) → (front : List Token) × (k ≡ front ++ rest) × Unit {0}
    by x params locals j front text h =
        let sc : Scope = record { names = names; locals = ids_of (params ++ locals) } in
        let b = bind_ok (instructions_at p sc j) (λ b. Some (record { type_index = x; locals = types_of locals; body = b.0 }, b.1)) (f, rest) h in
        let c = bind_ok (ops_at (call_use_at p names) p sc [] j) (λ y. Some (tree_of y.0, y.1)) b.0 b.1 in
        let g = ops_front p sc (suc (length j)) [] j c.0.0 c.0.1 c.1 in
        let left : c.0.1 ≡ rest =
        ap (λ (z : Instructions × List Token). z.1) (same_some (tree_of c.0.0, c.0.1) b.0 c.2)
        ∙ ap (λ (z : Function × List Token). z.1) (same_some (record { type_index = x; locals = types_of locals; body = b.0.0 }, b.0.1) (f, rest) b.2) in
        (front ++ g.0, text ∙ ap (λ (z : List Token). front ++ z) (g.1 ∙ ap (λ (z : List Token). g.0 ++ z) left) ∙ sym (append_assoc front g.0 rest), tt)

abbrev IsField : Profile → Names → Field → Form Token
IsField p names f k = (x : FieldKind) × Paren (field_word x) (OfKind p AnyFunction names x f) k

some_tokens : (p : Profile) (names : Names) (f : Field) (k : List Token) → IsField p names f k → 0 < length k
some_tokens p names f k (x, (a, b, e, w, m)) = subst (λ (z : List Token). 0 < length z) (sym (e ∙ ap (λ (z : List Token). z ++ b) w)) (omega arith)

field_any : (p : Profile) (names : Names) → Sound (field_at p names) (IsField p names)
field_any p names = field_front p names AnyFunction (function_front p names)

pub field_behind : (p : Profile) (names : Names) (f : Field) (j k : List Token) → field_at p names j ≡ Some (f, k) → (front : List Token) × (j ≡ front ++ k)
field_behind p names f j k e = let one = field_any p names j f k e in (one.0, one.1)

-- ---- the loop of the code

abbrev pub with_fields : Module → List Field → Module
with_fields m [] = m
with_fields m (f ∷ fs) = with_fields (with_field m f) fs

abbrev pub after_fields : Module → Option (List Field × List Token) → Option (Module × List Token)
after_fields m read = made (λ fs. with_fields m fs) read

step : (p : Profile) (names : Names) (k : List Token) → begins_open k ≡ true → fields_at p names k ≡ (field_at p names k >>= λ x. fields_at p names x.1 >>= λ xs. Some (x.0 ∷ xs.0, xs.1))
unfolding fields_at
step p names k b = cond-true (begins_open k) _ _ b ∙ by (field_at p names k) refl
  where
    by : (o : Option (Field × List Token)) → field_at p names k ≡ o
        → ◌>>=◌ {B = List Field × List Token} o (λ x. many_at (length k) begins_open (field_at p names) x.1 >>= λ xs. Some (x.0 ∷ xs.0, xs.1))
        ≡ ◌>>=◌ {B = List Field × List Token} o (λ x. fields_at p names x.1 >>= λ xs. Some (x.0 ∷ xs.0, xs.1))
    by None e = refl
    by (Some x) e =
        let one = field_any p names k x.0 x.1 e in
        let size : length k ≡ length (one.0 ++ x.1) = ap length one.1 in
        let s = some_tokens p names x.0 one.0 one.2 in
        ap (λ (z : Option (List Field × List Token)). z >>= λ xs. Some (x.0 ∷ xs.0, xs.1))
        (many_is begins_open (field_at p names) (IsField p names) (field_any p names) (some_tokens p names) (length k) (suc (length x.1)) x.1 (omega (arith, size, length-append one.0 x.1, s)) (omega arith))

gather : (m : Module) (f : Field) (o : Option (List Field × List Token)) → after_fields m (o >>= λ xs. Some (f ∷ xs.0, xs.1)) ≡ after_fields (with_field m f) o
gather m f None = refl
gather m f (Some x) = refl

pub fields_more : (p : Profile) (names : Names) (m new : Module) (f : Field) (j k : List Token) → begins_open j ≡ true → field_at p names j ≡ Some (f, k) → new ≡ with_field m f
    → after_fields new (fields_at p names k) ≡ after_fields m (fields_at p names j)
fields_more p names m new f j k b e n =
    ap (λ (z : Module). after_fields z (fields_at p names k)) n
    ∙ sym (ap (after_fields m) (step p names j b ∙ bind_is (field_at p names j) (λ x. fields_at p names x.1 >>= λ xs. Some (x.0 ∷ xs.0, xs.1)) (f, k) e) ∙ gather m f (fields_at p names k))

pub fields_fail : (p : Profile) (names : Names) (m : Module) (j : List Token) → begins_open j ≡ true → field_at p names j ≡ None → after_fields m (fields_at p names j) ≡ None
fields_fail p names m j b e = ap (after_fields m) (step p names j b ∙ ap (λ (o : Option (Field × List Token)). ◌>>=◌ {B = List Field × List Token} o (λ x. fields_at p names x.1 >>= λ xs. Some (x.0 ∷ xs.0, xs.1))) e)

pub fields_over : (p : Profile) (names : Names) (m : Module) (j : List Token) → begins_open j ≡ false → after_fields m (fields_at p names j) ≡ Some (m, j)
unfolding fields_at
fields_over p names m j b = ap (after_fields m) (cond-false (begins_open j) _ _ b)

pub field_shrinks : (p : Profile) (names : Names) (f : Field) (j k : List Token) → field_at p names j ≡ Some (f, k) → length k < length j
field_shrinks p names f j k e =
    let one = field_any p names j f k e in
    let size : length j ≡ length (one.0 ++ k) = ap length one.1 in
    omega (arith, size, length-append one.0 k, some_tokens p names f one.0 one.2)

-- ---- the module of all fields

abbrev joined : Module → Module → Module
joined a b = record {
  types = a.types ++ b.types;
  imports = a.imports ++ b.imports;
  functions = a.functions ++ b.functions;
  tables = a.tables ++ b.tables;
  memories = a.memories ++ b.memories;
  globals = a.globals ++ b.globals;
  exports = a.exports ++ b.exports;
  start = or a.start b.start;
  elements = a.elements ++ b.elements;
  segments = a.segments ++ b.segments;
}

or_none : {X : Type 0} (o : Option X) → or o None ≡ o
or_none None = refl
or_none (Some x) = refl

or_first : (o : Option ℕ) (x : ℕ) (b : Option ℕ) → or (or o (Some x)) b ≡ or o (Some x)
or_first None x b = refl
or_first (Some y) x b = refl

joined_empty : (m : Module) → joined m empty_module ≡ m
joined_empty m =
    ap (λ (z : List Signature). record (joined m empty_module) { types = z }) (append-nil m.types)
    ∙ ap (λ (z : List Import). record (joined m empty_module) { types = m.types; imports = z }) (append-nil m.imports)
    ∙ ap (λ (z : List Function). record (joined m empty_module) { types = m.types; imports = m.imports; functions = z }) (append-nil m.functions)
    ∙ ap (λ (z : List Limits). record (joined m empty_module) { types = m.types; imports = m.imports; functions = m.functions; tables = z }) (append-nil m.tables)
    ∙ ap (λ (z : List Limits). record m { memories = z; globals = m.globals ++ []; exports = m.exports ++ []; start = or m.start None; elements = m.elements ++ []; segments = m.segments ++ [] }) (append-nil m.memories)
    ∙ ap (λ (z : List GlobalDef). record m { globals = z; exports = m.exports ++ []; start = or m.start None; elements = m.elements ++ []; segments = m.segments ++ [] }) (append-nil m.globals)
    ∙ ap (λ (z : List Export). record m { exports = z; start = or m.start None; elements = m.elements ++ []; segments = m.segments ++ [] }) (append-nil m.exports)
    ∙ ap (λ (z : Option ℕ). record m { start = z; elements = m.elements ++ []; segments = m.segments ++ [] }) (or_none m.start)
    ∙ ap (λ (z : List Element). record m { elements = z; segments = m.segments ++ [] }) (append-nil m.elements)
    ∙ ap (λ (z : List Segment). record m { segments = z }) (append-nil m.segments)

joined_field : (m : Module) (f : Field) (fs : List Field) → joined (with_field m f) (module_of fs) ≡ joined m (module_of (f ∷ fs))
joined_field m (type_field id x) fs = ap (λ (z : List Signature). record (joined m (module_of fs)) { types = z }) (append_assoc m.types (x ∷ []) (module_of fs).types)
joined_field m (import_field id x) fs = ap (λ (z : List Import). record (joined m (module_of fs)) { imports = z }) (append_assoc m.imports (x ∷ []) (module_of fs).imports)
joined_field m (function_field id x) fs = ap (λ (z : List Function). record (joined m (module_of fs)) { functions = z }) (append_assoc m.functions (x ∷ []) (module_of fs).functions)
joined_field m (table_field id x) fs = ap (λ (z : List Limits). record (joined m (module_of fs)) { tables = z }) (append_assoc m.tables (x ∷ []) (module_of fs).tables)
joined_field m (memory_field id x) fs = ap (λ (z : List Limits). record (joined m (module_of fs)) { memories = z }) (append_assoc m.memories (x ∷ []) (module_of fs).memories)
joined_field m (global_field id x) fs = ap (λ (z : List GlobalDef). record (joined m (module_of fs)) { globals = z }) (append_assoc m.globals (x ∷ []) (module_of fs).globals)
joined_field m (export_field x) fs = ap (λ (z : List Export). record (joined m (module_of fs)) { exports = z }) (append_assoc m.exports (x ∷ []) (module_of fs).exports)
joined_field m (start_field x) fs = ap (λ (z : Option ℕ). record (joined m (module_of fs)) { start = z }) (or_first m.start x (module_of fs).start)
joined_field m (element_field x) fs = ap (λ (z : List Element). record (joined m (module_of fs)) { elements = z }) (append_assoc m.elements (x ∷ []) (module_of fs).elements)
joined_field m (segment_field x) fs = ap (λ (z : List Segment). record (joined m (module_of fs)) { segments = z }) (append_assoc m.segments (x ∷ []) (module_of fs).segments)

all_joined : (m : Module) (fs : List Field) → with_fields m fs ≡ joined m (module_of fs)
all_joined m [] = sym (joined_empty m)
all_joined m (f ∷ fs) = all_joined (with_field m f) fs ∙ joined_field m f fs

pub fields_begin : (m : Module) (o : Option (List Field × List Token)) → m ≡ empty_module → after_fields m o ≡ made module_of o
fields_begin m None e = refl
fields_begin m (Some x) e = ap (λ (z : Module). Some (with_fields z x.0, x.1)) e ∙ ap (λ (z : Module). Some (z, x.1)) (all_joined empty_module x.0)

pub ruleset fields_laws = (fields_more, fields_fail, fields_over, field_shrinks, fields_begin)
