-- The items of a module build it.
use Rattle.std.proofs.Common.{ℕ, ◌+◌, ◌≡◌, ◌<◌, ◌^◌, List, [], ◌∷◌, ◌++◌, Option, Some, None, cond, Result, Ok, Err, length, refl, sym, ◌∙◌, ap, subst, append_assoc, append-nil, length-append, arith, map, flat_map, replicate, slice_get}
use Rattle.wm_machine.specs.Flat.{element_head, offset_ops, segment_head}
use Rattle.wm_syntax.specs.Modules.{index_of}
use Rattle.wm_syntax.specs.declared.modules.SegmentMode.TheVariants.{Passive, Active}
use Rattle.wm_syntax.specs.declared.modules.SegmentMode.{SegmentMode}
use Rattle.std.proofs.lemmas.List.{length-replicate, map-append}
use Rattle.std.specs.Prelude.{IsUtf8, unwrap_or}
use Rattle.std.proofs.lemmas.Str.{is_utf8-from_IsUtf8}
use Rattle.std.proofs.lemmas.Bool.{lt-ltb}
use Rattle.std.specs.List.{AllByRecursion, AllZip}
use Rattle.wm_syntax.specs.declared.types.ValType.{ValType}
use Rattle.wm_syntax.specs.declared.types.Const.{Const}
use Rattle.wm_syntax.specs.declared.types.Const.TheVariants as const
use Rattle.wm_syntax.specs.declared.instructions.Op.{Op}
use Rattle.wm_syntax.specs.declared.instructions.Op.TheVariants as op
use Rattle.wm_syntax.specs.declared.why.Why.{Why}
use Rattle.wm_syntax.specs.declared.why.Why.TheVariants as why
use Rattle.wm_syntax.specs.Types.{Signature}
use Rattle.wm_syntax.specs.Modules.{Module, Import, Function, GlobalDef, Export, Element, Segment}
use Rattle.wm_syntax.specs.Modules as modules
use Rattle.wm_syntax.specs.inner.Building.{Place, at, start, placed, if_placed, place_after}
use Rattle.wm_syntax.proofs.Places.{leads}
use Rattle.wm_syntax.specs.exact.Runs.{add_run}
use Rattle.wm_syntax.specs.Modules.{locals_of}
use Rattle.wm_machine.specs.Items.{Item, param, result_count, one_result, import_name, import_desc, function, table, memory, global, const_op, export, element_function, locals, body_op, data_byte}
use Rattle.wm_machine.specs.Sinks.{and_then, all_taken}
use Rattle.wm_machine.specs.Flat.{FlatModule, FlatGlobal, FlatElement, FlatCode, FlatSegment, type_items, import_items, global_items, export_items, start_items, element_items, code_items, segment_items, flat_items, constant_ops, IsFlatOf, IsIndexOf, IsCodeOf, IsGlobalOf, IsElementOf, IsSegmentOf}
use Rattle.wm_rules.proofs.Members.{count_skipped}
use Rattle.wm_rules.specs.declared.builder.Purpose.{Purpose}
use Rattle.wm_rules.specs.declared.builder.Purpose.TheVariants as purpose
use Rattle.wm_rules.specs.exact.Built.{Built, change_last, holding, nothing, expecting, member_added, if_it_stands, name_from, after}

-- a fold over items, put together
then_more : (r : Result Built Why) (a b : List Item) → ((g : Built) → all_taken after g (a ++ b) ≡ and_then (all_taken after g a) (λ k. all_taken after k b))
    → and_then r (λ g. all_taken after g (a ++ b)) ≡ and_then (and_then r (λ g. all_taken after g a)) (λ k. all_taken after k b)
then_more (Ok g) a b e = e g
then_more (Err w) a b e = refl

taken-append : (a b : List Item) (h : Built) → all_taken after h (a ++ b) ≡ and_then (all_taken after h a) (λ k. all_taken after k b)
taken-append [] b h = refl
taken-append (x ∷ a) b h = then_more (after h x) a b (λ g. taken-append a b g)

-- what is taken first, and then the rest
first_then : (a rest : List Item) (h g : Built) → all_taken after h a ≡ Ok g → all_taken after h (a ++ rest) ≡ all_taken after g rest
first_then a rest h g e = taken-append a rest h ∙ ap (λ r. and_then r (λ k. all_taken after k rest)) e

on_last_put : {X : Type 0} (f : X → X) (x : X) (xs : List X) → change_last f (xs ++ x ∷ []) ≡ xs ++ f x ∷ []
on_last_put f x [] = refl
on_last_put f x (z ∷ []) = refl
on_last_put f x (z ∷ w ∷ xs) = ap (λ zs. z ∷ zs) (on_last_put f x (w ∷ xs))

-- Member by member: what is held with some members takes the items of one more and holds that too.
each_member : {X Y : Type 0} (st : List Y → Built) (p : X → List Item) (R : Y → X → Type 0) → ((ys : List Y) (y : Y) (x : X) → R y x → all_taken after (st ys) (p x) ≡ Ok (st (ys ++ y ∷ [])))
    → (ys zs : List Y) (xs : List X) (rest : List Item) → AllZip R zs xs → all_taken after (st ys) (flat_map p xs ++ rest) ≡ all_taken after (st (ys ++ zs)) rest
each_member st p R one ys [] [] rest h = ap (λ z. all_taken after (st z) rest) (sym (append-nil ys))
each_member st p R one ys [] (x ∷ xs) rest h = absurd h
each_member st p R one ys (z ∷ zs) [] rest h = absurd h
each_member st p R one ys (z ∷ zs) (x ∷ xs) rest h =
    ap (all_taken after (st ys)) (append_assoc (p x) (flat_map p xs) rest)
    ∙ first_then (p x) (flat_map p xs ++ rest) (st ys) (st (ys ++ z ∷ [])) (one ys z x h.0)
    ∙ each_member st p R one (ys ++ z ∷ []) zs xs rest h.1
    ∙ ap (λ a. all_taken after (st a) rest) (append_assoc ys (z ∷ []) zs)

-- the same where each item is a member
each_part : {Y : Type 0} (st : List Y → Built) (p : Y → Item) → ((ys : List Y) (y : Y) → after (st ys) (p y) ≡ Ok (st (ys ++ y ∷ [])))
    → (ys zs : List Y) (rest : List Item) → all_taken after (st ys) (map p zs ++ rest) ≡ all_taken after (st (ys ++ zs)) rest
each_part st p one ys [] rest = ap (λ z. all_taken after (st z) rest) (sym (append-nil ys))
each_part st p one ys (z ∷ zs) rest =
    ap (λ r. and_then r (λ g. all_taken after g (map p zs ++ rest))) (one ys z)
    ∙ each_part st p one (ys ++ z ∷ []) zs rest
    ∙ ap (λ a. all_taken after (st a) rest) (append_assoc ys (z ∷ []) zs)

-- the same up to the end of the items
each_part_only : {Y : Type 0} (st : List Y → Built) (p : Y → Item) → ((ys : List Y) (y : Y) → after (st ys) (p y) ≡ Ok (st (ys ++ y ∷ [])))
    → (ys zs : List Y) → all_taken after (st ys) (map p zs) ≡ Ok (st (ys ++ zs))
each_part_only st p one ys zs = ap (all_taken after (st ys)) (sym (append-nil (map p zs))) ∙ each_part st p one ys zs []

-- types
abbrev types_held : Module → List ℕ → List Signature → Built
types_held m xs ts = holding (record m { types = ts }) xs

param_taken : (m : Module) (xs : List ℕ) (ts : List Signature) (rs ps : List ValType) (t : ValType)
    → after (types_held m xs (ts ++ record { params = ps; results = rs } ∷ [])) (param t) ≡ Ok (types_held m xs (ts ++ record { params = ps ++ t ∷ []; results = rs } ∷ []))
param_taken m xs ts rs ps t = rw (on_last_put (λ s. record s { params = s.params ++ t ∷ [] }) (record { params = ps; results = rs }) ts) refl

result_taken : (m : Module) (xs : List ℕ) (ts : List Signature) (ps rs : List ValType) (t : ValType)
    → after (types_held m xs (ts ++ record { params = ps; results = rs } ∷ [])) (one_result t) ≡ Ok (types_held m xs (ts ++ record { params = ps; results = rs ++ t ∷ [] } ∷ []))
result_taken m xs ts ps rs t = rw (on_last_put (λ s. record s { results = s.results ++ t ∷ [] }) (record { params = ps; results = rs }) ts) refl

type_built : (m : Module) (xs : List ℕ) (ts : List Signature) (s : Signature) → all_taken after (types_held m xs ts) (type_items s) ≡ Ok (types_held m xs (ts ++ s ∷ []))
type_built m xs ts s =
    each_part (λ ps. types_held m xs (ts ++ record { params = ps; results = [] } ∷ [])) param (λ ps t. param_taken m xs ts [] ps t) [] s.params (result_count (length s.results) ∷ map one_result s.results)
    ∙ each_part_only (λ rs. types_held m xs (ts ++ record { params = s.params; results = rs } ∷ [])) one_result (λ rs t. result_taken m xs ts s.params rs t) [] s.results

-- names
name_taken : (text : List ℕ) (f : List ℕ → Built) → IsUtf8 text → and_then (name_from text) (λ name. Ok (f name)) ≡ Ok (f text)
name_taken text f u = ap (λ b. and_then (cond b (Ok text) (Err why.BadUtf8)) (λ name. Ok (f name))) (is_utf8-from_IsUtf8 text u)

abbrev imports_held : Module → List ℕ → List Import → Built
imports_held m xs is = holding (record m { imports = is }) xs

import_built : (m : Module) (xs : List ℕ) (is : List Import) (i : Import) → IsUtf8 i.module_name × IsUtf8 i.item_name
    → all_taken after (imports_held m xs is) (import_items i) ≡ Ok (imports_held m xs (is ++ i ∷ []))
import_built m xs is i u =
    ap (λ r. and_then r (λ g. all_taken after g (import_name i.item_name ∷ import_desc i.desc ∷ [])))
    (name_taken i.module_name (λ name. record (imports_held m xs is) { module_name = name }) u.0)
    ∙ ap (λ r. and_then r (λ g. all_taken after g (import_desc i.desc ∷ [])))
    (name_taken i.item_name (λ name. record (imports_held m xs is) { module_name = i.module_name; item_name = name }) u.1)

abbrev exports_held : Module → List ℕ → List Export → Built
exports_held m xs es = holding (record m { exports = es }) xs

export_built : (m : Module) (xs : List ℕ) (es : List Export) (e : Export) → IsUtf8 e.name
    → all_taken after (exports_held m xs es) (export_items e) ≡ Ok (exports_held m xs (es ++ e ∷ []))
export_built m xs es e u =
    ap (λ r. and_then r (λ g. all_taken after g (export e.kind e.index ∷ []))) (name_taken e.name (λ name. record (exports_held m xs es) { exported = name }) u)

-- the ops of a constant expression
constant_built : (p : Purpose) (c : Const) (m : Module) (xs : List ℕ) → all_taken after (expecting p (holding m xs)) (map const_op (constant_ops c)) ≡ Ok (holding (member_added p c m) xs)
constant_built p (const.I32 n) m xs = refl
constant_built p (const.I64 n) m xs = refl
constant_built p (const.F32 n) m xs = refl
constant_built p (const.F64 n) m xs = refl
constant_built p (const.Global x) m xs = refl

abbrev globals_held : Module → List ℕ → List GlobalDef → Built
globals_held m xs gs = holding (record m { globals = gs }) xs

global_built : (m : Module) (xs : List ℕ) (gs : List GlobalDef) (g : GlobalDef) (v : FlatGlobal) → IsGlobalOf g v
    → all_taken after (globals_held m xs gs) (global_items v) ≡ Ok (globals_held m xs (gs ++ g ∷ []))
global_built m xs gs g v r =
    ap (λ t. all_taken after (globals_held m xs gs) (global t ∷ map const_op v.init)) r.0
    ∙ ap (λ o. all_taken after (expecting (purpose.Global g.ty) (globals_held m xs gs)) (map const_op o)) r.1
    ∙ constant_built (purpose.Global g.ty) g.init (record m { globals = gs }) xs

abbrev elements_held : Module → List ℕ → List Element → Built
elements_held m xs es = holding (record m { elements = es }) xs

element_function_taken : (m : Module) (xs : List ℕ) (es : List Element) (d : SegmentMode) (fs : List ℕ) (y : ℕ)
    → after (elements_held m xs (es ++ record { mode = d; functions = fs } ∷ [])) (element_function y) ≡ Ok (elements_held m xs (es ++ record { mode = d; functions = fs ++ y ∷ [] } ∷ []))
element_function_taken m xs es d fs y = rw (on_last_put (λ e. record e { functions = e.functions ++ y ∷ [] }) (record { mode = d; functions = fs }) es) refl

functions_taken : (m : Module) (xs : List ℕ) (es : List Element) (d : SegmentMode) (fs : List ℕ)
    → all_taken after (elements_held m xs (es ++ record { mode = d; functions = [] } ∷ [])) (map element_function fs) ≡ Ok (elements_held m xs (es ++ record { mode = d; functions = fs } ∷ []))
functions_taken m xs es d fs = each_part_only (λ fs. elements_held m xs (es ++ record { mode = d; functions = fs } ∷ [])) element_function (λ fs y. element_function_taken m xs es d fs y) [] fs

element_mode_built : (m : Module) (xs : List ℕ) (es : List Element) (d : SegmentMode) (fs : List ℕ)
    → all_taken after (elements_held m xs es) (element_head (index_of d) ∷ map const_op (offset_ops d) ++ map element_function fs) ≡ Ok (elements_held m xs (es ++ record { mode = d; functions = fs } ∷ []))
element_mode_built m xs es Passive fs = functions_taken m xs es Passive fs
element_mode_built m xs es (Active x c) fs =
    first_then (map const_op (constant_ops c)) (map element_function fs) (expecting (purpose.Element x) (elements_held m xs es)) _ (constant_built (purpose.Element x) c (record m { elements = es }) xs)
    ∙ functions_taken m xs es (Active x c) fs

element_built : (m : Module) (xs : List ℕ) (es : List Element) (e : Element) (v : FlatElement) → IsElementOf e v
    → all_taken after (elements_held m xs es) (element_items v) ≡ Ok (elements_held m xs (es ++ e ∷ []))
element_built m xs es e v r =
    ap (λ x. all_taken after (elements_held m xs es) (element_head x ∷ map const_op v.offset ++ map element_function v.functions)) r.0
    ∙ ap (λ o. all_taken after (elements_held m xs es) (element_head (index_of e.mode) ∷ map const_op o ++ map element_function v.functions)) r.1
    ∙ element_mode_built m xs es e.mode v.functions
    ∙ ap (λ fs. Ok (elements_held m xs (es ++ record { mode = e.mode; functions = fs } ∷ []))) r.2

abbrev segments_held : Module → List ℕ → List Segment → Built
segments_held m xs ss = holding (record m { segments = ss }) xs

byte_taken : (m : Module) (xs : List ℕ) (ss : List Segment) (d : SegmentMode) (bs : List ℕ) (c : ℕ)
    → after (segments_held m xs (ss ++ record { mode = d; bytes = bs } ∷ [])) (data_byte c) ≡ Ok (segments_held m xs (ss ++ record { mode = d; bytes = bs ++ c ∷ [] } ∷ []))
byte_taken m xs ss d bs c = rw (on_last_put (λ s. record s { bytes = s.bytes ++ c ∷ [] }) (record { mode = d; bytes = bs }) ss) refl

bytes_taken : (m : Module) (xs : List ℕ) (ss : List Segment) (d : SegmentMode) (bs : List ℕ)
    → all_taken after (segments_held m xs (ss ++ record { mode = d; bytes = [] } ∷ [])) (map data_byte bs) ≡ Ok (segments_held m xs (ss ++ record { mode = d; bytes = bs } ∷ []))
bytes_taken m xs ss d bs = each_part_only (λ bs. segments_held m xs (ss ++ record { mode = d; bytes = bs } ∷ [])) data_byte (λ bs c. byte_taken m xs ss d bs c) [] bs

mode_built : (m : Module) (xs : List ℕ) (ss : List Segment) (d : SegmentMode) (bs : List ℕ)
    → all_taken after (segments_held m xs ss) (segment_head (index_of d) ∷ map const_op (offset_ops d) ++ map data_byte bs) ≡ Ok (segments_held m xs (ss ++ record { mode = d; bytes = bs } ∷ []))
mode_built m xs ss Passive bs = bytes_taken m xs ss Passive bs
mode_built m xs ss (Active x c) bs =
    first_then (map const_op (constant_ops c)) (map data_byte bs) (expecting (purpose.Segment x) (segments_held m xs ss)) _ (constant_built (purpose.Segment x) c (record m { segments = ss }) xs)
    ∙ bytes_taken m xs ss (Active x c) bs

segment_built : (m : Module) (xs : List ℕ) (ss : List Segment) (s : Segment) (v : FlatSegment) → IsSegmentOf s v
    → all_taken after (segments_held m xs ss) (segment_items v) ≡ Ok (segments_held m xs (ss ++ s ∷ []))
segment_built m xs ss s v r =
    ap (λ x. all_taken after (segments_held m xs ss) (segment_head x ∷ map const_op v.offset ++ map data_byte v.bytes)) r.0
    ∙ ap (λ o. all_taken after (segments_held m xs ss) (segment_head (index_of s.mode) ∷ map const_op o ++ map data_byte v.bytes)) r.1
    ∙ mode_built m xs ss s.mode v.bytes
    ∙ ap (λ bs. Ok (segments_held m xs (ss ++ record { mode = s.mode; bytes = bs } ∷ []))) r.2

-- code entries
abbrev in_code : Module → List ℕ → List ValType → Place → Built
in_code m xs ts p = record (holding m xs) { code = Some (record { locals = ts; body = p }) }

few_more : (n : ℕ) (t : ValType) (ts : List ValType) → length ts + n < 2 ^ 32 → add_run n t ts ≡ Ok (ts ++ replicate n t)
few_more n t ts few = ap (λ b. cond b (Ok (ts ++ replicate n t)) (Err why.TooManyLocals)) (lt-ltb (length ts + n) (2 ^ 32) few)

runs_built : (m : Module) (xs : List ℕ) (rest : List Item) (runs : List (ℕ × ValType)) (ts : List ValType) → length (ts ++ locals_of runs) < 2 ^ 32
    → all_taken after (in_code m xs ts start) (map (λ r. locals r.0 r.1) runs ++ rest) ≡ all_taken after (in_code m xs (ts ++ locals_of runs) start) rest
runs_built m xs rest [] ts few = ap (λ z. all_taken after (in_code m xs z start) rest) (sym (append-nil ts))
runs_built m xs rest (r ∷ runs) ts few =
    let more : length ts + r.0 < 2 ^ 32 = omega (arith, length-append ts (replicate r.0 r.1 ++ locals_of runs), length-append (replicate r.0 r.1) (locals_of runs), length-replicate r.0 r.1) in
    let same : ts ++ (replicate r.0 r.1 ++ locals_of runs) ≡ (ts ++ replicate r.0 r.1) ++ locals_of runs = sym (append_assoc ts (replicate r.0 r.1) (locals_of runs)) in
    ap (λ q. and_then (and_then q (λ z. Ok (in_code m xs z start))) (λ g. all_taken after g (map (λ r. locals r.0 r.1) runs ++ rest))) (few_more r.0 r.1 ts more)
    ∙ runs_built m xs rest runs (ts ++ replicate r.0 r.1) (subst (λ z. length z < 2 ^ 32) same few)
    ∙ ap (λ z. all_taken after (in_code m xs z start) rest) (sym same)

one_op : (m : Module) (xs : List ℕ) (ts : List ValType) (rest : List Item) (p : Place) (o : Op) (r : Option Place) (q : Place) (ops : List Op)
    → ((z : Place) → place_after z ops ≡ Some q → all_taken after (in_code m xs ts z) (map body_op ops ++ rest) ≡ all_taken after (in_code m xs ts q) rest)
    → placed p o ≡ r → if_placed r (λ z. place_after z ops) ≡ Some q
    → all_taken after (in_code m xs ts p) (body_op o ∷ (map body_op ops ++ rest)) ≡ all_taken after (in_code m xs ts q) rest
one_op m xs ts rest p o None q ops on is e = absurd (cc)
one_op m xs ts rest p o (Some z) q ops on is e =
    ap (λ r. and_then (if_it_stands o (in_code m xs ts p) (record { locals = ts; body = p }) r) (λ g. all_taken after g (map body_op ops ++ rest))) is ∙ on z e

ops_built : (m : Module) (xs : List ℕ) (ts : List ValType) (rest : List Item) (ops : List Op) (p q : Place) → place_after p ops ≡ Some q
    → all_taken after (in_code m xs ts p) (map body_op ops ++ rest) ≡ all_taken after (in_code m xs ts q) rest
ops_built m xs ts rest [] p q e = let same : p ≡ q = cc in ap (λ z. all_taken after (in_code m xs ts z) rest) same
ops_built m xs ts rest (o ∷ ops) p q e = one_op m xs ts rest p o (placed p o) q ops (λ z k. ops_built m xs ts rest ops z q k) refl e

abbrev functions_held : Module → List ℕ → List Function → Built
functions_held m xs fs = holding (record m { functions = fs }) xs

code_built : (m : Module) (xs : List ℕ) (fs : List Function) (f : Function) (v : FlatCode) → slice_get xs (length fs) ≡ Some f.type_index → IsCodeOf f v
    → all_taken after (functions_held m xs fs) (code_items v) ≡ Ok (functions_held m xs (fs ++ f ∷ []))
code_built m xs fs f v has r =
    let b = r.2 in
    let ops : v.ops ≡ b.0 ++ op.End ∷ [] = b.2 ∙ ap (λ z. b.0 ++ z) b.4 in
    let n = record m { functions = fs } in
    let few : length ([] ++ locals_of v.runs) < 2 ^ 32 = subst (λ (z : List ValType). length z < 2 ^ 32) (sym r.0) r.1 in
    runs_built n xs (map body_op v.ops) v.runs [] few
    ∙ ap (λ o. all_taken after (in_code n xs (locals_of v.runs) start) (map body_op o)) ops
    ∙ ap (all_taken after (in_code n xs (locals_of v.runs) start)) (map-append body_op b.0 (op.End ∷ []))
    ∙ ops_built n xs (locals_of v.runs) (body_op op.End ∷ []) b.0 start (at [] f.body) (leads f.body b.0 b.3)
    ∙ ap (λ ts. Ok (functions_held m xs (fs ++ record { type_index = unwrap_or (slice_get xs (length fs)) 0; locals = ts; body = f.body } ∷ []))) r.0
    ∙ ap (λ o. Ok (functions_held m xs (fs ++ record { type_index = unwrap_or o 0; locals = f.locals; body = f.body } ∷ []))) has

at_seam : (done todo : List Function) (f : Function) → slice_get (map (λ f. f.type_index) (done ++ f ∷ todo)) (length done) ≡ Some f.type_index
at_seam [] todo f = refl
at_seam (d ∷ done) todo f = at_seam done todo f

codes_built : (m : Module) (xs : List ℕ) (rest : List Item) (done todo : List Function) (cs : List FlatCode) → AllZip IsCodeOf todo cs → xs ≡ map (λ f. f.type_index) (done ++ todo)
    → all_taken after (functions_held m xs done) (flat_map code_items cs ++ rest) ≡ all_taken after (functions_held m xs (done ++ todo)) rest
codes_built m xs rest done [] [] h e = ap (λ z. all_taken after (functions_held m xs z) rest) (sym (append-nil done))
codes_built m xs rest done [] (c ∷ cs) h e = absurd h
codes_built m xs rest done (f ∷ todo) [] h e = absurd h
codes_built m xs rest done (f ∷ todo) (c ∷ cs) h e =
    let has : slice_get xs (length done) ≡ Some f.type_index = ap (λ z. slice_get z (length done)) e ∙ at_seam done todo f in
    let same : (done ++ f ∷ []) ++ todo ≡ done ++ f ∷ todo = append_assoc done (f ∷ []) todo in
    ap (all_taken after (functions_held m xs done)) (append_assoc (code_items c) (flat_map code_items cs) rest)
    ∙ first_then (code_items c) (flat_map code_items cs ++ rest) (functions_held m xs done) (functions_held m xs (done ++ f ∷ [])) (code_built m xs done f c has h.0)
    ∙ codes_built m xs rest (done ++ f ∷ []) todo cs h.1 (e ∙ ap (map (λ f. f.type_index)) (sym same))
    ∙ ap (λ z. all_taken after (functions_held m xs z) rest) same

-- members that are items of the module themselves
zip_self : {X : Type 0} (P : X → Type 0) (xs : List X) → AllByRecursion P xs → AllZip (λ y x. (x ≡ y) × P y) xs xs
zip_self P [] h = tt
zip_self P (x ∷ xs) h = ((refl, h.0), zip_self P xs h.1)

each_same : {Y : Type 0} (st : List Y → Built) (p : Y → List Item) (P : Y → Type 0) → ((ys : List Y) (y : Y) → P y → all_taken after (st ys) (p y) ≡ Ok (st (ys ++ y ∷ [])))
    → (zs xs : List Y) (rest : List Item) → xs ≡ zs → AllByRecursion P zs → all_taken after (st []) (flat_map p xs ++ rest) ≡ all_taken after (st zs) rest
each_same st p P one zs xs rest e h =
    ap (λ a. all_taken after (st []) (flat_map p a ++ rest)) e
    ∙ each_member st p (λ y x. (x ≡ y) × P y) (λ ys y x r. ap (λ a. all_taken after (st ys) (p a)) r.0 ∙ one ys y r.1) [] zs zs rest (zip_self P zs h)

each_same_part : {Y : Type 0} (st : List Y → Built) (p : Y → Item) → ((ys : List Y) (y : Y) → after (st ys) (p y) ≡ Ok (st (ys ++ y ∷ [])))
    → (zs xs : List Y) (rest : List Item) → xs ≡ zs → all_taken after (st []) (map p xs ++ rest) ≡ all_taken after (st zs) rest
each_same_part st p one zs xs rest e = ap (λ a. all_taken after (st []) (map p a ++ rest)) e ∙ each_part st p one [] zs rest

all_any : {X : Type 0} (xs : List X) → AllByRecursion (λ x. Unit {0}) xs
all_any [] = tt
all_any (x ∷ xs) = (tt, all_any xs)

indices : (fs : List Function) (xs : List ℕ) → AllZip IsIndexOf fs xs → xs ≡ map (λ f. f.type_index) fs
indices [] [] r = refl
indices [] (x ∷ xs) r = absurd r
indices (f ∷ fs) [] r = absurd r
indices (f ∷ fs) (x ∷ xs) r = cc (r.0, indices fs xs r.1)

start_built : (m : Module) (xs : List ℕ) (s t : Option ℕ) (rest : List Item) → t ≡ s → m.start ≡ None → all_taken after (holding m xs) (start_items t ++ rest) ≡ all_taken after (holding (record m { start = s }) xs) rest
start_built m xs s t rest e n = ap (λ z. all_taken after (holding m xs) (start_items z ++ rest)) e ∙ go s
  where
    go : (s : Option ℕ) → all_taken after (holding m xs) (start_items s ++ rest) ≡ all_taken after (holding (record m { start = s }) xs) rest
    go None = ap (λ z. all_taken after (holding (record m { start = z }) xs) rest) n
    go (Some x) = refl

module _ (m : Module) where
  abbrev with_types' : Module
  with_types' = record modules.empty_module { types = m.types }

  abbrev with_imports' : Module
  with_imports' = record with_types' { imports = m.imports }

  abbrev with_tables' : Module
  with_tables' = record with_imports' { tables = m.tables }

  abbrev with_memories' : Module
  with_memories' = record with_tables' { memories = m.memories }

  abbrev with_globals' : Module
  with_globals' = record with_memories' { globals = m.globals }

  abbrev with_exports' : Module
  with_exports' = record with_globals' { exports = m.exports }

  abbrev with_start' : Module
  with_start' = record with_exports' { start = m.start }

  abbrev with_elements' : Module
  with_elements' = record with_start' { elements = m.elements }

  abbrev with_functions' : Module
  with_functions' = record with_elements' { functions = m.functions }

  abbrev numbers : List ℕ
  numbers = map (λ f. f.type_index) m.functions

  pub built : (v : FlatModule) → IsFlatOf m v → AllByRecursion (λ i. IsUtf8 i.module_name × IsUtf8 i.item_name) m.imports → AllByRecursion (λ e. IsUtf8 e.name) m.exports
      → all_taken after nothing (flat_items v) ≡ Ok (holding m numbers)
  built v r names exported =
      each_same (types_held modules.empty_module []) type_items (λ s. Unit {0}) (λ ts s u. type_built modules.empty_module [] ts s) m.types v.types _ r.types (all_any m.types)
      ∙ each_same (imports_held with_types' []) import_items (λ i. IsUtf8 i.module_name × IsUtf8 i.item_name) (λ is i u. import_built with_types' [] is i u) m.imports v.imports _ r.imports names
      ∙ each_same_part (λ xs. holding with_imports' xs) function (λ xs x. refl) numbers v.functions _ (indices m.functions v.functions r.functions)
      ∙ each_same_part (λ ls. holding (record with_imports' { tables = ls }) numbers) table (λ xs x. refl) m.tables v.tables _ r.tables
      ∙ each_same_part (λ ls. holding (record with_tables' { memories = ls }) numbers) memory (λ xs x. refl) m.memories v.memories _ r.memories
      ∙ each_member (globals_held with_memories' numbers) global_items IsGlobalOf (λ gs g x h. global_built with_memories' numbers gs g x h) [] m.globals v.globals _ r.globals
      ∙ each_same (exports_held with_globals' numbers) export_items (λ e. IsUtf8 e.name) (λ es e u. export_built with_globals' numbers es e u) m.exports v.exports _ r.exports exported
      ∙ start_built with_exports' numbers m.start v.start _ r.start refl
      ∙ each_member (elements_held with_start' numbers) element_items IsElementOf (λ es e x h. element_built with_start' numbers es e x h) [] m.elements v.elements _ r.elements
      ∙ count_skipped after (λ h n. refl) v.data_count _ (holding with_elements' numbers)
      ∙ codes_built with_elements' numbers _ [] m.functions v.codes r.codes refl
      ∙ ap (all_taken after (holding with_functions' numbers)) (sym (append-nil (flat_map segment_items v.segments)))
      ∙ each_member (segments_held with_functions' numbers) segment_items IsSegmentOf (λ ss s x h. segment_built with_functions' numbers ss s x h) [] m.segments v.segments [] r.segments
