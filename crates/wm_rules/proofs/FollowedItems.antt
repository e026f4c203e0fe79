-- The builder takes every item that the checker takes.
use Rattle.std.proofs.Common.{◌≡◌, ℕ, ◌+◌, Bool, true, false, cond, List, [], ◌∷◌, ◌++◌, Option, Some, None, Result, Ok, Err, length, refl, sym, ◌∙◌, ap, subst, inl, inr, is_some}
use Rattle.wm_machine.specs.Items.{passive_element, passive_segment}
use Rattle.std.specs.Str.{is_utf8}
use Rattle.wm_syntax.specs.declared.types.ValType.{ValType}
use Rattle.wm_syntax.specs.declared.types.ValType.TheVariants.{I32, I64, F32, F64}
use Rattle.wm_syntax.specs.declared.types.GlobalType.{GlobalType}
use Rattle.wm_syntax.specs.declared.types.Const.{Const}
use Rattle.wm_syntax.specs.declared.types.Const.TheVariants as const
use Rattle.wm_syntax.specs.declared.instructions.Simple.TheVariants.{I32Const, I64Const, F32Const, F64Const, GlobalGet}
use Rattle.wm_syntax.specs.declared.instructions.Op.{Op}
use Rattle.wm_syntax.specs.declared.instructions.Op.TheVariants as op
use Rattle.wm_syntax.specs.declared.why.Why.{Why}
use Rattle.wm_syntax.specs.declared.why.Why.TheVariants as why
use Rattle.wm_syntax.specs.Instructions.{Instructions}
use Rattle.wm_stacks.specs.declared.stack_entries.Frame.{Frame}
use Rattle.wm_syntax.specs.Runs.{same}
use Rattle.wm_syntax.specs.exact.Runs.{add_run}
use Rattle.wm_typing.specs.Bodies.{Body, stats_after, BodyState}
use Rattle.wm_typing.specs.exact.Ops.{step}
use Rattle.wm_typing.specs.exact.Bodies.{body_at_start, context_in, declared_to, declared_more, progress_at, body_after_op, body_from, unless_refused, while_open, with_state}
use Rattle.wm_typing.specs.Probes.{probes_in}
use Rattle.wm_typing.specs.Typing.{function_type}
use Rattle.wm_syntax.specs.declared.modules.ExportKind.TheVariants as kind
use Rattle.wm_syntax.specs.inner.Building.{Place, at, labels, placed}
use Rattle.wm_syntax.specs.inner.Building as places
use Rattle.wm_machine.specs.Items.{Item, new_type, param, result_count, one_result, import_module, import_name, import_desc, function, table, memory, global, const_op, export_name, export, start, element, element_function, data_count, body, locals, body_op, segment, data_byte}
use Rattle.wm_machine.specs.Sinks.{and_then}
use Rattle.wm_machine.proofs.Alike.{IsGiven}
use Rattle.wm_rules.specs.declared.constants.Constant.{Constant}
use Rattle.wm_rules.specs.exact.Constants.{constant_after, first_only, of_type, of_global, visible}
use Rattle.wm_rules.specs.exact.Spaces.{context_of, element_counted, next_type, function_added, global_added, import_added, memory_added, index_check, param_added, plain, result_added, segments_counted, table_added, type_begun}
use Rattle.wm_rules.specs.Holding.{IndexSpaces}
use Rattle.wm_rules.specs.exact.Checking as checking
use Rattle.wm_rules.specs.Holding as holding
use Rattle.wm_rules.specs.exact.Checking.{in_spaces, where_ok, in_names, with_constant, with_body, with_progress, checker_after_op, body_begun}
use Rattle.wm_rules.specs.declared.builder.Purpose.{Purpose}
use Rattle.wm_rules.specs.declared.builder.Purpose.TheVariants as purpose
use Rattle.wm_rules.specs.declared.builder.Pending.{Pending}
use Rattle.wm_rules.specs.exact.Built as building
use Rattle.wm_rules.specs.exact.Built.{Built, Code, name_from, valued, constant_ended, if_it_stands}
use Rattle.wm_rules.proofs.FollowedOps.{SamePlace, follow, kinds_in, first_is}

abbrev pub SameConstant : Option Constant → Option Pending → Type 0
SameConstant None None = Unit {0}
SameConstant (Some k) (Some j) = k.seen ≡ is_some j.value
SameConstant _ _ = ⊥

abbrev pub SameCode : Bool → Body → Option Code → Type 0
SameCode false b None = Unit {0}
SameCode true b (Some c) = (b.declared ≡ c.locals) × SamePlace b.state c.body
SameCode _ b _ = ⊥

pub record Agree (k : Option Constant) (in_body : Bool) (b : Body) (j : Option Pending) (c : Option Code) : Type 0 where
  pub constant : SameConstant k j
  pub code : SameCode in_body b c

abbrev pub Agrees : holding.Held → Built → Type 0
Agrees h b = Agree h.constant h.in_body h.body b.constant b.code

-- the builder takes the item too
abbrev pub Takes : holding.Held → Built → Item → Type 0
Takes h b x = (b' : Built) × (building.after b x ≡ Ok b') × Agrees h b'

-- the checker's expression and body stay
on_spaces : (h h' : holding.Held) (b : Built) (r : Result IndexSpaces Why) → in_spaces h r ≡ Ok h' → Agrees h b → Agrees h' b
on_spaces h h' b (Ok s) e a = let q : record h { spaces = s } ≡ h' = cc (e) in subst (λ z. Agrees z b) q (record { constant = a.constant; code = a.code })
on_spaces h h' b (Err w) e a = absurd (cc (e))

on_same : (h h' : holding.Held) (b : Built) (r : Result (Unit {0}) Why) → where_ok h r ≡ Ok h' → Agrees h b → Agrees h' b
on_same h h' b (Ok u) e a = let q : h ≡ h' = cc (e) in subst (λ z. Agrees z b) q a
on_same h h' b (Err w) e a = absurd (cc (e))

on_names : (h h' : holding.Held) (b : Built) (r : Result (List (List ℕ)) Why) → in_names h r ≡ Ok h' → Agrees h b → Agrees h' b
on_names h h' b (Ok s) e a = let q : record h { names = s } ≡ h' = cc (e) in subst (λ z. Agrees z b) q (record { constant = a.constant; code = a.code })
on_names h h' b (Err w) e a = absurd (cc (e))

named_ok : (text : List ℕ) (f : List ℕ → Built) → is_utf8 text ≡ true → and_then (name_from text) (λ name. Ok (f name)) ≡ Ok (f text)
named_ok text f u = ap (λ t. and_then (cond t (Ok text) (Err why.BadUtf8)) (λ name. Ok (f name))) u

-- constant expressions
typed_is : (t : ValType) (k : Constant) (o : Option Constant) → of_type t k ≡ Ok o → o ≡ Some (record k { seen = true })
typed_is t k o e = go (same t k.expects) e
  where
    go : (b : Bool) → cond b (Ok (Some (record k { seen = true }))) (Err why.Mismatch) ≡ Ok o → o ≡ Some (record k { seen = true })
    go true e = cc (e)
    go false e = absurd (cc (e))

global_is : (g : Option GlobalType) (k : Constant) (o : Option Constant) → of_global g k ≡ Ok o → o ≡ Some (record k { seen = true })
global_is None k o e = absurd (cc)
global_is (Some g) k o e = go g.var e
  where
    go : (b : Bool) → cond b (Err why.NotConst) (of_type g.ty k) ≡ Ok o → o ≡ Some (record k { seen = true })
    go true e = absurd (cc (e))
    go false e = typed_is g.ty k o e

with_constant_ok : (h h' : holding.Held) (r : Result (Option Constant) Why) → with_constant h r ≡ Ok h' → (o : Option Constant) × (r ≡ Ok o) × (record h { constant = o } ≡ h')
with_constant_ok h h' (Ok o) e = (o, refl, cc (e))
with_constant_ok h h' (Err w) e = absurd (cc (e))

given : (h h' : holding.Held) (b : Built) (k : Constant) (j : Pending) (v : Option Const) (c : Const) (r : Result (Option Constant) Why) → v ≡ j.value → k.seen ≡ is_some v
    → ((o : Option Constant) → r ≡ Ok o → o ≡ Some (record k { seen = true })) → SameCode h.in_body h.body b.code
    → with_constant h (first_only k r) ≡ Ok h' → (b' : Built) × (valued c b j v ≡ Ok b') × Agrees h' b'
given h h' b k j (Some d) c r is seen f code e = let z = subst (λ s. with_constant h (cond s (Err why.Arity) r) ≡ Ok h') seen e in absurd (cc (z))
given h h' b k j None c r is seen f code e =
    let z = with_constant_ok h h' r (subst (λ s. with_constant h (cond s (Err why.Arity) r) ≡ Ok h') seen e) in (
      record b { constant = Some (record j { value = Some c }) },
      refl,
      subst (λ y. Agrees y (record b { constant = Some (record j { value = Some c }) })) z.2
          (record { constant = subst (λ y. SameConstant y (Some (record j { value = Some c }))) (sym (f z.0 z.1)) refl; code = code }),
    )

ended_constant : (h h' : holding.Held) (b : Built) (k : Constant) (j : Pending) (v : Option Const) → k.seen ≡ is_some v → SameCode h.in_body h.body b.code
    → with_constant h (cond k.seen (Ok None) (Err why.Arity)) ≡ Ok h' → (b' : Built) × (constant_ended b j v ≡ Ok b') × Agrees h' b'
ended_constant h h' b k j None seen code e = let z = subst (λ s. with_constant h (cond s (Ok None) (Err why.Arity)) ≡ Ok h') seen e in absurd (cc (z))
ended_constant h h' b k j (Some c) seen code e =
    let z = subst (λ s. with_constant h (cond s (Ok None) (Err why.Arity)) ≡ Ok h') seen e in
    let q : record h { constant = None } ≡ h' = cc (z) in
    (record b { value = building.member_added j.purpose c b.value; constant = None }, refl, subst (λ y. Agrees y (record b { value = building.member_added j.purpose c b.value; constant = None })) q (record { constant = tt; code = code }))

in_constant : (h h' : holding.Held) (b : Built) (o : Op) (k : Constant) (j : Pending) → k.seen ≡ is_some j.value → SameCode h.in_body h.body b.code
    → with_constant h (constant_after h.spaces.globals o k) ≡ Ok h' → (b' : Built) × (building.in_constant o b j ≡ Ok b') × Agrees h' b'
in_constant h h' b (op.Simple (I32Const n)) k j seen code e = given h h' b k j j.value (const.I32 n) (of_type I32 k) refl seen (typed_is I32 k) code e
in_constant h h' b (op.Simple (I64Const n)) k j seen code e = given h h' b k j j.value (const.I64 n) (of_type I64 k) refl seen (typed_is I64 k) code e
in_constant h h' b (op.Simple (F32Const n)) k j seen code e = given h h' b k j j.value (const.F32 n) (of_type F32 k) refl seen (typed_is F32 k) code e
in_constant h h' b (op.Simple (F64Const n)) k j seen code e = given h h' b k j j.value (const.F64 n) (of_type F64 k) refl seen (typed_is F64 k) code e
in_constant h h' b (op.Simple (GlobalGet x)) k j seen code e = given h h' b k j j.value (const.Global x) (of_global (visible k.sees h.spaces.globals x) k) refl seen (global_is (visible k.sees h.spaces.globals x) k) code e
in_constant h h' b op.End k j seen code e = ended_constant h h' b k j j.value seen code e
in_constant h h' b _ k j seen code e = absurd (cc (e))

constant_follows : (h h' : holding.Held) (b : Built) (o : Op) (k : Option Constant) (j : Option Pending) → SameConstant k j → SameCode h.in_body h.body b.code
    → checking.in_constant o h k ≡ Ok h' → (b' : Built) × (building.constant_taken o b j ≡ Ok b') × Agrees h' b'
constant_follows h h' b o None j seen code e = absurd (cc (e))
constant_follows h h' b o (Some k) None seen code e = absurd seen
constant_follows h h' b o (Some k) (Some j) seen code e = in_constant h h' b o k j seen code e

-- a constant expression begins
global_follows : (h h' : holding.Held) (b : Built) (g : GlobalType) (r : Result IndexSpaces Why) (n : ℕ) → SameCode h.in_body h.body b.code
    → in_spaces (checking.constant_begun g.ty n h) r ≡ Ok h' → Agrees h' (building.expecting (purpose.Global g) b)
global_follows h h' b g (Ok s) n code e = let q : record (checking.constant_begun g.ty n h) { spaces = s } ≡ h' = cc (e) in
    subst (λ z. Agrees z (building.expecting (purpose.Global g) b)) q (record { constant = refl; code = code })
global_follows h h' b g (Err w) n code e = absurd (cc (e))

offset_follows : (h h' : holding.Held) (b : Built) (p : Purpose) (r : Result (Unit {0}) Why) (n : ℕ) → SameCode h.in_body h.body b.code
    → and_then r (λ u. Ok (checking.constant_begun I32 n h)) ≡ Ok h' → Agrees h' (building.expecting p b)
offset_follows h h' b p (Ok u) n code e = let q : checking.constant_begun I32 n h ≡ h' = cc (e) in subst (λ z. Agrees z (building.expecting p b)) q (record { constant = refl; code = code })
offset_follows h h' b p (Err w) n code e = absurd (cc (e))

-- code entries
body_follows : (h h' : holding.Held) (b : Built) (x : Option ℕ) → SameConstant h.constant b.constant → body_begun h x ≡ Ok h' → Takes h' b body
body_follows h h' b None con e = absurd (cc (e))
body_follows h h' b (Some x) con e =
    let q : record h { spaces = record h.spaces { bodies = h.spaces.bodies + 1 }; body = body_at_start (context_of h.spaces) x; in_body = true } ≡ h' = cc (e) in (
      record b { code = Some (record { locals = []; body = places.start }) },
      refl,
      subst (λ z. Agrees z (record b { code = Some (record { locals = []; body = places.start }) })) q (record { constant = con; code = (refl, (refl, refl)) }),
    )

unrefused : {A : Type 0} (o : Option Why) (r : Result A Why) (a : A) → unless_refused o r ≡ Ok a → r ≡ Ok a
unrefused None r a e = e
unrefused (Some w) r a e = absurd (cc (e))

with_body_ok : (h h' : holding.Held) (r : Result Body Why) → with_body h r ≡ Ok h' → (z : Body) × (r ≡ Ok z) × (record h { body = z } ≡ h')
with_body_ok h h' (Ok z) e = (z, refl, cc (e))
with_body_ok h h' (Err w) e = absurd (cc (e))

declared_ok : (bd : Body) (r : Result (List ValType) Why) (z : Body) → declared_to bd r ≡ Ok z → (ts : List ValType) × (r ≡ Ok ts) × (z.declared ≡ ts) × (z.state ≡ bd.state)
declared_ok bd (Ok ts) z e = let q : record bd { declared = ts; stats = stats_after bd.state.stacks 0 bd.stats } ≡ z = cc (e) in (ts, refl, ap (λ (y : Body). y.declared) (sym q), ap (λ (y : Body). y.state) (sym q))
declared_ok bd (Err w) z e = absurd (cc (e))

locals_follow : (h h' : holding.Held) (b : Built) (n : ℕ) (t : ValType) (i : Bool) (c : Option Code) → SameConstant h.constant b.constant → i ≡ h.in_body → SameCode i h.body c
    → cond i (with_body h (declared_more n t h.body)) (Err why.Index) ≡ Ok h' → (b' : Built) × (building.locals_taken n t b c ≡ Ok b') × Agrees h' b'
locals_follow h h' b n t false c con is code e = absurd (cc (e))
locals_follow h h' b n t true None con is code e = absurd code
locals_follow h h' b n t true (Some c) con is code e =
    let z = with_body_ok h h' (declared_more n t h.body) e in
    let d = declared_ok h.body (add_run n t h.body.declared) z.0 (unrefused h.body.refused (declared_to h.body (add_run n t h.body.declared)) z.0 z.1) in
    let r : add_run n t c.locals ≡ Ok d.0 = ap (add_run n t) (sym code.0) ∙ d.1 in
    let b' = record b { code = Some (record c { locals = d.0 }) } in (
      b',
      ap (λ y. and_then y (λ ts. Ok (record b { code = Some (record c { locals = ts }) }))) r,
      subst (λ y. Agrees y b') z.2 (record { constant = con; code = subst (λ j. SameCode j z.0 (Some (record c { locals = d.0 }))) is (d.2, subst (λ st. SamePlace st c.body) (sym d.3) code.1) }),
    )

stepped_ok : (h h' : holding.Held) (r : Result Body Why) → checker_after_op h r ≡ Ok h' → (z : Body) × (r ≡ Ok z) × (with_progress h z (progress_at z.state.stacks.frames) ≡ h')
stepped_ok h h' (Ok z) e = (z, refl, cc (e))
stepped_ok h h' (Err w) e = absurd (cc (e))

state_ok : (bd : Body) (n : ℕ) (r : Result BodyState Why) (z : Body) → body_from bd n r ≡ Ok z → (s : BodyState) × (r ≡ Ok s) × (with_state bd n s ≡ z)
state_ok bd n (Ok s) z e = (s, refl, cc (e))
state_ok bd n (Err w) z e = absurd (cc (e))

frames_open : (s : BodyState) (q : Place) → SamePlace s q → (f : Frame) × (fs : List Frame) × (s.stacks.frames ≡ f ∷ fs)
frames_open s (at [] t) h = let f = first_is s.stacks _ [] h.1 in (f.0, f.1, f.2)
frames_open s (at (o ∷ outer) t) h = let f = first_is s.stacks _ (kinds_in outer) h.1 in (f.0, f.1, f.2)
frames_open s (labels [] t seen n) h = let f = first_is s.stacks _ [] h.2 in (f.0, f.1, f.2)
frames_open s (labels (o ∷ outer) t seen n) h = let f = first_is s.stacks _ (kinds_in outer) h.2 in (f.0, f.1, f.2)

ended_taken : (b : Built) (c : Code) (x : Op) (t : Instructions) → x ≡ op.End → c.body ≡ at [] t → if_it_stands x b c (placed c.body x) ≡ building.code_ended b c (at [] t)
ended_taken b c x t xe pe = ap (λ y. if_it_stands y b c (placed c.body y)) xe ∙ ap (λ p. if_it_stands op.End b c (placed p op.End)) pe ∙ ap (building.code_ended b c) pe

op_follows : (h h' : holding.Held) (b : Built) (x : Op) (i : Bool) (c : Option Code) → SameConstant h.constant b.constant → i ≡ h.in_body → SameCode i h.body c
    → cond i (checker_after_op h (body_after_op (context_of h.spaces) x h.body)) (Err why.Index) ≡ Ok h' → (b' : Built) × (building.op_taken x b c ≡ Ok b') × Agrees h' b'
op_follows h h' b x false c con is code e = absurd (cc (e))
op_follows h h' b x true None con is code e = absurd code
op_follows h h' b x true (Some c) con is code e =
    let inner = context_in (context_of h.spaces) h.body in
    let probes = probes_in (context_of h.spaces) h.body x in
    let z = stepped_ok h h' (body_after_op (context_of h.spaces) x h.body) e in
    let s = state_ok h.body probes (step inner h.body.state x) z.0 (unrefused h.body.refused (body_from h.body probes (step inner h.body.state x)) z.0 z.1) in
    let fin : with_progress h (with_state h.body probes s.0) (progress_at s.0.stacks.frames) ≡ h' = ap (λ (y : Body). with_progress h y (progress_at y.state.stacks.frames)) s.2 ∙ z.2 in
    elim (follow inner x h.body.state s.0 c.body code.1 s.1) [
      | inl f ↦
          let o = frames_open s.0 f.0 f.2 in
          let b' = record b { code = Some (record c { body = f.0 }) } in
          let held : record h { body = with_state h.body probes s.0 } ≡ h' = ap (λ gs. with_progress h (with_state h.body probes s.0) (progress_at gs)) (sym o.2) ∙ fin in (
            b',
            ap (if_it_stands x b c) f.1,
            subst (λ y. Agrees y b') held
                (record { constant = con; code = subst (λ j. SameCode j (with_state h.body probes s.0) (Some (record c { body = f.0 }))) is (ap (λ gs. while_open gs h.body.declared) o.2 ∙ code.0, f.2) }),
          )
      | inr f ↦
          let b' = record b { value = record b.value { functions = b.value.functions ++ record { type_index = building.next_type b; locals = c.locals; body = f.0 } ∷ [] }; code = None } in
          let held = ap (λ gs. with_progress h (with_state h.body probes s.0) (progress_at gs)) (sym f.3) ∙ fin in
          (b', ended_taken b c x f.0 f.1 f.2, subst (λ y. Agrees y b') held (record { constant = con; code = tt }))
    ]

-- one item
pub follows : (h : holding.Held) (b : Built) (x : Item) (h' : holding.Held) → IsGiven x → Agrees h b → checking.after h x ≡ Ok h' → Takes h' b x
follows h b new_type h' g a e = (_, refl, on_spaces h h' b (type_begun h.spaces) e a)
follows h b (param t) h' g a e = (_, refl, on_spaces h h' b (param_added t h.spaces) e a)
follows h b (result_count n) h' g a e = (_, refl, on_same h h' b (checking.one_at_most n) e a)
follows h b (one_result t) h' g a e = (_, refl, on_spaces h h' b (result_added t h.spaces) e a)
follows h b (import_module text) h' g a e = (record b { module_name = text }, named_ok text (λ name. record b { module_name = name }) g, let q : h ≡ h' = cc (e) in subst (λ y. Agrees y b) q a)
follows h b (import_name text) h' g a e = (record b { item_name = text }, named_ok text (λ name. record b { item_name = name }) g, let q : h ≡ h' = cc (e) in subst (λ y. Agrees y b) q a)
follows h b (import_desc d) h' g a e = (_, refl, on_spaces h h' b (import_added d h.spaces) e a)
follows h b (function x) h' g a e = (_, refl, on_spaces h h' b (function_added x h.spaces) e a)
follows h b (table l) h' g a e = (_, refl, on_spaces h h' b (table_added l h.spaces) e a)
follows h b (memory l) h' g a e = (_, refl, on_spaces h h' b (memory_added l h.spaces) e a)
follows h b (global t) h' g a e = (_, refl, global_follows h h' b t (global_added t h.spaces) h.spaces.imported_globals a.code e)
follows h b (const_op o) h' g a e = constant_follows h h' b o h.constant b.constant a.constant a.code e
follows h b (export_name text) h' g a e = (record b { exported = text }, named_ok text (λ name. record b { exported = name }) g, on_names h h' b (checking.names_with text h.names) e a)
follows h b (export k x) h' g a e = (_, refl, on_same h h' b (index_check k x h.spaces) e a)
follows h b (start x) h' g a e = (_, refl, on_same h h' b (plain (function_type (context_of h.spaces) x)) e a)
follows h b (element x) h' g a e = (_, refl, offset_follows (checking.with_element h) h' b (purpose.Element x) (index_check kind.Table x h.spaces) (length h.spaces.globals) a.code e)
follows h b passive_element h' g a e = (_, refl, on_spaces h h' b (Ok (element_counted h.spaces)) e a)
follows h b (element_function x) h' g a e = (_, refl, on_same h h' b (index_check kind.Func x h.spaces) e a)
follows h b (data_count n) h' g a e = (_, refl, on_spaces h h' b (Ok (segments_counted n h.spaces)) e a)
follows h b body h' g a e = body_follows h h' b (next_type h.spaces) a.constant e
follows h b (locals n t) h' g a e = locals_follow h h' b n t h.in_body b.code a.constant refl a.code e
follows h b (body_op o) h' g a e = op_follows h h' b o h.in_body b.code a.constant refl a.code e
follows h b (segment x) h' g a e = (_, refl, offset_follows h h' b (purpose.Segment x) (index_check kind.Memory x h.spaces) (length h.spaces.globals) a.code e)
follows h b passive_segment h' g a e = (_, refl, let q : h ≡ h' = cc (e) in subst (λ y. Agrees y b) q a)
follows h b (data_byte c) h' g a e = (_, refl, let q : h ≡ h' = cc (e) in subst (λ y. Agrees y b) q a)

pub at_first : Agrees checking.empty_checker building.nothing
at_first = record { constant = tt; code = tt }
