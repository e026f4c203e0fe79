-- The names that may refuse types, constants and code entries, and the meanings of `Index`, `Type`, `Arity` and
-- `NotConst` for them.
use Rattle.std.proofs.Common.{◌≡◌, ◌+◌, ◌^◌, ℕ, List, [], ◌∷◌, ◌++◌, Bool, true, false, cond, Option, Some, None, Result, Ok, Err, replicate, length, slice_get, subst, sym, ◌∙◌, ap, refl}
use Rattle.wm_machine.specs.Items.{passive_element, passive_segment}
use Rattle.std.specs.Prelude.{nat_le, nat_lt, nat_eq}
use Rattle.wm_syntax.specs.declared.types.ValType.{ValType}
use Rattle.wm_syntax.specs.declared.types.ValType.TheVariants.{I32, I64, F32, F64}
use Rattle.wm_syntax.specs.declared.types.GlobalType.{GlobalType}
use Rattle.wm_syntax.specs.declared.why.Why.{Why}
use Rattle.wm_syntax.specs.declared.why.Why.TheVariants as why
use Rattle.wm_syntax.specs.declared.instructions.Op.{Op}
use Rattle.wm_syntax.specs.declared.instructions.Op.TheVariants as op
use Rattle.wm_syntax.specs.declared.instructions.Simple.{Simple}
use Rattle.wm_syntax.specs.declared.instructions.Simple.TheVariants as simple
use Rattle.wm_syntax.specs.Types.{Signature}
use Rattle.wm_syntax.specs.Runs as runs
use Rattle.wm_syntax.specs.exact.Runs.{add_run}
use Rattle.wm_typing.specs.exact.Ops.{step}
use Rattle.wm_typing.specs.Bodies.{BodyState, Body}
use Rattle.wm_typing.specs.exact.Bodies.{context_in, declared_more, declared_to, progress_at, body_after_op, body_from as body_stepped_to, unless_refused}
use Rattle.wm_typing.specs.Probes.{probes_in}
use Rattle.wm_typing.specs.declared.body_checker.Progress.{Progress}
use Rattle.wm_typing.specs.declared.body_checker.Progress.TheVariants.{Inside, Ended}
use Rattle.wm_machine.specs.Items.{Item, new_type, param, result_count, one_result, import_module, import_name, import_desc, function, table, memory, global, const_op, export_name, export, start, element, element_function, data_count, body, locals, body_op, segment, data_byte}
use Rattle.wm_machine.specs.Sinks.{all_taken, and_then}
use Rattle.wm_rules.specs.declared.constants.Constant.{Constant}
use Rattle.wm_rules.specs.exact.Constants.{constant_after, first_only, of_global, of_type, visible}
use Rattle.wm_rules.specs.exact.Spaces.{on_last, one_param_more, one_result_more, with_types, context_of, next_type}
use Rattle.wm_rules.specs.Holding.{IndexSpaces, Held}
use Rattle.wm_rules.specs.exact.Checking.{after, body_begun, empty_checker, in_constant, in_spaces, one_at_most, checker_after_op, where_ok, with_body, with_constant, with_progress}
use Rattle.wm_rules.proofs.OutsideBodies.{IsOutside, part_calm}
use Rattle.wm_rules.proofs.MemberFolds.{ok_then}
use Rattle.wm_rules.specs.Meanings.{CannotBeConstant, HasOtherType, LastHasResult}
use Rattle.wm_syntax.proofs.SameTypes.{reflexive}
use Rattle.wm_rules.proofs.OpNames.{NoSuch, Only, OpSays, OutsideElse, body_says}
use Rattle.std.proofs.lemmas.Bool.{leb-false, ltb-false}
use Rattle.std.proofs.Common.{◌≤◌, ◌<◌}

module _ (P : Why → Type 0) where
  both : {A : Type 0} (b : Bool) (x y : Result A Why) → Only P x → Only P y → Only P (cond b x y)
  both true x y p q = p
  both false x y p q = q

  then_only : {A B : Type 0} (r : Result A Why) (f : A → Result B Why) → Only P r → ((x : A) → Only P (f x)) → Only P (and_then r f)
  then_only (Ok x) f p q = q x
  then_only (Err w) f p q = p

  spaces_only : (h : Held) (r : Result IndexSpaces Why) → Only P r → Only P (in_spaces h r)
  spaces_only h (Ok s) p = tt
  spaces_only h (Err w) p = p

  ok_only : (h : Held) (r : Result (Unit {0}) Why) → Only P r → Only P (where_ok h r)
  ok_only h (Ok u) p = tt
  ok_only h (Err w) p = p

  types_only : (s : IndexSpaces) (r : Result (List Signature) Why) → Only P r → Only P (with_types s r)
  types_only s (Ok ts) p = tt
  types_only s (Err w) p = p

  last_only : {X : Type 0} (f : X → Result X Why) → ((x : X) → Only P (f x)) → (xs : List X) → (xs ≡ [] → P why.Index) → Only P (on_last f xs)
  last_only f h [] i = i refl
  last_only f h (x ∷ []) i = then_only (f x) (λ y. Ok (y ∷ [])) (h x) (λ y. tt)
  last_only f h (x ∷ y ∷ ys) i = then_only (on_last f (y ∷ ys)) (λ zs. Ok (x ∷ zs)) (last_only f h (y ∷ ys) (λ e. absurd (cc))) (λ zs. tt)

  held_only : (h : Held) (r : Result Body Why) → Only P r → Only P (checker_after_op h r)
  held_only h (Ok b) p = tt
  held_only h (Err w) p = p

  body_only : (h : Held) (r : Result Body Why) → Only P r → Only P (with_body h r)
  body_only h (Ok b) p = tt
  body_only h (Err w) p = p

  constant_only : (h : Held) (r : Result (Option Constant) Why) → Only P r → Only P (with_constant h r)
  constant_only h (Ok k) p = tt
  constant_only h (Err w) p = p

-- function types
pub param_names : (h : Held) (t : ValType) → Only (λ w. (w ≡ why.Index) × (h.spaces.types ≡ [])) (after h (param t))
param_names h t =
    let P : Why → Type 0 = λ w. (w ≡ why.Index) × (h.spaces.types ≡ []) in
    spaces_only P h _ (types_only P h.spaces _ (last_only P (one_param_more t) (λ f. tt) h.spaces.types (λ e. (refl, e))))

pub count_name : (h : Held) (n : ℕ) → Only (λ w. (w ≡ why.Arity) × (1 < n)) (after h (result_count n))
count_name h n = ok_only (λ w. (w ≡ why.Arity) × (1 < n)) h (one_at_most n) (go (nat_le n 1) refl)
  where
    go : (b : Bool) → nat_le n 1 ≡ b → Only (λ w. (w ≡ why.Arity) × (1 < n)) (cond {A = Result (Unit {0}) Why} b (Ok tt) (Err why.Arity))
    go true e = tt
    go false e = (refl, leb-false n 1 e)

abbrev pub TypeSays : List Signature → Why → Type 0
TypeSays types why.Index = types ≡ []
TypeSays types why.Arity = LastHasResult types
TypeSays types w = ⊥

more_says : (f g : Signature) (fs : List Signature) (w : Why) → TypeSays (g ∷ fs) w → TypeSays (f ∷ g ∷ fs) w
more_says f g fs why.Index i = absurd (cc)
more_says f g fs why.Arity i = i
more_says f g fs w i = absurd i

result_last : (t : ValType) (types : List Signature) → Only (TypeSays types) (on_last (one_result_more t) types)
result_last t [] = refl
result_last t (f ∷ []) = go (nat_eq (length f.results) 0) refl
  where
    has_one : nat_eq (length f.results) 0 ≡ false → f.results ≡ [] → ⊥
    has_one e i = let d : nat_eq (length {A = ValType} []) 0 ≡ false = subst (λ (rs : List ValType). nat_eq (length rs) 0 ≡ false) i e in cc (d)

    go : (b : Bool) → nat_eq (length f.results) 0 ≡ b
        → Only (TypeSays (f ∷ [])) (and_then {A = Signature} (cond b (Ok (record f { results = f.results ++ t ∷ [] })) (Err why.Arity)) (λ y. Ok (y ∷ [])))
    go true e = tt
    go false e = has_one e
result_last t (f ∷ g ∷ fs) = go (on_last (one_result_more t) (g ∷ fs)) (result_last t (g ∷ fs))
  where
    go : (r : Result (List Signature) Why) → Only (TypeSays (g ∷ fs)) r → Only (TypeSays (f ∷ g ∷ fs)) (and_then r (λ zs. Ok (f ∷ zs)))
    go (Ok zs) p = tt
    go (Err w) p = more_says f g fs w p

pub result_names : (h : Held) (t : ValType) → Only (TypeSays h.spaces.types) (after h (one_result t))
result_names h t = spaces_only (TypeSays h.spaces.types) h _ (types_only (TypeSays h.spaces.types) h.spaces _ (result_last t h.spaces.types))

-- constants: a global that may not be named
abbrev pub IsHidden : List GlobalType → ℕ → Op → Type 0
IsHidden globals sees (op.Simple (simple.GlobalGet x)) = visible sees globals x ≡ None
IsHidden globals sees o = ⊥

-- an end comes first, or another op not first
abbrev pub CountsWrong : Bool → Op → Type 0
CountsWrong seen op.End = seen ≡ false
CountsWrong seen o = seen ≡ true

differ : (t u : ValType) → runs.same t u ≡ false → u ≡ t → ⊥
differ t u e i = let d : true ≡ false = sym (reflexive u) ∙ (ap (λ z. runs.same z u) i ∙ e) in cc (d)

abbrev pub OfConstant : List GlobalType → Constant → Op → Why → Type 0
OfConstant globals k o why.NotConst = CannotBeConstant globals o
OfConstant globals k o why.Index = IsHidden globals k.sees o
OfConstant globals k o why.Mismatch = (k.seen ≡ false) × HasOtherType k.expects globals o
OfConstant globals k o why.Arity = CountsWrong k.seen o
OfConstant globals k o w = ⊥

abbrev pub ConstantSays : List GlobalType → Option Constant → Op → Why → Type 0
ConstantSays globals None o w = w ≡ why.Index
ConstantSays globals (Some k) o w = OfConstant globals k o w

module _ (globals : List GlobalType) (k : Constant) where
  abbrev Said : Op → Result (Option Constant) Why → Type 0
  Said o r = Only (OfConstant globals k o) r

  type_says : (o : Op) (t : ValType) → k.seen ≡ false → ((k.expects ≡ t → ⊥) → HasOtherType k.expects globals o) → Said o (of_type t k)
  type_says o t first other = go (runs.same t k.expects) refl
    where
      go : (b : Bool) → runs.same t k.expects ≡ b → Said o (cond b (Ok (Some (record k { seen = true }))) (Err why.Mismatch))
      go true e = tt
      go false e = (first, other (differ t k.expects e))

  first_says : (o : Op) (r : Result (Option Constant) Why) → (k.seen ≡ true → CountsWrong k.seen o) → (k.seen ≡ false → Said o r) → Said o (first_only k r)
  first_says o r many p = go k.seen refl
    where
      go : (b : Bool) → k.seen ≡ b → Said o (cond b (Err why.Arity) r)
      go true e = many e
      go false e = p e

  seen_global : (b : Bool) (o : Option GlobalType) (g : GlobalType) → cond b o None ≡ Some g → o ≡ Some g
  seen_global true o g e = e
  seen_global false o g e = absurd (cc)

  varies : (x : ℕ) (g : GlobalType) (b : Bool) → k.seen ≡ false → g.var ≡ b → slice_get globals x ≡ Some g → Said (op.Simple (simple.GlobalGet x)) (cond b (Err why.NotConst) (of_type g.ty k))
  varies x g true f v e = (g, e, v)
  varies x g false f v e = type_says (op.Simple (simple.GlobalGet x)) g.ty f (λ d. (g, e, d))

  global_says : (x : ℕ) (g : Option GlobalType) → k.seen ≡ false → visible k.sees globals x ≡ g → Said (op.Simple (simple.GlobalGet x)) (of_global g k)
  global_says x None f e = e
  global_says x (Some g) f e = varies x g g.var f refl (seen_global (nat_lt x k.sees) (slice_get globals x) g e)

  simple_says : (p : Simple) → Said (op.Simple p) (constant_after globals (op.Simple p) k)
  simple_says (simple.I32Const n) = first_says (op.Simple (simple.I32Const n)) (of_type I32 k) (λ e. e) (λ f. type_says (op.Simple (simple.I32Const n)) I32 f (λ d. d))
  simple_says (simple.I64Const n) = first_says (op.Simple (simple.I64Const n)) (of_type I64 k) (λ e. e) (λ f. type_says (op.Simple (simple.I64Const n)) I64 f (λ d. d))
  simple_says (simple.F32Const n) = first_says (op.Simple (simple.F32Const n)) (of_type F32 k) (λ e. e) (λ f. type_says (op.Simple (simple.F32Const n)) F32 f (λ d. d))
  simple_says (simple.F64Const n) = first_says (op.Simple (simple.F64Const n)) (of_type F64 k) (λ e. e) (λ f. type_says (op.Simple (simple.F64Const n)) F64 f (λ d. d))
  simple_says (simple.GlobalGet x) = first_says (op.Simple (simple.GlobalGet x)) (of_global (visible k.sees globals x) k) (λ e. e) (λ f. global_says x (visible k.sees globals x) f refl)
  simple_says _ = tt

  end_says : (b : Bool) → k.seen ≡ b → Said op.End (cond b (Ok None) (Err why.Arity))
  end_says true e = tt
  end_says false e = e

  constant_says : (o : Op) → Said o (constant_after globals o k)
  constant_says (op.Simple p) = simple_says p
  constant_says op.End = end_says k.seen refl
  constant_says _ = tt

in_constant_says : (o : Op) (h : Held) (c : Option Constant) → Only (ConstantSays h.spaces.globals c o) (in_constant o h c)
in_constant_says o h None = refl
in_constant_says o h (Some k) = constant_only (OfConstant h.spaces.globals k o) h (constant_after h.spaces.globals o k) (constant_says h.spaces.globals k o)

pub constant_names : (h : Held) (o : Op) → Only (ConstantSays h.spaces.globals h.constant o) (after h (const_op o))
constant_names h o = in_constant_says o h h.constant

-- code entries, whose body was not refused
abbrev IsUnrefused : Held → Type 0
IsUnrefused h = h.body.refused ≡ None

begun_only : (h : Held) (x : Option ℕ) → Only (λ w. (w ≡ why.Index) × (x ≡ None)) (body_begun h x)
begun_only h None = (refl, refl)
begun_only h (Some x) = tt

pub entry_name : (h : Held) → Only (λ w. (w ≡ why.Index) × (next_type h.spaces ≡ None)) (after h body)
entry_name h = begun_only h (next_type h.spaces)

abbrev pub LocalsSay : Bool → Body → ℕ → Why → Type 0
LocalsSay inside b n why.Index = inside ≡ false
LocalsSay inside b n why.TooManyLocals = 2 ^ 32 ≤ length b.declared + n
LocalsSay inside b n w = ⊥

declared_only : (inside : Bool) (n : ℕ) (t : ValType) (b : Body) → b.refused ≡ None → Only (LocalsSay inside b n) (declared_more n t b)
declared_only inside n t b e = subst (λ w. Only (LocalsSay inside b n) (unless_refused w (declared_to b (add_run n t b.declared)))) (sym e) (go (nat_lt (length b.declared + n) (2 ^ 32)) refl)
  where
    go : (c : Bool) → nat_lt (length b.declared + n) (2 ^ 32) ≡ c → Only (LocalsSay inside b n) (declared_to b (cond c (Ok (b.declared ++ replicate n t)) (Err why.TooManyLocals)))
    go true i = tt
    go false i = ltb-false (length b.declared + n) (2 ^ 32) i

locals_only : (h : Held) (n : ℕ) (t : ValType) → IsUnrefused h → Only (LocalsSay h.in_body h.body n) (after h (locals n t))
locals_only h n t e = go h.in_body refl
  where
    go : (b : Bool) → h.in_body ≡ b → Only (LocalsSay h.in_body h.body n) (cond b (with_body h (declared_more n t h.body)) (Err why.Index))
    go true i = body_only (LocalsSay h.in_body h.body n) h (declared_more n t h.body) (declared_only h.in_body n t h.body e)
    go false i = i

-- the body at hand has not ended, the op may stand there, and names nothing
abbrev pub NoneThere : Held → Op → Type 0
NoneThere h o = h.in_body ≡ true → NoSuch (context_in (context_of h.spaces) h.body) h.body.state.table h.body.state.stacks.frames o

abbrev pub OpOf : Held → Op → Why → Type 0
OpOf h o w = OpSays (OutsideElse h.body.state.table h.body.state.stacks.frames) (NoneThere h o) h.spaces.globals o w

op_only : (h : Held) (o : Op) → IsUnrefused h → Only (OpOf h o) (after h (body_op o))
op_only h o e = go h.in_body refl
  where
    go : (b : Bool) → h.in_body ≡ b → Only (OpOf h o) (cond b (checker_after_op h (body_after_op (context_of h.spaces) o h.body)) (Err why.Index))
    go true i = held_only (OpOf h o) h (body_after_op (context_of h.spaces) o h.body) (body_says (NoneThere h o) (context_of h.spaces) o h.body e (λ n t. n))
    go false i = λ t. absurd (let d : true ≡ false = sym t ∙ i in cc (d))

-- an item that is taken leaves a body that was not refused
unless_kept : {A : Type 0} (w : Option Why) (r : Result A Why) (y : A) → w ≡ None → unless_refused w r ≡ Ok y → r ≡ Ok y
unless_kept None r y e h = h
unless_kept (Some w) r y e h = absurd (cc)

ok_is : {A : Type 0} (x y : A) → ◌≡◌ {A = Result A Why} (Ok x) (Ok y) → x ≡ y
ok_is x y e = cc

abbrev IsOpen : Body → Type 0
IsOpen b = b.refused ≡ None

declared_kept : (b d : Body) (r : Result (List ValType) Why) → IsOpen b → declared_to b r ≡ Ok d → IsOpen d
declared_kept b d (Ok ts) n e = subst IsOpen (ok_is _ d e) n
declared_kept b d (Err w) n e = absurd (cc)

step_kept : (b d : Body) (probes : ℕ) (r : Result BodyState Why) → IsOpen b → body_stepped_to b probes r ≡ Ok d → IsOpen d
step_kept b d probes (Ok s) n e = subst IsOpen (ok_is _ d e) n
step_kept b d probes (Err w) n e = absurd (cc)

progress_kept : (h : Held) (b : Body) (p : Progress) → IsOpen b → IsUnrefused (with_progress h b p)
progress_kept h b Inside n = n
progress_kept h b Ended n = n

op_kept : (h g : Held) (c : Bool) (r : Result Body Why) → ((b : Body) → r ≡ Ok b → IsOpen b) → cond c (checker_after_op h r) (Err why.Index) ≡ Ok g → IsUnrefused g
op_kept h g true (Ok b) k e = subst IsUnrefused (ok_is _ g e) (progress_kept h b (progress_at b.state.stacks.frames) (k b refl))
op_kept h g true (Err w) k e = absurd (cc)
op_kept h g false r k e = absurd (cc)

locals_kept : (h g : Held) (c : Bool) (r : Result Body Why) → ((b : Body) → r ≡ Ok b → IsOpen b) → cond c (with_body h r) (Err why.Index) ≡ Ok g → IsUnrefused g
locals_kept h g true (Ok b) k e = subst IsUnrefused (ok_is _ g e) (k b refl)
locals_kept h g true (Err w) k e = absurd (cc)
locals_kept h g false r k e = absurd (cc)

begun_kept : (h g : Held) (x : Option ℕ) → body_begun h x ≡ Ok g → IsUnrefused g
begun_kept h g None e = absurd (cc)
begun_kept h g (Some x) e = subst IsUnrefused (ok_is _ g e) refl

part_kept : (h g : Held) (x : Item) → after h x ≡ Ok g → IsUnrefused h → IsUnrefused g
part_kept h g x e n = go x e
  where
    outside : (y : Item) → IsOutside y → after h y ≡ Ok g → IsUnrefused g
    outside y i t = let c = part_calm h g y i t in ap (λ (b : Body). b.refused) c.body ∙ n

    go : (y : Item) → after h y ≡ Ok g → IsUnrefused g
    go body t = begun_kept h g (next_type h.spaces) t
    go (locals k v) t =
        locals_kept h g h.in_body (declared_more k v h.body)
        (λ b e. declared_kept h.body b (add_run k v h.body.declared) n (unless_kept h.body.refused _ b n e)) t
    go (body_op o) t =
        let c = context_of h.spaces in
        op_kept h g h.in_body (body_after_op c o h.body)
        (λ b e. step_kept h.body b (probes_in c h.body o) (step (context_in c h.body) h.body.state o) n (unless_kept h.body.refused _ b n e)) t
    go new_type t = outside new_type tt t
    go (param v) t = outside (param v) tt t
    go (result_count k) t = outside (result_count k) tt t
    go (one_result v) t = outside (one_result v) tt t
    go (import_module name) t = outside (import_module name) tt t
    go (import_name name) t = outside (import_name name) tt t
    go (import_desc d) t = outside (import_desc d) tt t
    go (function y) t = outside (function y) tt t
    go (table l) t = outside (table l) tt t
    go (memory l) t = outside (memory l) tt t
    go (global v) t = outside (global v) tt t
    go (const_op o) t = outside (const_op o) tt t
    go (export_name name) t = outside (export_name name) tt t
    go (export k y) t = outside (export k y) tt t
    go (start y) t = outside (start y) tt t
    go (element y) t = outside (element y) tt t
    go passive_element t = outside passive_element tt t
    go (element_function y) t = outside (element_function y) tt t
    go (data_count y) t = outside (data_count y) tt t
    go (segment y) t = outside (segment y) tt t
    go passive_segment t = outside passive_segment tt t
    go (data_byte y) t = outside (data_byte y) tt t

all_kept : (items : List Item) (h g : Held) → all_taken after h items ≡ Ok g → IsUnrefused h → IsUnrefused g
all_kept [] h g e n = subst IsUnrefused (ok_is h g e) n
all_kept (x ∷ items) h g e n =
    let s = ok_then (after h x) (λ k. all_taken after k items) g e in
    all_kept items s.0 g s.2 (part_kept h s.0 x s.1 n)

-- whatever items it has taken
pub locals_names : (items : List Item) (h : Held) (n : ℕ) (t : ValType) → all_taken after empty_checker items ≡ Ok h → Only (LocalsSay h.in_body h.body n) (after h (locals n t))
locals_names items h n t e = locals_only h n t (all_kept items empty_checker h e refl)

pub op_names : (items : List Item) (h : Held) (o : Op) → all_taken after empty_checker items ≡ Ok h → Only (OpOf h o) (after h (body_op o))
op_names items h o e = op_only h o (all_kept items empty_checker h e refl)
