-- The checker's answers to the items of a global, an element segment and a data segment.
use Rattle.std.proofs.Common.{ℕ, zero, suc, ◌+◌, ◌≡◌, ◌<◌, ◌≤◌, List, [], ◌∷◌, ◌++◌, Option, Some, None, Bool, true, false, cond, Result, Ok, Err, length, take, refl, sym, ◌∙◌, ap, subst, append-nil, arith, map, nat_lt, slice_get}
use Rattle.std.specs.List.{AllByRecursion}
use Rattle.std.proofs.lemmas.Bool.{lt-ltb, ltb-true}
use Rattle.std.proofs.lemmas.Bool.Decides.{nat_tests}
use Rattle.wm_syntax.specs.declared.types.ValType.{ValType}
use Rattle.wm_syntax.specs.declared.types.ValType.TheVariants.{I32, I64, F32, F64}
use Rattle.wm_syntax.specs.declared.types.GlobalType.{GlobalType}
use Rattle.wm_syntax.specs.declared.types.Const.{Const}
use Rattle.wm_syntax.specs.declared.types.Const.TheVariants as const
use Rattle.wm_syntax.specs.declared.instructions.Simple.{Simple}
use Rattle.wm_syntax.specs.declared.instructions.Simple.TheVariants.{I32Const, I64Const, F32Const, F64Const, GlobalGet}
use Rattle.wm_syntax.specs.declared.instructions.Op.{Op}
use Rattle.wm_syntax.specs.declared.instructions.Op.TheVariants as op
use Rattle.wm_syntax.specs.declared.why.Why.{Why}
use Rattle.wm_syntax.specs.declared.why.Why.TheVariants as why
use Rattle.wm_syntax.specs.Modules.{constant}
use Rattle.wm_syntax.specs.Runs.{same}
use Rattle.wm_syntax.proofs.SameTypes.{means, reflexive}
use Rattle.wm_machine.specs.Grammar.{IsExpression}
use Rattle.wm_syntax.specs.Instructions.{openings, endings}
use Rattle.wm_machine.specs.Items.{Item, const_op, element_function, data_byte}
use Rattle.wm_machine.specs.Sinks.{and_then, all_taken}
use Rattle.wm_rules.specs.declared.constants.Constant.{Constant}
use Rattle.wm_rules.specs.Validation.{TypedConst}
use Rattle.wm_rules.specs.exact.Spaces.{one_if}
use Rattle.wm_rules.specs.exact.Constants.{constant_after, constant_expecting, of_global, of_type, visible}
use Rattle.wm_rules.specs.exact.Checking.{after, constant_begun, where_ok, with_constant, with_element}
use Rattle.wm_rules.specs.Holding.{Held}
use Rattle.wm_machine.specs.Flat.{FlatGlobal, FlatElement, FlatSegment, constant_ops, global_items, element_head, element_items, segment_head, segment_items}
use Rattle.wm_rules.proofs.GoodValues.{IsGoodMode, IsOffset, IsTypedConst}
use Rattle.wm_rules.proofs.MemberFolds.{cond_ok, Member}

-- the globals that may be named are the first ones
pub visible_take : (n : ℕ) (globals : List GlobalType) (x : ℕ) → visible n globals x ≡ slice_get (take n globals) x
visible_take zero globals x = rw (not_below x) refl
  where
    not_below : (x : ℕ) → nat_lt x 0 ≡ false
    not_below x = grind (arith, nat_tests)
visible_take (suc n) [] x = go (nat_lt x (suc n))
  where
    go : (b : Bool) → cond b (slice_get {X = GlobalType} [] x) None ≡ None
    go true = refl
    go false = refl
visible_take (suc n) (g ∷ globals) zero = rw (first n) refl
  where
    first : (n : ℕ) → nat_lt 0 (suc n) ≡ true
    first n = grind (arith, nat_tests)
visible_take (suc n) (g ∷ globals) (suc x) = rw (below n x) (visible_take n globals x)
  where
    below : (n x : ℕ) → nat_lt (suc x) (suc n) ≡ nat_lt x n
    below n x = grind (arith, nat_tests)

abbrev pub with_const : Held → Option Constant → Held
with_const h k = record h { constant = k }

abbrev seen_of : ValType → ℕ → Constant
seen_of t n = record { expects = t; sees = n; seen = true }

type_takes : (t u : ValType) (n : ℕ) → t ≡ u → of_type t (constant_expecting u n) ≡ Ok (Some (seen_of u n))
type_takes t u n e = ap (λ b. cond b (Ok (Some (seen_of u n))) (Err why.Mismatch)) (ap (λ z. same z u) e ∙ reflexive u)

-- the instruction of a constant that has the type
first_takes : (c : Const) (globals : List GlobalType) (t : ValType) (n : ℕ) → TypedConst (take n globals) c t
    → constant_after globals (op.Simple (constant c)) (constant_expecting t n) ≡ Ok (Some (seen_of t n))
first_takes (const.I32 k) globals t n e = type_takes I32 t n (sym e)
first_takes (const.I64 k) globals t n e = type_takes I64 t n (sym e)
first_takes (const.F32 k) globals t n e = type_takes F32 t n (sym e)
first_takes (const.F64 k) globals t n e = type_takes F64 t n (sym e)
first_takes (const.Global x) globals t n e =
    ap (λ o. of_global o (constant_expecting t n)) (visible_take n globals x ∙ e) ∙ type_takes t t n refl

pub const_takes : (c : Const) (h : Held) (t : ValType) (n : ℕ) (rest : List Item) → TypedConst (take n h.spaces.globals) c t
    → all_taken after (with_const h (Some (constant_expecting t n))) (map const_op (constant_ops c) ++ rest) ≡ all_taken after (with_const h None) rest
const_takes c h t n rest e =
    ap (λ r. and_then (with_constant (with_const h (Some (constant_expecting t n))) r) (λ g. all_taken after g (const_op op.End ∷ rest))) (first_takes c h.spaces.globals t n e)

type_back : (t u : ValType) (n : ℕ) (k : Option Constant) → of_type t (constant_expecting u n) ≡ Ok k → (t ≡ u) × (k ≡ Some (seen_of u n))
type_back t u n k e = let c = cond_ok (same t u) (Some (seen_of u n)) k why.Mismatch e in (means t u c.0, sym c.1)

global_back : (o : Option GlobalType) (t : ValType) (n : ℕ) (k : Option Constant) → of_global o (constant_expecting t n) ≡ Ok k → (o ≡ Some (record { ty = t; var = false })) × (k ≡ Some (seen_of t n))
global_back None t n k e = absurd (cc)
global_back (Some g) t n k e = by_var g.var g.ty refl e
  where
    by_var : (b : Bool) (ty : ValType) → g ≡ record { ty = ty; var = b } → cond b (Err why.NotConst) (of_type ty (constant_expecting t n)) ≡ Ok k
        → (Some g ≡ Some (record { ty = t; var = false })) × (k ≡ Some (seen_of t n))
    by_var true ty s e = absurd (cc)
    by_var false ty s e = let q = type_back ty t n k e in (ap Some s ∙ ap (λ z. Some (record { ty = z; var = false })) q.0, q.1)

-- an op that is taken first is a constant's
pub record First (o : Op) (globals : List GlobalType) (t : ValType) (n : ℕ) (k : Option Constant) : Type 0 where
  pub c : Const
  pub is : o ≡ op.Simple (constant c)
  pub typed : TypedConst (take n globals) c t
  pub next : k ≡ Some (seen_of t n)

simple_back : (i : Simple) (globals : List GlobalType) (t : ValType) (n : ℕ) (k : Option Constant) → constant_after globals (op.Simple i) (constant_expecting t n) ≡ Ok k → First (op.Simple i) globals t n k
simple_back (I32Const m) globals t n k e = let q = type_back I32 t n k e in record { c = const.I32 m; is = refl; typed = sym q.0; next = q.1 }
simple_back (I64Const m) globals t n k e = let q = type_back I64 t n k e in record { c = const.I64 m; is = refl; typed = sym q.0; next = q.1 }
simple_back (F32Const m) globals t n k e = let q = type_back F32 t n k e in record { c = const.F32 m; is = refl; typed = sym q.0; next = q.1 }
simple_back (F64Const m) globals t n k e = let q = type_back F64 t n k e in record { c = const.F64 m; is = refl; typed = sym q.0; next = q.1 }
simple_back (GlobalGet x) globals t n k e =
    let q = global_back (visible n globals x) t n k e in
    record { c = const.Global x; is = refl; typed = sym (visible_take n globals x) ∙ q.0; next = q.1 }
simple_back _ globals t n k e = absurd (cc)

first_back : (o : Op) (globals : List GlobalType) (t : ValType) (n : ℕ) (k : Option Constant) → constant_after globals o (constant_expecting t n) ≡ Ok k → First o globals t n k
first_back (op.Simple i) globals t n k e = simple_back i globals t n k e
first_back op.End globals t n k e = absurd (cc)
first_back _ globals t n k e = absurd (cc)

second_simple : (i : Simple) (globals : List GlobalType) (t : ValType) (n : ℕ) (k : Option Constant) → constant_after globals (op.Simple i) (seen_of t n) ≡ Ok k → (op.Simple i ≡ op.End) × (k ≡ None)
second_simple (I32Const m) globals t n k e = absurd (cc)
second_simple (I64Const m) globals t n k e = absurd (cc)
second_simple (F32Const m) globals t n k e = absurd (cc)
second_simple (F64Const m) globals t n k e = absurd (cc)
second_simple (GlobalGet x) globals t n k e = absurd (cc)
second_simple _ globals t n k e = absurd (cc)

second_back : (o : Op) (globals : List GlobalType) (t : ValType) (n : ℕ) (k : Option Constant) → constant_after globals o (seen_of t n) ≡ Ok k → (o ≡ op.End) × (k ≡ None)
second_back (op.Simple i) globals t n k e = second_simple i globals t n k e
second_back op.End globals t n k e = (refl, cc)
second_back _ globals t n k e = absurd (cc)

abbrev step_on : Held → Result (Option Constant) Why → List Item → Result Held Why
step_on h r items = and_then (with_constant h r) (λ g. all_taken after g items)

constant_step : (h g : Held) (r : Result (Option Constant) Why) (items : List Item) → step_on h r items ≡ Ok g → (k : Option Constant) × (r ≡ Ok k) × (all_taken after (with_const h k) items ≡ Ok g)
constant_step h g (Ok k) items e = (k, refl, e)
constant_step h g (Err w) items e = absurd (cc)

none_left : (ops : List Op) (h g : Held) (rest : List Item) → all_taken after (with_const h None) (map const_op ops ++ rest) ≡ Ok g → ops ≡ []
none_left [] h g rest e = refl
none_left (o ∷ ops) h g rest e = absurd (cc)

one_op : (o : Op) (c : Const) → o ≡ op.Simple (constant c) → endings (o ∷ []) ≡ openings (o ∷ []) + 1 → ⊥
one_op o c s e = go c (subst (λ q. endings (q ∷ []) ≡ openings (q ∷ []) + 1) s e)
  where
    go : (c : Const) → endings (op.Simple (constant c) ∷ []) ≡ openings (op.Simple (constant c) ∷ []) + 1 → ⊥
    go (const.I32 n) z = absurd (omega (arith, z))
    go (const.I64 n) z = absurd (omega (arith, z))
    go (const.F32 n) z = absurd (omega (arith, z))
    go (const.F64 n) z = absurd (omega (arith, z))
    go (const.Global x) z = absurd (omega (arith, z))

pub const_sound : (ops : List Op) (rest : List Item) (t : ValType) (n : ℕ) (h g : Held) → IsExpression ops
    → all_taken after (with_const h (Some (constant_expecting t n))) (map const_op ops ++ rest) ≡ Ok g → IsTypedConst (take n h.spaces.globals) ops t
const_sound [] rest t n h g i e = let z : 0 ≡ 0 + 1 = i.closed in absurd (omega (arith, z))
const_sound (o ∷ []) rest t n h g i e =
    let a = constant_step (with_const h (Some (constant_expecting t n))) g (constant_after h.spaces.globals o (constant_expecting t n)) rest e in
    let b = first_back o h.spaces.globals t n a.0 a.1 in
    absurd (one_op o b.c b.is i.closed)
const_sound (o ∷ p ∷ ops) rest t n h g i e =
    let a = constant_step (with_const h (Some (constant_expecting t n))) g (constant_after h.spaces.globals o (constant_expecting t n)) (const_op p ∷ map const_op ops ++ rest) e in
    let b = first_back o h.spaces.globals t n a.0 a.1 in
    let d = constant_step (with_const h (Some (seen_of t n))) g (constant_after h.spaces.globals p (seen_of t n)) (map const_op ops ++ rest)
    (subst (λ k. all_taken after (with_const h k) (const_op p ∷ map const_op ops ++ rest) ≡ Ok g) b.next a.2) in
    let q = second_back p h.spaces.globals t n d.0 d.1 in
    let last : ops ≡ [] = none_left ops h g rest (subst (λ k. all_taken after (with_const h k) (map const_op ops ++ rest) ≡ Ok g) q.1 d.2) in
    (b.c, cc (b.is, q.0, last), b.typed)

-- what is held of a constant at hand, after some ops of it that do not end it
pub record AfterOps (ops : List Op) (t : ValType) (n : ℕ) (g : Held) : Type 0 where
  pub k : Constant
  pub held : g.constant ≡ Some k
  pub expects : k.expects ≡ t
  pub sees : k.sees ≡ n
  pub none : k.seen ≡ false → ops ≡ []
  pub some : k.seen ≡ true → ops ≡ [] → ⊥

two_ops : (o p : Op) (c : Const) → o ≡ op.Simple (constant c) → p ≡ op.End → endings (o ∷ p ∷ []) ≤ openings (o ∷ p ∷ []) → ⊥
two_ops o p c s q l = go c (subst (λ z. endings (z ∷ op.End ∷ []) ≤ openings (z ∷ op.End ∷ [])) s (subst (λ z. endings (o ∷ z ∷ []) ≤ openings (o ∷ z ∷ [])) q l))
  where
    go : (c : Const) → endings (op.Simple (constant c) ∷ op.End ∷ []) ≤ openings (op.Simple (constant c) ∷ op.End ∷ []) → ⊥
    go (const.I32 n) z = omega (arith, z)
    go (const.I64 n) z = omega (arith, z)
    go (const.F32 n) z = omega (arith, z)
    go (const.F64 n) z = omega (arith, z)
    go (const.Global x) z = omega (arith, z)

last_held : (h g : Held) (k : Option Constant) → all_taken after (with_const h k) [] ≡ Ok g → g.constant ≡ k
last_held h g k e = let is : with_const h k ≡ g = cc in sym (ap (λ (z : Held). z.constant) is)

pub const_front : (ops : List Op) (t : ValType) (n : ℕ) (h g : Held) → endings ops ≤ openings ops
    → all_taken after (with_const h (Some (constant_expecting t n))) (map const_op ops) ≡ Ok g → AfterOps ops t n g
const_front [] t n h g l e = record { k = constant_expecting t n; held = last_held h g (Some (constant_expecting t n)) e; expects = refl; sees = refl; none = λ i. refl; some = λ i. absurd (cc) }
const_front (o ∷ []) t n h g l e =
    let a = constant_step (with_const h (Some (constant_expecting t n))) g (constant_after h.spaces.globals o (constant_expecting t n)) [] e in
    let b = first_back o h.spaces.globals t n a.0 a.1 in
    record { k = seen_of t n; held = last_held h g a.0 a.2 ∙ b.next; expects = refl; sees = refl; none = λ i. absurd (cc); some = λ i j. cc }
const_front (o ∷ p ∷ ops) t n h g l e =
    let a = constant_step (with_const h (Some (constant_expecting t n))) g (constant_after h.spaces.globals o (constant_expecting t n)) (const_op p ∷ map const_op ops) e in
    let b = first_back o h.spaces.globals t n a.0 a.1 in
    let d = constant_step (with_const h (Some (seen_of t n))) g (constant_after h.spaces.globals p (seen_of t n)) (map const_op ops)
    (subst (λ k. all_taken after (with_const h k) (const_op p ∷ map const_op ops) ≡ Ok g) b.next a.2) in
    let q = second_back p h.spaces.globals t n d.0 d.1 in
    let last : ops ≡ [] = none_left ops h g [] (subst (λ z. all_taken after (with_const h None) z ≡ Ok g) (sym (append-nil (map const_op ops))) (subst (λ k. all_taken after (with_const h k) (map const_op ops) ≡ Ok g) q.1 d.2)) in
    absurd (two_ops o p b.c b.is q.0 (subst (λ z. endings (o ∷ p ∷ z) ≤ openings (o ∷ p ∷ z)) last l))

-- globals: an initialiser names imported ones alone
abbrev pub put_global : Held → FlatGlobal → Held
put_global h g = record h { spaces = record h.spaces { globals = h.spaces.globals ++ g.ty ∷ [] }; constant = None }

abbrev pub GoodGlobal : Held → FlatGlobal → Type 0
GoodGlobal h g = IsTypedConst (take h.spaces.imported_globals (h.spaces.globals ++ g.ty ∷ [])) g.init g.ty.ty

abbrev pub Expresses : {X : Type 0} → (X → List Op) → Held → X → Type 0
Expresses ops h x = IsExpression (ops x)

abbrev begun_global : Held → FlatGlobal → Held
begun_global h g = record h { spaces = record h.spaces { globals = h.spaces.globals ++ g.ty ∷ [] } }

pub global_member : Member after global_items (Expresses (λ g. g.init)) GoodGlobal put_global
global_member = record {
  takes = λ h g i good.
      ap (λ z. all_taken after (with_const (begun_global h g) (Some (constant_expecting g.ty.ty h.spaces.imported_globals))) z) (ap (λ z. map const_op z) good.1 ∙ sym (append-nil (map const_op (constant_ops good.0))))
      ∙ const_takes good.0 (begun_global h g) g.ty.ty h.spaces.imported_globals [] good.2;
  sound = λ h k g i e. const_sound g.init [] g.ty.ty h.spaces.imported_globals (begun_global h g) k i
      (ap (λ z. all_taken after (with_const (begun_global h g) (Some (constant_expecting g.ty.ty h.spaces.imported_globals))) z) (append-nil (map const_op g.init)) ∙ e);
}

-- a segment's head: its table or memory exists
head_takes : (b : Bool) (h : Held) (rest : List Item) → b ≡ true
    → and_then (and_then (cond b (Ok tt) (Err why.Index)) (λ (u : Unit {0}). Ok (constant_begun I32 (length h.spaces.globals) h))) (λ g. all_taken after g rest)
    ≡ all_taken after (with_const h (Some (constant_expecting I32 (length h.spaces.globals)))) rest
head_takes b h rest e = ap (λ v. and_then (and_then (cond v (Ok tt) (Err why.Index)) (λ (u : Unit {0}). Ok (constant_begun I32 (length h.spaces.globals) h))) (λ g. all_taken after g rest)) e

head_sound : (b : Bool) (h g : Held) (rest : List Item)
    → and_then (and_then (cond b (Ok tt) (Err why.Index)) (λ (u : Unit {0}). Ok (constant_begun I32 (length h.spaces.globals) h))) (λ g. all_taken after g rest) ≡ Ok g
    → (b ≡ true) × (all_taken after (with_const h (Some (constant_expecting I32 (length h.spaces.globals)))) rest ≡ Ok g)
head_sound true h g rest e = (refl, e)
head_sound false h g rest e = absurd (cc)

-- what the format demands of a segment
abbrev pub HasOffset : {X : Type 0} → (X → Option ℕ) → (X → List Op) → Held → X → Type 0
HasOffset index offset h x = IsOffset (index x) (offset x)

-- the state after the offset of a segment, which an active one has
abbrev pub put_offset : Held → Option ℕ → Held
put_offset h None = h
put_offset h (Some x) = with_const h None

pub offset_keeps : (P : Held → Type 0) → ((h : Held) → P h → P (with_const h None)) → (h : Held) (x : Option ℕ) → P h → P (put_offset h x)
offset_keeps P f h None i = i
offset_keeps P f h (Some x) i = f h i

-- a table or memory with this index, among so many, and an offset
abbrev GoodMode : (targets : ℕ) → Held → Option ℕ → List Op → Type 0
GoodMode targets h x ops = IsGoodMode targets (take (length h.spaces.globals) h.spaces.globals) x ops

-- the items of an active segment
module _ (targets : ℕ) (h : Held) (x : ℕ) (ops : List Op) (rest : List Item) where
  abbrev Begun : Result Held Why
  Begun =
      and_then (and_then (cond (nat_lt x targets) (Ok tt) (Err why.Index)) (λ (u : Unit {0}). Ok (constant_begun I32 (length h.spaces.globals) h)))
      (λ g. all_taken after g (map const_op ops ++ rest))

  active_takes : GoodMode targets h (Some x) ops → Begun ≡ all_taken after (with_const h None) rest
  active_takes good =
      head_takes (nat_lt x targets) h (map const_op ops ++ rest) (lt-ltb x targets good.0)
      ∙ (ap (λ z. all_taken after (with_const h (Some (constant_expecting I32 (length h.spaces.globals)))) (map const_op z ++ rest)) good.1.1
      ∙ const_takes good.1.0 h I32 (length h.spaces.globals) rest good.1.2)

  active_sound : (g : Held) → IsExpression ops → Begun ≡ Ok g → GoodMode targets h (Some x) ops
  active_sound g i q =
      let a = head_sound (nat_lt x targets) h g (map const_op ops ++ rest) q in
      (ltb-true x targets a.0, const_sound ops rest I32 (length h.spaces.globals) h g i a.1)

-- element segments
abbrev pub GoodElement : Held → FlatElement → Type 0
GoodElement h e = GoodMode (one_if h.spaces.has_table) h e.table e.offset × AllByRecursion (λ x. x < length h.spaces.functions) e.functions

-- the state after one
abbrev pub put_element : Held → FlatElement → Held
put_element h e = put_offset (with_element h) e.table

pub element_keeps : (P : Held → Type 0) → ((h : Held) → P h → P (with_element h)) → ((h : Held) → P h → P (with_const h None)) → (h : Held) (e : FlatElement) → P h → P (put_element h e)
element_keeps P counted given h e i = offset_keeps P given (with_element h) e.table (counted h i)

functions_take : (xs : List ℕ) (h : Held) → AllByRecursion (λ x. x < length h.spaces.functions) xs → all_taken after h (map element_function xs) ≡ Ok h
functions_take [] h g = refl
functions_take (x ∷ xs) h g =
    ap (λ v. and_then (where_ok h (cond v (Ok tt) (Err why.Index))) (λ g. all_taken after g (map element_function xs))) (lt-ltb x (length h.spaces.functions) g.0)
    ∙ functions_take xs h g.1

functions_sound : (xs : List ℕ) (h g : Held) → all_taken after h (map element_function xs) ≡ Ok g → AllByRecursion (λ x. x < length h.spaces.functions) xs
functions_sound [] h g e = tt
functions_sound (x ∷ xs) h g e = go (functions_sound xs h g) (nat_lt x (length h.spaces.functions)) refl e
  where
    go : (all_taken after h (map element_function xs) ≡ Ok g → AllByRecursion (λ x. x < length h.spaces.functions) xs) → (b : Bool) → nat_lt x (length h.spaces.functions) ≡ b → and_then (where_ok h (cond b (Ok tt) (Err why.Index))) (λ g. all_taken after g (map element_function xs)) ≡ Ok g
        → AllByRecursion (λ x. x < length h.spaces.functions) (x ∷ xs)
    go next true is e = (ltb-true x (length h.spaces.functions) is, next e)
    go next false is e = absurd (cc)

abbrev items_of_element : Option ℕ → List Op → List ℕ → List Item
items_of_element x ops functions = element_head x ∷ map const_op ops ++ map element_function functions

abbrev HasFunctions : Held → List ℕ → Type 0
HasFunctions h functions = AllByRecursion (λ x. x < length h.spaces.functions) functions

element_takes : (h : Held) (x : Option ℕ) (ops : List Op) (functions : List ℕ) → GoodMode (one_if h.spaces.has_table) h x ops → HasFunctions h functions
    → all_taken after h (items_of_element x ops functions) ≡ Ok (put_offset (with_element h) x)
element_takes h None ops functions good few =
    ap (λ z. all_taken after (with_element h) (map const_op z ++ map element_function functions)) good ∙ functions_take functions (with_element h) few
element_takes h (Some x) ops functions good few =
    active_takes (one_if h.spaces.has_table) (with_element h) x ops (map element_function functions) good ∙ functions_take functions (with_const (with_element h) None) few

element_sound : (h g : Held) (x : Option ℕ) (ops : List Op) (functions : List ℕ) → IsOffset x ops → all_taken after h (items_of_element x ops functions) ≡ Ok g
    → GoodMode (one_if h.spaces.has_table) h x ops × HasFunctions h functions
element_sound h g None ops functions i q =
    (i, functions_sound functions (with_element h) g (sym (ap (λ z. all_taken after (with_element h) (map const_op z ++ map element_function functions)) i) ∙ q))
element_sound h g (Some x) ops functions i q =
    let mode = active_sound (one_if h.spaces.has_table) (with_element h) x ops (map element_function functions) g i q in
    (mode, functions_sound functions (with_const (with_element h) None) g (sym (active_takes (one_if h.spaces.has_table) (with_element h) x ops (map element_function functions) mode) ∙ q))

pub element_member : Member after element_items (HasOffset (λ e. e.table) (λ e. e.offset)) GoodElement put_element
element_member = record {
  takes = λ h e i good. element_takes h e.table e.offset e.functions good.0 good.1;
  sound = λ h g e i q. element_sound h g e.table e.offset e.functions i q;
}

-- data segments
abbrev pub GoodSegment : Held → FlatSegment → Type 0
GoodSegment h s = GoodMode (one_if h.spaces.has_memory) h s.memory s.offset

abbrev pub put_data : Held → FlatSegment → Held
put_data h s = put_offset h s.memory

pub data_keeps : (P : Held → Type 0) → ((h : Held) → P h → P (with_const h None)) → (h : Held) (s : FlatSegment) → P h → P (put_data h s)
data_keeps P f h s i = offset_keeps P f h s.memory i

bytes_take : (bytes : List ℕ) (h : Held) → all_taken after h (map data_byte bytes) ≡ Ok h
bytes_take [] h = refl
bytes_take (b ∷ bytes) h = bytes_take bytes h

abbrev data_items : Option ℕ → List Op → List ℕ → List Item
data_items x ops bytes = segment_head x ∷ map const_op ops ++ map data_byte bytes

segment_takes : (h : Held) (x : Option ℕ) (ops : List Op) (bytes : List ℕ) → GoodMode (one_if h.spaces.has_memory) h x ops → all_taken after h (data_items x ops bytes) ≡ Ok (put_offset h x)
segment_takes h None ops bytes good = ap (λ z. all_taken after h (map const_op z ++ map data_byte bytes)) good ∙ bytes_take bytes h
segment_takes h (Some x) ops bytes good = active_takes (one_if h.spaces.has_memory) h x ops (map data_byte bytes) good ∙ bytes_take bytes (with_const h None)

segment_sound : (h g : Held) (x : Option ℕ) (ops : List Op) (bytes : List ℕ) → IsOffset x ops → all_taken after h (data_items x ops bytes) ≡ Ok g
    → GoodMode (one_if h.spaces.has_memory) h x ops
segment_sound h g None ops bytes i q = i
segment_sound h g (Some x) ops bytes i q = active_sound (one_if h.spaces.has_memory) h x ops (map data_byte bytes) g i q

pub segment_member : Member after segment_items (HasOffset (λ s. s.memory) (λ s. s.offset)) GoodSegment put_data
segment_member = record { takes = λ h s i good. segment_takes h s.memory s.offset s.bytes good; sound = λ h g s i q. segment_sound h g s.memory s.offset s.bytes i q }
