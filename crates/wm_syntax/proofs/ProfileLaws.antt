-- Profiles: their types, ops and instructions.
use Rattle.std.proofs.Common.{◌≡◌, false, true, IsTrue, ℕ, List, [], ◌∷◌, ◌++◌, ◌↔◌, Option, None, Some, map, inl, inr, refl, subst}
use Rattle.std.specs.List.{AllByRecursion}
use Rattle.wm_syntax.specs.declared.profile.Feature.TheVariants.{Base, Floats, SignExtension, LongIndex, Saturation, Copies, BulkMemory}
use Rattle.wm_syntax.specs.declared.profile.Profile.{Profile}
use Rattle.wm_syntax.specs.declared.instructions.Op.{Op}
use Rattle.wm_syntax.specs.declared.instructions.Op.TheVariants as op
use Rattle.wm_syntax.specs.Instructions.{HasElse, HasOp, HasOps, Instruction, Instructions, none, snoc, simple, table, block, loop, choice}
use Rattle.wm_syntax.specs.declared.modules.ImportDesc.{ImportDesc}
use Rattle.wm_syntax.specs.declared.modules.ImportDesc.TheVariants.{Global}
use Rattle.wm_syntax.specs.declared.modules.SegmentMode.{SegmentMode}
use Rattle.wm_syntax.specs.declared.modules.SegmentMode.TheVariants.{Passive, Active}
use Rattle.wm_syntax.specs.declared.types.Const.{Const}
use Rattle.wm_syntax.specs.declared.types.ValType.{ValType}
use Rattle.wm_syntax.specs.declared.types.ValType.TheVariants.{I32, I64, F32, F64}
use Rattle.wm_syntax.specs.declared.instructions.Simple.{Simple}
use Rattle.wm_syntax.specs.declared.instructions.Simple.TheVariants.{DataDrop, ElemDrop, F32Const, F64Const, Load, MemoryCopy, MemoryFill, MemoryInit, Store, Numeric, TableCopy, TableInit}
use Rattle.wm_syntax.specs.declared.instructions.Numeric.TheVariants.{FloatCompare, FloatUnary, FloatBinary, Convert, Saturate, SignExtend}
use Rattle.wm_syntax.specs.declared.instructions.LoadOp.TheVariants.{F32Load, F64Load}
use Rattle.wm_syntax.specs.declared.instructions.StoreOp.TheVariants.{F32Store, F64Store}
use Rattle.wm_syntax.specs.Modules.{Element, Function, GlobalDef, Import, Module, Segment, constant}
use Rattle.wm_syntax.specs.Profiles.{Extends, HasBlockType, HasConst, HasDesc, HasFunction, HasGlobal, HasInstruction, HasInstructions, HasMode, HasSignature, HasType, IsOf, IsOpOf, every, feature_of, four, has, one, three, two, type_feature}
use Rattle.wm_syntax.specs.Types.{Signature}

-- A property of each member of a list, and another that follows from it.
module _ {X : Type 0} (P Q : X → Type 0) (each : (x : X) → P x → Q x) where
  pub all_each : (xs : List X) → AllByRecursion P xs → AllByRecursion Q xs
  all_each [] h = tt
  all_each (x ∷ xs) h = (each x h.0, all_each xs h.1)

-- Everything in a profile is in each profile that extends it.
module _ (p q : Profile) (more : Extends q p) where
  pub type_more : (t : ValType) → HasType p t → HasType q t
  type_more t h = more (type_feature t) h

  pub block_type_more : (t : Option ValType) → HasBlockType p t → HasBlockType q t
  block_type_more None h = tt
  block_type_more (Some t) h = type_more t h

  pub const_more : (c : Const) → HasConst p c → HasConst q c
  const_more c h = more (feature_of (constant c)) h

  types_more : (ts : List ValType) → AllByRecursion (HasType p) ts → AllByRecursion (HasType q) ts
  types_more ts h = all_each (HasType p) (HasType q) type_more ts h

  mutual
    has_more : (i : Instruction) → HasInstruction p i → HasInstruction q i
    has_more (simple i) h = more (feature_of i) h
    has_more (table labels default) h = tt
    has_more (block t body) h = (block_type_more t h.0, have_more body h.1)
    has_more (loop t body) h = (block_type_more t h.0, have_more body h.1)
    has_more (choice t first second) h = (block_type_more t h.0, have_more first h.1, have_more second h.2)

    have_more : (s : Instructions) → HasInstructions p s → HasInstructions q s
    have_more none h = tt
    have_more (snoc s i) h = (have_more s h.0, has_more i h.1)

  signature_more : (f : Signature) → HasSignature p f → HasSignature q f
  signature_more f h = (types_more f.params h.0, types_more f.results h.1)

  desc_more : (d : ImportDesc) → HasDesc p d → HasDesc q d
  desc_more (Global g) h = type_more g.ty h
  desc_more _ h = tt

  function_more : (f : Function) → HasFunction p f → HasFunction q f
  function_more f h = (types_more f.locals h.0, have_more f.body h.1)

  global_more : (g : GlobalDef) → HasGlobal p g → HasGlobal q g
  global_more g h = (type_more g.ty.ty h.0, const_more g.init h.1)

  pub mode_more : (d : SegmentMode) → HasMode p d → HasMode q d
  mode_more Passive h = more BulkMemory h
  mode_more (Active x c) h = const_more c h

  pub is_of_more : (m : Module) → IsOf p m → IsOf q m
  is_of_more m h = record {
    types = all_each (HasSignature p) (HasSignature q) signature_more m.types h.types;
    imports = all_each (λ (i : Import). HasDesc p i.desc) (λ (i : Import). HasDesc q i.desc) (λ i k. desc_more i.desc k) m.imports h.imports;
    functions = all_each (HasFunction p) (HasFunction q) function_more m.functions h.functions;
    globals = all_each (HasGlobal p) (HasGlobal q) global_more m.globals h.globals;
    elements = all_each (λ (e : Element). HasMode p e.mode) (λ (e : Element). HasMode q e.mode) (λ e k. mode_more e.mode k) m.elements h.elements;
    segments = all_each (λ (s : Segment). HasMode p s.mode) (λ (s : Segment). HasMode q s.mode) (λ s k. mode_more s.mode k) m.segments h.segments;
  }

  pub op_of_more : (o : Op) → IsOpOf p o → IsOpOf q o
  op_of_more (op.Simple i) h = more (feature_of i) h
  op_of_more (op.Block t) h = block_type_more t h
  op_of_more (op.Loop t) h = block_type_more t h
  op_of_more (op.If t) h = block_type_more t h
  op_of_more _ h = tt

pub extends_one : (q : Profile) → Extends q one
extends_one q Base h = refl
extends_one q Floats h = let e : false ≡ true = h in cc
extends_one q SignExtension h = let e : false ≡ true = h in cc
extends_one q LongIndex h = let e : false ≡ true = h in cc
extends_one q Saturation h = let e : false ≡ true = h in cc
extends_one q Copies h = let e : false ≡ true = h in cc
extends_one q BulkMemory h = let e : false ≡ true = h in cc

pub every_extends : (p : Profile) → Extends every p
every_extends p Base h = refl
every_extends p Floats h = refl
every_extends p SignExtension h = refl
every_extends p LongIndex h = refl
every_extends p Saturation h = refl
every_extends p Copies h = refl
every_extends p BulkMemory h = refl

pub four_extends_two : Extends four two
four_extends_two Base h = refl
four_extends_two Floats h = refl
four_extends_two SignExtension h = refl
four_extends_two LongIndex h = h
four_extends_two Saturation h = h
four_extends_two Copies h = h
four_extends_two BulkMemory h = h

pub four_extends_three : Extends four three
four_extends_three Base h = refl
four_extends_three Floats h = refl
four_extends_three SignExtension h = refl
four_extends_three LongIndex h = h
four_extends_three Saturation h = h
four_extends_three Copies h = h
four_extends_three BulkMemory h = h

-- The profile `every` has the feature of every instruction and of every type, so everything belongs to it.
every_has_type : (t : ValType) → IsTrue (has every (type_feature t))
every_has_type I32 = refl
every_has_type I64 = refl
every_has_type F32 = refl
every_has_type F64 = refl

pub every_has_simple : (i : Simple) → IsTrue (has every (feature_of i))
every_has_simple (F32Const n) = refl
every_has_simple (F64Const n) = refl
every_has_simple (Load F32Load at) = refl
every_has_simple (Load F64Load at) = refl
every_has_simple (Store F32Store at) = refl
every_has_simple (Store F64Store at) = refl
every_has_simple (Numeric (FloatCompare t op)) = refl
every_has_simple (Numeric (FloatUnary t op)) = refl
every_has_simple (Numeric (FloatBinary t op)) = refl
every_has_simple (Numeric (Convert op)) = refl
every_has_simple (Numeric (SignExtend op)) = refl
every_has_simple (Numeric (Saturate op)) = refl
every_has_simple MemoryCopy = refl
every_has_simple MemoryFill = refl
every_has_simple (MemoryInit x) = refl
every_has_simple (DataDrop x) = refl
every_has_simple (TableInit x) = refl
every_has_simple (ElemDrop x) = refl
every_has_simple TableCopy = refl
every_has_simple _ = refl

module _ {X : Type 0} (P : X → Type 0) (each : (x : X) → P x) where
  all_of_each : (xs : List X) → AllByRecursion P xs
  all_of_each [] = tt
  all_of_each (x ∷ xs) = (each x, all_of_each xs)

type_of_every : (t : ValType) → HasType every t
type_of_every t = every_has_type t

block_type_of_every : (t : Option ValType) → HasBlockType every t
block_type_of_every None = tt
block_type_of_every (Some t) = type_of_every t

const_of_every : (c : Const) → HasConst every c
const_of_every c = every_has_simple (constant c)

mode_of_every : (d : SegmentMode) → HasMode every d
mode_of_every Passive = refl
mode_of_every (Active x c) = const_of_every c

mutual
  instruction_of_every : (i : Instruction) → HasInstruction every i
  instruction_of_every (simple i) = every_has_simple i
  instruction_of_every (table labels default) = tt
  instruction_of_every (block t body) = (block_type_of_every t, instructions_of_every body)
  instruction_of_every (loop t body) = (block_type_of_every t, instructions_of_every body)
  instruction_of_every (choice t first second) = (block_type_of_every t, instructions_of_every first, instructions_of_every second)

  instructions_of_every : (s : Instructions) → HasInstructions every s
  instructions_of_every none = tt
  instructions_of_every (snoc s i) = (instructions_of_every s, instruction_of_every i)

desc_of_every : (d : ImportDesc) → HasDesc every d
desc_of_every (Global g) = type_of_every g.ty
desc_of_every _ = tt

types_of_every : (ts : List ValType) → AllByRecursion (HasType every) ts
types_of_every ts = all_of_each (HasType every) type_of_every ts

pub module_of_every : (m : Module) → IsOf every m
module_of_every m = record {
  types = all_of_each (HasSignature every) (λ f. (types_of_every f.params, types_of_every f.results)) m.types;
  imports = all_of_each (λ (i : Import). HasDesc every i.desc) (λ i. desc_of_every i.desc) m.imports;
  functions = all_of_each (HasFunction every) (λ f. (types_of_every f.locals, instructions_of_every f.body)) m.functions;
  globals = all_of_each (HasGlobal every) (λ g. (type_of_every g.ty.ty, const_of_every g.init)) m.globals;
  elements = all_of_each (λ (e : Element). HasMode every e.mode) (λ e. mode_of_every e.mode) m.elements;
  segments = all_of_each (λ (s : Segment). HasMode every s.mode) (λ s. mode_of_every s.mode) m.segments;
}

-- A property of each member of a joined list.
module _ {X : Type 0} (P : X → Type 0) where
  pub all_append : (xs ys : List X) → AllByRecursion P xs → AllByRecursion P ys → AllByRecursion P (xs ++ ys)
  all_append [] ys h k = k
  all_append (x ∷ xs) ys h k = (h.0, all_append xs ys h.1 k)

  pub all_front : (xs ys : List X) → AllByRecursion P (xs ++ ys) → AllByRecursion P xs
  all_front [] ys h = tt
  all_front (x ∷ xs) ys h = (h.0, all_front xs ys h.1)

  pub all_back : (xs ys : List X) → AllByRecursion P (xs ++ ys) → AllByRecursion P ys
  all_back [] ys h = h
  all_back (x ∷ xs) ys h = all_back xs ys h.1

module _ (p : Profile) where
  abbrev AllOf : List Op → Type 0
  AllOf = AllByRecursion (IsOpOf p)

  pub labels_of : (ls : List ℕ) (d : ℕ) → AllOf (map op.Label ls ++ op.Label d ∷ [])
  labels_of [] d = (tt, tt)
  labels_of (l ∷ ls) d = (tt, labels_of ls d)

  to_else : (s : Instructions) (ops : List Op) → HasElse s (HasOps s) ops → HasInstructions p s → ((os : List Op) → HasOps s os → HasInstructions p s → AllOf os) → AllOf ops
  to_else none ops (inl (x, y, e, f, k)) h rest = rw (e, f) (tt, rest y k h)
  to_else none ops (inr e) h rest = rw e tt
  to_else (snoc s i) ops (x, y, e, f, k) h rest = rw (e, f) (tt, rest y k h)

  from_else : (s : Instructions) (ops : List Op) → HasElse s (HasOps s) ops → AllOf ops → ((os : List Op) → HasOps s os → AllOf os → HasInstructions p s) → HasInstructions p s
  from_else none ops k h rest = tt
  from_else (snoc s i) ops (x, y, e, f, k) h rest = rest y k (all_back (IsOpOf p) x y (subst AllOf e h))

  mutual
    to_op : (i : Instruction) (ops : List Op) → HasOp i ops → HasInstruction p i → AllOf ops
    to_op (simple i) ops e h = rw e (h, tt)
    to_op (table ls d) ops e h = rw e (tt, labels_of ls d)
    to_op (block t s) ops (x, y, e, f, (u, v, g, k, l)) h = rw (e, f, g, l) (h.0, all_append (IsOpOf p) u (op.End ∷ []) (to_ops s u k h.1) (tt, tt))
    to_op (loop t s) ops (x, y, e, f, (u, v, g, k, l)) h = rw (e, f, g, l) (h.0, all_append (IsOpOf p) u (op.End ∷ []) (to_ops s u k h.1) (tt, tt))
    to_op (choice t s1 s2) ops (x, y, e, f, (u, v, g, k, (w, z, m, l, n))) h =
        rw (e, f, g, m, n) (h.0, all_append (IsOpOf p) u (w ++ op.End ∷ []) (to_ops s1 u k h.1) (all_append (IsOpOf p) w (op.End ∷ []) (to_else s2 w l h.2 (λ os q r. to_ops s2 os q r)) (tt, tt)))

    to_ops : (s : Instructions) (ops : List Op) → HasOps s ops → HasInstructions p s → AllOf ops
    to_ops none ops e h = rw e tt
    to_ops (snoc s i) ops (x, y, e, k, l) h = rw e (all_append (IsOpOf p) x y (to_ops s x k h.0) (to_op i y l h.1))

  -- A property of an op and of all ops after it.
  opening : (o : Op) (ops x y : List Op) → ops ≡ x ++ y → x ≡ o ∷ [] → AllOf ops → IsOpOf p o × AllOf y
  opening o ops x y e f h =
      let whole : AllOf (x ++ y) = subst AllOf e h in
      ((subst AllOf f (all_front (IsOpOf p) x y whole)).0, all_back (IsOpOf p) x y whole)

  mutual
    from_op : (i : Instruction) (ops : List Op) → HasOp i ops → AllOf ops → HasInstruction p i
    from_op (simple i) ops e h = (subst AllOf e h).0
    from_op (table ls d) ops e h = tt
    from_op (block t s) ops (x, y, e, f, (u, v, g, k, l)) h =
        let parts = opening (op.Block t) ops x y e f h in
        (parts.0, from_ops s u k (all_front (IsOpOf p) u v (subst AllOf g parts.1)))
    from_op (loop t s) ops (x, y, e, f, (u, v, g, k, l)) h =
        let parts = opening (op.Loop t) ops x y e f h in
        (parts.0, from_ops s u k (all_front (IsOpOf p) u v (subst AllOf g parts.1)))
    from_op (choice t s1 s2) ops (x, y, e, f, (u, v, g, k, (w, z, m, l, n))) h =
        let parts = opening (op.If t) ops x y e f h in
        let inner : AllOf (u ++ v) = subst AllOf g parts.1 in
        let rest : AllOf (w ++ z) = subst AllOf m (all_back (IsOpOf p) u v inner) in
        (parts.0, from_ops s1 u k (all_front (IsOpOf p) u v inner), from_else s2 w l (all_front (IsOpOf p) w z rest) (λ os q r. from_ops s2 os q r))

    from_ops : (s : Instructions) (ops : List Op) → HasOps s ops → AllOf ops → HasInstructions p s
    from_ops none ops e h = tt
    from_ops (snoc s i) ops (x, y, e, k, l) h =
        let parts : AllOf (x ++ y) = subst AllOf e h in
        (from_ops s x k (all_front (IsOpOf p) x y parts), from_op i y l (all_back (IsOpOf p) x y parts))

pub by_ops : (p : Profile) (s : Instructions) (ops : List Op) → HasOps s ops → HasInstructions p s ↔ AllByRecursion (IsOpOf p) ops
by_ops p s ops k = (to_ops p s ops k, from_ops p s ops k)
