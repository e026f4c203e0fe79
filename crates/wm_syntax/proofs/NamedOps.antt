-- The class that a word names, by the table of instructions.
use Rattle.std.proofs.Common.{◌≡◌, ◌≤◌, ℕ, suc, slice_get, ◌⊎◌, Bool, true, false, cond, List, [], ◌∷◌, Option, Some, None as Nothing, refl, sym, ap, subst, ◌∙◌, inl, inr}
use Rattle.std.specs.Prelude.{codes, slice_index_or}
use Rattle.wm_syntax.specs.declared.instructions.IntType.TheVariants.{I32, I64}
use Rattle.wm_syntax.specs.declared.instructions.FloatType.TheVariants as float
use Rattle.wm_syntax.specs.declared.instructions.FloatComparison.TheVariants as fc
use Rattle.wm_syntax.specs.declared.instructions.FloatUnaryOp.TheVariants as fu
use Rattle.wm_syntax.specs.declared.instructions.FloatBinaryOp.TheVariants as fb
use Rattle.wm_syntax.specs.declared.instructions.Conversion.TheVariants as cv
use Rattle.wm_syntax.specs.declared.instructions.Op.{Op}
use Rattle.wm_syntax.specs.declared.instructions.Op.TheVariants as op
use Rattle.wm_syntax.specs.declared.instructions.Simple.{Simple}
use Rattle.wm_syntax.specs.declared.instructions.Simple.TheVariants as s
use Rattle.wm_syntax.specs.declared.instructions.Comparison.TheVariants.{Eq}
use Rattle.wm_syntax.specs.declared.instructions.UnaryOp.TheVariants.{Clz}
use Rattle.wm_syntax.specs.declared.instructions.BinaryOp.TheVariants.{Add}
use Rattle.wm_syntax.specs.declared.instructions.Numeric.TheVariants.{Test, Compare, Unary, Binary, FloatCompare, FloatUnary, FloatBinary, Convert, SignExtend, Saturate}
use Rattle.wm_syntax.specs.declared.instructions.SignExtension.TheVariants.{I32From8}
use Rattle.wm_syntax.specs.declared.instructions.Saturation.TheVariants as sat
use Rattle.wm_syntax.specs.declared.instructions.LoadOp.TheVariants.{I32Load}
use Rattle.wm_syntax.specs.declared.instructions.StoreOp.TheVariants.{I32Store}
use Rattle.wm_syntax.specs.declared.instructions.op_class.OpClass.{OpClass}
use Rattle.wm_syntax.specs.declared.instructions.op_class.OpClass.TheVariants.{None}
use Rattle.wm_syntax.specs.declared.profile.Profile.{Profile}
use Rattle.wm_syntax.specs.Opcodes.{opcode}
use Rattle.wm_syntax.specs.OpClasses.{class_of, code, IsClassOfOp}
use Rattle.wm_syntax.proofs.OpTable.{begins_in, has_class, is_kept, kept_class}
use Rattle.wm_syntax.specs.exact.ByteTable.{classes, class_in}
use Rattle.wm_syntax.specs.Profiles.{IsOpOf}
use Rattle.std.specs.Str.{bytes_eq}
use Rattle.std.proofs.lemmas.Slice.Eq.{bytes_eq-Decides}
use Rattle.std.proofs.lemmas.List.{get_or_past}
use Rattle.wm_syntax.specs.OpNames.{op_name}
use Rattle.wm_syntax.specs.exact.NameTable.{names, class_name, has_name, first_named, class_named}

-- The value that a test chose.
pub chosen : {A : Type 0} (t : Bool) (x y z : A) → cond t x y ≡ z → ((t ≡ true) × (x ≡ z)) ⊎ ((t ≡ false) × (y ≡ z))
chosen true x y z e = inl (refl, e)
chosen false x y z e = inr (refl, e)

-- an op and its class have one name
pub one_name : (o : Op) → class_name (class_of o) ≡ op_name o
one_name (op.Simple (s.Numeric n)) = refl
one_name (op.Simple _) = refl
one_name _ = refl

same_name : (a b : List ℕ) → ◌≡◌ {A = Option (List ℕ)} (Some a) (Some b) → a ≡ b
same_name a b e = cc

-- each instruction of the table is found by its name
pub named_simple : (i : Simple) → first_named classes (opcode i).1 ≡ class_of (op.Simple i)
named_simple (s.Numeric (Test I32)) = refl
named_simple (s.Numeric (Test I64)) = refl
named_simple (s.Numeric (Compare I32 Eq)) = refl
named_simple (s.Numeric (Compare I32 _)) = refl
named_simple (s.Numeric (Compare I64 Eq)) = refl
named_simple (s.Numeric (Compare I64 _)) = refl
named_simple (s.Numeric (Unary I32 Clz)) = refl
named_simple (s.Numeric (Unary I32 _)) = refl
named_simple (s.Numeric (Unary I64 Clz)) = refl
named_simple (s.Numeric (Unary I64 _)) = refl
named_simple (s.Numeric (Binary I32 Add)) = refl
named_simple (s.Numeric (Binary I32 _)) = refl
named_simple (s.Numeric (Binary I64 Add)) = refl
named_simple (s.Numeric (Binary I64 _)) = refl
named_simple (s.Numeric (FloatCompare float.F32 fc.Eq)) = refl
named_simple (s.Numeric (FloatCompare float.F32 _)) = refl
named_simple (s.Numeric (FloatCompare float.F64 fc.Eq)) = refl
named_simple (s.Numeric (FloatCompare float.F64 _)) = refl
named_simple (s.Numeric (FloatUnary float.F32 fu.Abs)) = refl
named_simple (s.Numeric (FloatUnary float.F32 _)) = refl
named_simple (s.Numeric (FloatUnary float.F64 fu.Abs)) = refl
named_simple (s.Numeric (FloatUnary float.F64 _)) = refl
named_simple (s.Numeric (FloatBinary float.F32 fb.Add)) = refl
named_simple (s.Numeric (FloatBinary float.F32 _)) = refl
named_simple (s.Numeric (FloatBinary float.F64 fb.Add)) = refl
named_simple (s.Numeric (FloatBinary float.F64 _)) = refl
named_simple (s.Numeric (Convert cv.I32TruncF32S)) = refl
named_simple (s.Numeric (Convert _)) = refl
named_simple (s.Numeric (SignExtend I32From8)) = refl
named_simple (s.Numeric (SignExtend _)) = refl
named_simple (s.Numeric (Saturate sat.I32TruncSatF32S)) = refl
named_simple (s.Numeric (Saturate _)) = refl
named_simple (s.Numeric _) = refl
named_simple (s.Load I32Load at) = refl
named_simple (s.Load _ at) = refl
named_simple (s.Store I32Store at) = refl
named_simple (s.Store _ at) = refl
named_simple _ = refl

-- each op of the table is found by its name
named_op : (o : Op) (w : List ℕ) → op_name o ≡ Some w → first_named classes w ≡ class_of o
named_op (op.Simple i) w e = ap (first_named classes) (sym (same_name (opcode i).1 w e)) ∙ named_simple i
named_op (op.Block t) w e = ap (first_named classes) (sym (same_name (codes "block") w e))
named_op (op.Loop t) w e = ap (first_named classes) (sym (same_name (codes "loop") w e))
named_op (op.If t) w e = ap (first_named classes) (sym (same_name (codes "if") w e))
named_op op.Else w e = ap (first_named classes) (sym (same_name (codes "else") w e))
named_op op.End w e = ap (first_named classes) (sym (same_name (codes "end") w e))
named_op (op.BrTable n) w e = ap (first_named classes) (sym (same_name (codes "br_table") w e))
named_op (op.Label l) w e = cc

pub found_named : (p : Profile) (w : List ℕ) (o : Op) → op_name o ≡ Some w → IsOpOf p o → class_named p w ≡ class_of o
unfolding class_named
found_named p w o e h = ap (class_in p) (named_op o w e) ∙ kept_class p (class_of o) (has_class p o h)

-- A class that is found has the name.
has_found : (c : OpClass) (w : List ℕ) → has_name c w ≡ true → class_name c ≡ Some w
has_found c w h = by (class_name c) refl h
  where
    by : (o : Option (List ℕ)) → class_name c ≡ o → (elim o as (λ _. Bool) [ Nothing ↦ false | Some name ↦ bytes_eq name w ]) ≡ true → class_name c ≡ Some w
    by Nothing e h = cc
    by (Some name) e h = e ∙ ap Some ((bytes_eq-Decides name w).0 h)

pub first_has : (cs : List OpClass) (w : List ℕ) → (first_named cs w ≡ None) ⊎ ((i : ℕ) × (slice_get cs i ≡ Some (first_named cs w)) × (class_name (first_named cs w) ≡ Some w))
first_has [] w = inl refl
first_has (c ∷ cs) w = elim (chosen (has_name c w) c (first_named cs w) _ refl) [
  | inl p ↦ inr (0, ap Some p.1, subst (λ y. class_name y ≡ Some w) p.1 (has_found c w p.0))
  | inr p ↦ subst (λ y. (y ≡ None) ⊎ ((i : ℕ) × (slice_get (c ∷ cs) i ≡ Some y) × (class_name y ≡ Some w))) p.1 (later (first_has cs w))
]
  where
    later : ((first_named cs w ≡ None) ⊎ ((i : ℕ) × (slice_get cs i ≡ Some (first_named cs w)) × (class_name (first_named cs w) ≡ Some w)))
        → (first_named cs w ≡ None) ⊎ ((i : ℕ) × (slice_get (c ∷ cs) i ≡ Some (first_named cs w)) × (class_name (first_named cs w) ≡ Some w))
    later (inl e) = inl e
    later (inr (i, e, n)) = inr (suc i, e, n)

-- A class of an op that is found is that of an op of the profile with this name.
pub only_named : (p : Profile) (w : List ℕ) → IsClassOfOp (class_named p w) → (o : Op) × (op_name o ≡ Some w) × IsOpOf p o × (class_of o ≡ class_named p w)
unfolding class_named
only_named p w h =
    let q : class_in p (first_named classes w) ≡ first_named classes w = kept_class p (first_named classes w) (is_kept p (first_named classes w) h) in
    elim (first_has classes w) [
      | inl n ↦ absurd (subst IsClassOfOp (q ∙ n) h)
      | inr m ↦ (
          let b = begins_in p m.0 (first_named classes w) m.1 h in
          (b.0, sym (one_name b.0) ∙ ap class_name (b.3 ∙ q) ∙ m.2, b.2, b.3))
    ]

-- The name of an instruction is at its byte.
name_simple : (i : Simple) → slice_index_or names (opcode i).0 [] ≡ (opcode i).1
name_simple (s.Numeric (Test I32)) = refl
name_simple (s.Numeric (Test I64)) = refl
name_simple (s.Numeric (Compare I32 Eq)) = refl
name_simple (s.Numeric (Compare I32 _)) = refl
name_simple (s.Numeric (Compare I64 Eq)) = refl
name_simple (s.Numeric (Compare I64 _)) = refl
name_simple (s.Numeric (Unary I32 Clz)) = refl
name_simple (s.Numeric (Unary I32 _)) = refl
name_simple (s.Numeric (Unary I64 Clz)) = refl
name_simple (s.Numeric (Unary I64 _)) = refl
name_simple (s.Numeric (Binary I32 Add)) = refl
name_simple (s.Numeric (Binary I32 _)) = refl
name_simple (s.Numeric (Binary I64 Add)) = refl
name_simple (s.Numeric (Binary I64 _)) = refl
name_simple (s.Numeric (FloatCompare float.F32 fc.Eq)) = refl
name_simple (s.Numeric (FloatCompare float.F32 _)) = refl
name_simple (s.Numeric (FloatCompare float.F64 fc.Eq)) = refl
name_simple (s.Numeric (FloatCompare float.F64 _)) = refl
name_simple (s.Numeric (FloatUnary float.F32 fu.Abs)) = refl
name_simple (s.Numeric (FloatUnary float.F32 _)) = refl
name_simple (s.Numeric (FloatUnary float.F64 fu.Abs)) = refl
name_simple (s.Numeric (FloatUnary float.F64 _)) = refl
name_simple (s.Numeric (FloatBinary float.F32 fb.Add)) = refl
name_simple (s.Numeric (FloatBinary float.F32 _)) = refl
name_simple (s.Numeric (FloatBinary float.F64 fb.Add)) = refl
name_simple (s.Numeric (FloatBinary float.F64 _)) = refl
name_simple (s.Numeric (Convert cv.I32TruncF32S)) = refl
name_simple (s.Numeric (Convert _)) = refl
name_simple (s.Numeric (SignExtend I32From8)) = refl
name_simple (s.Numeric (SignExtend _)) = refl
name_simple (s.Numeric (Saturate sat.I32TruncSatF32S)) = refl
name_simple (s.Numeric (Saturate _)) = refl
name_simple (s.Numeric _) = refl
name_simple (s.Load I32Load at) = refl
name_simple (s.Load _ at) = refl
name_simple (s.Store I32Store at) = refl
name_simple (s.Store _ at) = refl
name_simple _ = refl

there : (n b : ℕ) (w : List ℕ) → slice_index_or names n [] ≡ w → Some n ≡ Some b → Some w ≡ Some (slice_index_or names b [])
there n b w e h = ap Some (sym e ∙ ap (λ (x : ℕ). slice_index_or names x []) (same_byte n b h))
  where
    same_byte : (x y : ℕ) → ◌≡◌ {A = Option ℕ} (Some x) (Some y) → x ≡ y
    same_byte x y h = cc

pub name_there : (b : ℕ) (o : Op) → code o ≡ Some b → op_name o ≡ Some (slice_index_or names b [])
name_there b (op.Simple i) h = there (opcode i).0 b (opcode i).1 (name_simple i) h
name_there b (op.Block t) h = there 0x02 b (codes "block") refl h
name_there b (op.Loop t) h = there 0x03 b (codes "loop") refl h
name_there b (op.If t) h = there 0x04 b (codes "if") refl h
name_there b op.Else h = there 0x05 b (codes "else") refl h
name_there b op.End h = there 0x0B b (codes "end") refl h
name_there b (op.BrTable n) h = there 0x0E b (codes "br_table") refl h
name_there b (op.Label l) h = cc

-- past the table there is no name
pub name_past : (n : ℕ) → 0x10F ≤ n → slice_index_or names n [] ≡ []
name_past n l = get_or_past names n [] l

-- The clauses of the answer.
pub named_says : (p : Profile) (w : List ℕ) (c : OpClass) → c ≡ class_named p w
    → ((o : Op) → op_name o ≡ Some w → IsOpOf p o → c ≡ class_of o)
    × (IsClassOfOp c → (o : Op) × (op_name o ≡ Some w) × IsOpOf p o × (class_of o ≡ c))
    × (c ≡ class_named p w)
named_says p w c e = ((λ o n h. e ∙ found_named p w o n h), (λ h. only h (only_named p w (subst IsClassOfOp e h))), e)
  where
    only : IsClassOfOp c → (o : Op) × (op_name o ≡ Some w) × IsOpOf p o × (class_of o ≡ class_named p w) → (o : Op) × (op_name o ≡ Some w) × IsOpOf p o × (class_of o ≡ c)
    only h (o, n, i, q) = (o, n, i, q ∙ sym e)
