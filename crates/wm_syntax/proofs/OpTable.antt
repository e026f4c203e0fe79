-- The table of codes and the table of instructions agree.
use Rattle.std.proofs.Common.{◌≡◌, ◌⊎◌, ◌↔◌, inl, inr, IsTrue, ℕ, zero, suc, ◌+◌, Bool, true, false, ◌&&◌, ◌||◌, ◌==◌, ◌<◌, ◌≤◌, nat_lt, not, List, [], ◌∷◌, Option, Some, slice_get, refl, sym, ap, ◌∙◌, subst, add-zero, arith}
use Rattle.std.specs.Prelude.{None as Nothing, pos, if◌then◌else◌}
use Rattle.std.specs.List.{list_all, enumerate_from}
use Rattle.wm_syntax.specs.declared.instructions.Op.{Op}
use Rattle.wm_syntax.specs.declared.instructions.Op.TheVariants as op
use Rattle.wm_syntax.specs.declared.instructions.Simple.TheVariants as s
use Rattle.wm_syntax.specs.declared.instructions.op_class.Immediates.{Immediates}
use Rattle.wm_syntax.specs.declared.instructions.op_class.BlockOp.TheVariants as opening
use Rattle.wm_syntax.specs.declared.instructions.op_class.Indexed.TheVariants as indexed
use Rattle.wm_syntax.specs.declared.instructions.op_class.MemoryOp.TheVariants as memory
use Rattle.wm_syntax.specs.declared.instructions.op_class.LoadOrStore.TheVariants as accesses
use Rattle.wm_syntax.specs.declared.instructions.op_class.Immediates.TheVariants as k
use Rattle.wm_syntax.specs.declared.instructions.op_class.OpClass.{OpClass}
use Rattle.wm_syntax.specs.declared.instructions.op_class.OpClass.TheVariants.{Plain, With, Float, None}
use Rattle.wm_syntax.specs.Opcodes.{opcode}
use Rattle.wm_syntax.specs.OpClasses.{class_of, code, is_float, IsClassOfOp}
use Rattle.wm_syntax.specs.exact.OpShapes.{access_op, block_op, index_op, memory_op}
use Rattle.wm_syntax.specs.exact.ByteTable.{classes, class_feature, class_in, left_out}
use Rattle.wm_syntax.specs.Profiles.{IsOpOf, feature_of, has}
use Rattle.wm_syntax.specs.declared.profile.Feature.{Feature}
use Rattle.wm_syntax.specs.declared.profile.Feature.TheVariants.{Base, Floats, SignExtension, LongIndex, Saturation, Copies, BulkMemory}
use Rattle.wm_syntax.specs.declared.profile.Profile.{Profile}
use Rattle.wm_syntax.specs.declared.instructions.IntType.TheVariants.{I32, I64}
use Rattle.wm_syntax.specs.declared.instructions.FloatType.TheVariants as float
use Rattle.wm_syntax.specs.declared.instructions.FloatComparison.TheVariants as fc
use Rattle.wm_syntax.specs.declared.instructions.FloatUnaryOp.TheVariants as fu
use Rattle.wm_syntax.specs.declared.instructions.FloatBinaryOp.TheVariants as fb
use Rattle.wm_syntax.specs.declared.instructions.Conversion.TheVariants as cv
use Rattle.wm_syntax.specs.declared.instructions.Simple.{Simple}
use Rattle.wm_syntax.specs.declared.instructions.Comparison.TheVariants.{Eq}
use Rattle.wm_syntax.specs.declared.instructions.UnaryOp.TheVariants.{Clz}
use Rattle.wm_syntax.specs.declared.instructions.BinaryOp.TheVariants.{Add}
use Rattle.wm_syntax.specs.declared.instructions.Numeric.TheVariants.{Test, Compare, Unary, Binary, FloatCompare, FloatUnary, FloatBinary, Convert, SignExtend, Saturate}
use Rattle.wm_syntax.specs.declared.instructions.SignExtension.TheVariants.{I32From8}
use Rattle.wm_syntax.specs.declared.instructions.Saturation.TheVariants as sat
use Rattle.wm_syntax.specs.declared.instructions.LoadOp.TheVariants.{I32Load, F32Load, F64Load}
use Rattle.wm_syntax.specs.declared.instructions.StoreOp.TheVariants.{I32Store, F32Store, F64Store}
use Rattle.std.proofs.lemmas.Bool.Decides.{nat_tests}
use Rattle.std.proofs.lemmas.Bool.{eqb-true, ltb-false, ltb-true}
use Rattle.std.proofs.lemmas.Option.{slice_get_within}
use Rattle.wm_syntax.specs.Lengths.{code_len}

some_injective : {X : Type 0} {x y : X} → Some x ≡ Some y → x ≡ y
some_injective e = cc

both : (a b : Bool) → (a && b) ≡ true → (a ≡ true) × (b ≡ true)
both true true e = (refl, refl)
both true false e = cc
both false b e = cc

-- each instruction of the table is found at its byte
pub found_simple : (i : Simple) → slice_get classes (opcode i).0 ≡ Some (class_of (op.Simple i))
found_simple (s.Numeric (Test I32)) = refl
found_simple (s.Numeric (Test I64)) = refl
found_simple (s.Numeric (Compare I32 Eq)) = refl
found_simple (s.Numeric (Compare I32 _)) = refl
found_simple (s.Numeric (Compare I64 Eq)) = refl
found_simple (s.Numeric (Compare I64 _)) = refl
found_simple (s.Numeric (Unary I32 Clz)) = refl
found_simple (s.Numeric (Unary I32 _)) = refl
found_simple (s.Numeric (Unary I64 Clz)) = refl
found_simple (s.Numeric (Unary I64 _)) = refl
found_simple (s.Numeric (Binary I32 Add)) = refl
found_simple (s.Numeric (Binary I32 _)) = refl
found_simple (s.Numeric (Binary I64 Add)) = refl
found_simple (s.Numeric (Binary I64 _)) = refl
found_simple (s.Numeric (FloatCompare float.F32 fc.Eq)) = refl
found_simple (s.Numeric (FloatCompare float.F32 _)) = refl
found_simple (s.Numeric (FloatCompare float.F64 fc.Eq)) = refl
found_simple (s.Numeric (FloatCompare float.F64 _)) = refl
found_simple (s.Numeric (FloatUnary float.F32 fu.Abs)) = refl
found_simple (s.Numeric (FloatUnary float.F32 _)) = refl
found_simple (s.Numeric (FloatUnary float.F64 fu.Abs)) = refl
found_simple (s.Numeric (FloatUnary float.F64 _)) = refl
found_simple (s.Numeric (FloatBinary float.F32 fb.Add)) = refl
found_simple (s.Numeric (FloatBinary float.F32 _)) = refl
found_simple (s.Numeric (FloatBinary float.F64 fb.Add)) = refl
found_simple (s.Numeric (FloatBinary float.F64 _)) = refl
found_simple (s.Numeric (Convert cv.I32TruncF32S)) = refl
found_simple (s.Numeric (Convert _)) = refl
found_simple (s.Numeric (SignExtend I32From8)) = refl
found_simple (s.Numeric (SignExtend _)) = refl
found_simple (s.Numeric (Saturate sat.I32TruncSatF32S)) = refl
found_simple (s.Numeric (Saturate _)) = refl
found_simple (s.Numeric _) = refl
found_simple (s.Load I32Load at) = refl
found_simple (s.Load _ at) = refl
found_simple (s.Store I32Store at) = refl
found_simple (s.Store _ at) = refl
found_simple _ = refl

-- A test of a whole table holds at each index.
tested : (t : ℕ → OpClass → Bool) (xs : List OpClass) (n i : ℕ) (c : OpClass)
    → list_all (λ (e : ℕ × OpClass). t e.0 e.1) (enumerate_from n xs) ≡ true → slice_get xs i ≡ Some c → t (n + i) c ≡ true
tested t [] n i c all e = cc
tested t (x ∷ xs) n zero c all e = rw add-zero (subst (λ (y : OpClass). t n y ≡ true) (some_injective e) (both (t n x) _ all).0)
tested t (x ∷ xs) n (suc i) c all e =
    subst (λ (m : ℕ). t m c ≡ true) (let q : (n + 1) + i ≡ n + suc i = omega arith in q) (tested t xs (n + 1) i c (both (t n x) _ all).1 e)

-- an instruction is found at its byte
same_place : (n byte : ℕ) (c d : OpClass) → slice_get classes byte ≡ Some c → slice_get classes n ≡ Some d → Some n ≡ Some byte → c ≡ d
same_place n byte c d e at f = some_injective (sym e ∙ ap (λ (m : ℕ). slice_get classes m) (sym (some_injective f)) ∙ at)

pub found_op : (byte : ℕ) (c : OpClass) → slice_get classes byte ≡ Some c → (o : Op) → code o ≡ Some byte → c ≡ class_of o
found_op byte c e (op.Simple i) f = same_place _ byte c _ e (found_simple i) f
found_op byte c e (op.Block t) f = same_place 0x02 byte c _ e refl f
found_op byte c e (op.Loop t) f = same_place 0x03 byte c _ e refl f
found_op byte c e (op.If t) f = same_place 0x04 byte c _ e refl f
found_op byte c e op.Else f = same_place 0x05 byte c _ e refl f
found_op byte c e op.End f = same_place 0x0B byte c _ e refl f
found_op byte c e (op.BrTable n) f = same_place 0x0E byte c _ e refl f
found_op byte c e (op.Label l) f = cc

-- behind the prefix there are instructions of three features only
pub is_behind : Feature → Bool
is_behind Saturation = true
is_behind Copies = true
is_behind BulkMemory = true
is_behind _ = false

pub behind_features : (f : Feature) → is_behind f ≡ true → (f ≡ Saturation) ⊎ ((f ≡ Copies) ⊎ (f ≡ BulkMemory))
unfolding is_behind
behind_features Saturation e = inl refl
behind_features Copies e = inr (inl refl)
behind_features BulkMemory e = inr (inr refl)
behind_features Base e = cc
behind_features Floats e = cc
behind_features SignExtension e = cc
behind_features LongIndex e = cc

is_no_op : OpClass → Bool
is_no_op None = true
is_no_op _ = false

behind : list_all (λ (e : ℕ × OpClass). nat_lt e.0 0x100 || (is_no_op e.1 || is_behind (class_feature e.1))) (enumerate_from 0 classes) ≡ true
unfolding is_behind is_no_op
behind = refl

some_op : (o : Op) → is_no_op (class_of o) ≡ false
unfolding is_no_op
some_op (op.Simple (s.Br l)) = refl
some_op (op.Simple _) = refl
some_op _ = refl

pub behind_at : (x : ℕ) (o : Op) → slice_get classes x ≡ Some (class_of o) → 0x100 ≤ x → is_behind (class_feature (class_of o)) ≡ true
behind_at x o e l = by (nat_lt x 0x100) refl (subst (λ (m : ℕ). (nat_lt m 0x100 || (is_no_op c || is_behind (class_feature c))) ≡ true) (let q : 0 + x ≡ x = omega arith in q) t)
  where
    c : OpClass
    c = class_of o

    t : (nat_lt (0 + x) 0x100 || (is_no_op c || is_behind (class_feature c))) ≡ true
    t = tested (λ n c. nat_lt n 0x100 || (is_no_op c || is_behind (class_feature c))) classes 0 x c behind e

    by : (b : Bool) → nat_lt x 0x100 ≡ b → (b || (is_no_op c || is_behind (class_feature c))) ≡ true → is_behind (class_feature c) ≡ true
    by true f h = absurd (omega (arith, l, ltb-true x 0x100 f))
    by false f h = subst (λ (b : Bool). (b || is_behind (class_feature c)) ≡ true) (some_op o) h

-- the length of the code, by the class
kind_len : Immediates → ℕ
kind_len (k.Memory memory.MemoryCopy) = 2
kind_len (k.Memory memory.MemoryFill) = 2
kind_len k.MemoryInit = 2
kind_len (k.Index indexed.DataDrop) = 2
kind_len k.TableInit = 2
kind_len (k.Index indexed.ElemDrop) = 2
kind_len k.TableCopy = 2
kind_len _ = 1

class_len : OpClass → ℕ
class_len (Plain (op.Simple i)) = code_len i
class_len (With kind) = kind_len kind
class_len _ = 1

same_len : (i : Simple) → class_len (class_of (op.Simple i)) ≡ code_len i
unfolding class_len kind_len
same_len (s.Br l) = refl
same_len _ = refl

has_len : ℕ → OpClass → Bool
has_len n c = is_no_op c || (class_len c == (if nat_lt n 0x100 then 1 else 2))

all_have_len : list_all (λ (e : ℕ × OpClass). has_len e.0 e.1) (enumerate_from 0 classes) ≡ true
unfolding has_len class_len kind_len is_no_op
all_have_len = refl

pub code_length : (i : Simple) → code_len i ≡ (if nat_lt (opcode i).0 0x100 then 1 else 2)
unfolding has_len
code_length i =
    let n : ℕ = (opcode i).0 in
    let c : OpClass = class_of (op.Simple i) in
    let zero : 0 + n ≡ n = omega arith in
    let t = subst (λ (m : ℕ). has_len m c ≡ true) zero (tested has_len classes 0 n c all_have_len (found_simple i)) in
    let e = subst (λ (b : Bool). (b || (class_len c == (if nat_lt n 0x100 then 1 else 2))) ≡ true) (some_op (op.Simple i)) t in
    sym (same_len i) ∙ eqb-true (class_len c) (if nat_lt n 0x100 then 1 else 2) e

pub byte_code : (i : Simple) → code_len i ≡ 1 → (opcode i).0 < 0x100
byte_code i e = by (nat_lt (opcode i).0 0x100) refl (sym (code_length i) ∙ e)
  where
    by : (b : Bool) → nat_lt (opcode i).0 0x100 ≡ b → ◌≡◌ {A = ℕ} (if b then 1 else 2) 1 → (opcode i).0 < 0x100
    by true f h = ltb-true (opcode i).0 0x100 f
    by false f h = absurd (omega (arith, h))

pub long_code : (i : Simple) → code_len i ≡ 2 → 0x100 ≤ (opcode i).0
long_code i e = by (nat_lt (opcode i).0 0x100) refl (sym (code_length i) ∙ e)
  where
    by : (b : Bool) → nat_lt (opcode i).0 0x100 ≡ b → ◌≡◌ {A = ℕ} (if b then 1 else 2) 2 → 0x100 ≤ (opcode i).0
    by true f h = absurd (omega (arith, h))
    by false f h = ltb-false (opcode i).0 0x100 f

pub small_code : (i : Simple) → (opcode i).0 < 0x10F
small_code i = slice_get_within classes (opcode i).0 (class_of (op.Simple i)) (found_simple i)

-- the bytes of floating-point instructions are those of the table
is_floats : Feature → Bool
is_floats Floats = true
is_floats _ = false

same_bool : Bool → Bool → Bool
same_bool true b = b
same_bool false b = not b

same_bools : (a b : Bool) → same_bool a b ≡ true → a ≡ b
unfolding same_bool
same_bools true b e = sym e
same_bools false true e = cc
same_bools false false e = refl

floats : list_all (λ (e : ℕ × OpClass). same_bool (is_floats (class_feature e.1)) (is_float e.0)) (enumerate_from 0 classes) ≡ true
unfolding is_floats same_bool
floats = refl

is_float_at : (byte : ℕ) (c : OpClass) → slice_get classes byte ≡ Some c → is_floats (class_feature c) ≡ is_float byte
is_float_at byte c e = same_bools _ _ (subst (λ (m : ℕ). same_bool (is_floats (class_feature c)) (is_float m) ≡ true) (let q : 0 + byte ≡ byte = omega arith in q)
    (tested (λ n c. same_bool (is_floats (class_feature c)) (is_float n)) classes 0 byte c floats e))

floats_feature : (f : Feature) → is_floats f ≡ true → f ≡ Floats
unfolding is_floats
floats_feature Base e = cc
floats_feature Floats e = refl
floats_feature SignExtension e = cc
floats_feature LongIndex e = cc
floats_feature Saturation e = cc
floats_feature Copies e = cc
floats_feature BulkMemory e = cc

-- No row of the table is Float, which is the answer of a profile without floats.
is_no_float : OpClass → Bool
is_no_float Float = false
is_no_float _ = true

no_floats : list_all (λ (e : ℕ × OpClass). is_no_float e.1) (enumerate_from 0 classes) ≡ true
unfolding is_no_float
no_floats = refl

not_float : (byte : ℕ) (c : OpClass) → slice_get classes byte ≡ Some c → c ≡ Float → ⊥
unfolding is_no_float
not_float byte c e f =
    let t = tested (λ n c. is_no_float c) classes 0 byte c no_floats e in
    let g : is_no_float c ≡ false = ap is_no_float f in cc

-- an instruction of a class
sample : OpClass → Op
sample (Plain o) = o
sample (With (k.Block o)) = block_op o Nothing
sample (With (k.Index i)) = index_op i 0
sample (With k.CallIndirect) = op.Simple (s.CallIndirect 0)
sample (With (k.Memory m)) = memory_op m
sample (With k.MemoryInit) = op.Simple (s.MemoryInit 0)
sample (With k.TableInit) = op.Simple (s.TableInit 0)
sample (With k.TableCopy) = op.Simple s.TableCopy
sample (With k.I32Const) = op.Simple (s.I32Const (pos 0))
sample (With k.I64Const) = op.Simple (s.I64Const (pos 0))
sample (With k.F32Const) = op.Simple (s.F32Const 0)
sample (With k.F64Const) = op.Simple (s.F64Const 0)
sample (With (k.Access a)) = access_op a (record { align = 0; offset = 0 })
sample Float = op.End
sample None = op.End

is_at : Option ℕ → ℕ → Bool
is_at Nothing n = false
is_at (Some m) n = m == n

is_plain_class : OpClass → Bool
is_plain_class (Plain o) = true
is_plain_class _ = false

begins : ℕ → OpClass → Bool
begins n (Plain o) = is_at (code o) n && is_plain_class (class_of o)
begins n (With kind) = is_at (code (sample (With kind))) n
begins n _ = true

all_begin : list_all (λ (e : ℕ × OpClass). begins e.0 e.1) (enumerate_from 0 classes) ≡ true
unfolding begins is_at is_plain_class sample
all_begin = refl

is_at_means : (o : Option ℕ) (n : ℕ) → is_at o n ≡ true → o ≡ Some n
unfolding is_at
is_at_means Nothing n e = cc
is_at_means (Some m) n e = ap Some (let q : m ≡ n = grind (arith, nat_tests) in q)

with_class : (kind : Immediates) → class_of (sample (With kind)) ≡ With kind
unfolding sample
with_class (k.Block opening.Block) = refl
with_class (k.Index indexed.Br) = refl
with_class (k.Memory memory.MemorySize) = refl
with_class (k.Access (accesses.Load o)) = refl
with_class (k.Access (accesses.Store o)) = refl
with_class _ = refl

plain_class : (o : Op) → is_plain_class (class_of o) ≡ true → class_of o ≡ Plain o
unfolding is_plain_class
plain_class (op.Simple s.Nop) e = refl
plain_class (op.Simple s.Unreachable) e = refl
plain_class (op.Simple s.Return) e = refl
plain_class (op.Simple s.Drop) e = refl
plain_class (op.Simple s.Select) e = refl
plain_class (op.Simple (s.Numeric o)) e = refl
plain_class op.Else e = refl
plain_class op.End e = refl
plain_class (op.Label l) e = refl
plain_class _ e = cc

-- The sample op of a class begins with the byte of the class.
sample_begins : (byte : ℕ) (c : OpClass) → slice_get classes byte ≡ Some c → IsClassOfOp c → (code (sample c) ≡ Some byte) × (class_of (sample c) ≡ c)
unfolding begins sample
sample_begins byte c e i = go c i (subst (λ (m : ℕ). begins m c ≡ true) (let q : 0 + byte ≡ byte = omega arith in q) (tested begins classes 0 byte c all_begin e))
  where
    go : (c : OpClass) → IsClassOfOp c → begins byte c ≡ true → (code (sample c) ≡ Some byte) × (class_of (sample c) ≡ c)
    go (Plain o) i t = (is_at_means (code o) byte (both (is_at (code o) byte) _ t).0, plain_class o (both (is_at (code o) byte) _ t).1)
    go (With kind) i t = (is_at_means (code (sample (With kind))) byte t, with_class kind)
    go Float i t = absurd i
    go None i t = absurd i

-- Under a profile: the class of an op has the op's feature.
simple_feature : (i : Simple) → class_feature (class_of (op.Simple i)) ≡ feature_of i
simple_feature (s.Numeric x) = refl
simple_feature (s.Load F32Load at) = refl
simple_feature (s.Load F64Load at) = refl
simple_feature (s.Load _ at) = refl
simple_feature (s.Store F32Store at) = refl
simple_feature (s.Store F64Store at) = refl
simple_feature (s.Store _ at) = refl
simple_feature _ = refl

pub has_class : (p : Profile) (o : Op) → IsOpOf p o → IsTrue (has p (class_feature (class_of o)))
has_class p (op.Simple i) h = ap (has p) (simple_feature i) ∙ h
has_class p _ h = refl

-- an op that is its byte alone is of no class that has immediates
with_plain : (kind : Immediates) (o : Op) → With kind ≡ Plain o → ⊥
with_plain kind o e = cc

-- The sample op of a class belongs to each profile that has the class. If it has a block type, it has no
-- result.
sample_has : (p : Profile) (c : OpClass) → class_of (sample c) ≡ c → IsTrue (has p (class_feature c)) → IsOpOf p (sample c)
unfolding sample
sample_has p (Plain (op.Simple i)) e h = h
sample_has p (Plain (op.Block t)) e h = absurd (with_plain (k.Block opening.Block) (op.Block t) e)
sample_has p (Plain (op.Loop t)) e h = absurd (with_plain (k.Block opening.Loop) (op.Loop t) e)
sample_has p (Plain (op.If t)) e h = absurd (with_plain (k.Block opening.If) (op.If t) e)
sample_has p (Plain _) e h = tt
sample_has p (With (k.Block opening.Block)) e h = tt
sample_has p (With (k.Block opening.Loop)) e h = tt
sample_has p (With (k.Block opening.If)) e h = tt
sample_has p (With (k.Index indexed.BrTable)) e h = tt
sample_has p (With k.F32Const) e h = h
sample_has p (With k.F64Const) e h = h
sample_has p (With (k.Memory memory.MemoryCopy)) e h = h
sample_has p (With (k.Memory memory.MemoryFill)) e h = h
sample_has p (With k.MemoryInit) e h = h
sample_has p (With (k.Index indexed.DataDrop)) e h = h
sample_has p (With k.TableInit) e h = h
sample_has p (With (k.Index indexed.ElemDrop)) e h = h
sample_has p (With k.TableCopy) e h = h
sample_has p (With (k.Access (accesses.Load F32Load))) e h = h
sample_has p (With (k.Access (accesses.Load F64Load))) e h = h
sample_has p (With (k.Access (accesses.Load _))) e h = refl
sample_has p (With (k.Access (accesses.Store F32Store))) e h = h
sample_has p (With (k.Access (accesses.Store F64Store))) e h = h
sample_has p (With (k.Access (accesses.Store _))) e h = refl
sample_has p (With _) e h = refl
sample_has p Float e h = tt
sample_has p None e h = tt

pub kept_class : (p : Profile) (c : OpClass) → IsTrue (has p (class_feature c)) → class_in p c ≡ c
kept_class p c h = rw h refl

-- The answer for a feature that a profile does not have is no class of an op.
no_left_out : (f : Feature) → IsClassOfOp (left_out f) → ⊥
no_left_out Base h = h
no_left_out Floats h = h
no_left_out SignExtension h = h
no_left_out LongIndex h = h
no_left_out Saturation h = h
no_left_out Copies h = h
no_left_out BulkMemory h = h

left_out_float : (f : Feature) → is_floats f ≡ true → left_out f ≡ Float
unfolding is_floats
left_out_float Base e = cc
left_out_float Floats e = refl
left_out_float SignExtension e = cc
left_out_float LongIndex e = cc
left_out_float Saturation e = cc
left_out_float Copies e = cc
left_out_float BulkMemory e = cc

float_left_out : (f : Feature) → left_out f ≡ Float → is_floats f ≡ true
unfolding is_floats
float_left_out Base e = cc
float_left_out Floats e = refl
float_left_out SignExtension e = cc
float_left_out LongIndex e = cc
float_left_out Saturation e = cc
float_left_out Copies e = cc
float_left_out BulkMemory e = cc

-- A class under a profile is the class itself, or the answer for a missing feature.
module _ (c : OpClass) where
  left_true : (b : Bool) → IsClassOfOp (if b then c else left_out (class_feature c)) → b ≡ true
  left_true true h = refl
  left_true false h = absurd (no_left_out (class_feature c) h)

  left_float : (b : Bool) → (c ≡ Float → ⊥) → (if b then c else left_out (class_feature c)) ≡ Float → (b ≡ false) × (is_floats (class_feature c) ≡ true)
  left_float true n e = absurd (n e)
  left_float false n e = (refl, float_left_out (class_feature c) e)

  left_none : (b : Bool) → is_floats (class_feature c) ≡ true → (if b then c else left_out (class_feature c)) ≡ None → ⊥
  unfolding is_floats
  left_none true t e = let f : false ≡ true = ap (λ d. is_floats (class_feature d)) (sym e) ∙ t in cc
  left_none false t e = let f : None ≡ Float = sym e ∙ left_out_float (class_feature c) t in cc

pub is_kept : (p : Profile) (c : OpClass) → IsClassOfOp (class_in p c) → IsTrue (has p (class_feature c))
is_kept p c h = left_true c (has p (class_feature c)) h

pub found_in : (p : Profile) (byte : ℕ) (c : OpClass) → slice_get classes byte ≡ Some c → (o : Op) → code o ≡ Some byte → IsOpOf p o → class_in p c ≡ class_of o
found_in p byte c e o f i = ap (class_in p) (found_op byte c e o f) ∙ kept_class p (class_of o) (has_class p o i)

pub begins_in : (p : Profile) (byte : ℕ) (c : OpClass) → slice_get classes byte ≡ Some c → IsClassOfOp (class_in p c)
    → (o : Op) × (code o ≡ Some byte) × IsOpOf p o × (class_of o ≡ class_in p c)
begins_in p byte c e f =
    let h : IsTrue (has p (class_feature c)) = is_kept p c f in
    let same : class_in p c ≡ c = kept_class p c h in
    let found : (code (sample c) ≡ Some byte) × (class_of (sample c) ≡ c) = sample_begins byte c e (subst IsClassOfOp same f) in
    (sample c, found.0, sample_has p c found.1 h, found.1 ∙ sym same)

-- If the profile has no floats, exactly the bytes of float instructions have the answer Float.
pub float_in : (p : Profile) (byte : ℕ) (c : OpClass) → slice_get classes byte ≡ Some c → has p Floats ≡ false → (class_in p c ≡ Float) ↔ (is_float byte ≡ true)
float_in p byte c e lacks = (to, from)
  where
    to : class_in p c ≡ Float → is_float byte ≡ true
    to f = sym (is_float_at byte c e) ∙ (left_float c (has p (class_feature c)) (not_float byte c e) f).1

    from : is_float byte ≡ true → class_in p c ≡ Float
    from t =
        let g : is_floats (class_feature c) ≡ true = is_float_at byte c e ∙ t in
        let f : has p (class_feature c) ≡ false = ap (has p) (floats_feature (class_feature c) g) ∙ lacks in
        rw f (left_out_float (class_feature c) g)

-- If the profile has floats, no byte has the answer Float.
pub float_never : (p : Profile) (byte : ℕ) (c : OpClass) → slice_get classes byte ≡ Some c → has p Floats ≡ true → class_in p c ≡ Float → ⊥
float_never p byte c e owns f =
    let g : (has p (class_feature c) ≡ false) × (is_floats (class_feature c) ≡ true) = left_float c (has p (class_feature c)) (not_float byte c e) f in
    let k : has p (class_feature c) ≡ true = ap (has p) (floats_feature (class_feature c) g.1) ∙ owns in
    let l : false ≡ true = sym g.0 ∙ k in cc

-- Under no profile has the byte of a float instruction the class None.
pub float_not_none : (p : Profile) (byte : ℕ) (c : OpClass) → slice_get classes byte ≡ Some c → is_float byte ≡ true → class_in p c ≡ None → ⊥
float_not_none p byte c e t n = left_none c (has p (class_feature c)) (is_float_at byte c e ∙ t) n
