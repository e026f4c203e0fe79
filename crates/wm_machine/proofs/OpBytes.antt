-- The code of an op, and what follows it.
use Rattle.std.proofs.Common.{◌≡◌, ◌⊎◌, IsTrue, ℕ, ◌<◌, ◌≤◌, List, [], ◌∷◌, ◌++◌, Option, Some, refl, sym, ap, ◌∙◌, subst, inl, inr, append-nil, arith}
use Rattle.std.specs.Prelude.{None as Nothing}
use Rattle.wm_syntax.specs.declared.profile.Profile.{Profile}
use Rattle.wm_syntax.specs.declared.instructions.LoadOp.TheVariants.{F32Load, F64Load}
use Rattle.wm_syntax.specs.declared.instructions.StoreOp.TheVariants.{F32Store, F64Store}
use Rattle.wm_syntax.specs.declared.instructions.Simple.{Simple}
use Rattle.wm_syntax.specs.declared.instructions.Simple.TheVariants as s
use Rattle.wm_syntax.specs.declared.instructions.Op.{Op}
use Rattle.wm_syntax.specs.declared.instructions.Op.TheVariants as op
use Rattle.wm_syntax.specs.declared.instructions.op_class.Immediates.{Immediates}
use Rattle.wm_syntax.specs.declared.instructions.op_class.MemoryOp.TheVariants as memory
use Rattle.wm_syntax.specs.declared.instructions.op_class.Indexed.TheVariants as indexed
use Rattle.wm_syntax.specs.declared.instructions.op_class.LoadOrStore.TheVariants as accesses
use Rattle.wm_syntax.specs.declared.instructions.op_class.BlockOp.TheVariants as opening
use Rattle.wm_syntax.specs.declared.instructions.op_class.Immediates.TheVariants as k
use Rattle.wm_syntax.specs.declared.instructions.op_class.OpClass.{OpClass}
use Rattle.wm_syntax.specs.declared.instructions.op_class.OpClass.TheVariants.{Plain, With, Float, None}
use Rattle.wm_syntax.specs.Opcodes.{opcode, load, store}
use Rattle.wm_syntax.specs.OpClasses.{class_of, code}
use Rattle.wm_syntax.specs.Profiles.{has, feature_of, HasBlockType, IsOpOf}
use Rattle.wm_syntax.specs.exact.ByteTable.{class_feature}
use Rattle.wm_syntax.specs.Spelling.{Form, Byte, Exactly, ◌▸◌}
use Rattle.wm_syntax.specs.Types.{SpellsBlockType, SpellsU32}
use Rattle.wm_syntax.specs.Encodings.{SpellsOpcode, SpellsOp, SpellsImmediates}
use Rattle.wm_syntax.proofs.CodeBytes.{Prefixed, byte_only, byte_spells, code_forms}
use Rattle.wm_machine.proofs.FirstBytes.{not_nil}

-- an op other than a label
abbrev pub NoLabel : Op → Type 0
NoLabel (op.Label l) = ⊥
NoLabel o = Unit {0}

-- an op that has immediates
abbrev pub HasImmediates : Op → Type 0
HasImmediates o = (kind : Immediates) × (class_of o ≡ With kind)

pub no_label : (o : Op) → HasImmediates o → NoLabel o
no_label (op.Label l) h = let e : Plain (op.Label l) ≡ With h.0 = h.1 in cc
no_label _ h = tt

-- an op is of the feature of its class
simple_feature : (i : Simple) → class_feature (class_of (op.Simple i)) ≡ feature_of i
simple_feature (s.Numeric x) = refl
simple_feature (s.Load F32Load at) = refl
simple_feature (s.Load F64Load at) = refl
simple_feature (s.Load _ at) = refl
simple_feature (s.Store F32Store at) = refl
simple_feature (s.Store F64Store at) = refl
simple_feature (s.Store _ at) = refl
simple_feature _ = refl

-- a block type of the profile, where the op has one
abbrev pub HasOpType : Profile → Op → Type 0
HasOpType p (op.Block t) = HasBlockType p t
HasOpType p (op.Loop t) = HasBlockType p t
HasOpType p (op.If t) = HasBlockType p t
HasOpType p o = Unit {0}

-- so it is of each profile that has its class
pub of_class : (p : Profile) (o : Op) → IsTrue (has p (class_feature (class_of o))) → HasOpType p o → IsOpOf p o
of_class p (op.Simple i) h t = ap (has p) (sym (simple_feature i)) ∙ h
of_class p (op.Block t) h i = i
of_class p (op.Loop t) h i = i
of_class p (op.If t) h i = i
of_class p _ h t = tt

-- the code of a class
kind_code : Immediates → ℕ
kind_code (k.Block opening.Block) = 0x02
kind_code (k.Block opening.Loop) = 0x03
kind_code (k.Block opening.If) = 0x04
kind_code (k.Index indexed.Br) = 0x0C
kind_code (k.Index indexed.BrIf) = 0x0D
kind_code (k.Index indexed.BrTable) = 0x0E
kind_code (k.Index indexed.Call) = 0x10
kind_code k.CallIndirect = 0x11
kind_code (k.Index indexed.LocalGet) = 0x20
kind_code (k.Index indexed.LocalSet) = 0x21
kind_code (k.Index indexed.LocalTee) = 0x22
kind_code (k.Index indexed.GlobalGet) = 0x23
kind_code (k.Index indexed.GlobalSet) = 0x24
kind_code (k.Memory memory.MemorySize) = 0x3F
kind_code (k.Memory memory.MemoryGrow) = 0x40
kind_code (k.Memory memory.MemoryCopy) = 0x10A
kind_code (k.Memory memory.MemoryFill) = 0x10B
kind_code k.MemoryInit = 0x108
kind_code (k.Index indexed.DataDrop) = 0x109
kind_code k.TableInit = 0x10C
kind_code (k.Index indexed.ElemDrop) = 0x10D
kind_code k.TableCopy = 0x10E
kind_code k.I32Const = 0x41
kind_code k.I64Const = 0x42
kind_code k.F32Const = 0x43
kind_code k.F64Const = 0x44
kind_code (k.Access (accesses.Load o)) = (load o).byte
kind_code (k.Access (accesses.Store o)) = (store o).byte

class_code : OpClass → Option ℕ
class_code (Plain o) = code o
class_code (With kind) = Some (kind_code kind)
class_code Float = Nothing
class_code None = Nothing

code_of_class : (o : Op) → code o ≡ class_code (class_of o)
unfolding class_code kind_code
code_of_class (op.Simple (s.Load o at)) = refl
code_of_class (op.Simple _) = refl
code_of_class _ = refl

-- ops of one class with immediates have one code
pub one_code : (o q : Op) (kind : Immediates) → class_of o ≡ With kind → class_of q ≡ With kind → code o ≡ code q
one_code o q kind e f = code_of_class o ∙ ap class_code (e ∙ sym f) ∙ sym (code_of_class q)

-- each op but a label has a code
pub has_first : (o : Op) → NoLabel o → (c : ℕ) × (code o ≡ Some c)
has_first (op.Simple i) n = ((opcode i).0, refl)
has_first (op.Block t) n = (0x02, refl)
has_first (op.Loop t) n = (0x03, refl)
has_first (op.If t) n = (0x04, refl)
has_first op.Else n = (0x05, refl)
has_first op.End n = (0x0B, refl)
has_first (op.BrTable m) n = (0x0E, refl)
has_first (op.Label l) n = absurd n

-- an op that is its code alone
pub plain_same : (o v : Op) → class_of o ≡ Plain v → o ≡ v
plain_same (op.Simple s.Unreachable) v e = cc
plain_same (op.Simple s.Nop) v e = cc
plain_same (op.Simple s.Return) v e = cc
plain_same (op.Simple s.Drop) v e = cc
plain_same (op.Simple s.Select) v e = cc
plain_same (op.Simple (s.Numeric i)) v e = cc
plain_same op.Else v e = cc
plain_same op.End v e = cc
plain_same (op.Label l) v e = cc
plain_same _ v e = cc

-- the bytes after the code of an op
abbrev pub AfterCode : Profile → Op → Form ℕ
AfterCode p (op.Simple i) = SpellsImmediates p i
AfterCode p (op.Block t) = SpellsBlockType t
AfterCode p (op.Loop t) = SpellsBlockType t
AfterCode p (op.If t) = SpellsBlockType t
AfterCode p (op.BrTable n) = SpellsU32 n
AfterCode p _ = Exactly []

no_immediates : (p : Profile) (i : Simple) → class_of (op.Simple i) ≡ Plain (op.Simple i) → SpellsImmediates p i []
no_immediates p s.Unreachable e = refl
no_immediates p s.Nop e = refl
no_immediates p s.Return e = refl
no_immediates p s.Drop e = refl
no_immediates p s.Select e = refl
no_immediates p (s.Numeric i) e = refl
no_immediates p _ e = cc

pub nothing_after : (p : Profile) (o : Op) → class_of o ≡ Plain o → AfterCode p o []
nothing_after p (op.Simple i) e = no_immediates p i e
nothing_after p op.Else e = refl
nothing_after p op.End e = refl
nothing_after p (op.Label l) e = refl
nothing_after p _ e = cc

-- an op is its code and what follows
some_same : {x y : ℕ} → Some x ≡ Some y → x ≡ y
some_same e = cc

by_byte : (x c : ℕ) (P : Form ℕ) → Some x ≡ Some c → c < 0x100 → (b : List ℕ) → (Byte x ▸ P) b → (SpellsOpcode c ▸ P) b
by_byte x c P f l b (front, back, e, h, k) = (front, back, e, byte_spells c front l (h ∙ ap (λ (n : ℕ). n ∷ []) (some_same f)), k)

alone : (x c : ℕ) → Some x ≡ Some c → c < 0x100 → (b : List ℕ) → Byte x b → (SpellsOpcode c ▸ Exactly []) b
alone x c f l b h = (b, [], sym (append-nil b), byte_spells c b l (h ∙ ap (λ (n : ℕ). n ∷ []) (some_same f)), refl)

below : (x c : ℕ) → Some x ≡ Some c → x < 0x100 → c < 0x100
below x c f l = subst (λ (n : ℕ). n < 0x100) (some_same f) l

pub code_first : (p : Profile) (o : Op) (c : ℕ) → code o ≡ Some c → (b : List ℕ) → SpellsOp p o b → (SpellsOpcode c ▸ AfterCode p o) b
code_first p (op.Simple i) c f b (x, y, e, h, k) = (x, y, e, subst (λ (n : ℕ). SpellsOpcode n x) (some_same f) h, k)
code_first p (op.Block t) c f b h = by_byte 0x02 c _ f (below 0x02 c f (omega arith)) b h
code_first p (op.Loop t) c f b h = by_byte 0x03 c _ f (below 0x03 c f (omega arith)) b h
code_first p (op.If t) c f b h = by_byte 0x04 c _ f (below 0x04 c f (omega arith)) b h
code_first p op.Else c f b h = alone 0x05 c f (below 0x05 c f (omega arith)) b h
code_first p op.End c f b h = alone 0x0B c f (below 0x0B c f (omega arith)) b h
code_first p (op.BrTable n) c f b h = by_byte 0x0E c _ f (below 0x0E c f (omega arith)) b h
code_first p (op.Label l) c f b h = cc

to_byte : (x c : ℕ) (P : Form ℕ) → Some x ≡ Some c → x < 0x100 → (b : List ℕ) → (SpellsOpcode c ▸ P) b → (Byte x ▸ P) b
to_byte x c P f l b (front, back, e, h, k) = (front, back, e, byte_only x front l (subst (λ (n : ℕ). SpellsOpcode n front) (sym (some_same f)) h), k)

only : (x c : ℕ) → Some x ≡ Some c → x < 0x100 → (b : List ℕ) → (SpellsOpcode c ▸ Exactly []) b → Byte x b
only x c f l b (front, back, e, h, k) = e ∙ ap (λ (z : List ℕ). front ++ z) k ∙ append-nil front ∙ byte_only x front l (subst (λ (n : ℕ). SpellsOpcode n front) (sym (some_same f)) h)

pub from_code : (p : Profile) (o : Op) (c : ℕ) → code o ≡ Some c → (b : List ℕ) → (SpellsOpcode c ▸ AfterCode p o) b → SpellsOp p o b
from_code p (op.Simple i) c f b (x, y, e, h, k) = (x, y, e, subst (λ (n : ℕ). SpellsOpcode n x) (sym (some_same f)) h, k)
from_code p (op.Block t) c f b h = to_byte 0x02 c _ f (omega arith) b h
from_code p (op.Loop t) c f b h = to_byte 0x03 c _ f (omega arith) b h
from_code p (op.If t) c f b h = to_byte 0x04 c _ f (omega arith) b h
from_code p op.Else c f b h = only 0x05 c f (omega arith) b h
from_code p op.End c f b h = only 0x0B c f (omega arith) b h
from_code p (op.BrTable n) c f b h = to_byte 0x0E c _ f (omega arith) b h
from_code p (op.Label l) c f b h = cc

-- an op that has a code is no label
pub coded_named : (o : Op) (c : ℕ) → code o ≡ Some c → NoLabel o
coded_named (op.Label l) c e = absurd (cc)
coded_named _ c e = tt

-- an op has a byte
pub op_some : (p : Profile) (o : Op) → NoLabel o → SpellsOp p o [] → ⊥
op_some p o n h = let f = has_first o n in let g = code_first p o f.0 f.1 [] h in code_some f.0 g.0 g.1 g.2 g.3
  where
    code_some : (c : ℕ) (x y : List ℕ) → [] ≡ x ++ y → SpellsOpcode c x → ⊥
    code_some c x y e h = by x (code_forms c x h) e
      where
        by : (x : List ℕ) → ((c < 0x100) × (x ≡ c ∷ [])) ⊎ ((0x100 ≤ c) × Prefixed c x) → [] ≡ x ++ y → ⊥
        by x (inl f) e = not_nil c y (sym (e ∙ ap (λ (z : List ℕ). z ++ y) f.1))
        by x (inr (l, (u, v, f, g, k))) e = not_nil 0xFC (v ++ y) (sym (e ∙ ap (λ (z : List ℕ). z ++ y) (f ∙ ap (λ (z : List ℕ). z ++ v) g)))
