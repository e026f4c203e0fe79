-- The instructions and the types of each profile. Each of them belongs to a feature, and a profile is a set of
-- features. `one` is WebAssembly 1.0 without floats, and `two` also has the five sign-extension instructions.
-- `three` is all of WebAssembly 1.0, and `four` also has the five sign-extension instructions. No instruction
-- belongs to `LongIndex`, which adds encodings of `call_indirect`. `Saturation`, `Copies` and `BulkMemory` add
-- instructions of WebAssembly 2.0, and `BulkMemory` also adds its data count section and passive segments.
use Rattle.std.specs.Prelude.{◌≡◌, ◌≢◌, Bool, true, false, ◌||◌, IsTrue, Option, Some, None}
use Rattle.std.specs.List.{AllByRecursion}
use Rattle.wm_syntax.specs.declared.types.Const.{Const}
use Rattle.wm_syntax.specs.declared.types.ValType.{ValType}
use Rattle.wm_syntax.specs.declared.types.ValType.TheVariants.{I32, I64, F32, F64}
use Rattle.wm_syntax.specs.declared.instructions.Simple.{Simple}
use Rattle.wm_syntax.specs.declared.instructions.Simple.TheVariants.{F32Const, F64Const, Load, Store, Numeric}
use Rattle.wm_syntax.specs.declared.instructions.Simple.TheVariants.{MemoryCopy, MemoryFill, MemoryInit, DataDrop}
use Rattle.wm_syntax.specs.declared.instructions.Simple.TheVariants.{TableInit, ElemDrop, TableCopy}
use Rattle.wm_syntax.specs.declared.instructions.Numeric.TheVariants.{FloatCompare, FloatUnary, FloatBinary}
use Rattle.wm_syntax.specs.declared.instructions.Numeric.TheVariants.{Convert, SignExtend, Saturate}
use Rattle.wm_syntax.specs.declared.instructions.LoadOp.TheVariants.{F32Load, F64Load}
use Rattle.wm_syntax.specs.declared.instructions.StoreOp.TheVariants.{F32Store, F64Store}
use Rattle.wm_syntax.specs.declared.instructions.Op.{Op}
use Rattle.wm_syntax.specs.declared.instructions.Op.TheVariants as op
use Rattle.wm_syntax.specs.declared.modules.ImportDesc.{ImportDesc}
use Rattle.wm_syntax.specs.declared.modules.ImportDesc.TheVariants.{Global}
use Rattle.wm_syntax.specs.declared.modules.SegmentMode.{SegmentMode}
use Rattle.wm_syntax.specs.declared.modules.SegmentMode.TheVariants.{Passive, Active}
use Rattle.wm_syntax.specs.declared.profile.Feature.{Feature}
use Rattle.wm_syntax.specs.declared.profile.Feature.TheVariants.{Base, Floats, SignExtension, LongIndex}
use Rattle.wm_syntax.specs.declared.profile.Feature.TheVariants.{Saturation, Copies, BulkMemory}
use Rattle.wm_syntax.specs.declared.profile.Profile.{Profile}
use Rattle.wm_syntax.specs.Types.{Signature}
use Rattle.wm_syntax.specs.Instructions.{Instruction, Instructions, none, snoc, simple, table, block, loop}
use Rattle.wm_syntax.specs.Instructions.{choice}
use Rattle.wm_syntax.specs.Modules.{Function, GlobalDef, Module, constant}

-- Whether a profile has a feature.
abbrev pub has : Profile → Feature → Bool
has p Base = true
has p Floats = p.floats
has p SignExtension = p.sign_extension
has p LongIndex = p.long_index
has p Saturation = p.saturation
has p Copies = p.copies
has p BulkMemory = p.bulk_memory

-- Whether a profile has a feature whose instructions begin with the byte FC.
abbrev pub has_prefix : Profile → Bool
has_prefix p = has p Saturation || (has p Copies || has p BulkMemory)

-- The profile `p` is `base` with this feature added.
pub record AddsFeature (base : Profile) (feature : Feature) (p : Profile) : Type 0 where
  pub added : IsTrue (has p feature)
  pub others : (other : Feature) → other ≢ feature → has p other ≡ has base other

-- The profiles that have a number.
abbrev pub one : Profile
one = record {
  floats = false;
  sign_extension = false;
  long_index = false;
  saturation = false;
  copies = false;
  bulk_memory = false;
}

abbrev pub two : Profile
two = record {
  floats = false;
  sign_extension = true;
  long_index = false;
  saturation = false;
  copies = false;
  bulk_memory = false;
}

abbrev pub three : Profile
three = record {
  floats = true;
  sign_extension = false;
  long_index = false;
  saturation = false;
  copies = false;
  bulk_memory = false;
}

abbrev pub four : Profile
four = record {
  floats = true;
  sign_extension = true;
  long_index = false;
  saturation = false;
  copies = false;
  bulk_memory = false;
}

-- The profile that has every feature.
abbrev pub every : Profile
every = record {
  floats = true;
  sign_extension = true;
  long_index = true;
  saturation = true;
  copies = true;
  bulk_memory = true;
}

-- The profile q has every feature of p.
abbrev pub Extends : Profile → Profile → Type 0
Extends q p = (f : Feature) → IsTrue (has p f) → IsTrue (has q f)

-- The feature of an instruction.
abbrev pub feature_of : Simple → Feature
feature_of (F32Const n) = Floats
feature_of (F64Const n) = Floats
feature_of (Load F32Load at) = Floats
feature_of (Load F64Load at) = Floats
feature_of (Store F32Store at) = Floats
feature_of (Store F64Store at) = Floats
feature_of (Numeric (FloatCompare t op)) = Floats
feature_of (Numeric (FloatUnary t op)) = Floats
feature_of (Numeric (FloatBinary t op)) = Floats
feature_of (Numeric (Convert op)) = Floats
feature_of (Numeric (SignExtend op)) = SignExtension
feature_of (Numeric (Saturate op)) = Saturation
feature_of MemoryCopy = Copies
feature_of MemoryFill = Copies
feature_of (MemoryInit x) = BulkMemory
feature_of (DataDrop x) = BulkMemory
feature_of (TableInit x) = BulkMemory
feature_of (ElemDrop x) = BulkMemory
feature_of TableCopy = BulkMemory
feature_of _ = Base

-- The feature of a value type.
abbrev pub type_feature : ValType → Feature
type_feature I32 = Base
type_feature I64 = Base
type_feature F32 = Floats
type_feature F64 = Floats

-- An instruction belongs to a profile if the profile has its feature.
abbrev pub HasSimple : Profile → Simple → Type 0
HasSimple p i = IsTrue (has p (feature_of i))

-- A value type belongs to a profile if the profile has its feature.
abbrev pub HasType : Profile → ValType → Type 0
HasType p t = IsTrue (has p (type_feature t))

-- A block type belongs to a profile if it has no result, or the result's type belongs to the profile.
abbrev pub HasBlockType : Profile → Option ValType → Type 0
HasBlockType p None = Unit {0}
HasBlockType p (Some t) = HasType p t

-- A constant expression belongs to a profile if its instruction does.
abbrev pub HasConst : Profile → Const → Type 0
HasConst p c = HasSimple p (constant c)

-- An op of the flat form belongs to a profile if its instruction or its block type does. All other ops belong
-- to every profile.
abbrev pub IsOpOf : Profile → Op → Type 0
IsOpOf p (op.Simple i) = HasSimple p i
IsOpOf p (op.Block t) = HasBlockType p t
IsOpOf p (op.Loop t) = HasBlockType p t
IsOpOf p (op.If t) = HasBlockType p t
IsOpOf p _ = Unit {0}

-- A tree or a list belongs to a profile if every instruction and every block type in it does.
abbrev mutual
  pub HasInstruction : Profile → Instruction → Type 0
  HasInstruction p (simple i) = HasSimple p i
  HasInstruction p (table labels default) = Unit {0}
  HasInstruction p (block t body) = HasBlockType p t × HasInstructions p body
  HasInstruction p (loop t body) = HasBlockType p t × HasInstructions p body
  HasInstruction p (choice t first second) =
      HasBlockType p t × HasInstructions p first × HasInstructions p second

  pub HasInstructions : Profile → Instructions → Type 0
  HasInstructions p none = Unit {0}
  HasInstructions p (snoc s i) = HasInstructions p s × HasInstruction p i

-- A function type belongs to a profile if its value types do.
abbrev pub HasSignature : Profile → Signature → Type 0
HasSignature p f = AllByRecursion (HasType p) f.params × AllByRecursion (HasType p) f.results

-- The description of an import belongs to a profile, except that of a global whose type does not.
abbrev pub HasDesc : Profile → ImportDesc → Type 0
HasDesc p (Global g) = HasType p g.ty
HasDesc p _ = Unit {0}

-- A function belongs to a profile if the types of its locals and its body do.
abbrev pub HasFunction : Profile → Function → Type 0
HasFunction p f = AllByRecursion (HasType p) f.locals × HasInstructions p f.body

-- A global belongs to a profile if its type and its initialiser do.
abbrev pub HasGlobal : Profile → GlobalDef → Type 0
HasGlobal p g = HasType p g.ty.ty × HasConst p g.init

-- The mode of an active segment belongs to a profile if its offset does, and that of a passive one if the profile has
-- the feature.
abbrev pub HasMode : Profile → SegmentMode → Type 0
HasMode p Passive = IsTrue (has p BulkMemory)
HasMode p (Active x offset) = HasConst p offset

-- A module belongs to a profile if each value type, each constant expression, each instruction and each mode of a
-- segment in it does.
pub record IsOf (p : Profile) (m : Module) : Type 0 where
  pub types : AllByRecursion (HasSignature p) m.types
  pub imports : AllByRecursion (λ i. HasDesc p i.desc) m.imports
  pub functions : AllByRecursion (HasFunction p) m.functions
  pub globals : AllByRecursion (HasGlobal p) m.globals
  pub elements : AllByRecursion (λ e. HasMode p e.mode) m.elements
  pub segments : AllByRecursion (λ s. HasMode p s.mode) m.segments
