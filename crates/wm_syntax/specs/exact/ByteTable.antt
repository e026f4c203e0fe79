-- The code's table of opcodes, for the proofs of `op_of` and `op_behind`, and their exact answer, for the layer
-- above. No promise rests on this table: the other clauses of both use the table of instructions alone.
use Rattle.std.specs.Prelude.{ℕ, List, Option, Some, None as Nothing, slice_get}
use Rattle.std.specs.Prelude.{if◌then◌else◌}
use Rattle.wm_syntax.specs.declared.instructions.LoadOp.TheVariants.{F32Load, F64Load}
use Rattle.wm_syntax.specs.declared.instructions.StoreOp.TheVariants.{F32Store, F64Store}
use Rattle.wm_syntax.specs.declared.instructions.Op.TheVariants as op
use Rattle.wm_syntax.specs.declared.instructions.op_class.Indexed.TheVariants as indexed
use Rattle.wm_syntax.specs.declared.instructions.op_class.MemoryOp.TheVariants as memory
use Rattle.wm_syntax.specs.declared.instructions.op_class.LoadOrStore.TheVariants as accesses
use Rattle.wm_syntax.specs.declared.instructions.op_class.Immediates.TheVariants as k
use Rattle.wm_syntax.specs.declared.instructions.op_class.OpClass.{OpClass}
use Rattle.wm_syntax.specs.declared.instructions.op_class.OpClass.TheVariants.{Plain, With, Float, None}
use Rattle.wm_syntax.specs.declared.instructions.opcodes.TheConstants.{CLASSES, FEATURES}
use Rattle.wm_syntax.specs.declared.profile.Feature.{Feature}
use Rattle.wm_syntax.specs.declared.profile.Feature.TheVariants.{Base, Floats, Copies, BulkMemory}
use Rattle.wm_syntax.specs.declared.profile.Profile.{Profile}
use Rattle.wm_syntax.specs.Profiles.{feature_of, has}

-- The class of each code: the code's own table.
abbrev pub classes : List OpClass
classes = CLASSES

-- The feature of the ops with each code: the code's own table.
abbrev pub features : List Feature
features = FEATURES

-- The feature of the ops of a class.
abbrev pub class_feature : OpClass → Feature
class_feature (Plain (op.Simple i)) = feature_of i
class_feature (With k.F32Const) = Floats
class_feature (With k.F64Const) = Floats
class_feature (With (k.Memory memory.MemoryCopy)) = Copies
class_feature (With (k.Memory memory.MemoryFill)) = Copies
class_feature (With k.MemoryInit) = BulkMemory
class_feature (With (k.Index indexed.DataDrop)) = BulkMemory
class_feature (With k.TableInit) = BulkMemory
class_feature (With (k.Index indexed.ElemDrop)) = BulkMemory
class_feature (With k.TableCopy) = BulkMemory
class_feature (With (k.Access (accesses.Load F32Load))) = Floats
class_feature (With (k.Access (accesses.Load F64Load))) = Floats
class_feature (With (k.Access (accesses.Store F32Store))) = Floats
class_feature (With (k.Access (accesses.Store F64Store))) = Floats
class_feature _ = Base

-- The answer for the ops of a feature that the profile does not have.
abbrev pub left_out : Feature → OpClass
left_out Floats = Float
left_out _ = None

-- The answer for a class under a profile: the class itself if the profile has its feature.
abbrev pub class_in : Profile → OpClass → OpClass
class_in p c = if has p (class_feature c) then c else left_out (class_feature c)

abbrev pub row_in : Profile → Option OpClass → OpClass
row_in p (Some c) = class_in p c
row_in p Nothing = None

-- The class of a code under a profile. A number past the table has the class `None`.
unfoldable pub class_under : Profile → ℕ → OpClass
class_under p code = row_in p (slice_get classes code)
