-- The names of ops by their codes, the codes sorted by name, and the exact answer of `op_named`, for
-- the layer above. No promise rests on these lists: the other clauses use the table of instructions.
use Rattle.std.specs.Prelude.{ℕ, Bool, false, List, [], ◌∷◌, Option, Some, None as Nothing, codes, map}
use Rattle.std.specs.Prelude.{if◌then◌else◌}
use Rattle.std.specs.Str.{bytes_eq}
use Rattle.wm_syntax.specs.declared.instructions.op_class.Immediates.{Immediates}
use Rattle.wm_syntax.specs.declared.instructions.op_class.BlockOp.TheVariants as opening
use Rattle.wm_syntax.specs.declared.instructions.op_class.Indexed.TheVariants as indexed
use Rattle.wm_syntax.specs.declared.instructions.op_class.MemoryOp.TheVariants as memory
use Rattle.wm_syntax.specs.declared.instructions.op_class.LoadOrStore.TheVariants as accesses
use Rattle.wm_syntax.specs.declared.instructions.op_class.Immediates.TheVariants as k
use Rattle.wm_syntax.specs.declared.instructions.op_class.OpClass.{OpClass}
use Rattle.wm_syntax.specs.declared.instructions.op_class.OpClass.TheVariants.{Plain, With, Float, None}
use Rattle.wm_syntax.specs.declared.profile.Profile.{Profile}
use Rattle.wm_syntax.specs.Opcodes.{load, store}
use Rattle.wm_syntax.specs.OpNames.{op_name}
use Rattle.wm_syntax.specs.declared.instructions.op_names.TheConstants.{BY_NAME}
use Rattle.wm_syntax.specs.exact.ByteTable.{classes, class_in}

-- The name of the instructions that have these immediates.
abbrev pub immediates_name : Immediates → List ℕ
immediates_name (k.Block opening.Block) = codes "block"
immediates_name (k.Block opening.Loop) = codes "loop"
immediates_name (k.Block opening.If) = codes "if"
immediates_name (k.Index indexed.Br) = codes "br"
immediates_name (k.Index indexed.BrIf) = codes "br_if"
immediates_name (k.Index indexed.BrTable) = codes "br_table"
immediates_name (k.Index indexed.Call) = codes "call"
immediates_name k.CallIndirect = codes "call_indirect"
immediates_name (k.Index indexed.LocalGet) = codes "local.get"
immediates_name (k.Index indexed.LocalSet) = codes "local.set"
immediates_name (k.Index indexed.LocalTee) = codes "local.tee"
immediates_name (k.Index indexed.GlobalGet) = codes "global.get"
immediates_name (k.Index indexed.GlobalSet) = codes "global.set"
immediates_name (k.Memory memory.MemorySize) = codes "memory.size"
immediates_name (k.Memory memory.MemoryGrow) = codes "memory.grow"
immediates_name (k.Memory memory.MemoryCopy) = codes "memory.copy"
immediates_name (k.Memory memory.MemoryFill) = codes "memory.fill"
immediates_name k.MemoryInit = codes "memory.init"
immediates_name (k.Index indexed.DataDrop) = codes "data.drop"
immediates_name k.TableInit = codes "table.init"
immediates_name (k.Index indexed.ElemDrop) = codes "elem.drop"
immediates_name k.TableCopy = codes "table.copy"
immediates_name k.I32Const = codes "i32.const"
immediates_name k.I64Const = codes "i64.const"
immediates_name k.F32Const = codes "f32.const"
immediates_name k.F64Const = codes "f64.const"
immediates_name (k.Access (accesses.Load o)) = (load o).name
immediates_name (k.Access (accesses.Store o)) = (store o).name

abbrev pub class_name : OpClass → Option (List ℕ)
class_name (Plain o) = op_name o
class_name (With kind) = Some (immediates_name kind)
class_name Float = Nothing
class_name None = Nothing

abbrev pub name_or_none : Option (List ℕ) → List ℕ
name_or_none Nothing = []
name_or_none (Some name) = name

-- The name of each code. It is empty if no op has the code.
abbrev pub names : List (List ℕ)
names = map (λ c. name_or_none (class_name c)) classes

-- The codes of all ops, sorted by name: the code's own list.
abbrev pub by_name : List ℕ
by_name = BY_NAME

-- Whether a class has this name, and the first class of a list that has it.
abbrev pub has_name : OpClass → List ℕ → Bool
has_name c w = elim (class_name c) [ Nothing ↦ false | Some name ↦ bytes_eq name w ]

abbrev pub first_named : List OpClass → List ℕ → OpClass
first_named [] w = None
first_named (c ∷ cs) w = if has_name c w then c else first_named cs w

-- The class of a word under a profile.
unfoldable pub class_named : Profile → List ℕ → OpClass
class_named p w = class_in p (first_named classes w)
