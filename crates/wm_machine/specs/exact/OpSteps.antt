-- Exact answers of the reader of one op.
use Rattle.std.specs.Prelude.{ℕ, zero, suc, nat_lt, ◌+◌, ◌-◌, ◌*◌, ◌/◌, ◌^◌, ◌==◌, ℤ, if◌then◌else◌, Some}
use Rattle.std.specs.Prelude.{None as Nothing}
use Rattle.wm_syntax.specs.declared.numbers.Step.{Step}
use Rattle.wm_syntax.specs.declared.numbers.Step.TheVariants as step
use Rattle.wm_syntax.specs.inner.Numbers.{Partial}
use Rattle.wm_syntax.specs.exact.Reading.{fresh, unsigned_push, signed_push}
use Rattle.wm_syntax.specs.exact.ByteTable.{class_under}
use Rattle.wm_syntax.specs.exact.OpShapes.{access_op, block_op, index_op, memory_op}
use Rattle.wm_syntax.specs.declared.profile.Profile.{Profile}
use Rattle.wm_syntax.specs.declared.profile.Feature.{Feature}
use Rattle.wm_syntax.specs.declared.profile.Feature.TheVariants.{BulkMemory, LongIndex}
use Rattle.wm_syntax.specs.Profiles.{has, has_prefix}
use Rattle.wm_syntax.specs.declared.why.Why.TheVariants as why
use Rattle.wm_syntax.specs.declared.instructions.Simple.TheVariants as s
use Rattle.wm_syntax.specs.declared.instructions.Op.{Op}
use Rattle.wm_syntax.specs.declared.instructions.Op.TheVariants as op
use Rattle.wm_syntax.specs.declared.instructions.op_class.Immediates.{Immediates}
use Rattle.wm_syntax.specs.declared.instructions.op_class.Immediates.TheVariants as k
use Rattle.wm_syntax.specs.declared.instructions.op_class.OpClass.{OpClass}
use Rattle.wm_syntax.specs.declared.instructions.op_class.OpClass.TheVariants.{Plain, With, Float, None}
use Rattle.wm_machine.specs.declared.step.reading.Reading.{Reading}
use Rattle.wm_machine.specs.declared.step.reading.Reading.TheVariants.{More, Done, Bad}
use Rattle.wm_syntax.specs.declared.instructions.op_class.BlockOp.{BlockOp}
use Rattle.wm_syntax.specs.declared.instructions.op_class.Indexed.{Indexed}
use Rattle.wm_syntax.specs.declared.instructions.op_class.MemoryOp.TheVariants as memory
use Rattle.wm_syntax.specs.declared.instructions.op_class.LoadOrStore.{LoadOrStore}
use Rattle.wm_machine.specs.declared.step.ops.TableOp.{TableOp}
use Rattle.wm_machine.specs.declared.step.ops.TableOp.TheVariants as table
use Rattle.wm_machine.specs.declared.step.ops.InOp.{InOp}
use Rattle.wm_machine.specs.declared.step.ops.InOp.TheVariants as at
use Rattle.wm_machine.specs.exact.ValueSteps.{read_type, value_type_of}

-- ops by their immediates
abbrev pub call_op : ℕ → Op
call_op n = op.Simple (s.CallIndirect n)

abbrev pub init_op : ℕ → Op
init_op n = op.Simple (s.MemoryInit n)

abbrev pub init_table_op : ℕ → Op
init_table_op n = op.Simple (s.TableInit n)

abbrev pub copy_table_op : Op
copy_table_op = op.Simple s.TableCopy

abbrev pub const_32_op : ℤ → Op
const_32_op z = op.Simple (s.I32Const z)

abbrev pub const_64_op : ℤ → Op
const_64_op z = op.Simple (s.I64Const z)

abbrev pub float_32_op : ℕ → Op
float_32_op n = op.Simple (s.F32Const n)

abbrev pub float_64_op : ℕ → Op
float_64_op n = op.Simple (s.F64Const n)

-- the result that follows an answer of the reader of a number
abbrev pub on_answer : {T A : Type 0} → Step T × Partial → (Partial → A) → (T → A) → A → A
on_answer (step.More, r) more done bad = more r
on_answer (step.Done v, r) more done bad = done v
on_answer (step.Bad, r) more done bad = bad

-- the states before immediates
abbrev pub fresh_index : Indexed → InOp
fresh_index i = at.Index i fresh

abbrev pub fresh_access : LoadOrStore → InOp
fresh_access a = at.Align a fresh

abbrev pub immediates : Immediates → InOp
immediates (k.Block o) = at.BlockType o
immediates (k.Index i) = fresh_index i
immediates k.CallIndirect = at.CallType fresh
immediates k.MemoryInit = at.InitSegment fresh
immediates (k.Memory memory.MemoryCopy) = at.FirstZero
immediates (k.Memory m) = at.Memory m
immediates k.TableInit = at.InitElement fresh
immediates k.TableCopy = at.Table table.CopyTo 4
immediates k.I32Const = at.Const32 fresh
immediates k.I64Const = at.Const64 fresh
immediates k.F32Const = at.Float32 3 0
immediates k.F64Const = at.Float64 7 0
immediates (k.Access a) = fresh_access a

-- the last byte of a code, by the class of the code
abbrev pub class_step : OpClass → Reading InOp Op
class_step (Plain o) = Done o
class_step (With kind) = More (immediates kind)
class_step Float = Bad why.Float
class_step None = Bad why.BadOpcode

-- the first byte: FC, or a code
abbrev pub prefix_step : Profile → Reading InOp Op
prefix_step p = if has_prefix p then More at.Code else Bad why.BadOpcode

abbrev pub begin_step : Profile → ℕ → Reading InOp Op
begin_step p c = if c == 0xFC then prefix_step p else class_step (class_under p c)

-- The number behind FC: its first byte, and each later one, with at most `left` after it. Its low seven bits are the
-- number of an instruction, and its other bits are 0.
abbrev pub behind_step : Profile → ℕ → Reading InOp Op
behind_step p n = class_step (class_under p (0x100 + n))

abbrev pub padded : Reading InOp Op → ℕ → Reading InOp Op
padded (Bad w) n = Bad w
padded (More r) n = More (at.Padding n 3)
padded (Done o) n = More (at.Padding n 3)

abbrev pub code_step : Profile → ℕ → Reading InOp Op
code_step p c = if nat_lt c 0x80 then behind_step p c else padded (behind_step p (c - 0x80)) (c - 0x80)

abbrev pub more_padding : ℕ → ℕ → ℕ → Reading InOp Op
more_padding n zero c = Bad why.BadOpcode
more_padding n (suc left) c = if c == 0x80 then More (at.Padding n left) else Bad why.BadOpcode

abbrev pub padding_step : Profile → ℕ → ℕ → ℕ → Reading InOp Op
padding_step p n left c = if c == 0x00 then behind_step p n else more_padding n left c

abbrev pub block_step : Profile → BlockOp → ℕ → Reading InOp Op
block_step p o c =
    if c == 0x40 then Done (block_op o Nothing)
    else read_type (value_type_of p c) (λ t. Done (block_op o (Some t)))

abbrev pub op_index_step : Indexed → Partial → ℕ → Reading InOp Op
op_index_step i r c =
    on_answer (unsigned_push 32 r c) (λ s. More (at.Index i s)) (λ n. Done (index_op i n)) (Bad why.BadNumber)

abbrev pub call_type_step : Partial → ℕ → Reading InOp Op
call_type_step r c =
    on_answer (unsigned_push 32 r c) (λ s. More (at.CallType s)) (λ n. More (at.Table (table.Call n) 4))
    (Bad why.BadNumber)

abbrev pub init_element_step : Partial → ℕ → Reading InOp Op
init_element_step r c =
    on_answer (unsigned_push 32 r c) (λ s. More (at.InitElement s)) (λ n. More (at.Table (table.Init n) 4))
    (Bad why.BadNumber)

abbrev pub init_segment_step : Partial → ℕ → Reading InOp Op
init_segment_step r c =
    on_answer (unsigned_push 32 r c) (λ s. More (at.InitSegment s)) (λ n. More (at.InitMemory n)) (Bad why.BadNumber)

-- the byte 00 that ends an op
abbrev pub closing_step : Op → ℕ → Reading InOp Op
closing_step o c = if c == 0x00 then Done o else Bad why.BadByte

-- the first of the two bytes 00 that end a memory.copy
abbrev pub first_zero_step : ℕ → Reading InOp Op
first_zero_step c = if c == 0x00 then More (at.Memory memory.MemoryCopy) else Bad why.BadByte

-- the feature with which bytes 80 may come before the byte 00 of a table index
abbrev pub table_feature : TableOp → Feature
table_feature (table.Call n) = LongIndex
table_feature t = BulkMemory

-- what follows a table index
abbrev pub after_table : TableOp → Reading InOp Op
after_table (table.Call n) = Done (call_op n)
after_table (table.Init n) = Done (init_table_op n)
after_table table.CopyTo = More (at.Table table.CopyFrom 4)
after_table table.CopyFrom = Done copy_table_op

-- A byte of a table index, with at most `left` bytes after this one.
abbrev pub long_step : TableOp → ℕ → ℕ → Reading InOp Op
long_step t zero c = Bad why.BadNumber
long_step t (suc left) c = if c == 0x80 then More (at.Table t left) else Bad why.BadNumber

abbrev pub table_step : Profile → TableOp → ℕ → ℕ → Reading InOp Op
table_step p t left c =
    if c == 0x00 then after_table t
    else (if has p (table_feature t) then long_step t left c else Bad why.BadByte)

abbrev pub const_32_step : Partial → ℕ → Reading InOp Op
const_32_step r c =
    on_answer (signed_push 32 r c) (λ s. More (at.Const32 s)) (λ z. Done (const_32_op z)) (Bad why.BadNumber)

abbrev pub const_64_step : Partial → ℕ → Reading InOp Op
const_64_step r c =
    on_answer (signed_push 64 r c) (λ s. More (at.Const64 s)) (λ z. Done (const_64_op z)) (Bad why.BadNumber)

-- One more byte of a float becomes the highest, and moves those before it down by one. A float has its lowest byte
-- first, so at the end all bytes are where they belong.
abbrev pub pushed : ℕ → ℕ → ℕ → ℕ
pushed top low c = low / 256 + c * top

abbrev pub pushed_32 : ℕ → ℕ → ℕ
pushed_32 = pushed (2 ^ 24)

abbrev pub pushed_64 : ℕ → ℕ → ℕ
pushed_64 = pushed (2 ^ 56)

-- one byte of a float, with `left` bytes after it
abbrev pub float_32_step : ℕ → ℕ → ℕ → Reading InOp Op
float_32_step zero low c = Done (float_32_op (pushed_32 low c))
float_32_step (suc left) low c = More (at.Float32 left (pushed_32 low c))

abbrev pub float_64_step : ℕ → ℕ → ℕ → Reading InOp Op
float_64_step zero low c = Done (float_64_op (pushed_64 low c))
float_64_step (suc left) low c = More (at.Float64 left (pushed_64 low c))

abbrev pub align_step : LoadOrStore → Partial → ℕ → Reading InOp Op
align_step a r c =
    on_answer (unsigned_push 32 r c) (λ s. More (at.Align a s)) (λ n. More (at.Offset a n fresh))
    (Bad why.BadNumber)

abbrev pub offset_step : LoadOrStore → ℕ → Partial → ℕ → Reading InOp Op
offset_step a align r c =
    on_answer (unsigned_push 32 r c) (λ s. More (at.Offset a align s))
    (λ n. Done (access_op a (record { align = align; offset = n }))) (Bad why.BadNumber)

abbrev pub op_push : Profile → InOp → ℕ → Reading InOp Op
op_push p at.First c = begin_step p c
op_push p at.Code c = code_step p c
op_push p (at.Padding n left) c = padding_step p n left c
op_push p (at.BlockType o) c = block_step p o c
op_push p (at.Index i r) c = op_index_step i r c
op_push p (at.CallType r) c = call_type_step r c
op_push p (at.Table t left) c = table_step p t left c
op_push p (at.InitElement r) c = init_element_step r c
op_push p (at.InitSegment r) c = init_segment_step r c
op_push p (at.InitMemory n) c = closing_step (init_op n) c
op_push p at.FirstZero c = first_zero_step c
op_push p (at.Memory m) c = closing_step (memory_op m) c
op_push p (at.Const32 r) c = const_32_step r c
op_push p (at.Const64 r) c = const_64_step r c
op_push p (at.Float32 left low) c = float_32_step left low c
op_push p (at.Float64 left low) c = float_64_step left low c
op_push p (at.Align a r) c = align_step a r c
op_push p (at.Offset a align r) c = offset_step a align r c
