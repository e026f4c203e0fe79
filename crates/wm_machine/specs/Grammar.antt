-- The flat grammar of a whole input: its items in order, each beside the byte that completes it. Core spec 5.5.
--
-- The parameter `demanded` is `strict` or `loose`. Under `strict`, sizes, the UTF-8 of names and the numbers of code
-- entries and data segments must be right. Under `loose` they are not checked: this serves fronts of an input that may
-- still be refused for a size, a name or a count. `Section`, `Custom` and `Customs` have twins of the same name in
-- `Sections.antt`, which speak of a module value.
use Rattle.std.specs.Prelude.{ℕ, zero, suc, ◌+◌, ◌≤◌, ◌≡◌, ◌<◌, ◌^◌, List, [], ◌∷◌, ◌++◌, ◌⊎◌, Some, None, IsTrue}
use Rattle.std.specs.Prelude.{Bool, true, false, Option}
use Rattle.std.specs.List.{AllByRecursion}
use Rattle.wm_syntax.specs.declared.instructions.Op.{Op}
use Rattle.wm_syntax.specs.declared.instructions.Op.TheVariants as op
use Rattle.wm_syntax.specs.declared.modules.ExportKind.{ExportKind}
use Rattle.wm_syntax.specs.declared.types.ValType.{ValType}
use Rattle.wm_syntax.specs.declared.types.GlobalType.{GlobalType}
use Rattle.wm_syntax.specs.declared.profile.Feature.TheVariants.{BulkMemory}
use Rattle.wm_syntax.specs.declared.profile.Profile.{Profile}
use Rattle.wm_syntax.specs.Spelling.{Byte as OneByte, ◌▸◌}
use Rattle.wm_syntax.specs.Types.{SpellsU32, SpellsValType, SpellsLimits, SpellsTableType, SpellsGlobalType}
use Rattle.wm_syntax.specs.Instructions.{openings, endings}
use Rattle.wm_syntax.specs.Encodings.{SpellsOp}
use Rattle.wm_syntax.specs.Profiles.{has, HasDesc, HasType, IsOpOf}
use Rattle.wm_machine.specs.Sections.{Those, SpellsDesc, SpellsRun, kind_byte, header}
use Rattle.wm_machine.specs.Items.{Item, new_type, param, result_count, one_result, import_module, import_name}
use Rattle.wm_machine.specs.Items.{import_desc, function, table, memory, global, const_op, export_name, export}
use Rattle.wm_machine.specs.Items.{start, element, element_function, data_count, body, locals, body_op, segment}
use Rattle.wm_machine.specs.Items.{data_byte, passive_element, passive_segment}
use Rattle.wm_machine.specs.declared.machine.member.SegmentKind.{SegmentKind}
use Rattle.wm_machine.specs.declared.machine.member.SegmentKind.TheVariants as segments
use Rattle.wm_machine.specs.MarkedForms.{MarkedForm, Empty, MarkedByte, Literal, Then, Times, Leaf, Index}
use Rattle.wm_machine.specs.MarkedForms.{MarkedNumber, Vector, Name, Sized, Filled, Entry, nothing_at}
use Rattle.wm_machine.specs.MarkedForms.{marks_ending}

-- sizes, names and counts must be right (`strict`), or are not checked (`loose`)
abbrev pub strict : Type 0
strict = Unit {0}

abbrev pub loose : Type 0
loose = ⊥

-- a value type of the profile (Core spec 5.3.1)
abbrev pub ValueType : Profile → (ValType → Item) → MarkedForm
ValueType p = Leaf (Those (HasType p) SpellsValType)

-- the results of a function type: their number, which is an item, and that many value types (Core spec 5.3.3)
abbrev pub ResultTypes : Profile → MarkedForm
ResultTypes p = MarkedNumber (λ n. Some (result_count n)) (λ n. Times n (ValueType p one_result))

-- a function type: the byte 60, its parameters and its results (Core spec 5.3.3)
abbrev pub FunctionType : Profile → MarkedForm
FunctionType p = Then (MarkedByte 0x60 (Some new_type)) (Then (Vector (ValueType p param)) (ResultTypes p))

-- an import descriptor; the type of a global is of the profile (Core spec 5.5.5)
abbrev pub Desc : Profile → MarkedForm
Desc p = Leaf (Those (HasDesc p) SpellsDesc) import_desc

-- an import: the name of a module, the name of an item in it, and a descriptor (Core spec 5.5.5)
abbrev pub ImportForm : Type 0 → Profile → MarkedForm
ImportForm demanded p =
    Then (Name demanded (λ text. Some (import_module text)))
    (Then (Name demanded (λ text. Some (import_name text))) (Desc p))

-- In `HasLabels n ops` the first n ops are labels. After these, each BrTable(k) is followed by k + 1 labels, and no
-- other op is a label. Core spec 5.4.1.
abbrev pub HasLabels : ℕ → List Op → Type 0
HasLabels zero [] = Unit {0}
HasLabels (suc n) [] = ⊥
HasLabels (suc n) (op.Label l ∷ ops) = HasLabels n ops
HasLabels (suc n) (_ ∷ ops) = ⊥
HasLabels zero (op.Label l ∷ ops) = ⊥
HasLabels zero (op.BrTable n ∷ ops) = HasLabels (suc n) ops
HasLabels zero (_ ∷ ops) = HasLabels zero ops

-- The ops of an expression up to the `end` that closes it. It has one `end` more than openings, and each shorter front
-- has at most as many as openings. An `else` may be anywhere. Core spec 5.4.6.
pub record IsExpression (ops : List Op) : Type 0 where
  pub labels : HasLabels 0 ops
  pub closed : endings ops ≡ openings ops + 1
  pub first : (front back : List Op) → ops ≡ front ++ back → (back ≡ []) ⊎ (endings front ≤ openings front)

-- the bytes of the ops in order; each op is complete at its last byte
abbrev pub EachOp : Profile → (Op → Item) → List Op → MarkedForm
EachOp p part [] = Empty
EachOp p part (o ∷ ops) =
    Then (λ b k. SpellsOp p o b × (k ≡ marks_ending (Some (part o)) b)) (EachOp p part ops)

-- an expression whose ops are all of the profile (Core spec 5.4.6)
abbrev pub Expression : Profile → (Op → Item) → MarkedForm
Expression p part b k = (ops : List Op) × IsExpression ops × AllByRecursion (IsOpOf p) ops
    × EachOp p part ops b k

-- the profile has the value type of the global
abbrev pub HasGlobalType : Profile → GlobalType → Type 0
HasGlobalType p g = HasType p g.ty

-- a global: its type and its initialiser (Core spec 5.5.9)
abbrev pub Global : Profile → MarkedForm
Global p = Then (Leaf (Those (HasGlobalType p) SpellsGlobalType) global) (Expression p const_op)

-- an export descriptor: the byte of a kind, and an index (Core spec 5.5.10)
abbrev pub Target : MarkedForm
Target = Leaf {X = ExportKind × ℕ} (λ t. OneByte (kind_byte t.0) ▸ SpellsU32 t.1) (λ t. export t.0 t.1)

-- an export: a name and a descriptor (Core spec 5.5.10)
abbrev pub ExportForm : Type 0 → MarkedForm
ExportForm demanded = Then (Name demanded (λ text. Some (export_name text))) Target

-- a run of locals: their number and their type, of the profile (Core spec 5.5.13)
abbrev pub Run : Profile → MarkedForm
Run p = Leaf (SpellsRun p) (λ r. locals r.0 r.1)

-- a code entry: a size n, and then its runs of locals and an expression, under `strict` in n bytes (Core spec 5.5.13)
abbrev pub Code : Type 0 → Profile → MarkedForm
Code demanded p =
    MarkedNumber (λ n. Some body)
    (λ n. Sized demanded n (Entry (Then (Vector (Run p)) (Expression p body_op))))

-- one byte of a data segment, which is an item
abbrev pub DataByte : MarkedForm
DataByte = Leaf (λ c b. (b ≡ c ∷ []) × (c < 2 ^ 8)) data_byte

-- the item of an active segment with this index of a table or memory, and that of a passive segment
abbrev pub active_item : SegmentKind → ℕ → Item
active_item segments.Element = element
active_item segments.Data = segment

abbrev pub passive_item : SegmentKind → Item
passive_item segments.Element = passive_element
passive_item segments.Data = passive_segment

-- the last part of a segment: a vector of function indices or of bytes (Core spec 5.5.12, 5.5.14)
abbrev pub SegmentList : SegmentKind → MarkedForm
SegmentList segments.Element = Vector (Index element_function)
SegmentList segments.Data = Vector DataByte

-- the last part of a segment with the flag 1 or 2: the element kind 00 comes before function indices (WebAssembly 2.0,
-- 5.5.12)
abbrev pub KindedList : SegmentKind → MarkedForm
KindedList segments.Element = Then (MarkedByte 0x00 None) (SegmentList segments.Element)
KindedList segments.Data = SegmentList segments.Data

-- The item that the number at the front of a segment completes, if any. Without the feature (`flagged`) the number is
-- the index of a table or memory (Core spec 5.5.12, 5.5.14); with it, it is 0, 1 or 2 (WebAssembly 2.0, 5.5.12, 5.5.14).
abbrev pub segment_item : (flagged : Bool) → SegmentKind → ℕ → Option Item
segment_item false of x = Some (active_item of x)
segment_item true of zero = Some (active_item of 0)
segment_item true of (suc zero) = Some (passive_item of)
segment_item true of n = None

-- The part after that number. With the feature, 1 is the flag of a passive segment, and behind 2 comes the index of a
-- table or memory.
abbrev pub SegmentRest : Profile → (flagged : Bool) → SegmentKind → ℕ → MarkedForm
SegmentRest p false of x = Then (Expression p const_op) (SegmentList of)
SegmentRest p true of zero = Then (Expression p const_op) (SegmentList of)
SegmentRest p true of (suc zero) = KindedList of
SegmentRest p true of (suc (suc zero)) =
    Then (Index (active_item of)) (Then (Expression p const_op) (KindedList of))
SegmentRest p true of n = λ b k. ⊥

-- an element segment or a data segment: a number, and what follows it (Core spec 5.5.12, 5.5.14; WebAssembly 2.0,
-- 5.5.12, 5.5.14)
abbrev pub SegmentForm : Profile → SegmentKind → MarkedForm
SegmentForm p of = MarkedNumber (segment_item (has p BulkMemory) of) (SegmentRest p (has p BulkMemory) of)

-- how many functions, imported ones aside, and how many data segments a module has (Core spec 5.5.15)
pub record ModuleCounts : Type 0 where
  pub functions : ℕ
  pub segments : ℕ

-- The sections other than custom ones have ranks from 1 to 12, and stand in this order. This is the id of the section
-- with a rank. The data count section has the rank 10 and the id 12 (WebAssembly 2.0, 5.5.2 and 5.5.16).
abbrev pub id_at : ℕ → ℕ
id_at (suc (suc (suc (suc (suc (suc (suc (suc (suc (suc zero)))))))))) = 12
id_at (suc (suc (suc (suc (suc (suc (suc (suc (suc (suc (suc zero))))))))))) = 10
id_at (suc (suc (suc (suc (suc (suc (suc (suc (suc (suc (suc (suc zero)))))))))))) = 11
id_at rank = rank

-- the profile has the section with this rank: the data count section needs a feature
abbrev pub HasSection : Profile → (rank : ℕ) → Type 0
HasSection p rank = rank ≡ 10 → IsTrue (has p BulkMemory)

-- a number n, and then P n times; under `strict` n is f
abbrev pub Paired : Type 0 → ℕ → MarkedForm → MarkedForm
Paired demanded f P = MarkedNumber nothing_at (λ n b k. (demanded → n ≡ f) × Times n P b k)

-- a number n, which is an item; under `strict` n is s (WebAssembly 2.0, 5.5.15)
abbrev pub SegmentCount : Type 0 → ℕ → MarkedForm
SegmentCount demanded s = MarkedNumber (λ n. Some (data_count n)) (λ n b k. (demanded → n ≡ s) × Empty b k)

-- A member of the section with this rank; the data count section has none. The start function is the one member of its
-- section. Core spec 5.5.4 to 5.5.14, WebAssembly 2.0 5.5.15.
abbrev pub Member : Type 0 → Profile → (rank : ℕ) → MarkedForm
Member demanded p (suc zero) = FunctionType p
Member demanded p (suc (suc zero)) = ImportForm demanded p
Member demanded p (suc (suc (suc zero))) = Index function
Member demanded p (suc (suc (suc (suc zero)))) = Leaf SpellsTableType table
Member demanded p (suc (suc (suc (suc (suc zero))))) = Leaf SpellsLimits memory
Member demanded p (suc (suc (suc (suc (suc (suc zero)))))) = Global p
Member demanded p (suc (suc (suc (suc (suc (suc (suc zero))))))) = ExportForm demanded
Member demanded p (suc (suc (suc (suc (suc (suc (suc (suc zero)))))))) = Index start
Member demanded p (suc (suc (suc (suc (suc (suc (suc (suc (suc zero))))))))) = SegmentForm p segments.Element
Member demanded p (suc (suc (suc (suc (suc (suc (suc (suc (suc (suc (suc zero))))))))))) = Code demanded p
Member demanded p (suc (suc (suc (suc (suc (suc (suc (suc (suc (suc (suc (suc zero)))))))))))) = SegmentForm p segments.Data
Member demanded p _ = λ b k. ⊥

-- The contents of the section with this rank: the number of its members, and then these. There is no number before the
-- start function, and the data count section is a number alone. Under `strict` the numbers of functions, of code entries
-- and of data segments are those of `d`. Core spec 5.5.4 to 5.5.14, WebAssembly 2.0 5.5.15.
abbrev pub Contents : Type 0 → Profile → (d : ModuleCounts) (rank : ℕ) → MarkedForm
Contents demanded p d (suc zero) = Vector (Member demanded p 1)
Contents demanded p d (suc (suc zero)) = Vector (Member demanded p 2)
Contents demanded p d (suc (suc (suc zero))) = Paired demanded d.functions (Member demanded p 3)
Contents demanded p d (suc (suc (suc (suc zero)))) = Vector (Member demanded p 4)
Contents demanded p d (suc (suc (suc (suc (suc zero))))) = Vector (Member demanded p 5)
Contents demanded p d (suc (suc (suc (suc (suc (suc zero)))))) = Vector (Member demanded p 6)
Contents demanded p d (suc (suc (suc (suc (suc (suc (suc zero))))))) = Vector (Member demanded p 7)
Contents demanded p d (suc (suc (suc (suc (suc (suc (suc (suc zero)))))))) = Member demanded p 8
Contents demanded p d (suc (suc (suc (suc (suc (suc (suc (suc (suc zero))))))))) = Vector (Member demanded p 9)
Contents demanded p d (suc (suc (suc (suc (suc (suc (suc (suc (suc (suc zero)))))))))) =
    SegmentCount demanded d.segments
Contents demanded p d (suc (suc (suc (suc (suc (suc (suc (suc (suc (suc (suc zero))))))))))) =
    Paired demanded d.functions (Member demanded p 11)
Contents demanded p d (suc (suc (suc (suc (suc (suc (suc (suc (suc (suc (suc (suc zero)))))))))))) =
    Paired demanded d.segments (Member demanded p 12)
Contents demanded p d _ = λ b k. ⊥

-- a section: its id, its size n, and contents, under `strict` of n bytes (Core spec 5.5.2)
abbrev pub Section : Type 0 → Profile → (d : ModuleCounts) (rank : ℕ) → MarkedForm
Section demanded p d rank =
    Then (MarkedByte (id_at rank) None) (MarkedNumber nothing_at (λ n. Sized demanded n (Contents demanded p d rank)))

-- a custom section: the id 0, a size, a name, and then any bytes; it has no item (Core spec 5.5.3)
abbrev pub Custom : Type 0 → MarkedForm
Custom demanded =
    Then (MarkedByte 0 None) (MarkedNumber nothing_at (λ n. Filled demanded n (Name demanded (λ text. None))))

-- any number of custom sections
abbrev pub Customs : Type 0 → MarkedForm
Customs demanded b k = (n : ℕ) × Times n (Custom demanded) b k

-- A section may be missing; the function section and the code section only if there are no functions, and the data
-- section only if there are no data segments. Core spec 5.5.2, 5.5.15.
abbrev pub MayMiss : (d : ModuleCounts) (rank : ℕ) → Type 0
MayMiss d rank = ((rank ≡ 3) ⊎ (rank ≡ 11) → d.functions ≡ 0) × (rank ≡ 12 → d.segments ≡ 0)

-- the section, if the profile has it, or no bytes if it may be missing
abbrev pub Optional : Type 0 → Profile → (d : ModuleCounts) (rank : ℕ) → MarkedForm
Optional demanded p d rank b k =
    (HasSection p rank × Section demanded p d rank b k) ⊎ (MayMiss d rank × Empty b k)

-- the `count` sections from `rank` on in order, each may be missing, with custom sections before, between and after them
abbrev pub Chain : Type 0 → Profile → (d : ModuleCounts) (count rank : ℕ) → MarkedForm
Chain demanded p d zero rank = Customs demanded
Chain demanded p d (suc count) rank =
    Then (Customs demanded) (Then (Optional demanded p d rank) (Chain demanded p d count (suc rank)))

-- a module with some numbers of functions and data segments: magic number, version, and the sections with ranks 1 to 12
-- (Core spec 5.5.15)
abbrev pub ModuleForm : Type 0 → Profile → MarkedForm
ModuleForm demanded p b k = (d : ModuleCounts) × Then (Literal header) (Chain demanded p d 12 1) b k

-- `Items p b k`: the bytes b are a whole input under the profile p, checked strictly, and k are their marks
abbrev pub Items : Profile → MarkedForm
Items p = ModuleForm strict p
