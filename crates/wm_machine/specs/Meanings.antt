-- The meaning of the name of a refusal: a statement about the bytes up to its offset. The last of them decided, or the
-- input ends there.
use Rattle.std.specs.Prelude.{◌≡◌, ◌≢◌, ℕ, ◌+◌, ◌<◌, ◌≤◌, ◌⊎◌, List, [], ◌∷◌, ◌++◌, length, take}
use Rattle.std.specs.Prelude.{slice_index, Some, Result, Ok, Err, Option, IsTrue, IsUtf8, ℤ}
use Rattle.std.specs.List.{AllByRecursion}
use Rattle.wm_syntax.specs.declared.why.Why.{Why}
use Rattle.wm_syntax.specs.declared.why.Why.TheVariants as why
use Rattle.wm_syntax.specs.declared.types.ValType.{ValType}
use Rattle.wm_syntax.specs.declared.instructions.Op.{Op}
use Rattle.wm_syntax.specs.declared.modules.ExportKind.{ExportKind}
use Rattle.wm_syntax.specs.Spelling.{Form, Byte, Exactly, Each, ◌▸◌, ◌∣◌}
use Rattle.wm_syntax.specs.Leb128.{Unsigned, Signed}
use Rattle.wm_syntax.specs.Types.{SpellsU32, SpellsName, SpellsValType, SpellsBlockType}
use Rattle.wm_syntax.specs.Encodings.{SpellsOp}
use Rattle.wm_syntax.specs.OpClasses.{code, is_float}
use Rattle.wm_syntax.specs.Profiles.{has, HasBlockType, HasType, IsOpOf}
use Rattle.wm_syntax.specs.declared.profile.Feature.{Feature}
use Rattle.wm_syntax.specs.declared.profile.Feature.TheVariants.{BulkMemory}
use Rattle.wm_syntax.specs.declared.profile.Profile.{Profile}
use Rattle.wm_machine.specs.declared.refusal.Refusal.{Refusal}
use Rattle.wm_machine.specs.Items.{Item, Mark, Marks, body_op, items_at}
use Rattle.wm_machine.specs.MarkedForms.{Then, Vector}
use Rattle.wm_machine.specs.Sections.{Section, Those, header, kind_byte}
use Rattle.wm_machine.specs.Grammar.{HasSection, Items, ModuleForm, Code, Run, Expression, id_at, strict, loose}
use Rattle.wm_machine.specs.Sinks.{all_taken}
use Rattle.wm_machine.specs.Fronts.{IsFront}

-- A section as bytes: an id, and contents of which only the size is checked. Core spec 5.5.2.
pub record RawSection : Type 0 where
  pub id : ℕ
  pub contents : List ℕ

abbrev pub SpellsRaw : RawSection → Form ℕ
SpellsRaw s = Section s.id (Exactly s.contents)

-- the header, and then these sections (Core spec 5.5.15)
abbrev pub SpellsSections : List RawSection → Form ℕ
SpellsSections sections = Exactly header ▸ Each SpellsRaw sections

-- one of these sections has this rank, or a greater one
pub record HasFrom (rank : ℕ) (sections : List RawSection) : Type 0 where
  pub before : List RawSection
  pub one : RawSection
  pub after : List RawSection
  pub its_rank : ℕ
  pub whole : sections ≡ before ++ one ∷ after
  pub id : one.id ≡ id_at its_rank
  pub few : its_rank ≤ 12
  pub from : rank ≤ its_rank

-- Magic and Version: all bytes but the last are those of the header, and the last is not. Its index in the header is at
-- least `from` and less than `below`. Core spec 5.5.15.
pub record WrongInHeader (from below : ℕ) (used : List ℕ) : Type 0 where
  pub front : List ℕ
  pub byte : ℕ
  pub whole : used ≡ front ++ byte ∷ []
  pub right : front ≡ take (length front) header
  pub at_least : from ≤ length front
  pub before : length front < below
  pub wrong : byte ≢ slice_index header (length front)

-- The last byte comes after the header and complete sections, and is the wrong id of a further section.
pub record WrongId (IsWrong : List RawSection → ℕ → Type 0) (used : List ℕ) : Type 0 where
  pub sections : List RawSection
  pub front : List ℕ
  pub id : ℕ
  pub whole : used ≡ front ++ id ∷ []
  pub before : SpellsSections sections front
  pub wrong : IsWrong sections id

-- SectionId: no section of the profile has this id. Custom sections have the rank 0. Core spec 5.5.2.
abbrev pub IsUnknown : Profile → List RawSection → ℕ → Type 0
IsUnknown p sections id = (rank : ℕ) → rank ≤ 12 → HasSection p rank → id ≢ id_at rank

-- SectionOrder: a section of the profile has this id, and one with its rank or a greater one came before. Ranks must
-- rise, except the rank 0 of custom sections. Core spec 5.5.15.
abbrev pub IsLate : Profile → List RawSection → ℕ → Type 0
IsLate p sections id = (rank : ℕ) × (0 < rank) × (rank ≤ 12) × HasSection p rank × (id ≡ id_at rank)
    × HasFrom rank sections

-- Truncated, first case: the bytes end inside the header. Core spec 5.5.15.
abbrev pub EndsInHeader : List ℕ → Type 0
EndsInHeader used = (length used < 8) × (used ≡ take (length used) header)

-- Truncated, second case: after the header and complete sections, the bytes end inside a further section, which more
-- bytes would complete. Core spec 5.5.2.
pub record EndsInSection (used : List ℕ) : Type 0 where
  pub sections : List RawSection
  pub front : List ℕ
  pub begun : List ℕ
  pub missing : List ℕ
  pub last : RawSection
  pub whole : used ≡ front ++ begun
  pub before : SpellsSections sections front
  pub some : begun ≢ []
  pub more : missing ≢ []
  pub section : SpellsRaw last (begun ++ missing)

-- Truncated: no byte follows, and one of the two cases holds.
abbrev pub EndsInside : List ℕ → List ℕ → Type 0
EndsInside used rest = (rest ≡ []) × (EndsInHeader used ⊎ EndsInSection used)

-- The things that may be required at an offset, where a single byte can be wrong.
pub data Wanted : Type 0 where
  an_instruction : Wanted
  a_code : List ℕ → Wanted
  a_value_type : Wanted
  a_block_type : Wanted
  a_function_type : Wanted
  an_element_type : Wanted
  an_element_kind : Wanted
  a_flag : Wanted
  a_kind : Wanted
  a_zero : Wanted

-- an instruction of the profile, an `else` or an `end` (Core spec 5.4, 5.4.6)
abbrev pub AnInstruction : Profile → Form ℕ
AnInstruction p b = (o : Op) × (c : ℕ) × (code o ≡ Some c) × IsOpOf p o × SpellsOp p o b

-- The bytes of a required thing. An instruction has all its bytes here, or those that come after the bytes `begun`
-- (`a_code`). A value type (Core spec 5.3.1) and a block type (5.3.2) of the profile have all their bytes too. The
-- others have one byte here: the first of a function type (5.3.3) or table type (5.3.6); the kind of the elements of a
-- segment (WebAssembly 2.0, 5.5.12); the flag of limits (5.3.4) or of mutability (5.3.7); the kind of an import (5.5.5)
-- or an export (5.5.10); the 00 that ends some instructions (5.4.1, 5.4.4), or comes before such a 00 (WebAssembly 2.0,
-- 5.4.6).
abbrev pub spelled : Profile → Wanted → Form ℕ
spelled p an_instruction b = AnInstruction p b
spelled p (a_code begun) b = AnInstruction p (begun ++ b)
spelled p a_value_type b = (t : ValType) × Those (HasType p) SpellsValType t b
spelled p a_block_type b = (t : Option ValType) × Those (HasBlockType p) SpellsBlockType t b
spelled p a_function_type b = Byte 0x60 b
spelled p an_element_type b = Byte 0x70 b
spelled p an_element_kind b = Byte 0x00 b
spelled p a_flag b = (Byte 0x00 ∣ Byte 0x01) b
spelled p a_kind b = (k : ExportKind) × Byte (kind_byte k) b
spelled p a_zero b = Byte 0x00 b

-- After the bytes `before`, something that satisfies `IsThere` is required. `can`: each such thing may follow under
-- `loose`. `must`: one follows in each whole input that begins with `before`. If there is no such input, as after a
-- size that is too small, `must` says nothing.
pub record MustStand (p : Profile) (IsThere : Form ℕ) (before : List ℕ) : Type 0 where
  pub can : (b : List ℕ) → IsThere b → (k : Marks) × IsFront p (before ++ b) k
  pub must : (more : List ℕ) (k : Marks) → Items p (before ++ more) k
      → (b rest : List ℕ) × (more ≡ b ++ rest) × IsThere b

-- The last byte is wrong: a thing is required there, which has a spelling. None begins with the byte, and `IsWrong`
-- holds of the bytes before it, the thing and the byte.
pub record WrongByte (p : Profile) (IsWrong : List ℕ → Wanted → ℕ → Type 0) (used : List ℕ) : Type 0 where
  pub before : List ℕ
  pub byte : ℕ
  pub whole : used ≡ before ++ byte ∷ []
  pub wanted : Wanted
  pub some : (b : List ℕ) × spelled p wanted b
  pub place : MustStand p (spelled p wanted) before
  pub none : (more : List ℕ) → spelled p wanted (byte ∷ more) → ⊥
  pub wrong : IsWrong before wanted byte

-- the byte of a float type (Core spec 5.3.1)
abbrev pub IsFloatType : ℕ → Type 0
IsFloatType c = (c ≡ 0x7D) ⊎ (c ≡ 0x7C)

-- The bytes `before` end with `begun`: the byte FC, and perhaps first bytes of a number, which continues
-- (WebAssembly 2.0, 5.4).
abbrev pub EndsWithCode : List ℕ → List ℕ → Type 0
EndsWithCode before begun = (front number : List ℕ) × (before ≡ front ++ begun) × (begun ≡ 0xFC ∷ number)
    × AllByRecursion (λ c. 0x80 ≤ c) number

-- BadOpcode, first case: an instruction is required. The byte begins none of the profile, and none on floats (Core spec
-- 5.4). Second case: FC and perhaps first bytes of a number have come, and an instruction that begins with these is
-- required. None of the profile has the byte next (WebAssembly 2.0, 5.4).
abbrev pub IsNoInstruction : List ℕ → Wanted → ℕ → Type 0
IsNoInstruction before an_instruction c = IsTrue (is_float c) → ⊥
IsNoInstruction before (a_code begun) c = EndsWithCode before begun
IsNoInstruction before _ c = ⊥

-- Float: the byte begins an instruction on floats, or is a float type. The profile lacks it, since nothing required
-- there begins with the byte. Core spec 5.3.1, 5.3.2, 5.4.
abbrev pub BeginsFloat : List ℕ → Wanted → ℕ → Type 0
BeginsFloat before an_instruction c = IsTrue (is_float c)
BeginsFloat before a_value_type c = IsFloatType c
BeginsFloat before a_block_type c = IsFloatType c
BeginsFloat before _ c = ⊥

-- BadByte: something other than an instruction or the rest of one is required, and the byte begins nothing of it. If a
-- value or block type is required, the byte is no float type. The sections are those of `spelled`.
abbrev pub IsOtherByte : List ℕ → Wanted → ℕ → Type 0
IsOtherByte before an_instruction c = ⊥
IsOtherByte before (a_code begun) c = ⊥
IsOtherByte before a_value_type c = IsFloatType c → ⊥
IsOtherByte before a_block_type c = IsFloatType c → ⊥
IsOtherByte before _ c = Unit {0}

-- a name (Core spec 5.2.4)
abbrev pub IsName : Form ℕ
IsName b = (text : List ℕ) × SpellsName text b

-- BadUtf8: a name is required. Its length comes, and then that many bytes, which are not UTF-8. After the length, UTF-8
-- of that many bytes is required. Core spec 5.2.4.
pub record BadName (p : Profile) (used : List ℕ) : Type 0 where
  pub before : List ℕ
  pub size : List ℕ
  pub text : List ℕ
  pub whole : used ≡ before ++ (size ++ text)
  pub name : MustStand p IsName before
  pub spelled : SpellsU32 (length text) size
  pub place : MustStand p (λ b. (length b ≡ length text) × IsUtf8 b) (before ++ size)
  pub bad : IsUtf8 text → ⊥

-- the contents of a section with this id begin with the number n (Core spec 5.5.6; WebAssembly 2.0, 5.5.15)
pub record HasCount (id n : ℕ) (sections : List RawSection) : Type 0 where
  pub before : List RawSection
  pub after : List RawSection
  pub number : List ℕ
  pub more : List ℕ
  pub whole : sections ≡ before ++ record { id = id; contents = number ++ more } ∷ after
  pub spelled : SpellsU32 n number

-- the sections declare n functions: one with the id 3 has this number, or there is none and n is 0 (Core spec 5.5.15)
abbrev pub Declare : ℕ → List RawSection → Type 0
Declare n sections = HasCount 3 n sections ⊎ ((n ≡ 0) × AllByRecursion (λ s. s.id ≢ 3) sections)

-- CodeCount and DataCount, first case: after complete sections, a section with this id begins, up to the number of its
-- members. This number differs from the one that earlier sections give (`Says`). Core spec 5.5.15.
pub record OtherCount (Says : ℕ → List RawSection → Type 0) (id : ℕ) (used : List ℕ) : Type 0 where
  pub sections : List RawSection
  pub front : List ℕ
  pub size : List ℕ
  pub count : List ℕ
  pub bytes : ℕ
  pub members : ℕ
  pub declared : ℕ
  pub whole : used ≡ front ++ id ∷ (size ++ count)
  pub before : SpellsSections sections front
  pub spelled_bytes : SpellsU32 bytes size
  pub spelled_members : SpellsU32 members count
  pub says : Says declared sections
  pub differ : members ≢ declared

-- CodeCount and DataCount, second case: complete sections give a number above 0 (`Says`). None of them has this id.
-- Core spec 5.5.15.
pub record NoSection (Says : ℕ → List RawSection → Type 0) (id : ℕ) (front : List ℕ) : Type 0 where
  pub sections : List RawSection
  pub declared : ℕ
  pub before : SpellsSections sections front
  pub says : Says declared sections
  pub some : 0 < declared
  pub none : AllByRecursion (λ s. s.id ≢ id) sections

-- CodeCount: functions are declared and there is no code section. The input ends, or a section with the id 11 begins.
abbrev pub NoCode : List ℕ → List ℕ → Type 0
NoCode used rest = (front : List ℕ) × (((used ≡ front) × (rest ≡ [])) ⊎ (used ≡ front ++ 11 ∷ []))
    × NoSection Declare 10 front

-- DataCount: the data count section gives a number above 0, and there is no data section. The input ends.
abbrev pub NoData : List ℕ → List ℕ → Type 0
NoData used rest = (rest ≡ []) × NoSection (HasCount 12) 11 used

-- The bytes are the front of a module, or all of it, under `loose`.
abbrev pub CanGoOn : Profile → List ℕ → Type 0
CanGoOn p used = (k : Marks) × IsFront p used k

-- The bytes are a module under `loose`, or become one by the bytes 0A 01 00, a code section without entries.
abbrev pub CanEnd : Profile → List ℕ → Type 0
CanEnd p used =
    (rest : List ℕ) × ((rest ≡ []) ⊎ (rest ≡ 0x0A ∷ 0x01 ∷ 0x00 ∷ [])) × (k : Marks)
    × ModuleForm loose p (used ++ rest) k

-- SectionEnd: no whole input begins with these bytes, and after complete sections they end in or after one more. Either
-- this one has all bytes of its size, and `CanGoOn` holds; or it has fewer, and `CanEnd` holds. Core spec 5.5.2.
pub record OtherSize (p : Profile) (used : List ℕ) : Type 0 where
  pub sections : List RawSection
  pub front : List ℕ
  pub id : ℕ
  pub size : List ℕ
  pub contents : List ℕ
  pub bytes : ℕ
  pub whole : used ≡ front ++ id ∷ (size ++ contents)
  pub before : SpellsSections sections front
  pub spelled : SpellsU32 bytes size
  pub wrong : ((length contents ≡ bytes) × CanGoOn p used) ⊎ ((length contents < bytes) × CanEnd p used)
  pub none : (more : List ℕ) (k : Marks) → Items p (used ++ more) k → ⊥

-- A code entry without its size: runs of locals, and an expression. Core spec 5.5.13.
abbrev pub IsEntry : Profile → List ℕ → Type 0
IsEntry p b = (k : Marks) × Then (Vector (Run p)) (Expression p body_op) b k

-- the front of such an entry, from which at least one byte is missing
abbrev pub BeginsEntry : Profile → List ℕ → Type 0
BeginsEntry p b = (more : List ℕ) × (more ≢ []) × IsEntry p (b ++ more)

-- BodyEnd: a code entry is required. Its size comes, and then its contents up to here. Either these have that size and
-- the entry is incomplete, or they are shorter and it is complete. Core spec 5.5.13.
pub record OtherBodySize (p : Profile) (used : List ℕ) : Type 0 where
  pub before : List ℕ
  pub size : List ℕ
  pub contents : List ℕ
  pub bytes : ℕ
  pub whole : used ≡ before ++ (size ++ contents)
  pub place : MustStand p (λ b. (k : Marks) × Code strict p b k) before
  pub spelled : SpellsU32 bytes size
  pub wrong : ((length contents ≡ bytes) × BeginsEntry p contents)
      ⊎ ((length contents < bytes) × IsEntry p contents)

-- The kinds of integers in a module: u32, s32 and s64 (Core spec 5.2.2). A table index in an instruction is a u32 that
-- must be 0, and an integer only if the profile has a feature: `LongIndex` for that of a `call_indirect` (WebAssembly
-- 2.0, 5.4.1), and `BulkMemory` for those of `table.init` and `table.copy` (5.4.5). The flag at the front of a segment is
-- a u32 of at most 2, and an integer only if the profile has `BulkMemory` (5.5.12, 5.5.14).
pub data Integer : Type 0 where
  u32 : Integer
  u32_zero : Feature → Integer
  u32_flag : Integer
  s32 : Integer
  s64 : Integer

-- the bytes spell an integer of this kind (Core spec 5.2.2)
abbrev pub spells : Profile → Integer → Form ℕ
spells p u32 b = (n : ℕ) × Unsigned 32 n b
spells p (u32_zero feature) b = IsTrue (has p feature) × Unsigned 32 0 b
spells p u32_flag b = IsTrue (has p BulkMemory) × (n : ℕ) × (n ≤ 2) × Unsigned 32 n b
spells p s32 b = (z : ℤ) × Signed 32 z b
spells p s64 b = (z : ℤ) × Signed 64 z b

-- the rest, at least one byte, of an integer that begins with the bytes `begun`
abbrev pub goes_on : Profile → Integer → List ℕ → Form ℕ
goes_on p number begun b = (b ≢ []) × spells p number (begun ++ b)

-- BadNumber: before the last byte an integer has begun, it can continue, and its rest is required. No integer of this
-- kind continues with the last byte. Core spec 5.2.2.
pub record WrongNumber (p : Profile) (used : List ℕ) : Type 0 where
  pub before : List ℕ
  pub begun : List ℕ
  pub byte : ℕ
  pub number : Integer
  pub whole : used ≡ (before ++ begun) ++ byte ∷ []
  pub front : CanGoOn p (before ++ begun)
  pub some : (b : List ℕ) × goes_on p number begun b
  pub place : MustStand p (goes_on p number begun) (before ++ begun)
  pub none : (more : List ℕ) → spells p number (begun ++ byte ∷ more) → ⊥

-- The meaning of a name, about the bytes `used` up to the offset and the bytes `rest` after it. Each name of the format
-- has its own line. TooLong: `used` has one byte more than the limit. The other names have no meaning here: those of
-- rules (Index, Mismatch and so on), those of a policy, and Memory.
abbrev pub MeansOfFormat : Profile → ℕ → List ℕ → List ℕ → Why → Type 0
MeansOfFormat p limit used rest why.Magic = WrongInHeader 0 4 used
MeansOfFormat p limit used rest why.Version = WrongInHeader 4 8 used
MeansOfFormat p limit used rest why.SectionId = WrongId (IsUnknown p) used
MeansOfFormat p limit used rest why.SectionOrder = WrongId (IsLate p) used
MeansOfFormat p limit used rest why.Truncated = EndsInside used rest
MeansOfFormat p limit used rest why.TooLong = length used ≡ limit + 1
MeansOfFormat p limit used rest why.BadOpcode = WrongByte p IsNoInstruction used
MeansOfFormat p limit used rest why.Float = WrongByte p BeginsFloat used
MeansOfFormat p limit used rest why.BadByte = WrongByte p IsOtherByte used
MeansOfFormat p limit used rest why.BadUtf8 = BadName p used
MeansOfFormat p limit used rest why.CodeCount = OtherCount Declare 10 used ⊎ NoCode used rest
MeansOfFormat p limit used rest why.DataCount = OtherCount (HasCount 12) 11 used ⊎ NoData used rest
MeansOfFormat p limit used rest why.SectionEnd = OtherSize p used
MeansOfFormat p limit used rest why.BodyEnd = OtherBodySize p used
MeansOfFormat p limit used rest why.BadNumber = WrongNumber p used
MeansOfFormat p limit used rest w = Unit {0}

-- A refusal of an input: its offset is within the input. `Says` holds for the bytes up to it, the rest, and its name.
pub record Meant (Says : List ℕ → List ℕ → Why → Type 0) (input : List ℕ) (r : Refusal) : Type 0 where
  pub used : List ℕ
  pub rest : List ℕ
  pub whole : input ≡ used ++ rest
  pub at : r.at ≡ length used
  pub means : Says used rest r.why

-- a refusal of an input, with the meaning of its name as a name of the format
abbrev pub MeaningOfFormat : Profile → ℕ → List ℕ → Refusal → Type 0
MeaningOfFormat p limit input r = Meant (MeansOfFormat p limit) input r

-- The last byte completes an item, and `IsWrong` holds for the items before it and for it. The bytes are the front of a
-- module, or all of it, under `loose`.
pub record AtItem (p : Profile) (IsWrong : List Item → Item → Type 0) (used : List ℕ) : Type 0 where
  pub told : Marks
  pub last : Mark
  pub front : IsFront p used (told ++ last ∷ [])
  pub item : Item
  pub completes : last.item ≡ Some item
  pub wrong : IsWrong (items_at told) item

-- a sink with this first state takes the items, and then refuses the one item with the name w
abbrev pub RefusesBy : {H : Type 0} → (H → Item → Result H Why) → H → Why → List Item → Item → Type 0
RefusesBy {H} after first w items item =
    (h : H) × (all_taken after first items ≡ Ok h) × (after h item ≡ Err w)

-- the names that a sink may give: those of rules (Core spec, chapter 3, and 5.5.13 for code entries) and of a policy
abbrev pub IsRuleName : Why → Type 0
IsRuleName why.TooManyLocals = Unit {0}
IsRuleName why.Index = Unit {0}
IsRuleName why.Mismatch = Unit {0}
IsRuleName why.Arity = Unit {0}
IsRuleName why.Limits = Unit {0}
IsRuleName why.Second = Unit {0}
IsRuleName why.DuplicateExport = Unit {0}
IsRuleName why.StartType = Unit {0}
IsRuleName why.NotConst = Unit {0}
IsRuleName why.Immutable = Unit {0}
IsRuleName why.Align = Unit {0}
IsRuleName why.ElsePlace = Unit {0}
IsRuleName why.ManyFunctions = Unit {0}
IsRuleName why.ManyLocals = Unit {0}
IsRuleName why.Deep = Unit {0}
IsRuleName w = ⊥

-- a sink with this first state refuses items by names of rules only, whatever items it took before
abbrev pub GivesRuleNames : {H : Type 0} → (H → Item → Result H Why) → H → Type 0
GivesRuleNames {H} after first =
    (parts : List Item) (h : H) (x : Item) (w : Why) → all_taken after first parts ≡ Ok h → after h x ≡ Err w
    → IsRuleName w
