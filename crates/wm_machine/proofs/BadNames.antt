-- BadUtf8 is given at the last byte of a name that is not UTF-8.
use Rattle.std.proofs.Common.{◌≡◌, ℕ, zero, suc, ◌+◌, ◌<◌, ◌^◌, List, [], ◌∷◌, ◌++◌, Option, Some, None, Result, Ok, Err, IsUtf8, true, false, length, refl, sym, ◌∙◌, ap, subst, arith, nat_eq, nat_lt, nat_le, append_assoc, append-nil, length-append}
use Rattle.wm_syntax.specs.Profiles.{has}
use Rattle.wm_syntax.specs.declared.profile.Feature.TheVariants.{BulkMemory}
use Rattle.wm_machine.proofs.SegmentStarts.{unfinished_any, begun_any}
use Rattle.wm_machine.specs.exact.MemberSteps.{segment_begun, segment_unfinished}
use Rattle.std.proofs.lemmas.Bool.{cond_both}
use Rattle.std.proofs.lemmas.Str.{is_utf8-from_IsUtf8}
use Rattle.std.specs.Prelude.{slice_index}
use Rattle.std.specs.Str.{is_utf8}
use Rattle.wm_syntax.specs.declared.numbers.Step.{Step}
use Rattle.wm_syntax.specs.declared.numbers.Step.TheVariants as step
use Rattle.wm_syntax.specs.inner.Numbers.{Partial, UnsignedAfter}
use Rattle.wm_syntax.specs.exact.Reading.{fresh, unsigned_push}
use Rattle.wm_syntax.specs.Spelling.{Form, AreBytes}
use Rattle.wm_syntax.specs.Types.{SpellsU32}
use Rattle.wm_syntax.proofs.Readers.{unsigned_fresh}
use Rattle.wm_syntax.specs.declared.profile.Profile.{Profile}
use Rattle.wm_syntax.specs.declared.why.Why.{Why}
use Rattle.wm_syntax.specs.declared.why.Why.TheVariants as why
use Rattle.wm_syntax.specs.declared.types.ValType.{ValType}
use Rattle.wm_syntax.specs.declared.instructions.Op.{Op}
use Rattle.wm_machine.specs.declared.machine.NameKind.{NameKind}
use Rattle.wm_machine.specs.declared.machine.NameKind.TheVariants as name
use Rattle.wm_machine.specs.declared.machine.Counts.{Counts}
use Rattle.wm_machine.specs.declared.machine.InCustom.TheVariants as custom
use Rattle.wm_machine.specs.declared.machine.Machine.{Machine}
use Rattle.wm_machine.specs.declared.machine.Machine.TheVariants as machine
use Rattle.wm_machine.specs.declared.machine.Plain.{Plain}
use Rattle.wm_machine.specs.declared.machine.Plain.TheVariants as plain
use Rattle.wm_machine.specs.declared.machine.Event.{Event}
use Rattle.wm_machine.specs.declared.machine.Event.TheVariants as event
use Rattle.wm_machine.specs.declared.step.reading.Reading.{Reading}
use Rattle.wm_machine.specs.declared.step.reading.Reading.TheVariants.{More, Done, Bad}
use Rattle.wm_machine.specs.declared.machine.member.SectionKind.{SectionKind}
use Rattle.wm_machine.specs.declared.machine.member.SectionKind.TheVariants as section_kind
use Rattle.wm_machine.specs.declared.machine.member.ConstantOf.{ConstantOf}
use Rattle.wm_machine.specs.declared.machine.member.ConstantOf.TheVariants as constant
use Rattle.wm_machine.specs.declared.machine.member.IndexOf.{IndexOf}
use Rattle.wm_machine.specs.declared.machine.member.IndexOf.TheVariants as index
use Rattle.wm_machine.specs.declared.machine.member.LengthOf.{LengthOf}
use Rattle.wm_machine.specs.declared.machine.member.LengthOf.TheVariants as length_of
use Rattle.wm_machine.specs.declared.machine.member.InEntry.{InEntry}
use Rattle.wm_machine.specs.declared.machine.member.InEntry.TheVariants as entry
use Rattle.wm_machine.specs.declared.step.expressions.InExpression.{InExpression}
use Rattle.wm_machine.specs.declared.step.expressions.InExpression.TheVariants as expression
use Rattle.wm_machine.specs.declared.machine.member.InMember.{InMember}
use Rattle.wm_machine.specs.declared.machine.member.InMember.TheVariants as at
use Rattle.wm_machine.specs.Items.{Item, Zone, outside}
use Rattle.wm_machine.specs.MarkedForms.{MarkedForm, Then, Filled, name_byte_marks, name_marks}
use Rattle.wm_machine.specs.Sections.{header}
use Rattle.wm_machine.specs.Grammar.{loose, strict}
use Rattle.wm_machine.specs.Meanings.{BadName, IsName, MustStand}
use Rattle.wm_machine.specs.exact.Members.{rank_of, section_kind_of, member_at_start}
use Rattle.wm_machine.specs.exact.ValueSteps.{value_type_of, global_type_push, value_push}
use Rattle.wm_machine.specs.exact.ExpressionSteps.{start, expression_step}
use Rattle.wm_machine.specs.exact.MemberSteps.{on_number, on_value, on_type, with_item_given, after_param, after_result, after_name, after_length, functions_or_over, index_item, after_index, after_constant, op_event, data_or_over, list_or_over, entry_step, member_in_entry, member_step}
use Rattle.wm_machine.specs.exact.Steps.{counts_in, is_given, begun_last, custom_after_length, machine_in_custom, machine_in_member, machine_after_count, machine_after_paired_count, count_event, after_count, begun_section, machine_if_rising, section_start, machine_in_contents, after_size, custom_size, header_step, step_of}
use Rattle.wm_machine.specs.exact.Runs.{name_item, byte_read, ByteRead, MachineState, zone_of, after_byte, state_after, state_at_start}
use Rattle.wm_machine.proofs.ByteLists.{front_bytes}
use Rattle.wm_machine.proofs.EntryBytes.{OnlyParts, entry_parts}
use Rattle.wm_machine.proofs.Numbers.{fresh_number}
use Rattle.wm_machine.proofs.NameBytes.{utf8_bytes}
use Rattle.wm_machine.proofs.FramedBytes.{Numbers, numbers}
use Rattle.wm_machine.proofs.NamesAndSizes.{NameLeft, TextLeft}
use Rattle.wm_machine.proofs.Customs.{unnamed}
use Rattle.wm_machine.proofs.MemberBytes.{AfterName}
use Rattle.wm_machine.proofs.OpenMembers.{after_name as name_comes}
use Rattle.wm_machine.proofs.WholeMachine.{Later, MachineRest}
use Rattle.wm_machine.proofs.Fronts.{some_later}
use Rattle.wm_machine.proofs.MustStand.{PartsBegin, then_begins, filled_begins}
use Rattle.wm_machine.proofs.WrongMembers.{section_begins, must_stand}

-- a byte that is none of a name
abbrev pub NoName : Event → Type 0
NoName event.InName = ⊥
NoName (event.EndsName k) = ⊥
NoName e = Unit {0}

parts_no : (e : Event) → OnlyParts e → NoName e
parts_no event.Nothing o = tt
parts_no (event.Complete q) o = tt
parts_no event.DataByte o = tt
parts_no (event.EmptyName k) o = tt
parts_no event.InName o = o
parts_no (event.EndsName k) o = o

-- no name has begun, nor its length
abbrev NoneBegun : InMember → Type 0
NoneBegun (at.NameLength of r) = r ≡ fresh
NoneBegun (at.Name of n) = ⊥
NoneBegun q = Unit {0}

abbrev NoneBegunIn : Machine → Type 0
NoneBegunIn (machine.Section of counts more left q) = NoneBegun q
NoneBegunIn (machine.Custom last counts more (custom.Length r)) = r ≡ fresh
NoneBegunIn (machine.Custom last counts more (custom.Name n)) = ⊥
NoneBegunIn m = Unit {0}

-- outside names a byte is none of one, and none has begun after it
module _ {M : Type 0} (Fine : M → Type 0) where
  abbrev Passes : M × Event → Type 0
  Passes q = Fine q.0 × NoName q.1

  number_passes : (q : Step ℕ × Partial) (more : Partial → M) (done : ℕ → M × Event) (bad : Why → M) → ((s : Partial) → Fine (more s)) → ((n : ℕ) → Passes (done n)) → Fine (bad why.BadNumber) → Passes (on_number q more done bad)
  number_passes (step.More, s) more done bad m d b = (m s, tt)
  number_passes (step.Done n, s) more done bad m d b = d n
  number_passes (step.Bad, s) more done bad m d b = (b, tt)

  value_passes : {R X : Type 0} (q : Reading R X) (more : R → M) (done : X → M × Event) (bad : Why → M) → ((s : R) → Fine (more s)) → ((x : X) → Passes (done x)) → ((w : Why) → Fine (bad w)) → Passes (on_value q more done bad)
  value_passes (More s) more done bad m d b = (m s, tt)
  value_passes (Done x) more done bad m d b = d x
  value_passes (Bad w) more done bad m d b = (b w, tt)

  type_passes : (q : Result ValType Why) (done : ValType → M × Event) (bad : Why → M) → ((t : ValType) → Passes (done t)) → ((w : Why) → Fine (bad w)) → Passes (on_type q done bad)
  type_passes (Ok t) done bad d b = d t
  type_passes (Err w) done bad d b = (b w, tt)

op_no : (f : Op → Plain) (o : Option Op) → NoName (op_event f o)
op_no f None = tt
op_no f (Some o) = tt

-- members
param_none : (n : ℕ) → NoneBegun (after_param n)
param_none zero = tt
param_none (suc n) = tt

result_none : (n : ℕ) → NoneBegun (after_result n)
result_none zero = tt
result_none (suc n) = tt

name_none : (of : NameKind) → NoneBegun (after_name of)
name_none name.ImportModule = refl
name_none name.ImportName = tt
name_none name.Export = tt
name_none name.Custom = tt

functions_none : (n : ℕ) → NoneBegun (functions_or_over n)
functions_none zero = tt
functions_none (suc n) = tt

data_none : (n : ℕ) → NoneBegun (data_or_over n)
data_none zero = tt
data_none (suc n) = tt

list_none : (of : LengthOf) (n : ℕ) → NoneBegun (list_or_over of n)
list_none length_of.Functions n = functions_none n
list_none length_of.Bytes n = data_none n

index_none : (of : IndexOf) → NoneBegun (after_index of)
index_none index.Function = tt
index_none index.Start = tt
index_none index.Element = tt
index_none (index.ElementFunction more) = functions_none more
index_none index.Segment = tt

constant_none : (of : ConstantOf) (e : InExpression) → NoneBegun (after_constant of e)
constant_none constant.Global expression.Over = tt
constant_none constant.Element expression.Over = tt
constant_none constant.IndexedElement expression.Over = tt
constant_none constant.Segment expression.Over = tt
constant_none of (expression.Failed w) = tt
constant_none of (expression.Op depth q) = tt
constant_none of (expression.Label depth left r) = tt

entry_none : (n : ℕ) (q : InEntry) → NoneBegun (member_in_entry n q)
entry_none n (entry.Failed w) = tt
entry_none zero entry.Over = tt
entry_none (suc n) entry.Over = tt
entry_none zero (entry.RunCount r) = tt
entry_none zero (entry.Run more r) = tt
entry_none zero (entry.Body e) = tt
entry_none (suc n) (entry.RunCount r) = tt
entry_none (suc n) (entry.Run more r) = tt
entry_none (suc n) (entry.Body e) = tt

start_none : (of : SectionKind) → NoneBegun (member_at_start of)
start_none section_kind.Type = tt
start_none section_kind.Import = refl
start_none section_kind.Function = tt
start_none section_kind.Table = tt
start_none section_kind.Memory = tt
start_none section_kind.Global = tt
start_none section_kind.Export = refl
start_none section_kind.Start = tt
start_none section_kind.Element = tt
start_none section_kind.DataCount = tt
start_none section_kind.Code = tt
start_none section_kind.Segment = tt

abbrev IsElse : InMember → Type 0
IsElse (at.NameLength of r) = ⊥
IsElse (at.Name of n) = ⊥
IsElse q = Unit {0}

abbrev MemberPasses : InMember × Event → Type 0
MemberPasses = Passes NoneBegun

member_passes : (p : Profile) (c : ℕ) (q : InMember) → IsElse q → MemberPasses (member_step p q c)
member_passes p c at.TypeForm i = cond_both (nat_eq c 0x60) _ _ MemberPasses (λ _. (tt, tt)) (λ _. (tt, tt))
member_passes p c (at.ParamCount r) i = number_passes NoneBegun (unsigned_push 32 r c) at.ParamCount (λ n. (after_param n, event.Nothing)) at.Failed (λ s. tt) (λ n. (param_none n, tt)) tt
member_passes p c (at.Param more) i = type_passes NoneBegun (value_type_of p c) (λ t. with_item_given (after_param more) (plain.Param t)) at.Failed (λ t. (param_none more, tt)) (λ w. tt)
member_passes p c (at.ResultCount r) i = number_passes NoneBegun (unsigned_push 32 r c) at.ResultCount (λ n. with_item_given (after_result n) (plain.ResultCount n)) at.Failed (λ s. tt) (λ n. (result_none n, tt)) tt
member_passes p c (at.ResultType more) i = type_passes NoneBegun (value_type_of p c) (λ t. with_item_given (after_result more) (plain.OneResult t)) at.Failed (λ t. (result_none more, tt)) (λ w. tt)
member_passes p c (at.NameLength of r) i = absurd i
member_passes p c (at.Name of more) i = absurd i
member_passes p c (at.Value v) i = value_passes NoneBegun (value_push p v c) at.Value (λ q. with_item_given at.Over q) at.Failed (λ s. tt) (λ x. (tt, tt)) (λ w. tt)
member_passes p c (at.Index of r) i =
    number_passes NoneBegun (unsigned_push 32 r c) (λ s. at.Index of s) (λ n. with_item_given (after_index of) (index_item of n)) at.Failed (λ s. tt) (λ n. (index_none of, tt)) tt
member_passes p c (at.SegmentStart of r) i =
    number_passes NoneBegun (unsigned_push 32 r c) (segment_unfinished (has p BulkMemory) of) (segment_begun (has p BulkMemory) of) at.Failed (λ s. unfinished_any NoneBegun (has p BulkMemory) of s tt tt)
    (begun_any MemberPasses (λ n. (tt, tt)) (tt, tt) (tt, tt) (λ n. (tt, tt)) (tt, tt) (tt, tt) (tt, tt) (has p BulkMemory) of) tt
member_passes p c at.ElementKind i = cond_both (nat_eq c 0x00) _ _ MemberPasses (λ _. (tt, tt)) (λ _. (tt, tt))
member_passes p c (at.GlobalType g) i = value_passes NoneBegun (global_type_push p g c) at.GlobalType (λ t. with_item_given (at.Constant constant.Global start) (plain.Global t)) at.Failed (λ s. tt) (λ x. (tt, tt)) (λ w. tt)
member_passes p c (at.Constant of e) i = (constant_none of (expression_step p e c).0, op_no plain.ConstOp (expression_step p e c).1)
member_passes p c (at.Length of r) i = number_passes NoneBegun (unsigned_push 32 r c) (λ s. at.Length of s) (λ n. (list_or_over of n, event.Nothing)) at.Failed (λ s. tt) (λ n. (list_none of n, tt)) tt
member_passes p c (at.Data more) i = (data_none more, tt)
member_passes p c (at.EntrySize r) i =
    number_passes NoneBegun (unsigned_push 32 r c) at.EntrySize (λ n. with_item_given (member_in_entry n (entry.RunCount fresh)) plain.Body) at.Failed (λ s. tt) (λ n. (entry_none n (entry.RunCount fresh), tt)) tt
member_passes p c (at.Entry more q) i = (entry_none more (entry_step p q c).0, parts_no (entry_step p q c).1 (entry_parts p q c))
member_passes p c at.Over i = (tt, tt)
member_passes p c (at.Failed w) i = (tt, tt)

-- the machine
framed_none : (of : SectionKind) (counts : Counts) (bytes left : ℕ) (q : InMember) → NoneBegun q → NoneBegunIn (machine_in_member of counts bytes left q)
framed_none of counts bytes left (at.Failed w) h = tt
framed_none of counts zero zero at.Over h = tt
framed_none of counts (suc n) zero at.Over h = tt
framed_none of counts zero (suc l) at.Over h = tt
framed_none of counts (suc n) (suc l) at.Over h = start_none of
framed_none of counts zero left q h = tt
framed_none of counts (suc n) left q h = h

listed_none : (of : SectionKind) (counts : Counts) (bytes n : ℕ) → NoneBegunIn (machine_after_count of counts bytes n)
listed_none of counts bytes zero = framed_none of counts bytes zero at.Over tt
listed_none of counts bytes (suc n) = framed_none of counts bytes n (member_at_start of) (start_none of)

paired_none : (of : SectionKind) (counts : Counts) (bytes n : ℕ) → NoneBegunIn (machine_after_paired_count of counts bytes n)
paired_none section_kind.Function counts bytes n = listed_none section_kind.Function (counts_in section_kind.Function counts n) bytes n
paired_none section_kind.Code counts bytes n = cond_both (nat_eq n counts.functions) _ _ NoneBegunIn (λ _. listed_none section_kind.Code (counts_in section_kind.Code counts n) bytes n) (λ _. tt)
paired_none section_kind.DataCount counts bytes n = listed_none section_kind.DataCount (counts_in section_kind.DataCount counts n) bytes zero
paired_none section_kind.Segment counts bytes n = cond_both (is_given counts.segments n) _ _ NoneBegunIn (λ _. listed_none section_kind.Segment (counts_in section_kind.Segment counts n) bytes n) (λ _. tt)
paired_none of counts bytes n = listed_none of (counts_in of counts n) bytes n

contents_none : (of : SectionKind) (counts : Counts) (more : ℕ) → NoneBegunIn (machine_in_contents of counts more)
contents_none section_kind.Start counts more = tt
contents_none of counts more = tt

size_none : (of : SectionKind) (counts : Counts) (n : ℕ) → NoneBegunIn (after_size of counts n)
size_none of counts zero = tt
size_none of counts (suc n) = contents_none of counts n

custom_none : (last : ℕ) (counts : Counts) (n : ℕ) → NoneBegunIn (custom_size last counts n)
custom_none last counts zero = tt
custom_none last counts (suc n) = refl

skip_none : (last : ℕ) (counts : Counts) (n : ℕ) → NoneBegunIn (machine_in_custom last counts n custom.Skip)
skip_none last counts zero = tt
skip_none last counts (suc n) = tt

abbrev MachinePasses : Machine × Event → Type 0
MachinePasses = Passes NoneBegunIn

begun_passes : (of : SectionKind) (counts : Counts) → MachinePasses (begun_section of counts)
begun_passes section_kind.Segment counts = at_last counts.functions
  where
    at_last : (n : ℕ) → MachinePasses (begun_last n counts)
    at_last zero = (tt, tt)
    at_last (suc n) = (tt, tt)
begun_passes of counts = (tt, tt)

rising_passes : (last : ℕ) (counts : Counts) (q : Option SectionKind) → MachinePasses (machine_if_rising last counts q)
rising_passes last counts None = (tt, tt)
rising_passes last counts (Some of) = cond_both (nat_le (rank_of of) last) _ _ MachinePasses (λ _. (tt, tt)) (λ _. begun_passes of counts)

starts_passes : (p : Profile) (last : ℕ) (counts : Counts) (c : ℕ) → MachinePasses (section_start p last counts c)
starts_passes p last counts zero = (tt, tt)
starts_passes p last counts (suc m) = rising_passes last counts (section_kind_of p (suc m))

header_passes : (n c : ℕ) → MachinePasses (header_step n c)
header_passes n c =
    let P : Machine × Event → Type 0 = MachinePasses in
    cond_both (nat_lt n 8) _ _ P
    (λ _. cond_both (nat_eq c (slice_index header n)) _ _ P
    (λ _. cond_both (nat_lt n 7) _ _ P (λ _. (tt, tt)) (λ _. (tt, tt)))
    (λ _. cond_both (nat_lt n 4) _ _ P (λ _. (tt, tt)) (λ _. (tt, tt))))
    (λ _. (tt, tt))

count_passes : (of : SectionKind) (counts : Counts) (more : ℕ) (q : Step ℕ × Partial) → MachinePasses (after_count of counts more q)
count_passes of counts zero (step.More, s) = (tt, tt)
count_passes of counts (suc n) (step.More, s) = (tt, tt)
count_passes of counts more (step.Done n, s) = (paired_none of counts more n, count_no of n)
  where
    count_no : (of : SectionKind) (n : ℕ) → NoName (count_event of n)
    count_no section_kind.DataCount n = tt
    count_no of n = tt
count_passes of counts more (step.Bad, s) = (tt, tt)

abbrev IsElsewhere : Machine → Type 0
IsElsewhere (machine.Section of counts more left q) = IsElse q
IsElsewhere (machine.Custom last counts more (custom.Length r)) = ⊥
IsElsewhere (machine.Custom last counts more (custom.Name n)) = ⊥
IsElsewhere m = Unit {0}

step_passes : (p : Profile) (m : Machine) (c : ℕ) → IsElsewhere m → MachinePasses (step_of p m c)
step_passes p (machine.Header n) c i = header_passes n c
step_passes p (machine.Between last counts) c i = starts_passes p last counts c
step_passes p (machine.CustomSize last counts r) c i =
    number_passes NoneBegunIn (unsigned_push 32 r c) (λ s. machine.CustomSize last counts s) (λ n. (custom_size last counts n, event.Nothing)) machine.Refused (λ s. tt) (λ n. (custom_none last counts n, tt)) tt
step_passes p (machine.Custom last counts more (custom.Length r)) c i = absurd i
step_passes p (machine.Custom last counts more (custom.Name n)) c i = absurd i
step_passes p (machine.Custom last counts more custom.Skip) c i = (skip_none last counts more, tt)
step_passes p (machine.Custom last counts more (custom.Failed w)) c i = (tt, tt)
step_passes p (machine.Size of counts r) c i =
    number_passes NoneBegunIn (unsigned_push 32 r c) (λ s. machine.Size of counts s) (λ n. (after_size of counts n, event.Nothing)) machine.Refused (λ s. tt) (λ n. (size_none of counts n, tt)) tt
step_passes p (machine.Count of counts more r) c i = count_passes of counts more (unsigned_push 32 r c)
step_passes p (machine.Section of counts more left q) c i = let h = member_passes p c q i in (framed_none of counts more left (member_step p q c).0 h.0, h.1)
step_passes p (machine.Refused w) c i = (tt, tt)

-- after such a byte nothing is kept of a name, nor after the last byte of one
abbrev Quiet : ByteRead Machine → Type 0
Quiet h = NoneBegunIn h.at × (h.name ≡ [])

else_quiet : (zone : Zone) (y : List ℕ) (c : ℕ) (m : Machine) (e : Event) → NoneBegunIn m → NoName e → Quiet (byte_read machine.Refused zone y c (m, e))
else_quiet zone y c m event.Nothing h n = (h, refl)
else_quiet zone y c m (event.Complete q) h n = (h, refl)
else_quiet zone y c m event.DataByte h n = (h, refl)
else_quiet zone y c m (event.EmptyName k) h n = (h, refl)
else_quiet zone y c m event.InName h n = absurd n
else_quiet zone y c m (event.EndsName k) h n = absurd n

end_quiet : (zone : Zone) (y : List ℕ) (c : ℕ) (m : Machine) (k : NameKind) → NoneBegunIn m → Quiet (byte_read machine.Refused zone y c (m, event.EndsName k))
end_quiet zone y c m k h = cond_both (is_utf8 (y ++ c ∷ [])) _ _ Quiet (λ _. (h, refl)) (λ _. (tt, refl))

pub state_snoc : (p : Profile) (s : MachineState) (b : List ℕ) (c : ℕ) → state_after p s (b ++ c ∷ []) ≡ after_byte p (state_after p s b) c
state_snoc p s [] c = refl
state_snoc p s (d ∷ b) c = state_snoc p (after_byte p s d) b c

-- in the length of a name, or in a name: where its length began, and then where it did, and how many bytes are to come after the next
record AtLength (p : Profile) (from : ℕ → Machine) (r : Partial) (b : List ℕ) : Type 0 where
  before : List ℕ
  begun : List ℕ
  room : ℕ
  whole : b ≡ before ++ begun
  there : state_after p state_at_start before ≡ record { machine = from room; name = [] }
  number : UnsignedAfter 32 r begun

record AtName (p : Profile) (from : ℕ → Machine) (at : ℕ → ℕ → Machine) (more : ℕ) (y b : List ℕ) : Type 0 where
  before : List ℕ
  size : List ℕ
  first_room : ℕ
  room : ℕ
  long : ℕ
  whole : b ≡ before ++ (size ++ y)
  there : state_after p state_at_start before ≡ record { machine = from first_room; name = [] }
  here : state_after p state_at_start (before ++ size) ≡ record { machine = at room long; name = [] }
  spelled : SpellsU32 (suc long) size
  all : long ≡ length y + more

module _ (p : Profile) where
  abbrev IsNamed : List ℕ → Machine → List ℕ → Type 0
  IsNamed b (machine.Section of counts more left (at.NameLength k r)) y = AtLength p (λ m. machine.Section of counts m left (at.NameLength k fresh)) r b
  IsNamed b (machine.Section of counts more left (at.Name k n)) y = AtName p (λ m. machine.Section of counts m left (at.NameLength k fresh)) (λ m l. machine.Section of counts m left (at.Name k l)) n y b
  IsNamed b (machine.Custom last counts more (custom.Length r)) y = AtLength p (λ m. machine.Custom last counts m (custom.Length fresh)) r b
  IsNamed b (machine.Custom last counts more (custom.Name n)) y = AtName p (λ m. machine.Custom last counts m (custom.Length fresh)) (λ m l. machine.Custom last counts m (custom.Name l)) n y b
  IsNamed b m y = Unit {0}

  length_here : (b : List ℕ) (from : ℕ → Machine) (room : ℕ) (r : Partial) → r ≡ fresh → state_after p state_at_start b ≡ record { machine = from room; name = [] } → AtLength p from r b
  length_here b from room r new e = record { before = b; begun = []; room = room; whole = sym (append-nil b); there = e; number = subst (λ s. UnsignedAfter 32 s []) (sym new) (unsigned_fresh 32 (omega arith)) }

  begins_here : (b : List ℕ) (m : Machine) → state_after p state_at_start b ≡ record { machine = m; name = [] } → NoneBegunIn m → IsNamed b m []
  begins_here b (machine.Section of counts more left (at.NameLength k r)) e h =
      length_here b (λ m. machine.Section of counts m left (at.NameLength k fresh)) more r h (e ∙ ap (λ s. record { machine = machine.Section of counts more left (at.NameLength k s); name = [] }) h)
  begins_here b (machine.Section of counts more left (at.Name k n)) e h = absurd h
  begins_here b (machine.Section of counts more left q) e h = tt
  begins_here b (machine.Custom last counts more (custom.Length r)) e h =
      length_here b (λ m. machine.Custom last counts m (custom.Length fresh)) more r h (e ∙ ap (λ s. record { machine = machine.Custom last counts more (custom.Length s); name = [] }) h)
  begins_here b (machine.Custom last counts more (custom.Name n)) e h = absurd h
  begins_here b (machine.Custom last counts more q) e h = tt
  begins_here b m e h = tt

  anew : (b : List ℕ) (s : MachineState) → state_after p state_at_start b ≡ s → NoneBegunIn s.machine → s.name ≡ [] → IsNamed b s.machine s.name
  anew b s e h n = subst (IsNamed b s.machine) (sym n) (begins_here b s.machine (e ∙ ap (λ y. record { machine = s.machine; name = y }) n) h)

  module _ (b : List ℕ) (c : ℕ) (byte : c < 2 ^ 8) where
    snoc_whole : (before begun : List ℕ) → b ≡ before ++ begun → b ++ c ∷ [] ≡ before ++ (begun ++ c ∷ [])
    snoc_whole before begun e = ap (λ y. y ++ c ∷ []) e ∙ append_assoc before begun (c ∷ [])

    -- by a byte of the length, by its last one, and by one of the name
    length_goes : (from : ℕ → Machine) (r s : Partial) (h : AtLength p from r b) → UnsignedAfter 32 s (h.begun ++ c ∷ []) → AtLength p from s (b ++ c ∷ [])
    length_goes from r s h u = record { before = h.before; begun = h.begun ++ c ∷ []; room = h.room; whole = snoc_whole h.before h.begun h.whole; there = h.there; number = u }

    name_begins : (from : ℕ → Machine) (at : ℕ → ℕ → Machine) (r : Partial) (m n : ℕ) (h : AtLength p from r b) → SpellsU32 (suc n) (h.begun ++ c ∷ []) → state_after p state_at_start (b ++ c ∷ []) ≡ record { machine = at m n; name = [] } → AtName p from at n [] (b ++ c ∷ [])
    name_begins from at r m n h u e =
        let whole : b ++ c ∷ [] ≡ h.before ++ (h.begun ++ c ∷ []) = snoc_whole h.before h.begun h.whole in
        record {
          before = h.before;
          size = h.begun ++ c ∷ [];
          first_room = h.room;
          room = m;
          long = n;
          whole = whole ∙ ap (λ z. h.before ++ z) (sym (append-nil (h.begun ++ c ∷ [])));
          there = h.there;
          here = ap (state_after p state_at_start) (sym whole) ∙ e;
          spelled = u;
          all = omega arith;
        }

    name_goes : (from : ℕ → Machine) (at : ℕ → ℕ → Machine) (n : ℕ) (y : List ℕ) → AtName p from at (suc n) y b → AtName p from at n (y ++ c ∷ []) (b ++ c ∷ [])
    name_goes from at n y h = record {
      before = h.before;
      size = h.size;
      first_room = h.first_room;
      room = h.room;
      long = h.long;
      whole = snoc_whole h.before (h.size ++ y) h.whole ∙ ap (λ z. h.before ++ z) (append_assoc h.size y (c ∷ []));
      there = h.there;
      here = h.here;
      spelled = h.spelled;
      all = let l = h.all in omega (arith, l, length-append y (c ∷ []));
    }

    abbrev Known : ByteRead Machine → Type 0
    Known h = IsNamed (b ++ c ∷ []) h.at h.name

    abbrev Comes : ByteRead Machine → Type 0
    Comes h = state_after p state_at_start (b ++ c ∷ []) ≡ record { machine = h.at; name = h.name }

    quietly : (h : ByteRead Machine) → Comes h → Quiet h → Known h
    quietly h e q = anew (b ++ c ∷ []) (record { machine = h.at; name = h.name }) e q.0 q.1

    abbrev length_read : SectionKind → (counts : Counts) (more left : ℕ) → NameKind → List ℕ → Step ℕ × Partial → ByteRead Machine
    length_read of counts more left k y q =
        let x = on_number q (λ s. at.NameLength k s) (after_length k) at.Failed in
        byte_read machine.Refused outside y c (machine_in_member of counts more left x.0, x.1)

    of_member : (of : SectionKind) (counts : Counts) (more left : ℕ) (k : NameKind) (r : Partial) (y : List ℕ) (h : AtLength p (λ m. machine.Section of counts m left (at.NameLength k fresh)) r b) (q : Step ℕ × Partial) → Numbers (h.begun ++ c ∷ []) q
        → Comes (length_read of counts more left k y q) → Known (length_read of counts more left k y q)
    of_member of counts zero left k r y h (step.More, s) u e = tt
    of_member of counts (suc m) left k r y h (step.More, s) u e = length_goes (λ m. machine.Section of counts m left (at.NameLength k fresh)) r s h u
    of_member of counts more left k r y h (step.Done zero, s) u e = begins_here (b ++ c ∷ []) (machine_in_member of counts more left (after_name k)) e (framed_none of counts more left (after_name k) (name_none k))
    of_member of counts zero left k r y h (step.Done (suc n), s) u e = tt
    of_member of counts (suc m) left k r y h (step.Done (suc n), s) u e = name_begins (λ m. machine.Section of counts m left (at.NameLength k fresh)) (λ m l. machine.Section of counts m left (at.Name k l)) r m n h u e
    of_member of counts more left k r y h (step.Bad, s) u e = tt

    abbrev custom_read : (last : ℕ) (counts : Counts) (more : ℕ) → List ℕ → Step ℕ × Partial → ByteRead Machine
    custom_read last counts more y q =
        let x = on_number q custom.Length custom_after_length custom.Failed in
        byte_read machine.Refused outside y c (machine_in_custom last counts more x.0, x.1)

    of_custom : (last : ℕ) (counts : Counts) (more : ℕ) (r : Partial) (y : List ℕ) (h : AtLength p (λ m. machine.Custom last counts m (custom.Length fresh)) r b) (q : Step ℕ × Partial) → Numbers (h.begun ++ c ∷ []) q → Comes (custom_read last counts more y q) → Known (custom_read last counts more y q)
    of_custom last counts zero r y h (step.More, s) u e = tt
    of_custom last counts (suc m) r y h (step.More, s) u e = length_goes (λ m. machine.Custom last counts m (custom.Length fresh)) r s h u
    of_custom last counts more r y h (step.Done zero, s) u e = begins_here (b ++ c ∷ []) (machine_in_custom last counts more custom.Skip) e (skip_none last counts more)
    of_custom last counts zero r y h (step.Done (suc n), s) u e = tt
    of_custom last counts (suc m) r y h (step.Done (suc n), s) u e = name_begins (λ m. machine.Custom last counts m (custom.Length fresh)) (λ m l. machine.Custom last counts m (custom.Name l)) r m n h u e
    of_custom last counts more r y h (step.Bad, s) u e = tt

    abbrev read : Machine → List ℕ → ByteRead Machine
    read m y = byte_read machine.Refused (zone_of m) y c (step_of p m c)

    next_named : (m : Machine) (y : List ℕ) → state_after p state_at_start b ≡ record { machine = m; name = y } → IsNamed b m y → Known (read m y)
    next_named m y e h = go m h (state_snoc p state_at_start b c ∙ ap (λ s. after_byte p s c) e)
      where
        passes : (n : Machine) → IsElsewhere n → Comes (read n y) → Known (read n y)
        passes n o i = let q = step_passes p n c o in quietly (read n y) i (else_quiet (zone_of n) y c (step_of p n c).0 (step_of p n c).1 q.0 q.1)

        go : (n : Machine) → IsNamed b n y → Comes (read n y) → Known (read n y)
        go (machine.Section of f more left (at.NameLength k r)) h i = of_member of f more left k r y h (unsigned_push 32 r c) (numbers r h.begun c byte h.number) i
        go (machine.Section of f more left (at.Name k zero)) h i =
            quietly (read (machine.Section of f more left (at.Name k zero)) y) i (end_quiet outside y c (machine_in_member of f more left (after_name k)) k (framed_none of f more left (after_name k) (name_none k)))
        go (machine.Section of f zero left (at.Name k (suc n))) h i = tt
        go (machine.Section of f (suc r) left (at.Name k (suc n))) h i = name_goes (λ m. machine.Section of f m left (at.NameLength k fresh)) (λ m l. machine.Section of f m left (at.Name k l)) n y h
        go (machine.Section of f more left q) h i = passes (machine.Section of f more left q) tt i
        go (machine.Custom last f more (custom.Length r)) h i = of_custom last f more r y h (unsigned_push 32 r c) (numbers r h.begun c byte h.number) i
        go (machine.Custom last f more (custom.Name zero)) h i = quietly (read (machine.Custom last f more (custom.Name zero)) y) i (end_quiet outside y c (machine_in_custom last f more custom.Skip) name.Custom (skip_none last f more))
        go (machine.Custom last f zero (custom.Name (suc n))) h i = tt
        go (machine.Custom last f (suc r) (custom.Name (suc n))) h i = name_goes (λ m. machine.Custom last f m (custom.Length fresh)) (λ m l. machine.Custom last f m (custom.Name l)) n y h
        go (machine.Custom last f more q) h i = passes (machine.Custom last f more q) tt i
        go n h i = passes n tt i

  named_run : (before : List ℕ) (s : MachineState) → state_after p state_at_start before ≡ s → IsNamed before s.machine s.name → (b : List ℕ) → AreBytes b → IsNamed (before ++ b) (state_after p s b).machine (state_after p s b).name
  named_run before s e h [] a = subst (λ z. IsNamed z s.machine s.name) (sym (append-nil before)) h
  named_run before s e h (c ∷ b) a =
      let t : MachineState = after_byte p s c in
      subst (λ z. IsNamed z (state_after p t b).machine (state_after p t b).name) (append_assoc before (c ∷ []) b)
      (named_run (before ++ c ∷ []) t (state_snoc p state_at_start before c ∙ ap (λ z. after_byte p z c) e) (next_named before c a.0 s.machine s.name e h) b a.1)

  -- a name, and so many bytes of one
  whole_begins : (x : List ℕ → Option Item) → PartsBegin IsName (TextLeft loose fresh x) (TextLeft strict fresh x)
  whole_begins x = record {
    can = λ b w.
        let text : List ℕ = w.0 in
        let s = w.1.0 in
        let same : b ++ [] ≡ s.0 ++ text = append-nil b ∙ (s.2 ∙ ap (λ y. s.0 ++ y) s.4.0) in
        ([], name_marks (x text) s.0 text, record { front = s.0; text = text; bytes = same; marks = refl; number = (fresh_number (length text) s.0).0 s.3; utf8 = λ d. absurd d });
    must = λ b k h. (b, [], sym (append-nil b), (h.text, ((h.front, h.text, h.bytes, (fresh_number (length h.text) h.front).1 h.number, (refl, utf8_bytes h.text (h.utf8 tt))), h.utf8 tt)));
  }

  abbrev Text : ℕ → Form ℕ
  Text n b = (length b ≡ n) × IsUtf8 b

  left_begins : (n : ℕ) (x : List ℕ → Option Item) → PartsBegin (Text n) (NameLeft loose [] n x) (NameLeft strict [] n x)
  left_begins n x = record {
    can = λ b w. ([], name_byte_marks (x (b ++ [])) (b ++ []), (ap length (append-nil b) ∙ w.0, (λ d. absurd d), refl));
    must = λ b k h. (b, [], sym (append-nil b), (h.0, h.1 tt));
  }

  abbrev Begins : Form ℕ → Machine → Type 0
  Begins W m = PartsBegin W (MachineRest loose p m []) (MachineRest strict p m [])

  length_begins : (of : SectionKind) (f : Counts) (more left : ℕ) (k : NameKind) → Begins IsName (machine.Section of f more left (at.NameLength k fresh))
  length_begins of f more left k =
      let L : MarkedForm = TextLeft loose fresh (name_item k) in
      let S : MarkedForm = TextLeft strict fresh (name_item k) in
      section_begins p IsName of f more left (at.NameLength k fresh) [] (then_begins IsName L S (AfterName loose p k) (AfterName strict p k) (whole_begins (name_item k)) (name_comes p k))

  member_begins : (of : SectionKind) (f : Counts) (more left : ℕ) (k : NameKind) (n : ℕ) → Begins (Text (suc n)) (machine.Section of f more left (at.Name k n))
  member_begins of f more left k n =
      let L : MarkedForm = NameLeft loose [] (suc n) (name_item k) in
      let S : MarkedForm = NameLeft strict [] (suc n) (name_item k) in
      section_begins p (Text (suc n)) of f more left (at.Name k n) [] (then_begins (Text (suc n)) L S (AfterName loose p k) (AfterName strict p k) (left_begins (suc n) (name_item k)) (name_comes p k))

  filling : (W : Form ℕ) (last : ℕ) (f : Counts) (n : ℕ) (L S : MarkedForm) → PartsBegin W L S → PartsBegin W (Then (Filled loose n L) (Later loose p last f)) (Then (Filled strict n S) (Later strict p last f))
  filling W last f n L S v = then_begins W (Filled loose n L) (Filled strict n S) (Later loose p last f) (Later strict p last f) (filled_begins W n L S v) (some_later p last f)

  custom_length_begins : (last : ℕ) (f : Counts) (more : ℕ) → Begins IsName (machine.Custom last f more (custom.Length fresh))
  custom_length_begins last f more = filling IsName last f (suc more) (TextLeft loose fresh unnamed) (TextLeft strict fresh unnamed) (whole_begins unnamed)

  custom_begins : (last : ℕ) (f : Counts) (more n : ℕ) → Begins (Text (suc n)) (machine.Custom last f more (custom.Name n))
  custom_begins last f more n = filling (Text (suc n)) last f (suc more) (NameLeft loose [] (suc n) unnamed) (NameLeft strict [] (suc n) unnamed) (left_begins (suc n) unnamed)

  -- what must stand, by the state
  stands : (W : Form ℕ) (before : List ℕ) → AreBytes before → (m : Machine) → state_after p state_at_start before ≡ record { machine = m; name = [] } → Begins W m → MustStand p W before
  stands W before bytes m e v = must_stand p before bytes W (subst (λ (s : MachineState). PartsBegin W (MachineRest loose p s.machine s.name) (MachineRest strict p s.machine s.name)) (sym e) v)

  module _ (b : List ℕ) (bytes : AreBytes b) (c : ℕ) where
    -- from where the name began
    bad : (from : ℕ → Machine) (at : ℕ → ℕ → Machine) (y : List ℕ) → AtName p from at 0 y b → ((m : ℕ) → Begins IsName (from m)) → ((m l : ℕ) → Begins (Text (suc l)) (at m l)) → is_utf8 (y ++ c ∷ []) ≡ false → BadName p (b ++ c ∷ [])
    bad from at y h length_there name_there wrong =
        let text : List ℕ = y ++ c ∷ [] in
        let long : suc h.long ≡ length text = (let l = h.all in omega (arith, l, length-append y (c ∷ []))) in
        let so_far : AreBytes (h.before ++ h.size) = front_bytes (h.before ++ h.size) y (subst AreBytes (h.whole ∙ sym (append_assoc h.before h.size y)) bytes) in
        record {
          before = h.before;
          size = h.size;
          text = text;
          whole = ap (λ z. z ++ c ∷ []) h.whole ∙ (append_assoc h.before (h.size ++ y) (c ∷ []) ∙ ap (λ z. h.before ++ z) (append_assoc h.size y (c ∷ [])));
          name = stands IsName h.before (front_bytes h.before h.size so_far) (from h.first_room) h.there (length_there h.first_room);
          spelled = subst (λ n. SpellsU32 n h.size) long h.spelled;
          place = subst (λ l. MustStand p (Text l) (h.before ++ h.size)) long (stands (Text (suc h.long)) (h.before ++ h.size) so_far (at h.room h.long) h.here (name_there h.room h.long));
          bad = λ u. differ (sym (is_utf8-from_IsUtf8 text u) ∙ wrong);
        }
      where
        differ : true ≡ false → ⊥
        differ e = cc

    not_else : (m : Machine) (k : NameKind) → IsElsewhere m → (step_of p m c).1 ≡ event.EndsName k → ⊥
    not_else m k i e = subst NoName e (step_passes p m c i).1

    not_length : (of : NameKind) (k : NameKind) (q : Step ℕ × Partial) → (on_number q (λ s. at.NameLength of s) (after_length of) at.Failed).1 ≡ event.EndsName k → ⊥
    not_length of k (step.More, s) e = cc
    not_length of k (step.Done zero, s) e = cc
    not_length of k (step.Done (suc n), s) e = cc
    not_length of k (step.Bad, s) e = cc

    not_custom_length : (k : NameKind) (q : Step ℕ × Partial) → (on_number q custom.Length custom_after_length custom.Failed).1 ≡ event.EndsName k → ⊥
    not_custom_length k (step.More, s) e = cc
    not_custom_length k (step.Done zero, s) e = cc
    not_custom_length k (step.Done (suc n), s) e = cc
    not_custom_length k (step.Bad, s) e = cc

    by_machine : (m : Machine) (y : List ℕ) (k : NameKind) → IsNamed b m y → (step_of p m c).1 ≡ event.EndsName k → is_utf8 (y ++ c ∷ []) ≡ false → BadName p (b ++ c ∷ [])
    by_machine (machine.Section of f more left (at.NameLength j r)) y k h e wrong = absurd (not_length j k (unsigned_push 32 r c) e)
    by_machine (machine.Section of f more left (at.Name j zero)) y k h e wrong = bad (λ m. machine.Section of f m left (at.NameLength j fresh)) (λ m l. machine.Section of f m left (at.Name j l)) y h (λ m. length_begins of f m left j) (λ m l. member_begins of f m left j l) wrong
    by_machine (machine.Section of f more left (at.Name j (suc n))) y k h e wrong = absurd (cc)
    by_machine (machine.Section of f more left q) y k h e wrong = absurd (not_else (machine.Section of f more left q) k tt e)
    by_machine (machine.Custom last f more (custom.Length r)) y k h e wrong = absurd (not_custom_length k (unsigned_push 32 r c) e)
    by_machine (machine.Custom last f more (custom.Name zero)) y k h e wrong = bad (λ m. machine.Custom last f m (custom.Length fresh)) (λ m l. machine.Custom last f m (custom.Name l)) y h (λ m. custom_length_begins last f m) (λ m l. custom_begins last f m l) wrong
    by_machine (machine.Custom last f more (custom.Name (suc n))) y k h e wrong = absurd (cc)
    by_machine (machine.Custom last f more q) y k h e wrong = absurd (not_else (machine.Custom last f more q) k tt e)
    by_machine m y k h e wrong = absurd (not_else m k tt e)

    pub bad_name : (m : Machine) (y : List ℕ) (k : NameKind) → state_after p state_at_start b ≡ record { machine = m; name = y } → (step_of p m c).1 ≡ event.EndsName k → is_utf8 (y ++ c ∷ []) ≡ false → BadName p (b ++ c ∷ [])
    bad_name m y k s e wrong =
        by_machine m y k (subst (λ (z : MachineState). IsNamed b z.machine z.name) s (named_run [] state_at_start refl tt b bytes)) e wrong
