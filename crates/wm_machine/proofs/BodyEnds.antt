-- BodyEnd is given if the size of a code entry is used up and the entry is incomplete, or if the entry is complete and
-- bytes are left.
use Rattle.std.proofs.Common.{◌≡◌, ◌≢◌, ℕ, zero, suc, ◌+◌, ◌<◌, ◌^◌, ◌⊎◌, inl, inr, List, [], ◌∷◌, ◌++◌, Option, Some, None, Result, Ok, Err, length, refl, sym, ◌∙◌, ap, subst, arith, nat_eq, nat_lt, nat_le, append_assoc, append-nil, length-append}
use Rattle.wm_syntax.specs.Profiles.{has}
use Rattle.wm_syntax.specs.declared.profile.Feature.TheVariants.{BulkMemory}
use Rattle.wm_machine.proofs.SegmentStarts.{unfinished_any, begun_state}
use Rattle.wm_machine.specs.exact.MemberSteps.{segment_begun, segment_unfinished}
use Rattle.std.proofs.lemmas.Bool.{cond_both}
use Rattle.std.specs.Prelude.{slice_index}
use Rattle.std.specs.Str.{is_utf8}
use Rattle.wm_syntax.specs.declared.numbers.Step.{Step}
use Rattle.wm_syntax.specs.declared.numbers.Step.TheVariants as step
use Rattle.wm_syntax.specs.inner.Numbers.{Partial, UnsignedAfter}
use Rattle.wm_syntax.specs.exact.Reading.{fresh, unsigned_push}
use Rattle.wm_syntax.proofs.Readers.{unsigned_fresh}
use Rattle.wm_syntax.specs.Spelling.{Form, AreBytes}
use Rattle.wm_syntax.specs.Types.{SpellsU32}
use Rattle.wm_syntax.specs.declared.profile.Profile.{Profile}
use Rattle.wm_syntax.specs.declared.types.ValType.{ValType}
use Rattle.wm_syntax.specs.declared.why.Why.{Why}
use Rattle.wm_syntax.specs.declared.why.Why.TheVariants as why
use Rattle.wm_machine.specs.declared.machine.NameKind.{NameKind}
use Rattle.wm_machine.specs.declared.machine.NameKind.TheVariants as name
use Rattle.wm_machine.specs.declared.machine.Counts.{Counts}
use Rattle.wm_machine.specs.declared.machine.InCustom.{InCustom}
use Rattle.wm_machine.specs.declared.machine.InCustom.TheVariants as custom
use Rattle.wm_machine.specs.declared.machine.Machine.{Machine}
use Rattle.wm_machine.specs.declared.machine.Machine.TheVariants as machine
use Rattle.wm_machine.specs.declared.machine.Plain.TheVariants as plain
use Rattle.wm_machine.specs.declared.machine.Event.{Event}
use Rattle.wm_machine.specs.declared.machine.Event.TheVariants as event
use Rattle.wm_machine.specs.declared.step.reading.Reading.{Reading}
use Rattle.wm_machine.specs.declared.step.reading.Reading.TheVariants.{More, Done, Bad}
use Rattle.wm_machine.specs.declared.step.expressions.InExpression.{InExpression}
use Rattle.wm_machine.specs.declared.step.expressions.InExpression.TheVariants as expression
use Rattle.wm_machine.specs.declared.machine.member.SectionKind.{SectionKind}
use Rattle.wm_machine.specs.declared.machine.member.SectionKind.TheVariants as section_kind
use Rattle.wm_machine.specs.declared.machine.member.IndexOf.{IndexOf}
use Rattle.wm_machine.specs.declared.machine.member.IndexOf.TheVariants as index
use Rattle.wm_machine.specs.declared.machine.member.ConstantOf.{ConstantOf}
use Rattle.wm_machine.specs.declared.machine.member.ConstantOf.TheVariants as constant
use Rattle.wm_machine.specs.declared.machine.member.LengthOf.{LengthOf}
use Rattle.wm_machine.specs.declared.machine.member.LengthOf.TheVariants as length_of
use Rattle.wm_machine.specs.declared.machine.member.InEntry.{InEntry}
use Rattle.wm_machine.specs.declared.machine.member.InEntry.TheVariants as entry
use Rattle.wm_machine.specs.declared.machine.member.InMember.{InMember}
use Rattle.wm_machine.specs.declared.machine.member.InMember.TheVariants as at
use Rattle.wm_machine.specs.Items.{Zone, outside, Marks, body_op}
use Rattle.wm_machine.specs.MarkedForms.{Then, Vector}
use Rattle.wm_machine.specs.Sections.{header}
use Rattle.wm_machine.specs.Grammar.{Code, Run, Expression, strict, loose}
use Rattle.wm_machine.specs.Meanings.{MustStand, IsEntry, BeginsEntry, OtherBodySize}
use Rattle.wm_machine.specs.exact.Members.{rank_of, section_kind_of, member_at_start}
use Rattle.wm_machine.specs.exact.ValueSteps.{value_type_of, global_type_push, value_push}
use Rattle.wm_machine.specs.exact.ExpressionSteps.{start, expression_step}
use Rattle.wm_machine.specs.exact.MemberSteps.{on_number, on_value, on_type, with_item_given, after_param, after_result, after_name, after_length, name_step, functions_or_over, index_item, after_index, constant_over, after_constant, data_or_over, list_or_over, entry_step, member_in_entry, member_step}
use Rattle.wm_machine.specs.exact.Steps.{counts_in, is_given, begun_last, custom_after_length, machine_in_custom, custom_step, machine_in_member, machine_after_count, machine_after_paired_count, after_count, begun_section, machine_if_rising, section_start, machine_in_contents, after_size, custom_size, header_step, step_of}
use Rattle.wm_machine.specs.exact.Runs.{byte_read, ByteRead, MachineState, zone_of, after_byte, state_after, state_at_start}
use Rattle.wm_machine.specs.exact.Live.{IsRefused}
use Rattle.wm_machine.proofs.ByteLists.{front_bytes}
use Rattle.wm_machine.proofs.FirstBytes.{Next}
use Rattle.wm_machine.proofs.Numbers.{fresh_number}
use Rattle.wm_machine.proofs.EntryBytes.{OnlyParts, entry_parts, IsInEntry, EntryRest, entry_same, entry_has, entry_follows}
use Rattle.wm_machine.proofs.MemberSound.{StandsEntry, Stands, CanEnter, MayEnter, entry_may}
use Rattle.wm_machine.proofs.MemberBytes.{ComponentRest, can_open}
use Rattle.wm_machine.proofs.MemberFloats.{IsOutside, not_body_end, not_past_body}
use Rattle.wm_machine.proofs.OpenMembers.{Comes, some_size, some_of_entry}
use Rattle.wm_machine.proofs.MachineStates.{Fits, byte_fits}
use Rattle.wm_machine.proofs.MachineAndSink.{begin_fits}
use Rattle.wm_machine.proofs.WholeMachine.{MachineRest}
use Rattle.wm_machine.proofs.AfterTheHeader.{IsLive, step_at}
use Rattle.wm_machine.proofs.FramedBytes.{Numbers, numbers}
use Rattle.wm_machine.proofs.MustStand.{PartsBegin}
use Rattle.wm_machine.proofs.WrongMembers.{section_begins, must_stand}
use Rattle.wm_machine.proofs.BadNames.{state_snoc}
use Rattle.wm_machine.proofs.SectionEnds.{IsText, heard_at}

abbrev CodeEntry : Profile → Form ℕ
CodeEntry p b = (k : Marks) × Code strict p b k

-- after these bytes a code entry begins
abbrev Starts : Profile → List ℕ → Type 0
Starts p before = (of : SectionKind) × (counts : Counts) × (more left : ℕ) × ((state_after p state_at_start before).machine ≡ machine.Section of counts more left (at.EntrySize fresh))

-- in its size, and in it with so many bytes left
record AtSize (p : Profile) (r : Partial) (b : List ℕ) : Type 0 where
  before : List ℕ
  begun : List ℕ
  whole : b ≡ before ++ begun
  starts : Starts p before
  number : UnsignedAfter 32 r begun

record Inside (p : Profile) (left : ℕ) (q : InEntry) (b : List ℕ) : Type 0 where
  before : List ℕ
  size : List ℕ
  contents : List ℕ
  bytes : ℕ
  whole : b ≡ before ++ (size ++ contents)
  starts : Starts p before
  spelled : SpellsU32 bytes size
  room : bytes ≡ length contents + left
  grows : (more : List ℕ) (k : Marks) → EntryRest loose p q more k → IsEntry p (contents ++ more)

-- what no byte makes a code entry of
param_out : (n : ℕ) → IsOutside (after_param n)
param_out zero = tt
param_out (suc n) = tt

result_out : (n : ℕ) → IsOutside (after_result n)
result_out zero = tt
result_out (suc n) = tt

name_out : (of : NameKind) → IsOutside (after_name of)
name_out name.ImportModule = tt
name_out name.ImportName = tt
name_out name.Export = tt
name_out name.Custom = tt

length_out : (of : NameKind) (n : ℕ) → IsOutside (after_length of n).0
length_out of zero = name_out of
length_out of (suc n) = tt

name_step_out : (of : NameKind) (n : ℕ) → IsOutside (name_step of n).0
name_step_out of zero = name_out of
name_step_out of (suc n) = tt

functions_out : (n : ℕ) → IsOutside (functions_or_over n)
functions_out zero = tt
functions_out (suc n) = tt

data_out : (n : ℕ) → IsOutside (data_or_over n)
data_out zero = tt
data_out (suc n) = tt

list_out : (of : LengthOf) (n : ℕ) → IsOutside (list_or_over of n)
list_out length_of.Functions n = functions_out n
list_out length_of.Bytes n = data_out n

index_out : (of : IndexOf) → IsOutside (after_index of)
index_out index.Function = tt
index_out index.Start = tt
index_out index.Element = tt
index_out (index.ElementFunction more) = functions_out more
index_out index.Segment = tt

over_out : (of : ConstantOf) → IsOutside (constant_over of)
over_out constant.Global = tt
over_out constant.Element = tt
over_out constant.IndexedElement = tt
over_out constant.Segment = tt

constant_out : (of : ConstantOf) (e : InExpression) → IsOutside (after_constant of e)
constant_out of expression.Over = over_out of
constant_out of (expression.Failed w) = tt
constant_out of (expression.Op depth q) = tt
constant_out of (expression.Label depth n r) = tt

number_out : (q : Step ℕ × Partial) (more : Partial → InMember) (done : ℕ → InMember × Event) → ((s : Partial) → IsOutside (more s)) → ((n : ℕ) → IsOutside (done n).0) → IsOutside (on_number q more done at.Failed).0
number_out (step.More, s) more done a b = a s
number_out (step.Done n, s) more done a b = b n
number_out (step.Bad, s) more done a b = tt

value_out : {R X : Type 0} (q : Reading R X) (more : R → InMember) (done : X → InMember × Event) → ((s : R) → IsOutside (more s)) → ((x : X) → IsOutside (done x).0) → IsOutside (on_value q more done at.Failed).0
value_out (More s) more done a b = a s
value_out (Done x) more done a b = b x
value_out (Bad w) more done a b = tt

type_out : (q : Result ValType Why) (done : ValType → InMember × Event) → ((t : ValType) → IsOutside (done t).0) → IsOutside (on_type q done at.Failed).0
type_out (Ok t) done b = b t
type_out (Err w) done b = tt

step_stays : (p : Profile) (c : ℕ) (q : InMember) → IsOutside q → IsOutside (member_step p q c).0
step_stays p c at.TypeForm o = cond_both (nat_eq c 0x60) _ _ (λ (m : InMember × Event). IsOutside m.0) (λ _. tt) (λ _. tt)
step_stays p c (at.ParamCount r) o = number_out (unsigned_push 32 r c) at.ParamCount (λ n. (after_param n, event.Nothing)) (λ s. tt) param_out
step_stays p c (at.Param more) o = type_out (value_type_of p c) (λ t. with_item_given (after_param more) (plain.Param t)) (λ t. param_out more)
step_stays p c (at.ResultCount r) o = number_out (unsigned_push 32 r c) at.ResultCount (λ n. with_item_given (after_result n) (plain.ResultCount n)) (λ s. tt) result_out
step_stays p c (at.ResultType more) o = type_out (value_type_of p c) (λ t. with_item_given (after_result more) (plain.OneResult t)) (λ t. result_out more)
step_stays p c (at.NameLength of r) o = number_out (unsigned_push 32 r c) (λ s. at.NameLength of s) (after_length of) (λ s. tt) (length_out of)
step_stays p c (at.Name of more) o = name_step_out of more
step_stays p c (at.Value v) o = value_out (value_push p v c) at.Value (λ q. with_item_given at.Over q) (λ s. tt) (λ x. tt)
step_stays p c (at.Index of r) o = number_out (unsigned_push 32 r c) (λ s. at.Index of s) (λ n. with_item_given (after_index of) (index_item of n)) (λ s. tt) (λ n. index_out of)
step_stays p c (at.SegmentStart of r) o =
    number_out (unsigned_push 32 r c) (segment_unfinished (has p BulkMemory) of) (segment_begun (has p BulkMemory) of) (λ s. unfinished_any IsOutside (has p BulkMemory) of s tt tt) (begun_state IsOutside tt tt tt tt tt tt tt (has p BulkMemory) of)
step_stays p c at.ElementKind o = cond_both (nat_eq c 0x00) _ _ (λ (m : InMember × Event). IsOutside m.0) (λ _. tt) (λ _. tt)
step_stays p c (at.GlobalType g) o = value_out (global_type_push p g c) at.GlobalType (λ t. with_item_given (at.Constant constant.Global start) (plain.Global t)) (λ s. tt) (λ x. tt)
step_stays p c (at.Constant of e) o = constant_out of (expression_step p e c).0
step_stays p c (at.Length of r) o = number_out (unsigned_push 32 r c) (λ s. at.Length of s) (λ n. (list_or_over of n, event.Nothing)) (λ s. tt) (list_out of)
step_stays p c (at.Data more) o = data_out more
step_stays p c (at.EntrySize r) o = absurd o
step_stays p c (at.Entry more q) o = absurd o
step_stays p c at.Over o = tt
step_stays p c (at.Failed w) o = tt

parts_text : (e : Event) (text : List ℕ) → OnlyParts e → IsText e text
parts_text event.Nothing text o = tt
parts_text (event.Complete q) text o = tt
parts_text event.DataByte text o = absurd o
parts_text event.InName text o = absurd o
parts_text (event.EndsName k) text o = absurd o
parts_text (event.EmptyName k) text o = absurd o

in_entry : (p : Profile) (left : ℕ) (q : InEntry) → StandsEntry p left q → IsInEntry q
in_entry p left (entry.RunCount r) h = tt
in_entry p left (entry.Run more r) h = tt
in_entry p left (entry.Body e) h = h.0
in_entry p left entry.Over h = h
in_entry p left (entry.Failed w) h = h

same_refused : (v w : Why) → machine.Refused v ≡ machine.Refused w → v ≡ w
same_refused v w e = cc

same_failed : (v w : Why) → at.Failed v ≡ at.Failed w → v ≡ w
same_failed v w e = cc

not_live : (m : Machine) (w : Why) → IsLive m → m ≡ machine.Refused w → ⊥
not_live (machine.Refused v) w i e = i
not_live m w i e = cc

header_not : (n c : ℕ) → (header_step n c).0 ≡ machine.Refused why.BodyEnd → ⊥
header_not n c =
    let P : Machine × Event → Type 0 = λ q. q.0 ≡ machine.Refused why.BodyEnd → ⊥ in
    cond_both (nat_lt n 8) _ _ P
    (λ _. cond_both (nat_eq c (slice_index header n)) _ _ P
    (λ _. cond_both (nat_lt n 7) _ _ P (λ _ e. cc) (λ _ e. cc))
    (λ _. cond_both (nat_lt n 4) _ _ P (λ _ e. cc) (λ _ e. cc)))
    (λ _ e. cc)

custom_not : (q : InCustom) (c : ℕ) → (custom_step q c).0 ≡ custom.Failed why.BodyEnd → ⊥
custom_not (custom.Length r) c e = go (unsigned_push 32 r c) e
  where
    go : (x : Step ℕ × Partial) → (on_number x custom.Length custom_after_length custom.Failed).0 ≡ custom.Failed why.BodyEnd → ⊥
    go (step.More, s) e = cc
    go (step.Done zero, s) e = cc
    go (step.Done (suc n), s) e = cc
    go (step.Bad, s) e = cc
custom_not (custom.Name zero) c e = cc
custom_not (custom.Name (suc n)) c e = cc
custom_not custom.Skip c e = cc
custom_not (custom.Failed w) c e = cc

module _ (p : Profile) where
  abbrev Placed : InMember → List ℕ → Type 0
  Placed (at.EntrySize r) b = AtSize p r b
  Placed (at.Entry more q) b = Inside p (suc more) q b
  Placed q b = Unit {0}

  -- the same of what a byte makes, where one may begin
  abbrev Becomes : InMember → List ℕ → Type 0
  Becomes (at.EntrySize r) b = AtSize p r b ⊎ (r ≡ fresh)
  Becomes (at.Entry more q) b = Inside p (suc more) q b
  Becomes q b = Unit {0}

  abbrev PlacedIn : Machine → List ℕ → Type 0
  PlacedIn (machine.Section of counts more left q) b = Placed q b
  PlacedIn m b = Unit {0}

  abbrev BecomesIn : Machine → List ℕ → Type 0
  BecomesIn (machine.Section of counts more left q) b = Becomes q b
  BecomesIn m b = Unit {0}

  outside_becomes : (q : InMember) (b : List ℕ) → IsOutside q → Becomes q b
  outside_becomes (at.EntrySize r) b o = absurd o
  outside_becomes (at.Entry more q) b o = absurd o
  outside_becomes q b o = tt

  module _ (c : ℕ) (byte : c < 2 ^ 8) where
    -- a byte of an entry
    entry_grows : (more : ℕ) (q : InEntry) (contents : List ℕ) → StandsEntry p (suc more) q → ((b : List ℕ) (k : Marks) → EntryRest loose p q b k → IsEntry p (contents ++ b)) → (r : InEntry) → (entry_step p q c).0 ≡ r → (b : List ℕ) (k : Marks) → EntryRest loose p r b k
        → IsEntry p ((contents ++ c ∷ []) ++ b)
    entry_grows more q contents stands grows r is b k h =
        let x = entry_step p q c in
        let read = byte_read entry.Failed outside [] c x in
        let same : read.at ≡ x.0 = heard_at entry.Failed outside [] c x.0 x.1 (parts_text x.1 (c ∷ []) (entry_parts p q c)) in
        let next : Next loose (EntryRest loose p q) c read.mark (EntryRest loose p read.at) = entry_follows loose p q c (can_open loose p more q stands) byte in
        subst (IsEntry p) (sym (append_assoc contents (c ∷ []) b)) (grows (c ∷ b) (read.mark ∷ k) (next.from b (read.mark ∷ k) (k, refl, subst (λ z. EntryRest loose p z b k) (sym (same ∙ is)) h)))

    size_whole : (before begun b : List ℕ) → b ≡ before ++ begun → b ++ c ∷ [] ≡ before ++ (begun ++ c ∷ [])
    size_whole before begun b e = ap (λ y. y ++ c ∷ []) e ∙ append_assoc before begun (c ∷ [])

    size_then : (before begun b : List ℕ) → b ≡ before ++ begun → b ++ c ∷ [] ≡ before ++ ((begun ++ c ∷ []) ++ [])
    size_then before begun b e = size_whole before begun b e ∙ ap (λ y. before ++ y) (sym (append-nil (begun ++ c ∷ [])))

    in_whole : (before size contents b : List ℕ) → b ≡ before ++ (size ++ contents) → b ++ c ∷ [] ≡ before ++ (size ++ (contents ++ c ∷ []))
    in_whole before size contents b e = size_whole before (size ++ contents) b e ∙ ap (λ y. before ++ y) (append_assoc size contents (c ∷ []))

    size_becomes : (r : Partial) (b : List ℕ) → AtSize p r b → Becomes (member_step p (at.EntrySize r) c).0 (b ++ c ∷ [])
    size_becomes r b h = go (unsigned_push 32 r c) (numbers r h.begun c byte h.number)
      where
        go : (x : Step ℕ × Partial) → Numbers (h.begun ++ c ∷ []) x → Becomes (on_number x at.EntrySize (λ n. with_item_given (member_in_entry n (entry.RunCount fresh)) plain.Body) at.Failed).0 (b ++ c ∷ [])
        go (step.More, s) u = inl (record { before = h.before; begun = h.begun ++ c ∷ []; whole = size_whole h.before h.begun b h.whole; starts = h.starts; number = u })
        go (step.Done zero, s) u = tt
        go (step.Done (suc n), s) u = record {
          before = h.before;
          size = h.begun ++ c ∷ [];
          contents = [];
          bytes = suc n;
          whole = size_then h.before h.begun b h.whole;
          starts = h.starts;
          spelled = u;
          room = omega arith;
          grows = λ more k e. (k, (entry_same loose p).from more k e);
        }
        go (step.Bad, s) u = tt

    entry_becomes : (more : ℕ) (q : InEntry) (b : List ℕ) → StandsEntry p (suc more) q → Inside p (suc more) q b → Becomes (member_step p (at.Entry more q) c).0 (b ++ c ∷ [])
    entry_becomes more q b stands h = framed more (entry_step p q c).0 refl h.room
      where
        inside : (m : ℕ) (r : InEntry) → (entry_step p q c).0 ≡ r → h.bytes ≡ length h.contents + suc (suc m) → Inside p (suc m) r (b ++ c ∷ [])
        inside m r is room = record {
          before = h.before;
          size = h.size;
          contents = h.contents ++ c ∷ [];
          bytes = h.bytes;
          whole = in_whole h.before h.size h.contents b h.whole;
          starts = h.starts;
          spelled = h.spelled;
          room = omega (arith, room, length-append h.contents (c ∷ []));
          grows = entry_grows more q h.contents stands h.grows r is;
        }

        framed : (n : ℕ) (r : InEntry) → (entry_step p q c).0 ≡ r → h.bytes ≡ length h.contents + suc n → Becomes (member_in_entry n r) (b ++ c ∷ [])
        framed n (entry.Failed w) is room = tt
        framed zero entry.Over is room = tt
        framed (suc m) entry.Over is room = tt
        framed zero (entry.RunCount r) is room = tt
        framed zero (entry.Run l r) is room = tt
        framed zero (entry.Body e) is room = tt
        framed (suc m) (entry.RunCount r) is room = inside m (entry.RunCount r) is room
        framed (suc m) (entry.Run l r) is room = inside m (entry.Run l r) is room
        framed (suc m) (entry.Body e) is room = inside m (entry.Body e) is room

    member_becomes : (left : ℕ) (q : InMember) (b : List ℕ) → Stands p left q → Placed q b → Becomes (member_step p q c).0 (b ++ c ∷ [])
    member_becomes left (at.EntrySize r) b stands h = size_becomes r b h
    member_becomes left (at.Entry more q) b stands h = entry_becomes more q b stands.1 h
    member_becomes left q b stands h = outside_becomes (member_step p q c).0 (b ++ c ∷ []) (step_stays p c q tt)

    begins_so : (of : SectionKind) (b : List ℕ) → Becomes (member_at_start of) b
    begins_so section_kind.Code b = inr refl
    begins_so section_kind.DataCount b = tt
    begins_so section_kind.Type b = tt
    begins_so section_kind.Import b = tt
    begins_so section_kind.Function b = tt
    begins_so section_kind.Table b = tt
    begins_so section_kind.Memory b = tt
    begins_so section_kind.Global b = tt
    begins_so section_kind.Export b = tt
    begins_so section_kind.Start b = tt
    begins_so section_kind.Element b = tt
    begins_so section_kind.Segment b = tt

    framed_so : (of : SectionKind) (counts : Counts) (bytes left : ℕ) (q : InMember) (b : List ℕ) → Becomes q b → BecomesIn (machine_in_member of counts bytes left q) b
    framed_so of counts bytes left (at.Failed w) b h = tt
    framed_so of counts zero zero at.Over b h = tt
    framed_so of counts (suc n) zero at.Over b h = tt
    framed_so of counts zero (suc l) at.Over b h = tt
    framed_so of counts (suc n) (suc l) at.Over b h = begins_so of b
    framed_so of counts zero left q b h = tt
    framed_so of counts (suc n) left q b h = h

    listed_so : (of : SectionKind) (counts : Counts) (bytes n : ℕ) (b : List ℕ) → BecomesIn (machine_after_count of counts bytes n) b
    listed_so of counts bytes zero b = framed_so of counts bytes zero at.Over b tt
    listed_so of counts bytes (suc n) b = framed_so of counts bytes n (member_at_start of) b (begins_so of b)

    counted_so : (of : SectionKind) (counts : Counts) (bytes n : ℕ) (b : List ℕ) → BecomesIn (machine_after_paired_count of counts bytes n) b
    counted_so section_kind.Function counts bytes n b = listed_so section_kind.Function (counts_in section_kind.Function counts n) bytes n b
    counted_so section_kind.Code counts bytes n b = cond_both (nat_eq n counts.functions) _ _ (λ (m : Machine). BecomesIn m b) (λ _. listed_so section_kind.Code (counts_in section_kind.Code counts n) bytes n b) (λ _. tt)
    counted_so section_kind.DataCount counts bytes n b = listed_so section_kind.DataCount (counts_in section_kind.DataCount counts n) bytes zero b
    counted_so section_kind.Segment counts bytes n b = cond_both (is_given counts.segments n) _ _ (λ (m : Machine). BecomesIn m b) (λ _. listed_so section_kind.Segment (counts_in section_kind.Segment counts n) bytes n b) (λ _. tt)
    counted_so of counts bytes n b = listed_so of (counts_in of counts n) bytes n b

    count_so : (of : SectionKind) (counts : Counts) (more : ℕ) (x : Step ℕ × Partial) (b : List ℕ) → BecomesIn (after_count of counts more x).0 b
    count_so of counts zero (step.More, s) b = tt
    count_so of counts (suc n) (step.More, s) b = tt
    count_so of counts more (step.Done n, s) b = counted_so of counts more n b
    count_so of counts more (step.Bad, s) b = tt

    contents_so : (of : SectionKind) (counts : Counts) (more : ℕ) (b : List ℕ) → BecomesIn (machine_in_contents of counts more) b
    contents_so section_kind.Start counts more b = tt
    contents_so of counts more b = tt

    number_so : (x : Step ℕ × Partial) (more : Partial → Machine) (done : ℕ → Machine × Event) (b : List ℕ) → ((s : Partial) → BecomesIn (more s) b) → ((n : ℕ) → BecomesIn (done n).0 b) → BecomesIn (on_number x more done machine.Refused).0 b
    number_so (step.More, s) more done b f g = f s
    number_so (step.Done n, s) more done b f g = g n
    number_so (step.Bad, s) more done b f g = tt

    size_so : (of : SectionKind) (counts : Counts) (n : ℕ) (b : List ℕ) → BecomesIn (after_size of counts n) b
    size_so of counts zero b = tt
    size_so of counts (suc n) b = contents_so of counts n b

    custom_so : (last : ℕ) (counts : Counts) (n : ℕ) (q : InCustom) (b : List ℕ) → BecomesIn (machine_in_custom last counts n q) b
    custom_so last counts n (custom.Failed w) b = tt
    custom_so last counts zero custom.Skip b = tt
    custom_so last counts zero q b = tt
    custom_so last counts (suc n) q b = tt

    begun_so : (of : SectionKind) (counts : Counts) (b : List ℕ) → BecomesIn (begun_section of counts).0 b
    begun_so section_kind.Segment counts b = at_last counts.functions
      where
        at_last : (n : ℕ) → BecomesIn (begun_last n counts).0 b
        at_last zero = tt
        at_last (suc n) = tt
    begun_so of counts b = tt

    rising_so : (last : ℕ) (counts : Counts) (q : Option SectionKind) (b : List ℕ) → BecomesIn (machine_if_rising last counts q).0 b
    rising_so last counts None b = tt
    rising_so last counts (Some of) b = cond_both (nat_le (rank_of of) last) _ _ (λ (q : Machine × Event). BecomesIn q.0 b) (λ _. tt) (λ _. begun_so of counts b)

    start_so : (last : ℕ) (counts : Counts) (d : ℕ) (b : List ℕ) → BecomesIn (section_start p last counts d).0 b
    start_so last counts zero b = tt
    start_so last counts (suc m) b = rising_so last counts (section_kind_of p (suc m)) b

    header_so : (n d : ℕ) (b : List ℕ) → BecomesIn (header_step n d).0 b
    header_so n d b =
        let P : Machine × Event → Type 0 = λ q. BecomesIn q.0 b in
        cond_both (nat_lt n 8) _ _ P
        (λ _. cond_both (nat_eq d (slice_index header n)) _ _ P
        (λ _. cond_both (nat_lt n 7) _ _ P (λ _. tt) (λ _. tt))
        (λ _. cond_both (nat_lt n 4) _ _ P (λ _. tt) (λ _. tt)))
        (λ _. tt)

    step_becomes : (m : Machine) (b : List ℕ) → Fits p m → PlacedIn m b → BecomesIn (step_of p m c).0 (b ++ c ∷ [])
    step_becomes (machine.Header n) b f h = header_so n c (b ++ c ∷ [])
    step_becomes (machine.Between last counts) b f h = start_so last counts c (b ++ c ∷ [])
    step_becomes (machine.CustomSize last counts r) b f h = number_so (unsigned_push 32 r c) (λ s. machine.CustomSize last counts s) (λ n. (custom_size last counts n, event.Nothing)) (b ++ c ∷ []) (λ s. tt) (λ n. custom_so last counts n (custom.Length fresh) (b ++ c ∷ []))
    step_becomes (machine.Custom last counts more q) b f h = custom_so last counts more (custom_step q c).0 (b ++ c ∷ [])
    step_becomes (machine.Size of counts r) b f h = number_so (unsigned_push 32 r c) (λ s. machine.Size of counts s) (λ n. (after_size of counts n, event.Nothing)) (b ++ c ∷ []) (λ s. tt) (λ n. size_so of counts n (b ++ c ∷ []))
    step_becomes (machine.Count of counts more r) b f h = count_so of counts more (unsigned_push 32 r c) (b ++ c ∷ [])
    step_becomes (machine.Section of counts more left q) b f h = framed_so of counts more left (member_step p q c).0 (b ++ c ∷ []) (member_becomes (suc more) q b f.2.1 h)
    step_becomes (machine.Refused w) b f h = tt

    heard_becomes : (zone : Zone) (y : List ℕ) (m : Machine) (e : Event) (b : List ℕ) → BecomesIn m b → BecomesIn (byte_read machine.Refused zone y c (m, e)).at b
    heard_becomes zone y m event.Nothing b h = h
    heard_becomes zone y m (event.Complete x) b h = h
    heard_becomes zone y m event.DataByte b h = h
    heard_becomes zone y m event.InName b h = h
    heard_becomes zone y m (event.EndsName kind) b h = cond_both (is_utf8 (y ++ c ∷ [])) _ _ (λ (z : ByteRead Machine). BecomesIn z.at b) (λ _. h) (λ _. tt)
    heard_becomes zone y m (event.EmptyName kind) b h = h

  placed : (b : List ℕ) (m : Machine) → BecomesIn m b → (state_after p state_at_start b).machine ≡ m → PlacedIn m b
  placed b (machine.Section of counts more left (at.EntrySize r)) (inl h) e = h
  placed b (machine.Section of counts more left (at.EntrySize r)) (inr i) e = record {
    before = b;
    begun = [];
    whole = sym (append-nil b);
    starts = (of, counts, more, left, e ∙ ap (λ s. machine.Section of counts more left (at.EntrySize s)) i);
    number = subst (λ s. UnsignedAfter 32 s []) (sym i) (unsigned_fresh 32 (omega arith));
  }
  placed b (machine.Section of counts more left (at.Entry n q)) h e = h
  placed b (machine.Section of counts more left q) h e = tt
  placed b m h e = tt

  placed_run : (before : List ℕ) (s : MachineState) → state_after p state_at_start before ≡ s → Fits p s.machine → PlacedIn s.machine before → (b : List ℕ) → AreBytes b → PlacedIn (state_after p s b).machine (before ++ b)
  placed_run before s e f h [] a = subst (λ z. PlacedIn s.machine z) (sym (append-nil before)) h
  placed_run before s e f h (c ∷ b) a =
      let t : MachineState = after_byte p s c in
      let at_t : state_after p state_at_start (before ++ c ∷ []) ≡ t = state_snoc p state_at_start before c ∙ ap (λ z. after_byte p z c) e in
      let now : BecomesIn t.machine (before ++ c ∷ []) = heard_becomes c a.0 (zone_of s.machine) s.name (step_of p s.machine c).0 (step_of p s.machine c).1 (before ++ c ∷ []) (step_becomes c a.0 s.machine before f h) in
      subst (λ z. PlacedIn (state_after p t b).machine z) (append_assoc before (c ∷ []) b)
      (placed_run (before ++ c ∷ []) t at_t (byte_fits p s c a.0 f) (placed (before ++ c ∷ []) t.machine now (ap (λ (z : MachineState). z.machine) at_t)) b a.1)

  -- where an entry must stand
  code_begins : (y : List ℕ) → PartsBegin (CodeEntry p) (ComponentRest loose p (at.EntrySize fresh) y) (ComponentRest strict p (at.EntrySize fresh) y)
  code_begins y = record {
    can = λ b w.
        let h = w.1 in
        ([], w.0, subst (λ z. ComponentRest loose p (at.EntrySize fresh) y z w.0) (sym (append-nil b)) (record { n = h.n; front = h.front; back = h.back; back_marks = h.back_marks; bytes = h.bytes; marks = h.marks; number = (fresh_number h.n h.front).0 h.number; rest = ((λ d. absurd d), h.rest.1) }));
    must = λ b k h. (b, [], sym (append-nil b), (k, record { n = h.n; front = h.front; back = h.back; back_marks = h.back_marks; bytes = h.bytes; marks = h.marks; number = (fresh_number h.n h.front).1 h.number; rest = h.rest }));
  }

  place_of : (before : List ℕ) → AreBytes before → Starts p before → MustStand p (CodeEntry p) before
  place_of before bytes s =
      let now = state_after p state_at_start before in
      must_stand p before bytes (CodeEntry p)
      (subst (λ m. PartsBegin (CodeEntry p) (MachineRest loose p m now.name) (MachineRest strict p m now.name)) (sym s.4) (section_begins p (CodeEntry p) s.0 s.1 s.2 s.3 (at.EntrySize fresh) now.name (code_begins now.name)))

  has_bytes : (b : List ℕ) → IsEntry p b → b ≢ []
  has_bytes b h e = entry_has strict p (entry.RunCount fresh) tt tt h.0 ((entry_same strict p).to tt [] h.0 (subst (λ z. Then (Vector (Run p)) (Expression p body_op) z h.0) e h.1))

  none_yet : BeginsEntry p []
  none_yet = let s = some_size p 0 in let e = s.spelled.1 in let h : IsEntry p s.bytes = (e.inner, e.contents) in (s.bytes, has_bytes s.bytes h, h)

  module _ (b : List ℕ) (bytes : AreBytes b) (c : ℕ) (byte : c < 2 ^ 8) where
    size_ends : (r : Partial) → AtSize p r b → (member_step p (at.EntrySize r) c).0 ≡ at.Failed why.BodyEnd → OtherBodySize p (b ++ c ∷ [])
    size_ends r h = go (unsigned_push 32 r c) (numbers r h.begun c byte h.number)
      where
        go : (x : Step ℕ × Partial) → Numbers (h.begun ++ c ∷ []) x → (on_number x at.EntrySize (λ n. with_item_given (member_in_entry n (entry.RunCount fresh)) plain.Body) at.Failed).0 ≡ at.Failed why.BodyEnd → OtherBodySize p (b ++ c ∷ [])
        go (step.More, s) u e = absurd (cc)
        go (step.Done zero, s) u e = record {
          before = h.before;
          size = h.begun ++ c ∷ [];
          contents = [];
          bytes = 0;
          whole = size_then c byte h.before h.begun b h.whole;
          place = place_of h.before (front_bytes h.before h.begun (subst AreBytes h.whole bytes)) h.starts;
          spelled = u;
          wrong = inl (refl, none_yet);
        }
        go (step.Done (suc n), s) u e = absurd (cc)
        go (step.Bad, s) u e = absurd (cc)

    entry_ends : (more : ℕ) (q : InEntry) → CanEnter p (suc more) q → Inside p (suc more) q b → (member_step p (at.Entry more q) c).0 ≡ at.Failed why.BodyEnd → OtherBodySize p (b ++ c ∷ [])
    entry_ends more q can h = framed more (entry_step p q c).0 refl h.room
      where
        few : more < 2 ^ 32
        few = let l = can.0 in omega (arith, l)

        grows : (r : InEntry) → (entry_step p q c).0 ≡ r → (d : List ℕ) (k : Marks) → EntryRest loose p r d k → IsEntry p ((h.contents ++ c ∷ []) ++ d)
        grows = entry_grows c byte more q h.contents can.1 h.grows

        other : ((length (h.contents ++ c ∷ []) ≡ h.bytes) × BeginsEntry p (h.contents ++ c ∷ [])) ⊎ ((length (h.contents ++ c ∷ []) < h.bytes) × IsEntry p (h.contents ++ c ∷ [])) → OtherBodySize p (b ++ c ∷ [])
        other wrong = record {
          before = h.before;
          size = h.size;
          contents = h.contents ++ c ∷ [];
          bytes = h.bytes;
          whole = in_whole c byte h.before h.size h.contents b h.whole;
          place = place_of h.before (front_bytes h.before (h.size ++ h.contents) (subst AreBytes h.whole bytes)) h.starts;
          spelled = h.spelled;
          wrong = wrong;
        }

        goes : (r : InEntry) → (entry_step p q c).0 ≡ r → StandsEntry p more r → h.bytes ≡ length h.contents + 1 → OtherBodySize p (b ++ c ∷ [])
        goes r is stands room =
            let s : Comes (EntryRest loose p r) = some_of_entry p more r stands in
            let some : s.bytes ≢ [] = λ e. entry_has strict p r (in_entry p more r stands) tt s.marks (subst (λ z. EntryRest loose p r z s.marks) e s.spelled) in
            other (inl ((omega (arith, room, length-append h.contents (c ∷ []))), (s.bytes, some, grows r is s.bytes s.marks s.spelled)))

        may : (r : InEntry) → (entry_step p q c).0 ≡ r → MayEnter p more r
        may r is = subst (MayEnter p more) is (entry_may p more few q c byte can.1)

        framed : (n : ℕ) (r : InEntry) → (entry_step p q c).0 ≡ r → h.bytes ≡ length h.contents + suc n → member_in_entry n r ≡ at.Failed why.BodyEnd → OtherBodySize p (b ++ c ∷ [])
        framed n (entry.Failed w) is room e = absurd (not_past_body c p q (in_entry p (suc more) q can.1) (is ∙ ap entry.Failed (same_failed w why.BodyEnd e)))
        framed zero entry.Over is room e = absurd (cc)
        framed (suc m) entry.Over is room e = other (inr ((omega (arith, room, length-append h.contents (c ∷ []))), subst (IsEntry p) (append-nil (h.contents ++ c ∷ [])) (grows entry.Over is [] [] (refl, refl))))
        framed zero (entry.RunCount r) is room e = goes (entry.RunCount r) is (may (entry.RunCount r) is).1 room
        framed zero (entry.Run l r) is room e = goes (entry.Run l r) is (may (entry.Run l r) is).1 room
        framed zero (entry.Body x) is room e = goes (entry.Body x) is (may (entry.Body x) is).1 room
        framed (suc m) (entry.RunCount r) is room e = absurd (cc)
        framed (suc m) (entry.Run l r) is room e = absurd (cc)
        framed (suc m) (entry.Body x) is room e = absurd (cc)

    member_ends : (left : ℕ) (q : InMember) → Stands p left q → Placed q b → (member_step p q c).0 ≡ at.Failed why.BodyEnd → OtherBodySize p (b ++ c ∷ [])
    member_ends left (at.EntrySize r) stands h e = size_ends r h e
    member_ends left (at.Entry more q) stands h e = entry_ends more q stands h e
    member_ends left q stands h e = absurd (not_body_end c p q tt e)

    machine_ends : (m : Machine) → Fits p m → (IsRefused m → ⊥) → PlacedIn m b → (step_of p m c).0 ≡ machine.Refused why.BodyEnd → OtherBodySize p (b ++ c ∷ [])
    machine_ends (machine.Header n) f live h = λ e. absurd (header_not n c e)
    machine_ends m f live h =
        let X : Type 0 = OtherBodySize p (b ++ c ∷ []) in
        let P : Machine → Type 0 = λ n. n ≡ machine.Refused why.BodyEnd → X in
        step_at P (λ n i e. absurd (not_live n why.BodyEnd i e)) (λ e. absurd (cc)) (λ e. absurd (cc)) (λ e. absurd (cc)) (λ e. absurd (cc)) (λ e. absurd (cc)) (λ e. absurd (cc)) p m c
        (λ i. i) (λ w s e. absurd (live (subst IsRefused (sym s) tt)))
        (λ q w s e. absurd (custom_not q c (s ∙ ap custom.Failed (same_refused w why.BodyEnd e))))
        (λ of counts more left q w s i e. in_section of counts more left q (subst (Fits p) s f) (subst (λ n. PlacedIn n b) s h) (i ∙ ap at.Failed (same_refused w why.BodyEnd e)))
      where
        in_section : (of : SectionKind) (counts : Counts) (more left : ℕ) (q : InMember) → Fits p (machine.Section of counts more left q) → Placed q b → (member_step p q c).0 ≡ at.Failed why.BodyEnd → OtherBodySize p (b ++ c ∷ [])
        in_section of counts more left q f h e = member_ends (suc more) q f.2.1 h e

    pub other_body_size : (m : Machine) (y : List ℕ) → record { machine = m; name = y } ≡ state_after p state_at_start b → Fits p m → (IsRefused m → ⊥) → (step_of p m c).0 ≡ machine.Refused why.BodyEnd → OtherBodySize p (b ++ c ∷ [])
    other_body_size m y same f live e =
        machine_ends m f live (subst (λ (s : MachineState). PlacedIn s.machine b) (sym same) (placed_run [] state_at_start refl begin_fits tt b bytes)) e
