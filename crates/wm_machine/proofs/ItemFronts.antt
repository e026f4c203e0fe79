-- The bytes up to one that completes an item are a front, even if this byte is refused for a size.
use Rattle.std.proofs.Common.{◌≡◌, ℕ, zero, suc, ◌<◌, ◌^◌, List, [], ◌∷◌, ◌++◌, Option, Some, None, Result, Ok, Err, refl, sym, ◌∙◌, ap, subst, arith, nat_eq, nat_lt, nat_le, append_assoc, length-append, true, false, cond, ◌+◌}
use Rattle.wm_machine.proofs.SegmentStarts.{active_element, indexed_element, active_data, passive_data, indexed_data, refused}
use Rattle.wm_syntax.specs.Profiles.{has}
use Rattle.wm_syntax.specs.declared.profile.Feature.TheVariants.{BulkMemory}
use Rattle.wm_machine.proofs.SegmentStarts.{begun_any}
use Rattle.wm_machine.specs.exact.MemberSteps.{segment_begun, segment_unfinished}
use Rattle.std.proofs.lemmas.Bool.{cond_both}
use Rattle.std.specs.Prelude.{slice_index}
use Rattle.std.specs.Str.{is_utf8}
use Rattle.wm_syntax.specs.declared.numbers.Step.{Step}
use Rattle.wm_syntax.specs.declared.numbers.Step.TheVariants as step
use Rattle.wm_syntax.specs.inner.Numbers.{Partial}
use Rattle.wm_syntax.specs.exact.Reading.{fresh, unsigned_push}
use Rattle.wm_syntax.specs.Spelling.{AreBytes}
use Rattle.wm_syntax.specs.declared.why.Why.{Why}
use Rattle.wm_syntax.specs.declared.why.Why.TheVariants as why
use Rattle.wm_syntax.specs.declared.profile.Profile.{Profile}
use Rattle.wm_syntax.specs.declared.types.ValType.{ValType}
use Rattle.wm_syntax.specs.declared.instructions.Op.{Op}
use Rattle.wm_syntax.specs.declared.instructions.Op.TheVariants as op
use Rattle.wm_machine.specs.declared.machine.NameKind.{NameKind}
use Rattle.wm_machine.specs.declared.machine.NameKind.TheVariants as name
use Rattle.wm_machine.specs.declared.machine.Counts.{Counts}
use Rattle.wm_machine.specs.declared.machine.InCustom.{InCustom}
use Rattle.wm_machine.specs.declared.machine.InCustom.TheVariants as custom
use Rattle.wm_machine.specs.declared.machine.Machine.{Machine}
use Rattle.wm_machine.specs.declared.machine.Machine.TheVariants as machine
use Rattle.wm_machine.specs.declared.machine.Plain.TheVariants as plain
use Rattle.wm_machine.specs.declared.machine.Event.{Event}
use Rattle.wm_machine.specs.declared.machine.Event.TheVariants as event
use Rattle.wm_machine.specs.declared.step.reading.Reading.{Reading}
use Rattle.wm_machine.specs.declared.step.reading.Reading.TheVariants.{More, Done, Bad}
use Rattle.wm_machine.specs.declared.step.ops.InOp.{InOp}
use Rattle.wm_machine.specs.declared.step.expressions.InExpression.{InExpression}
use Rattle.wm_machine.specs.declared.step.expressions.InExpression.TheVariants as expression
use Rattle.wm_machine.specs.declared.machine.member.SectionKind.{SectionKind}
use Rattle.wm_machine.specs.declared.machine.member.SectionKind.TheVariants as section_kind
use Rattle.wm_machine.specs.declared.machine.member.IndexOf.{IndexOf}
use Rattle.wm_machine.specs.declared.machine.member.IndexOf.TheVariants as index
use Rattle.wm_machine.specs.declared.machine.member.ConstantOf.{ConstantOf}
use Rattle.wm_machine.specs.declared.machine.member.ConstantOf.TheVariants as constant
use Rattle.wm_machine.specs.declared.machine.member.InEntry.{InEntry}
use Rattle.wm_machine.specs.declared.machine.member.InEntry.TheVariants as entry
use Rattle.wm_machine.specs.declared.machine.member.LengthOf.TheVariants as length_of
use Rattle.wm_machine.specs.declared.machine.member.InMember.{InMember}
use Rattle.wm_machine.specs.declared.machine.member.InMember.TheVariants as at
use Rattle.wm_machine.specs.Items.{Item, body, Zone, outside, entry as in_entry, closing, Mark, Marks}
use Rattle.wm_machine.specs.MarkedForms.{MarkedForm, Then, Times, Counted, Sized, Entry, in_zone, entry_marks, outside_mark}
use Rattle.wm_machine.specs.Sections.{header}
use Rattle.wm_machine.specs.Grammar.{ModuleForm, loose}
use Rattle.wm_machine.specs.Fronts.{IsFront}
use Rattle.wm_machine.specs.exact.Members.{rank_of, section_kind_of}
use Rattle.wm_machine.specs.exact.ValueSteps.{value_type_of, global_type_push, run_push, value_push}
use Rattle.wm_machine.specs.exact.OpSteps.{on_answer, op_push}
use Rattle.wm_machine.specs.exact.ExpressionSteps.{start, ends, after_op, after_label, after_reading, expression_step}
use Rattle.wm_machine.specs.exact.MemberSteps.{on_number, on_value, on_type, with_item_given, after_param, after_result, after_name, after_length, name_step, functions_or_over, index_item, after_index, constant_over, after_constant, op_event, data_or_over, list_or_over, runs_or_body, entry_after_op, entry_step, member_in_entry, member_step}
use Rattle.wm_machine.specs.exact.Steps.{begun_last, custom_after_length, custom_step, machine_in_member, machine_after_paired_count, count_event, after_count, begun_section, machine_if_rising, section_start, after_size, custom_size, header_step, step_of}
use Rattle.wm_machine.specs.exact.Runs.{name_item, byte_read, ByteRead, zone_in, zone_of, read_byte, state_after, marks, state_at_start}
use Rattle.wm_machine.proofs.FirstBytes.{Next}
use Rattle.wm_machine.proofs.Numbers.{Left}
use Rattle.wm_machine.proofs.Counts.{CountedNext, counted_next}
use Rattle.wm_machine.proofs.EntryBytes.{OnlyParts, entry_parts, EntryRest, entry_follows}
use Rattle.wm_machine.proofs.MemberSound.{CanEnter, MayEnter, entry_may, CanGo, MayGo, can_go_on}
use Rattle.wm_machine.proofs.MemberBytes.{OneOf, InSize, ComponentRest, can_open, component_follows}
use Rattle.wm_machine.proofs.OpenMembers.{Comes, some_empty, some_times, some_of_entry, some_size, some_component, some_one}
use Rattle.wm_machine.proofs.MachineStates.{Fits, run_fits}
use Rattle.wm_machine.proofs.WholeMachine.{After, Listed, ListOf, count_item, freely, Later, Within, MachineRest, begin_from, run_from}
use Rattle.wm_machine.proofs.MachineAndSink.{begin_fits}
use Rattle.wm_machine.proofs.Fronts.{some_after, some_later, some_listed, length_marks}

-- a byte that completes the item, and what may come after it
record Ends (P : MarkedForm) (c : ℕ) (x : Item) : Type 0 where
  mark : Mark
  completes : mark.item ≡ Some x
  bytes : List ℕ
  later : Marks
  spelled : P (c ∷ bytes) (mark ∷ later)

no_item : {A : Type 0} (x : A) → None ≡ Some x → ⊥
no_item x e = cc

module _ (c : ℕ) (x : Item) where
  ends_then : (P Q : MarkedForm) → Ends P c x → Comes Q → Ends (Then P Q) c x
  ends_then P Q e q = record {
    mark = e.mark;
    completes = e.completes;
    bytes = e.bytes ++ q.bytes;
    later = e.later ++ q.marks;
    spelled = record { front = c ∷ e.bytes; back = q.bytes; front_marks = e.mark ∷ e.later; back_marks = q.marks; bytes = refl; marks = refl; first = e.spelled; second = q.spelled };
  }

  ends_sized : (n : ℕ) (P : MarkedForm) → Ends P c x → Ends (Sized loose n P) c x
  ends_sized n P e = record { mark = e.mark; completes = e.completes; bytes = e.bytes; later = e.later; spelled = ((λ d. absurd d), e.spelled) }

  ends_next : (P Q : MarkedForm) (m : Mark) → m.item ≡ Some x → Next loose P c m Q → Comes Q → Ends P c x
  ends_next P Q m i n q = record { mark = m; completes = i; bytes = q.bytes; later = q.marks; spelled = n.from q.bytes (m ∷ q.marks) (q.marks, refl, q.spelled) }

  -- the zone of its mark says whether the entry goes on
  ends_entry : (P : MarkedForm) → Ends P c x → Ends (Entry P) c x
  ends_entry P e = go e.later refl
    where
      go : (k : Marks) → e.later ≡ k → Ends (Entry P) c x
      go [] is = record { mark = in_zone closing e.mark; completes = e.completes; bytes = e.bytes; later = []; spelled = record { inner = e.mark ∷ e.later; marks = sym (ap (λ y. entry_marks (e.mark ∷ y)) is); contents = e.spelled } }
      go (n ∷ k) is = record { mark = in_zone in_entry e.mark; completes = e.completes; bytes = e.bytes; later = entry_marks (n ∷ k); spelled = record { inner = e.mark ∷ e.later; marks = sym (ap (λ y. entry_marks (e.mark ∷ y)) is); contents = e.spelled } }

-- an expression in which an op is complete has not failed
abbrev pub StandsIn : InExpression → Type 0
StandsIn (expression.Failed w) = ⊥
StandsIn e = Unit {0}

abbrev Gave : InExpression × Option Op → Type 0
Gave z = (o : Op) → z.1 ≡ Some o → StandsIn z.0

ends_stands : (depth : ℕ) → StandsIn (ends depth)
ends_stands zero = tt
ends_stands (suc n) = tt

pub op_stands : (depth : ℕ) (o : Op) → StandsIn (after_op depth o)
op_stands depth (op.Block t) = tt
op_stands depth (op.Loop t) = tt
op_stands depth (op.If t) = tt
op_stands depth op.End = ends_stands depth
op_stands depth (op.BrTable n) = tt
op_stands depth o = tt

pub label_stands : (depth left : ℕ) → StandsIn (after_label depth left)
label_stands depth zero = tt
label_stands depth (suc n) = tt

reading_gave : (depth : ℕ) (q : Reading InOp Op) → Gave (after_reading depth q)
reading_gave depth (More at) o e = absurd (no_item o e)
reading_gave depth (Done v) o e = op_stands depth v
reading_gave depth (Bad w) o e = absurd (no_item o e)

label_gave : (depth left : ℕ) (q : Step ℕ × Partial)
    → Gave (on_answer q (λ s. (expression.Label depth left s, None)) (λ l. (after_label depth left, Some (op.Label l))) (expression.Failed why.BadNumber, None))
label_gave depth left (step.More, s) o e = absurd (no_item o e)
label_gave depth left (step.Done v, s) o e = label_stands depth left
label_gave depth left (step.Bad, s) o e = absurd (no_item o e)

expression_gave : (p : Profile) (e : InExpression) (c : ℕ) → Gave (expression_step p e c)
expression_gave p (expression.Op depth at) c = reading_gave depth (op_push p at c)
expression_gave p (expression.Label depth left r) c = label_gave depth left (unsigned_push 32 r c)
expression_gave p expression.Over c = λ o e. absurd (no_item o e)
expression_gave p (expression.Failed w) c = λ o e. absurd (no_item o e)

-- A place at which an item is complete has not failed.
module _ {M : Type 0} (fail : Why → M) (Stands : M → Type 0) (zone : Zone) (y : List ℕ) (c : ℕ) (x : Item) where
  abbrev Fine : M × Event → Type 0
  Fine q = (byte_read fail zone y c q).mark.item ≡ Some x → Stands (byte_read fail zone y c q).at

  quiet : (m : M) → Fine (m, event.Nothing)
  quiet m i = absurd (no_item x i)

  fine : (m : M) (e : Event) → Stands m → Fine (m, e)
  fine m event.Nothing s i = s
  fine m (event.Complete q) s i = s
  fine m event.DataByte s i = s
  fine m event.InName s i = s
  fine m (event.EmptyName k) s i = s
  fine m (event.EndsName k) s i = (cond_both (is_utf8 (y ++ c ∷ [])) _ _ (λ (h : ByteRead M). h.mark.item ≡ Some x → Stands h.at) (λ _ e. s) (λ _ e. absurd (no_item x e))) i

  number_fine : (q : Step ℕ × Partial) (more : Partial → M) (done : ℕ → M × Event) → ((n : ℕ) → Fine (done n)) → Fine (on_number q more done fail)
  number_fine (step.More, s) more done h = quiet (more s)
  number_fine (step.Done n, s) more done h = h n
  number_fine (step.Bad, s) more done h = quiet (fail why.BadNumber)

  value_fine : {R X : Type 0} (q : Reading R X) (more : R → M) (done : X → M × Event) → ((v : X) → Fine (done v)) → Fine (on_value q more done fail)
  value_fine (More s) more done h = quiet (more s)
  value_fine (Done v) more done h = h v
  value_fine (Bad w) more done h = quiet (fail w)

  type_fine : (q : Result ValType Why) (done : ValType → M × Event) → ((t : ValType) → Fine (done t)) → Fine (on_type q done fail)
  type_fine (Ok t) done h = h t
  type_fine (Err w) done h = quiet (fail w)

  -- the place is the one that the byte leads to, unless a name is no text
  heard_so : (P : M → Type 0) (m : M) (e : Event) → P m → ((w : Why) → P (fail w)) → P (byte_read fail zone y c (m, e)).at
  heard_so P m event.Nothing h f = h
  heard_so P m (event.Complete q) h f = h
  heard_so P m event.DataByte h f = h
  heard_so P m event.InName h f = h
  heard_so P m (event.EmptyName k) h f = h
  heard_so P m (event.EndsName k) h f = cond_both (is_utf8 (y ++ c ∷ [])) _ _ (λ (b : ByteRead M). P b.at) (λ _. h) (λ _. f why.BadUtf8)

abbrev pub StandsAt : InMember → Type 0
StandsAt (at.Failed w) = ⊥
StandsAt q = Unit {0}

abbrev pub StandsEntry : InEntry → Type 0
StandsEntry (entry.Failed w) = ⊥
StandsEntry q = Unit {0}

pub param_stands : (n : ℕ) → StandsAt (after_param n)
param_stands zero = tt
param_stands (suc n) = tt

pub result_stands : (n : ℕ) → StandsAt (after_result n)
result_stands zero = tt
result_stands (suc n) = tt

pub name_stands : (of : NameKind) → StandsAt (after_name of)
name_stands name.ImportModule = tt
name_stands name.ImportName = tt
name_stands name.Export = tt
name_stands name.Custom = tt

pub functions_stand : (n : ℕ) → StandsAt (functions_or_over n)
functions_stand zero = tt
functions_stand (suc n) = tt

pub data_stand : (n : ℕ) → StandsAt (data_or_over n)
data_stand zero = tt
data_stand (suc n) = tt

pub index_stands : (of : IndexOf) → StandsAt (after_index of)
index_stands index.Function = tt
index_stands index.Start = tt
index_stands index.Element = tt
index_stands (index.ElementFunction more) = functions_stand more
index_stands index.Segment = tt

pub over_stands : (of : ConstantOf) → StandsAt (constant_over of)
over_stands constant.Global = tt
over_stands constant.Element = tt
over_stands constant.IndexedElement = tt
over_stands constant.Segment = tt

constant_stands : (of : ConstantOf) (e : InExpression) → StandsIn e → StandsAt (after_constant of e)
constant_stands of expression.Over s = over_stands of
constant_stands of (expression.Failed w) s = absurd s
constant_stands of (expression.Op depth q) s = tt
constant_stands of (expression.Label depth left r) s = tt

pub runs_stand : (n : ℕ) → StandsEntry (runs_or_body n)
runs_stand zero = tt
runs_stand (suc n) = tt

body_stands : (e : InExpression) → StandsIn e → StandsEntry (entry_after_op e)
body_stands expression.Over s = tt
body_stands (expression.Failed w) s = absurd s
body_stands (expression.Op depth q) s = tt
body_stands (expression.Label depth left r) s = tt

-- code entries are judged by their own steps
abbrev IsOutside : InMember → Type 0
IsOutside (at.EntrySize r) = ⊥
IsOutside (at.Entry more q) = ⊥
IsOutside q = Unit {0}

module _ (zone : Zone) (y : List ℕ) (c : ℕ) (x : Item) where
  abbrev FineAt : InMember × Event → Type 0
  FineAt = Fine at.Failed StandsAt zone y c x

  abbrev FineEntry : InEntry × Event → Type 0
  FineEntry = Fine entry.Failed StandsEntry zone y c x

  silent : (m : InMember) → FineAt (m, event.Nothing)
  silent = quiet at.Failed StandsAt zone y c x

  stands : (m : InMember) (e : Event) → StandsAt m → FineAt (m, e)
  stands = fine at.Failed StandsAt zone y c x

  length_fine : (of : NameKind) (n : ℕ) → FineAt (after_length of n)
  length_fine of zero = stands (after_name of) (event.EmptyName of) (name_stands of)
  length_fine of (suc n) = silent (at.Name of n)

  name_fine : (of : NameKind) (n : ℕ) → FineAt (name_step of n)
  name_fine of zero = stands (after_name of) (event.EndsName of) (name_stands of)
  name_fine of (suc n) = stands (at.Name of n) event.InName tt

  constant_fine : (of : ConstantOf) (z : InExpression × Option Op) → Gave z → FineAt (after_constant of z.0, op_event plain.ConstOp z.1)
  constant_fine of (e, None) g = silent (after_constant of e)
  constant_fine of (e, Some o) g = stands (after_constant of e) (event.Complete (plain.ConstOp o)) (constant_stands of e (g o refl))

  body_fine : (z : InExpression × Option Op) → Gave z → FineEntry (entry_after_op z.0, op_event plain.BodyOp z.1)
  body_fine (e, None) g = quiet entry.Failed StandsEntry zone y c x (entry_after_op e)
  body_fine (e, Some o) g = fine entry.Failed StandsEntry zone y c x (entry_after_op e) (event.Complete (plain.BodyOp o)) (body_stands e (g o refl))

  entry_fine : (p : Profile) (q : InEntry) → FineEntry (entry_step p q c)
  entry_fine p (entry.RunCount r) = number_fine entry.Failed StandsEntry zone y c x (unsigned_push 32 r c) entry.RunCount (λ n. (runs_or_body n, event.Nothing)) (λ n. quiet entry.Failed StandsEntry zone y c x (runs_or_body n))
  entry_fine p (entry.Run more r) = value_fine entry.Failed StandsEntry zone y c x (run_push p r c) (λ s. entry.Run more s) (λ v. with_item_given (runs_or_body more) (plain.Locals v.0 v.1))
      (λ v. fine entry.Failed StandsEntry zone y c x (runs_or_body more) (event.Complete (plain.Locals v.0 v.1)) (runs_stand more))
  entry_fine p (entry.Body e) = body_fine (expression_step p e c) (expression_gave p e c)
  entry_fine p entry.Over = quiet entry.Failed StandsEntry zone y c x (entry.Failed why.BodyEnd)
  entry_fine p (entry.Failed w) = quiet entry.Failed StandsEntry zone y c x (entry.Failed why.BodyEnd)

  member_fine : (p : Profile) (q : InMember) → IsOutside q → FineAt (member_step p q c)
  member_fine p at.TypeForm i = cond_both (nat_eq c 0x60) _ _ FineAt (λ _. stands (at.ParamCount fresh) (event.Complete plain.NewType) tt) (λ _. silent (at.Failed why.BadByte))
  member_fine p (at.ParamCount r) i = number_fine at.Failed StandsAt zone y c x (unsigned_push 32 r c) at.ParamCount (λ n. (after_param n, event.Nothing)) (λ n. silent (after_param n))
  member_fine p (at.Param more) i = type_fine at.Failed StandsAt zone y c x (value_type_of p c) (λ t. with_item_given (after_param more) (plain.Param t)) (λ t. stands (after_param more) (event.Complete (plain.Param t)) (param_stands more))
  member_fine p (at.ResultCount r) i = number_fine at.Failed StandsAt zone y c x (unsigned_push 32 r c) at.ResultCount (λ n. with_item_given (after_result n) (plain.ResultCount n)) (λ n. stands (after_result n) (event.Complete (plain.ResultCount n)) (result_stands n))
  member_fine p (at.ResultType more) i = type_fine at.Failed StandsAt zone y c x (value_type_of p c) (λ t. with_item_given (after_result more) (plain.OneResult t)) (λ t. stands (after_result more) (event.Complete (plain.OneResult t)) (result_stands more))
  member_fine p (at.NameLength of r) i = number_fine at.Failed StandsAt zone y c x (unsigned_push 32 r c) (λ s. at.NameLength of s) (after_length of) (length_fine of)
  member_fine p (at.Name of more) i = name_fine of more
  member_fine p (at.Value v) i = value_fine at.Failed StandsAt zone y c x (value_push p v c) at.Value (λ q. with_item_given at.Over q) (λ q. stands at.Over (event.Complete q) tt)
  member_fine p (at.Index of r) i = number_fine at.Failed StandsAt zone y c x (unsigned_push 32 r c) (λ s. at.Index of s) (λ n. with_item_given (after_index of) (index_item of n)) (λ n. stands (after_index of) (event.Complete (index_item of n)) (index_stands of))
  member_fine p (at.SegmentStart of r) i =
      number_fine at.Failed StandsAt zone y c x (unsigned_push 32 r c) (segment_unfinished (has p BulkMemory) of) (segment_begun (has p BulkMemory) of)
      (begun_any FineAt (λ n. stands active_element (event.Complete (plain.Element n)) tt) (stands at.ElementKind (event.Complete plain.PassiveElement) tt) (silent indexed_element)
      (λ n. stands active_data (event.Complete (plain.Segment n)) tt) (stands passive_data (event.Complete plain.PassiveSegment) tt) (silent indexed_data) (silent refused) (has p BulkMemory) of)
  member_fine p at.ElementKind i = cond_both (nat_eq c 0x00) _ _ FineAt (λ _. silent (at.Length length_of.Functions fresh)) (λ _. silent (at.Failed why.BadByte))
  member_fine p (at.GlobalType g) i = value_fine at.Failed StandsAt zone y c x (global_type_push p g c) at.GlobalType (λ t. with_item_given (at.Constant constant.Global start) (plain.Global t)) (λ t. stands (at.Constant constant.Global start) (event.Complete (plain.Global t)) tt)
  member_fine p (at.Constant of e) i = constant_fine of (expression_step p e c) (expression_gave p e c)
  member_fine p (at.Length of r) i = number_fine at.Failed StandsAt zone y c x (unsigned_push 32 r c) (λ s. at.Length of s) (λ n. (list_or_over of n, event.Nothing)) (λ n. silent (list_or_over of n))
  member_fine p (at.Data more) i = stands (data_or_over more) event.DataByte (data_stand more)
  member_fine p (at.EntrySize r) i = absurd i
  member_fine p (at.Entry more q) i = absurd i
  member_fine p at.Over i = silent (at.Failed why.SectionEnd)
  member_fine p (at.Failed w) i = silent (at.Failed why.SectionEnd)

-- something comes where it stands
pub comes_at : (p : Profile) (left : ℕ) (m : InMember) (y : List ℕ) → MayGo p left m → StandsAt m → Comes (ComponentRest loose p m y)
comes_at p left at.Over y g s = some_empty
comes_at p left (at.Failed w) y g s = absurd s
comes_at p left m y g s = some_component p left m y g

comes_in_entry : (p : Profile) (left : ℕ) (q : InEntry) → MayEnter p left q → StandsEntry q → Comes (EntryRest loose p q)
comes_in_entry p left entry.Over g s = some_empty
comes_in_entry p left (entry.Failed w) g s = absurd s
comes_in_entry p left q g s = some_of_entry p left q g.1

entry_item : (zone : Zone) (y : List ℕ) (c : ℕ) (m : InMember) (q : InEntry) (e : Event) → OnlyParts e → (byte_read at.Failed zone y c (m, e)).mark.item ≡ (byte_read entry.Failed outside [] c (q, e)).mark.item
entry_item zone y c m q event.Nothing o = refl
entry_item zone y c m q (event.Complete k) o = refl
entry_item zone y c m q event.DataByte o = absurd o
entry_item zone y c m q event.InName o = absurd o
entry_item zone y c m q (event.EndsName k) o = absurd o
entry_item zone y c m q (event.EmptyName k) o = absurd o

module _ (p : Profile) (c : ℕ) (byte : c < 2 ^ 8) (x : Item) where
  outside_ends : (left : ℕ) (q : InMember) (y : List ℕ) → IsOutside q → CanGo p (suc left) q → (byte_read at.Failed (zone_in q) y c (member_step p q c)).mark.item ≡ Some x → Ends (ComponentRest loose p q y) c x
  outside_ends left q y o go i =
      let h = byte_read at.Failed (zone_in q) y c (member_step p q c) in
      let next : MayGo p left h.at = heard_so at.Failed StandsAt (zone_in q) y c x (MayGo p left) (member_step p q c).0 (member_step p q c).1 (can_go_on p left q c byte go) (λ w. tt) in
      ends_next c x (ComponentRest loose p q y) (ComponentRest loose p h.at h.name) h.mark i (component_follows loose p left q y c go byte) (comes_at p left h.at h.name next (member_fine (zone_in q) y c x p q o i))

  entry_ends : (more : ℕ) (q : InEntry) → CanEnter p (suc more) q → (byte_read entry.Failed outside [] c (entry_step p q c)).mark.item ≡ Some x → Ends (EntryRest loose p q) c x
  entry_ends more q go i =
      let h = byte_read entry.Failed outside [] c (entry_step p q c) in
      let few : more < 2 ^ 32 = (let l = go.0 in omega (arith, l)) in
      let next : MayEnter p more h.at = heard_so entry.Failed StandsEntry outside [] c x (MayEnter p more) (entry_step p q c).0 (entry_step p q c).1 (entry_may p more few q c byte go.1) (λ w. tt) in
      ends_next c x (EntryRest loose p q) (EntryRest loose p h.at) h.mark i (entry_follows loose p q c (can_open loose p more q go.1) byte) (comes_in_entry p more h.at next (entry_fine outside [] c x p q i))

  size_ends : (r : Partial) (y : List ℕ) (q : Step ℕ × Partial) → CountedNext loose (λ n. Some body) (InSize loose p) r c q
      → (byte_read at.Failed outside y c (on_number q at.EntrySize (λ n. with_item_given (member_in_entry n (entry.RunCount fresh)) plain.Body) at.Failed)).mark.item ≡ Some x → Ends (Counted (Left r) (λ n. Some body) (InSize loose p)) c x
  size_ends r y (step.More, s) n i = absurd (no_item x i)
  size_ends r y (step.Done v, s) n i = ends_next c x (Counted (Left r) (λ n. Some body) (InSize loose p)) (InSize loose p v) (outside_mark (Some body)) i n (some_size p v)
  size_ends r y (step.Bad, s) n i = absurd (no_item x i)

  member_ends : (left : ℕ) (q : InMember) (y : List ℕ) → CanGo p (suc left) q → (byte_read at.Failed (zone_in q) y c (member_step p q c)).mark.item ≡ Some x → Ends (ComponentRest loose p q y) c x
  member_ends left (at.EntrySize r) y go i = size_ends r y (unsigned_push 32 r c) (counted_next loose (λ n. Some body) (InSize loose p) r c byte) i
  member_ends left (at.Entry more q) y go i =
      let z = entry_step p q c in
      let same = entry_item (zone_in (at.Entry more q)) y c (member_in_entry more z.0) z.0 z.1 (entry_parts p q c) in
      ends_sized c x (suc more) (Entry (EntryRest loose p q)) (ends_entry c x (EntryRest loose p q) (entry_ends more q go.1 (sym same ∙ i)))
  member_ends left q y go i = outside_ends left q y tt go i

  -- the machine's mark is that of its member
  same_item : (zone : Zone) (y : List ℕ) (m : Machine) (q : InMember) (e : Event) → (byte_read machine.Refused zone y c (m, e)).mark.item ≡ (byte_read at.Failed zone y c (q, e)).mark.item
  same_item zone y m q event.Nothing = refl
  same_item zone y m q (event.Complete k) = refl
  same_item zone y m q event.DataByte = refl
  same_item zone y m q event.InName = refl
  same_item zone y m q (event.EmptyName k) = refl
  same_item zone y m q (event.EndsName k) =
      let x : Mark = outside_mark (name_item k (y ++ c ∷ [])) in
      elim (is_utf8 (y ++ c ∷ [])) as (λ v.
      (cond {A = ByteRead Machine} v (record { at = m; name = []; mark = x }) (record { at = machine.Refused why.BadUtf8; name = []; mark = outside_mark None })).mark.item
      ≡ (cond {A = ByteRead InMember} v (record { at = q; name = []; mark = x }) (record { at = at.Failed why.BadUtf8; name = []; mark = outside_mark None })).mark.item)
      [ true ↦ refl | false ↦ refl ]

-- elsewhere no item is complete
abbrev IsSilent : Event → Type 0
IsSilent event.Nothing = Unit {0}
IsSilent event.InName = Unit {0}
IsSilent (event.EndsName name.Custom) = Unit {0}
IsSilent (event.EmptyName name.Custom) = Unit {0}
IsSilent e = ⊥

step_silent : {M : Type 0} (q : Step ℕ × Partial) (more : Partial → M) (done : ℕ → M × Event) (bad : Why → M) → ((n : ℕ) → IsSilent (done n).1) → IsSilent (on_number q more done bad).1
step_silent (step.More, s) more done bad h = tt
step_silent (step.Done n, s) more done bad h = h n
step_silent (step.Bad, s) more done bad h = tt

length_silent : (n : ℕ) → IsSilent (custom_after_length n).1
length_silent zero = tt
length_silent (suc n) = tt

custom_silent : (q : InCustom) (c : ℕ) → IsSilent (custom_step q c).1
custom_silent (custom.Length r) c = step_silent (unsigned_push 32 r c) custom.Length custom_after_length custom.Failed length_silent
custom_silent (custom.Name zero) c = tt
custom_silent (custom.Name (suc n)) c = tt
custom_silent custom.Skip c = tt
custom_silent (custom.Failed w) c = tt

begun_silent : (of : SectionKind) (counts : Counts) → IsSilent (begun_section of counts).1
begun_silent section_kind.Segment counts = at_last counts.functions
  where
    at_last : (n : ℕ) → IsSilent (begun_last n counts).1
    at_last zero = tt
    at_last (suc n) = tt
begun_silent of counts = tt

rising_silent : (last : ℕ) (counts : Counts) (q : Option SectionKind) → IsSilent (machine_if_rising last counts q).1
rising_silent last counts None = tt
rising_silent last counts (Some of) = cond_both (nat_le (rank_of of) last) _ _ (λ (q : Machine × Event). IsSilent q.1) (λ _. tt) (λ _. begun_silent of counts)

start_silent : (p : Profile) (last : ℕ) (counts : Counts) (c : ℕ) → IsSilent (section_start p last counts c).1
start_silent p last counts zero = tt
start_silent p last counts (suc m) = rising_silent last counts (section_kind_of p (suc m))

header_silent : (n c : ℕ) → IsSilent (header_step n c).1
header_silent n c =
    let P : Machine × Event → Type 0 = λ q. IsSilent q.1 in
    cond_both (nat_lt n 8) _ _ P
    (λ _. cond_both (nat_eq c (slice_index header n)) _ _ P
    (λ _. cond_both (nat_lt n 7) _ _ P (λ _. tt) (λ _. tt))
    (λ _. cond_both (nat_lt n 4) _ _ P (λ _. tt) (λ _. tt)))
    (λ _. tt)

silent_none : (zone : Zone) (y : List ℕ) (c : ℕ) (m : Machine) (e : Event) (x : Item) → IsSilent e → (byte_read machine.Refused zone y c (m, e)).mark.item ≡ Some x → ⊥
silent_none zone y c m event.Nothing x s i = no_item x i
silent_none zone y c m event.InName x s i = no_item x i
silent_none zone y c m (event.EmptyName name.Custom) x s i = no_item x i
silent_none zone y c m (event.EndsName name.Custom) x s i = (cond_both (is_utf8 (y ++ c ∷ [])) _ _ (λ (h : ByteRead Machine). h.mark.item ≡ Some x → ⊥) (λ _ e. no_item x e) (λ _ e. no_item x e)) i
silent_none zone y c m e x s i = absurd s

module _ (p : Profile) (c : ℕ) (byte : c < 2 ^ 8) (x : Item) where
  abbrev EndsIn : Machine → List ℕ → Type 0
  EndsIn m y = (byte_read machine.Refused (zone_of m) y c (step_of p m c)).mark.item ≡ Some x → Ends (MachineRest loose p m y) c x

  mute : (m : Machine) (y : List ℕ) → IsSilent (step_of p m c).1 → EndsIn m y
  mute m y s i = absurd (silent_none (zone_of m) y c (step_of p m c).0 (step_of p m c).1 x s i)

  -- the number in the data count section is an item
  module _ (of : SectionKind) (counts : Counts) (more : ℕ) (r : Partial) (y : List ℕ) where
    abbrev AtCount : MarkedForm
    AtCount = MachineRest loose p (machine.Count of counts more r) y

    number_ends : (v : ℕ) → Next loose (Listed loose p of r (freely counts)) c (outside_mark (count_item of v)) (ListOf loose p of (freely counts) v) → count_item of v ≡ Some x → Ends AtCount c x
    number_ends v n i =
        let L : MarkedForm = Listed loose p of r (freely counts) in
        let e = ends_then c x (Sized loose (suc more) L) (After loose p of (freely counts)) (ends_sized c x (suc more) L (ends_next c x L (ListOf loose p of (freely counts) v) (outside_mark (count_item of v)) i n (some_listed p of (freely counts) v))) (some_after p of (freely counts)) in
        record { mark = e.mark; completes = e.completes; bytes = e.bytes; later = e.later; spelled = (freely counts, ((λ l. refl), (λ d. absurd d)), e.spelled) }

    count_ends : (q : Step ℕ × Partial) → CountedNext loose (count_item of) (ListOf loose p of (freely counts)) r c q → (byte_read machine.Refused outside y c (after_count of counts more q)).mark.item ≡ Some x → Ends AtCount c x
    count_ends (step.More, s) n i = absurd (no_more more i)
      where
        no_more : (m : ℕ) → (byte_read machine.Refused outside y c (after_count of counts m (step.More, s))).mark.item ≡ Some x → ⊥
        no_more zero i = no_item x i
        no_more (suc k) i = no_item x i
    count_ends (step.Done v, s) n i = number_ends v n (named of i)
      where
        named : (k : SectionKind) → (byte_read machine.Refused outside y c (machine_after_paired_count of counts more v, count_event k v)).mark.item ≡ Some x → count_item k v ≡ Some x
        named section_kind.DataCount i = i
        named k i = i
    count_ends (step.Bad, s) n i = absurd (no_item x i)

  machine_ends : (m : Machine) (y : List ℕ) → Fits p m → EndsIn m y
  machine_ends (machine.Header n) y f = mute (machine.Header n) y (header_silent n c)
  machine_ends (machine.Between last counts) y f = mute (machine.Between last counts) y (start_silent p last counts c)
  machine_ends (machine.CustomSize last counts r) y f =
      mute (machine.CustomSize last counts r) y (step_silent (unsigned_push 32 r c) (λ s. machine.CustomSize last counts s) (λ n. (custom_size last counts n, event.Nothing)) machine.Refused (λ n. tt))
  machine_ends (machine.Custom last counts more q) y f = mute (machine.Custom last counts more q) y (custom_silent q c)
  machine_ends (machine.Size of counts r) y f =
      mute (machine.Size of counts r) y (step_silent (unsigned_push 32 r c) (λ s. machine.Size of counts s) (λ n. (after_size of counts n, event.Nothing)) machine.Refused (λ n. tt))
  machine_ends (machine.Count of counts more r) y f = count_ends of counts more r y (unsigned_push 32 r c) (counted_next loose (count_item of) (ListOf loose p of (freely counts)) r c byte)
  machine_ends (machine.Refused w) y f = mute (machine.Refused w) y tt
  machine_ends (machine.Section of counts more left q) y f = λ i.
      let z = member_step p q c in
      let same = same_item p c byte x (zone_in q) y (machine_in_member of counts more left z.0) z.0 z.1 in
      let T : MarkedForm = Times left (OneOf loose p of) in
      let W : MarkedForm = Within loose p of left q y in
      let here : Ends W c x = ends_then c x (ComponentRest loose p q y) T (member_ends p c byte x more q y f.2 (sym same ∙ i)) (some_times left (OneOf loose p of) (some_one p of)) in
      ends_then c x (Sized loose (suc more) W) (Later loose p (rank_of of) counts) (ends_sized c x (suc more) W here) (some_later p (rank_of of) counts)

-- the bytes with that byte are a front
pub item_front : (p : Profile) (b : List ℕ) (c : ℕ) (x : Item) → AreBytes b → c < 2 ^ 8 → (read_byte p (state_after p state_at_start b) c).mark.item ≡ Some x
    → (m : Mark) × (m.item ≡ Some x) × IsFront p (b ++ c ∷ []) (marks p state_at_start b ++ m ∷ [])
item_front p b c x bytes byte i =
    let s = state_after p state_at_start b in
    let told : Marks = marks p state_at_start b in
    let e = machine_ends p c byte x s.machine s.name (run_fits p state_at_start b bytes begin_fits) i in
    let whole = begin_from loose p (b ++ c ∷ e.bytes) (told ++ e.mark ∷ e.later) (run_from loose p state_at_start b (c ∷ e.bytes) (e.mark ∷ e.later) bytes begin_fits e.spelled) in (
      e.mark,
      e.completes,
      record {
        rest = e.bytes;
        rest_marks = e.later;
        same = length-append b (c ∷ []) ∙ (ap (λ n. n + 1) (length_marks p b state_at_start) ∙ sym (length-append told (e.mark ∷ [])));
        whole = subst (λ y. ModuleForm loose p y ((told ++ e.mark ∷ []) ++ e.later)) (sym (append_assoc b (c ∷ []) e.bytes)) (subst (λ k. ModuleForm loose p (b ++ c ∷ e.bytes) k) (sym (append_assoc told (e.mark ∷ []) e.later)) whole);
      },
    )
