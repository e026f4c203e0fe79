-- Exact answers of the slow path inside a member of a section.
use Rattle.std.specs.Prelude.{ℕ, zero, suc, ◌==◌, if◌then◌else◌, Option, Some, None, Result, Ok, Err}
use Rattle.std.specs.Prelude.{Bool, true, false, nat_le}
use Rattle.wm_syntax.specs.declared.numbers.Step.{Step}
use Rattle.wm_syntax.specs.declared.numbers.Step.TheVariants as step
use Rattle.wm_syntax.specs.inner.Numbers.{Partial}
use Rattle.wm_syntax.specs.exact.Reading.{fresh, unsigned_push}
use Rattle.wm_syntax.specs.declared.why.Why.{Why}
use Rattle.wm_syntax.specs.declared.why.Why.TheVariants as why
use Rattle.wm_syntax.specs.declared.profile.Profile.{Profile}
use Rattle.wm_syntax.specs.declared.profile.Feature.TheVariants.{BulkMemory}
use Rattle.wm_syntax.specs.Profiles.{has}
use Rattle.wm_syntax.specs.declared.types.ValType.{ValType}
use Rattle.wm_syntax.specs.declared.instructions.Op.{Op}
use Rattle.wm_machine.specs.declared.machine.NameKind.{NameKind}
use Rattle.wm_machine.specs.declared.machine.NameKind.TheVariants as name
use Rattle.wm_machine.specs.declared.machine.Plain.{Plain}
use Rattle.wm_machine.specs.declared.machine.Plain.TheVariants as plain
use Rattle.wm_machine.specs.declared.machine.Event.{Event}
use Rattle.wm_machine.specs.declared.machine.Event.TheVariants as event
use Rattle.wm_machine.specs.declared.step.reading.Reading.{Reading}
use Rattle.wm_machine.specs.declared.step.reading.Reading.TheVariants.{More, Done, Bad}
use Rattle.wm_machine.specs.declared.step.values.InGlobalType.{InGlobalType}
use Rattle.wm_machine.specs.declared.step.values.InImportDesc.TheVariants as import
use Rattle.wm_machine.specs.declared.step.values.InExportDesc.TheVariants as target
use Rattle.wm_machine.specs.declared.step.values.InRun.{InRun}
use Rattle.wm_machine.specs.declared.step.values.InRun.TheVariants as run
use Rattle.wm_machine.specs.declared.step.values.InValue.{InValue}
use Rattle.wm_machine.specs.declared.step.values.InValue.TheVariants as value
use Rattle.wm_machine.specs.declared.machine.member.IndexOf.{IndexOf}
use Rattle.wm_machine.specs.declared.machine.member.IndexOf.TheVariants as index
use Rattle.wm_machine.specs.declared.machine.member.ConstantOf.{ConstantOf}
use Rattle.wm_machine.specs.declared.machine.member.ConstantOf.TheVariants as constant
use Rattle.wm_machine.specs.declared.machine.member.SegmentKind.{SegmentKind}
use Rattle.wm_machine.specs.declared.machine.member.SegmentKind.TheVariants as segment
use Rattle.wm_machine.specs.declared.machine.member.LengthOf.{LengthOf}
use Rattle.wm_machine.specs.declared.machine.member.LengthOf.TheVariants as length_of
use Rattle.wm_machine.specs.declared.machine.member.InEntry.{InEntry}
use Rattle.wm_machine.specs.declared.machine.member.InEntry.TheVariants as entry
use Rattle.wm_machine.specs.declared.machine.member.InMember.{InMember}
use Rattle.wm_machine.specs.declared.machine.member.InMember.TheVariants as at
use Rattle.wm_machine.specs.declared.step.expressions.InExpression.{InExpression}
use Rattle.wm_machine.specs.declared.step.expressions.InExpression.TheVariants as expression
use Rattle.wm_machine.specs.exact.ValueSteps.{value_type_of, global_type_push, run_push, value_push}
use Rattle.wm_machine.specs.exact.ExpressionSteps.{start as begin_expression, expression_step}

abbrev pub member_failed : Why → InMember × Event
member_failed w = (at.Failed w, event.Nothing)

-- the state and the effect that follow an answer of the reader of a number
abbrev pub on_number : {M : Type 0} → Step ℕ × Partial → (Partial → M) → (ℕ → M × Event) → (Why → M) → M
    × Event
on_number (step.More, r) more done bad = (more r, event.Nothing)
on_number (step.Done n, r) more done bad = done n
on_number (step.Bad, r) more done bad = (bad why.BadNumber, event.Nothing)

-- the state and the effect that follow an answer of the reader of a value
abbrev pub on_value : {M R X : Type 0} → Reading R X → (R → M) → (X → M × Event) → (Why → M) → M × Event
on_value (More r) more done bad = (more r, event.Nothing)
on_value (Done x) more done bad = done x
on_value (Bad w) more done bad = (bad w, event.Nothing)

-- the state and the effect that follow the byte of a value type
abbrev pub on_type : {M : Type 0} → Result ValType Why → (ValType → M × Event) → (Why → M) → M × Event
on_type (Ok t) done bad = done t
on_type (Err w) done bad = (bad w, event.Nothing)

-- the state m after a byte that completes this item
abbrev pub with_item_given : {M : Type 0} → M → Plain → M × Event
with_item_given m part = (m, event.Complete part)

-- function types
abbrev pub type_form_step : ℕ → InMember × Event
type_form_step c = if c == 0x60 then with_item_given (at.ParamCount fresh) plain.NewType
    else member_failed why.BadByte

abbrev pub after_param : ℕ → InMember
after_param zero = at.ResultCount fresh
after_param (suc n) = at.Param n

abbrev pub param_count_step : Partial → ℕ → InMember × Event
param_count_step r c =
    on_number (unsigned_push 32 r c) at.ParamCount (λ n. (after_param n, event.Nothing)) at.Failed

abbrev pub param_step : Profile → ℕ → ℕ → InMember × Event
param_step p more c =
    on_type (value_type_of p c) (λ t. with_item_given (after_param more) (plain.Param t)) at.Failed

abbrev pub after_result : ℕ → InMember
after_result zero = at.Over
after_result (suc n) = at.ResultType n

abbrev pub result_count_step : Partial → ℕ → InMember × Event
result_count_step r c =
    on_number (unsigned_push 32 r c) at.ResultCount
    (λ n. with_item_given (after_result n) (plain.ResultCount n)) at.Failed

abbrev pub result_step : Profile → ℕ → ℕ → InMember × Event
result_step p more c =
    on_type (value_type_of p c) (λ t. with_item_given (after_result more) (plain.OneResult t)) at.Failed

-- names
abbrev pub after_name : NameKind → InMember
after_name name.ImportModule = at.NameLength name.ImportName fresh
after_name name.ImportName = at.Value (value.Import import.Kind)
after_name name.Export = at.Value (value.Export target.Kind)
after_name name.Custom = at.Over

abbrev pub after_length : NameKind → ℕ → InMember × Event
after_length of zero = (after_name of, event.EmptyName of)
after_length of (suc n) = (at.Name of n, event.Nothing)

abbrev pub name_length_step : NameKind → Partial → ℕ → InMember × Event
name_length_step of r c =
    on_number (unsigned_push 32 r c) (λ s. at.NameLength of s) (after_length of) at.Failed

abbrev pub name_step : NameKind → ℕ → InMember × Event
name_step of zero = (after_name of, event.EndsName of)
name_step of (suc n) = (at.Name of n, event.InName)

-- values and indices
abbrev pub value_step : Profile → InValue → ℕ → InMember × Event
value_step p v c = on_value (value_push p v c) at.Value (λ q. with_item_given at.Over q) at.Failed

abbrev pub functions_or_over : ℕ → InMember
functions_or_over zero = at.Over
functions_or_over (suc n) = at.Index (index.ElementFunction n) fresh

abbrev pub index_item : IndexOf → ℕ → Plain
index_item index.Function n = plain.Function n
index_item index.Start n = plain.Start n
index_item index.Element n = plain.Element n
index_item (index.ElementFunction more) n = plain.ElementFunction n
index_item index.Segment n = plain.Segment n

abbrev pub after_index : IndexOf → InMember
after_index index.Function = at.Over
after_index index.Start = at.Over
after_index index.Element = at.Constant constant.IndexedElement begin_expression
after_index (index.ElementFunction more) = functions_or_over more
after_index index.Segment = at.Constant constant.Segment begin_expression

abbrev pub index_step : IndexOf → Partial → ℕ → InMember × Event
index_step of r c =
    on_number (unsigned_push 32 r c) (λ s. at.Index of s)
    (λ n. with_item_given (after_index of) (index_item of n)) at.Failed

abbrev pub global_type_step : Profile → InGlobalType → ℕ → InMember × Event
global_type_step p g c =
    on_value (global_type_push p g c) at.GlobalType
    (λ t. with_item_given (at.Constant constant.Global begin_expression) (plain.Global t)) at.Failed

-- constant expressions, and the lists after them
abbrev pub constant_over : ConstantOf → InMember
constant_over constant.Global = at.Over
constant_over constant.Element = at.Length length_of.Functions fresh
constant_over constant.IndexedElement = at.ElementKind
constant_over constant.Segment = at.Length length_of.Bytes fresh

abbrev pub after_constant : ConstantOf → InExpression → InMember
after_constant of expression.Over = constant_over of
after_constant of (expression.Failed w) = at.Failed w
after_constant of e = at.Constant of e

-- the effect of a byte that completes this op, if any
abbrev pub op_event : (Op → Plain) → Option Op → Event
op_event f (Some o) = event.Complete (f o)
op_event f None = event.Nothing

abbrev pub constant_step : Profile → ConstantOf → InExpression → ℕ → InMember × Event
constant_step p of e c =
    (after_constant of (expression_step p e c).0, op_event plain.ConstOp (expression_step p e c).1)

-- after the first number of an active segment: 0 as its flag or, without the feature, the index n
abbrev pub active_begun : SegmentKind → ℕ → InMember × Event
active_begun segment.Element n = with_item_given (at.Constant constant.Element begin_expression) (plain.Element n)
active_begun segment.Data n = with_item_given (at.Constant constant.Segment begin_expression) (plain.Segment n)

-- the flag of a passive segment
abbrev pub passive_begun : SegmentKind → InMember × Event
passive_begun segment.Element = with_item_given at.ElementKind plain.PassiveElement
passive_begun segment.Data = with_item_given (at.Length length_of.Bytes fresh) plain.PassiveSegment

-- the index behind a flag
abbrev pub segment_index : SegmentKind → IndexOf
segment_index segment.Element = index.Element
segment_index segment.Data = index.Segment

-- The first number of a segment. With the feature (`flagged`) it is at most 2: a byte that makes it greater is refused,
-- also if more bytes would follow.
abbrev pub segment_unfinished : (flagged : Bool) → SegmentKind → Partial → InMember
segment_unfinished false of r = at.SegmentStart of r
segment_unfinished true of r = if nat_le r.low 2 then at.SegmentStart of r else at.Failed why.BadNumber

abbrev pub segment_begun : (flagged : Bool) → SegmentKind → ℕ → InMember × Event
segment_begun false of n = active_begun of n
segment_begun true of zero = active_begun of 0
segment_begun true of (suc zero) = passive_begun of
segment_begun true of (suc (suc zero)) = (at.Index (segment_index of) fresh, event.Nothing)
segment_begun true of n = member_failed why.BadNumber

abbrev pub segment_step : Profile → SegmentKind → Partial → ℕ → InMember × Event
segment_step p of r c =
    on_number (unsigned_push 32 r c) (segment_unfinished (has p BulkMemory) of) (segment_begun (has p BulkMemory) of)
    at.Failed

abbrev pub element_kind_step : ℕ → InMember × Event
element_kind_step c = if c == 0x00 then (at.Length length_of.Functions fresh, event.Nothing)
    else member_failed why.BadByte

abbrev pub data_or_over : ℕ → InMember
data_or_over zero = at.Over
data_or_over (suc n) = at.Data n

abbrev pub list_or_over : LengthOf → ℕ → InMember
list_or_over length_of.Functions n = functions_or_over n
list_or_over length_of.Bytes n = data_or_over n

abbrev pub length_step : LengthOf → Partial → ℕ → InMember × Event
length_step of r c =
    on_number (unsigned_push 32 r c) (λ s. at.Length of s) (λ n. (list_or_over of n, event.Nothing)) at.Failed

-- code entries
abbrev pub no_entry : Why → InEntry × Event
no_entry w = (entry.Failed w, event.Nothing)

abbrev pub runs_or_body : ℕ → InEntry
runs_or_body zero = entry.Body begin_expression
runs_or_body (suc n) = entry.Run n (run.Count fresh)

abbrev pub runs_count_step : Partial → ℕ → InEntry × Event
runs_count_step r c =
    on_number (unsigned_push 32 r c) entry.RunCount (λ n. (runs_or_body n, event.Nothing)) entry.Failed

abbrev pub run_step : Profile → ℕ → InRun → ℕ → InEntry × Event
run_step p more r c =
    on_value (run_push p r c) (λ s. entry.Run more s)
    (λ x. with_item_given (runs_or_body more) (plain.Locals x.0 x.1)) entry.Failed

abbrev pub entry_after_op : InExpression → InEntry
entry_after_op expression.Over = entry.Over
entry_after_op (expression.Failed w) = entry.Failed w
entry_after_op e = entry.Body e

abbrev pub body_step : Profile → InExpression → ℕ → InEntry × Event
body_step p e c = (entry_after_op (expression_step p e c).0, op_event plain.BodyOp (expression_step p e c).1)

abbrev pub entry_step : Profile → InEntry → ℕ → InEntry × Event
entry_step p (entry.RunCount r) c = runs_count_step r c
entry_step p (entry.Run more r) c = run_step p more r c
entry_step p (entry.Body e) c = body_step p e c
entry_step p entry.Over c = no_entry why.BodyEnd
entry_step p (entry.Failed w) c = no_entry why.BodyEnd

-- the state with `left` bytes of a code entry to come
abbrev pub member_in_entry : ℕ → InEntry → InMember
member_in_entry left (entry.Failed w) = at.Failed w
member_in_entry zero entry.Over = at.Over
member_in_entry zero q = at.Failed why.BodyEnd
member_in_entry (suc n) entry.Over = at.Failed why.BodyEnd
member_in_entry (suc n) q = at.Entry n q

abbrev pub member_of_entry : Profile → ℕ → InEntry → ℕ → InMember × Event
member_of_entry p more q c = (member_in_entry more (entry_step p q c).0, (entry_step p q c).1)

abbrev pub entry_size_step : Partial → ℕ → InMember × Event
entry_size_step r c =
    on_number (unsigned_push 32 r c) at.EntrySize
    (λ n. with_item_given (member_in_entry n (entry.RunCount fresh)) plain.Body) at.Failed

abbrev pub member_step : Profile → InMember → ℕ → InMember × Event
member_step p at.TypeForm c = type_form_step c
member_step p (at.ParamCount r) c = param_count_step r c
member_step p (at.Param more) c = param_step p more c
member_step p (at.ResultCount r) c = result_count_step r c
member_step p (at.ResultType more) c = result_step p more c
member_step p (at.NameLength of r) c = name_length_step of r c
member_step p (at.Name of more) c = name_step of more
member_step p (at.Value v) c = value_step p v c
member_step p (at.Index of r) c = index_step of r c
member_step p (at.SegmentStart of r) c = segment_step p of r c
member_step p at.ElementKind c = element_kind_step c
member_step p (at.GlobalType g) c = global_type_step p g c
member_step p (at.Constant of e) c = constant_step p of e c
member_step p (at.Length of r) c = length_step of r c
member_step p (at.Data more) c = (data_or_over more, event.DataByte)
member_step p (at.EntrySize r) c = entry_size_step r c
member_step p (at.Entry more q) c = member_of_entry p more q c
member_step p at.Over c = member_failed why.SectionEnd
member_step p (at.Failed w) c = member_failed why.SectionEnd
