-- Within a member, the name Float is given only for a byte of floats, and Memory never.
use Rattle.std.proofs.Common.{◌≡◌, ◌⊎◌, ℕ, zero, suc, Bool, true, false, Some, ap, subst, inl, inr, nat_eq, Result, Ok, Err}
use Rattle.wm_syntax.specs.declared.profile.Feature.TheVariants.{BulkMemory}
use Rattle.wm_machine.proofs.SegmentStarts.{unfinished_any, begun_state}
use Rattle.wm_machine.specs.exact.MemberSteps.{segment_begun, segment_unfinished}
use Rattle.std.proofs.lemmas.Bool.{cond_both, eqb-true}
use Rattle.wm_syntax.specs.declared.numbers.Step.{Step}
use Rattle.wm_syntax.specs.declared.numbers.Step.TheVariants as step
use Rattle.wm_syntax.specs.inner.Numbers.{Partial}
use Rattle.wm_syntax.specs.exact.Reading.{fresh, unsigned_push}
use Rattle.wm_syntax.specs.declared.why.Why.{Why}
use Rattle.wm_syntax.specs.declared.why.Why.TheVariants as why
use Rattle.wm_syntax.specs.declared.profile.Profile.{Profile}
use Rattle.wm_syntax.specs.Profiles.{has, type_feature}
use Rattle.wm_syntax.specs.declared.types.ValType.{ValType}
use Rattle.wm_syntax.specs.declared.types.ValType.TheVariants.{I32, I64, F32, F64}
use Rattle.wm_machine.specs.declared.machine.NameKind.{NameKind}
use Rattle.wm_machine.specs.declared.machine.NameKind.TheVariants as name
use Rattle.wm_machine.specs.declared.machine.Plain.TheVariants as plain
use Rattle.wm_machine.specs.declared.machine.Event.{Event}
use Rattle.wm_machine.specs.declared.machine.Event.TheVariants as event
use Rattle.wm_machine.specs.declared.step.reading.Reading.{Reading}
use Rattle.wm_machine.specs.declared.step.reading.Reading.TheVariants.{More, Done, Bad}
use Rattle.wm_machine.specs.declared.step.values.InLimits.{InLimits}
use Rattle.wm_machine.specs.declared.step.values.InLimits.TheVariants as limits
use Rattle.wm_machine.specs.declared.step.values.InTableType.{InTableType}
use Rattle.wm_machine.specs.declared.step.values.InTableType.TheVariants as table
use Rattle.wm_machine.specs.declared.step.values.InGlobalType.{InGlobalType}
use Rattle.wm_machine.specs.declared.step.values.InGlobalType.TheVariants as global
use Rattle.wm_machine.specs.declared.step.values.InImportDesc.{InImportDesc}
use Rattle.wm_machine.specs.declared.step.values.InImportDesc.TheVariants as import
use Rattle.wm_machine.specs.declared.step.values.InExportDesc.{InExportDesc}
use Rattle.wm_machine.specs.declared.step.values.InExportDesc.TheVariants as target
use Rattle.wm_machine.specs.declared.step.values.InRun.{InRun}
use Rattle.wm_machine.specs.declared.step.values.InRun.TheVariants as run
use Rattle.wm_machine.specs.declared.step.values.InValue.{InValue}
use Rattle.wm_machine.specs.declared.step.values.InValue.TheVariants as value
use Rattle.wm_machine.specs.declared.machine.member.IndexOf.{IndexOf}
use Rattle.wm_machine.specs.declared.machine.member.IndexOf.TheVariants as index
use Rattle.wm_machine.specs.declared.machine.member.ConstantOf.{ConstantOf}
use Rattle.wm_machine.specs.declared.machine.member.ConstantOf.TheVariants as constant
use Rattle.wm_machine.specs.declared.machine.member.LengthOf.{LengthOf}
use Rattle.wm_machine.specs.declared.machine.member.LengthOf.TheVariants as length_of
use Rattle.wm_machine.specs.declared.machine.member.InEntry.{InEntry}
use Rattle.wm_machine.specs.declared.machine.member.InEntry.TheVariants as entry
use Rattle.wm_machine.specs.declared.machine.member.InMember.{InMember}
use Rattle.wm_machine.specs.declared.machine.member.InMember.TheVariants as at
use Rattle.wm_machine.specs.declared.step.expressions.InExpression.{InExpression}
use Rattle.wm_machine.specs.declared.step.expressions.InExpression.TheVariants as expression
use Rattle.wm_machine.specs.Decoding.{IsFloatByte}
use Rattle.wm_machine.specs.exact.ValueSteps.{read_number, map_reading, after_min, limits_push, table_type_push, type_under, value_type_of, read_type, var_step, global_type_push, desc_kind_step, desc_push, target_kind_step, target_push, run_push, value_push}
use Rattle.wm_machine.specs.exact.ExpressionSteps.{start, expression_step}
use Rattle.wm_machine.specs.exact.MemberSteps.{on_number, on_value, on_type, with_item_given, after_param, after_result, after_name, after_length, name_step, functions_or_over, index_item, after_index, constant_over, after_constant, data_or_over, list_or_over, runs_or_body, entry_after_op, entry_step, member_in_entry, member_step}
use Rattle.wm_machine.proofs.ExpressionSound.{expression_fault}
use Rattle.wm_machine.proofs.OpSound.{IsOther}
use Rattle.wm_machine.proofs.ValueBytes.{type_given}
use Rattle.wm_machine.proofs.ExpressionRest.{IsInside}
use Rattle.wm_machine.proofs.EntryBytes.{IsInEntry}

-- a code entry, and a place in a member, which is not over
abbrev pub IsOpen : InEntry → Type 0
IsOpen (entry.Body e) = IsInside e
IsOpen q = Unit {0}

abbrev pub IsWithin : InMember → Type 0
IsWithin (at.Constant of e) = IsInside e
IsWithin (at.Entry more q) = IsOpen q
IsWithin at.Over = ⊥
IsWithin (at.Failed w) = ⊥
IsWithin q = Unit {0}

-- a place outside a code entry and its size
abbrev pub IsOutside : InMember → Type 0
IsOutside (at.EntrySize r) = ⊥
IsOutside (at.Entry more q) = ⊥
IsOutside q = Unit {0}

-- Two names that the machine does not give for just any byte: the one is for float bytes only, the other never comes.
module _ (refusal : Why) (Fault : ℕ → Type 0) (other : (w : Why) → IsOther w → w ≡ refusal → ⊥) (float : (c : ℕ) → why.Float ≡ refusal → IsFloatByte c → Fault c) (c : ℕ) where
  same_bad : {R X : Type 0} (v w : Why) → ◌≡◌ {A = Reading R X} (Bad v) (Bad w) → v ≡ w
  same_bad v w e = cc

  same_err : (v w : Why) → ◌≡◌ {A = Result ValType Why} (Err v) (Err w) → v ≡ w
  same_err v w e = cc

  same_place : (v w : Why) → at.Failed v ≡ at.Failed w → v ≡ w
  same_place v w e = cc

  same_entry : (v w : Why) → entry.Failed v ≡ entry.Failed w → v ≡ w
  same_entry v w e = cc

  -- a reader that is refused by this name is so at such a byte
  abbrev Reads : {R X : Type 0} → Reading R X → Type 0
  Reads q = q ≡ Bad refusal → Fault c

  no_read : {R X : Type 0} (w : Why) → IsOther w → Reads {R = R} {X = X} (Bad w)
  no_read w i e = absurd (other w i (same_bad w refusal e))

  number_reads : {R X : Type 0} (q : Step ℕ × Partial) (more : Partial → R) (done : ℕ → Reading R X) → ((n : ℕ) → Reads (done n)) → Reads (read_number q more done)
  number_reads (step.More, s) more done h = λ e. cc
  number_reads (step.Done n, s) more done h = h n
  number_reads (step.Bad, s) more done h = no_read why.BadNumber tt

  within_reads : {R S X Y : Type 0} (f : R → S) (g : X → Y) (q : Reading R X) → Reads q → Reads (map_reading f g q)
  within_reads f g (More r) h e = cc
  within_reads f g (Done x) h e = cc
  within_reads f g (Bad w) h e = h (let s : w ≡ refusal = cc in ap Bad s)

  -- a type of floating-point numbers, where the profile may have it
  under_float : (p : Profile) (t : ValType) → IsFloatByte c → type_under p t ≡ Err refusal → Fault c
  under_float p t i =
      cond_both (has p (type_feature t)) _ _ (λ (q : Result ValType Why). q ≡ Err refusal → Fault c) (λ _ e. type_given t refusal e) (λ _ e. float c (same_err why.Float refusal e) i)

  type_float : (p : Profile) → value_type_of p c ≡ Err refusal → Fault c
  type_float p =
      let P : Result ValType Why → Type 0 = λ q. q ≡ Err refusal → Fault c in
      cond_both (nat_eq c 0x7F) _ _ P (λ _ e. type_given I32 refusal e)
      (λ _. cond_both (nat_eq c 0x7E) _ _ P (λ _ e. type_given I64 refusal e)
      (λ _. cond_both (nat_eq c 0x7D) _ _ P (λ a. under_float p F32 (inl (eqb-true c 0x7D a)))
      (λ _. cond_both (nat_eq c 0x7C) _ _ P (λ a. under_float p F64 (inr (inl (eqb-true c 0x7C a)))) (λ _ e. absurd (other why.BadByte tt (same_err why.BadByte refusal e))))))

  type_reads : {R X : Type 0} (q : Result ValType Why) (f : ValType → Reading R X) → (q ≡ Err refusal → Fault c) → ((t : ValType) → Reads (f t)) → Reads (read_type q f)
  type_reads (Ok t) f h g = g t
  type_reads (Err w) f h g = λ e. h (let s : w ≡ refusal = cc in ap Err s)

  min_reads : (bounded : Bool) (n : ℕ) → Reads (after_min bounded n)
  min_reads true n e = cc
  min_reads false n e = cc

  limits_reads : (l : InLimits) → Reads (limits_push l c)
  limits_reads limits.Flag = cond_both (nat_eq c 0x00) _ _ Reads (λ _ e. cc) (λ _. cond_both (nat_eq c 0x01) _ _ Reads (λ _ e. cc) (λ _. no_read why.BadByte tt))
  limits_reads (limits.Min bounded r) = number_reads (unsigned_push 32 r c) (λ s. limits.Min bounded s) (after_min bounded) (min_reads bounded)
  limits_reads (limits.Max min r) = number_reads (unsigned_push 32 r c) (λ s. limits.Max min s) (λ n. Done (record { min = min; max = Some n })) (λ n e. cc)

  table_reads : (t : InTableType) → Reads (table_type_push t c)
  table_reads table.ElementType = cond_both (nat_eq c 0x70) _ _ Reads (λ _ e. cc) (λ _. no_read why.BadByte tt)
  table_reads (table.Limits l) = within_reads table.Limits (λ y. y) (limits_push l c) (limits_reads l)

  var_reads : (t : ValType) (d : ℕ) → Reads (var_step t d)
  var_reads t zero = λ e. cc
  var_reads t (suc zero) = λ e. cc
  var_reads t (suc (suc d)) = no_read why.BadByte tt

  global_reads : (p : Profile) (g : InGlobalType) → Reads (global_type_push p g c)
  global_reads p global.Type = type_reads (value_type_of p c) (λ t. More (global.Var t)) (type_float p) (λ t e. cc)
  global_reads p (global.Var t) = var_reads t c

  kind_reads : (d : ℕ) → Reads (desc_kind_step d)
  kind_reads zero = λ e. cc
  kind_reads (suc zero) = λ e. cc
  kind_reads (suc (suc zero)) = λ e. cc
  kind_reads (suc (suc (suc zero))) = λ e. cc
  kind_reads (suc (suc (suc (suc d)))) = no_read why.BadByte tt

  desc_reads : (p : Profile) (d : InImportDesc) → Reads (desc_push p d c)
  desc_reads p import.Kind = kind_reads c
  desc_reads p (import.Func r) = number_reads (unsigned_push 32 r c) import.Func _ (λ n e. cc)
  desc_reads p (import.Table t) = within_reads import.Table _ (table_type_push t c) (table_reads t)
  desc_reads p (import.Memory l) = within_reads import.Memory _ (limits_push l c) (limits_reads l)
  desc_reads p (import.Global g) = within_reads import.Global _ (global_type_push p g c) (global_reads p g)

  target_kind_reads : (d : ℕ) → Reads (target_kind_step d)
  target_kind_reads zero = λ e. cc
  target_kind_reads (suc zero) = λ e. cc
  target_kind_reads (suc (suc zero)) = λ e. cc
  target_kind_reads (suc (suc (suc zero))) = λ e. cc
  target_kind_reads (suc (suc (suc (suc d)))) = no_read why.BadByte tt

  target_reads : (t : InExportDesc) → Reads (target_push t c)
  target_reads target.Kind = target_kind_reads c
  target_reads (target.Index k r) = number_reads (unsigned_push 32 r c) (λ s. target.Index k s) (λ n. Done (k, n)) (λ n e. cc)

  run_reads : (p : Profile) (r : InRun) → Reads (run_push p r c)
  run_reads p (run.Count r) = number_reads (unsigned_push 32 r c) run.Count (λ n. More (run.Type n)) (λ n e. cc)
  run_reads p (run.Type n) = type_reads (value_type_of p c) (λ t. Done (n, t)) (type_float p) (λ t e. cc)

  value_reads : (p : Profile) (v : InValue) → Reads (value_push p v c)
  value_reads p (value.Import d) = within_reads value.Import plain.Import (desc_push p d c) (desc_reads p d)
  value_reads p (value.Table t) = within_reads value.Table plain.Table (table_type_push t c) (table_reads t)
  value_reads p (value.Memory l) = within_reads value.Memory plain.Memory (limits_push l c) (limits_reads l)
  value_reads p (value.Export t) = within_reads value.Export _ (target_push t c) (target_reads t)

  -- a place that has not failed by this name, or at such a byte
  abbrev Fails : InMember → Type 0
  Fails q = q ≡ at.Failed refusal → Fault c

  abbrev FailsEntry : InEntry → Type 0
  FailsEntry q = q ≡ entry.Failed refusal → Fault c

  no_place : (w : Why) → IsOther w → Fails (at.Failed w)
  no_place w i e = absurd (other w i (same_place w refusal e))

  no_entry : (w : Why) → IsOther w → FailsEntry (entry.Failed w)
  no_entry w i e = absurd (other w i (same_entry w refusal e))

  module _ {M : Type 0} (P : M → Type 0) where
    on_number_any : (q : Step ℕ × Partial) (more : Partial → M) (done : ℕ → M × Event) (bad : Why → M) → ((s : Partial) → P (more s)) → ((n : ℕ) → P (done n).0) → P (bad why.BadNumber) → P (on_number q more done bad).0
    on_number_any (step.More, s) more done bad a b w = a s
    on_number_any (step.Done n, s) more done bad a b w = b n
    on_number_any (step.Bad, s) more done bad a b w = w

    on_value_any : {R X : Type 0} (q : Reading R X) (more : R → M) (done : X → M × Event) (bad : Why → M) → Reads q → ((s : R) → P (more s)) → ((x : X) → P (done x).0) → ((w : Why) → (w ≡ refusal → Fault c) → P (bad w)) → P (on_value q more done bad).0
    on_value_any (More s) more done bad h a b g = a s
    on_value_any (Done x) more done bad h a b g = b x
    on_value_any (Bad w) more done bad h a b g = g w (λ e. h (ap Bad e))

    on_type_any : (q : Result ValType Why) (done : ValType → M × Event) (bad : Why → M) → (q ≡ Err refusal → Fault c) → ((t : ValType) → P (done t).0) → ((w : Why) → (w ≡ refusal → Fault c) → P (bad w)) → P (on_type q done bad).0
    on_type_any (Ok t) done bad h b g = b t
    on_type_any (Err w) done bad h b g = g w (λ e. h (ap Err e))

  fails_by : (w : Why) → (w ≡ refusal → Fault c) → Fails (at.Failed w)
  fails_by w h e = h (cc)

  entry_by : (w : Why) → (w ≡ refusal → Fault c) → FailsEntry (entry.Failed w)
  entry_by w h e = h (cc)

  -- code entries
  runs_float : (n : ℕ) → FailsEntry (runs_or_body n)
  runs_float zero e = cc
  runs_float (suc n) e = cc

  op_float : (e : InExpression) → (e ≡ expression.Failed refusal → Fault c) → FailsEntry (entry_after_op e)
  op_float expression.Over h i = cc
  op_float (expression.Failed w) h i = h (let s : w ≡ refusal = cc in ap expression.Failed s)
  op_float (expression.Op depth q) h i = cc
  op_float (expression.Label depth n r) h i = cc

  -- an expression that is over is refused by SectionEnd, and so is what is over
  abbrev Later : Type 0 → Type 0
  Later I = I ⊎ (why.SectionEnd ≡ refusal → ⊥)

  -- in a code entry BodyEnd is given
  abbrev Spared : Type 0 → Type 0
  Spared I = I ⊎ (why.BodyEnd ≡ refusal → ⊥)

  past_body : Spared ⊥ → FailsEntry (entry.Failed why.BodyEnd)
  past_body (inl i) e = absurd i
  past_body (inr n) e = absurd (n (same_entry why.BodyEnd refusal e))

  entry_float : (p : Profile) (q : InEntry) → Later (IsOpen q) → Spared (IsInEntry q) → FailsEntry (entry_step p q c).0
  entry_float p (entry.RunCount r) i j = on_number_any FailsEntry (unsigned_push 32 r c) entry.RunCount (λ n. (runs_or_body n, event.Nothing)) entry.Failed (λ s e. cc) runs_float (no_entry why.BadNumber tt)
  entry_float p (entry.Run more r) i j = on_value_any FailsEntry (run_push p r c) (λ s. entry.Run more s) _ entry.Failed (run_reads p r) (λ s e. cc) (λ x. runs_float more) entry_by
  entry_float p (entry.Body e) i j = op_float (expression_step p e c).0 (expression_fault refusal Fault other float p e c i)
  entry_float p entry.Over i j = past_body j
  entry_float p (entry.Failed w) i j = past_body j

  -- what each place becomes
  param_float : (n : ℕ) → Fails (after_param n)
  param_float zero e = cc
  param_float (suc n) e = cc

  result_float : (n : ℕ) → Fails (after_result n)
  result_float zero e = cc
  result_float (suc n) e = cc

  name_float : (of : NameKind) → Fails (after_name of)
  name_float name.ImportModule e = cc
  name_float name.ImportName e = cc
  name_float name.Export e = cc
  name_float name.Custom e = cc

  length_float : (of : NameKind) (n : ℕ) → Fails (after_length of n).0
  length_float of zero = name_float of
  length_float of (suc n) = λ e. cc

  name_step_float : (of : NameKind) (n : ℕ) → Fails (name_step of n).0
  name_step_float of zero = name_float of
  name_step_float of (suc n) = λ e. cc

  functions_float : (n : ℕ) → Fails (functions_or_over n)
  functions_float zero e = cc
  functions_float (suc n) e = cc

  data_float : (n : ℕ) → Fails (data_or_over n)
  data_float zero e = cc
  data_float (suc n) e = cc

  list_float : (of : LengthOf) (n : ℕ) → Fails (list_or_over of n)
  list_float length_of.Functions n = functions_float n
  list_float length_of.Bytes n = data_float n

  index_float : (of : IndexOf) → Fails (after_index of)
  index_float index.Function = λ e. cc
  index_float index.Start = λ e. cc
  index_float index.Element = λ e. cc
  index_float (index.ElementFunction more) = functions_float more
  index_float index.Segment = λ e. cc

  over_float : (of : ConstantOf) → Fails (constant_over of)
  over_float constant.Global e = cc
  over_float constant.Element e = cc
  over_float constant.IndexedElement e = cc
  over_float constant.Segment e = cc

  constant_float : (of : ConstantOf) (e : InExpression) → (e ≡ expression.Failed refusal → Fault c) → Fails (after_constant of e)
  constant_float of expression.Over h = over_float of
  constant_float of (expression.Failed w) h = λ i. h (let s : w ≡ refusal = cc in ap expression.Failed s)
  constant_float of (expression.Op depth q) h = λ i. cc
  constant_float of (expression.Label depth n r) h = λ i. cc

  no_body_end : (why.BodyEnd ≡ refusal → ⊥) → Fails (at.Failed why.BodyEnd)
  no_body_end j e = absurd (j (same_place why.BodyEnd refusal e))

  framed_float : (n : ℕ) (q : InEntry) → (why.BodyEnd ≡ refusal → ⊥) → FailsEntry q → Fails (member_in_entry n q)
  framed_float n (entry.Failed w) j h = λ e. h (let s : w ≡ refusal = cc in ap entry.Failed s)
  framed_float zero entry.Over j h = λ e. cc
  framed_float (suc n) entry.Over j h = no_body_end j
  framed_float zero (entry.RunCount r) j h = no_body_end j
  framed_float zero (entry.Run more r) j h = no_body_end j
  framed_float zero (entry.Body x) j h = no_body_end j
  framed_float (suc n) (entry.RunCount r) j h = λ e. cc
  framed_float (suc n) (entry.Run more r) j h = λ e. cc
  framed_float (suc n) (entry.Body x) j h = λ e. cc

  size_float : (why.BodyEnd ≡ refusal → ⊥) → (n : ℕ) → Fails (member_in_entry n (entry.RunCount fresh))
  size_float j n = framed_float n (entry.RunCount fresh) j (λ e. cc)

  past_end : Later ⊥ → Fails (at.Failed why.SectionEnd)
  past_end (inl i) e = absurd i
  past_end (inr n) e = absurd (n (same_place why.SectionEnd refusal e))

  pub component_fault : (p : Profile) (q : InMember) → Later (IsWithin q) → Spared (IsOutside q) → (member_step p q c).0 ≡ at.Failed refusal → Fault c
  component_fault p at.TypeForm i j = cond_both (nat_eq c 0x60) _ _ (λ (x : InMember × Event). Fails x.0) (λ _ e. cc) (λ _. no_place why.BadByte tt)
  component_fault p (at.ParamCount r) i j = on_number_any Fails (unsigned_push 32 r c) at.ParamCount (λ n. (after_param n, event.Nothing)) at.Failed (λ s e. cc) param_float (no_place why.BadNumber tt)
  component_fault p (at.Param more) i j = on_type_any Fails (value_type_of p c) (λ t. with_item_given (after_param more) (plain.Param t)) at.Failed (type_float p) (λ t. param_float more) fails_by
  component_fault p (at.ResultCount r) i j = on_number_any Fails (unsigned_push 32 r c) at.ResultCount (λ n. with_item_given (after_result n) (plain.ResultCount n)) at.Failed (λ s e. cc) result_float (no_place why.BadNumber tt)
  component_fault p (at.ResultType more) i j = on_type_any Fails (value_type_of p c) (λ t. with_item_given (after_result more) (plain.OneResult t)) at.Failed (type_float p) (λ t. result_float more) fails_by
  component_fault p (at.NameLength of r) i j = on_number_any Fails (unsigned_push 32 r c) (λ s. at.NameLength of s) (after_length of) at.Failed (λ s e. cc) (length_float of) (no_place why.BadNumber tt)
  component_fault p (at.Name of more) i j = name_step_float of more
  component_fault p (at.Value v) i j = on_value_any Fails (value_push p v c) at.Value (λ q. with_item_given at.Over q) at.Failed (value_reads p v) (λ s e. cc) (λ x e. cc) fails_by
  component_fault p (at.Index of r) i j = on_number_any Fails (unsigned_push 32 r c) (λ s. at.Index of s) (λ n. with_item_given (after_index of) (index_item of n)) at.Failed (λ s e. cc) (λ n. index_float of) (no_place why.BadNumber tt)
  component_fault p (at.SegmentStart of r) i j =
      on_number_any Fails (unsigned_push 32 r c) (segment_unfinished (has p BulkMemory) of) (segment_begun (has p BulkMemory) of) at.Failed (λ s. unfinished_any Fails (has p BulkMemory) of s (λ e. cc) (no_place why.BadNumber tt))
      (begun_state Fails (λ e. cc) (λ e. cc) (λ e. cc) (λ e. cc) (λ e. cc) (λ e. cc) (no_place why.BadNumber tt) (has p BulkMemory) of) (no_place why.BadNumber tt)
  component_fault p at.ElementKind i j = cond_both (nat_eq c 0x00) _ _ (λ (x : InMember × Event). Fails x.0) (λ _ e. cc) (λ _. no_place why.BadByte tt)
  component_fault p (at.GlobalType g) i j = on_value_any Fails (global_type_push p g c) at.GlobalType (λ t. with_item_given (at.Constant constant.Global start) (plain.Global t)) at.Failed (global_reads p g) (λ s e. cc) (λ x e. cc) fails_by
  component_fault p (at.Constant of e) i j = constant_float of (expression_step p e c).0 (expression_fault refusal Fault other float p e c i)
  component_fault p (at.Length of r) i j = on_number_any Fails (unsigned_push 32 r c) (λ s. at.Length of s) (λ n. (list_or_over of n, event.Nothing)) at.Failed (λ s e. cc) (list_float of) (no_place why.BadNumber tt)
  component_fault p (at.Data more) i j = data_float more
  component_fault p (at.EntrySize r) i (inl o) = absurd o
  component_fault p (at.EntrySize r) i (inr j) = on_number_any Fails (unsigned_push 32 r c) at.EntrySize (λ n. with_item_given (member_in_entry n (entry.RunCount fresh)) plain.Body) at.Failed (λ s e. cc) (size_float j) (no_place why.BadNumber tt)
  component_fault p (at.Entry more q) i (inl o) = absurd o
  component_fault p (at.Entry more q) i (inr j) = framed_float more (entry_step p q c).0 j (entry_float p q i (inr j))
  component_fault p at.Over i j = past_end i
  component_fault p (at.Failed w) i j = past_end i

pub component_float : (c : ℕ) (p : Profile) (q : InMember) → (member_step p q c).0 ≡ at.Failed why.Float → IsFloatByte c
component_float c p q = component_fault why.Float IsFloatByte (λ w i e. subst IsOther e i) (λ c e h. h) c p q (inr (λ e. cc)) (inr (λ e. cc))

pub component_memory : (c : ℕ) (p : Profile) (q : InMember) → (member_step p q c).0 ≡ at.Failed why.Memory → ⊥
component_memory c p q = component_fault why.Memory (λ c. ⊥) (λ w i e. subst IsOther e i) (λ c e h. cc) c p q (inr (λ e. cc)) (inr (λ e. cc))

abbrev pub IsMemberName : Why → Type 0
IsMemberName why.Float = Unit {0}
IsMemberName why.SectionEnd = Unit {0}
IsMemberName why.BodyEnd = Unit {0}
IsMemberName w = IsOther w

never : (refusal : Why) → (IsMemberName refusal → ⊥) → why.Float ≡ refusal → ⊥
never refusal differs e = differs (subst IsMemberName e tt)

others : (refusal : Why) → (IsMemberName refusal → ⊥) → (w : Why) → IsOther w → w ≡ refusal → ⊥
others refusal differs w i e = differs (subst IsMemberName e (named w i))
  where
    named : (w : Why) → IsOther w → IsMemberName w
    named why.Float i = tt
    named why.BadNumber i = i
    named why.BadByte i = i
    named why.BadOpcode i = i
    named why.BodyEnd i = tt
    named why.SectionEnd i = tt
    named w i = i

-- a member fails by one of these names alone
pub member_name : (refusal : Why) → (IsMemberName refusal → ⊥) → (c : ℕ) (p : Profile) (q : InMember) → (member_step p q c).0 ≡ at.Failed refusal → ⊥
member_name refusal differs c p q = component_fault refusal (λ c. ⊥) (others refusal differs) (λ c e h. never refusal differs e) c p q (inr (λ e. differs (subst IsMemberName e tt))) (inr (λ e. differs (subst IsMemberName e tt)))

-- a place that is not over does not fail by SectionEnd
pub not_past_end : (c : ℕ) (p : Profile) (q : InMember) → IsWithin q → (member_step p q c).0 ≡ at.Failed why.SectionEnd → ⊥
not_past_end c p q i = component_fault why.SectionEnd (λ c. ⊥) (λ w i e. subst IsOther e i) (λ c e h. cc) c p q (inl i) (inr (λ e. cc))

-- by BodyEnd only what is of a code entry fails
pub not_body_end : (c : ℕ) (p : Profile) (q : InMember) → IsOutside q → (member_step p q c).0 ≡ at.Failed why.BodyEnd → ⊥
not_body_end c p q o = component_fault why.BodyEnd (λ c. ⊥) (λ w i e. subst IsOther e i) (λ c e h. cc) c p q (inr (λ e. cc)) (inl o)

pub not_past_body : (c : ℕ) (p : Profile) (q : InEntry) → IsInEntry q → (entry_step p q c).0 ≡ entry.Failed why.BodyEnd → ⊥
not_past_body c p q o = entry_float why.BodyEnd (λ c. ⊥) (λ w i e. subst IsOther e i) (λ c e h. cc) c p q (inr (λ e. cc)) (inl o)
