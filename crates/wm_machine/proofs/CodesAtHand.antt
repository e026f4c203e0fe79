-- The code behind FC that a state is in: its bytes so far are the last that were read.
use Rattle.std.proofs.Common.{◌≡◌, ℕ, zero, suc, ◌+◌, ◌-◌, ◌≤◌, false, List, [], ◌∷◌, ◌++◌, Option, Result, Ok, Err, refl, sym, ◌∙◌, ap, subst, arith, nat_eq, nat_lt, nat_le, append_assoc, append-nil}
use Rattle.wm_syntax.specs.declared.profile.Feature.TheVariants.{BulkMemory}
use Rattle.wm_machine.proofs.SegmentStarts.{unfinished_any, begun_state}
use Rattle.std.specs.Prelude.{slice_index, Some, None as Nothing}
use Rattle.std.specs.Str.{is_utf8}
use Rattle.std.proofs.lemmas.Bool.{cond_both, eqb-true, ltb-false}
use Rattle.wm_syntax.specs.declared.why.Why.{Why}
use Rattle.wm_syntax.specs.declared.why.Why.TheVariants as why
use Rattle.wm_syntax.specs.declared.profile.Profile.{Profile}
use Rattle.wm_syntax.specs.Profiles.{has, has_prefix}
use Rattle.wm_syntax.specs.declared.types.ValType.{ValType}
use Rattle.wm_syntax.specs.declared.numbers.Step.{Step}
use Rattle.wm_syntax.specs.declared.numbers.Step.TheVariants as step
use Rattle.wm_syntax.specs.inner.Numbers.{Partial}
use Rattle.wm_syntax.specs.exact.Reading.{fresh, unsigned_push, signed_push}
use Rattle.wm_syntax.specs.exact.ByteTable.{class_under}
use Rattle.wm_syntax.specs.declared.instructions.Op.{Op}
use Rattle.wm_syntax.specs.declared.instructions.Op.TheVariants as op
use Rattle.wm_syntax.specs.declared.instructions.op_class.OpClass.{OpClass}
use Rattle.wm_syntax.specs.declared.instructions.op_class.OpClass.TheVariants.{Plain as APlain, With, Float, None as NoClass}
use Rattle.wm_syntax.specs.declared.instructions.op_class.Immediates.{Immediates}
use Rattle.wm_syntax.specs.declared.instructions.op_class.MemoryOp.TheVariants as memory
use Rattle.wm_syntax.specs.declared.instructions.op_class.Immediates.TheVariants as k
use Rattle.wm_machine.specs.declared.step.reading.Reading.{Reading}
use Rattle.wm_machine.specs.declared.step.reading.Reading.TheVariants.{More, Done, Bad}
use Rattle.wm_syntax.specs.declared.instructions.op_class.BlockOp.{BlockOp}
use Rattle.wm_machine.specs.declared.step.ops.InOp.{InOp}
use Rattle.wm_machine.specs.declared.step.ops.InOp.TheVariants as in_op
use Rattle.wm_machine.specs.declared.step.expressions.InExpression.{InExpression}
use Rattle.wm_machine.specs.declared.step.expressions.InExpression.TheVariants as expression
use Rattle.wm_machine.specs.declared.machine.Plain.TheVariants as plain
use Rattle.wm_machine.specs.declared.machine.NameKind.{NameKind}
use Rattle.wm_machine.specs.declared.machine.NameKind.TheVariants as name
use Rattle.wm_machine.specs.declared.machine.Counts.{Counts}
use Rattle.wm_machine.specs.declared.machine.InCustom.{InCustom}
use Rattle.wm_machine.specs.declared.machine.InCustom.TheVariants as custom
use Rattle.wm_machine.specs.declared.machine.Machine.{Machine}
use Rattle.wm_machine.specs.declared.machine.Machine.TheVariants as machine
use Rattle.wm_machine.specs.declared.machine.Event.{Event}
use Rattle.wm_machine.specs.declared.machine.Event.TheVariants as event
use Rattle.wm_machine.specs.declared.machine.member.SectionKind.{SectionKind}
use Rattle.wm_machine.specs.declared.machine.member.SectionKind.TheVariants as section_kind
use Rattle.wm_machine.specs.declared.machine.member.IndexOf.{IndexOf}
use Rattle.wm_machine.specs.declared.machine.member.IndexOf.TheVariants as index
use Rattle.wm_machine.specs.declared.machine.member.ConstantOf.{ConstantOf}
use Rattle.wm_machine.specs.declared.machine.member.ConstantOf.TheVariants as constant
use Rattle.wm_machine.specs.declared.machine.member.LengthOf.{LengthOf}
use Rattle.wm_machine.specs.declared.machine.member.LengthOf.TheVariants as length_of
use Rattle.wm_machine.specs.declared.machine.member.InEntry.{InEntry}
use Rattle.wm_machine.specs.declared.machine.member.InEntry.TheVariants as entry
use Rattle.wm_machine.specs.declared.machine.member.InMember.{InMember}
use Rattle.wm_machine.specs.declared.machine.member.InMember.TheVariants as at
use Rattle.wm_machine.specs.Items.{Zone}
use Rattle.wm_machine.specs.Sections.{header}
use Rattle.wm_machine.specs.exact.Members.{rank_of, section_kind_of, member_at_start}
use Rattle.wm_machine.specs.exact.ValueSteps.{value_type_of, read_type, global_type_push, run_push, value_push}
use Rattle.wm_machine.specs.exact.OpSteps.{init_op, on_answer, immediates, class_step, begin_step, padded, code_step, more_padding, padding_step, block_step, closing_step, table_feature, after_table, long_step, op_push}
use Rattle.wm_syntax.specs.exact.OpShapes.{block_op, memory_op}
use Rattle.wm_machine.specs.exact.ExpressionSteps.{start, ends as op_ends, after_op, after_label, after_reading, expression_failed, expression_step}
use Rattle.wm_machine.specs.exact.MemberSteps.{on_number, on_value, on_type, with_item_given, after_param, after_result, after_name, after_length, name_step, functions_or_over, after_index, constant_over, after_constant, data_or_over, list_or_over, runs_or_body, entry_after_op, entry_step, member_in_entry, member_step}
use Rattle.wm_machine.specs.exact.Steps.{counts_in, is_given, begun_last, custom_step, machine_in_custom, machine_in_member, machine_after_count, machine_after_paired_count, after_count, begun_section, machine_if_rising, section_start, after_size, header_step, step_of}
use Rattle.wm_machine.specs.exact.Runs.{byte_read, ByteRead, MachineState, zone_of, after_byte, state_after}
use Rattle.wm_machine.proofs.MustStand.{eighties, padding}
use Rattle.wm_machine.specs.declared.step.ops.TableOp.{TableOp}
use Rattle.wm_machine.specs.declared.step.ops.TableOp.TheVariants as table_at

abbrev pub EndsWith : List ℕ → List ℕ → Type 0
EndsWith y b = (front : List ℕ) × (b ≡ front ++ y)

-- the bytes read so far, by the state
abbrev pub CodeOp : InOp → List ℕ → Type 0
CodeOp in_op.Code b = EndsWith (0xFC ∷ []) b
CodeOp (in_op.Padding n left) b = (left ≤ 3) × EndsWith (padding n left) b
CodeOp _ b = Unit {0}

abbrev CodeReading : Reading InOp Op → List ℕ → Type 0
CodeReading (More r) b = CodeOp r b
CodeReading _ b = Unit {0}

abbrev pub CodeExpression : InExpression → List ℕ → Type 0
CodeExpression (expression.Op depth r) b = CodeOp r b
CodeExpression _ b = Unit {0}

abbrev pub CodeEntry : InEntry → List ℕ → Type 0
CodeEntry (entry.Body e) b = CodeExpression e b
CodeEntry _ b = Unit {0}

abbrev pub CodeMember : InMember → List ℕ → Type 0
CodeMember (at.Constant of e) b = CodeExpression e b
CodeMember (at.Entry more q) b = CodeEntry q b
CodeMember _ b = Unit {0}

abbrev pub CodeMachine : Machine → List ℕ → Type 0
CodeMachine (machine.Section of counts more left q) b = CodeMember q b
CodeMachine _ b = Unit {0}

-- one byte 80 more
last_eighty : (k : ℕ) → eighties (suc k) ≡ eighties k ++ 0x80 ∷ []
last_eighty zero = refl
last_eighty (suc k) = ap (λ y. 0x80 ∷ y) (last_eighty k)

padding_more : (n left : ℕ) → suc left ≤ 3 → padding n left ≡ padding n (suc left) ++ 0x80 ∷ []
padding_more n left l =
    let k : 3 - left ≡ suc (3 - suc left) = omega (arith, l) in
    ap (λ y. 0xFC ∷ (0x80 + n) ∷ y) (ap eighties k ∙ last_eighty (3 - suc left))

ends_more : (y b : List ℕ) (c : ℕ) → EndsWith y b → EndsWith (y ++ c ∷ []) (b ++ c ∷ [])
ends_more y b c h = (h.0, ap (λ z. z ++ c ∷ []) h.1 ∙ append_assoc h.0 y (c ∷ []))

-- the answers of a number's reader, and of a value's or type's
number_code : {M : Type 0} (P : M → Type 0) (q : Step ℕ × Partial) (more : Partial → M) (done : ℕ → M × Event) (bad : Why → M) → ((s : Partial) → P (more s)) → ((n : ℕ) → P (done n).0) → ((w : Why) → P (bad w)) → P (on_number q more done bad).0
number_code P (step.More, s) more done bad m d f = m s
number_code P (step.Done n, s) more done bad m d f = d n
number_code P (step.Bad, s) more done bad m d f = f why.BadNumber

value_code : {M R X : Type 0} (P : M → Type 0) (q : Reading R X) (more : R → M) (done : X → M × Event) (bad : Why → M) → ((r : R) → P (more r)) → ((x : X) → P (done x).0) → ((w : Why) → P (bad w)) → P (on_value q more done bad).0
value_code P (More r) more done bad m d f = m r
value_code P (Done x) more done bad m d f = d x
value_code P (Bad w) more done bad m d f = f w

type_code : {M : Type 0} (P : M → Type 0) (q : Result ValType Why) (done : ValType → M × Event) (bad : Why → M) → ((t : ValType) → P (done t).0) → ((w : Why) → P (bad w)) → P (on_type q done bad).0
type_code P (Ok t) done bad d f = d t
type_code P (Err w) done bad d f = f w

-- a byte after these
module _ (p : Profile) (c : ℕ) (b : List ℕ) where
  abbrev Now : List ℕ
  Now = b ++ c ∷ []

  abbrev Read : Reading InOp Op → Type 0
  Read q = CodeReading q Now

  kind_code : (kind : Immediates) → CodeOp (immediates kind) Now
  kind_code (k.Memory memory.MemoryCopy) = tt
  kind_code (k.Memory _) = tt
  kind_code _ = tt

  class_code : (class : OpClass) → Read (class_step class)
  class_code (APlain o) = tt
  class_code (With kind) = kind_code kind
  class_code Float = tt
  class_code NoClass = tt

  begin_code : Read (begin_step p c)
  begin_code =
      cond_both (nat_eq c 0xFC) _ _ Read
      (λ z. cond_both (has_prefix p) _ _ Read (λ _. (b, ap (λ x. b ++ x ∷ []) (eqb-true c 0xFC z))) (λ _. tt))
      (λ _. class_code (class_under p c))

  first_padding : nat_lt c 0x80 ≡ false → EndsWith (0xFC ∷ []) b → CodeOp (in_op.Padding (c - 0x80) 3) Now
  first_padding z h =
      let most : 0x80 ≤ c = ltb-false c 0x80 z in
      let same : c ≡ 0x80 + (c - 0x80) = omega (arith, most) in
      (omega arith, subst (λ x. EndsWith (0xFC ∷ x ∷ []) Now) same (ends_more (0xFC ∷ []) b c h))

  padded_code : (q : Reading InOp Op) → nat_lt c 0x80 ≡ false → EndsWith (0xFC ∷ []) b → Read (padded q (c - 0x80))
  padded_code (More r) z h = first_padding z h
  padded_code (Done o) z h = first_padding z h
  padded_code (Bad w) z h = tt

  number_begun : EndsWith (0xFC ∷ []) b → Read (code_step p c)
  number_begun h =
      cond_both (nat_lt c 0x80) _ _ Read (λ _. class_code (class_under p (0x100 + c)))
      (λ z. padded_code (class_step (class_under p (0x100 + (c - 0x80)))) z h)

  more_code : (n left : ℕ) → CodeOp (in_op.Padding n left) b → Read (more_padding n left c)
  more_code n zero h = tt
  more_code n (suc left) h =
      cond_both (nat_eq c 0x80) _ _ Read
      (λ z.
      let last : EndsWith (padding n (suc left) ++ 0x80 ∷ []) Now = subst (λ x. EndsWith (padding n (suc left) ++ x ∷ []) Now) (eqb-true c 0x80 z) (ends_more (padding n (suc left)) b c h.1) in
      (omega (arith, h.0), subst (λ y. EndsWith y Now) (sym (padding_more n left h.0)) last))
      (λ _. tt)

  padding_code : (n left : ℕ) → CodeOp (in_op.Padding n left) b → Read (padding_step p n left c)
  padding_code n left h = cond_both (nat_eq c 0x00) _ _ Read (λ _. class_code (class_under p (0x100 + n))) (λ _. more_code n left h)

  answer_code : {T : Type 0} (q : Step T × Partial) (more : Partial → InOp) (done : T → Reading InOp Op) → ((s : Partial) → CodeOp (more s) Now) → ((v : T) → Read (done v)) → Read (on_answer q (λ s. More (more s)) done (Bad why.BadNumber))
  answer_code (step.More, s) more done m d = m s
  answer_code (step.Done v, s) more done m d = d v
  answer_code (step.Bad, s) more done m d = tt

  block_code : (i : BlockOp) → Read (block_step p i c)
  block_code i = cond_both (nat_eq c 0x40) _ _ Read (λ _. tt) (λ _. go (value_type_of p c))
    where
      go : (q : Result ValType Why) → Read (read_type q (λ t. Done (block_op i (Some t))))
      go (Ok t) = tt
      go (Err w) = tt

  closing_code : (o : Op) → Read (closing_step o c)
  closing_code o = cond_both (nat_eq c 0x00) _ _ Read (λ _. tt) (λ _. tt)

  after_code : (t : TableOp) → Read (after_table t)
  after_code (table_at.Call n) = tt
  after_code (table_at.Init n) = tt
  after_code table_at.CopyTo = tt
  after_code table_at.CopyFrom = tt

  long_code : (t : TableOp) (left : ℕ) → Read (long_step t left c)
  long_code t zero = tt
  long_code t (suc left) = cond_both (nat_eq c 0x80) _ _ Read (λ _. tt) (λ _. tt)

  op_code : (r : InOp) → CodeOp r b → Read (op_push p r c)
  op_code in_op.First h = begin_code
  op_code in_op.Code h = number_begun h
  op_code (in_op.Padding n left) h = padding_code n left h
  op_code (in_op.BlockType i) h = block_code i
  op_code (in_op.Index i r) h = answer_code (unsigned_push 32 r c) _ _ (λ s. tt) (λ v. tt)
  op_code (in_op.CallType r) h = answer_code (unsigned_push 32 r c) _ _ (λ s. tt) (λ v. tt)
  op_code (in_op.Table t left) h = cond_both (nat_eq c 0x00) _ _ Read (λ _. after_code t) (λ _. cond_both (has p (table_feature t)) _ _ Read (λ _. long_code t left) (λ _. tt))
  op_code (in_op.InitElement r) h = answer_code (unsigned_push 32 r c) _ _ (λ s. tt) (λ v. tt)
  op_code (in_op.InitSegment r) h = answer_code (unsigned_push 32 r c) _ _ (λ s. tt) (λ v. tt)
  op_code (in_op.InitMemory n) h = closing_code (init_op n)
  op_code in_op.FirstZero h = cond_both (nat_eq c 0x00) _ _ Read (λ _. tt) (λ _. tt)
  op_code (in_op.Memory m) h = closing_code (memory_op m)
  op_code (in_op.Const32 r) h = answer_code (signed_push 32 r c) _ _ (λ s. tt) (λ v. tt)
  op_code (in_op.Const64 r) h = answer_code (signed_push 64 r c) _ _ (λ s. tt) (λ v. tt)
  op_code (in_op.Float32 zero low) h = tt
  op_code (in_op.Float32 (suc left) low) h = tt
  op_code (in_op.Float64 zero low) h = tt
  op_code (in_op.Float64 (suc left) low) h = tt
  op_code (in_op.Align a r) h = answer_code (unsigned_push 32 r c) _ _ (λ s. tt) (λ v. tt)
  op_code (in_op.Offset a n r) h = answer_code (unsigned_push 32 r c) _ _ (λ s. tt) (λ v. tt)

  -- expressions
  ended_code : (depth : ℕ) → CodeExpression (op_ends depth) Now
  ended_code zero = tt
  ended_code (suc n) = tt

  done_code : (depth : ℕ) (o : Op) → CodeExpression (after_op depth o) Now
  done_code depth op.End = ended_code depth
  done_code depth _ = tt

  reading_code : (depth : ℕ) (q : Reading InOp Op) → Read q → CodeExpression (after_reading depth q).0 Now
  reading_code depth (More r) h = h
  reading_code depth (Done o) h = done_code depth o
  reading_code depth (Bad w) h = tt

  label_code : (depth left : ℕ) → CodeExpression (after_label depth left) Now
  label_code depth zero = tt
  label_code depth (suc n) = tt

  labels_code : (depth left : ℕ) (q : Step ℕ × Partial) → CodeExpression (on_answer q (λ s. (expression.Label depth left s, Nothing)) (λ l. (after_label depth left, Some (op.Label l))) (expression_failed why.BadNumber)).0 Now
  labels_code depth left (step.More, s) = tt
  labels_code depth left (step.Done v, s) = label_code depth left
  labels_code depth left (step.Bad, s) = tt

  expression_code : (e : InExpression) → CodeExpression e b → CodeExpression (expression_step p e c).0 Now
  expression_code (expression.Op depth r) h = reading_code depth (op_push p r c) (op_code r h)
  expression_code (expression.Label depth left r) h = labels_code depth left (unsigned_push 32 r c)
  expression_code expression.Over h = tt
  expression_code (expression.Failed w) h = tt

  -- code entries
  abbrev InEntryNow : InEntry → Type 0
  InEntryNow q = CodeEntry q Now

  runs_code : (n : ℕ) → CodeEntry (runs_or_body n) Now
  runs_code zero = tt
  runs_code (suc n) = tt

  body_code : (e : InExpression) → CodeExpression e Now → CodeEntry (entry_after_op e) Now
  body_code (expression.Op depth r) h = h
  body_code (expression.Label depth left r) h = tt
  body_code expression.Over h = tt
  body_code (expression.Failed w) h = tt

  entry_code : (q : InEntry) → CodeEntry q b → CodeEntry (entry_step p q c).0 Now
  entry_code (entry.RunCount r) h = number_code InEntryNow (unsigned_push 32 r c) _ _ _ (λ s. tt) runs_code (λ w. tt)
  entry_code (entry.Run more r) h = value_code InEntryNow (run_push p r c) (λ s. entry.Run more s) (λ x. with_item_given (runs_or_body more) (plain.Locals x.0 x.1)) entry.Failed (λ s. tt) (λ x. runs_code more) (λ w. tt)
  entry_code (entry.Body e) h = body_code (expression_step p e c).0 (expression_code e h)
  entry_code entry.Over h = tt
  entry_code (entry.Failed w) h = tt

  -- members
  abbrev InMemberNow : InMember → Type 0
  InMemberNow q = CodeMember q Now

  param_code : (n : ℕ) → CodeMember (after_param n) Now
  param_code zero = tt
  param_code (suc n) = tt

  result_code : (n : ℕ) → CodeMember (after_result n) Now
  result_code zero = tt
  result_code (suc n) = tt

  name_code : (of : NameKind) → CodeMember (after_name of) Now
  name_code name.Custom = tt
  name_code _ = tt

  length_code : (of : NameKind) (n : ℕ) → CodeMember (after_length of n).0 Now
  length_code of zero = name_code of
  length_code of (suc n) = tt

  named_code : (of : NameKind) (n : ℕ) → CodeMember (name_step of n).0 Now
  named_code of zero = name_code of
  named_code of (suc n) = tt

  functions_code : (n : ℕ) → CodeMember (functions_or_over n) Now
  functions_code zero = tt
  functions_code (suc n) = tt

  data_code : (n : ℕ) → CodeMember (data_or_over n) Now
  data_code zero = tt
  data_code (suc n) = tt

  list_code : (of : LengthOf) (n : ℕ) → CodeMember (list_or_over of n) Now
  list_code length_of.Functions n = functions_code n
  list_code length_of.Bytes n = data_code n

  index_code : (of : IndexOf) → CodeMember (after_index of) Now
  index_code (index.ElementFunction more) = functions_code more
  index_code _ = tt

  over_code : (of : ConstantOf) → CodeMember (constant_over of) Now
  over_code constant.Global = tt
  over_code _ = tt

  constant_code : (of : ConstantOf) (e : InExpression) → CodeExpression e Now → CodeMember (after_constant of e) Now
  constant_code of (expression.Op depth r) h = h
  constant_code of (expression.Label depth left r) h = tt
  constant_code of expression.Over h = over_code of
  constant_code of (expression.Failed w) h = tt

  framed_code : (n : ℕ) (q : InEntry) → CodeEntry q Now → CodeMember (member_in_entry n q) Now
  framed_code n (entry.Failed w) h = tt
  framed_code zero entry.Over h = tt
  framed_code (suc n) entry.Over h = tt
  framed_code zero (entry.RunCount r) h = tt
  framed_code zero (entry.Run l r) h = tt
  framed_code zero (entry.Body e) h = tt
  framed_code (suc n) (entry.RunCount r) h = tt
  framed_code (suc n) (entry.Run l r) h = tt
  framed_code (suc n) (entry.Body e) h = h

  member_code : (q : InMember) → CodeMember q b → CodeMember (member_step p q c).0 Now
  member_code at.TypeForm h = cond_both (nat_eq c 0x60) _ _ (λ (x : InMember × Event). InMemberNow x.0) (λ _. tt) (λ _. tt)
  member_code (at.ParamCount r) h = number_code InMemberNow (unsigned_push 32 r c) _ _ _ (λ s. tt) param_code (λ w. tt)
  member_code (at.Param more) h = type_code InMemberNow (value_type_of p c) _ _ (λ t. param_code more) (λ w. tt)
  member_code (at.ResultCount r) h = number_code InMemberNow (unsigned_push 32 r c) _ _ _ (λ s. tt) result_code (λ w. tt)
  member_code (at.ResultType more) h = type_code InMemberNow (value_type_of p c) _ _ (λ t. result_code more) (λ w. tt)
  member_code (at.NameLength of r) h = number_code InMemberNow (unsigned_push 32 r c) _ _ _ (λ s. tt) (length_code of) (λ w. tt)
  member_code (at.Name of more) h = named_code of more
  member_code (at.Value v) h = value_code InMemberNow (value_push p v c) at.Value (λ q. with_item_given at.Over q) at.Failed (λ s. tt) (λ x. tt) (λ w. tt)
  member_code (at.Index of r) h = number_code InMemberNow (unsigned_push 32 r c) _ _ _ (λ s. tt) (λ n. index_code of) (λ w. tt)
  member_code (at.SegmentStart of r) h =
      number_code InMemberNow (unsigned_push 32 r c) _ _ _ (λ s. unfinished_any InMemberNow (has p BulkMemory) of s tt tt) (begun_state InMemberNow tt tt tt tt tt tt tt (has p BulkMemory) of) (λ w. tt)
  member_code at.ElementKind h = cond_both (nat_eq c 0x00) _ _ (λ (x : InMember × Event). InMemberNow x.0) (λ _. tt) (λ _. tt)
  member_code (at.GlobalType g) h = value_code InMemberNow (global_type_push p g c) at.GlobalType (λ t. with_item_given (at.Constant constant.Global start) (plain.Global t)) at.Failed (λ s. tt) (λ x. tt) (λ w. tt)
  member_code (at.Constant of e) h = constant_code of (expression_step p e c).0 (expression_code e h)
  member_code (at.Length of r) h = number_code InMemberNow (unsigned_push 32 r c) _ _ _ (λ s. tt) (list_code of) (λ w. tt)
  member_code (at.Data more) h = data_code more
  member_code (at.EntrySize r) h = number_code InMemberNow (unsigned_push 32 r c) _ _ _ (λ s. tt) (λ n. framed_code n (entry.RunCount fresh) tt) (λ w. tt)
  member_code (at.Entry more q) h = framed_code more (entry_step p q c).0 (entry_code q h)
  member_code at.Over h = tt
  member_code (at.Failed w) h = tt

  -- the machine
  abbrev InMachineNow : Machine → Type 0
  InMachineNow m = CodeMachine m Now

  start_code : (of : SectionKind) → CodeMember (member_at_start of) Now
  start_code section_kind.Type = tt
  start_code _ = tt

  section_code : (of : SectionKind) (counts : Counts) (bytes left : ℕ) (q : InMember) → CodeMember q Now → CodeMachine (machine_in_member of counts bytes left q) Now
  section_code of counts bytes left (at.Failed w) h = tt
  section_code of counts zero zero at.Over h = tt
  section_code of counts (suc n) zero at.Over h = tt
  section_code of counts zero (suc l) at.Over h = tt
  section_code of counts (suc n) (suc l) at.Over h = start_code of
  section_code of counts zero left q h = tt
  section_code of counts (suc n) left q h = h

  custom_code : (last : ℕ) (counts : Counts) (n : ℕ) (q : InCustom) → CodeMachine (machine_in_custom last counts n q) Now
  custom_code last counts n (custom.Failed w) = tt
  custom_code last counts zero custom.Skip = tt
  custom_code last counts zero q = tt
  custom_code last counts (suc n) q = tt

  listed_code : (of : SectionKind) (counts : Counts) (bytes n : ℕ) → CodeMachine (machine_after_count of counts bytes n) Now
  listed_code of counts bytes zero = section_code of counts bytes zero at.Over tt
  listed_code of counts bytes (suc n) = section_code of counts bytes n (member_at_start of) (start_code of)

  paired_code : (of : SectionKind) (counts : Counts) (bytes n : ℕ) → CodeMachine (machine_after_paired_count of counts bytes n) Now
  paired_code section_kind.Function counts bytes n = listed_code section_kind.Function (counts_in section_kind.Function counts n) bytes n
  paired_code section_kind.Code counts bytes n = cond_both (nat_eq n counts.functions) _ _ InMachineNow (λ _. listed_code section_kind.Code (counts_in section_kind.Code counts n) bytes n) (λ _. tt)
  paired_code section_kind.DataCount counts bytes n = listed_code section_kind.DataCount (counts_in section_kind.DataCount counts n) bytes zero
  paired_code section_kind.Segment counts bytes n = cond_both (is_given counts.segments n) _ _ InMachineNow (λ _. listed_code section_kind.Segment (counts_in section_kind.Segment counts n) bytes n) (λ _. tt)
  paired_code of counts bytes n = listed_code of (counts_in of counts n) bytes n

  count_code : (of : SectionKind) (counts : Counts) (more : ℕ) (q : Step ℕ × Partial) → CodeMachine (after_count of counts more q).0 Now
  count_code of counts zero (step.More, s) = tt
  count_code of counts (suc n) (step.More, s) = tt
  count_code of counts more (step.Done n, s) = paired_code of counts more n
  count_code of counts more (step.Bad, s) = tt

  size_code : (of : SectionKind) (counts : Counts) (n : ℕ) → CodeMachine (after_size of counts n) Now
  size_code of counts zero = tt
  size_code section_kind.Start counts (suc n) = tt
  size_code of counts (suc n) = tt

  begun_code : (of : SectionKind) (counts : Counts) → CodeMachine (begun_section of counts).0 Now
  begun_code section_kind.Segment counts = at_last counts.functions
    where
      at_last : (n : ℕ) → CodeMachine (begun_last n counts).0 Now
      at_last zero = tt
      at_last (suc n) = tt
  begun_code of counts = tt

  rising_code : (last : ℕ) (counts : Counts) (q : Option SectionKind) → CodeMachine (machine_if_rising last counts q).0 Now
  rising_code last counts Nothing = tt
  rising_code last counts (Some of) = cond_both (nat_le (rank_of of) last) _ _ (λ (q : Machine × Event). InMachineNow q.0) (λ _. tt) (λ _. begun_code of counts)

  between_code : (last : ℕ) (counts : Counts) (d : ℕ) → CodeMachine (section_start p last counts d).0 Now
  between_code last counts zero = tt
  between_code last counts (suc m) = rising_code last counts (section_kind_of p (suc m))

  header_code : (n : ℕ) → CodeMachine (header_step n c).0 Now
  header_code n =
      let P : Machine × Event → Type 0 = λ q. InMachineNow q.0 in
      cond_both (nat_lt n 8) _ _ P
      (λ _. cond_both (nat_eq c (slice_index header n)) _ _ P
      (λ _. cond_both (nat_lt n 7) _ _ P (λ _. tt) (λ _. tt))
      (λ _. cond_both (nat_lt n 4) _ _ P (λ _. tt) (λ _. tt)))
      (λ _. tt)

  machine_code : (m : Machine) → CodeMachine m b → CodeMachine (step_of p m c).0 Now
  machine_code (machine.Header n) h = header_code n
  machine_code (machine.Between last counts) h = between_code last counts c
  machine_code (machine.CustomSize last counts r) h = number_code InMachineNow (unsigned_push 32 r c) _ _ _ (λ s. tt) (λ n. custom_code last counts n (custom.Length fresh)) (λ w. tt)
  machine_code (machine.Custom last counts more q) h = custom_code last counts more (custom_step q c).0
  machine_code (machine.Size of counts r) h = number_code InMachineNow (unsigned_push 32 r c) _ _ _ (λ s. tt) (size_code of counts) (λ w. tt)
  machine_code (machine.Count of counts more r) h = count_code of counts more (unsigned_push 32 r c)
  machine_code (machine.Section of counts more left q) h = section_code of counts more left (member_step p q c).0 (member_code q h)
  machine_code (machine.Refused w) h = tt

  heard_code : (zone : Zone) (y : List ℕ) (m : Machine) (e : Event) → CodeMachine m Now → CodeMachine (byte_read machine.Refused zone y c (m, e)).at Now
  heard_code zone y m event.Nothing h = h
  heard_code zone y m (event.Complete x) h = h
  heard_code zone y m event.DataByte h = h
  heard_code zone y m event.InName h = h
  heard_code zone y m (event.EndsName kind) h = cond_both (is_utf8 (y ++ c ∷ [])) _ _ (λ (z : ByteRead Machine). InMachineNow z.at) (λ _. h) (λ _. tt)
  heard_code zone y m (event.EmptyName kind) h = h

pub run_code : (p : Profile) (s : MachineState) (before b : List ℕ) → CodeMachine s.machine before → CodeMachine (state_after p s b).machine (before ++ b)
run_code p s before [] h = subst (CodeMachine s.machine) (sym (append-nil before)) h
run_code p s before (c ∷ b) h =
    let one = heard_code p c before (zone_of s.machine) s.name (step_of p s.machine c).0 (step_of p s.machine c).1 (machine_code p c before s.machine h) in
    subst (CodeMachine (state_after p (after_byte p s c) b).machine) (append_assoc before (c ∷ []) b) (run_code p (after_byte p s c) (before ++ c ∷ []) b one)
