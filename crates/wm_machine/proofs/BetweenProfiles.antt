-- A profile reads each byte as a profile that extends it does, unless it lacks the thing that the byte begins.
use Rattle.std.proofs.Common.{◌≡◌, ◌⊎◌, ℕ, zero, suc, ◌+◌, ◌-◌, ◌≤◌, ◌||◌, IsTrue, List, [], ◌∷◌, Option, Some, None as Nothing, Result, Ok, Err, Bool, true, false, refl, sym, ◌∙◌, ap, subst, inl, inr, arith, length-append, nat_eq, nat_lt, cond, if◌then◌else◌}
use Rattle.wm_syntax.specs.exact.Reading.{unsigned_push}
use Rattle.std.proofs.lemmas.Bool.{cond_both, cond-true, or_cases}
use Rattle.std.specs.Prelude.{slice_get}
use Rattle.wm_syntax.specs.declared.why.Why.{Why}
use Rattle.wm_syntax.specs.declared.why.Why.TheVariants as why
use Rattle.wm_syntax.specs.declared.types.ValType.{ValType}
use Rattle.wm_syntax.specs.declared.types.ValType.TheVariants.{I32, I64, F32, F64}
use Rattle.wm_syntax.specs.declared.instructions.Op.{Op}
use Rattle.wm_syntax.specs.declared.instructions.op_class.OpClass.{OpClass}
use Rattle.wm_syntax.specs.declared.profile.Feature.{Feature}
use Rattle.wm_syntax.specs.declared.profile.Feature.TheVariants.{Base, Floats, SignExtension, LongIndex, Saturation, Copies, BulkMemory}
use Rattle.wm_syntax.specs.declared.profile.Profile.{Profile}
use Rattle.wm_syntax.specs.Profiles.{Extends, has, has_prefix, type_feature}
use Rattle.wm_syntax.specs.exact.ByteTable.{classes, class_feature, left_out, class_in, row_in, class_under}
use Rattle.wm_machine.specs.declared.machine.Machine.{Machine}
use Rattle.wm_machine.specs.declared.machine.Machine.TheVariants as machine
use Rattle.wm_machine.specs.declared.machine.Event.{Event}
use Rattle.wm_machine.specs.declared.machine.Event.TheVariants as event
use Rattle.wm_machine.specs.declared.machine.Plain.TheVariants as plain
use Rattle.wm_machine.specs.declared.machine.member.ConstantOf.TheVariants as constant
use Rattle.wm_machine.specs.declared.machine.member.InEntry.{InEntry}
use Rattle.wm_machine.specs.declared.machine.member.InEntry.TheVariants as entry
use Rattle.wm_machine.specs.declared.machine.member.InMember.{InMember}
use Rattle.wm_machine.specs.declared.machine.member.InMember.TheVariants as at
use Rattle.wm_machine.specs.declared.step.reading.Reading.{Reading}
use Rattle.wm_machine.specs.declared.step.reading.Reading.TheVariants.{Bad, Done, More}
use Rattle.wm_machine.specs.declared.step.ops.InOp.{InOp}
use Rattle.wm_machine.specs.declared.step.ops.InOp.TheVariants as place
use Rattle.wm_syntax.specs.declared.instructions.op_class.BlockOp.{BlockOp}
use Rattle.wm_machine.specs.declared.step.expressions.InExpression.{InExpression}
use Rattle.wm_machine.specs.declared.step.expressions.InExpression.TheVariants as expression
use Rattle.wm_machine.specs.declared.step.values.InGlobalType.{InGlobalType}
use Rattle.wm_machine.specs.declared.step.values.InGlobalType.TheVariants as global
use Rattle.wm_machine.specs.declared.step.values.InImportDesc.{InImportDesc}
use Rattle.wm_machine.specs.declared.step.values.InImportDesc.TheVariants as import
use Rattle.wm_machine.specs.declared.step.values.InRun.{InRun}
use Rattle.wm_machine.specs.declared.step.values.InRun.TheVariants as run
use Rattle.wm_machine.specs.declared.step.values.InValue.{InValue}
use Rattle.wm_machine.specs.declared.step.values.InValue.TheVariants as value
use Rattle.wm_machine.specs.declared.refusal.Refusal.{Refusal}
use Rattle.wm_machine.specs.BetweenProfiles.{IsProfileName, ReadSegmentsAlike, SameUpToProfile}
use Rattle.wm_machine.specs.Items.{Item}
use Rattle.wm_machine.specs.Sinks.{and_then}
use Rattle.wm_machine.specs.exact.ValueSteps.{type_under, value_type_of, read_type, global_type_push, desc_push, in_global, run_push, value_push, of_import}
use Rattle.wm_machine.specs.exact.OpSteps.{class_step, prefix_step, begin_step, behind_step, padded, code_step, more_padding, padding_step, block_step, call_op, table_feature, after_table, long_step, table_step, op_push}
use Rattle.wm_syntax.specs.exact.OpShapes.{block_op}
use Rattle.wm_machine.specs.exact.ExpressionSteps.{start, after_reading, expression_step}
use Rattle.wm_machine.specs.exact.MemberSteps.{segment_begun, segment_unfinished, on_number, on_value, on_type, with_item_given, after_param, after_result, after_constant, op_event, runs_or_body, entry_after_op, entry_step, member_in_entry, member_step}
use Rattle.wm_machine.specs.declared.machine.Counts.{Counts}
use Rattle.wm_machine.specs.declared.machine.member.SectionKind.TheVariants as section_kind
use Rattle.wm_machine.specs.exact.Steps.{machine_if_rising, machine_in_member, section_start, step_of}
use Rattle.wm_machine.specs.exact.Live.{answer_between, Live, answer_at_end, answer_at_end_of, decoder_after, event_effect, live_at_start, live_byte, live_from}
use Rattle.wm_machine.specs.inner.Answers.{answer_of}
use Rattle.wm_machine.proofs.MachineAndSink.{live_ok, reached, used_of}
use Rattle.std.specs.Prelude.{if◌then◌else◌}
use Rattle.wm_machine.specs.declared.step.ops.TableOp.{TableOp}
use Rattle.wm_machine.specs.declared.step.ops.TableOp.TheVariants as table_at

-- a profile that extends one with instructions behind the prefix has some
prefix_more : (p q : Profile) → Extends q p → IsTrue (has_prefix p) → IsTrue (has_prefix q)
prefix_more p q more h = elim (or_cases (has p Saturation) (has p Copies || has p BulkMemory) h) [
  | inl k ↦ ap (λ (b : Bool). b || (has q Copies || has q BulkMemory)) (more Saturation k)
  | inr k ↦ or_right (has q Saturation) (has q Copies || has q BulkMemory) (elim (or_cases (has p Copies) (has p BulkMemory) k) [
    | inl c ↦ ap (λ (b : Bool). b || has q BulkMemory) (more Copies c)
    | inr m ↦ or_right (has q Copies) (has q BulkMemory) (more BulkMemory m)
  ])
]
  where
    or_right : (a b : Bool) → b ≡ true → (a || b) ≡ true
    or_right true b e = refl
    or_right false b e = e

-- the same, or the first was refused by a name of its profile
abbrev Apart : {A : Type 0} → Profile → Profile → (Why → A) → A → A → Type 0
Apart p q refused x y = (x ≡ y) ⊎ ((w : Why) × IsProfileName p q w × (x ≡ refused w))

-- a value type by what its byte is
abbrev type_by : Profile → (i32 i64 f32 f64 : Bool) → Result ValType Why
type_by p i32 i64 f32 f64 =
    cond i32 (type_under p I32) (cond i64 (type_under p I64) (cond f32 (type_under p F32) (cond f64 (type_under p F64) (Err why.BadByte))))

through : {A B : Type 0} (p q : Profile) (refused : Why → A) (f : A → B) (x y : A) → Apart p q refused x y → Apart p q (λ w. f (refused w)) (f x) (f y)
through p q refused f x y h = elim h [ inl e ↦ inl (ap f e) | inr l ↦ inr (l.0, l.1, ap f l.2) ]

-- what is refused at the input's end is refused at its last byte
module _ {H : Type 0} (h : H) (n : ℕ) (r : Refusal) where
  placed : (w : Why) → ◌≡◌ {A = Result H Refusal} (Err (record { at = n; why = w })) (Err r) → n ≡ r.at
  placed w e = let s : record { at = n; why = w } ≡ r = cc in ap (λ (y : Refusal). y.at) s

  end_at : (m : Machine) → answer_at_end_of m h n ≡ Err r → n ≡ r.at
  end_at (machine.Between last counts) e = between counts.functions counts.segments e
    where
      none : ◌≡◌ {A = Result H Refusal} (Ok h) (Err r) → n ≡ r.at
      none e = absurd (cc)

      between : (k : ℕ) (s : Option ℕ) → answer_between k s h n ≡ Err r → n ≡ r.at
      between (suc k) s e = placed why.CodeCount e
      between zero Nothing e = none e
      between zero (Some zero) e = none e
      between zero (Some (suc s)) e = placed why.DataCount e
  end_at (machine.Refused w) e = placed w e
  end_at _ e = placed why.Truncated e

module _ (p q : Profile) (more : Extends q p) (fronts : ReadSegmentsAlike p q) where
  type_under_apart : (t : ValType) → Apart p q Err (type_under p t) (type_under q t)
  type_under_apart t =
      cond_both (has p (type_feature t)) _ _ (λ (r : Result ValType Why). Apart p q Err r (type_under q t))
      (λ h. inl (sym (cond-true (has q (type_feature t)) _ _ (more (type_feature t) h))))
      (λ _. inr (why.Float, tt, refl))

  module _ (c : ℕ) where
    type_apart : Apart p q Err (value_type_of p c) (value_type_of q c)
    type_apart = by (nat_eq c 0x7F) (nat_eq c 0x7E) (nat_eq c 0x7D) (nat_eq c 0x7C)
      where
        by : (a b d e : Bool) → Apart p q Err (type_by p a b d e) (type_by q a b d e)
        by true b d e = type_under_apart I32
        by false true d e = type_under_apart I64
        by false false true e = type_under_apart F32
        by false false false true = type_under_apart F64
        by false false false false = inl refl

    -- the readers of values
    read_apart : {R X : Type 0} (f : ValType → Reading R X) → Apart p q Bad (read_type (value_type_of p c) f) (read_type (value_type_of q c) f)
    read_apart f = through p q Err (λ r. read_type r f) (value_type_of p c) (value_type_of q c) type_apart

    global_apart : (g : InGlobalType) → Apart p q Bad (global_type_push p g c) (global_type_push q g c)
    global_apart global.Type = read_apart (λ t. More (global.Var t))
    global_apart (global.Var t) = inl refl

    desc_apart : (d : InImportDesc) → Apart p q Bad (desc_push p d c) (desc_push q d c)
    desc_apart (import.Global g) = through p q Bad in_global (global_type_push p g c) (global_type_push q g c) (global_apart g)
    desc_apart _ = inl refl

    run_apart : (r : InRun) → Apart p q Bad (run_push p r c) (run_push q r c)
    run_apart (run.Count r) = inl refl
    run_apart (run.Type n) = read_apart (λ t. Done (n, t))

    value_apart : (v : InValue) → Apart p q Bad (value_push p v c) (value_push q v c)
    value_apart (value.Import d) = through p q Bad of_import (desc_push p d c) (desc_push q d c) (desc_apart d)
    value_apart _ = inl refl

    -- the reader of an op
    left_out_apart : (f : Feature) (x : Reading InOp Op) → Apart p q Bad (class_step (left_out f)) x
    left_out_apart Base x = inr (why.BadOpcode, tt, refl)
    left_out_apart Floats x = inr (why.Float, tt, refl)
    left_out_apart SignExtension x = inr (why.BadOpcode, tt, refl)
    left_out_apart LongIndex x = inr (why.BadOpcode, tt, refl)
    left_out_apart Saturation x = inr (why.BadOpcode, tt, refl)
    left_out_apart Copies x = inr (why.BadOpcode, tt, refl)
    left_out_apart BulkMemory x = inr (why.BadOpcode, tt, refl)

    in_profiles : (k : OpClass) → Apart p q Bad (class_step (class_in p k)) (class_step (class_in q k))
    in_profiles k =
        cond_both (has p (class_feature k)) _ _ (λ z. Apart p q Bad (class_step z) (class_step (class_in q k)))
        (λ h. inl (ap class_step (sym (cond-true (has q (class_feature k)) _ _ (more (class_feature k) h)))))
        (λ _. left_out_apart (class_feature k) (class_step (class_in q k)))

    row_apart : (row : Option OpClass) → Apart p q Bad (class_step (row_in p row)) (class_step (row_in q row))
    row_apart (Some k) = in_profiles k
    row_apart Nothing = inl refl

    class_apart : (x : ℕ) → Apart p q Bad (class_step (class_under p x)) (class_step (class_under q x))
    unfolding class_under
    class_apart x = row_apart (slice_get classes x)

    -- behind the prefix
    prefix_apart : Apart p q Bad (prefix_step p) (prefix_step q)
    prefix_apart =
        cond_both (has_prefix p) _ _ (λ (x : Reading InOp Op). Apart p q Bad x (prefix_step q))
        (λ h. inl (sym (cond-true (has_prefix q) _ _ (prefix_more p q more h))))
        (λ _. inr (why.BadOpcode, tt, refl))

    begin_apart : Apart p q Bad (begin_step p c) (begin_step q c)
    begin_apart = by (nat_eq c 0xFC)
      where
        by : (b : Bool) → Apart {A = Reading InOp Op} p q Bad (if b then prefix_step p else class_step (class_under p c)) (if b then prefix_step q else class_step (class_under q c))
        by true = prefix_apart
        by false = class_apart c

    padded_apart : (n : ℕ) (x y : Reading InOp Op) → Apart p q Bad x y → Apart p q Bad (padded x n) (padded y n)
    padded_apart n x y (inl e) = inl (ap (λ z. padded z n) e)
    padded_apart n x y (inr (w, i, e)) = inr (w, i, ap (λ z. padded z n) e)

    code_apart : Apart p q Bad (code_step p c) (code_step q c)
    code_apart = by (nat_lt c 0x80)
      where
        by : (b : Bool) → Apart {A = Reading InOp Op} p q Bad (if b then behind_step p c else padded (behind_step p (c - 0x80)) (c - 0x80)) (if b then behind_step q c else padded (behind_step q (c - 0x80)) (c - 0x80))
        by true = class_apart (0x100 + c)
        by false = padded_apart (c - 0x80) _ _ (class_apart (0x100 + (c - 0x80)))

    padding_apart : (n left : ℕ) → Apart p q Bad (padding_step p n left c) (padding_step q n left c)
    padding_apart n left = by (nat_eq c 0x00)
      where
        by : (b : Bool) → Apart {A = Reading InOp Op} p q Bad (if b then behind_step p n else more_padding n left c) (if b then behind_step q n else more_padding n left c)
        by true = class_apart (0x100 + n)
        by false = inl refl

    block_apart : (o : BlockOp) → Apart p q Bad (block_step p o c) (block_step q o c)
    block_apart o = by (nat_eq c 0x40)
      where
        by : (b : Bool) → Apart {A = Reading InOp Op} p q Bad (cond b (Done (block_op o Nothing)) (read_type (value_type_of p c) (λ t. Done (block_op o (Some t))))) (cond b (Done (block_op o Nothing)) (read_type (value_type_of q c) (λ t. Done (block_op o (Some t)))))
        by true = inl refl
        by false = read_apart (λ t. Done (block_op o (Some t)))

    -- a table index of one byte, and of several
    call_apart : (n left : ℕ) → Apart p q Bad (table_step p (table_at.Call n) left c) (table_step q (table_at.Call n) left c)
    call_apart n left = by (nat_eq c 0x00)
      where
        long : Reading InOp Op
        long = long_step (table_at.Call n) left c

        other : Apart p q Bad (if has p LongIndex then long else Bad why.BadByte) (if has q LongIndex then long else Bad why.BadByte)
        other =
            cond_both (has p LongIndex) _ _ (λ (x : Reading InOp Op). Apart p q Bad x (if has q LongIndex then long else Bad why.BadByte))
            (λ h. inl (sym (cond-true (has q LongIndex) _ _ (more LongIndex h))))
            (λ k. cond_both (has q LongIndex) _ _ (λ (x : Reading InOp Op). Apart p q Bad (Bad why.BadByte) x) (λ h. inr (why.BadByte, (h, k), refl)) (λ _. inl refl))

        by : (b : Bool) → Apart {A = Reading InOp Op} p q Bad (if b then Done (call_op n) else (if has p LongIndex then long else Bad why.BadByte))
            (if b then Done (call_op n) else (if has q LongIndex then long else Bad why.BadByte))
        by true = inl refl
        by false = other

    index_alike : (t : TableOp) (left : ℕ) → has p (table_feature t) ≡ has q (table_feature t) → table_step p t left c ≡ table_step q t left c
    index_alike t left = ap (λ (f : Bool). if nat_eq c 0x00 then after_table t else (if f then long_step t left c else Bad why.BadByte))

    index_apart : (t : TableOp) (left : ℕ) → Apart p q Bad (table_step p t left c) (table_step q t left c)
    index_apart (table_at.Call n) left = call_apart n left
    index_apart (table_at.Init n) left = inl (index_alike (table_at.Init n) left fronts)
    index_apart table_at.CopyTo left = inl (index_alike table_at.CopyTo left fronts)
    index_apart table_at.CopyFrom left = inl (index_alike table_at.CopyFrom left fronts)

    op_apart : (o : InOp) → Apart p q Bad (op_push p o c) (op_push q o c)
    op_apart place.First = begin_apart
    op_apart place.Code = code_apart
    op_apart (place.Padding n left) = padding_apart n left
    op_apart (place.BlockType o) = block_apart o
    op_apart (place.Table t left) = index_apart t left
    op_apart _ = inl refl

    expression_apart : (e : InExpression) → Apart p q (λ w. (expression.Failed w, Nothing)) (expression_step p e c) (expression_step q e c)
    expression_apart (expression.Op depth o) = through p q Bad (after_reading depth) (op_push p o c) (op_push q o c) (op_apart o)
    expression_apart _ = inl refl

    -- code entries, members and sections
    entry_apart : (n : InEntry) → Apart p q (λ w. (entry.Failed w, event.Nothing)) (entry_step p n c) (entry_step q n c)
    entry_apart (entry.Run left r) =
        through p q Bad (λ x. on_value x (λ s. entry.Run left s) (λ x. with_item_given (runs_or_body left) (plain.Locals x.0 x.1)) entry.Failed) (run_push p r c) (run_push q r c) (run_apart r)
    entry_apart (entry.Body e) =
        through p q (λ w. (expression.Failed w, Nothing)) (λ x. (entry_after_op x.0, op_event plain.BodyOp x.1)) (expression_step p e c) (expression_step q e c) (expression_apart e)
    entry_apart _ = inl refl

    abbrev AreApart : (x y : InMember × Event) → Type 0
    AreApart = Apart p q (λ w. (at.Failed w, event.Nothing))

    member_apart : (m : InMember) → AreApart (member_step p m c) (member_step q m c)
    member_apart (at.Param left) =
        through p q Err (λ r. on_type r (λ t. with_item_given (after_param left) (plain.Param t)) at.Failed) (value_type_of p c) (value_type_of q c) type_apart
    member_apart (at.ResultType left) =
        through p q Err (λ r. on_type r (λ t. with_item_given (after_result left) (plain.OneResult t)) at.Failed) (value_type_of p c) (value_type_of q c) type_apart
    member_apart (at.Value v) =
        through p q Bad (λ x. on_value x at.Value (λ i. with_item_given at.Over i) at.Failed) (value_push p v c) (value_push q v c) (value_apart v)
    member_apart (at.SegmentStart of r) = inl (ap (λ f. on_number (unsigned_push 32 r c) (segment_unfinished f of) (segment_begun f of) at.Failed) fronts)
    member_apart (at.GlobalType g) =
        through p q Bad (λ x. on_value x at.GlobalType (λ t. with_item_given (at.Constant constant.Global start) (plain.Global t)) at.Failed) (global_type_push p g c) (global_type_push q g c) (global_apart g)
    member_apart (at.Constant of e) =
        through p q (λ w. (expression.Failed w, Nothing)) (λ x. (after_constant of x.0, op_event plain.ConstOp x.1)) (expression_step p e c) (expression_step q e c) (expression_apart e)
    member_apart (at.Entry left n) =
        through p q (λ w. (entry.Failed w, event.Nothing)) (λ x. (member_in_entry left x.0, x.1)) (entry_step p n c) (entry_step q n c) (entry_apart n)
    member_apart _ = inl refl

    -- a data count section
    kind_apart : (last : ℕ) (counts : Counts) → Apart p q (λ w. (machine.Refused w, event.Nothing))
        (machine_if_rising last counts (if has p BulkMemory then Some section_kind.DataCount else Nothing)) (machine_if_rising last counts (if has q BulkMemory then Some section_kind.DataCount else Nothing))
    kind_apart last counts = inl (ap (λ f. machine_if_rising last counts (if f then Some section_kind.DataCount else Nothing)) fronts)

    start_apart : (last : ℕ) (counts : Counts) (b : ℕ) → Apart p q (λ w. (machine.Refused w, event.Nothing)) (section_start p last counts b) (section_start q last counts b)
    start_apart last counts (suc (suc (suc (suc (suc (suc (suc (suc (suc (suc (suc (suc zero)))))))))))) = kind_apart last counts
    start_apart last counts _ = inl refl

    step_apart : (m : Machine) → Apart p q (λ w. (machine.Refused w, event.Nothing)) (step_of p m c) (step_of q m c)
    step_apart (machine.Section of counts bytes left m) =
        through p q (λ w. (at.Failed w, event.Nothing)) (λ x. (machine_in_member of counts bytes left x.0, x.1)) (member_step p m c) (member_step q m c) (member_apart m)
    step_apart (machine.Between last counts) = start_apart last counts c
    step_apart _ = inl refl

  -- a sink changes nothing of this
  module _ {H : Type 0} (after : H → Item → Result H Why) (limit : ℕ) where
    abbrev judged : Live H → ℕ → Machine × Event → Result (Live H) Refusal
    judged l c x = live_from x.0 (l.at + 1) (event_effect after x.1 l.name c l.held)

    byte_apart : (l : Live H) (c : ℕ) → Apart p q (λ w. Err (record { at = l.at + 1; why = w })) (live_byte after p limit l c) (live_byte after q limit l c)
    byte_apart l c = by (nat_lt l.at limit) (Err (record { at = limit + 1; why = why.TooLong }))
      where
        by : (b : Bool) (long : Result (Live H) Refusal) → Apart p q (λ w. Err (record { at = l.at + 1; why = w })) (cond b (judged l c (step_of p l.machine c)) long) (cond b (judged l c (step_of q l.machine c)) long)
        by true long = through p q (λ w. (machine.Refused w, event.Nothing)) (judged l c) (step_of p l.machine c) (step_of q l.machine c) (step_apart c l.machine)
        by false long = inl refl

    -- where the one was refused, the other has come so far
    record LaterThan (at : ℕ) (y : Result (Live H) Refusal) : Type 0 where
      refused : (other : Refusal) → y ≡ Err other → at ≤ other.at
      live : (m : Live H) → y ≡ Ok m → at ≤ m.at

    abbrev RunApart : Result (Live H) Refusal → Result (Live H) Refusal → Type 0
    RunApart x y = (x ≡ y) ⊎ ((r : Refusal) × (x ≡ Err r) × IsProfileName p q r.why × LaterThan r.at y)

    later : (l : Live H) (c : ℕ) (b : List ℕ) → l.at ≤ limit → LaterThan (l.at + 1) (decoder_after after q limit l (c ∷ b))
    later l c b low = record {
      refused = λ other e. let u = used_of after q limit (c ∷ b) l other low e in omega (arith, u.at, length-append u.used (u.byte ∷ []));
      live = λ m e. let r = reached after q limit (c ∷ b) l m e in omega (arith, r.at);
    }

    -- where both take a byte alike, what comes then decides
    then_apart : (b : List ℕ) (l : Live H) (c : ℕ) → ((m : Live H) → m.at ≤ limit → RunApart (decoder_after after p limit m b) (decoder_after after q limit m b))
        → (x : Result (Live H) Refusal) → live_byte after p limit l c ≡ x → live_byte after q limit l c ≡ x → RunApart (decoder_after after p limit l (c ∷ b)) (decoder_after after q limit l (c ∷ b))
    then_apart b l c rest (Ok m) e f =
        let o = live_ok after p limit l m c e in
        subst (λ z. RunApart (and_then z (λ n. decoder_after after p limit n b)) (decoder_after after q limit l (c ∷ b))) (sym e)
        (subst (λ z. RunApart (decoder_after after p limit m b) (and_then z (λ n. decoder_after after q limit n b))) (sym f) (rest m (omega (arith, o.room, o.at))))
    then_apart b l c rest (Err r) e f =
        inl (ap (λ z. and_then z (λ n. decoder_after after p limit n b)) e ∙ sym (ap (λ z. and_then z (λ n. decoder_after after q limit n b)) f))

    decoder_apart : (b : List ℕ) (l : Live H) → l.at ≤ limit → RunApart (decoder_after after p limit l b) (decoder_after after q limit l b)
    decoder_apart [] l low = inl refl
    decoder_apart (c ∷ b) l low = elim (byte_apart l c) [
      | inl e ↦ then_apart b l c (λ m room. decoder_apart b m room) (live_byte after p limit l c) refl (sym e)
      | inr k ↦ inr (record { at = l.at + 1; why = k.0 }, ap (λ y. and_then y (λ m. decoder_after after p limit m b)) k.2, k.1, later l c b low)
    ]

    end_later : (at : ℕ) (y : Result (Live H) Refusal) → LaterThan at y → (other : Refusal) → and_then y answer_at_end ≡ Err other → at ≤ other.at
    end_later at (Ok m) h other e = let k = h.live m refl in let i = end_at m.held m.at other m.machine e in omega (arith, k, i)
    end_later at (Err r) h other e = h.refused other (let s : r ≡ other = cc in ap Err s)

    pub answers_apart : (first : H) (b : List ℕ) → SameUpToProfile p q (answer_of after (record { profile = p; limit = limit; first = first }) b) (answer_of after (record { profile = q; limit = limit; first = first }) b)
    answers_apart first b = elim (decoder_apart b (live_at_start first) (omega arith)) [
      | inl e ↦ inl (ap (λ y. and_then y answer_at_end) e)
      | inr k ↦ inr (k.0, ap (λ y. and_then y answer_at_end) k.1, k.2, end_later k.0.at (decoder_after after q limit (live_at_start first) b) k.3)
    ]

-- the same of what is made of an answer
pub made_apart : {A B : Type 0} (p q : Profile) (f : A → B) (x y : Result A Refusal) → SameUpToProfile p q x y → SameUpToProfile p q (and_then x (λ a. Ok (f a))) (and_then y (λ a. Ok (f a)))
made_apart {A} {B} p q f x y h = elim h [
  | inl e ↦ inl (ap (λ z. and_then z (λ a. Ok (f a))) e)
  | inr k ↦ inr (k.0, ap (λ z. and_then z (λ a. Ok (f a))) k.1, k.2, go k.0 y k.3)
]
  where
    go : (r : Refusal) (z : Result A Refusal) → ((other : Refusal) → z ≡ Err other → r.at ≤ other.at) → (other : Refusal) → and_then z (λ a. Ok (f a)) ≡ Err other → r.at ≤ other.at
    go r (Ok a) g other e = absurd (cc)
    go r (Err s) g other e = g other (let i : s ≡ other = cc in ap Err i)
