-- BadNumber is given at a byte with which no integer continues, where one has begun and its rest is required.
use Rattle.std.proofs.Common.{◌≡◌, ◌≢◌, ℕ, zero, suc, ◌+◌, ◌-◌, ◌<◌, ◌^◌, ◌⊎◌, inl, inr, Bool, true, false, List, [], ◌∷◌, ◌++◌, Option, Some, None, Result, ℤ, pos, refl, sym, ◌∙◌, ap, subst, arith, nat_eq, nat_lt, nat_le, append_assoc, append-nil}
use Rattle.wm_machine.specs.exact.MemberSteps.{segment_begun, segment_unfinished}
use Rattle.std.proofs.lemmas.Bool.{leb-true, leb-false}
use Rattle.std.proofs.Common.{◌≤◌}
use Rattle.wm_syntax.specs.declared.profile.Feature.TheVariants.{BulkMemory}
use Rattle.std.proofs.lemmas.Bool.{cond_both, eqb-false, eqb-true}
use Rattle.std.specs.Prelude.{◌==◌, IsTrue, if◌then◌else◌, slice_index}
use Rattle.std.specs.Str.{is_utf8}
use Rattle.wm_syntax.specs.declared.numbers.Step.{Step}
use Rattle.wm_syntax.specs.declared.numbers.Step.TheVariants as step
use Rattle.wm_syntax.specs.inner.Numbers.{Partial, SignedRest, UnsignedAfter, SignedAfter}
use Rattle.wm_syntax.specs.exact.Reading.{fresh, last_signed, unsigned_push, signed_push}
use Rattle.wm_syntax.specs.exact.ByteTable.{class_under}
use Rattle.wm_syntax.specs.declared.profile.Profile.{Profile}
use Rattle.wm_syntax.specs.Profiles.{has, has_prefix, type_feature}
use Rattle.wm_syntax.specs.declared.types.ValType.{ValType}
use Rattle.wm_syntax.specs.declared.types.ValType.TheVariants.{I32, I64, F32, F64}
use Rattle.wm_syntax.specs.declared.types.Limits.{Limits}
use Rattle.wm_syntax.specs.declared.types.GlobalType.{GlobalType}
use Rattle.wm_syntax.specs.declared.modules.ImportDesc.TheVariants as desc
use Rattle.wm_syntax.specs.declared.instructions.Op.{Op}
use Rattle.wm_syntax.specs.declared.instructions.Op.TheVariants as op
use Rattle.wm_syntax.specs.declared.instructions.op_class.OpClass.{OpClass}
use Rattle.wm_syntax.specs.declared.instructions.op_class.OpClass.TheVariants.{Plain as APlain, With, Float, None as NoClass}
use Rattle.wm_syntax.specs.declared.instructions.op_class.Immediates.{Immediates}
use Rattle.wm_syntax.specs.declared.instructions.op_class.Immediates.TheVariants as k
use Rattle.wm_syntax.specs.declared.why.Why.{Why}
use Rattle.wm_syntax.specs.declared.why.Why.TheVariants as why
use Rattle.wm_machine.specs.declared.step.reading.Reading.{Reading}
use Rattle.wm_machine.specs.declared.step.reading.Reading.TheVariants.{More, Done, Bad}
use Rattle.wm_syntax.specs.declared.instructions.op_class.BlockOp.{BlockOp}
use Rattle.wm_syntax.specs.declared.instructions.op_class.MemoryOp.TheVariants as memory
use Rattle.wm_machine.specs.declared.step.ops.InOp.{InOp}
use Rattle.wm_machine.specs.declared.step.ops.InOp.TheVariants as in_op
use Rattle.wm_machine.specs.declared.step.values.InLimits.{InLimits}
use Rattle.wm_machine.specs.declared.step.values.InLimits.TheVariants as limits
use Rattle.wm_machine.specs.declared.step.values.InTableType.{InTableType}
use Rattle.wm_machine.specs.declared.step.values.InTableType.TheVariants as table
use Rattle.wm_machine.specs.declared.step.values.InGlobalType.{InGlobalType}
use Rattle.wm_machine.specs.declared.step.values.InGlobalType.TheVariants as global
use Rattle.wm_machine.specs.declared.step.values.InImportDesc.{InImportDesc}
use Rattle.wm_machine.specs.declared.step.values.InImportDesc.TheVariants as import
use Rattle.wm_machine.specs.declared.step.values.InExportDesc.{InExportDesc}
use Rattle.wm_machine.specs.declared.step.values.InExportDesc.TheVariants as target
use Rattle.wm_machine.specs.declared.step.values.InRun.{InRun}
use Rattle.wm_machine.specs.declared.step.values.InRun.TheVariants as run
use Rattle.wm_machine.specs.declared.step.values.InValue.{InValue}
use Rattle.wm_machine.specs.declared.step.values.InValue.TheVariants as value
use Rattle.wm_machine.specs.declared.step.expressions.InExpression.{InExpression}
use Rattle.wm_machine.specs.declared.step.expressions.InExpression.TheVariants as expression
use Rattle.wm_machine.specs.declared.machine.Plain.TheVariants as plain
use Rattle.wm_machine.specs.Meanings.{Integer, u32, u32_zero, u32_flag, s32, s64, spells, goes_on, CanGoOn, MustStand, WrongNumber}
use Rattle.wm_machine.specs.exact.ValueSteps.{read_number, map_reading, after_min, limits_push, table_type_push, type_under, value_type_of, read_type, global_type_push, desc_push, target_push, run_push, value_push}
use Rattle.wm_machine.specs.exact.OpSteps.{float_32_step, float_64_step, call_op, init_op, const_32_op, const_64_op, on_answer, immediates, class_step, begin_step, padded, code_step, more_padding, padding_step, block_step, first_zero_step, closing_step, long_step, table_step, op_push}
use Rattle.wm_syntax.specs.exact.OpShapes.{block_op, index_op, memory_op}
use Rattle.wm_machine.specs.exact.ExpressionSteps.{start, ends as op_ends, after_op, after_label, after_reading, expression_failed, expression_step}
use Rattle.wm_machine.proofs.OpRest.{at_offset}
use Rattle.std.proofs.Common.{◌↔◌}
use Rattle.wm_syntax.specs.Spelling.{AreBytes}
use Rattle.wm_syntax.specs.Leb128.{Signed, Unsigned}
use Rattle.wm_syntax.proofs.Readers.{unsigned_fresh, signed_fresh, signed_law, Goes as NumberGoes}
use Rattle.wm_machine.specs.declared.machine.NameKind.{NameKind}
use Rattle.wm_machine.specs.declared.machine.NameKind.TheVariants as name
use Rattle.wm_machine.specs.declared.machine.Counts.{Counts}
use Rattle.wm_machine.specs.declared.machine.InCustom.{InCustom}
use Rattle.wm_machine.specs.declared.machine.InCustom.TheVariants as custom
use Rattle.wm_machine.specs.declared.machine.Machine.{Machine}
use Rattle.wm_machine.specs.declared.machine.Machine.TheVariants as machine
use Rattle.wm_machine.specs.declared.machine.Event.{Event}
use Rattle.wm_machine.specs.declared.machine.Event.TheVariants as event
use Rattle.wm_machine.specs.declared.machine.member.SectionKind.{SectionKind}
use Rattle.wm_machine.specs.declared.machine.member.SectionKind.TheVariants as section_kind
use Rattle.wm_machine.specs.declared.machine.member.IndexOf.{IndexOf}
use Rattle.wm_machine.specs.declared.machine.member.IndexOf.TheVariants as index
use Rattle.wm_machine.specs.declared.machine.member.ConstantOf.{ConstantOf}
use Rattle.wm_machine.specs.declared.machine.member.ConstantOf.TheVariants as constant
use Rattle.wm_machine.specs.declared.machine.member.LengthOf.{LengthOf}
use Rattle.wm_machine.specs.declared.machine.member.LengthOf.TheVariants as length_of
use Rattle.wm_machine.specs.declared.machine.member.InEntry.{InEntry}
use Rattle.wm_machine.specs.declared.machine.member.InEntry.TheVariants as entry
use Rattle.wm_machine.specs.declared.machine.member.InMember.{InMember}
use Rattle.wm_machine.specs.declared.machine.member.InMember.TheVariants as at
use Rattle.wm_machine.specs.Items.{Zone, Marks}
use Rattle.wm_machine.specs.Sections.{header}
use Rattle.wm_machine.specs.Grammar.{strict}
use Rattle.wm_machine.specs.exact.Members.{rank_of, section_kind_of, member_at_start}
use Rattle.wm_machine.specs.exact.MemberSteps.{on_number, on_value, on_type, with_item_given, after_param, after_result, after_name, after_length, name_step, functions_or_over, index_item, after_index, constant_over, after_constant, data_or_over, list_or_over, runs_or_body, entry_after_op, entry_step, member_in_entry, member_step}
use Rattle.wm_machine.specs.exact.Steps.{counts_in, is_given, begun_last, custom_after_length, machine_in_custom, custom_step, machine_in_member, machine_after_count, machine_after_paired_count, after_count, begun_section, machine_if_rising, section_start, machine_in_contents, after_size, custom_size, header_step, step_of}
use Rattle.wm_machine.specs.exact.Runs.{byte_read, ByteRead, MachineState, zone_of, after_byte, state_after, marks, state_at_start}
use Rattle.wm_machine.specs.exact.Live.{IsRefused}
use Rattle.wm_machine.proofs.Numbers.{NumberNext, number_next}
use Rattle.wm_machine.proofs.MachineStates.{Fits, step_fits, run_fits}
use Rattle.wm_machine.proofs.MachineAndSink.{begin_fits}
use Rattle.wm_machine.proofs.WholeMachine.{MayEnd, MachineRest, machine_follows, ends, begin_to, run_to}
use Rattle.wm_machine.proofs.Fronts.{is_front}
use Rattle.wm_machine.proofs.OpSound.{HasRoom, RoomAfter, fresh_room, unsigned_room, signed_room, last_byte, last_signed_byte}
use Rattle.wm_machine.proofs.WrongMembers.{can_stand}
use Rattle.wm_machine.proofs.NumbersAtHand.{Num, at_zeros, front_number, num_op, num_limits, num_table, num_global, num_desc, num_target, num_run, num_value, num_expression, num_entry, num_member, num_custom, num_machine, RestOf, Rests, number_can}
use Rattle.wm_machine.proofs.SpelledBytes.{whole_bytes}
use Rattle.wm_machine.proofs.FramedBytes.{Numbers, numbers}
use Rattle.wm_machine.proofs.TableIndex.{Zeros, bool_cases, no_zeros, one_zero, spelled_zeros, zeros_off, zeros_on, zeros_spell}
use Rattle.wm_machine.specs.declared.step.ops.TableOp.{TableOp}
use Rattle.wm_machine.specs.declared.step.ops.TableOp.TheVariants as table_at
use Rattle.wm_machine.specs.exact.OpSteps.{init_table_op, copy_table_op, table_feature, after_table}
use Rattle.wm_syntax.specs.declared.profile.Feature.{Feature}
use Rattle.wm_machine.specs.declared.machine.member.SegmentKind.{SegmentKind}
use Rattle.wm_machine.specs.declared.machine.member.SegmentKind.TheVariants as segments
use Rattle.wm_machine.specs.exact.MemberSteps.{active_begun, passive_begun}

-- before the first byte of a number
abbrev at_first : Integer → Partial
at_first u32 = fresh
at_first (u32_zero f) = at_zeros 4
at_first u32_flag = fresh
at_first s32 = fresh
at_first s64 = fresh

abbrev IsNew : Num → Type 0
IsNew None = Unit {0}
IsNew (Some q) = q.1 ≡ at_first q.0

-- a byte of a table index
abbrev zero_on : ℕ → ℕ → Step ℕ × Partial
zero_on zero c = (step.Bad, fresh)
zero_on (suc left) c = if c == 0x80 then (step.More, at_zeros left) else (step.Bad, fresh)

abbrev zero_push : Partial → ℕ → Step ℕ × Partial
zero_push r c = if c == 0x00 then (step.Done 0, fresh) else zero_on r.low c

-- a byte of a flag
abbrev only_if : Bool → Step ℕ × Partial → Step ℕ × Partial
only_if small q = if small then q else (step.Bad, q.1)

abbrev flag_only : Step ℕ × Partial → Step ℕ × Partial
flag_only (step.More, s) = only_if (nat_le s.low 2) (step.More, s)
flag_only (step.Done n, s) = only_if (nat_le n 2) (step.Done n, s)
flag_only (step.Bad, s) = (step.Bad, s)

-- The effect of a byte on a state. Outside a number, the byte is refused with another name, or a number may begin.
-- Inside a number, it continues the number, unless a size refuses it.
module _ {M : Type 0} (fail : Why → M) (num : M → Num) where
  abbrev IsCut : M → Type 0
  IsCut x = (w : Why) × (x ≡ fail w) × (w ≢ why.BadNumber)

  abbrev Settled : M → Type 0
  Settled x = IsNew (num x) × (x ≢ fail why.BadNumber)

  abbrev Pushed : {T : Type 0} → Integer → Step T × Partial → M → Type 0
  Pushed i (step.More, s) x = ((num x ≡ Some (i, s)) × (x ≢ fail why.BadNumber)) ⊎ IsCut x
  Pushed i (step.Done v, s) x = Settled x
  Pushed i (step.Bad, s) x = x ≡ fail why.BadNumber

  abbrev Law : Num → ℕ → M → Type 0
  Law None c x = Settled x
  Law (Some (u32, r)) c x = Pushed u32 (unsigned_push 32 r c) x
  Law (Some (u32_zero f, r)) c x = Pushed (u32_zero f) (zero_push r c) x
  Law (Some (u32_flag, r)) c x = Pushed u32_flag (flag_only (unsigned_push 32 r c)) x
  Law (Some (s32, r)) c x = Pushed s32 (signed_push 32 r c) x
  Law (Some (s64, r)) c x = Pushed s64 (signed_push 64 r c) x

-- the same of a state around it
module _ {M N : Type 0} (fail : Why → M) (num : M → Num) (refuse : Why → N) (outer : N → Num) (f : M → N) (bad : (w : Why) → f (fail w) ≡ refuse w)
    (keeps : (x : M) → (i : Integer) (s : Partial) → num x ≡ Some (i, s) → ((outer (f x) ≡ Some (i, s)) × (f x ≢ refuse why.BadNumber)) ⊎ IsCut refuse outer (f x))
    (new : (x : M) → Settled fail num x → Settled refuse outer (f x)) where
  lift_push : {T : Type 0} (i : Integer) (q : Step T × Partial) (x : M) → Pushed fail num i q x → Pushed refuse outer i q (f x)
  lift_push i (step.More, s) x (inl h) = keeps x i s h.0
  lift_push i (step.More, s) x (inr h) = inr (h.0, ap f h.1 ∙ bad h.0, h.2)
  lift_push i (step.Done v, s) x h = new x h
  lift_push i (step.Bad, s) x h = ap f h ∙ bad why.BadNumber

  lift : (n : Num) (c : ℕ) (x : M) → Law fail num n c x → Law refuse outer n c (f x)
  lift None c x h = new x h
  lift (Some (u32, r)) c x h = lift_push u32 (unsigned_push 32 r c) x h
  lift (Some (u32_zero i, r)) c x h = lift_push (u32_zero i) (zero_push r c) x h
  lift (Some (u32_flag, r)) c x h = lift_push u32_flag (flag_only (unsigned_push 32 r c)) x h
  lift (Some (s32, r)) c x h = lift_push s32 (signed_push 32 r c) x h
  lift (Some (s64, r)) c x h = lift_push s64 (signed_push 64 r c) x h

-- readers
abbrev num_reading : {R X : Type 0} → (R → Num) → Reading R X → Num
num_reading num (More r) = num r
num_reading num (Done x) = None
num_reading num (Bad w) = None

module _ {R X : Type 0} (num : R → Num) where
  abbrev ReadLaw : Num → ℕ → Reading R X → Type 0
  ReadLaw = Law {M = Reading R X} Bad (num_reading num)

  abbrev ReadSettled : Reading R X → Type 0
  ReadSettled = Settled {M = Reading R X} Bad (num_reading num)

  answer_law : {T : Type 0} (i : Integer) (q : Step T × Partial) (more : Partial → R) (done : T → Reading R X) → ((s : Partial) → num (more s) ≡ Some (i, s)) → ((v : T) → ReadSettled (done v)) → Pushed {M = Reading R X} Bad (num_reading num) i q (on_answer q (λ s. More (more s)) done (Bad why.BadNumber))
  answer_law i (step.More, s) more done m d = inl (m s, λ e. cc)
  answer_law i (step.Done v, s) more done m d = d v
  answer_law i (step.Bad, s) more done m d = refl

  number_law : (q : Step ℕ × Partial) (more : Partial → R) (done : ℕ → Reading R X) → ((s : Partial) → num (more s) ≡ Some (u32, s)) → ((v : ℕ) → ReadSettled (done v)) → Pushed {M = Reading R X} Bad (num_reading num) u32 q (read_number q more done)
  number_law (step.More, s) more done m d = inl (m s, λ e. cc)
  number_law (step.Done v, s) more done m d = d v
  number_law (step.Bad, s) more done m d = refl

  new_more : (r : R) → IsNew (num r) → ReadSettled (More r)
  new_more r h = (h, λ e. cc)

  new_done : (x : X) → ReadSettled (Done x)
  new_done x = (tt, λ e. cc)

  new_byte : ReadSettled (Bad why.BadByte)
  new_byte = (tt, λ e. cc)

  new_float : ReadSettled (Bad why.Float)
  new_float = (tt, λ e. cc)

  under_law : (p : Profile) (t : ValType) (f : ValType → Reading R X) → ((t : ValType) → ReadSettled (f t)) → ReadSettled (read_type (type_under p t) f)
  under_law p t f h = cond_both (has p (type_feature t)) _ _ (λ (q : Result ValType Why). ReadSettled (read_type q f)) (λ _. h t) (λ _. new_float)

  type_law : (p : Profile) (c : ℕ) (f : ValType → Reading R X) → ((t : ValType) → ReadSettled (f t)) → ReadSettled (read_type (value_type_of p c) f)
  type_law p c f h =
      let P : Result ValType Why → Type 0 = λ q. ReadSettled (read_type q f) in
      cond_both (nat_eq c 0x7F) _ _ P (λ _. under_law p I32 f h) (λ _. cond_both (nat_eq c 0x7E) _ _ P (λ _. under_law p I64 f h)
      (λ _. cond_both (nat_eq c 0x7D) _ _ P (λ _. under_law p F32 f h) (λ _. cond_both (nat_eq c 0x7C) _ _ P (λ _. under_law p F64 f h) (λ _. new_byte))))

-- a reader within another
module _ {R S X Y : Type 0} (num : R → Num) (outer : S → Num) (f : R → S) (g : X → Y) (same : (r : R) → outer (f r) ≡ num r) where
  within_keeps : (x : Reading R X) (i : Integer) (s : Partial) → num_reading num x ≡ Some (i, s)
      → ((num_reading outer (map_reading f g x) ≡ Some (i, s)) × (map_reading f g x ≢ Bad why.BadNumber)) ⊎ IsCut {M = Reading S Y} Bad (num_reading outer) (map_reading f g x)
  within_keeps (More r) i s e = inl (same r ∙ e, λ e. cc)
  within_keeps (Done x) i s e = absurd (cc)
  within_keeps (Bad w) i s e = absurd (cc)

  within_new : (x : Reading R X) → ReadSettled {R = R} {X = X} num x → ReadSettled {R = S} {X = Y} outer (map_reading f g x)
  within_new (More r) h = (subst IsNew (sym (same r)) h.0, λ e. cc)
  within_new (Done x) h = (tt, λ e. cc)
  within_new (Bad w) h = (tt, λ e. h.1 (ap Bad (let s : w ≡ why.BadNumber = cc in s)))

  within_law : (n : Num) (c : ℕ) (x : Reading R X) → ReadLaw num n c x → ReadLaw outer n c (map_reading f g x)
  within_law = lift {M = Reading R X} {N = Reading S Y} Bad (num_reading num) Bad (num_reading outer) (map_reading f g) (λ w. refl) within_keeps within_new

-- values
min_law : (bounded : Bool) (n : ℕ) → ReadSettled {R = InLimits} {X = Limits} num_limits (after_min bounded n)
min_law true n = new_more num_limits (limits.Max n fresh) refl
min_law false n = (tt, λ e. cc)

limits_law : (l : InLimits) (c : ℕ) → ReadLaw num_limits (num_limits l) c (limits_push l c)
limits_law limits.Flag c =
    let P : Reading InLimits Limits → Type 0 = ReadSettled num_limits in
    cond_both (nat_eq c 0x00) _ _ P (λ _. new_more num_limits _ refl) (λ _. cond_both (nat_eq c 0x01) _ _ P (λ _. new_more num_limits _ refl) (λ _. new_byte num_limits))
limits_law (limits.Min bounded r) c = number_law num_limits (unsigned_push 32 r c) (λ s. limits.Min bounded s) (after_min bounded) (λ s. refl) (min_law bounded)
limits_law (limits.Max min r) c = number_law num_limits (unsigned_push 32 r c) (λ s. limits.Max min s) (λ n. Done (record { min = min; max = Some n })) (λ s. refl) (λ n. new_done num_limits _)

table_law : (t : InTableType) (c : ℕ) → ReadLaw num_table (num_table t) c (table_type_push t c)
table_law table.ElementType c = cond_both (nat_eq c 0x70) _ _ (ReadSettled {R = InTableType} {X = Limits} num_table) (λ _. new_more num_table _ tt) (λ _. new_byte num_table)
table_law (table.Limits l) c = within_law num_limits num_table table.Limits (λ y. y) (λ r. refl) (num_limits l) c (limits_push l c) (limits_law l c)

global_law : (p : Profile) (g : InGlobalType) (c : ℕ) → ReadSettled {R = InGlobalType} {X = GlobalType} num_global (global_type_push p g c)
global_law p global.Type c = type_law num_global p c (λ t. More (global.Var t)) (λ t. new_more num_global (global.Var t) tt)
global_law p (global.Var t) c = go c
  where
    go : (d : ℕ) → ReadSettled {R = InGlobalType} {X = GlobalType} num_global (global_type_push p (global.Var t) d)
    go zero = new_done num_global _
    go (suc zero) = new_done num_global _
    go (suc (suc d)) = new_byte num_global

desc_law : (p : Profile) (d : InImportDesc) (c : ℕ) → ReadLaw num_desc (num_desc d) c (desc_push p d c)
desc_law p import.Kind c = go c
  where
    go : (d : ℕ) → ReadSettled num_desc (desc_push p import.Kind d)
    go zero = new_more num_desc (import.Func fresh) refl
    go (suc zero) = new_more num_desc (import.Table table.ElementType) tt
    go (suc (suc zero)) = new_more num_desc (import.Memory limits.Flag) tt
    go (suc (suc (suc zero))) = new_more num_desc (import.Global global.Type) tt
    go (suc (suc (suc (suc d)))) = new_byte num_desc
desc_law p (import.Func r) c = number_law num_desc (unsigned_push 32 r c) import.Func (λ n. Done (desc.Func n)) (λ s. refl) (λ n. new_done num_desc (desc.Func n))
desc_law p (import.Table t) c = within_law num_table num_desc import.Table desc.Table (λ r. refl) (num_table t) c (table_type_push t c) (table_law t c)
desc_law p (import.Memory l) c = within_law num_limits num_desc import.Memory desc.Memory (λ r. refl) (num_limits l) c (limits_push l c) (limits_law l c)
desc_law p (import.Global g) c = within_law num_global num_desc import.Global desc.Global (λ r. refl) None c (global_type_push p g c) (global_law p g c)

target_law : (t : InExportDesc) (c : ℕ) → ReadLaw num_target (num_target t) c (target_push t c)
target_law target.Kind c = go c
  where
    go : (d : ℕ) → ReadSettled num_target (target_push target.Kind d)
    go zero = new_more num_target _ refl
    go (suc zero) = new_more num_target _ refl
    go (suc (suc zero)) = new_more num_target _ refl
    go (suc (suc (suc zero))) = new_more num_target _ refl
    go (suc (suc (suc (suc d)))) = new_byte num_target
target_law (target.Index k r) c = number_law num_target (unsigned_push 32 r c) (λ s. target.Index k s) (λ n. Done (k, n)) (λ s. refl) (λ n. new_done num_target (k, n))

pub run_law : (p : Profile) (r : InRun) (c : ℕ) → ReadLaw num_run (num_run r) c (run_push p r c)
run_law p (run.Count r) c = number_law num_run (unsigned_push 32 r c) run.Count (λ n. More (run.Type n)) (λ s. refl) (λ n. new_more num_run (run.Type n) tt)
run_law p (run.Type n) c = type_law num_run p c (λ t. Done (n, t)) (λ t. new_done num_run (n, t))

value_law : (p : Profile) (v : InValue) (c : ℕ) → ReadLaw num_value (num_value v) c (value_push p v c)
value_law p (value.Import d) c = within_law num_desc num_value value.Import plain.Import (λ r. refl) (num_desc d) c (desc_push p d c) (desc_law p d c)
value_law p (value.Table t) c = within_law num_table num_value value.Table plain.Table (λ r. refl) (num_table t) c (table_type_push t c) (table_law t c)
value_law p (value.Memory l) c = within_law num_limits num_value value.Memory plain.Memory (λ r. refl) (num_limits l) c (limits_push l c) (limits_law l c)
value_law p (value.Export t) c = within_law num_target num_value value.Export _ (λ r. refl) (num_target t) c (target_push t c) (target_law t c)

module _ {M : Type 0} (fail : Why → M) (num : M → Num) where
  on_number_law : (q : Step ℕ × Partial) (more : Partial → M) (done : ℕ → M × Event) → ((s : Partial) → num (more s) ≡ Some (u32, s)) → ((s : Partial) → more s ≢ fail why.BadNumber) → ((n : ℕ) → Settled fail num (done n).0) → Pushed fail num u32 q (on_number q more done fail).0
  on_number_law (step.More, s) more done a b d = inl (a s, b s)
  on_number_law (step.Done n, s) more done a b d = d n
  on_number_law (step.Bad, s) more done a b d = refl

  module _ {R X : Type 0} (inner : R → Num) (more : R → M) (done : X → M × Event) (same : (r : R) → num (more r) ≡ inner r) (live : (r : R) → more r ≢ fail why.BadNumber) (none : (w : Why) → IsNew (num (fail w))) (apart : (w : Why) → fail w ≡ fail why.BadNumber → w ≡ why.BadNumber)
      (over : (x : X) → Settled fail num (done x).0) where
    abbrev heard : Reading R X → M
    heard q = (on_value q more done fail).0

    heard_keeps : (q : Reading R X) (i : Integer) (s : Partial) → num_reading inner q ≡ Some (i, s) → ((num (heard q) ≡ Some (i, s)) × (heard q ≢ fail why.BadNumber)) ⊎ IsCut fail num (heard q)
    heard_keeps (More r) i s e = inl (same r ∙ e, live r)
    heard_keeps (Done x) i s e = absurd (cc)
    heard_keeps (Bad w) i s e = absurd (cc)

    heard_new : (q : Reading R X) → ReadSettled {R = R} {X = X} inner q → Settled fail num (heard q)
    heard_new (More r) h = (subst IsNew (sym (same r)) h.0, live r)
    heard_new (Done x) h = over x
    heard_new (Bad w) h = (none w, λ e. h.1 (ap Bad (apart w e)))

    on_value_law : (n : Num) (c : ℕ) (q : Reading R X) → ReadLaw inner n c q → Law fail num n c (heard q)
    on_value_law = lift {M = Reading R X} {N = M} Bad (num_reading inner) fail num heard (λ w. refl) heard_keeps heard_new

module _ (p : Profile) where
  -- ops: a table index is a number where it may be long
  table_new : (t : TableOp) → IsNew (num_op p (in_op.Table t 4))
  table_new t = elim (bool_cases (has p (table_feature t))) [
    | inl y ↦ subst (λ (b : Bool). IsNew (if b then Some (u32_zero (table_feature t), at_zeros 4) else None)) (sym y) refl
    | inr k ↦ subst (λ (b : Bool). IsNew (if b then Some (u32_zero (table_feature t), at_zeros 4) else None)) (sym k) tt
  ]

  immediates_new : (kind : Immediates) → IsNew (num_op p (immediates kind))
  immediates_new (k.Block o) = tt
  immediates_new (k.Memory memory.MemorySize) = tt
  immediates_new (k.Memory memory.MemoryGrow) = tt
  immediates_new (k.Memory memory.MemoryCopy) = tt
  immediates_new (k.Memory memory.MemoryFill) = tt
  immediates_new k.TableCopy = table_new table_at.CopyTo
  immediates_new k.F32Const = tt
  immediates_new k.F64Const = tt
  immediates_new _ = refl

  abbrev OpLaw : Num → ℕ → Reading InOp Op → Type 0
  OpLaw = ReadLaw {R = InOp} {X = Op} (num_op p)

  abbrev OpNew : Reading InOp Op → Type 0
  OpNew = ReadSettled {R = InOp} {X = Op} (num_op p)

  class_law : (class : OpClass) → OpNew (class_step class)
  class_law (APlain o) = new_done (num_op p) o
  class_law (With kind) = new_more (num_op p) (immediates kind) (immediates_new kind)
  class_law Float = (tt, λ e. cc)
  class_law NoClass = (tt, λ e. cc)

  no_opcode : OpNew (Bad why.BadOpcode)
  no_opcode = (tt, λ e. cc)

  begin_law : (c : ℕ) → OpNew (begin_step p c)
  begin_law c = cond_both (nat_eq c 0xFC) _ _ OpNew (λ _. cond_both (has_prefix p) _ _ OpNew (λ _. new_more (num_op p) in_op.Code tt) (λ _. no_opcode)) (λ _. class_law (class_under p c))

  padded_law : (n : ℕ) (class : OpClass) → OpNew (padded (class_step class) n)
  padded_law n (APlain o) = new_more (num_op p) (in_op.Padding n 3) tt
  padded_law n (With kind) = new_more (num_op p) (in_op.Padding n 3) tt
  padded_law n Float = (tt, λ e. cc)
  padded_law n NoClass = no_opcode

  code_law : (c : ℕ) → OpNew (code_step p c)
  code_law c = cond_both (nat_lt c 0x80) _ _ OpNew (λ _. class_law (class_under p (0x100 + c))) (λ _. padded_law (c - 0x80) (class_under p (0x100 + (c - 0x80))))

  more_law : (n left c : ℕ) → OpNew (more_padding n left c)
  more_law n zero c = no_opcode
  more_law n (suc left) c = cond_both (nat_eq c 0x80) _ _ OpNew (λ _. new_more (num_op p) (in_op.Padding n left) tt) (λ _. no_opcode)

  padding_law : (n left c : ℕ) → OpNew (padding_step p n left c)
  padding_law n left c = cond_both (nat_eq c 0x00) _ _ OpNew (λ _. class_law (class_under p (0x100 + n))) (λ _. more_law n left c)

  first_zero_law : (c : ℕ) → OpNew (first_zero_step c)
  first_zero_law c = cond_both (nat_eq c 0x00) _ _ OpNew (λ _. new_more (num_op p) (in_op.Memory memory.MemoryCopy) tt) (λ _. new_byte (num_op p))

  block_law : (i : BlockOp) (c : ℕ) → OpNew (block_step p i c)
  block_law i c = cond_both (nat_eq c 0x40) _ _ OpNew (λ _. new_done (num_op p) _) (λ _. type_law (num_op p) p c (λ t. Done (block_op i (Some t))) (λ t. new_done (num_op p) _))

  float_32_law : (left low c : ℕ) → OpNew (float_32_step left low c)
  float_32_law zero low c = new_done (num_op p) _
  float_32_law (suc left) low c = new_more (num_op p) _ tt

  float_64_law : (left low c : ℕ) → OpNew (float_64_step left low c)
  float_64_law zero low c = new_done (num_op p) _
  float_64_law (suc left) low c = new_more (num_op p) _ tt

  closing_law : (o : Op) (c : ℕ) → OpNew (closing_step o c)
  closing_law o c = cond_both (nat_eq c 0x00) _ _ OpNew (λ _. new_done (num_op p) o) (λ _. new_byte (num_op p))

  after_law : (t : TableOp) → OpNew (after_table t)
  after_law (table_at.Call n) = new_done (num_op p) (call_op n)
  after_law (table_at.Init n) = new_done (num_op p) (init_table_op n)
  after_law table_at.CopyTo = new_more (num_op p) (in_op.Table table_at.CopyFrom 4) (table_new table_at.CopyFrom)
  after_law table_at.CopyFrom = new_done (num_op p) copy_table_op

  module _ (t : TableOp) (c : ℕ) where
    abbrev ZeroLaw : Step ℕ × Partial → Reading InOp Op → Type 0
    ZeroLaw = Pushed {M = Reading InOp Op} Bad (num_reading (num_op p)) (u32_zero (table_feature t))

    long_on : IsTrue (has p (table_feature t)) → (left : ℕ) → ZeroLaw (zero_on left c) (long_step t left c)
    long_on y zero = refl
    long_on y (suc left) = go (nat_eq c 0x80)
      where
        go : (b : Bool) → ZeroLaw (if b then (step.More, at_zeros left) else (step.Bad, fresh)) (if b then More (in_op.Table t left) else Bad why.BadNumber)
        go true = inl (ap (λ (b : Bool). if b then Some (u32_zero (table_feature t), at_zeros left) else None) y, λ e. cc)
        go false = refl

    long_law : IsTrue (has p (table_feature t)) → (left : ℕ) → ZeroLaw (zero_push (at_zeros left) c) (if c == 0x00 then after_table t else long_step t left c)
    long_law y left = go (nat_eq c 0x00)
      where
        go : (b : Bool) → ZeroLaw (if b then (step.Done 0, fresh) else zero_on left c) (if b then after_table t else long_step t left c)
        go true = after_law t
        go false = long_on y left

    index_law : (left : ℕ) → OpLaw (num_op p (in_op.Table t left)) c (table_step p t left c)
    index_law left =
        let P : Bool → Type 0 = λ b. OpLaw (if b then Some (u32_zero (table_feature t), at_zeros left) else None) c (if c == 0x00 then after_table t else (if b then long_step t left c else Bad why.BadByte)) in
        elim (bool_cases (has p (table_feature t))) [
          | inl y ↦ subst P (sym y) (long_law y left)
          | inr k ↦ subst P (sym k) (cond_both (nat_eq c 0x00) _ _ OpNew (λ _. after_law t) (λ _. new_byte (num_op p)))
        ]

  op_law : (q : InOp) (c : ℕ) → OpLaw (num_op p q) c (op_push p q c)
  op_law in_op.First c = begin_law c
  op_law in_op.Code c = code_law c
  op_law (in_op.Padding n left) c = padding_law n left c
  op_law (in_op.BlockType i) c = block_law i c
  op_law (in_op.Index i r) c = answer_law (num_op p) u32 (unsigned_push 32 r c) (λ t. in_op.Index i t) (λ n. Done (index_op i n)) (λ s. refl) (λ n. new_done (num_op p) (index_op i n))
  op_law (in_op.CallType r) c = answer_law (num_op p) u32 (unsigned_push 32 r c) (λ t. in_op.CallType t) (λ n. More (in_op.Table (table_at.Call n) 4)) (λ s. refl) (λ n. new_more (num_op p) (in_op.Table (table_at.Call n) 4) (table_new (table_at.Call n)))
  op_law (in_op.Table t left) c = index_law t c left
  op_law (in_op.InitElement r) c = answer_law (num_op p) u32 (unsigned_push 32 r c) (λ t. in_op.InitElement t) (λ n. More (in_op.Table (table_at.Init n) 4)) (λ s. refl) (λ n. new_more (num_op p) (in_op.Table (table_at.Init n) 4) (table_new (table_at.Init n)))
  op_law (in_op.InitSegment r) c = answer_law (num_op p) u32 (unsigned_push 32 r c) (λ t. in_op.InitSegment t) (λ n. More (in_op.InitMemory n)) (λ s. refl) (λ n. new_more (num_op p) (in_op.InitMemory n) tt)
  op_law (in_op.InitMemory n) c = closing_law (init_op n) c
  op_law in_op.FirstZero c = first_zero_law c
  op_law (in_op.Memory m) c = closing_law (memory_op m) c
  op_law (in_op.Const32 r) c = answer_law (num_op p) s32 (signed_push 32 r c) (λ t. in_op.Const32 t) (λ z. Done (const_32_op z)) (λ s. refl) (λ z. new_done (num_op p) (const_32_op z))
  op_law (in_op.Const64 r) c = answer_law (num_op p) s64 (signed_push 64 r c) (λ t. in_op.Const64 t) (λ z. Done (const_64_op z)) (λ s. refl) (λ z. new_done (num_op p) (const_64_op z))
  op_law (in_op.Float32 left low) c = float_32_law left low c
  op_law (in_op.Float64 left low) c = float_64_law left low c
  op_law (in_op.Align a r) c = answer_law (num_op p) u32 (unsigned_push 32 r c) (λ t. in_op.Align a t) (λ n. More (in_op.Offset a n fresh)) (λ s. refl) (λ n. new_more (num_op p) (in_op.Offset a n fresh) refl)
  op_law (in_op.Offset a n r) c = answer_law (num_op p) u32 (unsigned_push 32 r c) (λ t. in_op.Offset a n t) (λ m. Done (at_offset a n m)) (λ s. refl) (λ m. new_done (num_op p) (at_offset a n m))

  -- expressions
  abbrev ExpressionNew : InExpression → Type 0
  ExpressionNew = Settled expression.Failed (num_expression p)

  ends_new : (depth : ℕ) → ExpressionNew (op_ends depth)
  ends_new zero = (tt, λ e. cc)
  ends_new (suc n) = (tt, λ e. cc)

  after_op_new : (depth : ℕ) (o : Op) → ExpressionNew (after_op depth o)
  after_op_new depth op.End = ends_new depth
  after_op_new depth (op.BrTable n) = (refl, λ e. cc)
  after_op_new depth (op.Block t) = (tt, λ e. cc)
  after_op_new depth (op.Loop t) = (tt, λ e. cc)
  after_op_new depth (op.If t) = (tt, λ e. cc)
  after_op_new depth o = (tt, λ e. cc)

  after_label_new : (depth left : ℕ) → ExpressionNew (after_label depth left)
  after_label_new depth zero = (tt, λ e. cc)
  after_label_new depth (suc n) = (refl, λ e. cc)

  reading_keeps : (depth : ℕ) (x : Reading InOp Op) (i : Integer) (s : Partial) → num_reading (num_op p) x ≡ Some (i, s) → ((num_expression p (after_reading depth x).0 ≡ Some (i, s)) × ((after_reading depth x).0 ≢ expression.Failed why.BadNumber)) ⊎ IsCut expression.Failed (num_expression p) (after_reading depth x).0
  reading_keeps depth (More r) i s e = inl (e, λ e. cc)
  reading_keeps depth (Done o) i s e = absurd (cc)
  reading_keeps depth (Bad w) i s e = absurd (cc)

  reading_new : (depth : ℕ) (x : Reading InOp Op) → OpNew x → ExpressionNew (after_reading depth x).0
  reading_new depth (More r) h = (h.0, λ e. cc)
  reading_new depth (Done o) h = after_op_new depth o
  reading_new depth (Bad w) h = (tt, λ e. h.1 (ap Bad (let s : w ≡ why.BadNumber = cc in s)))

  label_law : (depth left : ℕ) (q : Step ℕ × Partial) → Pushed expression.Failed (num_expression p) u32 q (on_answer q (λ s. (expression.Label depth left s, None)) (λ l. (after_label depth left, Some (op.Label l))) (expression_failed why.BadNumber)).0
  label_law depth left (step.More, s) = inl (refl, λ e. cc)
  label_law depth left (step.Done v, s) = after_label_new depth left
  label_law depth left (step.Bad, s) = refl

  expression_law : (e : InExpression) (c : ℕ) → Law expression.Failed (num_expression p) (num_expression p e) c (expression_step p e c).0
  expression_law (expression.Op depth q) c =
      lift {M = Reading InOp Op} {N = InExpression} Bad (num_reading (num_op p)) expression.Failed (num_expression p) (λ x. (after_reading depth x).0) (λ w. refl) (reading_keeps depth) (reading_new depth) (num_op p q) c (op_push p q c) (op_law q c)
  expression_law (expression.Label depth left r) c = label_law depth left (unsigned_push 32 r c)
  expression_law expression.Over c = (tt, λ e. cc)
  expression_law (expression.Failed w) c = (tt, λ e. cc)

  -- code entries
  abbrev EntryNew : InEntry → Type 0
  EntryNew = Settled entry.Failed (num_entry p)

  runs_new : (n : ℕ) → EntryNew (runs_or_body n)
  runs_new zero = (tt, λ e. cc)
  runs_new (suc n) = (refl, λ e. cc)

  body_keeps : (x : InExpression) (i : Integer) (s : Partial) → num_expression p x ≡ Some (i, s) → ((num_entry p (entry_after_op x) ≡ Some (i, s)) × (entry_after_op x ≢ entry.Failed why.BadNumber)) ⊎ IsCut entry.Failed (num_entry p) (entry_after_op x)
  body_keeps (expression.Op depth q) i s e = inl (e, λ e. cc)
  body_keeps (expression.Label depth left r) i s e = inl (e, λ e. cc)
  body_keeps expression.Over i s e = absurd (cc)
  body_keeps (expression.Failed w) i s e = absurd (cc)

  body_new : (x : InExpression) → ExpressionNew x → EntryNew (entry_after_op x)
  body_new (expression.Op depth q) h = (h.0, λ e. cc)
  body_new (expression.Label depth left r) h = (h.0, λ e. cc)
  body_new expression.Over h = (tt, λ e. cc)
  body_new (expression.Failed w) h = (tt, λ e. h.1 (ap expression.Failed (let s : w ≡ why.BadNumber = cc in s)))

  entry_apart : (w : Why) → entry.Failed w ≡ entry.Failed why.BadNumber → w ≡ why.BadNumber
  entry_apart w e = cc

  entry_law : (q : InEntry) (c : ℕ) → Law entry.Failed (num_entry p) (num_entry p q) c (entry_step p q c).0
  entry_law (entry.RunCount r) c = on_number_law entry.Failed (num_entry p) (unsigned_push 32 r c) entry.RunCount (λ n. (runs_or_body n, event.Nothing)) (λ s. refl) (λ s e. cc) runs_new
  entry_law (entry.Run more r) c =
      on_value_law entry.Failed (num_entry p) num_run (λ s. entry.Run more s) (λ x. with_item_given (runs_or_body more) (plain.Locals x.0 x.1)) (λ s. refl) (λ s e. cc) (λ w. tt) entry_apart (λ x. runs_new more) (num_run r) c (run_push p r c) (run_law p r c)
  entry_law (entry.Body e) c = lift expression.Failed (num_expression p) entry.Failed (num_entry p) entry_after_op (λ w. refl) body_keeps body_new (num_expression p e) c (expression_step p e c).0 (expression_law e c)
  entry_law entry.Over c = (tt, λ e. cc)
  entry_law (entry.Failed w) c = (tt, λ e. cc)

  -- members
  abbrev MemberNew : InMember → Type 0
  MemberNew = Settled at.Failed (num_member p)

  param_new : (n : ℕ) → MemberNew (after_param n)
  param_new zero = (refl, λ e. cc)
  param_new (suc n) = (tt, λ e. cc)

  result_new : (n : ℕ) → MemberNew (after_result n)
  result_new zero = (tt, λ e. cc)
  result_new (suc n) = (tt, λ e. cc)

  name_new : (of : NameKind) → MemberNew (after_name of)
  name_new name.ImportModule = (refl, λ e. cc)
  name_new name.ImportName = (tt, λ e. cc)
  name_new name.Export = (tt, λ e. cc)
  name_new name.Custom = (tt, λ e. cc)

  length_new : (of : NameKind) (n : ℕ) → MemberNew (after_length of n).0
  length_new of zero = name_new of
  length_new of (suc n) = (tt, λ e. cc)

  name_step_new : (of : NameKind) (n : ℕ) → MemberNew (name_step of n).0
  name_step_new of zero = name_new of
  name_step_new of (suc n) = (tt, λ e. cc)

  functions_new : (n : ℕ) → MemberNew (functions_or_over n)
  functions_new zero = (tt, λ e. cc)
  functions_new (suc n) = (refl, λ e. cc)

  data_new : (n : ℕ) → MemberNew (data_or_over n)
  data_new zero = (tt, λ e. cc)
  data_new (suc n) = (tt, λ e. cc)

  list_new : (of : LengthOf) (n : ℕ) → MemberNew (list_or_over of n)
  list_new length_of.Functions n = functions_new n
  list_new length_of.Bytes n = data_new n

  index_new : (of : IndexOf) → MemberNew (after_index of)
  index_new index.Function = (tt, λ e. cc)
  index_new index.Start = (tt, λ e. cc)
  index_new index.Element = (tt, λ e. cc)
  index_new (index.ElementFunction more) = functions_new more
  index_new index.Segment = (tt, λ e. cc)

  over_new : (of : ConstantOf) → MemberNew (constant_over of)
  over_new constant.Global = (tt, λ e. cc)
  over_new constant.Element = (refl, λ e. cc)
  over_new constant.IndexedElement = (tt, λ e. cc)
  over_new constant.Segment = (refl, λ e. cc)

  constant_keeps : (of : ConstantOf) (x : InExpression) (i : Integer) (s : Partial) → num_expression p x ≡ Some (i, s) → ((num_member p (after_constant of x) ≡ Some (i, s)) × (after_constant of x ≢ at.Failed why.BadNumber)) ⊎ IsCut at.Failed (num_member p) (after_constant of x)
  constant_keeps of (expression.Op depth q) i s e = inl (e, λ e. cc)
  constant_keeps of (expression.Label depth left r) i s e = inl (e, λ e. cc)
  constant_keeps of expression.Over i s e = absurd (cc)
  constant_keeps of (expression.Failed w) i s e = absurd (cc)

  constant_new : (of : ConstantOf) (x : InExpression) → ExpressionNew x → MemberNew (after_constant of x)
  constant_new of (expression.Op depth q) h = (h.0, λ e. cc)
  constant_new of (expression.Label depth left r) h = (h.0, λ e. cc)
  constant_new of expression.Over h = over_new of
  constant_new of (expression.Failed w) h = (tt, λ e. h.1 (ap expression.Failed (let s : w ≡ why.BadNumber = cc in s)))

  -- the number at the front of a segment
  active_new : (of : SegmentKind) (n : ℕ) → MemberNew (active_begun of n).0
  active_new segments.Element n = (tt, λ e. cc)
  active_new segments.Data n = (tt, λ e. cc)

  passive_new : (of : SegmentKind) → MemberNew (passive_begun of).0
  passive_new segments.Element = (tt, λ e. cc)
  passive_new segments.Data = (refl, λ e. cc)

  module _ (of : SegmentKind) where
    front_begun : (flagged : Bool) (n : ℕ) → n ≤ 2 ⊎ (flagged ≡ false) → MemberNew (segment_begun flagged of n).0
    front_begun false n l = active_new of n
    front_begun true zero l = active_new of 0
    front_begun true (suc zero) l = passive_new of
    front_begun true (suc (suc zero)) l = (refl, λ e. cc)
    front_begun true (suc (suc (suc n))) (inl l) = absurd (omega (arith, l))
    front_begun true (suc (suc (suc n))) (inr e) = cc

    begun_bad : (n : ℕ) → 2 < n → (segment_begun true of n).0 ≡ at.Failed why.BadNumber
    begun_bad zero l = absurd (omega (arith, l))
    begun_bad (suc zero) l = absurd (omega (arith, l))
    begun_bad (suc (suc zero)) l = absurd (omega (arith, l))
    begun_bad (suc (suc (suc n))) l = refl

    front_is : (flagged : Bool) → has p BulkMemory ≡ flagged → (s : Partial) → num_member p (at.SegmentStart of s) ≡ Some (front_number flagged, s)
    front_is flagged e s = ap (λ f. Some (front_number f, s)) e

    abbrev FrontLaw : Bool → Step ℕ × Partial → Type 0
    FrontLaw flagged q = Pushed at.Failed (num_member p) u32_flag (flag_only q) (on_number q (segment_unfinished flagged of) (segment_begun flagged of) at.Failed).0

    flag_law : has p BulkMemory ≡ true → (q : Step ℕ × Partial) → FrontLaw true q
    flag_law e (step.More, s) = more_flag (nat_le s.low 2)
      where
        more_flag : (small : Bool) → Pushed at.Failed (num_member p) u32_flag (only_if small (step.More, s)) (if small then at.SegmentStart of s else at.Failed why.BadNumber)
        more_flag true = inl (front_is true e s, λ i. cc)
        more_flag false = refl
    flag_law e (step.Done n, s) =
        cond_both (nat_le n 2) _ _ (λ (q : Step ℕ × Partial). Pushed at.Failed (num_member p) u32_flag q (segment_begun true of n).0) (λ l. front_begun true n (inl (leb-true n 2 l))) (λ l. begun_bad n (leb-false n 2 l))
    flag_law e (step.Bad, s) = refl

    front_law : (flagged : Bool) → has p BulkMemory ≡ flagged → (r : Partial) (c : ℕ)
        → Law at.Failed (num_member p) (Some (front_number flagged, r)) c (on_number (unsigned_push 32 r c) (segment_unfinished flagged of) (segment_begun flagged of) at.Failed).0
    front_law false e r c = on_number_law at.Failed (num_member p) (unsigned_push 32 r c) (segment_unfinished false of) (segment_begun false of) (front_is false e) (λ s i. cc) (λ n. front_begun false n (inr refl))
    front_law true e r c = flag_law e (unsigned_push 32 r c)

  framed_keeps : (n : ℕ) (x : InEntry) (i : Integer) (s : Partial) → num_entry p x ≡ Some (i, s) → ((num_member p (member_in_entry n x) ≡ Some (i, s)) × (member_in_entry n x ≢ at.Failed why.BadNumber)) ⊎ IsCut at.Failed (num_member p) (member_in_entry n x)
  framed_keeps n (entry.Failed w) i s e = absurd (cc)
  framed_keeps n entry.Over i s e = absurd (cc)
  framed_keeps zero (entry.RunCount r) i s e = inr (why.BodyEnd, refl, λ e. cc)
  framed_keeps zero (entry.Run l r) i s e = inr (why.BodyEnd, refl, λ e. cc)
  framed_keeps zero (entry.Body x) i s e = inr (why.BodyEnd, refl, λ e. cc)
  framed_keeps (suc n) (entry.RunCount r) i s e = inl (e, λ e. cc)
  framed_keeps (suc n) (entry.Run l r) i s e = inl (e, λ e. cc)
  framed_keeps (suc n) (entry.Body x) i s e = inl (e, λ e. cc)

  framed_new : (n : ℕ) (x : InEntry) → EntryNew x → MemberNew (member_in_entry n x)
  framed_new n (entry.Failed w) h = (tt, λ e. h.1 (ap entry.Failed (let s : w ≡ why.BadNumber = cc in s)))
  framed_new zero entry.Over h = (tt, λ e. cc)
  framed_new (suc n) entry.Over h = (tt, λ e. cc)
  framed_new zero (entry.RunCount r) h = (tt, λ e. cc)
  framed_new zero (entry.Run l r) h = (tt, λ e. cc)
  framed_new zero (entry.Body x) h = (tt, λ e. cc)
  framed_new (suc n) (entry.RunCount r) h = (h.0, λ e. cc)
  framed_new (suc n) (entry.Run l r) h = (h.0, λ e. cc)
  framed_new (suc n) (entry.Body x) h = (h.0, λ e. cc)

  at_apart : (w : Why) → at.Failed w ≡ at.Failed why.BadNumber → w ≡ why.BadNumber
  at_apart w e = cc

  type_new : (c : ℕ) (done : ValType → InMember × Event) → ((t : ValType) → MemberNew (done t).0) → MemberNew (on_type (value_type_of p c) done at.Failed).0
  type_new c done h =
      let P : Result ValType Why → Type 0 = λ q. MemberNew (on_type q done at.Failed).0 in
      cond_both (nat_eq c 0x7F) _ _ P (λ _. under I32) (λ _. cond_both (nat_eq c 0x7E) _ _ P (λ _. under I64)
      (λ _. cond_both (nat_eq c 0x7D) _ _ P (λ _. under F32) (λ _. cond_both (nat_eq c 0x7C) _ _ P (λ _. under F64) (λ _. (tt, λ e. cc)))))
    where
      under : (t : ValType) → MemberNew (on_type (type_under p t) done at.Failed).0
      under t = cond_both (has p (type_feature t)) _ _ (λ (q : Result ValType Why). MemberNew (on_type q done at.Failed).0) (λ _. h t) (λ _. (tt, λ e. cc))

  member_law : (q : InMember) (c : ℕ) → Law at.Failed (num_member p) (num_member p q) c (member_step p q c).0
  member_law at.TypeForm c = cond_both (nat_eq c 0x60) _ _ (λ (x : InMember × Event). MemberNew x.0) (λ _. (refl, λ e. cc)) (λ _. (tt, λ e. cc))
  member_law (at.ParamCount r) c = on_number_law at.Failed (num_member p) (unsigned_push 32 r c) at.ParamCount (λ n. (after_param n, event.Nothing)) (λ s. refl) (λ s e. cc) param_new
  member_law (at.Param more) c = type_new c (λ t. with_item_given (after_param more) (plain.Param t)) (λ t. param_new more)
  member_law (at.ResultCount r) c = on_number_law at.Failed (num_member p) (unsigned_push 32 r c) at.ResultCount (λ n. with_item_given (after_result n) (plain.ResultCount n)) (λ s. refl) (λ s e. cc) result_new
  member_law (at.ResultType more) c = type_new c (λ t. with_item_given (after_result more) (plain.OneResult t)) (λ t. result_new more)
  member_law (at.NameLength of r) c = on_number_law at.Failed (num_member p) (unsigned_push 32 r c) (λ s. at.NameLength of s) (after_length of) (λ s. refl) (λ s e. cc) (length_new of)
  member_law (at.Name of more) c = name_step_new of more
  member_law (at.Value v) c = on_value_law at.Failed (num_member p) num_value at.Value (λ q. with_item_given at.Over q) (λ s. refl) (λ s e. cc) (λ w. tt) at_apart (λ x. (tt, λ e. cc)) (num_value v) c (value_push p v c) (value_law p v c)
  member_law (at.Index of r) c = on_number_law at.Failed (num_member p) (unsigned_push 32 r c) (λ s. at.Index of s) (λ n. with_item_given (after_index of) (index_item of n)) (λ s. refl) (λ s e. cc) (λ n. index_new of)
  member_law (at.SegmentStart of r) c = front_law of (has p BulkMemory) refl r c
  member_law at.ElementKind c = cond_both (nat_eq c 0x00) _ _ (λ (x : InMember × Event). MemberNew x.0) (λ _. (refl, λ e. cc)) (λ _. (tt, λ e. cc))
  member_law (at.GlobalType g) c = on_value_law at.Failed (num_member p) num_global at.GlobalType (λ t. with_item_given (at.Constant constant.Global start) (plain.Global t)) (λ s. refl) (λ s e. cc) (λ w. tt) at_apart (λ x. (tt, λ e. cc)) None c (global_type_push p g c) (global_law p g c)
  member_law (at.Constant of e) c = lift expression.Failed (num_expression p) at.Failed (num_member p) (after_constant of) (λ w. refl) (constant_keeps of) (constant_new of) (num_expression p e) c (expression_step p e c).0 (expression_law e c)
  member_law (at.Length of r) c = on_number_law at.Failed (num_member p) (unsigned_push 32 r c) (λ s. at.Length of s) (λ n. (list_or_over of n, event.Nothing)) (λ s. refl) (λ s e. cc) (list_new of)
  member_law (at.Data more) c = data_new more
  member_law (at.EntrySize r) c = on_number_law at.Failed (num_member p) (unsigned_push 32 r c) at.EntrySize (λ n. with_item_given (member_in_entry n (entry.RunCount fresh)) plain.Body) (λ s. refl) (λ s e. cc) (λ n. framed_new n (entry.RunCount fresh) (refl, λ e. cc))
  member_law (at.Entry more q) c = lift entry.Failed (num_entry p) at.Failed (num_member p) (member_in_entry more) (λ w. refl) (framed_keeps more) (framed_new more) (num_entry p q) c (entry_step p q c).0 (entry_law q c)
  member_law at.Over c = (tt, λ e. cc)
  member_law (at.Failed w) c = (tt, λ e. cc)

  -- the machine
  length_settled : (n : ℕ) → Settled custom.Failed num_custom (custom_after_length n).0
  length_settled zero = (tt, λ e. cc)
  length_settled (suc n) = (tt, λ e. cc)

  custom_law : (q : InCustom) (c : ℕ) → Law custom.Failed num_custom (num_custom q) c (custom_step q c).0
  custom_law (custom.Length r) c = on_number_law custom.Failed num_custom (unsigned_push 32 r c) custom.Length custom_after_length (λ s. refl) (λ s e. cc) length_settled
  custom_law (custom.Name zero) c = (tt, λ e. cc)
  custom_law (custom.Name (suc n)) c = (tt, λ e. cc)
  custom_law custom.Skip c = (tt, λ e. cc)
  custom_law (custom.Failed w) c = (tt, λ e. cc)

  abbrev MachineNew : Machine → Type 0
  MachineNew = Settled machine.Refused (num_machine p)

  abbrev Kept : Machine → Integer → Partial → Type 0
  Kept m i s = ((num_machine p m ≡ Some (i, s)) × (m ≢ machine.Refused why.BadNumber)) ⊎ IsCut machine.Refused (num_machine p) m

  front_new : (flagged : Bool) → fresh ≡ at_first (front_number flagged)
  front_new true = refl
  front_new false = refl

  begin_new : (of : SectionKind) → IsNew (num_member p (member_at_start of))
  begin_new section_kind.Type = tt
  begin_new section_kind.Import = refl
  begin_new section_kind.Function = refl
  begin_new section_kind.Table = tt
  begin_new section_kind.Memory = tt
  begin_new section_kind.Global = tt
  begin_new section_kind.Export = refl
  begin_new section_kind.Start = refl
  begin_new section_kind.Element = front_new (has p BulkMemory)
  begin_new section_kind.DataCount = refl
  begin_new section_kind.Code = refl
  begin_new section_kind.Segment = front_new (has p BulkMemory)

  section_keeps : (of : SectionKind) (counts : Counts) (bytes left : ℕ) (x : InMember) (i : Integer) (s : Partial) → num_member p x ≡ Some (i, s) → Kept (machine_in_member of counts bytes left x) i s
  section_keeps of counts bytes left (at.Failed w) i s e = absurd (cc)
  section_keeps of counts zero zero at.Over i s e = absurd (cc)
  section_keeps of counts (suc n) zero at.Over i s e = absurd (cc)
  section_keeps of counts zero (suc l) at.Over i s e = absurd (cc)
  section_keeps of counts (suc n) (suc l) at.Over i s e = absurd (cc)
  section_keeps of counts zero left x i s e = inr (why.SectionEnd, refl, λ e. cc)
  section_keeps of counts (suc n) left x i s e = inl (e, λ e. cc)

  section_new : (of : SectionKind) (counts : Counts) (bytes left : ℕ) (x : InMember) → MemberNew x → MachineNew (machine_in_member of counts bytes left x)
  section_new of counts bytes left (at.Failed w) h = (tt, λ e. h.1 (ap at.Failed (let s : w ≡ why.BadNumber = cc in s)))
  section_new of counts zero zero at.Over h = (tt, λ e. cc)
  section_new of counts (suc n) zero at.Over h = (tt, λ e. cc)
  section_new of counts zero (suc l) at.Over h = (tt, λ e. cc)
  section_new of counts (suc n) (suc l) at.Over h = (begin_new of, λ e. cc)
  section_new of counts zero left x h = (tt, λ e. cc)
  section_new of counts (suc n) left x h = (h.0, λ e. cc)

  custom_keeps : (last : ℕ) (counts : Counts) (n : ℕ) (x : InCustom) (i : Integer) (s : Partial) → num_custom x ≡ Some (i, s) → Kept (machine_in_custom last counts n x) i s
  custom_keeps last counts n (custom.Failed w) i s e = absurd (cc)
  custom_keeps last counts zero custom.Skip i s e = absurd (cc)
  custom_keeps last counts zero (custom.Length r) i s e = inr (why.SectionEnd, refl, λ e. cc)
  custom_keeps last counts zero (custom.Name m) i s e = absurd (cc)
  custom_keeps last counts (suc n) custom.Skip i s e = absurd (cc)
  custom_keeps last counts (suc n) (custom.Length r) i s e = inl (e, λ e. cc)
  custom_keeps last counts (suc n) (custom.Name m) i s e = absurd (cc)

  custom_new : (last : ℕ) (counts : Counts) (n : ℕ) (x : InCustom) → Settled custom.Failed num_custom x → MachineNew (machine_in_custom last counts n x)
  custom_new last counts n (custom.Failed w) h = (tt, λ e. h.1 (ap custom.Failed (let s : w ≡ why.BadNumber = cc in s)))
  custom_new last counts zero custom.Skip h = (tt, λ e. cc)
  custom_new last counts zero (custom.Length r) h = (tt, λ e. cc)
  custom_new last counts zero (custom.Name m) h = (tt, λ e. cc)
  custom_new last counts (suc n) custom.Skip h = (tt, λ e. cc)
  custom_new last counts (suc n) (custom.Length r) h = (h.0, λ e. cc)
  custom_new last counts (suc n) (custom.Name m) h = (tt, λ e. cc)

  start_member : (of : SectionKind) → MemberNew (member_at_start of)
  start_member section_kind.Type = (tt, λ e. cc)
  start_member section_kind.Import = (refl, λ e. cc)
  start_member section_kind.Function = (refl, λ e. cc)
  start_member section_kind.Table = (tt, λ e. cc)
  start_member section_kind.Memory = (tt, λ e. cc)
  start_member section_kind.Global = (tt, λ e. cc)
  start_member section_kind.Export = (refl, λ e. cc)
  start_member section_kind.Start = (refl, λ e. cc)
  start_member section_kind.Element = (front_new (has p BulkMemory), λ e. cc)
  start_member section_kind.DataCount = (refl, λ e. cc)
  start_member section_kind.Code = (refl, λ e. cc)
  start_member section_kind.Segment = (front_new (has p BulkMemory), λ e. cc)

  listed_new : (of : SectionKind) (counts : Counts) (bytes n : ℕ) → MachineNew (machine_after_count of counts bytes n)
  listed_new of counts bytes zero = section_new of counts bytes zero at.Over (tt, λ e. cc)
  listed_new of counts bytes (suc n) = section_new of counts bytes n (member_at_start of) (start_member of)

  paired_new : (of : SectionKind) (counts : Counts) (bytes n : ℕ) → MachineNew (machine_after_paired_count of counts bytes n)
  paired_new section_kind.Function counts bytes n = listed_new section_kind.Function (counts_in section_kind.Function counts n) bytes n
  paired_new section_kind.Code counts bytes n = cond_both (nat_eq n counts.functions) _ _ MachineNew (λ _. listed_new section_kind.Code (counts_in section_kind.Code counts n) bytes n) (λ _. (tt, λ e. cc))
  paired_new section_kind.DataCount counts bytes n = listed_new section_kind.DataCount (counts_in section_kind.DataCount counts n) bytes zero
  paired_new section_kind.Segment counts bytes n = cond_both (is_given counts.segments n) _ _ MachineNew (λ _. listed_new section_kind.Segment (counts_in section_kind.Segment counts n) bytes n) (λ _. (tt, λ e. cc))
  paired_new of counts bytes n = listed_new of (counts_in of counts n) bytes n

  count_law : (of : SectionKind) (counts : Counts) (more : ℕ) (q : Step ℕ × Partial) → Pushed machine.Refused (num_machine p) u32 q (after_count of counts more q).0
  count_law of counts zero (step.More, s) = inr (why.SectionEnd, refl, λ e. cc)
  count_law of counts (suc n) (step.More, s) = inl (refl, λ e. cc)
  count_law of counts more (step.Done n, s) = paired_new of counts more n
  count_law of counts more (step.Bad, s) = refl

  contents_new : (of : SectionKind) (counts : Counts) (more : ℕ) → MachineNew (machine_in_contents of counts more)
  contents_new section_kind.Start counts more = (refl, λ e. cc)
  contents_new of counts more = (refl, λ e. cc)

  size_new : (of : SectionKind) (counts : Counts) (n : ℕ) → MachineNew (after_size of counts n)
  size_new of counts zero = (tt, λ e. cc)
  size_new of counts (suc n) = contents_new of counts n

  begun_new : (of : SectionKind) (counts : Counts) → MachineNew (begun_section of counts).0
  begun_new section_kind.Segment counts = at_last counts.functions
    where
      at_last : (n : ℕ) → MachineNew (begun_last n counts).0
      at_last zero = (refl, λ e. cc)
      at_last (suc n) = (tt, λ e. cc)
  begun_new of counts = (refl, λ e. cc)

  rising_new : (last : ℕ) (counts : Counts) (q : Option SectionKind) → MachineNew (machine_if_rising last counts q).0
  rising_new last counts None = (tt, λ e. cc)
  rising_new last counts (Some of) = cond_both (nat_le (rank_of of) last) _ _ (λ (q : Machine × Event). MachineNew q.0) (λ _. (tt, λ e. cc)) (λ _. begun_new of counts)

  start_new : (last : ℕ) (counts : Counts) (c : ℕ) → MachineNew (section_start p last counts c).0
  start_new last counts zero = (refl, λ e. cc)
  start_new last counts (suc m) = rising_new last counts (section_kind_of p (suc m))

  header_new : (n c : ℕ) → MachineNew (header_step n c).0
  header_new n c =
      let P : Machine × Event → Type 0 = λ q. MachineNew q.0 in
      cond_both (nat_lt n 8) _ _ P
      (λ _. cond_both (nat_eq c (slice_index header n)) _ _ P
      (λ _. cond_both (nat_lt n 7) _ _ P (λ _. (tt, λ e. cc)) (λ _. (tt, λ e. cc)))
      (λ _. cond_both (nat_lt n 4) _ _ P (λ _. (tt, λ e. cc)) (λ _. (tt, λ e. cc))))
      (λ _. (tt, λ e. cc))

  machine_law : (m : Machine) (c : ℕ) → (IsRefused m → ⊥) → Law machine.Refused (num_machine p) (num_machine p m) c (step_of p m c).0
  machine_law (machine.Header n) c live = header_new n c
  machine_law (machine.Between last counts) c live = start_new last counts c
  machine_law (machine.CustomSize last counts r) c live = on_number_law machine.Refused (num_machine p) (unsigned_push 32 r c) (λ s. machine.CustomSize last counts s) (λ n. (custom_size last counts n, event.Nothing)) (λ s. refl) (λ s e. cc) (λ n. custom_new last counts n (custom.Length fresh) (refl, λ e. cc))
  machine_law (machine.Custom last counts more q) c live = lift custom.Failed num_custom machine.Refused (num_machine p) (machine_in_custom last counts more) (λ w. refl) (custom_keeps last counts more) (custom_new last counts more) (num_custom q) c (custom_step q c).0 (custom_law q c)
  machine_law (machine.Size of counts r) c live = on_number_law machine.Refused (num_machine p) (unsigned_push 32 r c) (λ s. machine.Size of counts s) (λ n. (after_size of counts n, event.Nothing)) (λ s. refl) (λ s e. cc) (size_new of counts)
  machine_law (machine.Count of counts more r) c live = count_law of counts more (unsigned_push 32 r c)
  machine_law (machine.Section of counts more left q) c live = lift at.Failed (num_member p) machine.Refused (num_machine p) (machine_in_member of counts more left) (λ w. refl) (section_keeps of counts more left) (section_new of counts more left) (num_member p q) c (member_step p q c).0 (member_law q c)
  machine_law (machine.Refused w) c live = absurd (live tt)

  -- the number that has begun and can go on
  abbrev After : Integer → Partial → List ℕ → Type 0
  After u32 r y = UnsignedAfter 32 r y × HasRoom 32 r
  After (u32_zero f) r y = (d : ℕ) (b : List ℕ) → Zeros r.low (d ∷ b) ↔ Unsigned 32 0 (y ++ d ∷ b)
  After u32_flag r y = (UnsignedAfter 32 r y × HasRoom 32 r) × (r.low ≤ 2)
  After s32 r y = SignedAfter 32 r y × HasRoom 32 r
  After s64 r y = SignedAfter 64 r y × HasRoom 64 r

  fresh_after : (i : Integer) → After i (at_first i) []
  fresh_after u32 = (unsigned_fresh 32 (omega arith), fresh_room 32 (omega arith))
  fresh_after (u32_zero f) = λ d b. (zeros_spell 4 32 (omega arith) (d ∷ b), spelled_zeros 4 32 (omega arith) (d ∷ b))
  fresh_after u32_flag = ((unsigned_fresh 32 (omega arith), fresh_room 32 (omega arith)), omega arith)
  fresh_after s32 = (signed_fresh 32 (omega arith), fresh_room 32 (omega arith))
  fresh_after s64 = (signed_fresh 64 (omega arith), fresh_room 64 (omega arith))

  abbrev Tracked : Num → List ℕ → Type 0
  Tracked None b = Unit {0}
  Tracked (Some q) b = (before begun : List ℕ) × (b ≡ before ++ begun) × After q.0 q.1 begun

  new_tracked : (n : Num) (b : List ℕ) → IsNew n → Tracked n b
  new_tracked None b h = tt
  new_tracked (Some q) b h = (b, [], sym (append-nil b), subst (λ r. After q.0 r []) (sym h) (fresh_after q.0))

  abbrev PushAfter : {T : Type 0} → Integer → Step T × Partial → List ℕ → Type 0
  PushAfter i (step.More, s) y = After i s y
  PushAfter i (step.Done v, s) y = Unit {0}
  PushAfter i (step.Bad, s) y = Unit {0}

  unsigned_pushed : (r : Partial) (y : List ℕ) (c : ℕ) → c < 2 ^ 8 → After u32 r y → PushAfter u32 (unsigned_push 32 r c) (y ++ c ∷ [])
  unsigned_pushed r y c byte u = go (unsigned_push 32 r c) (numbers r y c byte u.0) (unsigned_room 32 r c u.1 byte)
    where
      go : (q : Step ℕ × Partial) → Numbers (y ++ c ∷ []) q → RoomAfter 32 q → PushAfter u32 q (y ++ c ∷ [])
      go (step.More, s) h room = (h, room)
      go (step.Done v, s) h room = tt
      go (step.Bad, s) h room = tt

  flag_pushed : (q : Step ℕ × Partial) (y : List ℕ) → PushAfter u32 q y → PushAfter u32_flag (flag_only q) y
  flag_pushed (step.More, s) y h = cond_both (nat_le s.low 2) _ _ (λ (q : Step ℕ × Partial). PushAfter u32_flag q y) (λ l. (h, leb-true s.low 2 l)) (λ _. tt)
  flag_pushed (step.Done n, s) y h = cond_both (nat_le n 2) _ _ (λ (q : Step ℕ × Partial). PushAfter u32_flag q y) (λ _. tt) (λ _. tt)
  flag_pushed (step.Bad, s) y h = tt

  not_ended : (c : ℕ) → c ≡ 0x80 → c ≡ 0 → ⊥
  not_ended c e z = omega (arith, e, z)

  zero_pushed : (f : Feature) (r : Partial) (y : List ℕ) (c : ℕ) → After (u32_zero f) r y → PushAfter (u32_zero f) (zero_push r c) (y ++ c ∷ [])
  zero_pushed f r y c a = cond_both (nat_eq c 0x00) _ _ (λ (q : Step ℕ × Partial). PushAfter (u32_zero f) q (y ++ c ∷ [])) (λ _. tt) (λ _. go r.low a)
    where
      go : (left : ℕ) → ((d : ℕ) (b : List ℕ) → Zeros left (d ∷ b) ↔ Unsigned 32 0 (y ++ d ∷ b)) → PushAfter (u32_zero f) (zero_on left c) (y ++ c ∷ [])
      go zero u = tt
      go (suc left) u = cond_both (nat_eq c 0x80) _ _ (λ (q : Step ℕ × Partial). PushAfter (u32_zero f) q (y ++ c ∷ []))
          (λ z d b.
          let is : c ≡ 0x80 = eqb-true c 0x80 z in
          let one = u c (d ∷ b) in
          let e : (y ++ c ∷ []) ++ d ∷ b ≡ y ++ c ∷ d ∷ b = append_assoc y (c ∷ []) (d ∷ b) in
          (λ h. subst (Unsigned 32 0) (sym e) (one.0 (zeros_on left c (d ∷ b) is h)), λ h. (zeros_off left c (d ∷ b) (not_ended c is) (one.1 (subst (Unsigned 32 0) e h))).1))
          (λ _. tt)

  module _ (bits : ℕ) (r : Partial) (y : List ℕ) (c : ℕ) (byte : c < 2 ^ 8) (u : SignedAfter bits r y) where
    abbrev SignedThen : Step ℤ × Partial → Type 0
    SignedThen (step.More, s) = SignedAfter bits s (y ++ c ∷ [])
    SignedThen (step.Done v, s) = Unit {0}
    SignedThen (step.Bad, s) = Unit {0}

    signed_pushed : SignedThen (signed_push bits r c)
    signed_pushed = go (signed_push bits r c) (λ z more. signed_law bits r z c more byte)
      where
        go : (q : Step ℤ × Partial) → ((z : ℤ) (more : List ℕ) → SignedRest bits r z (c ∷ more) ↔ NumberGoes (SignedRest bits) q z more) → SignedThen q
        go (step.More, s) next = record {
          same = λ z d more.
              let to = u.same z c (d ∷ more) in
              let on = next z (d ∷ more) in
              let e : (y ++ c ∷ []) ++ d ∷ more ≡ y ++ c ∷ d ∷ more = append_assoc y (c ∷ []) (d ∷ more) in
              (λ v. on.0 (to.0 (subst (λ w. Signed bits z w) e v)), λ v. subst (λ w. Signed bits z w) (sym e) (to.1 (on.1 v)));
        }
        go (step.Done v, s) next = tt
        go (step.Bad, s) next = tt

  of_32 : (q : Step ℤ × Partial) (r : Partial) (y : List ℕ) (c : ℕ) (byte : c < 2 ^ 8) (u : SignedAfter 32 r y) → SignedThen 32 r y c byte u q → RoomAfter 32 q → PushAfter s32 q (y ++ c ∷ [])
  of_32 (step.More, s) r y c byte u h room = (h, room)
  of_32 (step.Done v, s) r y c byte u h room = tt
  of_32 (step.Bad, s) r y c byte u h room = tt

  of_64 : (q : Step ℤ × Partial) (r : Partial) (y : List ℕ) (c : ℕ) (byte : c < 2 ^ 8) (u : SignedAfter 64 r y) → SignedThen 64 r y c byte u q → RoomAfter 64 q → PushAfter s64 q (y ++ c ∷ [])
  of_64 (step.More, s) r y c byte u h room = (h, room)
  of_64 (step.Done v, s) r y c byte u h room = tt
  of_64 (step.Bad, s) r y c byte u h room = tt

  pushed_tracked : {T : Type 0} (i : Integer) (q : Step T × Partial) (before y b : List ℕ) (c : ℕ) → PushAfter i q (y ++ c ∷ []) → b ≡ before ++ y → (x : Machine) → Pushed machine.Refused (num_machine p) i q x → Tracked (num_machine p x) (b ++ c ∷ [])
  pushed_tracked i (step.More, s) before y b c a e x (inl h) = subst (λ n. Tracked n (b ++ c ∷ [])) (sym h.0) (before, y ++ c ∷ [], ap (λ z. z ++ c ∷ []) e ∙ append_assoc before y (c ∷ []), a)
  pushed_tracked i (step.More, s) before y b c a e x (inr h) = subst (λ m. Tracked (num_machine p m) (b ++ c ∷ [])) (sym h.1) tt
  pushed_tracked i (step.Done v, s) before y b c a e x h = new_tracked (num_machine p x) (b ++ c ∷ []) h.0
  pushed_tracked i (step.Bad, s) before y b c a e x h = subst (λ m. Tracked (num_machine p m) (b ++ c ∷ [])) (sym h) tt

  law_tracked : (n : Num) (c : ℕ) → c < 2 ^ 8 → (x : Machine) (b : List ℕ) → Law machine.Refused (num_machine p) n c x → Tracked n b → Tracked (num_machine p x) (b ++ c ∷ [])
  law_tracked None c byte x b h t = new_tracked (num_machine p x) (b ++ c ∷ []) h.0
  law_tracked (Some (u32, r)) c byte x b h t = pushed_tracked u32 (unsigned_push 32 r c) t.0 t.1 b c (unsigned_pushed r t.1 c byte t.3) t.2 x h
  law_tracked (Some (u32_zero f, r)) c byte x b h t = pushed_tracked (u32_zero f) (zero_push r c) t.0 t.1 b c (zero_pushed f r t.1 c t.3) t.2 x h
  law_tracked (Some (u32_flag, r)) c byte x b h t =
      let q = unsigned_push 32 r c in
      pushed_tracked u32_flag (flag_only q) t.0 t.1 b c (flag_pushed q (t.1 ++ c ∷ []) (unsigned_pushed r t.1 c byte t.3.0)) t.2 x h
  law_tracked (Some (s32, r)) c byte x b h t = pushed_tracked s32 (signed_push 32 r c) t.0 t.1 b c (of_32 (signed_push 32 r c) r t.1 c byte t.3.0 (signed_pushed 32 r t.1 c byte t.3.0) (signed_room 32 r c t.3.1 byte)) t.2 x h
  law_tracked (Some (s64, r)) c byte x b h t = pushed_tracked s64 (signed_push 64 r c) t.0 t.1 b c (of_64 (signed_push 64 r c) r t.1 c byte t.3.0 (signed_pushed 64 r t.1 c byte t.3.0) (signed_room 64 r c t.3.1 byte)) t.2 x h

  heard_tracked : (zone : Zone) (y : List ℕ) (c : ℕ) (m : Machine) (e : Event) (b : List ℕ) → Tracked (num_machine p m) b → Tracked (num_machine p (byte_read machine.Refused zone y c (m, e)).at) b
  heard_tracked zone y c m event.Nothing b h = h
  heard_tracked zone y c m (event.Complete x) b h = h
  heard_tracked zone y c m event.DataByte b h = h
  heard_tracked zone y c m event.InName b h = h
  heard_tracked zone y c m (event.EndsName kind) b h = cond_both (is_utf8 (y ++ c ∷ [])) _ _ (λ (z : ByteRead Machine). Tracked (num_machine p z.at) b) (λ _. h) (λ _. tt)
  heard_tracked zone y c m (event.EmptyName kind) b h = h

  -- what was refused stays so
  once_refused : (m : Machine) (c : ℕ) (b : List ℕ) → c < 2 ^ 8 → Tracked (num_machine p m) b → Tracked (num_machine p (step_of p m c).0) (b ++ c ∷ [])
  once_refused (machine.Refused w) c b byte t = tt
  once_refused m c b byte t = law_tracked (num_machine p m) c byte (step_of p m c).0 b (machine_law m c (λ i. i)) t

  run_tracked : (s : MachineState) (before b : List ℕ) → AreBytes b → Tracked (num_machine p s.machine) before → Tracked (num_machine p (state_after p s b).machine) (before ++ b)
  run_tracked s before [] a t = subst (λ y. Tracked (num_machine p s.machine) y) (sym (append-nil before)) t
  run_tracked s before (c ∷ b) a t =
      let one = heard_tracked (zone_of s.machine) s.name c (step_of p s.machine c).0 (step_of p s.machine c).1 (before ++ c ∷ []) (once_refused s.machine c before a.0 t) in
      subst (λ y. Tracked (num_machine p (state_after p (after_byte p s c) b).machine) y) (append_assoc before (c ∷ []) b) (run_tracked (after_byte p s c) (before ++ c ∷ []) b a.1 one)

  -- what may still come of it
  abbrev Allowed : Integer → Type 0
  Allowed (u32_zero f) = IsTrue (has p f)
  Allowed u32_flag = IsTrue (has p BulkMemory)
  Allowed _ = Unit {0}

  to_spelled : (i : Integer) (r : Partial) (y b : List ℕ) → Allowed i → After i r y → b ≢ [] → RestOf i r b → spells p i (y ++ b)
  to_spelled i r y [] may a some h = absurd (some refl)
  to_spelled u32 r y (d ∷ b) may a some h = (h.0, (a.0.same h.0 d b).1 h.1)
  to_spelled (u32_zero f) r y (d ∷ b) may a some h = (may, (a d b).0 h)
  to_spelled u32_flag r y (d ∷ b) may a some h = (may, h.0, h.1, (a.0.0.same h.0 d b).1 h.2)
  to_spelled s32 r y (d ∷ b) may a some h = (h.0, (a.0.same h.0 d b).1 h.1)
  to_spelled s64 r y (d ∷ b) may a some h = (h.0, (a.0.same h.0 d b).1 h.1)

  from_spelled : (i : Integer) (r : Partial) (y : List ℕ) (d : ℕ) (b : List ℕ) → After i r y → spells p i (y ++ d ∷ b) → RestOf i r (d ∷ b)
  from_spelled u32 r y d b a h = (h.0, (a.0.same h.0 d b).0 h.1)
  from_spelled (u32_zero f) r y d b a h = (a d b).1 h.1
  from_spelled u32_flag r y d b a h = (h.1, h.2, (a.0.0.same h.1 d b).0 h.3)
  from_spelled s32 r y d b a h = (h.0, (a.0.same h.0 d b).0 h.1)
  from_spelled s64 r y d b a h = (h.0, (a.0.same h.0 d b).0 h.1)

  from_goes : (i : Integer) (r : Partial) (y b : List ℕ) → After i r y → goes_on p i y b → RestOf i r b
  from_goes i r y [] a h = absurd (h.0 refl)
  from_goes i r y (d ∷ b) a h = from_spelled i r y d b a h.1

  last_comes : (i : Integer) (r : Partial) (y : List ℕ) → After i r y → RestOf i r (0 ∷ [])
  last_comes u32 r y a = (r.low, last_byte r a.1.0)
  last_comes (u32_zero f) r y a = one_zero r.low (0 ∷ []) refl
  last_comes u32_flag r y a = (r.low, a.1, last_byte r a.0.1.0)
  last_comes s32 r y a = (last_signed r (pos 0), last_signed_byte 32 r a.1.0)
  last_comes s64 r y a = (last_signed r (pos 0), last_signed_byte 64 r a.1.0)

  -- by a byte it goes on, is whole, or fails
  abbrev Onward : {T : Type 0} → Integer → Partial → ℕ → Step T × Partial → Type 0
  Onward i r c (step.More, s) = (b : List ℕ) → RestOf i s b → RestOf i r (c ∷ b)
  Onward i r c (step.Done v, s) = RestOf i r (c ∷ [])
  Onward i r c (step.Bad, s) = (b : List ℕ) → RestOf i r (c ∷ b) → ⊥

  onward_u32 : (r : Partial) (c : ℕ) → c < 2 ^ 8 → Onward u32 r c (unsigned_push 32 r c)
  onward_u32 r c byte = go (unsigned_push 32 r c) (number_next r c byte)
    where
      go : (q : Step ℕ × Partial) → NumberNext r c q → Onward u32 r c q
      go (step.More, s) n = λ b h. (h.0, (n h.0 b).1 h.1)
      go (step.Done v, s) n = (v, (n v []).1 (refl, refl))
      go (step.Bad, s) n = λ b h. (n h.0 b).0 h.1

  onward_zero : (f : Feature) (r : Partial) (c : ℕ) → Onward (u32_zero f) r c (zero_push r c)
  onward_zero f r c = cond_both (nat_eq c 0x00) _ _ (Onward (u32_zero f) r c) (λ z. one_zero r.low (c ∷ []) (ap (λ x. x ∷ []) (eqb-true c 0x00 z))) (λ z. go r.low (eqb-false c 0x00 z))
    where
      go : (left : ℕ) → (c ≡ 0 → ⊥) → Onward (u32_zero f) (at_zeros left) c (zero_on left c)
      go zero n = λ b h. no_zeros c b n h
      go (suc left) n = cond_both (nat_eq c 0x80) _ _ (Onward (u32_zero f) (at_zeros (suc left)) c) (λ z b h. zeros_on left c b (eqb-true c 0x80 z) h) (λ z b h. eqb-false c 0x80 z (zeros_off left c b n h).0)

  onward_flag : (r : Partial) (c : ℕ) → c < 2 ^ 8 → Onward u32_flag r c (flag_only (unsigned_push 32 r c))
  onward_flag r c byte = go (unsigned_push 32 r c) (number_next r c byte)
    where
      go : (q : Step ℕ × Partial) → NumberNext r c q → Onward u32_flag r c (flag_only q)
      go (step.More, s) n =
          cond_both (nat_le s.low 2) _ _ (Onward u32_flag r c) (λ _ b h. (h.0, h.1, (n h.0 b).1 h.2))
          (λ l b h. let g = (n h.0 b).0 h.2 in let is = g.2 in let few = h.1 in let large = leb-false s.low 2 l in omega (arith, is, few, large))
      go (step.Done v, s) n =
          cond_both (nat_le v 2) _ _ (Onward u32_flag r c) (λ l. (v, leb-true v 2 l, (n v []).1 (refl, refl)))
          (λ l b h. let g = (n h.0 b).0 h.2 in let is = g.0 in let few = h.1 in let large = leb-false v 2 l in omega (arith, is, few, large))
      go (step.Bad, s) n = λ b h. (n h.0 b).0 h.2

  onward_s32 : (r : Partial) (c : ℕ) → c < 2 ^ 8 → Onward s32 r c (signed_push 32 r c)
  onward_s32 r c byte = go (signed_push 32 r c) (λ z more. signed_law 32 r z c more byte)
    where
      go : (q : Step ℤ × Partial) → ((z : ℤ) (more : List ℕ) → SignedRest 32 r z (c ∷ more) ↔ NumberGoes (SignedRest 32) q z more) → Onward s32 r c q
      go (step.More, s) n = λ b h. (h.0, (n h.0 b).1 h.1)
      go (step.Done v, s) n = (v, (n v []).1 (refl, refl))
      go (step.Bad, s) n = λ b h. (n h.0 b).0 h.1

  onward_s64 : (r : Partial) (c : ℕ) → c < 2 ^ 8 → Onward s64 r c (signed_push 64 r c)
  onward_s64 r c byte = go (signed_push 64 r c) (λ z more. signed_law 64 r z c more byte)
    where
      go : (q : Step ℤ × Partial) → ((z : ℤ) (more : List ℕ) → SignedRest 64 r z (c ∷ more) ↔ NumberGoes (SignedRest 64) q z more) → Onward s64 r c q
      go (step.More, s) n = λ b h. (h.0, (n h.0 b).1 h.1)
      go (step.Done v, s) n = (v, (n v []).1 (refl, refl))
      go (step.Bad, s) n = λ b h. (n h.0 b).0 h.1

  same_refused : (v w : Why) → machine.Refused v ≡ machine.Refused w → v ≡ w
  same_refused v w e = cc

  -- where the name is given no number goes on with the byte
  push_ended : {T : Type 0} (i : Integer) (r : Partial) (c : ℕ) (q : Step T × Partial) (x : Machine) → Onward i r c q → Pushed machine.Refused (num_machine p) i q x → x ≡ machine.Refused why.BadNumber → (b : List ℕ) → RestOf i r (c ∷ b) → ⊥
  push_ended i r c (step.More, s) x o (inl h) e = absurd (h.1 e)
  push_ended i r c (step.More, s) x o (inr h) e = absurd (h.2 (same_refused h.0 why.BadNumber (sym h.1 ∙ e)))
  push_ended i r c (step.Done v, s) x o h e = absurd (h.1 e)
  push_ended i r c (step.Bad, s) x o h e = o

  law_ended : (i : Integer) (r : Partial) (c : ℕ) → c < 2 ^ 8 → (x : Machine) → Law machine.Refused (num_machine p) (Some (i, r)) c x → x ≡ machine.Refused why.BadNumber → (b : List ℕ) → RestOf i r (c ∷ b) → ⊥
  law_ended u32 r c byte x h e = push_ended u32 r c (unsigned_push 32 r c) x (onward_u32 r c byte) h e
  law_ended (u32_zero f) r c byte x h e = push_ended (u32_zero f) r c (zero_push r c) x (onward_zero f r c) h e
  law_ended u32_flag r c byte x h e = push_ended u32_flag r c (flag_only (unsigned_push 32 r c)) x (onward_flag r c byte) h e
  law_ended s32 r c byte x h e = push_ended s32 r c (signed_push 32 r c) x (onward_s32 r c byte) h e
  law_ended s64 r c byte x h e = push_ended s64 r c (signed_push 64 r c) x (onward_s64 r c byte) h e

  -- In a whole input the rest of the number comes.
  abbrev Comes : Integer → Partial → List ℕ → Type 0
  Comes i r more = (b rest : List ℕ) × (more ≡ b ++ rest) × (b ≢ []) × RestOf i r b

  heard_or : (zone : Zone) (y : List ℕ) (c : ℕ) (m : Machine) (e : Event) → ((byte_read machine.Refused zone y c (m, e)).at ≡ m) ⊎ ((byte_read machine.Refused zone y c (m, e)).at ≡ machine.Refused why.BadUtf8)
  heard_or zone y c m event.Nothing = inl refl
  heard_or zone y c m (event.Complete x) = inl refl
  heard_or zone y c m event.DataByte = inl refl
  heard_or zone y c m event.InName = inl refl
  heard_or zone y c m (event.EndsName kind) = cond_both (is_utf8 (y ++ c ∷ [])) _ _ (λ (z : ByteRead Machine). (z.at ≡ m) ⊎ (z.at ≡ machine.Refused why.BadUtf8)) (λ _. inl refl) (λ _. inr refl)
  heard_or zone y c m (event.EmptyName kind) = inl refl

  no_end : (m : Machine) (i : Integer) (r : Partial) → num_machine p m ≡ Some (i, r) → MayEnd m → ⊥
  no_end (machine.Between last counts) i r e h = absurd (cc)
  no_end m i r e h = absurd h

  step_comes : {T : Type 0} (i : Integer) (r : Partial) (d : ℕ) (more : List ℕ) (q : Step T × Partial) (x : Machine) (y : List ℕ) (k : Marks) → Onward i r d q → Pushed machine.Refused (num_machine p) i q x → MachineRest strict p x y more k → ((s : Partial) → num_machine p x ≡ Some (i, s) → Comes i s more) → Comes i r (d ∷ more)
  step_comes i r d more (step.More, s) x y k o (inl h) m rec = let g = rec s h.0 in (d ∷ g.0, g.1, ap (λ z. d ∷ z) g.2, (λ e. cc), o g.0 g.4)
  step_comes i r d more (step.More, s) x y k o (inr h) m rec = absurd (subst (λ z. MachineRest strict p z y more k) h.1 m)
  step_comes i r d more (step.Done v, s) x y k o h m rec = (d ∷ [], more, refl, (λ e. cc), o)
  step_comes i r d more (step.Bad, s) x y k o h m rec = absurd (subst (λ z. MachineRest strict p z y more k) h m)

  law_comes : (i : Integer) (r : Partial) (d : ℕ) → d < 2 ^ 8 → (more : List ℕ) (x : Machine) (y : List ℕ) (k : Marks) → Law machine.Refused (num_machine p) (Some (i, r)) d x → MachineRest strict p x y more k → ((s : Partial) → num_machine p x ≡ Some (i, s) → Comes i s more) → Comes i r (d ∷ more)
  law_comes u32 r d byte more x y k h = step_comes u32 r d more (unsigned_push 32 r d) x y k (onward_u32 r d byte) h
  law_comes (u32_zero f) r d byte more x y k h = step_comes (u32_zero f) r d more (zero_push r d) x y k (onward_zero f r d) h
  law_comes u32_flag r d byte more x y k h = step_comes u32_flag r d more (flag_only (unsigned_push 32 r d)) x y k (onward_flag r d byte) h
  law_comes s32 r d byte more x y k h = step_comes s32 r d more (signed_push 32 r d) x y k (onward_s32 r d byte) h
  law_comes s64 r d byte more x y k h = step_comes s64 r d more (signed_push 64 r d) x y k (onward_s64 r d byte) h

  not_refused : (m : Machine) (i : Integer) (r : Partial) → num_machine p m ≡ Some (i, r) → IsRefused m → ⊥
  not_refused (machine.Refused w) i r e h = absurd (cc)
  not_refused m i r e h = h

  rest_comes : (more : List ℕ) (m : Machine) (y : List ℕ) (k : Marks) (i : Integer) (r : Partial) → Fits p m → AreBytes more → num_machine p m ≡ Some (i, r) → MachineRest strict p m y more k → Comes i r more
  rest_comes [] m y k i r f a e h = absurd (no_end m i r e (ends strict p tt m y k f h).1)
  rest_comes (d ∷ more) m y k i r f a e h =
      let x : Machine = (step_of p m d).0 in
      let n = byte_read machine.Refused (zone_of m) y d (step_of p m d) in
      let g = (machine_follows strict p m y d a.0 f).to tt more k h in
      let law : Law machine.Refused (num_machine p) (Some (i, r)) d x = subst (λ z. Law machine.Refused (num_machine p) z d x) e (machine_law m d (not_refused m i r e)) in
      elim (heard_or (zone_of m) y d x (step_of p m d).1) [
        | inl same ↦
            let s : MachineRest strict p x n.name more g.0 = subst (λ z. MachineRest strict p z n.name more g.0) same g.2 in
            law_comes i r d a.0 more x n.name g.0 law s (λ t j. rest_comes more x n.name g.0 i t (step_fits p m d a.0 f) a.1 j s)
        | inr bad ↦ absurd (subst (λ z. MachineRest strict p z n.name more g.0) bad g.2)
      ]

  -- the number that a state is inside is of a kind that the profile has
  abbrev AllowedNum : Num → Type 0
  AllowedNum None = Unit {0}
  AllowedNum (Some q) = Allowed q.0

  index_allowed : (f : Feature) (b : Bool) (left : ℕ) → has p f ≡ b → AllowedNum (if b then Some (u32_zero f, at_zeros left) else None)
  index_allowed f true left e = e
  index_allowed f false left e = tt

  front_allowed : (b : Bool) → has p BulkMemory ≡ b → Allowed (front_number b)
  front_allowed true e = e
  front_allowed false e = tt

  op_allowed : (q : InOp) → AllowedNum (num_op p q)
  op_allowed (in_op.Table t left) = index_allowed (table_feature t) (has p (table_feature t)) left refl
  op_allowed _ = tt

  limits_allowed : (l : InLimits) → AllowedNum (num_limits l)
  limits_allowed limits.Flag = tt
  limits_allowed _ = tt

  table_allowed : (t : InTableType) → AllowedNum (num_table t)
  table_allowed table.ElementType = tt
  table_allowed (table.Limits l) = limits_allowed l

  desc_allowed : (d : InImportDesc) → AllowedNum (num_desc d)
  desc_allowed (import.Table t) = table_allowed t
  desc_allowed (import.Memory l) = limits_allowed l
  desc_allowed _ = tt

  target_allowed : (t : InExportDesc) → AllowedNum (num_target t)
  target_allowed target.Kind = tt
  target_allowed _ = tt

  run_allowed : (q : InRun) → AllowedNum (num_run q)
  run_allowed (run.Type n) = tt
  run_allowed _ = tt

  value_allowed : (v : InValue) → AllowedNum (num_value v)
  value_allowed (value.Import d) = desc_allowed d
  value_allowed (value.Table t) = table_allowed t
  value_allowed (value.Memory l) = limits_allowed l
  value_allowed (value.Export t) = target_allowed t

  expression_allowed : (x : InExpression) → AllowedNum (num_expression p x)
  expression_allowed (expression.Op depth q) = op_allowed q
  expression_allowed _ = tt

  entry_allowed : (q : InEntry) → AllowedNum (num_entry p q)
  entry_allowed (entry.Run more x) = run_allowed x
  entry_allowed (entry.Body x) = expression_allowed x
  entry_allowed _ = tt

  member_allowed : (q : InMember) → AllowedNum (num_member p q)
  member_allowed (at.Value v) = value_allowed v
  member_allowed (at.SegmentStart of s) = front_allowed (has p BulkMemory) refl
  member_allowed (at.Constant of x) = expression_allowed x
  member_allowed (at.Entry more q) = entry_allowed q
  member_allowed _ = tt

  custom_allowed : (q : InCustom) → AllowedNum (num_custom q)
  custom_allowed custom.Skip = tt
  custom_allowed _ = tt

  machine_allowed : (m : Machine) → AllowedNum (num_machine p m)
  machine_allowed (machine.Custom last counts more q) = custom_allowed q
  machine_allowed (machine.Section of counts more left q) = member_allowed q
  machine_allowed _ = tt

  allowed : (m : Machine) (i : Integer) (r : Partial) → num_machine p m ≡ Some (i, r) → Allowed i
  allowed m i r e = subst AllowedNum e (machine_allowed m)

  -- of the bytes
  back_bytes : (a b : List ℕ) → AreBytes (a ++ b) → AreBytes b
  back_bytes [] b h = h
  back_bytes (c ∷ a) b h = back_bytes a b h.1

  module _ (b : List ℕ) (bytes : AreBytes b) (c : ℕ) (byte : c < 2 ^ 8) where
    abbrev Now : MachineState
    Now = state_after p state_at_start b

    number_says : (i : Integer) (r : Partial) → num_machine p Now.machine ≡ Some (i, r) → Fits p Now.machine → (IsRefused Now.machine → ⊥) → ((before begun : List ℕ) × (b ≡ before ++ begun) × After i r begun) → ((more : List ℕ) → RestOf i r (c ∷ more) → ⊥) → WrongNumber p (b ++ c ∷ [])
    number_says i r e f live t none = let may : Allowed i = allowed Now.machine i r e in record {
      before = t.0;
      begun = t.1;
      byte = c;
      number = i;
      whole = ap (λ y. y ++ c ∷ []) t.2;
      front = subst (CanGoOn p) t.2 (marks p state_at_start b, is_front p b bytes live);
      some = (0 ∷ [], ((λ e. cc), to_spelled i r t.1 (0 ∷ []) may t.3 (λ e. cc) (last_comes i r t.1 t.3)));
      place = subst (MustStand p (goes_on p i t.1)) t.2 (record {
        can = λ y s. can_stand p b bytes (Rests (num_machine p Now.machine)) (number_can p Now.machine Now.name) y (subst (λ n. Rests n y) (sym e) (from_goes i r t.1 y t.3 s));
        must = λ more k w.
            let all : AreBytes more = back_bytes b more (whole_bytes p (b ++ more) k w) in
            let g = run_to strict p tt state_at_start b more k bytes begin_fits (begin_to strict p (b ++ more) k w) in
            let s = rest_comes more Now.machine Now.name g.0 i r f all e g.2 in
            (s.0, s.1, s.2, (s.3, to_spelled i r t.1 s.0 may t.3 s.3 s.4));
      });
      none = λ more h. none more (from_spelled i r t.1 c more t.3 h);
    }

    pub wrong_number : (m : Machine) → m ≡ Now.machine → (IsRefused m → ⊥) → (step_of p m c).0 ≡ machine.Refused why.BadNumber → WrongNumber p (b ++ c ∷ [])
    wrong_number m same live e = go (num_machine p Now.machine) refl (subst (λ z. Law machine.Refused (num_machine p) (num_machine p z) c (step_of p m c).0) same (machine_law m c live)) (run_tracked state_at_start [] b bytes tt)
      where
        go : (n : Num) → num_machine p Now.machine ≡ n → Law machine.Refused (num_machine p) n c (step_of p m c).0 → Tracked n b → WrongNumber p (b ++ c ∷ [])
        go None is h t = absurd (h.1 e)
        go (Some (i, r)) is h t = number_says i r is (run_fits p state_at_start b bytes begin_fits) (subst (λ z. IsRefused z → ⊥) same live) t (law_ended i r c byte (step_of p m c).0 h e)
