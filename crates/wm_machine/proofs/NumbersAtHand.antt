-- The number that is being read in a state; each rest of it can follow there.
use Rattle.std.proofs.Common.{ℕ, suc, Bool, true, false, inl, inr, List, [], ◌∷◌, ◌++◌, Option, Some, None, ℤ, refl, sym, subst, arith, append-nil}
use Rattle.wm_machine.proofs.OpenMembers.{small_comes}
use Rattle.wm_machine.specs.Grammar.{SegmentRest, segment_item}
use Rattle.std.proofs.Common.{◌≤◌}
use Rattle.wm_syntax.specs.declared.profile.Feature.TheVariants.{BulkMemory}
use Rattle.wm_syntax.specs.declared.profile.Profile.{Profile}
use Rattle.wm_syntax.specs.inner.Numbers.{Partial, UnsignedRest, SignedRest}
use Rattle.wm_syntax.specs.exact.Reading.{fresh}
use Rattle.wm_syntax.specs.Spelling.{Form}
use Rattle.wm_syntax.specs.Profiles.{has}
use Rattle.wm_syntax.specs.declared.types.ValType.TheVariants.{I32}
use Rattle.wm_syntax.specs.declared.instructions.Op.{Op}
use Rattle.wm_syntax.specs.declared.modules.ImportDesc.TheVariants as desc
use Rattle.wm_machine.specs.declared.step.ops.InOp.{InOp}
use Rattle.wm_machine.specs.declared.step.ops.InOp.TheVariants as in_op
use Rattle.wm_machine.specs.declared.step.values.InLimits.{InLimits}
use Rattle.wm_machine.specs.declared.step.values.InLimits.TheVariants as limits
use Rattle.wm_machine.specs.declared.step.values.InTableType.{InTableType}
use Rattle.wm_machine.specs.declared.step.values.InTableType.TheVariants as table
use Rattle.wm_machine.specs.declared.step.values.InGlobalType.{InGlobalType}
use Rattle.wm_machine.specs.declared.step.values.InImportDesc.{InImportDesc}
use Rattle.wm_machine.specs.declared.step.values.InImportDesc.TheVariants as import
use Rattle.wm_machine.specs.declared.step.values.InExportDesc.{InExportDesc}
use Rattle.wm_machine.specs.declared.step.values.InExportDesc.TheVariants as target
use Rattle.wm_machine.specs.declared.step.values.InRun.{InRun}
use Rattle.wm_machine.specs.declared.step.values.InRun.TheVariants as run
use Rattle.wm_machine.specs.declared.step.values.InValue.{InValue}
use Rattle.wm_machine.specs.declared.step.values.InValue.TheVariants as value
use Rattle.wm_machine.specs.declared.step.expressions.InExpression.{InExpression}
use Rattle.wm_machine.specs.declared.step.expressions.InExpression.TheVariants as expression
use Rattle.wm_machine.specs.declared.machine.Plain.TheVariants as plain
use Rattle.wm_machine.specs.declared.machine.Counts.{Counts}
use Rattle.wm_machine.specs.declared.machine.InCustom.{InCustom}
use Rattle.wm_machine.specs.declared.machine.InCustom.TheVariants as custom
use Rattle.wm_machine.specs.declared.machine.Machine.{Machine}
use Rattle.wm_machine.specs.declared.machine.Machine.TheVariants as machine
use Rattle.wm_machine.specs.declared.machine.member.InEntry.{InEntry}
use Rattle.wm_machine.specs.declared.machine.member.InEntry.TheVariants as entry
use Rattle.wm_machine.specs.declared.machine.member.InMember.{InMember}
use Rattle.wm_machine.specs.declared.machine.member.InMember.TheVariants as at
use Rattle.wm_machine.specs.Items.{Item, param, result_count, one_result, body, body_op, const_op}
use Rattle.wm_machine.specs.MarkedForms.{MarkedForm, Then, Times, Leaf, Counted, Name, Sized, Filled, Entry, nothing_at, marks_ending, name_marks}
use Rattle.wm_machine.specs.Grammar.{ModuleCounts, Run, Expression, ValueType, ResultTypes, loose}
use Rattle.wm_machine.specs.exact.Members.{rank_of}
use Rattle.wm_machine.specs.exact.OpSteps.{call_op, init_op, const_32_op, const_64_op}
use Rattle.wm_syntax.specs.exact.OpShapes.{index_op}
use Rattle.wm_machine.specs.exact.Runs.{name_item, plain_item}
use Rattle.wm_machine.specs.Meanings.{Integer, u32, u32_zero, u32_flag, s32, s64}
use Rattle.wm_machine.proofs.Numbers.{Left}
use Rattle.wm_machine.proofs.OpSound.{last_byte}
use Rattle.wm_machine.proofs.OpRest.{op_rest, at_offset}
use Rattle.wm_machine.proofs.NamesAndSizes.{TextLeft}
use Rattle.wm_machine.proofs.Customs.{unnamed}
use Rattle.wm_machine.proofs.ValueBytes.{limits_rest, table_rest, desc_rest, target_rest, run_rest, value_rest}
use Rattle.wm_machine.proofs.ExpressionRest.{OpsFrom, ExpressionRest, label_part}
use Rattle.wm_machine.proofs.ExpressionSound.{some_ops}
use Rattle.wm_machine.proofs.EntryBytes.{EntryRest, run_part}
use Rattle.wm_machine.proofs.MemberBytes.{OneOf, index_mark, AfterName, AfterIndex, AfterConstant, Listed, InSize, ComponentRest}
use Rattle.wm_machine.proofs.LaterNumbers.{ForSome}
use Rattle.wm_machine.proofs.OpenMembers.{Comes, some_then, some_times, some_filled, some_name, some_type, some_runs, some_size, some_listed, some_one, after_params, after_index, after_constant, after_name, zeros, zeros_length}
use Rattle.wm_machine.proofs.WholeMachine.{count_item, freely, KnownIn, Later, After, InSize as InSectionSize, Listed as ListedMembers, ListOf, Within, MachineRest}
use Rattle.wm_machine.proofs.Fronts.{some_later, some_after, some_size as some_section_size, some_listed as some_listed_members}
use Rattle.wm_machine.proofs.MustStand.{ValuesCan, PartsCan, within_can, leaf_can, then_can, sized_can, entry_can, filled_can, led_can}
use Rattle.std.specs.Prelude.{if◌then◌else◌}
use Rattle.wm_machine.proofs.TableIndex.{Zeros, bool_cases}
use Rattle.wm_machine.specs.declared.step.ops.TableOp.{TableOp}
use Rattle.wm_machine.specs.exact.OpSteps.{init_table_op, table_feature}
use Rattle.wm_machine.proofs.OpRest.{table_op, after_comes}
use Rattle.wm_machine.specs.declared.machine.member.SegmentKind.{SegmentKind}

-- The number that a state is in, and what was read of it. Of a table index it is how many bytes may still come before
-- the last.
abbrev pub at_zeros : ℕ → Partial
at_zeros left = record { low = left; count = 0 }

abbrev pub Num : Type 0
Num = Option (Integer × Partial)

abbrev pub num_op : Profile → InOp → Num
num_op p (in_op.Index i r) = Some (u32, r)
num_op p (in_op.CallType r) = Some (u32, r)
num_op p (in_op.Table t left) = if has p (table_feature t) then Some (u32_zero (table_feature t), at_zeros left) else None
num_op p (in_op.InitElement r) = Some (u32, r)
num_op p (in_op.InitSegment r) = Some (u32, r)
num_op p (in_op.Const32 r) = Some (s32, r)
num_op p (in_op.Const64 r) = Some (s64, r)
num_op p (in_op.Align a r) = Some (u32, r)
num_op p (in_op.Offset a n r) = Some (u32, r)
num_op p _ = None

abbrev pub num_limits : InLimits → Num
num_limits limits.Flag = None
num_limits (limits.Min bounded r) = Some (u32, r)
num_limits (limits.Max min r) = Some (u32, r)

abbrev pub num_table : InTableType → Num
num_table table.ElementType = None
num_table (table.Limits l) = num_limits l

abbrev pub num_global : InGlobalType → Num
num_global g = None

abbrev pub num_desc : InImportDesc → Num
num_desc import.Kind = None
num_desc (import.Func r) = Some (u32, r)
num_desc (import.Table t) = num_table t
num_desc (import.Memory l) = num_limits l
num_desc (import.Global g) = None

abbrev pub num_target : InExportDesc → Num
num_target target.Kind = None
num_target (target.Index k r) = Some (u32, r)

abbrev pub num_run : InRun → Num
num_run (run.Count r) = Some (u32, r)
num_run (run.Type n) = None

abbrev pub num_value : InValue → Num
num_value (value.Import d) = num_desc d
num_value (value.Table t) = num_table t
num_value (value.Memory l) = num_limits l
num_value (value.Export t) = num_target t

abbrev pub num_expression : Profile → InExpression → Num
num_expression p (expression.Op depth q) = num_op p q
num_expression p (expression.Label depth left r) = Some (u32, r)
num_expression p e = None

abbrev pub num_entry : Profile → InEntry → Num
num_entry p (entry.RunCount r) = Some (u32, r)
num_entry p (entry.Run more r) = num_run r
num_entry p (entry.Body e) = num_expression p e
num_entry p q = None

-- the number at the front of a segment
abbrev pub front_number : (flagged : Bool) → Integer
front_number false = u32
front_number true = u32_flag

abbrev pub num_member : Profile → InMember → Num
num_member p (at.ParamCount r) = Some (u32, r)
num_member p (at.ResultCount r) = Some (u32, r)
num_member p (at.NameLength of r) = Some (u32, r)
num_member p (at.Value v) = num_value v
num_member p (at.Index of r) = Some (u32, r)
num_member p (at.SegmentStart of r) = Some (front_number (has p BulkMemory), r)
num_member p (at.Constant of e) = num_expression p e
num_member p (at.Length of r) = Some (u32, r)
num_member p (at.EntrySize r) = Some (u32, r)
num_member p (at.Entry more q) = num_entry p q
num_member p q = None

abbrev pub num_custom : InCustom → Num
num_custom (custom.Length r) = Some (u32, r)
num_custom q = None

abbrev pub num_machine : Profile → Machine → Num
num_machine p (machine.CustomSize last counts r) = Some (u32, r)
num_machine p (machine.Custom last counts more q) = num_custom q
num_machine p (machine.Size of counts r) = Some (u32, r)
num_machine p (machine.Count of counts more r) = Some (u32, r)
num_machine p (machine.Section of counts more left q) = num_member p q
num_machine p m = None

abbrev pub RestOf : Integer → Partial → Form ℕ
RestOf u32 r b = (n : ℕ) × UnsignedRest 32 r n b
RestOf (u32_zero feature) r b = Zeros r.low b
RestOf u32_flag r b = (n : ℕ) × (n ≤ 2) × UnsignedRest 32 r n b
RestOf s32 r b = (z : ℤ) × SignedRest 32 r z b
RestOf s64 r b = (z : ℤ) × SignedRest 64 r z b

-- what may still come of it
abbrev pub Rests : Num → Form ℕ
Rests None b = ⊥
Rests (Some q) b = RestOf q.0 q.1 b

-- values
ends_here : {A : Type 0} (P : A → Form ℕ) (x : A) (b : List ℕ) → P x b → P x (b ++ [])
ends_here P x b h = subst (P x) (sym (append-nil b)) h

limits_can : (l : InLimits) → ValuesCan (Rests (num_limits l)) (limits_rest l)
limits_can limits.Flag b w = absurd w
limits_can (limits.Min false r) b w = ([], record { min = w.0; max = None }, (w.0, b, [], refl, w.1, (refl, refl)))
limits_can (limits.Min true r) b w = (0 ∷ [], record { min = w.0; max = Some 0 }, (w.0, b, 0 ∷ [], refl, w.1, (0, 0 ∷ [], [], refl, last_byte fresh (omega arith), (refl, refl))))
limits_can (limits.Max min r) b w = ([], record { min = min; max = Some w.0 }, (w.0, b, [], refl, w.1, (refl, refl)))

table_can : (t : InTableType) → ValuesCan (Rests (num_table t)) (table_rest t)
table_can table.ElementType b w = absurd w
table_can (table.Limits l) b w = within_can (Rests (num_limits l)) (limits_rest l) (λ y. y) (limits_can l) b w

target_can : (t : InExportDesc) → ValuesCan (Rests (num_target t)) (target_rest t)
target_can target.Kind b w = absurd w
target_can (target.Index k r) b w = ([], (k, w.0), (w.0, b, [], refl, w.1, (refl, refl)))

-- names
text_can : (r : Partial) (x : List ℕ → Option Item) → PartsCan (RestOf u32 r) (TextLeft loose r x)
text_can r x b w =
    let text : List ℕ = zeros w.0 in
    (text, name_marks (x text) b text, record { front = b; text = text; bytes = refl; marks = refl; number = subst (λ n. Left r n b) (sym (zeros_length w.0)) w.1; utf8 = λ d. absurd d })

-- a number, and what it asks for
counted_can : (r : Partial) (x : ℕ → Option Item) (F : ℕ → MarkedForm) → ((n : ℕ) → Comes (F n)) → PartsCan (RestOf u32 r) (Counted (Left r) x F)
counted_can r x F f b w = let g = f w.0 in (g.bytes, marks_ending (x w.0) b ++ g.marks, record { n = w.0; front = b; back = g.bytes; back_marks = g.marks; bytes = refl; marks = refl; number = w.1; rest = g.spelled })

for_can : (W : Form ℕ) (C : ModuleCounts → Type 0) (P : ModuleCounts → MarkedForm) (f : ModuleCounts) → C f → PartsCan W (P f) → PartsCan W (ForSome C P)
for_can W C P f c v b w = let h = v b w in (h.0, h.1, (f, c, h.2))

module _ (p : Profile) where
  desc_can : (d : InImportDesc) → ValuesCan (Rests (num_desc d)) (desc_rest p d)
  desc_can import.Kind b w = absurd w
  desc_can (import.Func r) b w = ([], desc.Func w.0, (w.0, b, [], refl, w.1, (refl, refl)))
  desc_can (import.Table t) b w = within_can (Rests (num_table t)) (table_rest t) desc.Table (table_can t) b w
  desc_can (import.Memory l) b w = within_can (Rests (num_limits l)) (limits_rest l) desc.Memory (limits_can l) b w
  desc_can (import.Global g) b w = absurd w

  run_can : (r : InRun) → ValuesCan (Rests (num_run r)) (run_rest p r)
  run_can (run.Count r) b w = (0x7F ∷ [], (w.0, I32), (w.0, b, 0x7F ∷ [], refl, w.1, (refl, refl, refl)))
  run_can (run.Type n) b w = absurd w

  value_can : (v : InValue) → ValuesCan (Rests (num_value v)) (value_rest p v)
  value_can (value.Import d) b w = within_can (Rests (num_desc d)) (desc_rest p d) plain.Import (desc_can d) b w
  value_can (value.Table t) b w = within_can (Rests (num_table t)) (table_rest t) plain.Table (table_can t) b w
  value_can (value.Memory l) b w = within_can (Rests (num_limits l)) (limits_rest l) plain.Memory (limits_can l) b w
  value_can (value.Export t) b w = within_can (Rests (num_target t)) (target_rest t) (λ x. plain.Export x.0 x.1) (target_can t) b w

  -- ops
  table_index_can : (t : TableOp) (left : ℕ) → ValuesCan (Rests (num_op p (in_op.Table t left))) (op_rest p (in_op.Table t left))
  table_index_can t left b w = elim (bool_cases (has p (table_feature t))) [
    | inl y ↦
        let z : Zeros left b = subst (λ (q : Bool). Rests (if q then Some (u32_zero (table_feature t), at_zeros left) else None) b) y w in
        let g = after_comes p t in
        (g.0, table_op t, (refl, (b, g.0, refl, inr (y, z), g.1)))
    | inr k ↦ absurd (subst (λ (q : Bool). Rests (if q then Some (u32_zero (table_feature t), at_zeros left) else None) b) k w)
  ]

  op_can : (q : InOp) → ValuesCan (Rests (num_op p q)) (op_rest p q)
  op_can (in_op.Index i r) b w = ([], index_op i w.0, (w.0, refl, ends_here (Left r) w.0 b w.1))
  op_can (in_op.CallType r) b w = (0x00 ∷ [], call_op w.0, (w.0, b, 0x00 ∷ [], refl, w.1, (refl, (0x00 ∷ [], [], refl, inl refl, refl))))
  op_can (in_op.InitElement r) b w = (0x00 ∷ [], init_table_op w.0, (w.0, b, 0x00 ∷ [], refl, w.1, (refl, (0x00 ∷ [], [], refl, inl refl, refl))))
  op_can (in_op.Const32 r) b w = ([], const_32_op w.0, (w.0, refl, ends_here (SignedRest 32 r) w.0 b w.1))
  op_can (in_op.Const64 r) b w = ([], const_64_op w.0, (w.0, refl, ends_here (SignedRest 64 r) w.0 b w.1))
  op_can (in_op.Align a r) b w = (0 ∷ [], at_offset a w.0 0, (w.0, b, 0 ∷ [], refl, w.1, (0, refl, last_byte fresh (omega arith))))
  op_can (in_op.Offset a n r) b w = ([], at_offset a n w.0, (w.0, refl, ends_here (Left r) w.0 b w.1))
  op_can (in_op.InitSegment r) b w = (0x00 ∷ [], init_op w.0, (w.0, b, 0x00 ∷ [], refl, w.1, (refl, refl)))
  op_can (in_op.InitMemory n) b w = absurd w
  op_can in_op.First b w = absurd w
  op_can in_op.Code b w = absurd w
  op_can (in_op.Padding n left) b w = absurd w
  op_can in_op.FirstZero b w = absurd w
  op_can (in_op.BlockType i) b w = absurd w
  op_can (in_op.Table t left) b w = table_index_can t left b w
  op_can (in_op.Memory m) b w = absurd w
  op_can (in_op.Float32 left low) b w = absurd w
  op_can (in_op.Float64 left low) b w = absurd w

  labels_come : (part : Op → Item) (depth left : ℕ) → Comes (OpsFrom p part depth left)
  labels_come part depth left = let s = some_ops p part depth left in record { bytes = s.0; marks = s.1; spelled = s.2 }

  expression_can : (part : Op → Item) (e : InExpression) → PartsCan (Rests (num_expression p e)) (ExpressionRest p part e)
  expression_can part (expression.Op depth q) b w = led_can (Rests (num_op p q)) p part depth q (op_can q) b w
  expression_can part (expression.Label depth left r) b w = counted_can r (label_part p part) (λ l. OpsFrom p part depth left) (λ l. labels_come part depth left) b w
  expression_can part expression.Over b w = absurd w
  expression_can part (expression.Failed v) b w = absurd w

  -- code entries
  in_entry_can : (q : InEntry) → PartsCan (Rests (num_entry p q)) (EntryRest loose p q)
  in_entry_can (entry.RunCount r) b w = counted_can r nothing_at (λ n. Then (Times n (Run p)) (Expression p body_op)) (some_runs p) b w
  in_entry_can (entry.Run more r) b w =
      let W : Form ℕ = Rests (num_run r) in
      then_can W (Leaf (run_rest p r) run_part) (Then (Times more (Run p)) (Expression p body_op)) (leaf_can W (run_rest p r) run_part (run_can r)) (some_runs p more) b w
  in_entry_can (entry.Body e) b w = expression_can body_op e b w
  in_entry_can entry.Over b w = absurd w
  in_entry_can (entry.Failed v) b w = absurd w

  -- the number at the front of a segment
  front_can : (flagged : Bool) (of : SegmentKind) (r : Partial) → PartsCan (RestOf (front_number flagged) r) (Counted (Left r) (segment_item flagged of) (SegmentRest p flagged of))
  front_can false of r b w = counted_can r (segment_item false of) (SegmentRest p false of) (λ n. small_comes p false of n (λ y. cc)) b w
  front_can true of r b w = let g = small_comes p true of w.0 (λ y. w.1) in
      (g.bytes, marks_ending (segment_item true of w.0) b ++ g.marks, record { n = w.0; front = b; back = g.bytes; back_marks = g.marks; bytes = refl; marks = refl; number = w.2; rest = g.spelled })

  -- members
  member_can : (q : InMember) (y : List ℕ) → PartsCan (Rests (num_member p q)) (ComponentRest loose p q y)
  member_can (at.ParamCount r) y b w = counted_can r nothing_at (λ n. Then (Times n (ValueType p param)) (ResultTypes p)) (after_params p) b w
  member_can (at.ResultCount r) y b w = counted_can r (λ n. Some (result_count n)) (λ n. Times n (ValueType p one_result)) (λ n. some_times n (ValueType p one_result) (some_type p one_result)) b w
  member_can (at.NameLength of r) y b w = then_can (RestOf u32 r) (TextLeft loose r (name_item of)) (AfterName loose p of) (text_can r (name_item of)) (after_name p of) b w
  member_can (at.Value v) y b w = leaf_can (Rests (num_value v)) (value_rest p v) plain_item (value_can v) b w
  member_can (at.Index of r) y b w = counted_can r (index_mark loose p of) (λ n. AfterIndex loose p of) (λ n. after_index p of) b w
  member_can (at.SegmentStart of r) y b w = front_can (has p BulkMemory) of r b w
  member_can at.ElementKind y b w = absurd w
  member_can (at.Constant of e) y b w = then_can (Rests (num_expression p e)) (ExpressionRest p const_op e) (AfterConstant loose p of) (expression_can const_op e) (after_constant p of) b w
  member_can (at.Length of r) y b w = counted_can r nothing_at (λ n. Times n (Listed loose p of)) (λ n. some_times n (Listed loose p of) (some_listed p of)) b w
  member_can (at.EntrySize r) y b w = counted_can r (λ n. Some body) (InSize loose p) (some_size p) b w
  member_can (at.Entry more q) y b w =
      let W : Form ℕ = Rests (num_entry p q) in
      sized_can W (suc more) (Entry (EntryRest loose p q)) (entry_can W (EntryRest loose p q) (in_entry_can q)) b w
  member_can at.TypeForm y b w = absurd w
  member_can (at.Param more) y b w = absurd w
  member_can (at.ResultType more) y b w = absurd w
  member_can (at.Name of more) y b w = absurd w
  member_can (at.GlobalType g) y b w = absurd w
  member_can (at.Data more) y b w = absurd w
  member_can at.Over y b w = absurd w
  member_can (at.Failed v) y b w = absurd w

  -- the machine
  named_then : (last : ℕ) (counts : Counts) (n : ℕ) → Comes (Then (Filled loose n (Name loose unnamed)) (Later loose p last counts))
  named_then last counts n = some_then (Filled loose n (Name loose unnamed)) (Later loose p last counts) (some_filled n (Name loose unnamed) (some_name unnamed)) (some_later p last counts)

  pub number_can : (m : Machine) (y : List ℕ) → PartsCan (Rests (num_machine p m)) (MachineRest loose p m y)
  number_can (machine.CustomSize last counts r) y b w = counted_can r nothing_at (λ n. Then (Filled loose n (Name loose unnamed)) (Later loose p last counts)) (named_then last counts) b w
  number_can (machine.Custom last counts more (custom.Length r)) y b w =
      let T : MarkedForm = TextLeft loose r unnamed in
      then_can (RestOf u32 r) (Filled loose (suc more) T) (Later loose p last counts) (filled_can (RestOf u32 r) (suc more) T (text_can r unnamed)) (some_later p last counts) b w
  number_can (machine.Custom last counts more (custom.Name n)) y b w = absurd w
  number_can (machine.Custom last counts more custom.Skip) y b w = absurd w
  number_can (machine.Custom last counts more (custom.Failed v)) y b w = absurd w
  number_can (machine.Size of counts r) y b w =
      for_can (RestOf u32 r) (KnownIn loose (rank_of of) counts) (λ f. Counted (Left r) nothing_at (InSectionSize loose p of f)) (freely counts) ((λ l. refl), (λ d. absurd d)) (counted_can r nothing_at (InSectionSize loose p of (freely counts)) (some_section_size p of (freely counts))) b w
  number_can (machine.Count of counts more r) y b w =
      let W : Form ℕ = RestOf u32 r in
      let L : ModuleCounts → MarkedForm = λ f. Sized loose (suc more) (ListedMembers loose p of r f) in
      let v : PartsCan W (L (freely counts)) = sized_can W (suc more) (ListedMembers loose p of r (freely counts)) (counted_can r (count_item of) (ListOf loose p of (freely counts)) (some_listed_members p of (freely counts))) in
      for_can W (KnownIn loose (rank_of of) counts) (λ f. Then (L f) (After loose p of f)) (freely counts) ((λ l. refl), (λ d. absurd d)) (then_can W (L (freely counts)) (After loose p of (freely counts)) v (some_after p of (freely counts))) b w
  number_can (machine.Section of counts more left q) y b w =
      let W : Form ℕ = Rests (num_member p q) in
      let M : MarkedForm = Times left (OneOf loose p of) in
      let v : PartsCan W (Within loose p of left q y) = then_can W (ComponentRest loose p q y) M (member_can q y) (some_times left (OneOf loose p of) (some_one p of)) in
      then_can W (Sized loose (suc more) (Within loose p of left q y)) (Later loose p (rank_of of) counts) (sized_can W (suc more) (Within loose p of left q y) v) (some_later p (rank_of of) counts) b w
  number_can (machine.Header n) y b w = absurd w
  number_can (machine.Between last counts) y b w = absurd w
  number_can (machine.Refused v) y b w = absurd w
