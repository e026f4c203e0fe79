-- The possible rest of a member, and how each byte continues it.
use Rattle.std.proofs.Common.{◌≡◌, ℕ, zero, suc, ◌<◌, ◌^◌, List, [], ◌∷◌, ◌++◌, Option, Some, None, length, refl, sym, ◌∙◌, ap, subst, arith, append-nil}
use Rattle.wm_machine.specs.Items.{Marks}
use Rattle.wm_machine.specs.exact.MemberSteps.{segment_begun, segment_unfinished}
use Rattle.wm_syntax.specs.inner.Numbers.{Partial}
use Rattle.std.proofs.lemmas.Bool.{leb-false, cond_both}
use Rattle.std.proofs.Common.{Bool, true, false, nat_le}
use Rattle.wm_syntax.specs.Profiles.{has}
use Rattle.wm_syntax.specs.declared.profile.Feature.TheVariants.{BulkMemory}
use Rattle.wm_syntax.specs.exact.Reading.{fresh}
use Rattle.wm_syntax.specs.Types.{SpellsLimits, SpellsTableType}
use Rattle.wm_syntax.specs.declared.profile.Profile.{Profile}
use Rattle.wm_syntax.specs.declared.instructions.Op.{Op}
use Rattle.wm_machine.specs.declared.machine.NameKind.{NameKind}
use Rattle.wm_machine.specs.declared.machine.NameKind.TheVariants as name
use Rattle.wm_machine.specs.declared.machine.Plain.TheVariants as plain
use Rattle.wm_machine.specs.declared.machine.Event.{Event}
use Rattle.wm_machine.specs.declared.machine.Event.TheVariants as event
use Rattle.wm_machine.specs.declared.step.values.InLimits.TheVariants as limits
use Rattle.wm_machine.specs.declared.step.values.InTableType.TheVariants as table
use Rattle.wm_machine.specs.declared.step.values.InImportDesc.TheVariants as import_desc_at
use Rattle.wm_machine.specs.declared.step.values.InExportDesc.TheVariants as target
use Rattle.wm_machine.specs.declared.step.values.InValue.TheVariants as value
use Rattle.wm_machine.specs.declared.machine.member.SectionKind.{SectionKind}
use Rattle.wm_machine.specs.declared.machine.member.SectionKind.TheVariants as section_kind
use Rattle.wm_machine.specs.declared.machine.member.IndexOf.{IndexOf}
use Rattle.wm_machine.specs.declared.machine.member.IndexOf.TheVariants as index
use Rattle.wm_machine.specs.declared.machine.member.ConstantOf.{ConstantOf}
use Rattle.wm_machine.specs.declared.machine.member.ConstantOf.TheVariants as constant
use Rattle.wm_machine.specs.declared.machine.member.LengthOf.{LengthOf}
use Rattle.wm_machine.specs.declared.machine.member.LengthOf.TheVariants as length_of
use Rattle.wm_machine.specs.declared.machine.member.InEntry.{InEntry}
use Rattle.wm_machine.specs.declared.machine.member.InEntry.TheVariants as entry
use Rattle.wm_machine.specs.declared.machine.member.InMember.{InMember}
use Rattle.wm_machine.specs.declared.machine.member.InMember.TheVariants as at
use Rattle.wm_machine.specs.declared.step.expressions.InExpression.{InExpression}
use Rattle.wm_machine.specs.declared.step.expressions.InExpression.TheVariants as expression
use Rattle.wm_machine.specs.Items.{Item, new_type, param, result_count, one_result, table as table_part, memory as memory_part, global as global_part, const_op, start as start_part, element_function, body, body_op, data_byte, Zone, outside, entry as in_entry, closing, Mark}
use Rattle.wm_machine.specs.MarkedForms.{MarkedForm, Empty, MarkedByte, Then, Times, Leaf, MarkedNumber, Vector, Index, Counted, Name, Sized, Entry, nothing_at, marks_ending, in_zone, outside_mark}
use Rattle.wm_machine.specs.Grammar.{SegmentRest, segment_item, ValueType, ResultTypes, FunctionType, Desc, Global, Member, Target, Run, DataByte, Expression}
use Rattle.wm_machine.specs.exact.Runs.{ByteRead, byte_read, name_item, plain_item, zone_in}
use Rattle.wm_machine.specs.exact.Members.{rank_of, member_at_start}
use Rattle.wm_machine.specs.exact.ValueSteps.{global_type_push, value_push}
use Rattle.wm_machine.specs.exact.ExpressionSteps.{start, expression_step}
use Rattle.wm_machine.specs.exact.MemberSteps.{after_param, after_result, after_name, functions_or_over, index_item, after_index, constant_over, after_constant, op_event, constant_step, data_or_over, list_or_over, entry_step, member_in_entry, member_of_entry, with_item_given, member_step}
use Rattle.wm_machine.proofs.FirstBytes.{Next, Same, HasBytes, Never, head_same, tail_same, not_nil, same_refl, same_then, next_to, next_from, next_then, then_has, byte_has, empty_then, never_then, then_assoc, then_same}
use Rattle.wm_machine.proofs.Numbers.{Left}
use Rattle.wm_machine.proofs.Counts.{counted_has, counted_fresh, number_fresh}
use Rattle.wm_machine.proofs.Leaves.{leaf_has}
use Rattle.wm_machine.proofs.NamesAndSizes.{is_nil, NameLeft, TextLeft, text_has, text_fresh, left_has, sized_next, sized_has, sized_none, sized_same}
use Rattle.wm_machine.proofs.ValueBytes.{global_rest, global_reader, value_rest, value_reader}
use Rattle.wm_machine.proofs.ExpressionRest.{ExpressionRest, IsInside, CanOpen, expression_has, expression_same, expression_follows, mark_of}
use Rattle.wm_machine.proofs.EntryBytes.{OnlyParts, entry_parts, IsInEntry, CanOpenIn, EntryRest, entry_same, entry_follows, entry_has, entry_marked, goes_inside, ends_inside, no_entry}
use Rattle.wm_machine.proofs.ExpressionSound.{sound_opens}
use Rattle.wm_machine.proofs.MemberSound.{StandsEntry, CanEnter, MayEnter, entry_may, CanGo}
use Rattle.wm_machine.proofs.MachineParts.{Follows, value_has, number_follows, leaf_follows, type_follows, byte_follows, length_follows, name_follows}
use Rattle.wm_machine.specs.declared.machine.member.SegmentKind.{SegmentKind}
use Rattle.wm_machine.specs.declared.machine.member.SegmentKind.TheVariants as segments
use Rattle.wm_machine.specs.Grammar.{KindedList, SegmentForm}

module _ (demanded : Type 0) where
  -- nothing after it
  pub then_empty : (P : MarkedForm) → Same demanded P (Then P Empty)
  then_empty P = record {
    to = λ s b k h. record { front = b; back = []; front_marks = k; back_marks = []; bytes = sym (append-nil b); marks = sym (append-nil k); first = h; second = (refl, refl) };
    from = λ b k h.
        let eb : b ≡ h.front = h.bytes ∙ (ap (λ y. h.front ++ y) h.second.0 ∙ append-nil h.front) in
        let ek : k ≡ h.front_marks = h.marks ∙ (ap (λ y. h.front_marks ++ y) h.second.1 ∙ append-nil h.front_marks) in
        subst (λ y. P y k) (sym eb) (subst (λ y. P h.front y) (sym ek) h.first);
  }

module _ (demanded : Type 0) (p : Profile) where
  -- One member of a section. The data count section has none, and what stands for one here is never asked for.
  abbrev pub OneOf : SectionKind → MarkedForm
  OneOf section_kind.DataCount = Index start_part
  OneOf of = Member demanded p (rank_of of)

  abbrev Constant : MarkedForm
  Constant = Expression p const_op

  -- what follows a name
  abbrev pub AfterName : NameKind → MarkedForm
  AfterName name.ImportModule = Then (Name demanded (name_item name.ImportName)) (Desc p)
  AfterName name.ImportName = Desc p
  AfterName name.Export = Target
  AfterName name.Custom = Empty

  abbrev Functions : MarkedForm
  Functions = Vector (Index element_function)

  -- what follows an index
  abbrev pub AfterIndex : IndexOf → MarkedForm
  AfterIndex index.Function = Empty
  AfterIndex index.Start = Empty
  AfterIndex index.Element = Then Constant (KindedList segments.Element)
  AfterIndex (index.ElementFunction more) = Times more (Index element_function)
  AfterIndex index.Segment = Then Constant (Vector DataByte)

  -- what follows a constant expression
  abbrev pub AfterConstant : ConstantOf → MarkedForm
  AfterConstant constant.Global = Empty
  AfterConstant constant.Element = Functions
  AfterConstant constant.IndexedElement = KindedList segments.Element
  AfterConstant constant.Segment = Vector DataByte

  -- what is counted after it
  abbrev pub Listed : LengthOf → MarkedForm
  Listed length_of.Functions = Index element_function
  Listed length_of.Bytes = DataByte

  abbrev pub InSize : ℕ → MarkedForm
  InSize n = Sized demanded n (Entry (Then (Vector (Run p)) (Expression p body_op)))

  abbrev pub index_mark : IndexOf → ℕ → Option Item
  index_mark of n = Some (plain_item (index_item of n))

  -- what may still come, with the bytes so far of a name
  abbrev pub ComponentRest : InMember → List ℕ → MarkedForm
  ComponentRest at.TypeForm y = FunctionType p
  ComponentRest (at.ParamCount r) y = Counted (Left r) nothing_at (λ n. Then (Times n (ValueType p param)) (ResultTypes p))
  ComponentRest (at.Param more) y = Then (Times (suc more) (ValueType p param)) (ResultTypes p)
  ComponentRest (at.ResultCount r) y = Counted (Left r) (λ n. Some (result_count n)) (λ n. Times n (ValueType p one_result))
  ComponentRest (at.ResultType more) y = Times (suc more) (ValueType p one_result)
  ComponentRest (at.NameLength of r) y = Then (TextLeft demanded r (name_item of)) (AfterName of)
  ComponentRest (at.Name of more) y = Then (NameLeft demanded y (suc more) (name_item of)) (AfterName of)
  ComponentRest (at.Value v) y = Leaf (value_rest p v) plain_item
  ComponentRest (at.Index of r) y = Counted (Left r) (index_mark of) (λ n. AfterIndex of)
  ComponentRest (at.SegmentStart of r) y = Counted (Left r) (segment_item (has p BulkMemory) of) (SegmentRest p (has p BulkMemory) of)
  ComponentRest at.ElementKind y = KindedList segments.Element
  ComponentRest (at.GlobalType g) y = Then (Leaf (global_rest p g) global_part) Constant
  ComponentRest (at.Constant of e) y = Then (ExpressionRest p const_op e) (AfterConstant of)
  ComponentRest (at.Length of r) y = Counted (Left r) nothing_at (λ n. Times n (Listed of))
  ComponentRest (at.Data more) y = Times (suc more) DataByte
  ComponentRest (at.EntrySize r) y = Counted (Left r) (λ n. Some body) InSize
  ComponentRest (at.Entry more q) y = Sized demanded (suc more) (Entry (EntryRest demanded p q))
  ComponentRest at.Over y = Empty
  ComponentRest (at.Failed w) y = Never

  abbrev ComponentFollows : List ℕ → ℕ → MarkedForm → InMember × Event → Type 0
  ComponentFollows y c P q = Follows demanded at.Failed ComponentRest (λ w. same_refl demanded Never) y c P q

  -- function types
  results_same : (n : ℕ) → Same demanded (Times n (ValueType p one_result)) (ComponentRest (after_result n) [])
  results_same zero = same_refl demanded Empty
  results_same (suc n) = same_refl demanded (Times (suc n) (ValueType p one_result))

  params_same : (n : ℕ) → Same demanded (Then (Times n (ValueType p param)) (ResultTypes p)) (ComponentRest (after_param n) [])
  params_same zero = same_then demanded (Then Empty (ResultTypes p)) (ResultTypes p) (ComponentRest (at.ResultCount fresh) []) (empty_then demanded (ResultTypes p))
      (number_fresh demanded (λ n. Some (result_count n)) (λ n. Times n (ValueType p one_result)) (λ n. Times n (ValueType p one_result)) (λ n. same_refl demanded (Times n (ValueType p one_result))))
  params_same (suc n) = same_refl demanded (Then (Times (suc n) (ValueType p param)) (ResultTypes p))

  form_same : Same demanded (Then (Vector (ValueType p param)) (ResultTypes p)) (ComponentRest (at.ParamCount fresh) [])
  form_same = counted_fresh demanded nothing_at (λ n. Times n (ValueType p param)) (ResultTypes p) (λ n. Then (Times n (ValueType p param)) (ResultTypes p)) (λ n. same_refl demanded (Then (Times n (ValueType p param)) (ResultTypes p)))

  -- lists of functions and of bytes
  functions_same : (n : ℕ) → Same demanded (Times n (Index element_function)) (ComponentRest (functions_or_over n) [])
  functions_same zero = same_refl demanded Empty
  functions_same (suc n) = counted_fresh demanded (λ x. Some (element_function x)) (λ x. Empty) (Times n (Index element_function)) (λ x. Times n (Index element_function)) (λ x. empty_then demanded (Times n (Index element_function)))

  data_same : (n : ℕ) → Same demanded (Times n DataByte) (ComponentRest (data_or_over n) [])
  data_same zero = same_refl demanded Empty
  data_same (suc n) = same_refl demanded (Times (suc n) DataByte)

  list_same : (of : LengthOf) (n : ℕ) → Same demanded (Times n (Listed of)) (ComponentRest (list_or_over of n) [])
  list_same length_of.Functions n = functions_same n
  list_same length_of.Bytes n = data_same n

  vector_fresh : (P : MarkedForm) → Same demanded (Vector P) (Counted (Left fresh) nothing_at (λ n. Times n P))
  vector_fresh P = number_fresh demanded nothing_at (λ n. Times n P) (λ n. Times n P) (λ n. same_refl demanded (Times n P))

  -- constant expressions
  over_same : (of : ConstantOf) → Same demanded (AfterConstant of) (ComponentRest (constant_over of) [])
  over_same constant.Global = same_refl demanded Empty
  over_same constant.Element = vector_fresh (Index element_function)
  over_same constant.IndexedElement = same_refl demanded (KindedList segments.Element)
  over_same constant.Segment = vector_fresh DataByte

  after_constant_same : (of : ConstantOf) (e : InExpression) → Same demanded (Then (ExpressionRest p const_op e) (AfterConstant of)) (ComponentRest (after_constant of e) [])
  after_constant_same of expression.Over = same_then demanded (Then Empty (AfterConstant of)) (AfterConstant of) (ComponentRest (constant_over of) []) (empty_then demanded (AfterConstant of)) (over_same of)
  after_constant_same of (expression.Failed w) = never_then demanded Never (AfterConstant of) (same_refl demanded Never)
  after_constant_same of (expression.Op depth q) = same_refl demanded (ComponentRest (at.Constant of (expression.Op depth q)) [])
  after_constant_same of (expression.Label depth left r) = same_refl demanded (ComponentRest (at.Constant of (expression.Label depth left r)) [])

  constant_begins : (of : ConstantOf) → Same demanded (Then Constant (AfterConstant of)) (ComponentRest (at.Constant of start) [])
  constant_begins of = then_same demanded Constant (AfterConstant of) (ExpressionRest p const_op start) (AfterConstant of) (expression_same demanded p const_op) (same_refl demanded (AfterConstant of))

  index_same : (of : IndexOf) → Same demanded (AfterIndex of) (ComponentRest (after_index of) [])
  index_same index.Function = same_refl demanded Empty
  index_same index.Start = same_refl demanded Empty
  index_same index.Element = constant_begins constant.IndexedElement
  index_same (index.ElementFunction more) = functions_same more
  index_same index.Segment = constant_begins constant.Segment

  global_begins : Same demanded Constant (ComponentRest (at.Constant constant.Global start) [])
  global_begins = same_then demanded Constant (Then Constant Empty) (ComponentRest (at.Constant constant.Global start) []) (then_empty demanded Constant) (constant_begins constant.Global)

  -- values that end a member
  desc_begins : Same demanded (Desc p) (ComponentRest (at.Value (value.Import import_desc_at.Kind)) [])
  desc_begins = record {
    to = λ s b k h. (plain.Import h.0, (h.0, refl, h.1), h.2);
    from = λ b k h. (h.1.0, h.1.2, h.2 ∙ ap (λ y. marks_ending (Some (plain_item y)) b) h.1.1);
  }

  table_begins : Same demanded (Leaf SpellsTableType table_part) (ComponentRest (at.Value (value.Table table.ElementType)) [])
  table_begins = record {
    to = λ s b k h. (plain.Table h.0, (h.0, refl, h.1), h.2);
    from = λ b k h. (h.1.0, h.1.2, h.2 ∙ ap (λ y. marks_ending (Some (plain_item y)) b) h.1.1);
  }

  memory_begins : Same demanded (Leaf SpellsLimits memory_part) (ComponentRest (at.Value (value.Memory limits.Flag)) [])
  memory_begins = record {
    to = λ s b k h. (plain.Memory h.0, (h.0, refl, h.1), h.2);
    from = λ b k h. (h.1.0, h.1.2, h.2 ∙ ap (λ y. marks_ending (Some (plain_item y)) b) h.1.1);
  }

  target_begins : Same demanded Target (ComponentRest (at.Value (value.Export target.Kind)) [])
  target_begins = record {
    to = λ s b k h. (plain.Export h.0.0 h.0.1, (h.0, refl, h.1), h.2);
    from = λ b k h. (h.1.0, h.1.2, h.2 ∙ ap (λ y. marks_ending (Some (plain_item y)) b) h.1.1);
  }

  -- names
  name_begins : (of : NameKind) → Same demanded (Then (Name demanded (name_item of)) (AfterName of)) (ComponentRest (at.NameLength of fresh) [])
  name_begins of = then_same demanded (Name demanded (name_item of)) (AfterName of) (TextLeft demanded fresh (name_item of)) (AfterName of) (text_fresh demanded (name_item of)) (same_refl demanded (AfterName of))

  name_same : (of : NameKind) → Same demanded (AfterName of) (ComponentRest (after_name of) [])
  name_same name.ImportModule = name_begins name.ImportName
  name_same name.ImportName = desc_begins
  name_same name.Export = target_begins
  name_same name.Custom = same_refl demanded Empty

  -- a code entry within its size
  entry_framed_same : (n : ℕ) (q : InEntry) → IsInEntry q → Same demanded (Sized demanded n (Entry (EntryRest demanded p q))) (ComponentRest (member_in_entry n q) [])
  entry_framed_same zero (entry.RunCount r) i = sized_none demanded (Entry (EntryRest demanded p (entry.RunCount r))) (λ s k h. entry_has demanded p (entry.RunCount r) i s h.inner h.contents)
  entry_framed_same zero (entry.Run more r) i = sized_none demanded (Entry (EntryRest demanded p (entry.Run more r))) (λ s k h. entry_has demanded p (entry.Run more r) i s h.inner h.contents)
  entry_framed_same zero (entry.Body e) i = sized_none demanded (Entry (EntryRest demanded p (entry.Body e))) (λ s k h. entry_has demanded p (entry.Body e) i s h.inner h.contents)
  entry_framed_same zero entry.Over i = absurd i
  entry_framed_same (suc n) entry.Over i = absurd i
  entry_framed_same n (entry.Failed w) i = absurd i
  entry_framed_same (suc n) (entry.RunCount r) i = same_refl demanded (Sized demanded (suc n) (Entry (EntryRest demanded p (entry.RunCount r))))
  entry_framed_same (suc n) (entry.Run more r) i = same_refl demanded (Sized demanded (suc n) (Entry (EntryRest demanded p (entry.Run more r))))
  entry_framed_same (suc n) (entry.Body e) i = same_refl demanded (Sized demanded (suc n) (Entry (EntryRest demanded p (entry.Body e))))

  entry_shape_same : (P Q : MarkedForm) → Same demanded P Q → Same demanded (Entry P) (Entry Q)
  entry_shape_same P Q q = record {
    to = λ s b k h. record { inner = h.inner; marks = h.marks; contents = q.to s b h.inner h.contents };
    from = λ b k h. record { inner = h.inner; marks = h.marks; contents = q.from b h.inner h.contents };
  }

  size_same : (n : ℕ) → Same demanded (InSize n) (ComponentRest (member_in_entry n (entry.RunCount fresh)) [])
  size_same n =
      same_then demanded (InSize n) (Sized demanded n (Entry (EntryRest demanded p (entry.RunCount fresh)))) (ComponentRest (member_in_entry n (entry.RunCount fresh)) [])
      (sized_same demanded (Entry (Then (Vector (Run p)) (Expression p body_op))) (Entry (EntryRest demanded p (entry.RunCount fresh))) n (entry_shape_same (Then (Vector (Run p)) (Expression p body_op)) (EntryRest demanded p (entry.RunCount fresh)) (entry_same demanded p)))
      (entry_framed_same n (entry.RunCount fresh) tt)

  -- where each member begins
  index_begins : (of : IndexOf) → Same demanded (Then (MarkedNumber (index_mark of) (λ n. Empty)) (AfterIndex of)) (ComponentRest (at.Index of fresh) [])
  index_begins of = counted_fresh demanded (index_mark of) (λ n. Empty) (AfterIndex of) (λ n. AfterIndex of) (λ n. empty_then demanded (AfterIndex of))

  index_alone : (of : IndexOf) (F : ℕ → MarkedForm) → ((n : ℕ) → Same demanded (F n) (AfterIndex of)) → Same demanded (MarkedNumber (index_mark of) F) (ComponentRest (at.Index of fresh) [])
  index_alone of F s = number_fresh demanded (index_mark of) F (λ n. AfterIndex of) s

  -- the number at the front of a segment
  no_flag : (of : SegmentKind) (n : ℕ) (b : List ℕ) (k : Marks) → 2 < n → SegmentRest p true of n b k → ⊥
  no_flag of zero b k l h = omega (arith, l)
  no_flag of (suc zero) b k l h = omega (arith, l)
  no_flag of (suc (suc zero)) b k l h = omega (arith, l)
  no_flag of (suc (suc (suc n))) b k l h = h

  module _ (of : SegmentKind) where
    abbrev FrontRest : Bool → Partial → MarkedForm
    FrontRest flagged r = Counted (Left r) (segment_item flagged of) (SegmentRest p flagged of)

    front_same : (flagged : Bool) → has p BulkMemory ≡ flagged → (r : Partial) → Same demanded (FrontRest flagged r) (ComponentRest (at.SegmentStart of r) [])
    front_same flagged e r = subst (λ f. Same demanded (FrontRest f r) (ComponentRest (at.SegmentStart of r) [])) e (same_refl demanded (ComponentRest (at.SegmentStart of r) []))

    large_never : (r : Partial) → 2 < r.low → Same demanded (FrontRest true r) Never
    large_never r l = record { to = λ s b k h. let n = h.number in let is = n.2 in no_flag of h.n h.back h.back_marks (omega (arith, l, is)) h.rest; from = λ b k h. absurd h }

    unfinished_same : (flagged : Bool) → has p BulkMemory ≡ flagged → (r : Partial) → Same demanded (FrontRest flagged r) (ComponentRest (segment_unfinished flagged of r) [])
    unfinished_same false e r = front_same false e r
    unfinished_same true e r =
        cond_both (nat_le r.low 2) _ _ (λ (q : InMember). Same demanded (FrontRest true r) (ComponentRest q [])) (λ _. front_same true e r) (λ l. large_never r (leb-false r.low 2 l))

  abbrev BegunRead : List ℕ → ℕ → Bool → SegmentKind → ℕ → ByteRead InMember
  BegunRead y c flagged of n = byte_read at.Failed outside y c (segment_begun flagged of n)

  begun_marked : (y : List ℕ) (c : ℕ) (flagged : Bool) (of : SegmentKind) (n : ℕ) → (BegunRead y c flagged of n).mark ≡ outside_mark (segment_item flagged of n)
  begun_marked y c false segments.Element n = refl
  begun_marked y c false segments.Data n = refl
  begun_marked y c true segments.Element zero = refl
  begun_marked y c true segments.Data zero = refl
  begun_marked y c true segments.Element (suc zero) = refl
  begun_marked y c true segments.Data (suc zero) = refl
  begun_marked y c true of (suc (suc zero)) = refl
  begun_marked y c true of (suc (suc (suc n))) = refl

  begun_same : (y : List ℕ) (c : ℕ) (flagged : Bool) (of : SegmentKind) (n : ℕ) → Same demanded (SegmentRest p flagged of n) (ComponentRest (BegunRead y c flagged of n).at (BegunRead y c flagged of n).name)
  begun_same y c false segments.Element n = constant_begins constant.Element
  begun_same y c false segments.Data n = constant_begins constant.Segment
  begun_same y c true segments.Element zero = constant_begins constant.Element
  begun_same y c true segments.Data zero = constant_begins constant.Segment
  begun_same y c true segments.Element (suc zero) = same_refl demanded (KindedList segments.Element)
  begun_same y c true segments.Data (suc zero) = vector_fresh DataByte
  begun_same y c true segments.Element (suc (suc zero)) = index_begins index.Element
  begun_same y c true segments.Data (suc (suc zero)) = index_begins index.Segment
  begun_same y c true of (suc (suc (suc n))) = same_refl demanded Never

  segment_begins : (of : SegmentKind) → Same demanded (SegmentForm p of) (ComponentRest (at.SegmentStart of fresh) [])
  segment_begins of =
      let R : ℕ → MarkedForm = SegmentRest p (has p BulkMemory) of in
      number_fresh demanded (segment_item (has p BulkMemory) of) R R (λ n. same_refl demanded (R n))

  pub begin_same : (of : SectionKind) → Same demanded (OneOf of) (ComponentRest (member_at_start of) [])
  begin_same section_kind.Type = same_refl demanded (FunctionType p)
  begin_same section_kind.Import = name_begins name.ImportModule
  begin_same section_kind.Function = index_alone index.Function (λ n. Empty) (λ n. same_refl demanded Empty)
  begin_same section_kind.Table = table_begins
  begin_same section_kind.Memory = memory_begins
  begin_same section_kind.Global = same_refl demanded (Global p)
  begin_same section_kind.Export = name_begins name.Export
  begin_same section_kind.Start = index_alone index.Start (λ n. Empty) (λ n. same_refl demanded Empty)
  begin_same section_kind.Element = segment_begins segments.Element
  begin_same section_kind.DataCount = index_alone index.Start (λ n. Empty) (λ n. same_refl demanded Empty)
  begin_same section_kind.Code = number_fresh demanded (λ n. Some body) InSize InSize (λ n. same_refl demanded (InSize n))
  begin_same section_kind.Segment = segment_begins segments.Data

  -- a byte of data
  data_next : (c : ℕ) → c < 2 ^ 8 → Next demanded DataByte c (outside_mark (Some (data_byte c))) Empty
  data_next c byte = record {
    to = λ s b k h.
        let e : b ≡ [] = tail_same c h.0 b [] h.1.0 in
        let u : h.0 ≡ c = sym (head_same c h.0 b [] h.1.0) in
        ([], h.2 ∙ (ap (λ y. marks_ending (Some (data_byte h.0)) (c ∷ y)) e ∙ ap (λ y. outside_mark (Some (data_byte y)) ∷ []) u), (e, refl));
    from = λ b k g. (c, (ap (λ y. c ∷ y) g.2.0, byte), g.1 ∙ (ap (λ y. outside_mark (Some (data_byte c)) ∷ y) g.2.1 ∙ sym (ap (λ y. marks_ending (Some (data_byte c)) (c ∷ y)) g.2.0)));
  }

  data_has : HasBytes demanded DataByte
  data_has s k h = not_nil h.0 [] (sym h.1.0)

  data_follows : (more : ℕ) (y : List ℕ) (c : ℕ) → c < 2 ^ 8 → ComponentFollows y c (Times (suc more) DataByte) (data_or_over more, event.DataByte)
  data_follows more y c byte =
      next_to demanded (Times (suc more) DataByte) (Then Empty (Times more DataByte)) (ComponentRest (data_or_over more) []) c (outside_mark (Some (data_byte c)))
      (same_then demanded (Then Empty (Times more DataByte)) (Times more DataByte) (ComponentRest (data_or_over more) []) (empty_then demanded (Times more DataByte)) (data_same more))
      (next_then demanded DataByte (Times more DataByte) c (outside_mark (Some (data_byte c))) Empty (data_next c byte) data_has)

  -- constant expressions
  heard_const : (m : InMember) (y : List ℕ) (c : ℕ) (o : Option Op) → (byte_read at.Failed outside y c (m, op_event plain.ConstOp o)).mark ≡ outside_mark (mark_of const_op o)
  heard_const m y c None = refl
  heard_const m y c (Some o) = refl

  const_at : (m : InMember) (y : List ℕ) (c : ℕ) (o : Option Op) → ComponentRest (byte_read at.Failed outside y c (m, op_event plain.ConstOp o)).at (byte_read at.Failed outside y c (m, op_event plain.ConstOp o)).name ≡ ComponentRest m []
  const_at m y c None = refl
  const_at m y c (Some o) = refl

  constant_follows : (of : ConstantOf) (e : InExpression) (y : List ℕ) (c : ℕ) → IsInside e → CanOpen e → c < 2 ^ 8 → ComponentFollows y c (Then (ExpressionRest p const_op e) (AfterConstant of)) (constant_step p of e c)
  constant_follows of e y c inside room byte =
      let x = expression_step p e c in
      let P : MarkedForm = Then (ExpressionRest p const_op e) (AfterConstant of) in
      let m : InMember = after_constant of x.0 in
      let n : Next demanded P c (outside_mark (mark_of const_op x.1)) (ComponentRest m []) =
      next_to demanded P (Then (ExpressionRest p const_op x.0) (AfterConstant of)) (ComponentRest m []) c (outside_mark (mark_of const_op x.1)) (after_constant_same of x.0)
      (next_then demanded (ExpressionRest p const_op e) (AfterConstant of) c (outside_mark (mark_of const_op x.1)) (ExpressionRest p const_op x.0) (expression_follows demanded p const_op e c room byte) (λ s k h. expression_has p const_op e inside k h)) in
      subst (λ (z : Mark). Next demanded P c z (ComponentRest (byte_read at.Failed outside y c (m, op_event plain.ConstOp x.1)).at (byte_read at.Failed outside y c (m, op_event plain.ConstOp x.1)).name)) (sym (heard_const m y c x.1))
      (subst (λ (Z : MarkedForm). Next demanded P c (outside_mark (mark_of const_op x.1)) Z) (sym (const_at m y c x.1)) n)

  -- code entries: the mark of each byte says that it is one of an entry
  zoned : (zone : Zone) (y : List ℕ) (c : ℕ) (m : InMember) (q : InEntry) (e : Event) → OnlyParts e → (byte_read at.Failed zone y c (m, e)).mark ≡ in_zone zone (byte_read entry.Failed outside [] c (q, e)).mark
  zoned zone y c m q event.Nothing o = refl
  zoned zone y c m q (event.Complete x) o = refl
  zoned zone y c m q event.DataByte o = absurd o
  zoned zone y c m q event.InName o = absurd o
  zoned zone y c m q (event.EndsName x) o = absurd o
  zoned zone y c m q (event.EmptyName x) o = absurd o

  zoned_rest : (zone : Zone) (y : List ℕ) (c : ℕ) (m : InMember) (e : Event) → OnlyParts e → ComponentRest (byte_read at.Failed zone y c (m, e)).at (byte_read at.Failed zone y c (m, e)).name ≡ ComponentRest m []
  zoned_rest zone y c m event.Nothing o = refl
  zoned_rest zone y c m (event.Complete x) o = refl
  zoned_rest zone y c m event.DataByte o = absurd o
  zoned_rest zone y c m event.InName o = absurd o
  zoned_rest zone y c m (event.EndsName x) o = absurd o
  zoned_rest zone y c m (event.EmptyName x) o = absurd o

  inner_at : (c : ℕ) (q : InEntry) (e : Event) → OnlyParts e → (byte_read entry.Failed outside [] c (q, e)).at ≡ q
  inner_at c q event.Nothing o = refl
  inner_at c q (event.Complete x) o = refl
  inner_at c q event.DataByte o = absurd o
  inner_at c q event.InName o = absurd o
  inner_at c q (event.EndsName x) o = absurd o
  inner_at c q (event.EmptyName x) o = absurd o

  -- what an entry becomes within its size
  nothing_left : (P : MarkedForm) (c : ℕ) (m x : Mark) (q : InEntry) → IsInEntry q → Next demanded P c m (EntryRest demanded p q) → Next demanded (Sized demanded 1 (Entry P)) c x Never
  nothing_left P c m x q i n = no_entry demanded p 0 P c x (λ s b k l h. let g = n.to s b k h in entry_has demanded p q i s g.0 (subst (λ y. EntryRest demanded p q y g.0) (is_nil b l) g.2))

  more_left : (more : ℕ) (P : MarkedForm) (c : ℕ) (m : Mark) (q : InEntry) → IsInEntry q → Next demanded P c m (EntryRest demanded p q) → Next demanded (Sized demanded (suc (suc more)) (Entry P)) c (in_zone in_entry m) (Sized demanded (suc more) (Entry (EntryRest demanded p q)))
  more_left more P c m q i n = sized_next demanded (Entry P) (Entry (EntryRest demanded p q)) (suc more) c (in_zone in_entry m) (goes_inside demanded p P (EntryRest demanded p q) c m n (entry_marked demanded p q i))

  -- an entry that goes on is not at its end, and has not failed
  abbrev MayBeInside : InEntry → Type 0
  MayBeInside entry.Over = Unit {0}
  MayBeInside (entry.Failed w) = Unit {0}
  MayBeInside q = IsInEntry q

  framed_next : (more : ℕ) (P : MarkedForm) (c : ℕ) (m : Mark) (here q : InEntry) → MayBeInside q → Next demanded P c m (EntryRest demanded p q)
      → Next demanded (Sized demanded (suc more) (Entry P)) c (in_zone (zone_in (at.Entry more here)) m) (ComponentRest (member_in_entry more q) [])
  framed_next more P c m here (entry.Failed w) i n = no_entry demanded p more P c (in_zone (zone_in (at.Entry more here)) m) (λ s b k l h. (n.to s b k h).2)
  framed_next zero P c m here entry.Over i n = ends_inside demanded p P c m n
  framed_next (suc more) P c m here entry.Over i n = no_entry demanded p (suc more) P c (in_zone in_entry m) (λ s b k l h. let e : length b ≡ 0 = ap length (n.to s b k h).2.0 in omega (arith, e, l))
  framed_next zero P c m here (entry.RunCount r) i n = nothing_left P c m (in_zone closing m) (entry.RunCount r) i n
  framed_next zero P c m here (entry.Run left r) i n = nothing_left P c m (in_zone closing m) (entry.Run left r) i n
  framed_next zero P c m here (entry.Body e) i n = nothing_left P c m (in_zone closing m) (entry.Body e) i n
  framed_next (suc more) P c m here (entry.RunCount r) i n = more_left more P c m (entry.RunCount r) i n
  framed_next (suc more) P c m here (entry.Run left r) i n = more_left more P c m (entry.Run left r) i n
  framed_next (suc more) P c m here (entry.Body e) i n = more_left more P c m (entry.Body e) i n

  entry_next : (more : ℕ) (q : InEntry) (y : List ℕ) (c : ℕ) → CanOpenIn q → c < 2 ^ 8 → MayBeInside (entry_step p q c).0
      → Next demanded (Sized demanded (suc more) (Entry (EntryRest demanded p q))) c (byte_read at.Failed (zone_in (at.Entry more q)) y c (member_of_entry p more q c)).mark
      (ComponentRest (byte_read at.Failed (zone_in (at.Entry more q)) y c (member_of_entry p more q c)).at (byte_read at.Failed (zone_in (at.Entry more q)) y c (member_of_entry p more q c)).name)
  entry_next more q y c room byte inside =
      let x = entry_step p q c in
      let P : MarkedForm = EntryRest demanded p q in
      let zone : Zone = zone_in (at.Entry more q) in
      let S : MarkedForm = Sized demanded (suc more) (Entry P) in
      let m : InMember = member_in_entry more x.0 in
      let items : OnlyParts x.1 = entry_parts p q c in
      let h : Mark = (byte_read entry.Failed outside [] c x).mark in
      let n : Next demanded P c h (EntryRest demanded p x.0) = subst (λ y. Next demanded P c h (EntryRest demanded p y)) (inner_at c x.0 x.1 items) (entry_follows demanded p q c room byte) in
      let g : Next demanded S c (in_zone zone h) (ComponentRest m []) = framed_next more P c h q x.0 inside n in
      subst (λ (z : Mark). Next demanded S c z (ComponentRest (byte_read at.Failed zone y c (m, x.1)).at (byte_read at.Failed zone y c (m, x.1)).name)) (sym (zoned zone y c m x.0 x.1 items))
      (subst (λ (Z : MarkedForm). Next demanded S c (in_zone zone h) Z) (sym (zoned_rest zone y c m x.1 items)) g)

  unrolled : (P Q : MarkedForm) (c : ℕ) (h : ByteRead InMember) → Same demanded Q P → Next demanded P c h.mark (ComponentRest h.at h.name) → Next demanded Q c h.mark (ComponentRest h.at h.name)
  unrolled P Q c h q f = next_from demanded P Q (ComponentRest h.at h.name) c h.mark q f

  back_empty : (P : MarkedForm) → Same demanded (Then P Empty) P
  back_empty P = let e = then_empty (Unit {0}) P in record { to = λ s b k h. e.from b k h; from = λ b k h. e.to tt b k h }

  pub can_open : (more : ℕ) (q : InEntry) → StandsEntry p (suc more) q → CanOpenIn q
  can_open more (entry.Body e) h = sound_opens p more e h.1
  can_open more (entry.RunCount r) h = tt
  can_open more (entry.Run left r) h = tt
  can_open more entry.Over h = absurd h
  can_open more (entry.Failed w) h = absurd h

  inside_of : (left : ℕ) (q : InEntry) → MayEnter p left q → MayBeInside q
  inside_of left (entry.Body e) h = h.1.0
  inside_of left (entry.RunCount r) h = tt
  inside_of left (entry.Run more r) h = tt
  inside_of left entry.Over h = tt
  inside_of left (entry.Failed w) h = tt

  stays : (more : ℕ) (q : InEntry) (c : ℕ) → c < 2 ^ 8 → CanEnter p (suc more) q → MayBeInside (entry_step p q c).0
  stays more q c byte h = let m : more < 2 ^ 32 = omega (arith, h.0) in inside_of more (entry_step p q c).0 (entry_may p more m q c byte h.1)

  -- each byte goes on with what may still come
  pub component_follows : (left : ℕ) (q : InMember) (y : List ℕ) (c : ℕ) → CanGo p (suc left) q → c < 2 ^ 8
      → Next demanded (ComponentRest q y) c (byte_read at.Failed (zone_in q) y c (member_step p q c)).mark (ComponentRest (byte_read at.Failed (zone_in q) y c (member_step p q c)).at (byte_read at.Failed (zone_in q) y c (member_step p q c)).name)
  component_follows left at.TypeForm y c go byte =
      byte_follows demanded at.Failed ComponentRest (λ w. same_refl demanded Never) y c 0x60 (Some new_type) (Then (Vector (ValueType p param)) (ResultTypes p)) (with_item_given (at.ParamCount fresh) plain.NewType) refl form_same
  component_follows left (at.ParamCount r) y c go byte =
      number_follows demanded at.Failed ComponentRest (λ w. same_refl demanded Never) y c nothing_at (λ n. Then (Times n (ValueType p param)) (ResultTypes p)) at.ParamCount (λ n. (after_param n, event.Nothing))
      (λ s. same_refl demanded (ComponentRest (at.ParamCount s) [])) (λ n. refl) params_same r byte
  component_follows left (at.Param more) y c go byte =
      unrolled (Then (ValueType p param) (Then (Times more (ValueType p param)) (ResultTypes p))) (ComponentRest (at.Param more) y) c (byte_read at.Failed outside y c (member_step p (at.Param more) c))
      (then_assoc demanded (ValueType p param) (Times more (ValueType p param)) (ResultTypes p))
      (type_follows demanded at.Failed ComponentRest (λ w. same_refl demanded Never) y c p param (Then (Times more (ValueType p param)) (ResultTypes p)) (λ t. with_item_given (after_param more) (plain.Param t)) (λ t. refl) (λ t. params_same more))
  component_follows left (at.ResultCount r) y c go byte =
      number_follows demanded at.Failed ComponentRest (λ w. same_refl demanded Never) y c (λ n. Some (result_count n)) (λ n. Times n (ValueType p one_result)) at.ResultCount (λ n. with_item_given (after_result n) (plain.ResultCount n))
      (λ s. same_refl demanded (ComponentRest (at.ResultCount s) [])) (λ n. refl) results_same r byte
  component_follows left (at.ResultType more) y c go byte =
      type_follows demanded at.Failed ComponentRest (λ w. same_refl demanded Never) y c p one_result (Times more (ValueType p one_result)) (λ t. with_item_given (after_result more) (plain.OneResult t)) (λ t. refl) (λ t. results_same more)
  component_follows left (at.NameLength of r) y c go byte =
      length_follows demanded at.Failed ComponentRest (λ w. same_refl demanded Never) y c of (AfterName of) (after_name of) (name_same of) (λ n. at.Name of n) (λ n z. same_refl demanded (ComponentRest (at.Name of n) z))
      (λ s. at.NameLength of s) (λ s. same_refl demanded (ComponentRest (at.NameLength of s) [])) r byte
  component_follows left (at.Name of more) y c go byte =
      name_follows demanded at.Failed ComponentRest (λ w. same_refl demanded Never) y c of (AfterName of) (after_name of) (name_same of) (λ n. at.Name of n) (λ n z. same_refl demanded (ComponentRest (at.Name of n) z)) more
  component_follows left (at.Value v) y c go byte =
      unrolled (Then (Leaf (value_rest p v) plain_item) Empty) (ComponentRest (at.Value v) y) c (byte_read at.Failed outside y c (member_step p (at.Value v) c)) (then_empty demanded (Leaf (value_rest p v) plain_item))
      (leaf_follows demanded at.Failed ComponentRest (λ w. same_refl demanded Never) y c (value_rest p) (value_push p) (value_reader p) plain_item Empty at.Value (λ q. with_item_given at.Over q)
      (λ s. back_empty (Leaf (value_rest p s) plain_item)) (λ q. refl) (λ q. same_refl demanded Empty) v byte)
  component_follows left (at.Index of r) y c go byte =
      number_follows demanded at.Failed ComponentRest (λ w. same_refl demanded Never) y c (index_mark of) (λ n. AfterIndex of) (λ s. at.Index of s) (λ n. with_item_given (after_index of) (index_item of n))
      (λ s. same_refl demanded (ComponentRest (at.Index of s) [])) (λ n. refl) (λ n. index_same of) r byte
  component_follows left (at.SegmentStart of r) y c go byte =
      let flagged : Bool = has p BulkMemory in
      number_follows demanded at.Failed ComponentRest (λ w. same_refl demanded Never) y c (segment_item flagged of) (SegmentRest p flagged of) (segment_unfinished flagged of) (segment_begun flagged of)
      (unfinished_same of flagged refl) (begun_marked y c flagged of) (begun_same y c flagged of) r byte
  component_follows left at.ElementKind y c go byte =
      byte_follows demanded at.Failed ComponentRest (λ w. same_refl demanded Never) y c 0x00 None Functions (at.Length length_of.Functions fresh, event.Nothing) refl (vector_fresh (Index element_function))
  component_follows left (at.GlobalType g) y c go byte =
      leaf_follows demanded at.Failed ComponentRest (λ w. same_refl demanded Never) y c (global_rest p) (global_type_push p) (global_reader p) global_part Constant at.GlobalType (λ t. with_item_given (at.Constant constant.Global start) (plain.Global t))
      (λ s. same_refl demanded (ComponentRest (at.GlobalType s) [])) (λ t. refl) (λ t. global_begins) g byte
  component_follows left (at.Constant of e) y c go byte = constant_follows of e y c go.1.0 (sound_opens p left e go.1.1) byte
  component_follows left (at.Length of r) y c go byte =
      number_follows demanded at.Failed ComponentRest (λ w. same_refl demanded Never) y c nothing_at (λ n. Times n (Listed of)) (λ s. at.Length of s) (λ n. (list_or_over of n, event.Nothing))
      (λ s. same_refl demanded (ComponentRest (at.Length of s) [])) (λ n. refl) (list_same of) r byte
  component_follows left (at.Data more) y c go byte = data_follows more y c byte
  component_follows left (at.EntrySize r) y c go byte =
      number_follows demanded at.Failed ComponentRest (λ w. same_refl demanded Never) y c (λ n. Some body) InSize at.EntrySize (λ n. with_item_given (member_in_entry n (entry.RunCount fresh)) plain.Body)
      (λ s. same_refl demanded (ComponentRest (at.EntrySize s) [])) (λ n. refl) size_same r byte
  component_follows left (at.Entry more q) y c go byte = entry_next more q y c (can_open more q go.1.1) byte (stays more q c byte go.1)
  component_follows left at.Over y c go byte = absurd go.1
  component_follows left (at.Failed w) y c go byte = absurd go.1

  pub component_has : (left : ℕ) (q : InMember) (y : List ℕ) → CanGo p left q → HasBytes demanded (ComponentRest q y)
  component_has left at.TypeForm y go = then_has demanded (MarkedByte 0x60 (Some new_type)) (Then (Vector (ValueType p param)) (ResultTypes p)) (byte_has demanded 0x60 (Some new_type))
  component_has left (at.ParamCount r) y go = counted_has demanded nothing_at (λ n. Then (Times n (ValueType p param)) (ResultTypes p)) r
  component_has left (at.Param more) y go = then_has demanded (Times (suc more) (ValueType p param)) (ResultTypes p) (then_has demanded (ValueType p param) (Times more (ValueType p param)) (value_has demanded p param))
  component_has left (at.ResultCount r) y go = counted_has demanded (λ n. Some (result_count n)) (λ n. Times n (ValueType p one_result)) r
  component_has left (at.ResultType more) y go = then_has demanded (ValueType p one_result) (Times more (ValueType p one_result)) (value_has demanded p one_result)
  component_has left (at.NameLength of r) y go = then_has demanded (TextLeft demanded r (name_item of)) (AfterName of) (text_has demanded (name_item of) r)
  component_has left (at.Name of more) y go = then_has demanded (NameLeft demanded y (suc more) (name_item of)) (AfterName of) (left_has demanded y more (name_item of))
  component_has left (at.Value v) y go = leaf_has demanded (value_rest p) (value_push p) (value_reader p) plain_item v
  component_has left (at.Index of r) y go = counted_has demanded (index_mark of) (λ n. AfterIndex of) r
  component_has left (at.SegmentStart of r) y go = counted_has demanded (segment_item (has p BulkMemory) of) (SegmentRest p (has p BulkMemory) of) r
  component_has left at.ElementKind y go = then_has demanded (MarkedByte 0x00 None) Functions (byte_has demanded 0x00 None)
  component_has left (at.GlobalType g) y go = then_has demanded (Leaf (global_rest p g) global_part) Constant (leaf_has demanded (global_rest p) (global_type_push p) (global_reader p) global_part g)
  component_has left (at.Constant of e) y go = then_has demanded (ExpressionRest p const_op e) (AfterConstant of) (λ s k h. expression_has p const_op e go.1.0 k h)
  component_has left (at.Length of r) y go = counted_has demanded nothing_at (λ n. Times n (Listed of)) r
  component_has left (at.Data more) y go = then_has demanded DataByte (Times more DataByte) data_has
  component_has left (at.EntrySize r) y go = counted_has demanded (λ n. Some body) InSize r
  component_has left (at.Entry more q) y go = sized_has demanded (Entry (EntryRest demanded p q)) more
  component_has left at.Over y go = absurd go.1
  component_has left (at.Failed w) y go = absurd go.1
