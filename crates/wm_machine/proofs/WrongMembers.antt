-- BadOpcode, Float and BadByte: a member, and the machine, refuses a byte that does not begin the required thing.
use Rattle.std.proofs.Common.{◌≡◌, ℕ, zero, suc, ◌<◌, ◌≤◌, ◌^◌, List, [], ◌∷◌, ◌++◌, Some, None, Result, Ok, Err, length, refl, sym, ◌∙◌, ap, subst, arith, nat_eq, nat_lt, append_assoc}
use Rattle.wm_machine.proofs.SegmentStarts.{active_element, indexed_element, active_data, passive_data, indexed_data}
use Rattle.std.proofs.Common.{Bool}
use Rattle.wm_syntax.specs.Profiles.{has}
use Rattle.wm_syntax.specs.declared.profile.Feature.TheVariants.{BulkMemory}
use Rattle.wm_machine.proofs.SegmentStarts.{unfinished_any, begun_state}
use Rattle.wm_machine.specs.exact.MemberSteps.{segment_begun, segment_unfinished}
use Rattle.std.proofs.lemmas.Bool.{cond_both, eqb-false}
use Rattle.std.specs.Prelude.{slice_index}
use Rattle.wm_syntax.specs.declared.numbers.Step.{Step}
use Rattle.wm_syntax.specs.declared.numbers.Step.TheVariants as step
use Rattle.wm_syntax.specs.inner.Numbers.{Partial}
use Rattle.wm_syntax.specs.exact.Reading.{fresh, unsigned_push}
use Rattle.wm_syntax.specs.Spelling.{Form, AreBytes}
use Rattle.wm_syntax.specs.Types.{SpellsValType}
use Rattle.wm_syntax.specs.Profiles.{HasType}
use Rattle.wm_syntax.specs.declared.why.Why.{Why}
use Rattle.wm_syntax.specs.declared.why.Why.TheVariants as why
use Rattle.wm_syntax.specs.declared.profile.Profile.{Profile}
use Rattle.wm_syntax.specs.declared.types.ValType.{ValType}
use Rattle.wm_syntax.specs.declared.instructions.Op.{Op}
use Rattle.wm_syntax.specs.declared.instructions.Op.TheVariants as op
use Rattle.wm_machine.specs.declared.machine.NameKind.{NameKind}
use Rattle.wm_machine.specs.declared.machine.Counts.{Counts}
use Rattle.wm_machine.specs.declared.machine.InCustom.{InCustom}
use Rattle.wm_machine.specs.declared.machine.InCustom.TheVariants as custom
use Rattle.wm_machine.specs.declared.machine.Machine.{Machine}
use Rattle.wm_machine.specs.declared.machine.Machine.TheVariants as machine
use Rattle.wm_machine.specs.declared.machine.Plain.TheVariants as plain
use Rattle.wm_machine.specs.declared.machine.Event.{Event}
use Rattle.wm_machine.specs.declared.machine.Event.TheVariants as event
use Rattle.wm_machine.specs.declared.step.reading.Reading.{Reading}
use Rattle.wm_machine.specs.declared.step.reading.Reading.TheVariants.{More, Done, Bad}
use Rattle.wm_machine.specs.declared.step.ops.InOp.{InOp}
use Rattle.wm_machine.specs.declared.step.values.InRun.{InRun}
use Rattle.wm_machine.specs.declared.step.expressions.InExpression.{InExpression}
use Rattle.wm_machine.specs.declared.step.expressions.InExpression.TheVariants as expression
use Rattle.wm_machine.specs.declared.machine.member.SectionKind.{SectionKind}
use Rattle.wm_machine.specs.declared.machine.member.ConstantOf.{ConstantOf}
use Rattle.wm_machine.specs.declared.machine.member.ConstantOf.TheVariants as constant
use Rattle.wm_machine.specs.declared.machine.member.LengthOf.{LengthOf}
use Rattle.wm_machine.specs.declared.machine.member.LengthOf.TheVariants as length_of
use Rattle.wm_machine.specs.declared.machine.member.InEntry.{InEntry}
use Rattle.wm_machine.specs.declared.machine.member.InEntry.TheVariants as entry
use Rattle.wm_machine.specs.declared.machine.member.InMember.{InMember}
use Rattle.wm_machine.specs.declared.machine.member.InMember.TheVariants as at
use Rattle.wm_machine.specs.Items.{Item, param, one_result, new_type, const_op, body_op, element_function, global as global_part, Marks}
use Rattle.wm_machine.specs.MarkedForms.{MarkedForm, MarkedByte, Then, Times, Leaf, Index, Vector, Sized, Entry}
use Rattle.wm_machine.specs.Sections.{Those, header}
use Rattle.wm_machine.specs.Grammar.{ModuleForm, Run, Expression, ValueType, ResultTypes, loose, strict}
use Rattle.wm_machine.specs.Fronts.{IsFront}
use Rattle.wm_machine.specs.exact.Members.{rank_of}
use Rattle.wm_machine.specs.exact.ValueSteps.{value_type_of, global_type_push, run_push, value_push}
use Rattle.wm_machine.specs.exact.OpSteps.{on_answer, op_push}
use Rattle.wm_machine.specs.exact.ExpressionSteps.{start, after_op, after_label, after_reading, expression_failed, expression_step}
use Rattle.wm_machine.specs.exact.MemberSteps.{on_number, on_value, on_type, with_item_given, after_param, after_result, after_length, name_step, index_item, after_index, constant_over, after_constant, data_or_over, list_or_over, runs_or_body, entry_after_op, entry_step, member_in_entry, member_step}
use Rattle.wm_machine.specs.exact.Steps.{custom_after_length, custom_step, header_step, step_of}
use Rattle.wm_machine.specs.exact.Runs.{plain_item, MachineState, state_after, marks, state_at_start}
use Rattle.wm_machine.specs.exact.Live.{IsRefused}
use Rattle.wm_machine.specs.Meanings.{Wanted, spelled, a_value_type, a_function_type, an_element_kind, MustStand}
use Rattle.wm_machine.proofs.FirstBytes.{head_same}
use Rattle.wm_machine.proofs.OpRest.{op_rest, op_reader}
use Rattle.wm_machine.proofs.ValueBytes.{global_rest, global_reader, run_rest, run_reader, value_rest, value_reader}
use Rattle.wm_machine.proofs.ExpressionRest.{ExpressionRest}
use Rattle.wm_machine.proofs.EntryBytes.{EntryRest, run_part}
use Rattle.wm_machine.proofs.MemberBytes.{OneOf, AfterConstant, ComponentRest}
use Rattle.wm_machine.proofs.OpenMembers.{Comes, some_then, some_times, some_vector, some_type, some_results, some_whole, some_runs, some_one, after_constant as constant_comes}
use Rattle.wm_machine.proofs.WholeMachine.{Later, Within, MachineRest, begin_to, begin_from, run_to, run_from}
use Rattle.wm_machine.proofs.ExpressionSound.{SoundExpression}
use Rattle.wm_machine.proofs.MemberSound.{StandsEntry as SoundEntry, Stands as SoundMember}
use Rattle.wm_machine.proofs.MachineStates.{Fits}
use Rattle.wm_machine.proofs.MachineAndSink.{begin_fits}
use Rattle.wm_machine.proofs.Fronts.{some_later}
use Rattle.wm_machine.proofs.OneFront.{Agree, modules_agree}
use Rattle.wm_machine.proofs.AfterTheHeader.{IsLive, step_at}
use Rattle.wm_machine.proofs.ItemFronts.{StandsIn, StandsAt, StandsEntry, op_stands, label_stands, param_stands, result_stands, name_stands, functions_stand, data_stand, index_stands, over_stands, runs_stand}
use Rattle.wm_machine.proofs.MustStand.{PartsCan, PartsBegin, leaf_begins, then_begins, sized_begins, entry_begins, led_begins, type_begins, byte_begins}
use Rattle.wm_machine.proofs.CodesAtHand.{CodeExpression, CodeEntry, CodeMember, CodeMachine, run_code}
use Rattle.wm_machine.proofs.WrongBytes.{Says, says_map, as_named, type_says, At, run_says, value_says, global_says, op_says, none_begins, no_type_begins}
use Rattle.wm_machine.specs.declared.machine.member.SegmentKind.{SegmentKind}

-- what must stand in a member must stand in its section
pub section_begins : (p : Profile) (W : Form ℕ) (of : SectionKind) (counts : Counts) (more left : ℕ) (q : InMember) (y : List ℕ) → PartsBegin W (ComponentRest loose p q y) (ComponentRest strict p q y)
    → PartsBegin W (MachineRest loose p (machine.Section of counts more left q) y) (MachineRest strict p (machine.Section of counts more left q) y)
section_begins p W of counts more left q y v =
    let Q : Type 0 → MarkedForm = λ d. Times left (OneOf d p of) in
    let t : Comes (Q loose) = some_times left (OneOf loose p of) (some_one p of) in
    let L : MarkedForm = Within loose p of left q y in
    let S : MarkedForm = Within strict p of left q y in
    then_begins W (Sized loose (suc more) L) (Sized strict (suc more) S) (Later loose p (rank_of of) counts) (Later strict p (rank_of of) counts)
    (sized_begins W (suc more) L S (then_begins W (ComponentRest loose p q y) (ComponentRest strict p q y) (Q loose) (Q strict) v t)) (some_later p (rank_of of) counts)

-- there are such things, and none begins with the byte
pub record NoneBegins (p : Profile) (c : ℕ) (x : Wanted) : Type 0 where
  pub some : (b : List ℕ) × spelled p x b
  pub none : (more : List ℕ) → spelled p x (c ∷ more) → ⊥

-- such a thing must stand here
abbrev pub Here : Profile → ℕ → MarkedForm → MarkedForm → Wanted → Type 0
Here p c L S x = PartsBegin (spelled p x) L S × NoneBegins p c x

-- what is refused says so of the byte
module _ {M : Type 0} (fail : Why → M) (Stands : M → Type 0) (apart : (m : M) (w : Why) → Stands m → m ≡ fail w → ⊥) (same : (v w : Why) → fail v ≡ fail w → v ≡ w) (b : List ℕ) (F : Wanted → Type 0) (c : ℕ) where
  abbrev pub Good : M → Type 0
  Good m = (w : Why) → m ≡ fail w → Says b F c w

  pub stands_good : (m : M) → Stands m → Good m
  stands_good m s w e = absurd (apart m w s e)

  pub failed_good : (v : Why) → Says b F c v → Good (fail v)
  failed_good v s w e = as_named b F c v w s (same v w e)

  pub number_good : (q : Step ℕ × Partial) (more : Partial → M) (done : ℕ → M × Event) → ((s : Partial) → Stands (more s)) → ((n : ℕ) → Good (done n).0) → Good (on_number q more done fail).0
  number_good (step.More, s) more done a b = stands_good (more s) (a s)
  number_good (step.Done n, s) more done a b = b n
  number_good (step.Bad, s) more done a b = failed_good why.BadNumber tt

  pub value_good : {R X : Type 0} (q : Reading R X) (more : R → M) (done : X → M × Event) → ((s : R) → Stands (more s)) → ((x : X) → Stands (done x).0) → ((w : Why) → q ≡ Bad w → Says b F c w) → Good (on_value q more done fail).0
  value_good (More s) more done a b h = stands_good (more s) (a s)
  value_good (Done x) more done a b h = stands_good (done x).0 (b x)
  value_good (Bad w) more done a b h = failed_good w (h w refl)

  pub type_good : (q : Result ValType Why) (done : ValType → M × Event) → ((t : ValType) → Stands (done t).0) → ((w : Why) → q ≡ Err w → Says b F c w) → Good (on_type q done fail).0
  type_good (Ok t) done b h = stands_good (done t).0 (b t)
  type_good (Err w) done b h = failed_good w (h w refl)

-- expressions
in_apart : (e : InExpression) (w : Why) → StandsIn e → e ≡ expression.Failed w → ⊥
in_apart (expression.Failed v) w s e = s
in_apart e w s i = cc

in_same : (v w : Why) → expression.Failed v ≡ expression.Failed w → v ≡ w
in_same v w e = cc

reading_bad : (depth : ℕ) (a : Reading InOp Op) (w : Why) → (after_reading depth a).0 ≡ expression.Failed w → a ≡ Bad w
reading_bad depth (More s) w e = absurd (cc)
reading_bad depth (Done o) w e = absurd (in_apart (after_op depth o) w (op_stands depth o) e)
reading_bad depth (Bad v) w e = ap Bad (in_same v w e)

module _ (p : Profile) (b : List ℕ) (c : ℕ) (byte : c < 2 ^ 8) where
  abbrev InOps : (Op → Item) → InExpression → Wanted → Type 0
  InOps part e = Here p c (ExpressionRest p part e) (ExpressionRest p part e)

  label_says : (F : Wanted → Type 0) (depth left : ℕ) (q : Step ℕ × Partial) (w : Why)
      → (on_answer q (λ s. (expression.Label depth left s, None)) (λ l. (after_label depth left, Some (op.Label l))) (expression_failed why.BadNumber)).0 ≡ expression.Failed w → Says b F c w
  label_says F depth left (step.More, s) w e = absurd (cc)
  label_says F depth left (step.Done v, s) w e = absurd (in_apart (after_label depth left) w (label_stands depth left) e)
  label_says F depth left (step.Bad, s) w e = as_named b F c why.BadNumber w tt (in_same why.BadNumber w e)

  expression_says : (part : Op → Item) (left : ℕ) (e : InExpression) → SoundExpression p left e → CodeExpression e b → (w : Why) → (expression_step p e c).0 ≡ expression.Failed w → Says b (InOps part e) c w
  expression_says part left (expression.Op depth r) sound code w e =
      let bad : op_push p r c ≡ Bad w = reading_bad depth (op_push p r c) w e in
      says_map b (At p b c w (op_rest p r)) (InOps part (expression.Op depth r)) c
      (λ x v. (led_begins (spelled p x) p part depth r v, record { some = v.some; none = none_begins (op_rest p) (op_push p) (op_reader p) (spelled p x) r c byte w bad v })) w (op_says p b c w byte r sound.0 code bad)
  expression_says part left (expression.Label depth labels r) sound code w e = label_says (InOps part (expression.Label depth labels r)) depth labels (unsigned_push 32 r c) w e
  expression_says part left expression.Over sound code w e = as_named b (InOps part expression.Over) c why.SectionEnd w tt (in_same why.SectionEnd w e)
  expression_says part left (expression.Failed v) sound code w e = as_named b (InOps part (expression.Failed v)) c why.SectionEnd w tt (in_same why.SectionEnd w e)

-- code entries
entry_apart : (q : InEntry) (w : Why) → StandsEntry q → q ≡ entry.Failed w → ⊥
entry_apart (entry.Failed v) w s e = s
entry_apart q w s e = cc

entry_same : (v w : Why) → entry.Failed v ≡ entry.Failed w → v ≡ w
entry_same v w e = cc

at_apart : (q : InMember) (w : Why) → StandsAt q → q ≡ at.Failed w → ⊥
at_apart (at.Failed v) w s e = s
at_apart q w s e = cc

at_same : (v w : Why) → at.Failed v ≡ at.Failed w → v ≡ w
at_same v w e = cc

list_stands : (of : LengthOf) (n : ℕ) → StandsAt (list_or_over of n)
list_stands length_of.Functions n = functions_stand n
list_stands length_of.Bytes n = data_stand n

length_stands : (of : NameKind) (n : ℕ) → StandsAt (after_length of n).0
length_stands of zero = name_stands of
length_stands of (suc n) = tt

step_stands : (of : NameKind) (n : ℕ) → StandsAt (name_step of n).0
step_stands of zero = name_stands of
step_stands of (suc n) = tt

module _ (b : List ℕ) (F : Wanted → Type 0) (c : ℕ) where
  abbrev GoodAt : InMember → Type 0
  GoodAt = Good at.Failed StandsAt at_apart at_same b F c

  abbrev GoodEntry : InEntry → Type 0
  GoodEntry = Good entry.Failed StandsEntry entry_apart entry_same b F c

  stays : (m : InMember) → StandsAt m → GoodAt m
  stays = stands_good at.Failed StandsAt at_apart at_same b F c

  fails : (v : Why) → Says b F c v → GoodAt (at.Failed v)
  fails = failed_good at.Failed StandsAt at_apart at_same b F c

  numbers : (q : Step ℕ × Partial) (more : Partial → InMember) (done : ℕ → InMember × Event) → ((s : Partial) → StandsAt (more s)) → ((n : ℕ) → GoodAt (done n).0) → GoodAt (on_number q more done at.Failed).0
  numbers = number_good at.Failed StandsAt at_apart at_same b F c

  front_good : (flagged : Bool) (of : SegmentKind) (q : Step ℕ × Partial) → GoodAt (on_number q (segment_unfinished flagged of) (segment_begun flagged of) at.Failed).0
  front_good flagged of (step.More, s) = unfinished_any GoodAt flagged of s (stays (at.SegmentStart of s) tt) (fails why.BadNumber tt)
  front_good flagged of (step.Done n, s) =
      begun_state GoodAt (stays active_element tt) (stays at.ElementKind tt) (stays indexed_element tt) (stays active_data tt) (stays passive_data tt) (stays indexed_data tt) (fails why.BadNumber tt) flagged of n
  front_good flagged of (step.Bad, s) = fails why.BadNumber tt

  body_good : (e : InExpression) → ((w : Why) → e ≡ expression.Failed w → Says b F c w) → GoodEntry (entry_after_op e)
  body_good expression.Over h = stands_good entry.Failed StandsEntry entry_apart entry_same b F c entry.Over tt
  body_good (expression.Failed v) h = failed_good entry.Failed StandsEntry entry_apart entry_same b F c v (h v refl)
  body_good (expression.Op depth r) h = stands_good entry.Failed StandsEntry entry_apart entry_same b F c (entry.Body (expression.Op depth r)) tt
  body_good (expression.Label depth n r) h = stands_good entry.Failed StandsEntry entry_apart entry_same b F c (entry.Body (expression.Label depth n r)) tt

  constant_good : (of : ConstantOf) (e : InExpression) → ((w : Why) → e ≡ expression.Failed w → Says b F c w) → GoodAt (after_constant of e)
  constant_good of expression.Over h = stays (constant_over of) (over_stands of)
  constant_good of (expression.Failed v) h = fails v (h v refl)
  constant_good of (expression.Op depth r) h = stays (at.Constant of (expression.Op depth r)) tt
  constant_good of (expression.Label depth n r) h = stays (at.Constant of (expression.Label depth n r)) tt

  framed_good : (n : ℕ) (q : InEntry) → GoodEntry q → GoodAt (member_in_entry n q)
  framed_good n (entry.Failed v) h = fails v (h v refl)
  framed_good zero entry.Over h = stays at.Over tt
  framed_good (suc n) entry.Over h = fails why.BodyEnd tt
  framed_good zero (entry.RunCount r) h = fails why.BodyEnd tt
  framed_good zero (entry.Run more r) h = fails why.BodyEnd tt
  framed_good zero (entry.Body x) h = fails why.BodyEnd tt
  framed_good (suc n) (entry.RunCount r) h = stays (at.Entry n (entry.RunCount r)) tt
  framed_good (suc n) (entry.Run more r) h = stays (at.Entry n (entry.Run more r)) tt
  framed_good (suc n) (entry.Body x) h = stays (at.Entry n (entry.Body x)) tt

  fresh_good : (n : ℕ) → GoodAt (member_in_entry n (entry.RunCount fresh))
  fresh_good n = framed_good n (entry.RunCount fresh) (stands_good entry.Failed StandsEntry entry_apart entry_same b F c (entry.RunCount fresh) tt)

module _ (p : Profile) (b : List ℕ) (c : ℕ) (byte : c < 2 ^ 8) where
  abbrev InEntries : InEntry → Wanted → Type 0
  InEntries q = Here p c (EntryRest loose p q) (EntryRest strict p q)

  abbrev InMembers : InMember → List ℕ → Wanted → Type 0
  InMembers q y = Here p c (ComponentRest loose p q y) (ComponentRest strict p q y)

  -- a value, and what follows it
  then_here : (L S Q R : MarkedForm) → Comes Q → (x : Wanted) → Here p c L S x → Here p c (Then L Q) (Then S R) x
  then_here L S Q R q x h = (then_begins (spelled p x) L S Q R h.0 q, h.1)

  run_here : (r : InRun) (w : Why) → run_push p r c ≡ Bad w → (x : Wanted) → At p b c w (run_rest p r) x → Here p c (Leaf (run_rest p r) run_part) (Leaf (run_rest p r) run_part) x
  run_here r w e x v = (leaf_begins (spelled p x) (run_rest p r) run_part v, record { some = v.some; none = none_begins (run_rest p) (run_push p) (run_reader p) (spelled p x) r c byte w e v })

  entry_says : (left : ℕ) (q : InEntry) → SoundEntry p left q → CodeEntry q b → GoodEntry b (InEntries q) c (entry_step p q c).0
  entry_says left (entry.RunCount r) sound code =
      number_good entry.Failed StandsEntry entry_apart entry_same b (InEntries (entry.RunCount r)) c (unsigned_push 32 r c) entry.RunCount (λ n. (runs_or_body n, event.Nothing)) (λ s. tt)
      (λ n. stands_good entry.Failed StandsEntry entry_apart entry_same b (InEntries (entry.RunCount r)) c (runs_or_body n) (runs_stand n))
  entry_says left (entry.Run more r) sound code =
      let L : MarkedForm = Leaf (run_rest p r) run_part in
      let Q : MarkedForm = Then (Times more (Run p)) (Expression p body_op) in
      value_good entry.Failed StandsEntry entry_apart entry_same b (InEntries (entry.Run more r)) c (run_push p r c) (λ s. entry.Run more s) (λ v. with_item_given (runs_or_body more) (plain.Locals v.0 v.1)) (λ s. tt) (λ v. runs_stand more)
      (λ w e. says_map b (At p b c w (run_rest p r)) (InEntries (entry.Run more r)) c (λ x v. then_here L L Q Q (some_runs p more) x (run_here r w e x v)) w (run_says p b c w r e))
  entry_says left (entry.Body e) sound code = body_good b (InEntries (entry.Body e)) c (expression_step p e c).0 (expression_says p b c byte body_op left e sound.1 code)
  entry_says left entry.Over sound code = failed_good entry.Failed StandsEntry entry_apart entry_same b (InEntries entry.Over) c why.BodyEnd tt
  entry_says left (entry.Failed v) sound code = failed_good entry.Failed StandsEntry entry_apart entry_same b (InEntries (entry.Failed v)) c why.BodyEnd tt

  -- members
  type_here : (part : ValType → Item) (w : Why) → value_type_of p c ≡ Err w → Here p c (ValueType p part) (ValueType p part) a_value_type
  type_here part w e = (leaf_begins (spelled p a_value_type) (Those (HasType p) SpellsValType) part (type_begins p), record { some = (type_begins p).some; none = no_type_begins p c w e })

  types_say : (part : ValType → Item) (F : Wanted → Type 0) → (Here p c (ValueType p part) (ValueType p part) a_value_type → F a_value_type) → (w : Why) → value_type_of p c ≡ Err w → Says b F c w
  types_say part F f w e = type_says b F c w p (f (type_here part w e)) e

  form_says : GoodAt b (InMembers at.TypeForm []) c (member_step p at.TypeForm c).0
  form_says =
      let T : MarkedForm = MarkedByte 0x60 (Some new_type) in
      let Q : MarkedForm = Then (Vector (ValueType p param)) (ResultTypes p) in
      let q : Comes Q = some_then (Vector (ValueType p param)) (ResultTypes p) (some_vector (ValueType p param) (some_type p param)) (some_results p) in
      cond_both (nat_eq c 0x60) _ _ (λ (m : InMember × Event). GoodAt b (InMembers at.TypeForm []) c m.0) (λ _. stays b (InMembers at.TypeForm []) c (at.ParamCount fresh) tt)
      (λ a. fails b (InMembers at.TypeForm []) c why.BadByte (a_function_type, then_here T T Q Q q a_function_type (byte_begins p 0x60 (Some new_type), record { some = (0x60 ∷ [], refl); none = λ more e. eqb-false c 0x60 a (head_same c 0x60 more [] e) }), tt))

  member_says : (left : ℕ) (q : InMember) (y : List ℕ) → SoundMember p left q → CodeMember q b → GoodAt b (InMembers q y) c (member_step p q c).0
  member_says left at.TypeForm y sound code = form_says
  member_says left (at.ParamCount r) y sound code = let F = InMembers (at.ParamCount r) y in numbers b F c (unsigned_push 32 r c) at.ParamCount (λ n. (after_param n, event.Nothing)) (λ s. tt) (λ n. stays b F c (after_param n) (param_stands n))
  member_says left (at.Param more) y sound code =
      let T : MarkedForm = ValueType p param in
      let F = InMembers (at.Param more) y in
      type_good at.Failed StandsAt at_apart at_same b F c (value_type_of p c) (λ t. with_item_given (after_param more) (plain.Param t)) (λ t. param_stands more)
      (types_say param F (λ h. then_here (Times (suc more) T) (Times (suc more) T) (ResultTypes p) (ResultTypes p) (some_results p) a_value_type (then_here T T (Times more T) (Times more T) (some_times more T (some_type p param)) a_value_type h)))
  member_says left (at.ResultCount r) y sound code =
      let F = InMembers (at.ResultCount r) y in
      numbers b F c (unsigned_push 32 r c) at.ResultCount (λ n. with_item_given (after_result n) (plain.ResultCount n)) (λ s. tt) (λ n. stays b F c (after_result n) (result_stands n))
  member_says left (at.ResultType more) y sound code =
      let T : MarkedForm = ValueType p one_result in
      let F = InMembers (at.ResultType more) y in
      type_good at.Failed StandsAt at_apart at_same b F c (value_type_of p c) (λ t. with_item_given (after_result more) (plain.OneResult t)) (λ t. result_stands more)
      (types_say one_result F (λ h. then_here T T (Times more T) (Times more T) (some_times more T (some_type p one_result)) a_value_type h))
  member_says left (at.NameLength of r) y sound code = let F = InMembers (at.NameLength of r) y in numbers b F c (unsigned_push 32 r c) (λ s. at.NameLength of s) (after_length of) (λ s. tt) (λ n. stays b F c (after_length of n).0 (length_stands of n))
  member_says left (at.Name of more) y sound code = stays b (InMembers (at.Name of more) y) c (name_step of more).0 (step_stands of more)
  member_says left (at.Value v) y sound code =
      let F = InMembers (at.Value v) y in
      value_good at.Failed StandsAt at_apart at_same b F c (value_push p v c) at.Value (λ q. with_item_given at.Over q) (λ s. tt) (λ x. tt)
      (λ w e. says_map b (At p b c w (value_rest p v)) F c (λ x s. (leaf_begins (spelled p x) (value_rest p v) plain_item s, record { some = s.some; none = none_begins (value_rest p) (value_push p) (value_reader p) (spelled p x) v c byte w e s })) w (value_says p b c w v e))
  member_says left (at.Index of r) y sound code =
      let F = InMembers (at.Index of r) y in
      numbers b F c (unsigned_push 32 r c) (λ s. at.Index of s) (λ n. with_item_given (after_index of) (index_item of n)) (λ s. tt) (λ n. stays b F c (after_index of) (index_stands of))
  member_says left (at.SegmentStart of r) y sound code = front_good b (InMembers (at.SegmentStart of r) y) c (has p BulkMemory) of (unsigned_push 32 r c)
  member_says left at.ElementKind y sound code =
      let F = InMembers at.ElementKind y in
      let T : MarkedForm = MarkedByte 0x00 None in
      let Q : MarkedForm = Vector (Index element_function) in
      cond_both (nat_eq c 0x00) _ _ (λ (m : InMember × Event). GoodAt b F c m.0) (λ _. stays b F c (at.Length length_of.Functions fresh) tt)
      (λ a. fails b F c why.BadByte (an_element_kind, then_here T T Q Q (constant_comes p constant.Element) an_element_kind (byte_begins p 0x00 None, record { some = (0x00 ∷ [], refl); none = λ more e. eqb-false c 0x00 a (head_same c 0x00 more [] e) }), tt))
  member_says left (at.GlobalType g) y sound code =
      let L : MarkedForm = Leaf (global_rest p g) global_part in
      let Q : MarkedForm = Expression p const_op in
      let F = InMembers (at.GlobalType g) y in
      value_good at.Failed StandsAt at_apart at_same b F c (global_type_push p g c) at.GlobalType (λ t. with_item_given (at.Constant constant.Global start) (plain.Global t)) (λ s. tt) (λ x. tt)
      (λ w e. says_map b (At p b c w (global_rest p g)) F c
      (λ x s. then_here L L Q Q (some_whole p const_op) x (leaf_begins (spelled p x) (global_rest p g) global_part s, record { some = s.some; none = none_begins (global_rest p) (global_type_push p) (global_reader p) (spelled p x) g c byte w e s })) w (global_says p b c w g e))
  member_says left (at.Constant of e) y sound code =
      let L : MarkedForm = ExpressionRest p const_op e in
      let F = InMembers (at.Constant of e) y in
      constant_good b F c of (expression_step p e c).0 (λ w i.
      says_map b (Here p c L L) F c (λ x h. then_here L L (AfterConstant loose p of) (AfterConstant strict p of) (constant_comes p of) x h) w (expression_says p b c byte const_op left e sound.1 code w i))
  member_says left (at.Length of r) y sound code =
      let F = InMembers (at.Length of r) y in
      numbers b F c (unsigned_push 32 r c) (λ s. at.Length of s) (λ n. (list_or_over of n, event.Nothing)) (λ s. tt) (λ n. stays b F c (list_or_over of n) (list_stands of n))
  member_says left (at.Data more) y sound code = stays b (InMembers (at.Data more) y) c (data_or_over more) (data_stand more)
  member_says left (at.EntrySize r) y sound code =
      let F = InMembers (at.EntrySize r) y in
      numbers b F c (unsigned_push 32 r c) at.EntrySize (λ n. with_item_given (member_in_entry n (entry.RunCount fresh)) plain.Body) (λ s. tt) (fresh_good b F c)
  member_says left (at.Entry more q) y sound code =
      let L : MarkedForm = EntryRest loose p q in
      let S : MarkedForm = EntryRest strict p q in
      let F = InMembers (at.Entry more q) y in
      framed_good b F c more (entry_step p q c).0 (λ w e.
      says_map b (InEntries q) F c (λ x h. (sized_begins (spelled p x) (suc more) (Entry L) (Entry S) (entry_begins (spelled p x) L S h.0), h.1)) w (entry_says (suc more) q sound.1 code w e))
  member_says left at.Over y sound code = fails b (InMembers at.Over y) c why.SectionEnd tt
  member_says left (at.Failed v) y sound code = fails b (InMembers (at.Failed v) y) c why.SectionEnd tt

  -- the machine
  abbrev pub InMachine : Machine → List ℕ → Wanted → Type 0
  InMachine m y = Here p c (MachineRest loose p m y) (MachineRest strict p m y)

  section_says : (of : SectionKind) (counts : Counts) (more left : ℕ) (q : InMember) (y : List ℕ) → SoundMember p (suc more) q → CodeMember q b → (w : Why) → (member_step p q c).0 ≡ at.Failed w → Says b (InMachine (machine.Section of counts more left q) y) c w
  section_says of counts more left q y sound code w e =
      says_map b (InMembers q y) (InMachine (machine.Section of counts more left q) y) c (λ x h. (section_begins p (spelled p x) of counts more left q y h.0, h.1)) w (member_says (suc more) q y sound code w e)

-- elsewhere it is refused by other names
custom_says : (S : Why → Type 0) → S why.BadNumber → S why.SectionEnd → (c : ℕ) (q : InCustom) (w : Why) → (custom_step q c).0 ≡ custom.Failed w → S w
custom_says S n s c (custom.Length r) w e = go (unsigned_push 32 r c) e
  where
    go : (q : Step ℕ × Partial) → (on_number q custom.Length custom_after_length custom.Failed).0 ≡ custom.Failed w → S w
    go (step.More, s) e = absurd (cc)
    go (step.Done zero, s) e = absurd (cc)
    go (step.Done (suc n), s) e = absurd (cc)
    go (step.Bad, s) e = let same : why.BadNumber ≡ w = cc in subst S same n
custom_says S n s c (custom.Name zero) w e = absurd (cc)
custom_says S n s c (custom.Name (suc m)) w e = absurd (cc)
custom_says S n s c custom.Skip w e = absurd (cc)
custom_says S n s c (custom.Failed v) w e = let same : why.SectionEnd ≡ w = cc in subst S same s

module _ (S : Why → Type 0) where
  abbrev ByName : Machine → Type 0
  ByName m = (w : Why) → m ≡ machine.Refused w → S w

  by_name : (v : Why) → S v → ByName (machine.Refused v)
  by_name v s w e = let same : v ≡ w = cc in subst S same s

  lives : (m : Machine) → IsLive m → ByName m
  lives (machine.Refused v) i w e = absurd i
  lives m i w e = absurd (cc)

  header_says : S why.Magic → S why.Version → (n c : ℕ) → ByName (header_step n c).0
  header_says a b n c =
      let P : Machine × Event → Type 0 = λ q. ByName q.0 in
      cond_both (nat_lt n 8) _ _ P
      (λ _. cond_both (nat_eq c (slice_index header n)) _ _ P
      (λ _. cond_both (nat_lt n 7) _ _ P (λ _ w e. absurd (cc)) (λ _ w e. absurd (cc)))
      (λ _. cond_both (nat_lt n 4) _ _ P (λ _. by_name why.Magic a) (λ _. by_name why.Version b)))
      (λ _. by_name why.Version b)

-- a front of the bytes of a module
agree_long : (a : List ℕ) (j : Marks) → Agree a j a j → length a ≤ length j
agree_long [] j h = omega arith
agree_long (c ∷ a) [] h = absurd h
agree_long (c ∷ a) (m ∷ j) h = let l : length a ≤ length j = agree_long a j (h refl).1 in omega (arith, l)

cut_marks : (b r : List ℕ) (k : Marks) → length (b ++ r) ≤ length k → (j l : Marks) × (k ≡ j ++ l) × (length b ≡ length j)
cut_marks [] r k h = ([], k, refl, refl)
cut_marks (c ∷ b) r [] h = absurd (omega (arith, h))
cut_marks (c ∷ b) r (m ∷ k) h = let s = cut_marks b r k (omega (arith, h)) in (m ∷ s.0, s.1, ap (λ y. m ∷ y) s.2, ap suc s.3)

pub front_of : (p : Profile) (b r : List ℕ) (k : Marks) → ModuleForm loose p (b ++ r) k → (j : Marks) × IsFront p b j
front_of p b r k m =
    let s = cut_marks b r k (agree_long (b ++ r) k (modules_agree p (b ++ r) k (b ++ r) k m m)) in
    (s.0, record { rest = r; rest_marks = s.1; same = s.3; whole = subst (ModuleForm loose p (b ++ r)) s.2 m })

module _ (p : Profile) (b : List ℕ) (bytes : AreBytes b) where
  abbrev Now : MachineState
  Now = state_after p state_at_start b

  pub can_stand : (W : Form ℕ) → PartsCan W (MachineRest loose p Now.machine Now.name) → (y : List ℕ) → W y → (k : Marks) × IsFront p (b ++ y) k
  can_stand W can y s =
      let h = can y s in
      let k : Marks = marks p state_at_start b ++ h.1 in
      let whole : ModuleForm loose p (b ++ (y ++ h.0)) k = begin_from loose p (b ++ (y ++ h.0)) k (run_from loose p state_at_start b (y ++ h.0) h.1 bytes begin_fits h.2) in
      front_of p (b ++ y) h.0 k (subst (λ z. ModuleForm loose p z k) (sym (append_assoc b y h.0)) whole)

  pub must_stand : (W : Form ℕ) → PartsBegin W (MachineRest loose p Now.machine Now.name) (MachineRest strict p Now.machine Now.name) → MustStand p W b
  must_stand W v = record {
    can = can_stand W v.can;
    must = λ more k i.
        let g = run_to strict p tt state_at_start b more k bytes begin_fits (begin_to strict p (b ++ more) k i) in
        v.must more g.0 g.2;
  }

  -- such a thing must stand after these bytes, and none begins with the byte
  abbrev pub InInput : ℕ → Wanted → Type 0
  InInput c x = MustStand p (spelled p x) b × NoneBegins p c x

  pub byte_says : (c : ℕ) → c < 2 ^ 8 → (m : Machine) → m ≡ Now.machine → Fits p m → (IsRefused m → ⊥) → (w : Why) → (step_of p m c).0 ≡ machine.Refused w → Says b (InInput c) c w
  byte_says c byte (machine.Header n) is fits live = header_says (Says b (InInput c) c) tt tt n c
  byte_says c byte m is fits live =
      let S : Why → Type 0 = Says b (InInput c) c in
      step_at (ByName S) (lives S) (by_name S why.SectionEnd tt) (by_name S why.BadNumber tt) (by_name S why.SectionId tt) (by_name S why.SectionOrder tt) (by_name S why.CodeCount tt) (by_name S why.DataCount tt) p m c
      (λ i. i) (λ w e. absurd (live (subst IsRefused (sym e) tt)))
      (λ q w e. by_name S w (custom_says S tt tt c q w e))
      (λ of counts more left q w i e. by_name S w
      (says_map b (InMachine p b c byte (machine.Section of counts more left q) Now.name) (InInput c) c
      (λ x h. (must_stand (spelled p x) (subst (λ z. PartsBegin (spelled p x) (MachineRest loose p z Now.name) (MachineRest strict p z Now.name)) (sym i ∙ is) h.0), h.1)) w
      (section_says p b c byte of counts more left q Now.name (let f = subst (Fits p) i fits in f.2.1) (subst (λ z. CodeMachine z b) (sym is ∙ i) (run_code p state_at_start [] b tt)) w e)))
