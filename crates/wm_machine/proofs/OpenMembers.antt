-- Something may still come in each state of a member, under `loose`.
use Rattle.std.proofs.Common.{◌≡◌, ℕ, zero, suc, ◌-◌, ◌<◌, ◌^◌, true, false, List, [], ◌∷◌, ◌++◌, Option, Some, None, length, refl, sym, subst, arith}
use Rattle.wm_machine.specs.Grammar.{SegmentRest, segment_item}
use Rattle.std.proofs.Common.{◌≤◌, Bool, IsTrue}
use Rattle.wm_syntax.specs.Profiles.{has}
use Rattle.wm_syntax.specs.declared.profile.Feature.TheVariants.{BulkMemory}
use Rattle.wm_syntax.specs.inner.Numbers.{Partial}
use Rattle.wm_syntax.specs.exact.Reading.{fresh}
use Rattle.wm_syntax.specs.Spelling.{Form, AreBytes}
use Rattle.wm_syntax.specs.Types.{SpellsU32, SpellsLimits}
use Rattle.wm_syntax.specs.declared.profile.Profile.{Profile}
use Rattle.wm_syntax.specs.Profiles.{HasDesc}
use Rattle.wm_syntax.specs.declared.instructions.Op.{Op}
use Rattle.wm_syntax.specs.declared.types.ValType.{ValType}
use Rattle.wm_syntax.specs.declared.types.ValType.TheVariants.{I32}
use Rattle.wm_syntax.specs.declared.modules.ImportDesc.TheVariants as desc
use Rattle.wm_syntax.specs.declared.modules.ExportKind.TheVariants as kind
use Rattle.wm_machine.specs.declared.machine.NameKind.{NameKind}
use Rattle.wm_machine.specs.declared.machine.NameKind.TheVariants as name
use Rattle.wm_machine.specs.declared.machine.Plain.TheVariants as plain
use Rattle.wm_machine.specs.declared.step.values.InLimits.{InLimits}
use Rattle.wm_machine.specs.declared.step.values.InLimits.TheVariants as limits
use Rattle.wm_machine.specs.declared.step.values.InTableType.{InTableType}
use Rattle.wm_machine.specs.declared.step.values.InTableType.TheVariants as table
use Rattle.wm_machine.specs.declared.step.values.InGlobalType.{InGlobalType}
use Rattle.wm_machine.specs.declared.step.values.InGlobalType.TheVariants as global
use Rattle.wm_machine.specs.declared.step.values.InImportDesc.{InImportDesc}
use Rattle.wm_machine.specs.declared.step.values.InImportDesc.TheVariants as import
use Rattle.wm_machine.specs.declared.step.values.InExportDesc.{InExportDesc}
use Rattle.wm_machine.specs.declared.step.values.InExportDesc.TheVariants as target
use Rattle.wm_machine.specs.declared.step.values.InRun.{InRun}
use Rattle.wm_machine.specs.declared.step.values.InRun.TheVariants as run
use Rattle.wm_machine.specs.declared.step.values.InValue.{InValue}
use Rattle.wm_machine.specs.declared.step.values.InValue.TheVariants as value
use Rattle.wm_machine.specs.declared.machine.member.SectionKind.{SectionKind}
use Rattle.wm_machine.specs.declared.machine.member.IndexOf.{IndexOf}
use Rattle.wm_machine.specs.declared.machine.member.IndexOf.TheVariants as index
use Rattle.wm_machine.specs.declared.machine.member.ConstantOf.{ConstantOf}
use Rattle.wm_machine.specs.declared.machine.member.ConstantOf.TheVariants as constant
use Rattle.wm_machine.specs.declared.machine.member.LengthOf.{LengthOf}
use Rattle.wm_machine.specs.declared.machine.member.LengthOf.TheVariants as length_of
use Rattle.wm_machine.specs.declared.machine.member.InEntry.{InEntry}
use Rattle.wm_machine.specs.declared.machine.member.InEntry.TheVariants as entry
use Rattle.wm_machine.specs.declared.machine.member.InMember.{InMember}
use Rattle.wm_machine.specs.declared.machine.member.InMember.TheVariants as at
use Rattle.wm_machine.specs.declared.step.expressions.InExpression.{InExpression}
use Rattle.wm_machine.specs.Items.{Item, new_type, param, result_count, one_result, import_desc, global as global_part, const_op, element_function, export, locals, body, body_op, data_byte, Marks}
use Rattle.wm_machine.specs.MarkedForms.{MarkedForm, Empty, MarkedByte as OneByte, Then, Times, Leaf, MarkedNumber, Vector, Index, Counted, Name, Sized, Filled, Entry, nothing_at, marks_ending, name_byte_marks, name_marks, entry_marks, outside_mark}
use Rattle.wm_machine.specs.Sections.{Those, SpellsDesc}
use Rattle.wm_machine.specs.Grammar.{ValueType, ResultTypes, FunctionType, Desc, Run, DataByte, Expression, loose}
use Rattle.wm_machine.specs.exact.Runs.{name_item, plain_item}
use Rattle.wm_machine.specs.exact.Members.{member_at_start}
use Rattle.wm_machine.specs.exact.ExpressionSteps.{start}
use Rattle.wm_machine.proofs.Numbers.{Left, fresh_number}
use Rattle.wm_machine.proofs.OpSound.{HasRoom, fresh_32, last_byte}
use Rattle.wm_machine.proofs.NamesAndSizes.{NameLeft, TextLeft}
use Rattle.wm_machine.proofs.ValueBytes.{limits_rest, table_rest, global_rest, desc_rest, target_rest, run_rest, value_rest}
use Rattle.wm_machine.proofs.ExpressionRest.{ExpressionRest, expression_same}
use Rattle.wm_machine.proofs.ExpressionSound.{SoundExpression, start_sound, some_expression}
use Rattle.wm_machine.proofs.EntryBytes.{EntryRest, run_part}
use Rattle.wm_machine.proofs.MemberBytes.{OneOf, index_mark, AfterName, AfterIndex, AfterConstant, Listed, InSize, ComponentRest, begin_same}
use Rattle.wm_machine.proofs.MemberSound.{SoundLimits, SoundTable, SoundDesc, SoundTarget, SoundRun, SoundValue, StandsEntry, Stands, CanGo, can_begin}
use Rattle.wm_machine.specs.declared.machine.member.SegmentKind.{SegmentKind}
use Rattle.wm_machine.specs.declared.machine.member.SegmentKind.TheVariants as segments
use Rattle.wm_machine.specs.Grammar.{active_item, SegmentList, KindedList}

pub record Comes (P : MarkedForm) : Type 0 where
  pub bytes : List ℕ
  pub marks : Marks
  pub spelled : P bytes marks

pub some_then : (P Q : MarkedForm) → Comes P → Comes Q → Comes (Then P Q)
some_then P Q p q = record { bytes = p.bytes ++ q.bytes; marks = p.marks ++ q.marks; spelled = record { front = p.bytes; back = q.bytes; front_marks = p.marks; back_marks = q.marks; bytes = refl; marks = refl; first = p.spelled; second = q.spelled } }

pub some_empty : Comes Empty
some_empty = record { bytes = []; marks = []; spelled = (refl, refl) }

pub some_times : (n : ℕ) (P : MarkedForm) → Comes P → Comes (Times n P)
some_times zero P p = some_empty
some_times (suc n) P p = some_then P (Times n P) p (some_times n P p)

pub some_counted : (x : ℕ → Option Item) (F : ℕ → MarkedForm) (r : Partial) → HasRoom 32 r → ((n : ℕ) → Comes (F n)) → Comes (Counted (Left r) x F)
some_counted x F r h f = let g = f r.low in
    record { bytes = 0 ∷ g.bytes; marks = outside_mark (x r.low) ∷ g.marks; spelled = record { n = r.low; front = 0 ∷ []; back = g.bytes; back_marks = g.marks; bytes = refl; marks = refl; number = last_byte r h.0; rest = g.spelled } }

pub some_number : (x : ℕ → Option Item) (F : ℕ → MarkedForm) → ((n : ℕ) → Comes (F n)) → Comes (MarkedNumber x F)
some_number x F f = let c = some_counted x F fresh fresh_32 f in let s = c.spelled in
    record { bytes = c.bytes; marks = c.marks; spelled = record { n = s.n; front = s.front; back = s.back; back_marks = s.back_marks; bytes = s.bytes; marks = s.marks; number = (fresh_number s.n s.front).1 s.number; rest = s.rest } }

pub some_vector : (P : MarkedForm) → Comes P → Comes (Vector P)
some_vector P p = some_number nothing_at (λ n. Times n P) (λ n. some_times n P p)

some_index : (part : ℕ → Item) → Comes (Index part)
some_index part = some_number (λ n. Some (part n)) (λ n. Empty) (λ n. some_empty)

pub some_sized : (n : ℕ) (P : MarkedForm) → Comes P → Comes (Sized loose n P)
some_sized n P p = record { bytes = p.bytes; marks = p.marks; spelled = ((λ d. absurd d), p.spelled) }

some_entry : (P : MarkedForm) → Comes P → Comes (Entry P)
some_entry P p = record { bytes = p.bytes; marks = entry_marks p.marks; spelled = record { inner = p.marks; marks = refl; contents = p.spelled } }

-- any bytes
pub zeros : ℕ → List ℕ
zeros zero = []
zeros (suc n) = 0 ∷ zeros n

pub zeros_length : (n : ℕ) → length (zeros n) ≡ n
unfolding zeros
zeros_length zero = refl
zeros_length (suc n) = let e : length (zeros n) ≡ n = zeros_length n in omega (arith, e)

pub zeros_bytes : (n : ℕ) → AreBytes (zeros n)
unfolding zeros
zeros_bytes zero = tt
zeros_bytes (suc n) = (omega arith, zeros_bytes n)

pub some_filled : (n : ℕ) (P : MarkedForm) → Comes P → Comes (Filled loose n P)
some_filled n P p = let back : List ℕ = zeros (n - length p.bytes) in
    record { bytes = p.bytes ++ back; marks = p.marks ++ marks_ending None back; spelled = record { front = p.bytes; back = back; front_marks = p.marks; bytes = refl; marks = refl; first = p.spelled; fits = λ d. absurd d; size = zeros_length (n - length p.bytes); are_bytes = zeros_bytes (n - length p.bytes) } }

-- names
module _ (x : List ℕ → Option Item) where
  pub some_text : (r : Partial) → HasRoom 32 r → Comes (TextLeft loose r x)
  some_text r h = let text : List ℕ = zeros r.low in
      record { bytes = 0 ∷ text; marks = name_marks (x text) (0 ∷ []) text; spelled = record { front = 0 ∷ []; text = text; bytes = refl; marks = refl; number = subst (λ n. Left r n (0 ∷ [])) (sym (zeros_length r.low)) (last_byte r h.0); utf8 = λ d. absurd d } }

  pub some_name_left : (so_far : List ℕ) (n : ℕ) → Comes (NameLeft loose so_far n x)
  some_name_left so_far n = record { bytes = zeros n; marks = name_byte_marks (x (so_far ++ zeros n)) (zeros n); spelled = (zeros_length n, (λ d. absurd d), refl) }

  pub some_name : Comes (Name loose x)
  some_name = let t = some_text fresh fresh_32 in let u = t.spelled in
      record { bytes = t.bytes; marks = t.marks; spelled = record { front = u.front; text = u.text; bytes = u.bytes; marks = u.marks; number = (fresh_number (length u.text) u.front).1 u.number; utf8 = u.utf8 } }

-- values
record Spelled {X : Type 0} (Spells : X → Form ℕ) : Type 0 where
  value : X
  bytes : List ℕ
  spelled : Spells value bytes

some_leaf : {X : Type 0} (Spells : X → Form ℕ) (part : X → Item) → Spelled Spells → Comes (Leaf Spells part)
some_leaf Spells part s = record { bytes = s.bytes; marks = marks_ending (Some (part s.value)) s.bytes; spelled = (s.value, s.spelled, refl) }

pub zero_u32 : SpellsU32 0 (0 ∷ [])
zero_u32 = (fresh_number 0 (0 ∷ [])).1 (last_byte fresh (omega arith))

pub zero_limits : SpellsLimits (record { min = 0; max = None }) (0 ∷ 0 ∷ [])
zero_limits = (0 ∷ [], 0 ∷ [], refl, refl, zero_u32)

some_limits : (l : InLimits) → SoundLimits l → Spelled (limits_rest l)
some_limits limits.Flag h = record { value = record { min = 0; max = None }; bytes = 0 ∷ 0 ∷ []; spelled = zero_limits }
some_limits (limits.Min false r) h = record { value = record { min = r.low; max = None }; bytes = 0 ∷ []; spelled = (r.low, 0 ∷ [], [], refl, last_byte r h.0, (refl, refl)) }
some_limits (limits.Min true r) h =
    record { value = record { min = r.low; max = Some 0 }; bytes = 0 ∷ 0 ∷ []; spelled = (r.low, 0 ∷ [], 0 ∷ [], refl, last_byte r h.0, (0, 0 ∷ [], [], refl, last_byte fresh (omega arith), (refl, refl))) }
some_limits (limits.Max min r) h = record { value = record { min = min; max = Some r.low }; bytes = 0 ∷ []; spelled = (r.low, 0 ∷ [], [], refl, last_byte r h.0, (refl, refl)) }

some_table : (t : InTableType) → SoundTable t → Spelled (table_rest t)
some_table table.ElementType h = record { value = record { min = 0; max = None }; bytes = 0x70 ∷ 0 ∷ 0 ∷ []; spelled = (0x70 ∷ [], 0 ∷ 0 ∷ [], refl, refl, zero_limits) }
some_table (table.Limits l) h = let s = some_limits l h in record { value = s.value; bytes = s.bytes; spelled = (s.value, refl, s.spelled) }

some_global : (p : Profile) (g : InGlobalType) → Spelled (global_rest p g)
some_global p global.Type = record { value = record { ty = I32; var = false }; bytes = 0x7F ∷ 0 ∷ []; spelled = (refl, (0x7F ∷ [], 0 ∷ [], refl, refl, refl)) }
some_global p (global.Var t) = record { value = record { ty = t; var = false }; bytes = 0 ∷ []; spelled = (refl, refl) }

some_desc : (p : Profile) (d : InImportDesc) → SoundDesc d → Spelled (desc_rest p d)
some_desc p import.Kind h = record { value = desc.Func 0; bytes = 0 ∷ 0 ∷ []; spelled = (tt, (0 ∷ [], 0 ∷ [], refl, refl, zero_u32)) }
some_desc p (import.Func r) h = record { value = desc.Func r.low; bytes = 0 ∷ []; spelled = (r.low, 0 ∷ [], [], refl, last_byte r h.0, (refl, refl)) }
some_desc p (import.Table t) h = let s = some_table t h in record { value = desc.Table s.value; bytes = s.bytes; spelled = (s.value, refl, s.spelled) }
some_desc p (import.Memory l) h = let s = some_limits l h in record { value = desc.Memory s.value; bytes = s.bytes; spelled = (s.value, refl, s.spelled) }
some_desc p (import.Global g) h = let s = some_global p g in record { value = desc.Global s.value; bytes = s.bytes; spelled = (s.value, refl, s.spelled) }

some_target : (t : InExportDesc) → SoundTarget t → Spelled (target_rest t)
some_target target.Kind h = record { value = (kind.Func, 0); bytes = 0 ∷ 0 ∷ []; spelled = (0 ∷ [], 0 ∷ [], refl, refl, zero_u32) }
some_target (target.Index k r) h = record { value = (k, r.low); bytes = 0 ∷ []; spelled = (r.low, 0 ∷ [], [], refl, last_byte r h.0, (refl, refl)) }

some_run : (p : Profile) (r : InRun) → SoundRun r → Spelled (run_rest p r)
some_run p (run.Count r) h = record { value = (r.low, I32); bytes = 0 ∷ 0x7F ∷ []; spelled = (r.low, 0 ∷ [], 0x7F ∷ [], refl, last_byte r h.0, (refl, refl, refl)) }
some_run p (run.Type n) h = record { value = (n, I32); bytes = 0x7F ∷ []; spelled = (refl, refl, refl) }

some_value : (p : Profile) (v : InValue) → SoundValue v → Spelled (value_rest p v)
some_value p (value.Import d) h = let s = some_desc p d h in record { value = plain.Import s.value; bytes = s.bytes; spelled = (s.value, refl, s.spelled) }
some_value p (value.Table t) h = let s = some_table t h in record { value = plain.Table s.value; bytes = s.bytes; spelled = (s.value, refl, s.spelled) }
some_value p (value.Memory l) h = let s = some_limits l h in record { value = plain.Memory s.value; bytes = s.bytes; spelled = (s.value, refl, s.spelled) }
some_value p (value.Export t) h = let s = some_target t h in record { value = plain.Export s.value.0 s.value.1; bytes = s.bytes; spelled = (s.value, refl, s.spelled) }

pub some_type : (p : Profile) (g : ValType → Item) → Comes (ValueType p g)
some_type p g = record { bytes = 0x7F ∷ []; marks = outside_mark (Some (g I32)) ∷ []; spelled = (I32, (refl, refl), refl) }

pub some_results : (p : Profile) → Comes (ResultTypes p)
some_results p = some_number (λ n. Some (result_count n)) (λ n. Times n (ValueType p one_result)) (λ n. some_times n (ValueType p one_result) (some_type p one_result))

some_data : Comes DataByte
some_data = record { bytes = 0 ∷ []; marks = outside_mark (Some (data_byte 0)) ∷ []; spelled = (0, (refl, omega arith), refl) }

a_run : (p : Profile) → Comes (Run p)
a_run p = record { bytes = 0 ∷ 0x7F ∷ []; marks = marks_ending (Some (locals 0 I32)) (0 ∷ 0x7F ∷ []); spelled = ((0, I32), (refl, (0 ∷ [], 0x7F ∷ [], refl, zero_u32, refl)), refl) }

module _ (p : Profile) where
  some_ops : (part : Op → Item) (left : ℕ) (e : InExpression) → SoundExpression p left e → Comes (ExpressionRest p part e)
  some_ops part left e h = let s = some_expression p part left e h in record { bytes = s.0; marks = s.1; spelled = s.2 }

  pub some_whole : (part : Op → Item) → Comes (Expression p part)
  some_whole part =
      let few : 0 < 2 ^ 32 = omega arith in
      let s = some_expression p part 0 start (start_sound p 0 few) in
      record { bytes = s.0; marks = s.1; spelled = (expression_same loose p part).from s.0 s.1 s.2 }

  pub some_runs : (n : ℕ) → Comes (Then (Times n (Run p)) (Expression p body_op))
  some_runs n = some_then (Times n (Run p)) (Expression p body_op) (some_times n (Run p) (a_run p)) (some_whole body_op)

  pub some_of_entry : (left : ℕ) (q : InEntry) → StandsEntry p left q → Comes (EntryRest loose p q)
  some_of_entry left (entry.RunCount r) h = some_counted nothing_at (λ n. Then (Times n (Run p)) (Expression p body_op)) r h some_runs
  some_of_entry left (entry.Run more r) h = some_then (Leaf (run_rest p r) run_part) (Then (Times more (Run p)) (Expression p body_op)) (some_leaf (run_rest p r) run_part (some_run p r h)) (some_runs more)
  some_of_entry left (entry.Body e) h = some_ops body_op left e h.1
  some_of_entry left entry.Over h = absurd h
  some_of_entry left (entry.Failed w) h = absurd h

  pub some_size : (n : ℕ) → Comes (InSize loose p n)
  some_size n =
      let all : MarkedForm = Then (Vector (Run p)) (Expression p body_op) in
      some_sized n (Entry all) (some_entry all (some_then (Vector (Run p)) (Expression p body_op) (some_vector (Run p) (a_run p)) (some_whole body_op)))

  a_function : Comes (Index element_function)
  a_function = some_index element_function

  pub some_listed : (of : LengthOf) → Comes (Listed loose p of)
  some_listed length_of.Functions = a_function
  some_listed length_of.Bytes = some_data

  -- the last part of a segment, and that behind the flag 1 or 2
  some_list : (of : SegmentKind) → Comes (SegmentList of)
  some_list segments.Element = some_vector (Index element_function) a_function
  some_list segments.Data = some_vector DataByte some_data

  some_kinded : (of : SegmentKind) → Comes (KindedList of)
  some_kinded segments.Element =
      some_then (OneByte 0x00 None) (SegmentList segments.Element) (record { bytes = 0x00 ∷ []; marks = outside_mark None ∷ []; spelled = (refl, refl) }) (some_list segments.Element)
  some_kinded segments.Data = some_list segments.Data

  pub after_constant : (of : ConstantOf) → Comes (AfterConstant loose p of)
  after_constant constant.Global = some_empty
  after_constant constant.Element = some_list segments.Element
  after_constant constant.IndexedElement = some_kinded segments.Element
  after_constant constant.Segment = some_list segments.Data

  pub after_index : (of : IndexOf) → Comes (AfterIndex loose p of)
  after_index index.Function = some_empty
  after_index index.Start = some_empty
  after_index index.Element = some_then (Expression p const_op) (KindedList segments.Element) (some_whole const_op) (some_kinded segments.Element)
  after_index (index.ElementFunction more) = some_times more (Index element_function) a_function
  after_index index.Segment = some_then (Expression p const_op) (SegmentList segments.Data) (some_whole const_op) (some_list segments.Data)

  -- the number at the front of a segment
  active_comes : (of : SegmentKind) → Comes (Then (Expression p const_op) (SegmentList of))
  active_comes of = some_then (Expression p const_op) (SegmentList of) (some_whole const_op) (some_list of)

  pub small_comes : (flagged : Bool) (of : SegmentKind) (n : ℕ) → (IsTrue flagged → n ≤ 2) → Comes (SegmentRest p flagged of n)
  small_comes false of n l = active_comes of
  small_comes true of zero l = active_comes of
  small_comes true of (suc zero) l = some_kinded of
  small_comes true of (suc (suc zero)) l =
      let R : MarkedForm = Then (Expression p const_op) (KindedList of) in
      some_then (Index (active_item of)) R (some_index (active_item of)) (some_then (Expression p const_op) (KindedList of) (some_whole const_op) (some_kinded of))
  small_comes true of (suc (suc (suc n))) l = let few = l refl in absurd (omega (arith, few))

  some_front : (flagged : Bool) (of : SegmentKind) (r : Partial) → HasRoom 32 r → (IsTrue flagged → r.low ≤ 2) → Comes (Counted (Left r) (segment_item flagged of) (SegmentRest p flagged of))
  some_front flagged of r h l = let g = small_comes flagged of r.low l in
      record { bytes = 0 ∷ g.bytes; marks = outside_mark (segment_item flagged of r.low) ∷ g.marks; spelled = record { n = r.low; front = 0 ∷ []; back = g.bytes; back_marks = g.marks; bytes = refl; marks = refl; number = last_byte r h.0; rest = g.spelled } }

  a_desc : Comes (Desc p)
  a_desc = some_leaf (Those (HasDesc p) SpellsDesc) import_desc (some_desc p import.Kind tt)

  pub after_name : (of : NameKind) → Comes (AfterName loose p of)
  after_name name.ImportModule = some_then (Name loose (name_item name.ImportName)) (Desc p) (some_name (name_item name.ImportName)) a_desc
  after_name name.ImportName = a_desc
  after_name name.Export = some_leaf (target_rest target.Kind) (λ t. export t.0 t.1) (some_target target.Kind tt)
  after_name name.Custom = some_empty

  pub after_params : (n : ℕ) → Comes (Then (Times n (ValueType p param)) (ResultTypes p))
  after_params n = some_then (Times n (ValueType p param)) (ResultTypes p) (some_times n (ValueType p param) (some_type p param)) (some_results p)

  some_form : Comes (FunctionType p)
  some_form = some_then (OneByte 0x60 (Some new_type)) (Then (Vector (ValueType p param)) (ResultTypes p)) (record { bytes = 0x60 ∷ []; marks = outside_mark (Some new_type) ∷ []; spelled = (refl, refl) })
      (some_then (Vector (ValueType p param)) (ResultTypes p) (some_vector (ValueType p param) (some_type p param)) (some_results p))

  some_place : (left : ℕ) (q : InMember) (y : List ℕ) → Stands p left q → Comes (ComponentRest loose p q y)
  some_place left at.TypeForm y h = some_form
  some_place left (at.ParamCount r) y h = some_counted nothing_at (λ n. Then (Times n (ValueType p param)) (ResultTypes p)) r h after_params
  some_place left (at.Param more) y h = after_params (suc more)
  some_place left (at.ResultCount r) y h = some_counted (λ n. Some (result_count n)) (λ n. Times n (ValueType p one_result)) r h (λ n. some_times n (ValueType p one_result) (some_type p one_result))
  some_place left (at.ResultType more) y h = some_times (suc more) (ValueType p one_result) (some_type p one_result)
  some_place left (at.NameLength of r) y h = some_then (TextLeft loose r (name_item of)) (AfterName loose p of) (some_text (name_item of) r h) (after_name of)
  some_place left (at.Name of more) y h = some_then (NameLeft loose y (suc more) (name_item of)) (AfterName loose p of) (some_name_left (name_item of) y (suc more)) (after_name of)
  some_place left (at.Value v) y h = some_leaf (value_rest p v) plain_item (some_value p v h)
  some_place left (at.Index of r) y h = some_counted (index_mark loose p of) (λ n. AfterIndex loose p of) r h (λ n. after_index of)
  some_place left (at.SegmentStart of r) y h = some_front (has p BulkMemory) of r h.0 h.1
  some_place left at.ElementKind y h = some_kinded segments.Element
  some_place left (at.GlobalType g) y h = some_then (Leaf (global_rest p g) global_part) (Expression p const_op) (some_leaf (global_rest p g) global_part (some_global p g)) (some_whole const_op)
  some_place left (at.Constant of e) y h = some_then (ExpressionRest p const_op e) (AfterConstant loose p of) (some_ops const_op left e h.1) (after_constant of)
  some_place left (at.Length of r) y h = some_counted nothing_at (λ n. Times n (Listed loose p of)) r h (λ n. some_times n (Listed loose p of) (some_listed of))
  some_place left (at.Data more) y h = some_times (suc more) DataByte some_data
  some_place left (at.EntrySize r) y h = some_counted (λ n. Some body) (InSize loose p) r h some_size
  some_place left (at.Entry more q) y h = some_sized (suc more) (Entry (EntryRest loose p q)) (some_entry (EntryRest loose p q) (some_of_entry (suc more) q h.1))
  some_place left at.Over y h = absurd h
  some_place left (at.Failed w) y h = absurd h

  pub some_component : (left : ℕ) (q : InMember) (y : List ℕ) → CanGo p left q → Comes (ComponentRest loose p q y)
  some_component left q y h = some_place left q y h.1

  -- a whole member
  pub some_one : (of : SectionKind) → Comes (OneOf loose p of)
  some_one of =
      let few : 0 < 2 ^ 32 = omega arith in
      let s = some_component 0 (member_at_start of) [] (can_begin p 0 few of) in
      record { bytes = s.bytes; marks = s.marks; spelled = (begin_same loose p of).from s.bytes s.marks s.spelled }
