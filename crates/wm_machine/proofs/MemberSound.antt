-- The possible states in a member: their numbers can still be completed, and their open blocks counted.
use Rattle.std.proofs.Common.{ℕ, zero, suc, ◌<◌, ◌^◌, Bool, true, false, Some, arith, nat_eq, Result, Ok, Err}
use Rattle.std.proofs.Common.{refl}
use Rattle.wm_machine.proofs.TableIndex.{not_both}
use Rattle.std.proofs.lemmas.Bool.{leb-true}
use Rattle.std.proofs.Common.{◌≡◌, ◌≤◌, IsTrue, nat_le}
use Rattle.wm_syntax.specs.Profiles.{has}
use Rattle.wm_syntax.specs.declared.profile.Feature.TheVariants.{BulkMemory}
use Rattle.wm_machine.proofs.SegmentStarts.{begun_state}
use Rattle.wm_machine.specs.exact.MemberSteps.{segment_begun, segment_unfinished}
use Rattle.std.proofs.lemmas.Bool.{cond_both}
use Rattle.wm_syntax.specs.declared.numbers.Step.{Step}
use Rattle.wm_syntax.specs.declared.numbers.Step.TheVariants as step
use Rattle.wm_syntax.specs.inner.Numbers.{Partial}
use Rattle.wm_syntax.specs.Reading.{IfDone}
use Rattle.wm_syntax.specs.exact.Reading.{fresh, unsigned_push}
use Rattle.wm_syntax.proofs.Readers.{unsigned_range}
use Rattle.wm_syntax.specs.declared.why.Why.{Why}
use Rattle.wm_syntax.specs.declared.why.Why.TheVariants as why
use Rattle.wm_syntax.specs.declared.profile.Profile.{Profile}
use Rattle.wm_syntax.specs.declared.types.ValType.{ValType}
use Rattle.wm_machine.specs.declared.machine.NameKind.{NameKind}
use Rattle.wm_machine.specs.declared.machine.NameKind.TheVariants as name
use Rattle.wm_machine.specs.declared.machine.Plain.TheVariants as plain
use Rattle.wm_machine.specs.declared.machine.Event.{Event}
use Rattle.wm_machine.specs.declared.machine.Event.TheVariants as event
use Rattle.wm_machine.specs.declared.step.reading.Reading.{Reading}
use Rattle.wm_machine.specs.declared.step.reading.Reading.TheVariants.{More, Done, Bad}
use Rattle.wm_machine.specs.declared.step.values.InLimits.{InLimits}
use Rattle.wm_machine.specs.declared.step.values.InLimits.TheVariants as limits
use Rattle.wm_machine.specs.declared.step.values.InTableType.{InTableType}
use Rattle.wm_machine.specs.declared.step.values.InTableType.TheVariants as table
use Rattle.wm_machine.specs.declared.step.values.InGlobalType.{InGlobalType}
use Rattle.wm_machine.specs.declared.step.values.InImportDesc.{InImportDesc}
use Rattle.wm_machine.specs.declared.step.values.InImportDesc.TheVariants as import
use Rattle.wm_machine.specs.declared.step.values.InExportDesc.{InExportDesc}
use Rattle.wm_machine.specs.declared.step.values.InExportDesc.TheVariants as target
use Rattle.wm_machine.specs.declared.step.values.InRun.{InRun}
use Rattle.wm_machine.specs.declared.step.values.InRun.TheVariants as run
use Rattle.wm_machine.specs.declared.step.values.InValue.{InValue}
use Rattle.wm_machine.specs.declared.step.values.InValue.TheVariants as value
use Rattle.wm_machine.specs.declared.machine.member.SectionKind.{SectionKind}
use Rattle.wm_machine.specs.declared.machine.member.SectionKind.TheVariants as section_kind
use Rattle.wm_machine.specs.declared.machine.member.IndexOf.{IndexOf}
use Rattle.wm_machine.specs.declared.machine.member.IndexOf.TheVariants as index
use Rattle.wm_machine.specs.declared.machine.member.ConstantOf.{ConstantOf}
use Rattle.wm_machine.specs.declared.machine.member.ConstantOf.TheVariants as constant
use Rattle.wm_machine.specs.declared.machine.member.LengthOf.{LengthOf}
use Rattle.wm_machine.specs.declared.machine.member.LengthOf.TheVariants as length_of
use Rattle.wm_machine.specs.declared.machine.member.InEntry.{InEntry}
use Rattle.wm_machine.specs.declared.machine.member.InEntry.TheVariants as entry
use Rattle.wm_machine.specs.declared.machine.member.InMember.{InMember}
use Rattle.wm_machine.specs.declared.machine.member.InMember.TheVariants as at
use Rattle.wm_machine.specs.declared.step.expressions.InExpression.{InExpression}
use Rattle.wm_machine.specs.declared.step.expressions.InExpression.TheVariants as expression
use Rattle.wm_machine.specs.exact.Members.{member_at_start}
use Rattle.wm_machine.specs.exact.ValueSteps.{read_number, map_reading, after_min, limits_push, table_type_push, value_type_of, read_type, global_type_push, desc_kind_step, desc_push, target_kind_step, target_push, run_push, value_push}
use Rattle.wm_machine.specs.exact.ExpressionSteps.{start, expression_step}
use Rattle.wm_machine.specs.exact.MemberSteps.{on_number, on_value, on_type, with_item_given, after_param, after_result, after_name, after_length, name_step, functions_or_over, index_item, after_index, constant_over, after_constant, data_or_over, list_or_over, runs_or_body, entry_after_op, entry_step, member_in_entry, member_step}
use Rattle.wm_machine.proofs.OpSound.{HasRoom, RoomAfter, fresh_32, unsigned_room}
use Rattle.wm_machine.proofs.ExpressionRest.{IsInside}
use Rattle.wm_machine.proofs.ExpressionSound.{SoundExpression, FineExpression, start_sound, expression_sound}
use Rattle.wm_machine.specs.declared.machine.member.SegmentKind.{SegmentKind}

-- the same of an answer of a reader
abbrev Fine : {R X : Type 0} → (R → Type 0) → Reading R X → Type 0
Fine Sound (More r) = Sound r
Fine Sound (Done x) = Unit {0}
Fine Sound (Bad w) = Unit {0}

number_fine : {R X : Type 0} (Sound : R → Type 0) (q : Step ℕ × Partial) (more : Partial → R) (done : ℕ → Reading R X) → RoomAfter 32 q → ((s : Partial) → HasRoom 32 s → Sound (more s)) → ((n : ℕ) → Fine Sound (done n)) → Fine Sound (read_number q more done)
number_fine Sound (step.More, s) more done h a b = a s h
number_fine Sound (step.Done n, s) more done h a b = b n
number_fine Sound (step.Bad, s) more done h a b = tt

within_fine : {R S X Y : Type 0} (Inner : R → Type 0) (Outer : S → Type 0) (f : R → S) (g : X → Y) (q : Reading R X) → Fine Inner q → ((r : R) → Inner r → Outer (f r)) → Fine Outer (map_reading f g q)
within_fine Inner Outer f g (More r) h a = a r h
within_fine Inner Outer f g (Done x) h a = tt
within_fine Inner Outer f g (Bad w) h a = tt

-- values
abbrev pub SoundLimits : InLimits → Type 0
SoundLimits limits.Flag = Unit {0}
SoundLimits (limits.Min bounded r) = HasRoom 32 r
SoundLimits (limits.Max min r) = HasRoom 32 r

abbrev pub SoundTable : InTableType → Type 0
SoundTable table.ElementType = Unit {0}
SoundTable (table.Limits l) = SoundLimits l

abbrev pub SoundDesc : InImportDesc → Type 0
SoundDesc import.Kind = Unit {0}
SoundDesc (import.Func r) = HasRoom 32 r
SoundDesc (import.Table t) = SoundTable t
SoundDesc (import.Memory l) = SoundLimits l
SoundDesc (import.Global g) = Unit {0}

abbrev pub SoundTarget : InExportDesc → Type 0
SoundTarget target.Kind = Unit {0}
SoundTarget (target.Index k r) = HasRoom 32 r

abbrev pub SoundRun : InRun → Type 0
SoundRun (run.Count r) = HasRoom 32 r
SoundRun (run.Type n) = Unit {0}

abbrev pub SoundValue : InValue → Type 0
SoundValue (value.Import d) = SoundDesc d
SoundValue (value.Table t) = SoundTable t
SoundValue (value.Memory l) = SoundLimits l
SoundValue (value.Export t) = SoundTarget t

min_fine : (bounded : Bool) (n : ℕ) → Fine SoundLimits (after_min bounded n)
min_fine true n = fresh_32
min_fine false n = tt

limits_fine : (l : InLimits) (c : ℕ) → c < 2 ^ 8 → SoundLimits l → Fine SoundLimits (limits_push l c)
limits_fine limits.Flag c byte h = cond_both (nat_eq c 0x00) _ _ (Fine SoundLimits) (λ _. fresh_32) (λ _. cond_both (nat_eq c 0x01) _ _ (Fine SoundLimits) (λ _. fresh_32) (λ _. tt))
limits_fine (limits.Min bounded r) c byte h = number_fine SoundLimits (unsigned_push 32 r c) (λ s. limits.Min bounded s) (after_min bounded) (unsigned_room 32 r c h byte) (λ s g. g) (min_fine bounded)
limits_fine (limits.Max min r) c byte h = number_fine SoundLimits (unsigned_push 32 r c) (λ s. limits.Max min s) (λ n. Done (record { min = min; max = Some n })) (unsigned_room 32 r c h byte) (λ s g. g) (λ n. tt)

table_fine : (t : InTableType) (c : ℕ) → c < 2 ^ 8 → SoundTable t → Fine SoundTable (table_type_push t c)
table_fine table.ElementType c byte h = cond_both (nat_eq c 0x70) _ _ (Fine SoundTable) (λ _. tt) (λ _. tt)
table_fine (table.Limits l) c byte h = within_fine SoundLimits SoundTable table.Limits (λ y. y) (limits_push l c) (limits_fine l c byte h) (λ r g. g)

type_fine : {R X : Type 0} (Sound : R → Type 0) (q : Result ValType Why) (f : ValType → Reading R X) → ((t : ValType) → Fine Sound (f t)) → Fine Sound (read_type q f)
type_fine Sound (Ok t) f h = h t
type_fine Sound (Err w) f h = tt

abbrev AnyGlobal : InGlobalType → Type 0
AnyGlobal g = Unit {0}

any_fine : {X : Type 0} (q : Reading InGlobalType X) → Fine AnyGlobal q
any_fine (More r) = tt
any_fine (Done x) = tt
any_fine (Bad w) = tt

kind_fine : (c : ℕ) → Fine SoundDesc (desc_kind_step c)
kind_fine zero = fresh_32
kind_fine (suc zero) = tt
kind_fine (suc (suc zero)) = tt
kind_fine (suc (suc (suc zero))) = tt
kind_fine (suc (suc (suc (suc c)))) = tt

desc_fine : (p : Profile) (d : InImportDesc) (c : ℕ) → c < 2 ^ 8 → SoundDesc d → Fine SoundDesc (desc_push p d c)
desc_fine p import.Kind c byte h = kind_fine c
desc_fine p (import.Func r) c byte h = number_fine SoundDesc (unsigned_push 32 r c) import.Func _ (unsigned_room 32 r c h byte) (λ s g. g) (λ n. tt)
desc_fine p (import.Table t) c byte h = within_fine SoundTable SoundDesc import.Table _ (table_type_push t c) (table_fine t c byte h) (λ r g. g)
desc_fine p (import.Memory l) c byte h = within_fine SoundLimits SoundDesc import.Memory _ (limits_push l c) (limits_fine l c byte h) (λ r g. g)
desc_fine p (import.Global g) c byte h = within_fine AnyGlobal SoundDesc import.Global _ (global_type_push p g c) (any_fine (global_type_push p g c)) (λ r i. tt)

target_kind_fine : (c : ℕ) → Fine SoundTarget (target_kind_step c)
target_kind_fine zero = fresh_32
target_kind_fine (suc zero) = fresh_32
target_kind_fine (suc (suc zero)) = fresh_32
target_kind_fine (suc (suc (suc zero))) = fresh_32
target_kind_fine (suc (suc (suc (suc c)))) = tt

target_fine : (t : InExportDesc) (c : ℕ) → c < 2 ^ 8 → SoundTarget t → Fine SoundTarget (target_push t c)
target_fine target.Kind c byte h = target_kind_fine c
target_fine (target.Index k r) c byte h = number_fine SoundTarget (unsigned_push 32 r c) (λ s. target.Index k s) (λ n. Done (k, n)) (unsigned_room 32 r c h byte) (λ s g. g) (λ n. tt)

run_fine : (p : Profile) (r : InRun) (c : ℕ) → c < 2 ^ 8 → SoundRun r → Fine SoundRun (run_push p r c)
run_fine p (run.Count r) c byte h = number_fine SoundRun (unsigned_push 32 r c) run.Count (λ n. More (run.Type n)) (unsigned_room 32 r c h byte) (λ s g. g) (λ n. tt)
run_fine p (run.Type n) c byte h = type_fine SoundRun (value_type_of p c) (λ t. Done (n, t)) (λ t. tt)

value_fine : (p : Profile) (v : InValue) (c : ℕ) → c < 2 ^ 8 → SoundValue v → Fine SoundValue (value_push p v c)
value_fine p (value.Import d) c byte h = within_fine SoundDesc SoundValue value.Import plain.Import (desc_push p d c) (desc_fine p d c byte h) (λ r g. g)
value_fine p (value.Table t) c byte h = within_fine SoundTable SoundValue value.Table plain.Table (table_type_push t c) (table_fine t c byte h) (λ r g. g)
value_fine p (value.Memory l) c byte h = within_fine SoundLimits SoundValue value.Memory plain.Memory (limits_push l c) (limits_fine l c byte h) (λ r g. g)
value_fine p (value.Export t) c byte h = within_fine SoundTarget SoundValue value.Export _ (target_push t c) (target_fine t c byte h) (λ r g. g)

-- places in a code entry with so many bytes left, the next one included
abbrev pub StandsEntry : Profile → ℕ → InEntry → Type 0
StandsEntry p left (entry.RunCount r) = HasRoom 32 r
StandsEntry p left (entry.Run more r) = SoundRun r
StandsEntry p left (entry.Body e) = IsInside e × SoundExpression p left e
StandsEntry p left entry.Over = ⊥
StandsEntry p left (entry.Failed w) = ⊥

abbrev pub CanEnter : Profile → ℕ → InEntry → Type 0
CanEnter p left q = (left < 2 ^ 32) × StandsEntry p left q

-- what a byte leaves of one, which may be over or have failed
abbrev pub MayEnter : Profile → ℕ → InEntry → Type 0
MayEnter p left entry.Over = Unit {0}
MayEnter p left (entry.Failed w) = Unit {0}
MayEnter p left q = CanEnter p left q

-- places in a member with so many bytes of the section left, the next one included
abbrev pub Stands : Profile → ℕ → InMember → Type 0
Stands p left (at.ParamCount r) = HasRoom 32 r
Stands p left (at.ResultCount r) = HasRoom 32 r
Stands p left (at.NameLength of r) = HasRoom 32 r
Stands p left (at.Value v) = SoundValue v
Stands p left (at.Index of r) = HasRoom 32 r
Stands p left (at.SegmentStart of r) = HasRoom 32 r × (IsTrue (has p BulkMemory) → r.low ≤ 2)
Stands p left (at.Constant of e) = IsInside e × SoundExpression p left e
Stands p left (at.Length of r) = HasRoom 32 r
Stands p left (at.EntrySize r) = HasRoom 32 r
Stands p left (at.Entry more q) = CanEnter p (suc more) q
Stands p left at.Over = ⊥
Stands p left (at.Failed w) = ⊥
Stands p left q = Unit {0}

abbrev pub CanGo : Profile → ℕ → InMember → Type 0
CanGo p left q = (left < 2 ^ 32) × Stands p left q

abbrev pub MayGo : Profile → ℕ → InMember → Type 0
MayGo p left at.Over = Unit {0}
MayGo p left (at.Failed w) = Unit {0}
MayGo p left q = CanGo p left q

-- an answer of a number's reader, of a value's and of a value type
number_may : {M : Type 0} (P : M → Type 0) (r : Partial) (c : ℕ) (more : Partial → M) (done : ℕ → M × Event) (bad : Why → M) → HasRoom 32 r → c < 2 ^ 8 → ((s : Partial) → HasRoom 32 s → P (more s)) → ((n : ℕ) → n < 2 ^ 32 → P (done n).0) → P (bad why.BadNumber) → P (on_number (unsigned_push 32 r c) more done bad).0
number_may P r c more done bad h byte a b w = by_answer (unsigned_push 32 r c) (unsigned_room 32 r c h byte) (unsigned_range 32 r c h.1)
  where
    by_answer : (q : Step ℕ × Partial) → RoomAfter 32 q → IfDone q.0 (λ n. n < 2 ^ 32) → P (on_number q more done bad).0
    by_answer (step.More, s) g i = a s g
    by_answer (step.Done n, s) g i = b n i
    by_answer (step.Bad, s) g i = w

value_may : {M R X : Type 0} (P : M → Type 0) (Sound : R → Type 0) (q : Reading R X) (more : R → M) (done : X → M × Event) (bad : Why → M) → Fine Sound q → ((s : R) → Sound s → P (more s)) → ((x : X) → P (done x).0) → ((w : Why) → P (bad w)) → P (on_value q more done bad).0
value_may P Sound (More s) more done bad h a b w = a s h
value_may P Sound (Done x) more done bad h a b w = b x
value_may P Sound (Bad v) more done bad h a b w = w v

type_may : {M : Type 0} (P : M → Type 0) (q : Result ValType Why) (done : ValType → M × Event) (bad : Why → M) → ((t : ValType) → P (done t).0) → ((w : Why) → P (bad w)) → P (on_type q done bad).0
type_may P (Ok t) done bad a b = a t
type_may P (Err w) done bad a b = b w

module _ (p : Profile) (left : ℕ) (few : left < 2 ^ 32) where
  -- code entries
  runs_may : (n : ℕ) → MayEnter p left (runs_or_body n)
  runs_may zero = (few, (tt, start_sound p left few))
  runs_may (suc n) = (few, fresh_32)

  op_may : (e : InExpression) → FineExpression p left e → MayEnter p left (entry_after_op e)
  op_may expression.Over h = tt
  op_may (expression.Failed w) h = tt
  op_may (expression.Op depth q) h = (few, (tt, h))
  op_may (expression.Label depth n r) h = (few, (tt, h))

  pub entry_may : (q : InEntry) (c : ℕ) → c < 2 ^ 8 → StandsEntry p (suc left) q → MayEnter p left (entry_step p q c).0
  entry_may (entry.RunCount r) c byte h = number_may (MayEnter p left) r c entry.RunCount (λ n. (runs_or_body n, event.Nothing)) entry.Failed h byte (λ s g. (few, g)) (λ n l. runs_may n) tt
  entry_may (entry.Run more r) c byte h = value_may (MayEnter p left) SoundRun (run_push p r c) (λ s. entry.Run more s) _ entry.Failed (run_fine p r c byte h) (λ s g. (few, g)) (λ x. runs_may more) (λ w. tt)
  entry_may (entry.Body e) c byte h = op_may (expression_step p e c).0 (expression_sound p left e c byte h.1)
  entry_may entry.Over c byte h = absurd h
  entry_may (entry.Failed w) c byte h = absurd h

module _ (p : Profile) (left : ℕ) (few : left < 2 ^ 32) where
  -- what each place becomes
  begin_may : (of : SectionKind) → CanGo p left (member_at_start of)
  begin_may section_kind.Type = (few, tt)
  begin_may section_kind.Import = (few, fresh_32)
  begin_may section_kind.Function = (few, fresh_32)
  begin_may section_kind.Table = (few, tt)
  begin_may section_kind.Memory = (few, tt)
  begin_may section_kind.Global = (few, tt)
  begin_may section_kind.Export = (few, fresh_32)
  begin_may section_kind.Start = (few, fresh_32)
  begin_may section_kind.Element = (few, (fresh_32, λ y. omega arith))
  begin_may section_kind.DataCount = (few, fresh_32)
  begin_may section_kind.Code = (few, fresh_32)
  begin_may section_kind.Segment = (few, (fresh_32, λ y. omega arith))

  param_may : (n : ℕ) → MayGo p left (after_param n)
  param_may zero = (few, fresh_32)
  param_may (suc n) = (few, tt)

  result_may : (n : ℕ) → MayGo p left (after_result n)
  result_may zero = tt
  result_may (suc n) = (few, tt)

  name_may : (of : NameKind) → MayGo p left (after_name of)
  name_may name.ImportModule = (few, fresh_32)
  name_may name.ImportName = (few, tt)
  name_may name.Export = (few, tt)
  name_may name.Custom = tt

  length_may : (of : NameKind) (n : ℕ) → MayGo p left (after_length of n).0
  length_may of zero = name_may of
  length_may of (suc n) = (few, tt)

  name_step_may : (of : NameKind) (n : ℕ) → MayGo p left (name_step of n).0
  name_step_may of zero = name_may of
  name_step_may of (suc n) = (few, tt)

  functions_may : (n : ℕ) → MayGo p left (functions_or_over n)
  functions_may zero = tt
  functions_may (suc n) = (few, fresh_32)

  data_may : (n : ℕ) → MayGo p left (data_or_over n)
  data_may zero = tt
  data_may (suc n) = (few, tt)

  list_may : (of : LengthOf) (n : ℕ) → MayGo p left (list_or_over of n)
  list_may length_of.Functions n = functions_may n
  list_may length_of.Bytes n = data_may n

  index_may : (of : IndexOf) → MayGo p left (after_index of)
  index_may index.Function = tt
  index_may index.Start = tt
  index_may index.Element = (few, (tt, start_sound p left few))
  index_may (index.ElementFunction more) = functions_may more
  index_may index.Segment = (few, (tt, start_sound p left few))

  over_may : (of : ConstantOf) → MayGo p left (constant_over of)
  over_may constant.Global = tt
  over_may constant.Element = (few, fresh_32)
  over_may constant.IndexedElement = (few, tt)
  over_may constant.Segment = (few, fresh_32)

  constant_may : (of : ConstantOf) (e : InExpression) → FineExpression p left e → MayGo p left (after_constant of e)
  constant_may of expression.Over h = over_may of
  constant_may of (expression.Failed w) h = tt
  constant_may of (expression.Op depth q) h = (few, (tt, h))
  constant_may of (expression.Label depth n r) h = (few, (tt, h))

  -- the number at the front of a segment
  unfinished_may : (flagged : Bool) → has p BulkMemory ≡ flagged → (of : SegmentKind) (s : Partial) → HasRoom 32 s → MayGo p left (segment_unfinished flagged of s)
  unfinished_may false e of s g = (few, (g, λ y. absurd (not_both (has p BulkMemory) y e)))
  unfinished_may true e of s g = cond_both (nat_le s.low 2) _ _ (MayGo p left) (λ l. (few, (g, λ y. leb-true s.low 2 l))) (λ _. tt)

  begun_may : (flagged : Bool) (of : SegmentKind) (n : ℕ) → MayGo p left (segment_begun flagged of n).0
  begun_may = begun_state (MayGo p left) (few, (tt, start_sound p left few)) (few, tt) (few, fresh_32) (few, (tt, start_sound p left few)) (few, fresh_32) (few, fresh_32) tt

  framed_may : (n : ℕ) (q : InEntry) → MayEnter p n q → MayGo p left (member_in_entry n q)
  framed_may n (entry.Failed w) h = tt
  framed_may zero entry.Over h = tt
  framed_may (suc n) entry.Over h = tt
  framed_may zero (entry.RunCount r) h = tt
  framed_may zero (entry.Run more r) h = tt
  framed_may zero (entry.Body e) h = tt
  framed_may (suc n) (entry.RunCount r) h = (few, h)
  framed_may (suc n) (entry.Run more r) h = (few, h)
  framed_may (suc n) (entry.Body e) h = (few, h)

  step_may : (q : InMember) (c : ℕ) → c < 2 ^ 8 → Stands p (suc left) q → MayGo p left (member_step p q c).0
  step_may at.TypeForm c byte h = cond_both (nat_eq c 0x60) _ _ (λ (x : InMember × Event). MayGo p left x.0) (λ _. (few, fresh_32)) (λ _. tt)
  step_may (at.ParamCount r) c byte h = number_may (MayGo p left) r c at.ParamCount (λ n. (after_param n, event.Nothing)) at.Failed h byte (λ s g. (few, g)) (λ n l. param_may n) tt
  step_may (at.Param more) c byte h = type_may (MayGo p left) (value_type_of p c) (λ t. with_item_given (after_param more) (plain.Param t)) at.Failed (λ t. param_may more) (λ w. tt)
  step_may (at.ResultCount r) c byte h = number_may (MayGo p left) r c at.ResultCount (λ n. with_item_given (after_result n) (plain.ResultCount n)) at.Failed h byte (λ s g. (few, g)) (λ n l. result_may n) tt
  step_may (at.ResultType more) c byte h = type_may (MayGo p left) (value_type_of p c) (λ t. with_item_given (after_result more) (plain.OneResult t)) at.Failed (λ t. result_may more) (λ w. tt)
  step_may (at.NameLength of r) c byte h = number_may (MayGo p left) r c (λ s. at.NameLength of s) (after_length of) at.Failed h byte (λ s g. (few, g)) (λ n l. length_may of n) tt
  step_may (at.Name of more) c byte h = name_step_may of more
  step_may (at.Value v) c byte h = value_may (MayGo p left) SoundValue (value_push p v c) at.Value (λ q. with_item_given at.Over q) at.Failed (value_fine p v c byte h) (λ s g. (few, g)) (λ x. tt) (λ w. tt)
  step_may (at.Index of r) c byte h = number_may (MayGo p left) r c (λ s. at.Index of s) (λ n. with_item_given (after_index of) (index_item of n)) at.Failed h byte (λ s g. (few, g)) (λ n l. index_may of) tt
  step_may (at.SegmentStart of r) c byte h =
      let flagged : Bool = has p BulkMemory in
      number_may (MayGo p left) r c (segment_unfinished flagged of) (segment_begun flagged of) at.Failed h.0 byte (unfinished_may flagged refl of) (λ n l. begun_may flagged of n) tt
  step_may at.ElementKind c byte h = cond_both (nat_eq c 0x00) _ _ (λ (x : InMember × Event). MayGo p left x.0) (λ _. (few, fresh_32)) (λ _. tt)
  step_may (at.GlobalType g) c byte h = value_may (MayGo p left) AnyGlobal (global_type_push p g c) at.GlobalType (λ t. with_item_given (at.Constant constant.Global start) (plain.Global t)) at.Failed (any_fine (global_type_push p g c)) (λ s i. (few, tt)) (λ x. (few, (tt, start_sound p left few))) (λ w. tt)
  step_may (at.Constant of e) c byte h = constant_may of (expression_step p e c).0 (expression_sound p left e c byte h.1)
  step_may (at.Length of r) c byte h = number_may (MayGo p left) r c (λ s. at.Length of s) (λ n. (list_or_over of n, event.Nothing)) at.Failed h byte (λ s g. (few, g)) (λ n l. list_may of n) tt
  step_may (at.Data more) c byte h = data_may more
  step_may (at.EntrySize r) c byte h = number_may (MayGo p left) r c at.EntrySize (λ n. with_item_given (member_in_entry n (entry.RunCount fresh)) plain.Body) at.Failed h byte (λ s g. (few, g)) (λ n l. framed_may n (entry.RunCount fresh) (l, fresh_32)) tt
  step_may (at.Entry more q) c byte h = let m : more < 2 ^ 32 = omega (arith, h.0) in framed_may more (entry_step p q c).0 (entry_may p more m q c byte h.1)
  step_may at.Over c byte h = absurd h
  step_may (at.Failed w) c byte h = absurd h

pub can_begin : (p : Profile) (left : ℕ) → left < 2 ^ 32 → (of : SectionKind) → CanGo p left (member_at_start of)
can_begin p left few of = begin_may p left few of

pub can_go_on : (p : Profile) (left : ℕ) (q : InMember) (c : ℕ) → c < 2 ^ 8 → CanGo p (suc left) q → MayGo p left (member_step p q c).0
can_go_on p left q c byte h = let few : left < 2 ^ 32 = omega (arith, h.0) in step_may p left few q c byte h.1
