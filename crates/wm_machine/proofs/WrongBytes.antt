-- BadOpcode, Float and BadByte: the reader of a value refuses a byte that does not begin the required thing.
use Rattle.std.proofs.Common.{◌≡◌, ℕ, zero, suc, nat_lt, ◌+◌, ◌-◌, ◌<◌, ◌≤◌, ◌^◌, inl, inr, Bool, true, false, List, [], ◌∷◌, ◌++◌, Option, Some, Result, Ok, Err, IsTrue, length, slice_get, get_or, refl, sym, ◌∙◌, ap, subst, arith, nat_eq}
use Rattle.std.specs.Prelude.{None as Nothing}
use Rattle.std.proofs.lemmas.Bool.{cond_both, eqb-true, eqb-false}
use Rattle.std.proofs.lemmas.Option.{slice_get-get_or}
use Rattle.wm_syntax.specs.declared.why.Why.{Why}
use Rattle.wm_syntax.specs.declared.why.Why.TheVariants as why
use Rattle.wm_syntax.specs.declared.profile.Profile.{Profile}
use Rattle.wm_syntax.specs.Profiles.{has, has_prefix, type_feature, HasType}
use Rattle.wm_syntax.specs.declared.types.ValType.{ValType}
use Rattle.wm_syntax.specs.declared.types.ValType.TheVariants.{I32, I64, F32, F64}
use Rattle.wm_syntax.specs.declared.types.Limits.{Limits}
use Rattle.wm_syntax.specs.declared.modules.ImportDesc.TheVariants as desc
use Rattle.wm_syntax.specs.declared.instructions.Op.{Op}
use Rattle.wm_syntax.specs.declared.instructions.op_class.OpClass.{OpClass}
use Rattle.wm_syntax.specs.declared.instructions.op_class.OpClass.TheVariants.{Plain, With, Float, None}
use Rattle.wm_syntax.specs.declared.numbers.Step.{Step}
use Rattle.wm_syntax.specs.declared.numbers.Step.TheVariants as step
use Rattle.wm_syntax.specs.inner.Numbers.{Partial}
use Rattle.wm_syntax.specs.exact.Reading.{fresh, unsigned_push, signed_push}
use Rattle.wm_syntax.specs.exact.ByteTable.{classes, row_in, class_under}
use Rattle.wm_syntax.specs.Spelling.{Form}
use Rattle.wm_syntax.specs.Types.{type_byte}
use Rattle.wm_syntax.specs.OpClasses.{is_float}
use Rattle.wm_syntax.proofs.OpTable.{float_not_none}
use Rattle.wm_syntax.proofs.FirstBytes.{behind_no_float, float_under}
use Rattle.wm_machine.proofs.OpSound.{SoundOp}
use Rattle.std.specs.List.{AllByRecursion}
use Rattle.wm_machine.specs.declared.step.reading.Reading.{Reading}
use Rattle.wm_machine.specs.declared.step.reading.Reading.TheVariants.{More, Done, Bad}
use Rattle.wm_syntax.specs.declared.instructions.op_class.BlockOp.{BlockOp}
use Rattle.wm_machine.specs.declared.step.ops.InOp.{InOp}
use Rattle.wm_machine.specs.declared.step.ops.InOp.TheVariants as at
use Rattle.wm_machine.specs.declared.step.values.InLimits.{InLimits}
use Rattle.wm_machine.specs.declared.step.values.InLimits.TheVariants as limits
use Rattle.wm_machine.specs.declared.step.values.InTableType.{InTableType}
use Rattle.wm_machine.specs.declared.step.values.InTableType.TheVariants as table
use Rattle.wm_machine.specs.declared.step.values.InGlobalType.{InGlobalType}
use Rattle.wm_machine.specs.declared.step.values.InGlobalType.TheVariants as global
use Rattle.wm_machine.specs.declared.step.values.InImportDesc.{InImportDesc}
use Rattle.wm_machine.specs.declared.step.values.InImportDesc.TheVariants as import
use Rattle.wm_machine.specs.declared.step.values.InExportDesc.{InExportDesc}
use Rattle.wm_machine.specs.declared.step.values.InExportDesc.TheVariants as target
use Rattle.wm_machine.specs.declared.step.values.InRun.{InRun}
use Rattle.wm_machine.specs.declared.step.values.InRun.TheVariants as run
use Rattle.wm_machine.specs.declared.step.values.InValue.{InValue}
use Rattle.wm_machine.specs.declared.step.values.InValue.TheVariants as value
use Rattle.wm_machine.specs.declared.machine.Plain.TheVariants as plain
use Rattle.wm_machine.specs.exact.Readings.{Goes}
use Rattle.wm_machine.specs.exact.ValueSteps.{read_number, map_reading, after_min, limits_push, table_type_push, type_under, value_type_of, read_type, global_type_push, desc_push, target_push, run_push, value_push}
use Rattle.wm_machine.specs.exact.OpSteps.{init_op, const_32_op, const_64_op, on_answer, class_step, begin_step, padded, code_step, more_padding, padding_step, block_step, first_zero_step, closing_step, table_feature, after_table, long_step, table_step, op_push}
use Rattle.wm_syntax.specs.exact.OpShapes.{block_op, index_op, memory_op}
use Rattle.wm_machine.specs.Meanings.{Wanted, spelled, an_instruction, a_code, a_value_type, a_block_type, an_element_type, a_flag, a_kind, a_zero, IsFloatType, IsNoInstruction, BeginsFloat, IsOtherByte}
use Rattle.wm_machine.proofs.CodesAtHand.{CodeOp}
use Rattle.wm_machine.proofs.FirstBytes.{head_same}
use Rattle.wm_machine.proofs.Leaves.{IsReader}
use Rattle.wm_machine.proofs.OpRest.{op_rest, at_offset}
use Rattle.wm_machine.proofs.ValueBytes.{limits_rest, table_rest, global_rest, desc_rest, target_rest, run_rest, value_rest, export_of, type_answer, type_given, TypeAnswer}
use Rattle.wm_machine.proofs.MustStand.{ValuesBegin, within, code_begins, copied_begins, eighties, op_begins, padding, padding_begins, block_begins, closed_begins, table_index_begins, limits_begin, table_begins, global_begins, var_begins, desc_begins, target_begins, run_begins}
use Rattle.wm_machine.specs.declared.step.ops.TableOp.{TableOp}
use Rattle.wm_machine.specs.declared.step.ops.TableOp.TheVariants as table_at

-- what is found of the byte, where F says of what that it must stand here
abbrev pub Found : (Wanted → Type 0) → (Wanted → ℕ → Type 0) → ℕ → Type 0
Found F IsWrong c = (x : Wanted) × F x × IsWrong x c

-- by each name
abbrev pub Says : List ℕ → (Wanted → Type 0) → ℕ → Why → Type 0
Says b F c why.BadOpcode = Found F (IsNoInstruction b) c
Says b F c why.Float = Found F (BeginsFloat b) c
Says b F c why.BadByte = Found F (IsOtherByte b) c
Says b F c w = Unit {0}

pub says_map : (b : List ℕ) (F G : Wanted → Type 0) (c : ℕ) → ((x : Wanted) → F x → G x) → (w : Why) → Says b F c w → Says b G c w
says_map b F G c f why.BadOpcode s = (s.0, f s.0 s.1, s.2)
says_map b F G c f why.Float s = (s.0, f s.0 s.1, s.2)
says_map b F G c f why.BadByte s = (s.0, f s.0 s.1, s.2)
says_map b F G c f w s = tt

pub as_named : (b : List ℕ) (F : Wanted → Type 0) (c : ℕ) (v w : Why) → Says b F c v → v ≡ w → Says b F c w
as_named b F c v w s e = subst (Says b F c) e s

same_bad : {R X : Type 0} (v w : Why) → ◌≡◌ {A = Reading R X} (Bad v) (Bad w) → v ≡ w
same_bad v w e = cc

same_err : (v w : Why) → ◌≡◌ {A = Result ValType Why} (Err v) (Err w) → v ≡ w
same_err v w e = cc

not_float : (c : ℕ) → nat_eq c 0x7D ≡ false → nat_eq c 0x7C ≡ false → IsFloatType c → ⊥
not_float c a b i = elim i [ inl e ↦ eqb-false c 0x7D a e | inr e ↦ eqb-false c 0x7C b e ]

nothing_there : (x : OpClass) → Nothing ≡ Some x → ⊥
nothing_there x e = cc

-- no byte of a floating-point instruction is left without a class
not_float_op : (p : Profile) (c : ℕ) → c < 2 ^ 8 → class_under p c ≡ None → IsTrue (is_float c) → ⊥
unfolding class_under
not_float_op p c byte e f = go (slice_get classes c) refl e
  where
    go : (row : Option OpClass) → slice_get classes c ≡ row → row_in p row ≡ None → ⊥
    go (Some x) r e = float_not_none p c x r f e
    go Nothing r e =
        let long : length classes ≡ 271 = refl in
        nothing_there (get_or classes c None) (sym r ∙ slice_get-get_or classes c None (omega (arith, byte, long)))

inner_bad : {R S X Y : Type 0} (f : R → S) (g : X → Y) (q : Reading R X) (w : Why) → map_reading f g q ≡ Bad w → q ≡ Bad w
inner_bad f g (More r) w e = absurd (cc)
inner_bad f g (Done x) w e = absurd (cc)
inner_bad f g (Bad v) w e = let s : v ≡ w = cc in ap Bad s

type_bad : {R X : Type 0} (q : Result ValType Why) (f : ValType → Reading R X) (w : Why) → ((t : ValType) → f t ≡ Bad w → ⊥) → read_type q f ≡ Bad w → q ≡ Err w
type_bad (Ok t) f w h e = absurd (h t e)
type_bad (Err v) f w h e = let s : v ≡ w = cc in ap Err s

module _ (b : List ℕ) (F : Wanted → Type 0) (c : ℕ) (w : Why) where
  -- an answer of a number's reader, and of a value type
  number_says : {R X : Type 0} (q : Step ℕ × Partial) (more : Partial → R) (done : ℕ → Reading R X) → ((n : ℕ) → done n ≡ Bad w → Says b F c w) → read_number q more done ≡ Bad w → Says b F c w
  number_says (step.More, s) more done h = λ e. absurd (cc)
  number_says (step.Done n, s) more done h = h n
  number_says (step.Bad, s) more done h = λ e. as_named b F c why.BadNumber w tt (same_bad why.BadNumber w e)

  answer_says : {T R X : Type 0} (q : Step T × Partial) (more : Partial → Reading R X) (done : T → Reading R X) → ((s : Partial) → more s ≡ Bad w → ⊥) → ((v : T) → done v ≡ Bad w → ⊥) → on_answer q more done (Bad why.BadNumber) ≡ Bad w → Says b F c w
  answer_says (step.More, s) more done h g = λ e. absurd (h s e)
  answer_says (step.Done v, s) more done h g = λ e. absurd (g v e)
  answer_says (step.Bad, s) more done h g = λ e. as_named b F c why.BadNumber w tt (same_bad why.BadNumber w e)

  -- a type of floating-point numbers, where the profile may have it
  float_says : (p : Profile) (t : ValType) (x : Wanted) → F x → BeginsFloat b x c → type_under p t ≡ Err w → Says b F c w
  float_says p t x f i =
      cond_both (has p (type_feature t)) _ _ (λ (q : Result ValType Why). q ≡ Err w → Says b F c w) (λ _ e. type_given t w e)
      (λ _ e. as_named b F c why.Float w (x, f, i) (same_err why.Float w e))

  named_says : (p : Profile) (x : Wanted) → F x → (IsFloatType c → BeginsFloat b x c) → ((IsFloatType c → ⊥) → IsOtherByte b x c) → value_type_of p c ≡ Err w → Says b F c w
  named_says p x f float other =
      let P : Result ValType Why → Type 0 = λ q. q ≡ Err w → Says b F c w in
      cond_both (nat_eq c 0x7F) _ _ P (λ _ e. type_given I32 w e)
      (λ _. cond_both (nat_eq c 0x7E) _ _ P (λ _ e. type_given I64 w e)
      (λ _. cond_both (nat_eq c 0x7D) _ _ P (λ a. float_says p F32 x f (float (inl (eqb-true c 0x7D a))))
      (λ a. cond_both (nat_eq c 0x7C) _ _ P (λ d. float_says p F64 x f (float (inr (eqb-true c 0x7C d))))
      (λ d e. as_named b F c why.BadByte w (x, f, other (not_float c a d)) (same_err why.BadByte w e)))))

  pub type_says : (p : Profile) → F a_value_type → value_type_of p c ≡ Err w → Says b F c w
  type_says p f = named_says p a_value_type f (λ i. i) (λ n. n)

  block_says : (p : Profile) → F a_block_type → (i : BlockOp) → block_step p i c ≡ Bad w → Says b F c w
  block_says p f i =
      cond_both (nat_eq c 0x40) _ _ (λ (q : Reading InOp Op). q ≡ Bad w → Says b F c w) (λ _ e. absurd (cc))
      (λ _ e. named_says p a_block_type f (λ i. i) (λ n. n) (type_bad (value_type_of p c) (λ t. Done (block_op i (Some t))) w (λ t i. cc) e))

  closing_says : F a_zero → (o : Op) → closing_step o c ≡ Bad w → Says b F c w
  closing_says f o =
      cond_both (nat_eq c 0x00) _ _ (λ (q : Reading InOp Op). q ≡ Bad w → Says b F c w) (λ _ e. absurd (cc))
      (λ _ e. as_named b F c why.BadByte w (a_zero, f, tt) (same_bad why.BadByte w e))

  -- at a flag or a kind
  other_says : {R X : Type 0} (x : Wanted) → IsOtherByte b x c → F x → ◌≡◌ {A = Reading R X} (Bad why.BadByte) (Bad w) → Says b F c w
  other_says x i f e = as_named b F c why.BadByte w (x, f, i) (same_bad why.BadByte w e)

module _ (p : Profile) (b : List ℕ) (c : ℕ) (w : Why) where
  -- each value begins with such a thing
  abbrev pub At : {X : Type 0} → (X → Form ℕ) → Wanted → Type 0
  At V x = ValuesBegin (spelled p x) V

  -- of a value within another
  module _ {X Y : Type 0} (V : X → Form ℕ) (g : X → Y) where
    abbrev Outer : Y → Form ℕ
    Outer y b = (x : X) × (y ≡ g x) × V x b

    outer_says : Says b (At V) c w → Says b (At Outer) c w
    outer_says = says_map b (At V) (At Outer) c (λ x. within (spelled p x) V g) w

  min_done : (bounded : Bool) (n : ℕ) → after_min bounded n ≡ Bad w → ⊥
  min_done true n e = cc
  min_done false n e = cc

  limits_says : (l : InLimits) → limits_push l c ≡ Bad w → Says b (At (limits_rest l)) c w
  limits_says limits.Flag =
      let F : Wanted → Type 0 = At (limits_rest limits.Flag) in
      cond_both (nat_eq c 0x00) _ _ (λ (q : Reading InLimits Limits). q ≡ Bad w → Says b F c w) (λ _ e. absurd (cc))
      (λ _. cond_both (nat_eq c 0x01) _ _ (λ (q : Reading InLimits Limits). q ≡ Bad w → Says b F c w) (λ _ e. absurd (cc)) (λ _ e. other_says b F c w a_flag tt (limits_begin p) e))
  limits_says (limits.Min bounded r) = number_says b (At (limits_rest (limits.Min bounded r))) c w (unsigned_push 32 r c) (λ s. limits.Min bounded s) (after_min bounded) (λ n e. absurd (min_done bounded n e))
  limits_says (limits.Max min r) = number_says b (At (limits_rest (limits.Max min r))) c w (unsigned_push 32 r c) (λ s. limits.Max min s) (λ n. Done (record { min = min; max = Some n })) (λ n e. absurd (cc))

  table_says : (t : InTableType) → table_type_push t c ≡ Bad w → Says b (At (table_rest t)) c w
  table_says table.ElementType =
      let F : Wanted → Type 0 = At (table_rest table.ElementType) in
      cond_both (nat_eq c 0x70) _ _ (λ (q : Reading InTableType Limits). q ≡ Bad w → Says b F c w) (λ _ e. absurd (cc)) (λ _ e. other_says b F c w an_element_type tt (table_begins p) e)
  table_says (table.Limits l) = λ e. outer_says (limits_rest l) (λ y. y) (limits_says l (inner_bad table.Limits (λ y. y) (limits_push l c) w e))

  pub global_says : (g : InGlobalType) → global_type_push p g c ≡ Bad w → Says b (At (global_rest p g)) c w
  global_says global.Type = λ e. type_says b (At (global_rest p global.Type)) c w p (global_begins p) (type_bad (value_type_of p c) (λ t. More (global.Var t)) w (λ t i. cc) e)
  global_says (global.Var t) = var_says c
    where
      var_says : (d : ℕ) → global_type_push p (global.Var t) d ≡ Bad w → Says b (At (global_rest p (global.Var t))) d w
      var_says zero = λ e. absurd (cc)
      var_says (suc zero) = λ e. absurd (cc)
      var_says (suc (suc d)) = λ e. other_says b (At (global_rest p (global.Var t))) (suc (suc d)) w a_flag tt (var_begins p t) e

  desc_says : (d : InImportDesc) → desc_push p d c ≡ Bad w → Says b (At (desc_rest p d)) c w
  desc_says import.Kind = kind_says c
    where
      kind_says : (d : ℕ) → desc_push p import.Kind d ≡ Bad w → Says b (At (desc_rest p import.Kind)) d w
      kind_says zero = λ e. absurd (cc)
      kind_says (suc zero) = λ e. absurd (cc)
      kind_says (suc (suc zero)) = λ e. absurd (cc)
      kind_says (suc (suc (suc zero))) = λ e. absurd (cc)
      kind_says (suc (suc (suc (suc d)))) = λ e. other_says b (At (desc_rest p import.Kind)) (suc (suc (suc (suc d)))) w a_kind tt (desc_begins p) e
  desc_says (import.Func r) = number_says b (At (desc_rest p (import.Func r))) c w (unsigned_push 32 r c) import.Func (λ n. Done (desc.Func n)) (λ n e. absurd (cc))
  desc_says (import.Table t) = λ e. outer_says (table_rest t) desc.Table (table_says t (inner_bad import.Table desc.Table (table_type_push t c) w e))
  desc_says (import.Memory l) = λ e. outer_says (limits_rest l) desc.Memory (limits_says l (inner_bad import.Memory desc.Memory (limits_push l c) w e))
  desc_says (import.Global g) = λ e. outer_says (global_rest p g) desc.Global (global_says g (inner_bad import.Global desc.Global (global_type_push p g c) w e))

  target_says : (t : InExportDesc) → target_push t c ≡ Bad w → Says b (At (target_rest t)) c w
  target_says target.Kind = kind_says c
    where
      kind_says : (d : ℕ) → target_push target.Kind d ≡ Bad w → Says b (At (target_rest target.Kind)) d w
      kind_says zero = λ e. absurd (cc)
      kind_says (suc zero) = λ e. absurd (cc)
      kind_says (suc (suc zero)) = λ e. absurd (cc)
      kind_says (suc (suc (suc zero))) = λ e. absurd (cc)
      kind_says (suc (suc (suc (suc d)))) = λ e. other_says b (At (target_rest target.Kind)) (suc (suc (suc (suc d)))) w a_kind tt (target_begins p) e
  target_says (target.Index k r) = number_says b (At (target_rest (target.Index k r))) c w (unsigned_push 32 r c) (λ s. target.Index k s) (λ n. Done (k, n)) (λ n e. absurd (cc))

  pub run_says : (r : InRun) → run_push p r c ≡ Bad w → Says b (At (run_rest p r)) c w
  run_says (run.Count r) = number_says b (At (run_rest p (run.Count r))) c w (unsigned_push 32 r c) run.Count (λ n. More (run.Type n)) (λ n e. absurd (cc))
  run_says (run.Type n) = λ e. type_says b (At (run_rest p (run.Type n))) c w p (run_begins p n) (type_bad (value_type_of p c) (λ t. Done (n, t)) w (λ t i. cc) e)

  pub value_says : (v : InValue) → value_push p v c ≡ Bad w → Says b (At (value_rest p v)) c w
  value_says (value.Import d) = λ e. outer_says (desc_rest p d) plain.Import (desc_says d (inner_bad value.Import plain.Import (desc_push p d c) w e))
  value_says (value.Table t) = λ e. outer_says (table_rest t) plain.Table (table_says t (inner_bad value.Table plain.Table (table_type_push t c) w e))
  value_says (value.Memory l) = λ e. outer_says (limits_rest l) plain.Memory (limits_says l (inner_bad value.Memory plain.Memory (limits_push l c) w e))
  value_says (value.Export t) = λ e. outer_says (target_rest t) export_of (target_says t (inner_bad value.Export export_of (target_push t c) w e))

  -- ops
  class_says : c < 2 ^ 8 → (class : OpClass) → class_under p c ≡ class → class_step class ≡ Bad w → Says b (At (op_rest p at.First)) c w
  class_says byte (Plain o) is = λ e. absurd (cc)
  class_says byte (With k) is = λ e. absurd (cc)
  class_says byte Float is = λ e. as_named b (At (op_rest p at.First)) c why.Float w (an_instruction, op_begins p, float_under p c is) (same_bad why.Float w e)
  class_says byte None is = λ e. as_named b (At (op_rest p at.First)) c why.BadOpcode w (an_instruction, op_begins p, not_float_op p c byte is) (same_bad why.BadOpcode w e)

  no_float_prefix : c ≡ 0xFC → IsTrue (is_float c) → ⊥
  no_float_prefix z f = let e : is_float 0xFC ≡ true = ap is_float (sym z) ∙ f in cc

  begin_says : c < 2 ^ 8 → begin_step p c ≡ Bad w → Says b (At (op_rest p at.First)) c w
  begin_says byte =
      let P : Reading InOp Op → Type 0 = λ q. q ≡ Bad w → Says b (At (op_rest p at.First)) c w in
      cond_both (nat_eq c 0xFC) _ _ P
      (λ z. cond_both (has_prefix p) _ _ P (λ _ e. absurd (cc))
      (λ _ e. as_named b (At (op_rest p at.First)) c why.BadOpcode w (an_instruction, op_begins p, no_float_prefix (eqb-true c 0xFC z)) (same_bad why.BadOpcode w e)))
      (λ _. class_says byte (class_under p c) refl)

  -- behind the prefix
  behind_says : (F : Wanted → Type 0) → Found F (IsNoInstruction b) c → (n : ℕ) (class : OpClass) → class_under p (0x100 + n) ≡ class → class_step class ≡ Bad w → Says b F c w
  behind_says F f n (Plain o) is = λ e. absurd (cc)
  behind_says F f n (With k) is = λ e. absurd (cc)
  behind_says F f n Float is = λ e. absurd (behind_no_float p n is)
  behind_says F f n None is = λ e. as_named b F c why.BadOpcode w f (same_bad why.BadOpcode w e)

  padded_says : (F : Wanted → Type 0) → Found F (IsNoInstruction b) c → (n : ℕ) (class : OpClass) → class_under p (0x100 + n) ≡ class → padded (class_step class) n ≡ Bad w → Says b F c w
  padded_says F f n (Plain o) is = λ e. absurd (cc)
  padded_says F f n (With k) is = λ e. absurd (cc)
  padded_says F f n Float is = λ e. absurd (behind_no_float p n is)
  padded_says F f n None is = λ e. as_named b F c why.BadOpcode w f (same_bad why.BadOpcode w e)

  code_says : SoundOp p at.Code → CodeOp at.Code b → code_step p c ≡ Bad w → Says b (At (op_rest p at.Code)) c w
  code_says sound code =
      let F : Wanted → Type 0 = At (op_rest p at.Code) in
      let f : Found F (IsNoInstruction b) c = (a_code (0xFC ∷ []), code_begins p sound, (code.0, [], code.1, refl, tt)) in
      cond_both (nat_lt c 0x80) _ _ (λ (q : Reading InOp Op). q ≡ Bad w → Says b F c w)
      (λ _. behind_says F f c (class_under p (0x100 + c)) refl) (λ _. padded_says F f (c - 0x80) (class_under p (0x100 + (c - 0x80))) refl)

  go_on : (k : ℕ) → AllByRecursion (λ d. 0x80 ≤ d) (eighties k)
  go_on zero = tt
  go_on (suc k) = (omega arith, go_on k)

  module _ (n left : ℕ) (sound : SoundOp p (at.Padding n left)) (code : CodeOp (at.Padding n left) b) where
    in_padding : Found (At (op_rest p (at.Padding n left))) (IsNoInstruction b) c
    in_padding = (a_code (padding n left), padding_begins p n left sound, (code.1.0, (0x80 + n) ∷ eighties (3 - left), code.1.1, refl, (omega arith, go_on (3 - left))))

    more_says : (more : ℕ) → more_padding n more c ≡ Bad w → Says b (At (op_rest p (at.Padding n left))) c w
    more_says zero = λ e. as_named b (At (op_rest p (at.Padding n left))) c why.BadOpcode w in_padding (same_bad why.BadOpcode w e)
    more_says (suc more) =
        let F : Wanted → Type 0 = At (op_rest p (at.Padding n left)) in
        cond_both (nat_eq c 0x80) _ _ (λ (q : Reading InOp Op). q ≡ Bad w → Says b F c w) (λ _ e. absurd (cc)) (λ _ e. as_named b F c why.BadOpcode w in_padding (same_bad why.BadOpcode w e))

    padding_says : padding_step p n left c ≡ Bad w → Says b (At (op_rest p (at.Padding n left))) c w
    padding_says =
        let F : Wanted → Type 0 = At (op_rest p (at.Padding n left)) in
        cond_both (nat_eq c 0x00) _ _ (λ (q : Reading InOp Op). q ≡ Bad w → Says b F c w) (λ _. behind_says F in_padding n (class_under p (0x100 + n)) refl) (λ _. more_says left)

  first_zero_says : first_zero_step c ≡ Bad w → Says b (At (op_rest p at.FirstZero)) c w
  first_zero_says =
      let F : Wanted → Type 0 = At (op_rest p at.FirstZero) in
      cond_both (nat_eq c 0x00) _ _ (λ (q : Reading InOp Op). q ≡ Bad w → Says b F c w) (λ _ e. absurd (cc)) (λ _ e. as_named b F c why.BadByte w (a_zero, copied_begins p, tt) (same_bad why.BadByte w e))

  long_says : (t : TableOp) (left : ℕ) → long_step t left c ≡ Bad w → Says b (At (op_rest p (at.Table t left))) c w
  long_says t zero = λ e. as_named b (At (op_rest p (at.Table t zero))) c why.BadNumber w tt (same_bad why.BadNumber w e)
  long_says t (suc left) =
      let F : Wanted → Type 0 = At (op_rest p (at.Table t (suc left))) in
      cond_both (nat_eq c 0x80) _ _ (λ (q : Reading InOp Op). q ≡ Bad w → Says b F c w) (λ _ e. absurd (cc)) (λ _ e. as_named b F c why.BadNumber w tt (same_bad why.BadNumber w e))

  after_good : (t : TableOp) → after_table t ≡ Bad w → ⊥
  after_good (table_at.Call n) e = cc
  after_good (table_at.Init n) e = cc
  after_good table_at.CopyTo e = cc
  after_good table_at.CopyFrom e = cc

  index_says : (t : TableOp) (left : ℕ) → table_step p t left c ≡ Bad w → Says b (At (op_rest p (at.Table t left))) c w
  index_says t left =
      let F : Wanted → Type 0 = At (op_rest p (at.Table t left)) in
      cond_both (nat_eq c 0x00) _ _ (λ (q : Reading InOp Op). q ≡ Bad w → Says b F c w) (λ _ e. absurd (after_good t e))
      (λ _. cond_both (has p (table_feature t)) _ _ (λ (q : Reading InOp Op). q ≡ Bad w → Says b F c w) (λ _. long_says t left)
      (λ k e. as_named b F c why.BadByte w (a_zero, table_index_begins p t k left, tt) (same_bad why.BadByte w e)))

  pub op_says : c < 2 ^ 8 → (r : InOp) → SoundOp p r → CodeOp r b → op_push p r c ≡ Bad w → Says b (At (op_rest p r)) c w
  op_says byte at.First sound code = begin_says byte
  op_says byte at.Code sound code = code_says sound code
  op_says byte (at.Padding n left) sound code = padding_says n left sound code
  op_says byte (at.BlockType i) sound code = block_says b (At (op_rest p (at.BlockType i))) c w p (block_begins p i) i
  op_says byte (at.Index i r) sound code = answer_says b (At (op_rest p (at.Index i r))) c w (unsigned_push 32 r c) (λ t. More (at.Index i t)) (λ n. Done (index_op i n)) (λ t e. cc) (λ n e. cc)
  op_says byte (at.CallType r) sound code = answer_says b (At (op_rest p (at.CallType r))) c w (unsigned_push 32 r c) (λ t. More (at.CallType t)) (λ n. More (at.Table (table_at.Call n) 4)) (λ t e. cc) (λ n e. cc)
  op_says byte (at.Table t left) sound code = index_says t left
  op_says byte (at.InitElement r) sound code = answer_says b (At (op_rest p (at.InitElement r))) c w (unsigned_push 32 r c) (λ t. More (at.InitElement t)) (λ n. More (at.Table (table_at.Init n) 4)) (λ t e. cc) (λ n e. cc)
  op_says byte (at.InitSegment r) sound code = answer_says b (At (op_rest p (at.InitSegment r))) c w (unsigned_push 32 r c) (λ t. More (at.InitSegment t)) (λ n. More (at.InitMemory n)) (λ t e. cc) (λ n e. cc)
  op_says byte (at.InitMemory n) sound code = closing_says b (At (op_rest p (at.InitMemory n))) c w (closed_begins p (init_op n)) (init_op n)
  op_says byte at.FirstZero sound code = first_zero_says
  op_says byte (at.Memory m) sound code = closing_says b (At (op_rest p (at.Memory m))) c w (closed_begins p (memory_op m)) (memory_op m)
  op_says byte (at.Const32 r) sound code = answer_says b (At (op_rest p (at.Const32 r))) c w (signed_push 32 r c) (λ t. More (at.Const32 t)) (λ z. Done (const_32_op z)) (λ t e. cc) (λ z e. cc)
  op_says byte (at.Const64 r) sound code = answer_says b (At (op_rest p (at.Const64 r))) c w (signed_push 64 r c) (λ t. More (at.Const64 t)) (λ z. Done (const_64_op z)) (λ t e. cc) (λ z e. cc)
  op_says byte (at.Float32 zero low) sound code = λ e. absurd (cc)
  op_says byte (at.Float32 (suc left) low) sound code = λ e. absurd (cc)
  op_says byte (at.Float64 zero low) sound code = λ e. absurd (cc)
  op_says byte (at.Float64 (suc left) low) sound code = λ e. absurd (cc)
  op_says byte (at.Align a r) sound code = answer_says b (At (op_rest p (at.Align a r))) c w (unsigned_push 32 r c) (λ t. More (at.Align a t)) (λ n. More (at.Offset a n fresh)) (λ t e. cc) (λ n e. cc)
  op_says byte (at.Offset a n r) sound code = answer_says b (At (op_rest p (at.Offset a n r))) c w (unsigned_push 32 r c) (λ t. More (at.Offset a n t)) (λ m. Done (at_offset a n m)) (λ t e. cc) (λ m e. cc)

-- none begins with the byte
pub none_begins : {R X : Type 0} (rest : R → X → Form ℕ) (push : R → ℕ → Reading R X) → IsReader rest push → (W : Form ℕ) (r : R) (c : ℕ) → c < 2 ^ 8 → (w : Why) → push r c ≡ Bad w → ValuesBegin W (rest r) → (more : List ℕ) → W (c ∷ more) → ⊥
none_begins rest push is W r c byte w e v more s =
    let h = v.can (c ∷ more) s in
    subst (λ (q : Reading _ _). Goes rest q h.1 (more ++ h.0)) e ((is.law r c byte h.1 (more ++ h.0)).0 h.2)

pub no_type_begins : (p : Profile) (c : ℕ) (w : Why) → value_type_of p c ≡ Err w → (more : List ℕ) → spelled p a_value_type (c ∷ more) → ⊥
no_type_begins p c w e more s =
    let none : (t : ValType) → HasType p t → c ≡ type_byte t → ⊥ = subst (TypeAnswer p c) e (type_answer p c) in
    none s.0 s.1.0 (head_same c (type_byte s.0) more [] s.1.1)
