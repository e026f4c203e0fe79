-- Where something is required, each such thing has a value or a part that continues from it, and each value or part
-- begins with one.
use Rattle.std.proofs.Common.{◌≡◌, ◌↔◌, ℕ, zero, suc, length, ◌+◌, ◌-◌, ◌<◌, ◌≤◌, arith, inl, inr, Bool, true, false, List, [], ◌∷◌, ◌++◌, Option, Some, None, refl, sym, ◌∙◌, ap, subst, append_assoc, append-nil}
use Rattle.wm_syntax.specs.Spelling.{Form, Byte as OneByte}
use Rattle.wm_syntax.specs.Types.{SpellsValType, SpellsLimits, SpellsBounds, SpellsVar}
use Rattle.wm_syntax.specs.OpClasses.{IsClassOfOp}
use Rattle.wm_syntax.specs.exact.ByteTable.{class_under}
use Rattle.wm_syntax.proofs.FirstBytes.{behind_small, begins_under}
use Rattle.wm_syntax.specs.Profiles.{has, HasDesc, HasType}
use Rattle.wm_syntax.specs.declared.profile.Profile.{Profile}
use Rattle.wm_syntax.specs.declared.types.Limits.{Limits}
use Rattle.wm_syntax.specs.declared.types.ValType.{ValType}
use Rattle.wm_syntax.specs.declared.types.ValType.TheVariants.{I32}
use Rattle.wm_syntax.specs.declared.types.GlobalType.{GlobalType}
use Rattle.wm_syntax.specs.declared.instructions.Op.{Op}
use Rattle.wm_syntax.specs.declared.instructions.Op.TheVariants as op
use Rattle.wm_syntax.specs.declared.modules.ImportDesc.{ImportDesc}
use Rattle.wm_syntax.specs.declared.modules.ImportDesc.TheVariants as desc
use Rattle.wm_syntax.specs.declared.modules.ExportKind.{ExportKind}
use Rattle.wm_syntax.specs.declared.modules.ExportKind.TheVariants as kind
use Rattle.wm_syntax.specs.declared.instructions.op_class.BlockOp.{BlockOp}
use Rattle.wm_machine.specs.declared.step.ops.InOp.{InOp}
use Rattle.wm_machine.specs.declared.step.ops.InOp.TheVariants as at
use Rattle.wm_machine.specs.declared.step.expressions.InExpression.TheVariants as expression
use Rattle.wm_machine.specs.declared.step.values.InLimits.TheVariants as limits
use Rattle.wm_machine.specs.declared.step.values.InTableType.TheVariants as table
use Rattle.wm_machine.specs.declared.step.values.InGlobalType.TheVariants as global
use Rattle.wm_machine.specs.declared.step.values.InImportDesc.TheVariants as import
use Rattle.wm_machine.specs.declared.step.values.InExportDesc.TheVariants as target
use Rattle.wm_machine.specs.declared.step.values.InRun.TheVariants as run
use Rattle.wm_machine.specs.exact.OpSteps.{code_step}
use Rattle.wm_syntax.specs.exact.OpShapes.{block_op, memory_op}
use Rattle.wm_machine.specs.Items.{Item, Marks}
use Rattle.wm_machine.specs.MarkedForms.{MarkedForm, MarkedByte, Then, Leaf, Sized, Filled, Entry, entry_marks, marks_ending, outside_mark}
use Rattle.wm_machine.specs.Sections.{Those, SpellsDesc, kind_byte}
use Rattle.wm_machine.specs.Grammar.{loose, strict}
use Rattle.wm_machine.specs.Meanings.{AnInstruction, spelled, a_code, an_instruction, a_value_type, a_block_type, an_element_type, a_flag, a_kind, a_zero}
use Rattle.wm_machine.proofs.OpBytes.{coded_named, has_first}
use Rattle.wm_machine.proofs.OpRest.{Closed, Copied, behind_first, code_law, first_parts, long_first, op_rest, padding_law, rest_named}
use Rattle.wm_machine.proofs.OpSound.{SoundOp, some_op}
use Rattle.wm_machine.specs.exact.Readings.{Goes}
use Rattle.wm_syntax.specs.declared.instructions.op_class.MemoryOp.TheVariants as memory
use Rattle.wm_machine.proofs.ValueBytes.{limits_rest, table_rest, global_rest, desc_rest, target_rest, run_rest}
use Rattle.wm_machine.proofs.ExpressionRest.{ExpressionRest}
use Rattle.wm_machine.proofs.ExpressionSound.{some_after}
use Rattle.wm_machine.proofs.OpenMembers.{Comes, zero_u32, zero_limits, zeros, zeros_length, zeros_bytes}
use Rattle.std.specs.Prelude.{IsFalse}
use Rattle.wm_machine.proofs.TableIndex.{TableRest, not_both}
use Rattle.wm_machine.specs.declared.step.ops.TableOp.{TableOp}
use Rattle.wm_machine.specs.exact.OpSteps.{table_feature}
use Rattle.wm_machine.proofs.OpRest.{table_op, after_comes}

-- of values: each such thing has one that goes on from it
abbrev pub ValuesCan : {X : Type 0} → Form ℕ → (X → Form ℕ) → Type 0
ValuesCan {X} W V = (b : List ℕ) → W b → (rest : List ℕ) × (x : X) × V x (b ++ rest)

-- and each begins with one, of which there are some
pub record ValuesBegin {X : Type 0} (W : Form ℕ) (V : X → Form ℕ) : Type 0 where
  pub some : (b : List ℕ) × W b
  pub can : ValuesCan W V
  pub must : (x : X) (b : List ℕ) → V x b → (y rest : List ℕ) × (b ≡ y ++ rest) × W y

-- of parts: each such thing can stand in the loose grammar
abbrev pub PartsCan : Form ℕ → MarkedForm → Type 0
PartsCan W L = (b : List ℕ) → W b → (rest : List ℕ) × (k : Marks) × L (b ++ rest) k

-- and in the strict one each part begins with one
pub record PartsBegin (W : Form ℕ) (L S : MarkedForm) : Type 0 where
  pub can : PartsCan W L
  pub must : (b : List ℕ) (k : Marks) → S b k → (y rest : List ℕ) × (b ≡ y ++ rest) × W y

-- values that are such things, whole
whole : {X : Type 0} (W : Form ℕ) (V : X → Form ℕ) → ((b : List ℕ) → W b → (x : X) × V x b) → ((x : X) (b : List ℕ) → V x b → W b) → ((b : List ℕ) × W b) → ValuesBegin W V
whole W V f g i = record {
  some = i;
  can = λ b w. let h = f b w in ([], h.0, subst (V h.0) (sym (append-nil b)) h.1);
  must = λ x b h. (b, [], sym (append-nil b), g x b h);
}

-- values within others
pub within_can : {X Y : Type 0} (W : Form ℕ) (V : X → Form ℕ) (g : X → Y) → ValuesCan W V → ValuesCan W (λ y b. (x : X) × (y ≡ g x) × V x b)
within_can W V g v b w = let h = v b w in (h.0, g h.1, (h.1, refl, h.2))

pub within : {X Y : Type 0} (W : Form ℕ) (V : X → Form ℕ) (g : X → Y) → ValuesBegin W V → ValuesBegin W (λ y b. (x : X) × (y ≡ g x) × V x b)
within W V g v = record {
  some = v.some;
  can = within_can W V g v.can;
  must = λ y b h. v.must h.0 b h.2;
}

module _ (W : Form ℕ) where
  pub leaf_can : {X : Type 0} (V : X → Form ℕ) (part : X → Item) → ValuesCan W V → PartsCan W (Leaf V part)
  leaf_can V part v b w = let h = v b w in (h.0, marks_ending (Some (part h.1)) (b ++ h.0), (h.1, h.2, refl))

  pub leaf_begins : {X : Type 0} (V : X → Form ℕ) (part : X → Item) → ValuesBegin W V → PartsBegin W (Leaf V part) (Leaf V part)
  leaf_begins V part v = record {
    can = leaf_can V part v.can;
    must = λ b k h. v.must h.0 b h.1;
  }

  first_of : (front back b : List ℕ) → b ≡ front ++ back → ((y rest : List ℕ) × (front ≡ y ++ rest) × W y) → (y rest : List ℕ) × (b ≡ y ++ rest) × W y
  first_of front back b e m = (m.0, m.1 ++ back, e ∙ (ap (λ y. y ++ back) m.2 ∙ append_assoc m.0 m.1 back), m.3)

  pub then_can : (L Q : MarkedForm) → PartsCan W L → Comes Q → PartsCan W (Then L Q)
  then_can L Q v q b w =
      let h = v b w in
      (h.0 ++ q.bytes, h.1 ++ q.marks, record { front = b ++ h.0; back = q.bytes; front_marks = h.1; back_marks = q.marks; bytes = sym (append_assoc b h.0 q.bytes); marks = refl; first = h.2; second = q.spelled })

  pub then_begins : (L S Q R : MarkedForm) → PartsBegin W L S → Comes Q → PartsBegin W (Then L Q) (Then S R)
  then_begins L S Q R v q = record {
    can = then_can L Q v.can q;
    must = λ b k h. first_of h.front h.back b h.bytes (v.must h.front h.front_marks h.first);
  }

  pub sized_can : (n : ℕ) (L : MarkedForm) → PartsCan W L → PartsCan W (Sized loose n L)
  sized_can n L v b w = let h = v b w in (h.0, h.1, ((λ d. absurd d), h.2))

  pub sized_begins : (n : ℕ) (L S : MarkedForm) → PartsBegin W L S → PartsBegin W (Sized loose n L) (Sized strict n S)
  sized_begins n L S v = record {
    can = sized_can n L v.can;
    must = λ b k h. v.must b k h.1;
  }

  pub entry_can : (L : MarkedForm) → PartsCan W L → PartsCan W (Entry L)
  entry_can L v b w = let h = v b w in (h.0, entry_marks h.1, record { inner = h.1; marks = refl; contents = h.2 })

  pub entry_begins : (L S : MarkedForm) → PartsBegin W L S → PartsBegin W (Entry L) (Entry S)
  entry_begins L S v = record {
    can = entry_can L v.can;
    must = λ b k h. v.must b h.inner h.contents;
  }

  pub filled_can : (n : ℕ) (L : MarkedForm) → PartsCan W L → PartsCan W (Filled loose n L)
  filled_can n L v b w =
      let h = v b w in
      let back : List ℕ = zeros (n - length (b ++ h.0)) in
      (h.0 ++ back, h.1 ++ marks_ending None back, record { front = b ++ h.0; back = back; front_marks = h.1; bytes = sym (append_assoc b h.0 back); marks = refl; first = h.2; fits = λ d. absurd d; size = zeros_length (n - length (b ++ h.0)); are_bytes = zeros_bytes (n - length (b ++ h.0)) })

  pub filled_begins : (n : ℕ) (L S : MarkedForm) → PartsBegin W L S → PartsBegin W (Filled loose n L) (Filled strict n S)
  filled_begins n L S v = record {
    can = filled_can n L v.can;
    must = λ b k h. first_of h.front h.back b h.bytes (v.must h.front h.front_marks h.first);
  }

  -- an op, and what follows it in an expression
  pub led_can : (p : Profile) (part : Op → Item) (depth : ℕ) (r : InOp) → ValuesCan W (op_rest p r) → PartsCan W (ExpressionRest p part (expression.Op depth r))
  led_can p part depth r v b w =
      let h = v b w in
      let g = some_after p part depth h.1 (rest_named p r h.1 (b ++ h.0) h.2) in
      (h.0 ++ g.0, marks_ending (Some (part h.1)) (b ++ h.0) ++ g.1, record { value = h.1; front = b ++ h.0; back = g.0; back_marks = g.1; bytes = sym (append_assoc b h.0 g.0); marks = refl; spelled = h.2; rest = g.2 })

  pub led_begins : (p : Profile) (part : Op → Item) (depth : ℕ) (r : InOp) → ValuesBegin W (op_rest p r) → PartsBegin W (ExpressionRest p part (expression.Op depth r)) (ExpressionRest p part (expression.Op depth r))
  led_begins p part depth r v = record {
    can = led_can p part depth r v.can;
    must = λ b k h. first_of h.front h.back b h.bytes (v.must h.value h.front h.spelled);
  }

-- ops
-- bytes 80
abbrev pub eighties : ℕ → List ℕ
eighties zero = []
eighties (suc k) = 0x80 ∷ eighties k

-- the bytes of an op up to a state inside the number behind the prefix
abbrev pub padding : ℕ → ℕ → List ℕ
padding n left = 0xFC ∷ (0x80 + n) ∷ eighties (3 - left)

module _ (p : Profile) where
  to_rest : (b : List ℕ) → AnInstruction p b → (o : Op) × op_rest p at.First o b
  to_rest b w = (w.0, (coded_named w.0 w.1 w.2, w.3, w.4))

  from_rest : (o : Op) (b : List ℕ) → op_rest p at.First o b → AnInstruction p b
  from_rest o b h = let f = has_first o h.0 in (o, f.0, f.1, h.1, h.2)

  pub op_begins : ValuesBegin (spelled p an_instruction) (op_rest p at.First)
  op_begins = whole (spelled p an_instruction) (op_rest p at.First) to_rest from_rest (0x0B ∷ [], (op.End, 0x0B, refl, tt, refl))

  -- behind the prefix
  behind : (o : Op) (b : List ℕ) → op_rest p at.First o (0xFC ∷ b) → op_rest p at.Code o b
  behind o b h = elim (first_parts p 0xFC o b h) [ inl f ↦ absurd (f.0 refl) | inr f ↦ f.2 ]

  pub to_code : (o : Op) (b : List ℕ) → op_rest p at.Code o b → spelled p (a_code (0xFC ∷ [])) b
  to_code o b h = from_rest o (0xFC ∷ b) (behind_first p 0xFC o b refl h)

  pub code_begins : SoundOp p at.Code → ValuesBegin (spelled p (a_code (0xFC ∷ []))) (op_rest p at.Code)
  code_begins sound = whole (spelled p (a_code (0xFC ∷ []))) (op_rest p at.Code) (λ b w. let r = to_rest (0xFC ∷ b) w in (r.0, behind r.0 b r.1)) to_code
      (let i = some_op p at.Code sound in (i.1, to_code i.0 i.1 i.2))

  module _ (n : ℕ) (sound : IsClassOfOp (class_under p (0x100 + n))) (o : Op) (b : List ℕ) where
    few : n < 15
    few = let i = begins_under p (0x100 + n) sound in behind_small p n i.0 i.1 i.2

    run_80 : (k left : ℕ) → op_rest p (at.Padding n (k + left)) o (eighties k ++ b) → op_rest p (at.Padding n left) o b
    run_80 zero left h = subst (λ m. op_rest p (at.Padding n m) o b) (let e : zero + left ≡ left = omega arith in e) h
    run_80 (suc k) left h = run_80 k left ((padding_law p n 0x80 o (eighties k ++ b) (suc (k + left))).0 (subst (λ m. op_rest p (at.Padding n m) o (0x80 ∷ (eighties k ++ b))) (let e : suc k + left ≡ suc (k + left) = omega arith in e) h))

    from_80 : (k left : ℕ) → op_rest p (at.Padding n left) o b → op_rest p (at.Padding n (k + left)) o (eighties k ++ b)
    from_80 zero left h = subst (λ m. op_rest p (at.Padding n m) o b) (let e : left ≡ zero + left = omega arith in e) h
    from_80 (suc k) left h = subst (λ m. op_rest p (at.Padding n m) o (0x80 ∷ (eighties k ++ b))) (let e : suc (k + left) ≡ suc k + left = omega arith in e) ((padding_law p n 0x80 o (eighties k ++ b) (suc (k + left))).1 (from_80 k left h))

    -- the first byte of the number
    goes_on : (rest : List ℕ) → Goes (op_rest p) (code_step p (0x80 + n)) o rest ↔ op_rest p (at.Padding n 3) o rest
    goes_on rest = subst (λ a. Goes (op_rest p) a o rest ↔ op_rest p (at.Padding n 3) o rest) (sym (long_first p n sound)) (λ h. h, λ h. h)

    to_padding : (left : ℕ) → left ≤ 3 → op_rest p at.First o (padding n left ++ b) → op_rest p (at.Padding n left) o b
    to_padding left l h =
        let same : 3 ≡ (3 - left) + left = omega (arith, l) in
        let inner = (goes_on (eighties (3 - left) ++ b)).0 ((code_law p (0x80 + n) (omega (arith, few)) o (eighties (3 - left) ++ b)).0 (behind o ((0x80 + n) ∷ (eighties (3 - left) ++ b)) h)) in
        run_80 (3 - left) left (subst (λ m. op_rest p (at.Padding n m) o (eighties (3 - left) ++ b)) same inner)

    of_padding : (left : ℕ) → left ≤ 3 → op_rest p (at.Padding n left) o b → op_rest p at.First o (padding n left ++ b)
    of_padding left l h =
        let same : (3 - left) + left ≡ 3 = omega (arith, l) in
        let inner = subst (λ m. op_rest p (at.Padding n m) o (eighties (3 - left) ++ b)) same (from_80 (3 - left) left h) in
        behind_first p 0xFC o ((0x80 + n) ∷ (eighties (3 - left) ++ b)) refl ((code_law p (0x80 + n) (omega (arith, few)) o (eighties (3 - left) ++ b)).1 ((goes_on (eighties (3 - left) ++ b)).1 inner))

  pub to_padded : (n left : ℕ) → SoundOp p (at.Padding n left) → (o : Op) (b : List ℕ) → op_rest p (at.Padding n left) o b → spelled p (a_code (padding n left)) b
  to_padded n left sound o b h = from_rest o (padding n left ++ b) (of_padding n sound.0 o b left sound.1 h)

  pub padding_begins : (n left : ℕ) → SoundOp p (at.Padding n left) → ValuesBegin (spelled p (a_code (padding n left))) (op_rest p (at.Padding n left))
  padding_begins n left sound = whole (spelled p (a_code (padding n left))) (op_rest p (at.Padding n left))
      (λ b w. let r = to_rest (padding n left ++ b) w in (r.0, to_padding n sound.0 r.0 b left sound.1 r.1)) (to_padded n left sound)
      (let i = some_op p (at.Padding n left) sound in (i.1, to_padded n left sound i.0 i.1 i.2))

  -- the first of two bytes 00
  pub copied_begins : ValuesBegin (spelled p a_zero) Copied
  copied_begins = record {
    some = (0 ∷ [], refl);
    can = λ b w. (0 ∷ [], memory_op memory.MemoryCopy, (refl, (b, 0 ∷ [], refl, w, refl)));
    must = λ o b h. (h.1.0, h.1.1, h.1.2, h.1.3);
  }

  pub block_begins : (i : BlockOp) → ValuesBegin (spelled p a_block_type) (op_rest p (at.BlockType i))
  block_begins i = whole (spelled p a_block_type) (op_rest p (at.BlockType i)) (λ b w. (block_op i w.0, (w.0, refl, w.1))) (λ o b h. (h.0, h.2)) (0x40 ∷ [], (None, (tt, refl)))

  pub closed_begins : (o : Op) → ValuesBegin (spelled p a_zero) (Closed o)
  closed_begins o = whole (spelled p a_zero) (Closed o) (λ b w. (o, (refl, w))) (λ x b h. h.1) (0 ∷ [], refl)

  -- the byte 00 alone, under a profile without long indices
  pub table_index_begins : (t : TableOp) → IsFalse (has p (table_feature t)) → (left : ℕ) → ValuesBegin (spelled p a_zero) (op_rest p (at.Table t left))
  table_index_begins t k left = record {
    some = (0 ∷ [], refl);
    can = λ b w. let g = after_comes p t in (g.0, table_op t, (refl, (b, g.0, refl, inl w, g.1)));
    must = λ o b h. (h.1.0, h.1.1, h.1.2, only h.1.0 h.1.3);
  }
    where
      only : (b : List ℕ) → TableRest p (table_feature t) left b → OneByte 0x00 b
      only b (inl e) = e
      only b (inr h) = absurd (not_both (has p (table_feature t)) h.0 k)

  -- values
  pub type_begins : ValuesBegin (spelled p a_value_type) (Those (HasType p) SpellsValType)
  type_begins = whole (spelled p a_value_type) (Those (HasType p) SpellsValType) (λ b w. w) (λ t b h. (t, h)) (0x7F ∷ [], (I32, (refl, refl)))

  bounds_begin : (min : ℕ) (max : Option ℕ) (b : List ℕ) → SpellsBounds min max b → (y rest : List ℕ) × (b ≡ y ++ rest) × spelled p a_flag y
  bounds_begin min None b h = (h.0, h.1, h.2, inl h.3)
  bounds_begin min (Some max) b h = (h.0, h.1, h.2, inr h.3)

  flag_can : (b : List ℕ) → spelled p a_flag b → (rest : List ℕ) × (l : Limits) × SpellsLimits l (b ++ rest)
  flag_can b (inl e) = (0 ∷ [], record { min = 0; max = None }, (b, 0 ∷ [], refl, e, zero_u32))
  flag_can b (inr e) = (0 ∷ 0 ∷ [], record { min = 0; max = Some 0 }, (b, 0 ∷ 0 ∷ [], refl, e, (0 ∷ [], 0 ∷ [], refl, zero_u32, zero_u32)))

  pub limits_begin : ValuesBegin (spelled p a_flag) (limits_rest limits.Flag)
  limits_begin = record { some = (0 ∷ [], inl refl); can = flag_can; must = λ l b h. bounds_begin l.min l.max b h }

  pub table_begins : ValuesBegin (spelled p an_element_type) (table_rest table.ElementType)
  table_begins = record {
    some = (0x70 ∷ [], refl);
    can = λ b w. (0 ∷ 0 ∷ [], record { min = 0; max = None }, (b, 0 ∷ 0 ∷ [], refl, w, zero_limits));
    must = λ l b h. (h.0, h.1, h.2, h.3);
  }

  pub global_begins : ValuesBegin (spelled p a_value_type) (global_rest p global.Type)
  global_begins = record {
    some = (0x7F ∷ [], (I32, (refl, refl)));
    can = λ b w. (0 ∷ [], record { ty = w.0; var = false }, (w.1.0, (b, 0 ∷ [], refl, w.1.1, refl)));
    must = λ g b h. let r = h.1 in (r.0, r.1, r.2, (g.ty, (h.0, r.3)));
  }

  var_can : (t : ValType) (b : List ℕ) → spelled p a_flag b → (g : GlobalType) × global_rest p (global.Var t) g b
  var_can t b (inl e) = (record { ty = t; var = false }, (refl, e))
  var_can t b (inr e) = (record { ty = t; var = true }, (refl, e))

  var_must : (v : Bool) (b : List ℕ) → SpellsVar v b → spelled p a_flag b
  var_must false b h = inl h
  var_must true b h = inr h

  pub var_begins : (t : ValType) → ValuesBegin (spelled p a_flag) (global_rest p (global.Var t))
  var_begins t = whole (spelled p a_flag) (global_rest p (global.Var t)) (var_can t) (λ g b h. var_must g.var b h.1) (0 ∷ [], inl refl)

  desc_can : (b : List ℕ) (k : ExportKind) → OneByte (kind_byte k) b → (rest : List ℕ) × (d : ImportDesc) × Those (HasDesc p) SpellsDesc d (b ++ rest)
  desc_can b kind.Func w = (0 ∷ [], desc.Func 0, (tt, (b, 0 ∷ [], refl, w, zero_u32)))
  desc_can b kind.Table w = (0x70 ∷ 0 ∷ 0 ∷ [], desc.Table (record { min = 0; max = None }), (tt, (b, 0x70 ∷ 0 ∷ 0 ∷ [], refl, w, (0x70 ∷ [], 0 ∷ 0 ∷ [], refl, refl, zero_limits))))
  desc_can b kind.Memory w = (0 ∷ 0 ∷ [], desc.Memory (record { min = 0; max = None }), (tt, (b, 0 ∷ 0 ∷ [], refl, w, zero_limits)))
  desc_can b kind.Global w = let g : GlobalType = record { ty = I32; var = false } in (0x7F ∷ 0 ∷ [], desc.Global g, (refl, (b, 0x7F ∷ 0 ∷ [], refl, w, (0x7F ∷ [], 0 ∷ [], refl, refl, refl))))

  desc_must : (d : ImportDesc) (b : List ℕ) → Those (HasDesc p) SpellsDesc d b → (y rest : List ℕ) × (b ≡ y ++ rest) × spelled p a_kind y
  desc_must (desc.Func x) b h = let r = h.1 in (r.0, r.1, r.2, (kind.Func, r.3))
  desc_must (desc.Table l) b h = let r = h.1 in (r.0, r.1, r.2, (kind.Table, r.3))
  desc_must (desc.Memory l) b h = let r = h.1 in (r.0, r.1, r.2, (kind.Memory, r.3))
  desc_must (desc.Global g) b h = let r = h.1 in (r.0, r.1, r.2, (kind.Global, r.3))

  pub desc_begins : ValuesBegin (spelled p a_kind) (desc_rest p import.Kind)
  desc_begins = record { some = (0 ∷ [], (kind.Func, refl)); can = λ b w. desc_can b w.0 w.1; must = desc_must }

  pub target_begins : ValuesBegin (spelled p a_kind) (target_rest target.Kind)
  target_begins = record {
    some = (0 ∷ [], (kind.Func, refl));
    can = λ b w. (0 ∷ [], (w.0, 0), (b, 0 ∷ [], refl, w.1, zero_u32));
    must = λ t b h. (h.0, h.1, h.2, (t.0, h.3));
  }

  pub run_begins : (n : ℕ) → ValuesBegin (spelled p a_value_type) (run_rest p (run.Type n))
  run_begins n = whole (spelled p a_value_type) (run_rest p (run.Type n)) (λ b w. ((n, w.0), (refl, w.1.0, w.1.1))) (λ x b h. (x.1, (h.1, h.2))) (0x7F ∷ [], (I32, (refl, refl)))

  -- a byte that is required
  pub byte_begins : (d : ℕ) (x : Option Item) → PartsBegin (OneByte d) (MarkedByte d x) (MarkedByte d x)
  byte_begins d x = record {
    can = λ b e. ([], outside_mark x ∷ [], (append-nil b ∙ e, refl));
    must = λ b k h. (b, [], sym (append-nil b), h.0);
  }
