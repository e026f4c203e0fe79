-- The possible rest of an op, and how each byte continues it.
use Rattle.std.proofs.Common.{◌≡◌, ◌⊎◌, IsTrue, ℕ, zero, suc, nat_lt, ◌+◌, ◌-◌, ◌<◌, ◌≤◌, ◌^◌, ◌↔◌, Result, Ok, Err, List, [], ◌∷◌, ◌++◌, Option, Some, ℤ, refl, sym, ap, ◌∙◌, subst, arith, inl, inr, nat_eq, append-nil}
use Rattle.std.specs.Prelude.{None as Nothing}
use Rattle.std.proofs.lemmas.Bool.{cond_both, eqb-true, eqb-false, ltb-true, ltb-false}
use Rattle.wm_syntax.specs.declared.profile.Profile.{Profile}
use Rattle.wm_syntax.specs.declared.why.Why.{Why}
use Rattle.wm_syntax.specs.declared.why.Why.TheVariants as why
use Rattle.wm_syntax.specs.declared.types.ValType.{ValType}
use Rattle.wm_syntax.proofs.SameTypes.{block_tells}
use Rattle.wm_syntax.specs.declared.instructions.MemArg.{MemArg}
use Rattle.wm_syntax.specs.declared.instructions.Simple.{Simple}
use Rattle.wm_syntax.specs.declared.instructions.Simple.TheVariants as s
use Rattle.wm_syntax.specs.declared.instructions.Op.{Op}
use Rattle.wm_syntax.specs.declared.instructions.Op.TheVariants as op
use Rattle.wm_syntax.specs.declared.instructions.op_class.Immediates.{Immediates}
use Rattle.wm_syntax.specs.declared.instructions.op_class.Immediates.TheVariants as k
use Rattle.wm_syntax.specs.declared.instructions.op_class.OpClass.{OpClass}
use Rattle.wm_syntax.specs.declared.instructions.op_class.OpClass.TheVariants.{Plain, With, Float, None}
use Rattle.wm_syntax.specs.declared.numbers.Step.{Step}
use Rattle.wm_syntax.specs.declared.numbers.Step.TheVariants as step
use Rattle.wm_syntax.specs.inner.Numbers.{Partial, SignedRest}
use Rattle.wm_syntax.specs.exact.Reading.{fresh, unsigned_push, signed_push}
use Rattle.wm_syntax.specs.Leb128.{Signed, Unsigned}
use Rattle.wm_syntax.specs.Spelling.{Form, Byte, Exactly, ◌▸◌}
use Rattle.wm_syntax.specs.Types.{SpellsU32, SpellsBlockType, block_byte, type_byte}
use Rattle.wm_syntax.specs.exact.ByteTable.{class_feature, class_under}
use Rattle.wm_syntax.specs.OpClasses.{IsClassOfOp, class_of, code}
use Rattle.wm_syntax.specs.Profiles.{has, has_prefix, HasBlockType, HasType, IsOpOf}
use Rattle.wm_syntax.specs.Encodings.{SpellsImmediates, SpellsOp}
use Rattle.wm_syntax.proofs.Readers.{Goes as NumberGoes, unsigned_law, signed_law, signed_fresh}
use Rattle.wm_syntax.proofs.CodeBytes.{Prefixed, byte_spells, code_forms, prefixed_spells}
use Rattle.wm_syntax.proofs.OneInstruction.{apart_op}
use Rattle.wm_syntax.proofs.OpTable.{has_class}
use Rattle.wm_syntax.proofs.FirstBytes.{behind_small, begins_under, found_under, prefix_of}
use Rattle.wm_machine.specs.declared.step.reading.Reading.{Reading}
use Rattle.wm_machine.specs.declared.step.reading.Reading.TheVariants.{More, Done, Bad}
use Rattle.wm_syntax.specs.declared.instructions.op_class.BlockOp.{BlockOp}
use Rattle.wm_syntax.specs.declared.instructions.op_class.BlockOp.TheVariants as opening
use Rattle.wm_syntax.specs.declared.instructions.op_class.Indexed.{Indexed}
use Rattle.wm_syntax.specs.declared.instructions.op_class.Indexed.TheVariants as indexed
use Rattle.wm_syntax.specs.declared.instructions.op_class.MemoryOp.{MemoryOp}
use Rattle.wm_syntax.specs.declared.instructions.op_class.MemoryOp.TheVariants as memory
use Rattle.wm_syntax.specs.declared.instructions.op_class.LoadOrStore.{LoadOrStore}
use Rattle.wm_syntax.specs.declared.instructions.op_class.LoadOrStore.TheVariants as accesses
use Rattle.wm_machine.specs.declared.step.ops.TableOp.{TableOp}
use Rattle.wm_machine.specs.declared.step.ops.TableOp.TheVariants as table
use Rattle.wm_machine.specs.declared.step.ops.InOp.{InOp}
use Rattle.wm_machine.specs.declared.step.ops.InOp.TheVariants as at
use Rattle.wm_machine.specs.exact.OpSteps.{call_op, init_op, init_table_op, copy_table_op, table_feature, after_table, const_32_op, const_64_op, float_32_op, float_64_op, pushed, float_32_step, float_64_step, on_answer, immediates, class_step, prefix_step, begin_step, behind_step, padded, code_step, more_padding, padding_step, block_step, first_zero_step, closing_step, long_step, table_step, op_push}
use Rattle.wm_syntax.specs.exact.OpShapes.{block_op, index_op, memory_op, access_op}
use Rattle.wm_machine.specs.exact.ValueSteps.{read_type, value_type_of}
use Rattle.wm_machine.specs.exact.Readings.{Goes}
use Rattle.wm_machine.specs.Sections.{Those}
use Rattle.wm_machine.proofs.FirstBytes.{head_same, tail_same, not_nil}
use Rattle.wm_machine.proofs.Numbers.{Left, left_nil, fresh_number}
use Rattle.wm_machine.proofs.Leaves.{IsReader}
use Rattle.wm_machine.proofs.ValueBytes.{TypeAnswer, type_answer}
use Rattle.wm_machine.proofs.FloatBytes.{FloatRest, float_some, float_32_left, float_64_left, left_float_32, left_float_64}
use Rattle.wm_machine.proofs.OpBytes.{AfterCode, NoLabel, HasImmediates, HasOpType, code_first, coded_named, from_code, has_first, no_label, nothing_after, of_class, one_code, op_some, plain_same}
use Rattle.std.specs.Prelude.{IsFalse}
use Rattle.wm_syntax.specs.declared.profile.Feature.TheVariants.{BulkMemory, LongIndex}
use Rattle.wm_machine.proofs.TableIndex.{TableRest, Zeros, index_begun, index_whole, no_zeros, not_both, one_zero, spelled_zeros, table_begun, table_ended, table_whole, table_zeros, zeros_ended, zeros_nil, zeros_off, zeros_on, zeros_spell}

-- the op that a value makes
abbrev pub Makes : {T : Type 0} → (T → Op) → (T → Form ℕ) → Op → Form ℕ
Makes {T} f rest o b = (v : T) × (o ≡ f v) × rest v b

-- a number, and then what it asks for
abbrev pub Leads : {T : Type 0} → (T → Form ℕ) → (T → Op → Form ℕ) → Op → Form ℕ
Leads {T} rest then o b = (v : T) × (front back : List ℕ) × (b ≡ front ++ back) × rest v front × then v o back

-- this op, and its last byte 00
abbrev pub Closed : Op → Op → Form ℕ
Closed f o b = (o ≡ f) × Byte 0x00 b

-- the op with a table index
abbrev pub table_op : TableOp → Op
table_op (table.Call n) = call_op n
table_op (table.Init n) = init_table_op n
table_op table.CopyTo = copy_table_op
table_op table.CopyFrom = copy_table_op

-- what follows a table index: another one, or nothing
abbrev pub AfterTable : Profile → TableOp → Form ℕ
AfterTable p table.CopyTo = TableRest p BulkMemory 4 ▸ Exactly []
AfterTable p t = Exactly []

-- an op, the rest of its table index, and what follows this
abbrev pub Tabled : Profile → TableOp → ℕ → Op → Form ℕ
Tabled p t left o b = (o ≡ table_op t) × (TableRest p (table_feature t) left ▸ AfterTable p t) b

pub after_comes : (p : Profile) (t : TableOp) → (b : List ℕ) × AfterTable p t b
after_comes p (table.Call n) = ([], refl)
after_comes p (table.Init n) = ([], refl)
after_comes p table.CopyTo = (0 ∷ [], (0 ∷ [], [], refl, inl refl, refl))
after_comes p table.CopyFrom = ([], refl)

-- the rest of an op of the profile behind its code
abbrev pub Coded : Profile → ℕ → Op → Form ℕ
Coded p x o b = (code o ≡ Some x) × IsOpOf p o × AfterCode p o b

-- these bytes, and then the rest of an op behind its code
abbrev pub Numbered : Profile → Form ℕ → ℕ → Op → Form ℕ
Numbered p P n o b = (front back : List ℕ) × (b ≡ front ++ back) × P front × Coded p (0x100 + n) o back

-- memory.copy, and two bytes 00
abbrev pub Copied : Op → Form ℕ
Copied o b = (o ≡ memory_op memory.MemoryCopy) × (Byte 0x00 ▸ Byte 0x00) b

abbrev pub at_offset : LoadOrStore → ℕ → ℕ → Op
at_offset a align offset = access_op a (record { align = align; offset = offset })

-- with these further bytes the op is spelled, is of the profile and is no label
abbrev pub op_rest : Profile → InOp → Op → Form ℕ
op_rest p at.First o b = NoLabel o × IsOpOf p o × SpellsOp p o b
op_rest p at.Code o b = (n : ℕ) × Numbered p (SpellsU32 n) n o b
op_rest p (at.Padding n left) o b = Numbered p (Zeros left) n o b
op_rest p (at.BlockType i) o b = Makes (block_op i) (Those (HasBlockType p) SpellsBlockType) o b
op_rest p (at.Index i r) o b = Makes (index_op i) (Left r) o b
op_rest p (at.CallType r) o b = Leads (Left r) (λ n. Tabled p (table.Call n) 4) o b
op_rest p (at.Table t left) o b = Tabled p t left o b
op_rest p (at.InitElement r) o b = Leads (Left r) (λ n. Tabled p (table.Init n) 4) o b
op_rest p (at.InitSegment r) o b = Leads (Left r) (λ n. Closed (init_op n)) o b
op_rest p (at.InitMemory n) o b = Closed (init_op n) o b
op_rest p at.FirstZero o b = Copied o b
op_rest p (at.Memory m) o b = Closed (memory_op m) o b
op_rest p (at.Const32 r) o b = Makes const_32_op (SignedRest 32 r) o b
op_rest p (at.Const64 r) o b = Makes const_64_op (SignedRest 64 r) o b
op_rest p (at.Float32 left low) o b = Makes float_32_op (FloatRest (2 ^ 24) left low) o b
op_rest p (at.Float64 left low) o b = Makes float_64_op (FloatRest (2 ^ 56) left low) o b
op_rest p (at.Align a r) o b = Leads (Left r) (λ n. Makes (at_offset a n) (Left fresh)) o b
op_rest p (at.Offset a n r) o b = Makes (at_offset a n) (Left r) o b

-- signed numbers from their first byte
module _ (bits : ℕ) (some : 0 < bits) where
  pub signed_left : (z : ℤ) (b : List ℕ) → Signed bits z b → SignedRest bits fresh z b
  signed_left z [] u = absurd u
  signed_left z (c ∷ b) u = ((signed_fresh bits some).same z c b).0 u

  pub left_signed : (z : ℤ) (b : List ℕ) → SignedRest bits fresh z b → Signed bits z b
  left_signed z [] u = absurd u.3
  left_signed z (c ∷ b) u = ((signed_fresh bits some).same z c b).1 u

above : 0 < 32
above = omega arith

above_64 : 0 < 64
above_64 = omega arith

module _ (p : Profile) where
  abbrev Law : (Op → Form ℕ) → ℕ → Reading InOp Op → Type 0
  Law rest c a = (o : Op) (b : List ℕ) → rest o (c ∷ b) ↔ Goes (op_rest p) a o b

  -- numbers
  module _ {T : Type 0} (rest : Partial → T → Form ℕ) (r : Partial) (c : ℕ) where
    makes_law : (f : T → Op) (more : Partial → InOp) → ((t : Partial) (o : Op) (b : List ℕ) → Makes f (rest t) o b ↔ op_rest p (more t) o b) → (q : Step T × Partial) → ((v : T) (b : List ℕ) → rest r v (c ∷ b) ↔ NumberGoes rest q v b)
        → Law (Makes f (rest r)) c (on_answer q (λ t. More (more t)) (λ v. Done (f v)) (Bad why.BadNumber))
    makes_law f more mores (step.More, t) law o b =
        (λ h. (mores t o b).0 (h.0, h.1, (law h.0 b).0 h.2), λ g. let h = (mores t o b).1 g in (h.0, h.1, (law h.0 b).1 h.2))
    makes_law f more mores (step.Done v, t) law o b =
        (λ h. let e = (law h.0 b).0 h.2 in (h.1 ∙ ap f e.0, e.1), λ g. (v, g.0, (law v b).1 (refl, g.1)))
    makes_law f more mores (step.Bad, t) law o b = (λ h. (law h.0 b).0 h.2, λ e. absurd e)

    module _ (then : T → Op → Form ℕ) (more : Partial → InOp) (next : T → InOp) (some : (t : Partial) (v : T) → rest t v [] → ⊥)
        (mores : (t : Partial) (o : Op) (b : List ℕ) → Leads (rest t) then o b ↔ op_rest p (more t) o b)
        (nexts : (v : T) (o : Op) (b : List ℕ) → then v o b ↔ op_rest p (next v) o b) where
      more_split : (t : Partial) → ((v : T) (b : List ℕ) → rest r v (c ∷ b) ↔ rest t v b) → (o : Op) (b : List ℕ) (v : T) (front back : List ℕ) → c ∷ b ≡ front ++ back → rest r v front → then v o back → Leads (rest t) then o b
      more_split t law o b v [] back e u g = absurd (some r v u)
      more_split t law o b v (d ∷ f) back e u g =
          (v, f, back, tail_same c d b (f ++ back) e, (law v f).0 (subst (λ y. rest r v (y ∷ f)) (sym (head_same c d b (f ++ back) e)) u), g)

      done_split : (w : T) → ((v : T) (b : List ℕ) → rest r v (c ∷ b) ↔ ((v ≡ w) × (b ≡ []))) → (o : Op) (b : List ℕ) (v : T) (front back : List ℕ) → c ∷ b ≡ front ++ back → rest r v front → then v o back → then w o b
      done_split w law o b v [] back e u g = absurd (some r v u)
      done_split w law o b v (d ∷ f) back e u g =
          let h : (v ≡ w) × (f ≡ []) = (law v f).0 (subst (λ y. rest r v (y ∷ f)) (sym (head_same c d b (f ++ back) e)) u) in
          let all : b ≡ back = tail_same c d b (f ++ back) e ∙ ap (λ y. y ++ back) h.1 in
          subst (λ y. then w o y) (sym all) (subst (λ y. then y o back) h.0 g)

      bad_split : ((v : T) (b : List ℕ) → rest r v (c ∷ b) ↔ ⊥) → (b : List ℕ) (v : T) (front back : List ℕ) → c ∷ b ≡ front ++ back → rest r v front → ⊥
      bad_split law b v [] back e u = some r v u
      bad_split law b v (d ∷ f) back e u = (law v f).0 (subst (λ y. rest r v (y ∷ f)) (sym (head_same c d b (f ++ back) e)) u)

      leads_law : (q : Step T × Partial) → ((v : T) (b : List ℕ) → rest r v (c ∷ b) ↔ NumberGoes rest q v b)
          → Law (Leads (rest r) then) c (on_answer q (λ t. More (more t)) (λ v. More (next v)) (Bad why.BadNumber))
      leads_law (step.More, t) law o b = (
        (λ h. (mores t o b).0 (more_split t law o b h.0 h.1 h.2 h.3 h.4 h.5)),
        (λ g. let h = (mores t o b).1 g in (h.0, c ∷ h.1, h.2, ap (λ y. c ∷ y) h.3, (law h.0 h.1).1 h.4, h.5)),
      )
      leads_law (step.Done w, t) law o b = (
        (λ h. (nexts w o b).0 (done_split w law o b h.0 h.1 h.2 h.3 h.4 h.5)),
        (λ g. (w, c ∷ [], b, refl, (law w []).1 (refl, refl), (nexts w o b).1 g)),
      )
      leads_law (step.Bad, t) law o b = (λ h. bad_split law b h.0 h.1 h.2 h.3 h.4, λ e. absurd e)

  -- the last byte 00
  closed_law : (f : Op) (c : ℕ) → Law (Closed f) c (closing_step f c)
  closed_law f c o b = cond_both (nat_eq c 0x00) _ _ (λ (a : Reading InOp Op). Closed f o (c ∷ b) ↔ Goes (op_rest p) a o b)
      (λ z. (λ h. (h.0, tail_same c 0x00 b [] h.1), λ g. (g.0, ap (λ y. c ∷ y) g.1 ∙ ap (λ y. y ∷ []) (eqb-true c 0x00 z))))
      (λ z. (λ h. eqb-false c 0x00 z (head_same c 0x00 b [] h.1), λ e. absurd e))

  -- the first of two bytes 00
  first_zero_law : (c : ℕ) → Law Copied c (first_zero_step c)
  first_zero_law c o b = cond_both (nat_eq c 0x00) _ _ (λ (a : Reading InOp Op). Copied o (c ∷ b) ↔ Goes (op_rest p) a o b)
      (λ z. (
        (λ h. (h.0, tail_same c 0x00 b h.1.1 (h.1.2 ∙ ap (λ y. y ++ h.1.1) h.1.3) ∙ h.1.4)),
        (λ g. (g.0, (0 ∷ [], 0 ∷ [], ap (λ y. c ∷ y) g.1 ∙ ap (λ y. y ∷ 0 ∷ []) (eqb-true c 0x00 z), refl, refl))),
      ))
      (λ z. (λ h. eqb-false c 0x00 z (head_same c 0x00 b h.1.1 (h.1.2 ∙ ap (λ y. y ++ h.1.1) h.1.3)), λ e. absurd e))

  -- a table index, and what follows it
  after_law : (t : TableOp) (o : Op) (b : List ℕ) → ((o ≡ table_op t) × AfterTable p t b) ↔ Goes (op_rest p) (after_table t) o b
  after_law (table.Call n) o b = (λ h. h, λ g. g)
  after_law (table.Init n) o b = (λ h. h, λ g. g)
  after_law table.CopyTo o b = (λ h. h, λ g. g)
  after_law table.CopyFrom o b = (λ h. h, λ g. g)

  module _ (t : TableOp) (c : ℕ) (o : Op) (b : List ℕ) where
    abbrev IndexRest : ℕ → Form ℕ
    IndexRest = TableRest p (table_feature t)

    abbrev TableGoes : ℕ → Reading InOp Op → Type 0
    TableGoes left a = Tabled p t left o (c ∷ b) ↔ Goes (op_rest p) a o b

    -- its first byte is c
    index_first : (left : ℕ) (front back : List ℕ) → c ∷ b ≡ front ++ back → IndexRest left front → (f : List ℕ) × (b ≡ f ++ back) × IndexRest left (c ∷ f)
    index_first left [] back e z = absurd (zeros_nil left (table_zeros p (table_feature t) left [] z))
    index_first left (d ∷ f) back e z =
        (f, tail_same c d b (f ++ back) e, subst (λ y. IndexRest left (y ∷ f)) (sym (head_same c d b (f ++ back) e)) z)

    none_left : (f : List ℕ) → (c ≡ 0 → ⊥) → IndexRest zero (c ∷ f) → ⊥
    none_left f other (inl e) = other (head_same c 0 f [] e)
    none_left f other (inr h) = no_zeros c f other h.1

    one_off : (left : ℕ) (f : List ℕ) → (c ≡ 0 → ⊥) → IndexRest (suc left) (c ∷ f) → (c ≡ 0x80) × Zeros left f
    one_off left f other (inl e) = absurd (other (head_same c 0 f [] e))
    one_off left f other (inr h) = zeros_off left c f other h.1

    long_law : (c ≡ 0 → ⊥) → IsTrue (has p (table_feature t)) → (left : ℕ) → TableGoes left (long_step t left c)
    long_law other long zero = ((λ h. let f = index_first zero h.1.0 h.1.1 h.1.2 h.1.3 in none_left f.0 other f.2), λ e. absurd e)
    long_law other long (suc left) = cond_both (nat_eq c 0x80) _ _ (TableGoes (suc left))
        (λ z. (
          (λ h. let f = index_first (suc left) h.1.0 h.1.1 h.1.2 h.1.3 in (h.0, (f.0, h.1.1, f.1, inr (long, (one_off left f.0 other f.2).1), h.1.4))),
          (λ g. (g.0, (c ∷ g.1.0, g.1.1, ap (λ y. c ∷ y) g.1.2, inr (long, zeros_on left c g.1.0 (eqb-true c 0x80 z) (table_zeros p (table_feature t) left g.1.0 g.1.3)), g.1.4))),
        ))
        (λ z. ((λ h. let f = index_first (suc left) h.1.0 h.1.1 h.1.2 h.1.3 in eqb-false c 0x80 z (one_off left f.0 other f.2).0), λ e. absurd e))

    short_only : (left : ℕ) (f : List ℕ) → (c ≡ 0 → ⊥) → IsFalse (has p (table_feature t)) → IndexRest left (c ∷ f) → ⊥
    short_only left f other k (inl e) = other (head_same c 0 f [] e)
    short_only left f other k (inr h) = not_both (has p (table_feature t)) h.0 k

    table_law : (left : ℕ) → TableGoes left (table_step p t left c)
    table_law left = cond_both (nat_eq c 0x00) _ _ (TableGoes left)
        (λ z. (
          (λ h.
              let f = index_first left h.1.0 h.1.1 h.1.2 h.1.3 in
              let ended : f.0 ≡ [] = table_ended p (table_feature t) left c f.0 (eqb-true c 0x00 z) f.2 in
              (after_law t o b).0 (h.0, subst (AfterTable p t) (sym (f.1 ∙ ap (λ y. y ++ h.1.1) ended)) h.1.4)),
          (λ g. let k = (after_law t o b).1 g in (k.0, (c ∷ [], b, refl, inl (ap (λ y. y ∷ []) (eqb-true c 0x00 z)), k.1))),
        ))
        (λ z. cond_both (has p (table_feature t)) _ _ (TableGoes left)
        (λ y. long_law (eqb-false c 0x00 z) y left)
        (λ k. ((λ h. let f = index_first left h.1.0 h.1.1 h.1.2 h.1.3 in short_only left f.0 (eqb-false c 0x00 z) k f.2), λ e. absurd e)))

  -- block types
  block_spelled : (t : Option ValType) (c : ℕ) (b : List ℕ) → SpellsBlockType t (c ∷ b) → (c ≡ block_byte t) × (b ≡ [])
  block_spelled t c b h = (head_same c (block_byte t) b [] h, tail_same c (block_byte t) b [] h)

  module _ (i : BlockOp) (c : ℕ) (o : Op) (b : List ℕ) where
    abbrev Blocks : Reading InOp Op → Type 0
    Blocks a = Makes (block_op i) (Those (HasBlockType p) SpellsBlockType) o (c ∷ b) ↔ Goes (op_rest p) a o b

    block_done : (t : Option ValType) → HasBlockType p t → c ≡ block_byte t → Makes (block_op i) (Those (HasBlockType p) SpellsBlockType) o (c ∷ b) ↔ ((o ≡ block_op i t) × (b ≡ []))
    block_done t own e = (
      (λ h. let w = block_spelled h.0 c b h.2.1 in (h.1 ∙ ap (block_op i) (block_tells h.0 t (sym w.0 ∙ e)), w.1)),
      (λ g. (t, g.0, (own, subst (λ y. SpellsBlockType t (y ∷ b)) (sym e) (ap (λ y. block_byte t ∷ y) g.1)))),
    )

    no_block : (t : Option ValType) → (c ≡ 0x40 → ⊥) → ((u : ValType) → HasType p u → c ≡ type_byte u → ⊥) → HasBlockType p t → c ≡ block_byte t → ⊥
    no_block Nothing x none h e = x e
    no_block (Some t) x none h e = none t h e

    block_typed : (q : Result ValType Why) → TypeAnswer p c q → (c ≡ 0x40 → ⊥) → Blocks (read_type q (λ t. Done (block_op i (Some t))))
    block_typed (Ok t) e x = block_done (Some t) e.1 e.0
    block_typed (Err w) none x = ((λ h. no_block h.0 x none h.2.0 (block_spelled h.0 c b h.2.1).0), λ e. absurd e)

    block_law : Blocks (block_step p i c)
    block_law =
        cond_both (nat_eq c 0x40) _ _ Blocks
        (λ x. block_done Nothing tt (eqb-true c 0x40 x))
        (λ x. block_typed (value_type_of p c) (type_answer p c) (eqb-false c 0x40 x))

  -- floats
  module _ (top : ℕ) (f : ℕ → Op) where
    float_done : (low c : ℕ) (o : Op) (b : List ℕ) → c < 2 ^ 8 → Makes f (FloatRest top zero low) o (c ∷ b) ↔ ((o ≡ f (pushed top low c)) × (b ≡ []))
    float_done low c o b byte = (
      (λ h. let r = h.2 in (h.1 ∙ ap f (r.2 ∙ ap (pushed top low) (sym (head_same c r.0 b [] r.3))), tail_same c r.0 b [] r.3)),
      (λ g. (pushed top low c, g.0, (c, byte, refl, ap (λ y. c ∷ y) g.1))),
    )

    float_more : (left low c : ℕ) (o : Op) (b : List ℕ) → c < 2 ^ 8 → Makes f (FloatRest top (suc left) low) o (c ∷ b) ↔ Makes f (FloatRest top left (pushed top low c)) o b
    float_more left low c o b byte = (
      (λ h. let r = h.2 in (h.0, h.1, subst (λ y. FloatRest top left (pushed top low y) h.0 b) (sym (head_same c r.0 b r.1 r.3)) (subst (FloatRest top left (pushed top low r.0) h.0) (sym (tail_same c r.0 b r.1 r.3)) r.4))),
      (λ g. (g.0, g.1, (c, b, byte, refl, g.2))),
    )

  float_32_law : (left low c : ℕ) → c < 2 ^ 8 → Law (Makes float_32_op (FloatRest (2 ^ 24) left low)) c (float_32_step left low c)
  float_32_law zero low c byte o b = float_done (2 ^ 24) float_32_op low c o b byte
  float_32_law (suc left) low c byte o b = float_more (2 ^ 24) float_32_op left low c o b byte

  float_64_law : (left low c : ℕ) → c < 2 ^ 8 → Law (Makes float_64_op (FloatRest (2 ^ 56) left low)) c (float_64_step left low c)
  float_64_law zero low c byte o b = float_done (2 ^ 56) float_64_op low c o b byte
  float_64_law (suc left) low c byte o b = float_more (2 ^ 56) float_64_op left low c o b byte

  -- what follows the code of an op
  abbrev Starts : Op → List ℕ → Type 0
  Starts o b = Goes (op_rest p) (class_step (class_of o)) o b

  -- a table index with nothing behind it
  alone : (P : Form ℕ) (b : List ℕ) → P b → (P ▸ Exactly []) b
  alone P b h = (b, [], sym (append-nil b), h, refl)

  first_alone : (P : Form ℕ) (b : List ℕ) → (P ▸ Exactly []) b → P b
  first_alone P b h = subst P (sym (h.2 ∙ ap (λ y. h.0 ++ y) h.4 ∙ append-nil h.0)) h.3

  simple_starts : (i : Simple) (b : List ℕ) → IsOpOf p (op.Simple i) → SpellsImmediates p i b → Starts (op.Simple i) b
  simple_starts (s.Br n) b y u = (n, refl, (fresh_number n b).0 u)
  simple_starts (s.BrIf n) b y u = (n, refl, (fresh_number n b).0 u)
  simple_starts (s.Call n) b y u = (n, refl, (fresh_number n b).0 u)
  simple_starts (s.CallIndirect n) b y (front, back, e, u, z) = (n, front, back, e, (fresh_number n front).0 u, (refl, alone (TableRest p LongIndex 4) back (table_begun p back z)))
  simple_starts (s.LocalGet n) b y u = (n, refl, (fresh_number n b).0 u)
  simple_starts (s.LocalSet n) b y u = (n, refl, (fresh_number n b).0 u)
  simple_starts (s.LocalTee n) b y u = (n, refl, (fresh_number n b).0 u)
  simple_starts (s.GlobalGet n) b y u = (n, refl, (fresh_number n b).0 u)
  simple_starts (s.GlobalSet n) b y u = (n, refl, (fresh_number n b).0 u)
  simple_starts s.MemorySize b y u = (refl, u)
  simple_starts s.MemoryGrow b y u = (refl, u)
  simple_starts (s.MemoryInit n) b y (front, back, e, u, z) = (n, front, back, e, (fresh_number n front).0 u, (refl, z))
  simple_starts (s.DataDrop n) b y u = (n, refl, (fresh_number n b).0 u)
  simple_starts (s.TableInit n) b y (front, back, e, u, z) =
      (n, front, back, e, (fresh_number n front).0 u, (refl, alone (TableRest p BulkMemory 4) back (index_begun p BulkMemory y back z)))
  simple_starts (s.ElemDrop n) b y u = (n, refl, (fresh_number n b).0 u)
  simple_starts s.TableCopy b y (front, back, e, u, z) =
      (refl, (front, back, e, index_begun p BulkMemory y front u, alone (TableRest p BulkMemory 4) back (index_begun p BulkMemory y back z)))
  simple_starts s.MemoryCopy b y u = (refl, u)
  simple_starts s.MemoryFill b y u = (refl, u)
  simple_starts (s.I32Const z) b y u = (z, refl, signed_left 32 above z b u)
  simple_starts (s.I64Const z) b y u = (z, refl, signed_left 64 above_64 z b u)
  simple_starts (s.F32Const n) b y u = (n, refl, float_32_left n b u)
  simple_starts (s.F64Const n) b y u = (n, refl, float_64_left n b u)
  simple_starts (s.Load o m) b y (front, back, e, u, v) = (m.align, front, back, e, (fresh_number m.align front).0 u, (m.offset, refl, (fresh_number m.offset back).0 v))
  simple_starts (s.Store o m) b y (front, back, e, u, v) = (m.align, front, back, e, (fresh_number m.align front).0 u, (m.offset, refl, (fresh_number m.offset back).0 v))
  simple_starts _ b y u = (refl, u)

  starts : (o : Op) (b : List ℕ) → NoLabel o → IsOpOf p o → AfterCode p o b → Starts o b
  starts (op.Simple i) b n g u = simple_starts i b g u
  starts (op.Block t) b n g u = (t, refl, (g, u))
  starts (op.Loop t) b n g u = (t, refl, (g, u))
  starts (op.If t) b n g u = (t, refl, (g, u))
  starts op.Else b n g u = (refl, u)
  starts op.End b n g u = (refl, u)
  starts (op.BrTable m) b n g u = (m, refl, (fresh_number m b).0 u)
  starts (op.Label l) b n g u = absurd n

  coded_to : (x : ℕ) (o : Op) (b : List ℕ) → Coded p x o b → Goes (op_rest p) (class_step (class_under p x)) o b
  coded_to x o b h = subst (λ y. Goes (op_rest p) (class_step y) o b) (sym (found_under p x o h.0 h.1)) (starts o b (coded_named o x h.0) h.1 h.2)

  -- back from the immediates of an op to all of it
  abbrev IsWhole : Immediates → Op → List ℕ → Type 0
  IsWhole kind o b = (class_of o ≡ With kind) × HasOpType p o × AfterCode p o b

  module _ (kind : Immediates) (o : Op) (b : List ℕ) where
    made : {T : Type 0} (f : T → Op) (rest : T → Form ℕ) → ((v : T) → rest v b → IsWhole kind (f v) b) → Makes f rest o b → IsWhole kind o b
    made f rest h m = subst (λ y. IsWhole kind y b) (sym m.1) (h m.0 m.2)

    access_made : (a : LoadOrStore) → ((n m : ℕ) → class_of (at_offset a n m) ≡ With kind)
        → ((n m : ℕ) → HasOpType p (at_offset a n m))
        → ((n m : ℕ) → ((front back : List ℕ) → b ≡ front ++ back → Left fresh n front → Left fresh m back → AfterCode p (at_offset a n m) b))
        → Leads (Left fresh) (λ n. Makes (at_offset a n) (Left fresh)) o b → IsWhole kind o b
    access_made a class type whole m =
        let n : ℕ = m.0 in
        let i = m.5 in
        subst (λ y. IsWhole kind y b) (sym i.1) (class n i.0, type n i.0, whole n i.0 m.1 m.2 m.3 m.4 i.2)

  whole : (kind : Immediates) (o : Op) (b : List ℕ) → op_rest p (immediates kind) o b → IsWhole kind o b
  whole (k.Block opening.Block) o b h = made (k.Block opening.Block) o b (block_op opening.Block) (Those (HasBlockType p) SpellsBlockType) (λ t u. (refl, u.0, u.1)) h
  whole (k.Block opening.Loop) o b h = made (k.Block opening.Loop) o b (block_op opening.Loop) (Those (HasBlockType p) SpellsBlockType) (λ t u. (refl, u.0, u.1)) h
  whole (k.Block opening.If) o b h = made (k.Block opening.If) o b (block_op opening.If) (Those (HasBlockType p) SpellsBlockType) (λ t u. (refl, u.0, u.1)) h
  whole (k.Index indexed.Br) o b h = made (k.Index indexed.Br) o b (index_op indexed.Br) (Left fresh) (λ n u. (refl, tt, (fresh_number n b).1 u)) h
  whole (k.Index indexed.BrIf) o b h = made (k.Index indexed.BrIf) o b (index_op indexed.BrIf) (Left fresh) (λ n u. (refl, tt, (fresh_number n b).1 u)) h
  whole (k.Index indexed.BrTable) o b h = made (k.Index indexed.BrTable) o b (index_op indexed.BrTable) (Left fresh) (λ n u. (refl, tt, (fresh_number n b).1 u)) h
  whole (k.Index indexed.Call) o b h = made (k.Index indexed.Call) o b (index_op indexed.Call) (Left fresh) (λ n u. (refl, tt, (fresh_number n b).1 u)) h
  whole (k.Index indexed.LocalGet) o b h = made (k.Index indexed.LocalGet) o b (index_op indexed.LocalGet) (Left fresh) (λ n u. (refl, tt, (fresh_number n b).1 u)) h
  whole (k.Index indexed.LocalSet) o b h = made (k.Index indexed.LocalSet) o b (index_op indexed.LocalSet) (Left fresh) (λ n u. (refl, tt, (fresh_number n b).1 u)) h
  whole (k.Index indexed.LocalTee) o b h = made (k.Index indexed.LocalTee) o b (index_op indexed.LocalTee) (Left fresh) (λ n u. (refl, tt, (fresh_number n b).1 u)) h
  whole (k.Index indexed.GlobalGet) o b h = made (k.Index indexed.GlobalGet) o b (index_op indexed.GlobalGet) (Left fresh) (λ n u. (refl, tt, (fresh_number n b).1 u)) h
  whole (k.Index indexed.GlobalSet) o b h = made (k.Index indexed.GlobalSet) o b (index_op indexed.GlobalSet) (Left fresh) (λ n u. (refl, tt, (fresh_number n b).1 u)) h
  whole k.CallIndirect o b h =
      let n : ℕ = h.0 in
      let c = h.5 in
      subst (λ y. IsWhole k.CallIndirect y b) (sym c.0) (refl, tt, (h.1, h.2, h.3, (fresh_number n h.1).1 h.4, table_whole p h.2 (first_alone (TableRest p LongIndex 4) h.2 c.1)))
  whole (k.Index indexed.DataDrop) o b h = made (k.Index indexed.DataDrop) o b (index_op indexed.DataDrop) (Left fresh) (λ n u. (refl, tt, (fresh_number n b).1 u)) h
  whole (k.Index indexed.ElemDrop) o b h = made (k.Index indexed.ElemDrop) o b (index_op indexed.ElemDrop) (Left fresh) (λ n u. (refl, tt, (fresh_number n b).1 u)) h
  whole k.TableInit o b h =
      let n : ℕ = h.0 in
      let c = h.5 in
      subst (λ y. IsWhole k.TableInit y b) (sym c.0) (refl, tt, (h.1, h.2, h.3, (fresh_number n h.1).1 h.4, index_whole p BulkMemory h.2 (first_alone (TableRest p BulkMemory 4) h.2 c.1)))
  whole k.TableCopy o b h =
      let c = h.1 in
      subst (λ y. IsWhole k.TableCopy y b) (sym h.0) (refl, tt, (c.0, c.1, c.2, index_whole p BulkMemory c.0 c.3, index_whole p BulkMemory c.1 (first_alone (TableRest p BulkMemory 4) c.1 c.4)))
  whole k.MemoryInit o b h =
      let n : ℕ = h.0 in
      let c = h.5 in
      subst (λ y. IsWhole k.MemoryInit y b) (sym c.0) (refl, tt, (h.1, h.2, h.3, (fresh_number n h.1).1 h.4, c.1))
  whole (k.Memory memory.MemorySize) o b h = subst (λ y. IsWhole (k.Memory memory.MemorySize) y b) (sym h.0) (refl, tt, h.1)
  whole (k.Memory memory.MemoryGrow) o b h = subst (λ y. IsWhole (k.Memory memory.MemoryGrow) y b) (sym h.0) (refl, tt, h.1)
  whole (k.Memory memory.MemoryCopy) o b h = subst (λ y. IsWhole (k.Memory memory.MemoryCopy) y b) (sym h.0) (refl, tt, h.1)
  whole (k.Memory memory.MemoryFill) o b h = subst (λ y. IsWhole (k.Memory memory.MemoryFill) y b) (sym h.0) (refl, tt, h.1)
  whole k.I32Const o b h = made k.I32Const o b const_32_op (SignedRest 32 fresh) (λ z u. (refl, tt, left_signed 32 above z b u)) h
  whole k.I64Const o b h = made k.I64Const o b const_64_op (SignedRest 64 fresh) (λ z u. (refl, tt, left_signed 64 above_64 z b u)) h
  whole k.F32Const o b h = made k.F32Const o b float_32_op (FloatRest (2 ^ 24) 3 0) (λ n u. (refl, tt, left_float_32 n b u)) h
  whole k.F64Const o b h = made k.F64Const o b float_64_op (FloatRest (2 ^ 56) 7 0) (λ n u. (refl, tt, left_float_64 n b u)) h
  whole (k.Access (accesses.Load i)) o b h = access_made (k.Access (accesses.Load i)) o b (accesses.Load i) (λ n m. refl) (λ n m. tt)
      (λ n m front back e u v. (front, back, e, (fresh_number n front).1 u, (fresh_number m back).1 v)) h
  whole (k.Access (accesses.Store i)) o b h = access_made (k.Access (accesses.Store i)) o b (accesses.Store i) (λ n m. refl) (λ n m. tt)
      (λ n m front back e u v. (front, back, e, (fresh_number n front).1 u, (fresh_number m back).1 v)) h

  pub coded_from : (x : ℕ) (class : OpClass) → class_under p x ≡ class → (o : Op) (b : List ℕ) → Goes (op_rest p) (class_step class) o b → Coded p x o b
  coded_from x (Plain v) e o b g =
      let i : (q : Op) × (code q ≡ Some x) × IsOpOf p q × (class_of q ≡ class_under p x) = begins_under p x (subst IsClassOfOp (sym e) tt) in
      let same : i.0 ≡ o = plain_same i.0 v (i.3 ∙ e) ∙ sym g.0 in
      let class : class_of o ≡ Plain o = ap class_of (sym same) ∙ (i.3 ∙ (e ∙ ap Plain (sym g.0))) in
      (ap code (sym same) ∙ i.1, subst (IsOpOf p) same i.2, subst (AfterCode p o) (sym g.1) (nothing_after p o class))
  coded_from x (With kind) e o b g =
      let i : (q : Op) × (code q ≡ Some x) × IsOpOf p q × (class_of q ≡ class_under p x) = begins_under p x (subst IsClassOfOp (sym e) tt) in
      let w : IsWhole kind o b = whole kind o b g in
      let same : class_of i.0 ≡ class_of o = (i.3 ∙ e) ∙ sym w.0 in
      let owns : IsTrue (has p (class_feature (class_of o))) = subst (λ y. IsTrue (has p (class_feature y))) same (has_class p i.0 i.2) in
      (one_code o i.0 kind w.0 (i.3 ∙ e) ∙ i.1, of_class p o owns w.1, w.2)
  coded_from x Float e o b g = absurd g
  coded_from x None e o b g = absurd g

  coded_law : (x : ℕ) (o : Op) (b : List ℕ) → Coded p x o b ↔ Goes (op_rest p) (class_step (class_under p x)) o b
  coded_law x o b = (coded_to x o b, coded_from x (class_under p x) refl o b)

  -- the first byte: a code, or the prefix
  pub first_parts : (c : ℕ) (o : Op) (b : List ℕ) → op_rest p at.First o (c ∷ b) → ((c ≡ 0xFC → ⊥) × Coded p c o b) ⊎ ((c ≡ 0xFC) × IsTrue (has_prefix p) × op_rest p at.Code o b)
  first_parts c o b h =
      let f = has_first o h.0 in
      let s = code_first p o f.0 f.1 (c ∷ b) h.2 in
      parts f.0 f.1 s.0 s.1 s.2 (code_forms f.0 s.0 s.3) s.4
    where
      parts : (x : ℕ) → code o ≡ Some x → (front back : List ℕ) → c ∷ b ≡ front ++ back → ((x < 0x100) × (front ≡ x ∷ [])) ⊎ ((0x100 ≤ x) × Prefixed x front) → AfterCode p o back
          → ((c ≡ 0xFC → ⊥) × Coded p c o b) ⊎ ((c ≡ 0xFC) × IsTrue (has_prefix p) × op_rest p at.Code o b)
      parts x f front back e (inl (l, g)) u =
          let whole : c ∷ b ≡ x ∷ back = e ∙ ap (λ y. y ++ back) g in
          let same : c ≡ x = head_same c x b back whole in
          inl ((λ z. apart_op o x f (sym same ∙ z)), (f ∙ ap Some (sym same), h.1, subst (AfterCode p o) (sym (tail_same c x b back whole)) u))
      parts x f front back e (inr (l, (y, z, g, k, n))) u =
          let whole : c ∷ b ≡ 0xFC ∷ (z ++ back) = e ∙ ap (λ w. w ++ back) (g ∙ ap (λ w. w ++ z) k) in
          let same : x ≡ 0x100 + (x - 0x100) = omega (arith, l) in
          inr (head_same c 0xFC b (z ++ back) whole, prefix_of p o x f l h.1, (x - 0x100, (z, back, tail_same c 0xFC b (z ++ back) whole, n, (f ∙ ap Some same, h.1, u))))

  pub behind_first : (c : ℕ) (o : Op) (b : List ℕ) → c ≡ 0xFC → op_rest p at.Code o b → op_rest p at.First o (c ∷ b)
  behind_first c o b z (n, (front, back, e, u, (f, g, k))) =
      let less : (0x100 + n) - 0x100 ≡ n = omega arith in (
        coded_named o (0x100 + n) f,
        g,
        from_code p o (0x100 + n) f (c ∷ b) (
          0xFC ∷ front,
          back,
          ap (λ y. y ∷ b) z ∙ ap (λ y. 0xFC ∷ y) e,
          prefixed_spells (0x100 + n) (0xFC ∷ front) (omega arith) (0xFC ∷ [], front, refl, refl, subst (λ m. SpellsU32 m front) (sym less) u),
          k,
        ),
      )

  first_code : (c : ℕ) (o : Op) (b : List ℕ) → c < 2 ^ 8 → Coded p c o b → op_rest p at.First o (c ∷ b)
  first_code c o b byte (f, g, k) = (coded_named o c f, g, from_code p o c f (c ∷ b) (c ∷ [], b, refl, byte_spells c (c ∷ []) (omega (arith, byte)) refl, k))

  module _ (c : ℕ) (byte : c < 2 ^ 8) (o : Op) (b : List ℕ) where
    abbrev Firsts : Reading InOp Op → Type 0
    Firsts a = op_rest p at.First o (c ∷ b) ↔ Goes (op_rest p) a o b

    prefix_law : c ≡ 0xFC → Firsts (prefix_step p)
    prefix_law z =
        cond_both (has_prefix p) _ _ Firsts
        (λ y. ((λ h. elim (first_parts c o b h) [ inl f ↦ absurd (f.0 z) | inr f ↦ f.2 ]), behind_first c o b z))
        (λ y. ((λ h. elim (first_parts c o b h) [ inl f ↦ f.0 z | inr f ↦ not_both (has_prefix p) f.1 y ]), λ e. absurd e))

    first_law : Firsts (begin_step p c)
    first_law =
        cond_both (nat_eq c 0xFC) _ _ Firsts
        (λ z. prefix_law (eqb-true c 0xFC z))
        (λ z. (
          (λ h. elim (first_parts c o b h) [ inl f ↦ coded_to c o b f.1 | inr f ↦ absurd (eqb-false c 0xFC z f.0) ]),
          (λ g. first_code c o b byte (coded_from c (class_under p c) refl o b g)),
        ))

  -- the number behind the prefix
  number_parts : (n c : ℕ) (b front back : List ℕ) → c ∷ b ≡ front ++ back → SpellsU32 n front → n < 15
      → ((c < 0x80) × (n ≡ c) × (b ≡ back)) ⊎ ((0x80 ≤ c) × (n ≡ c - 0x80) × (f : List ℕ) × (b ≡ f ++ back) × Zeros 3 f)
  number_parts n c b [] back e u few = absurd u
  number_parts n c b (d ∷ f) back e (inl (small, fits, is, ends)) few =
      let same : c ≡ d = head_same c d b (f ++ back) e in
      inl (omega (arith, small, same), is ∙ sym same, tail_same c d b (f ++ back) e ∙ ap (λ y. y ++ back) ends)
  number_parts n c b (d ∷ f) back e (inr (large, byte, some, high, is, rest)) few =
      let same : c ≡ d = head_same c d b (f ++ back) e in
      let none : high ≡ 0 = omega (arith, is, few) in
      inr (omega (arith, large, same), omega (arith, is, none, same), f, tail_same c d b (f ++ back) e, spelled_zeros 3 25 (omega arith) f (subst (λ m. Unsigned 25 m f) none rest))

  one_number : (c : ℕ) → c < 0x80 → SpellsU32 c (c ∷ [])
  one_number c l = inl (omega (arith, l), omega (arith, l), refl, refl)

  long_number : (c : ℕ) (f : List ℕ) → 0x80 ≤ c → c < 2 ^ 8 → Zeros 3 f → SpellsU32 (c - 0x80) (c ∷ f)
  long_number c f l byte z = inr (omega (arith, l), byte, omega arith, 0, omega arith, zeros_spell 3 25 (omega arith) f z)

  same_left : {A : Type 0} → A ↔ A
  same_left = (λ h. h, λ h. h)

  -- with its first byte known
  padded_law : (n : ℕ) (q : Reading InOp Op) → q ≡ behind_step p n → (o : Op) (b : List ℕ) → Numbered p (Zeros 3) n o b ↔ Goes (op_rest p) (padded q n) o b
  padded_law n (Bad w) e o b = ((λ h. subst (λ a. Goes (op_rest p) a o h.1) (sym e) (coded_to (0x100 + n) o h.1 h.4)), λ g. absurd g)
  padded_law n (More r) e o b = same_left
  padded_law n (Done v) e o b = same_left

  pub code_law : (c : ℕ) → c < 2 ^ 8 → Law (λ o b. (n : ℕ) × Numbered p (SpellsU32 n) n o b) c (code_step p c)
  code_law c byte o b =
      let Whole : Type 0 = (n : ℕ) × Numbered p (SpellsU32 n) n o (c ∷ b) in
      cond_both (nat_lt c 0x80) _ _ (λ (a : Reading InOp Op). Whole ↔ Goes (op_rest p) a o b)
      (λ l. (
        (λ h. short (ltb-true c 0x80 l) h.0 h.1.0 h.1.1 h.1.2 h.1.3 h.1.4),
        (λ g. (c, (c ∷ [], b, refl, one_number c (ltb-true c 0x80 l), coded_from (0x100 + c) (class_under p (0x100 + c)) refl o b g))),
      ))
      (λ l. (
        (λ h. (padded_law (c - 0x80) (behind_step p (c - 0x80)) refl o b).0 (long (ltb-false c 0x80 l) h.0 h.1.0 h.1.1 h.1.2 h.1.3 h.1.4)),
        (λ g.
            let h = (padded_law (c - 0x80) (behind_step p (c - 0x80)) refl o b).1 g in
            (c - 0x80, (c ∷ h.0, h.1, ap (λ y. c ∷ y) h.2, long_number c h.0 (ltb-false c 0x80 l) byte h.3, h.4))),
      ))
    where
      short : c < 0x80 → (n : ℕ) (front back : List ℕ) → c ∷ b ≡ front ++ back → SpellsU32 n front → Coded p (0x100 + n) o back → Goes (op_rest p) (behind_step p c) o b
      short l n front back e u k = elim (number_parts n c b front back e u (behind_small p n o k.0 k.1)) [
        | inl f ↦ coded_to (0x100 + c) o b (subst (λ y. Coded p (0x100 + c) o y) (sym f.2) (subst (λ m. Coded p (0x100 + m) o back) f.1 k))
        | inr f ↦ absurd (omega (arith, l, f.0))
      ]

      long : 0x80 ≤ c → (n : ℕ) (front back : List ℕ) → c ∷ b ≡ front ++ back → SpellsU32 n front → Coded p (0x100 + n) o back → Numbered p (Zeros 3) (c - 0x80) o b
      long l n front back e u k = elim (number_parts n c b front back e u (behind_small p n o k.0 k.1)) [
        | inl f ↦ absurd (omega (arith, l, f.0))
        | inr f ↦ (f.2, back, f.3, f.4, subst (λ m. Coded p (0x100 + m) o back) f.1 k)
      ]

  -- a first byte that goes on, of the number of an op
  padded_class : (n : ℕ) (class : OpClass) → IsClassOfOp class → padded (class_step class) n ≡ More (at.Padding n 3)
  padded_class n (Plain o) h = refl
  padded_class n (With kind) h = refl
  padded_class n Float h = absurd h
  padded_class n None h = absurd h

  pub long_first : (n : ℕ) → IsClassOfOp (class_under p (0x100 + n)) → code_step p (0x80 + n) ≡ More (at.Padding n 3)
  long_first n h =
      let less : (0x80 + n) - 0x80 ≡ n = omega arith in
      cond_both (nat_lt (0x80 + n) 0x80) _ _ (λ (a : Reading InOp Op). a ≡ More (at.Padding n 3))
      (λ l. absurd (omega (arith, ltb-true (0x80 + n) 0x80 l)))
      (λ l. ap (λ m. padded (behind_step p m) m) less ∙ padded_class n (class_under p (0x100 + n)) h)

  module _ (n c : ℕ) (o : Op) (b : List ℕ) where
    abbrev Pads : ℕ → Reading InOp Op → Type 0
    Pads left a = Numbered p (Zeros left) n o (c ∷ b) ↔ Goes (op_rest p) a o b

    -- one byte less of it
    zeros_first : (left : ℕ) (front back : List ℕ) → c ∷ b ≡ front ++ back → Zeros left front → (f : List ℕ) × (front ≡ c ∷ f) × (b ≡ f ++ back) × Zeros left (c ∷ f)
    zeros_first left [] back e z = absurd (zeros_nil left z)
    zeros_first left (d ∷ f) back e z =
        let same : c ≡ d = head_same c d b (f ++ back) e in
        (f, ap (λ y. y ∷ f) (sym same), tail_same c d b (f ++ back) e, subst (λ y. Zeros left (y ∷ f)) (sym same) z)

    padding_more : (c ≡ 0 → ⊥) → (left : ℕ) → Pads left (more_padding n left c)
    padding_more other zero = ((λ h. let g = zeros_first zero h.0 h.1 h.2 h.3 in no_zeros c g.0 other g.3), λ e. absurd e)
    padding_more other (suc left) = cond_both (nat_eq c 0x80) _ _ (Pads (suc left))
        (λ z. (
          (λ h. let g = zeros_first (suc left) h.0 h.1 h.2 h.3 in (g.0, h.1, g.2, (zeros_off left c g.0 other g.3).1, h.4)),
          (λ g. (c ∷ g.0, g.1, ap (λ y. c ∷ y) g.2, zeros_on left c g.0 (eqb-true c 0x80 z) g.3, g.4)),
        ))
        (λ z. ((λ h. let g = zeros_first (suc left) h.0 h.1 h.2 h.3 in eqb-false c 0x80 z (zeros_off left c g.0 other g.3).0), λ e. absurd e))

    pub padding_law : (left : ℕ) → Pads left (padding_step p n left c)
    padding_law left = cond_both (nat_eq c 0x00) _ _ (Pads left)
        (λ z. (
          (λ h.
              let g = zeros_first left h.0 h.1 h.2 h.3 in
              let ended : g.0 ≡ [] = zeros_ended left c g.0 (eqb-true c 0x00 z) g.3 in
              coded_to (0x100 + n) o b (subst (Coded p (0x100 + n) o) (sym (g.2 ∙ ap (λ y. y ++ h.1) ended)) h.4)),
          (λ g. (c ∷ [], b, refl, one_zero left (c ∷ []) (ap (λ y. y ∷ []) (eqb-true c 0x00 z)), coded_from (0x100 + n) (class_under p (0x100 + n)) refl o b g)),
        ))
        (λ z. padding_more (eqb-false c 0x00 z) left)

  -- each byte goes on with what may still come
  op_law : (r : InOp) (c : ℕ) → c < 2 ^ 8 → (o : Op) (b : List ℕ) → op_rest p r o (c ∷ b) ↔ Goes (op_rest p) (op_push p r c) o b
  op_law at.First c byte o b = first_law c byte o b
  op_law at.Code c byte o b = code_law c byte o b
  op_law (at.Padding n left) c byte o b = padding_law n c o b left
  op_law (at.BlockType i) c byte o b = block_law i c o b
  op_law (at.Index i r) c byte o b =
      makes_law Left r c (index_op i) (λ t. at.Index i t) (λ t o b. same_left) (unsigned_push 32 r c) (λ n b. unsigned_law 32 r n c b byte) o b
  op_law (at.CallType r) c byte o b =
      leads_law Left r c (λ n. Tabled p (table.Call n) 4) (λ t. at.CallType t) (λ n. at.Table (table.Call n) 4) left_nil (λ t o b. same_left) (λ n o b. same_left) (unsigned_push 32 r c) (λ n b. unsigned_law 32 r n c b byte) o b
  op_law (at.Table t left) c byte o b = table_law t c o b left
  op_law (at.InitElement r) c byte o b =
      leads_law Left r c (λ n. Tabled p (table.Init n) 4) (λ t. at.InitElement t) (λ n. at.Table (table.Init n) 4) left_nil (λ t o b. same_left) (λ n o b. same_left) (unsigned_push 32 r c) (λ n b. unsigned_law 32 r n c b byte) o b
  op_law (at.InitSegment r) c byte o b =
      leads_law Left r c (λ n. Closed (init_op n)) (λ t. at.InitSegment t) (λ n. at.InitMemory n) left_nil (λ t o b. same_left) (λ n o b. same_left) (unsigned_push 32 r c) (λ n b. unsigned_law 32 r n c b byte) o b
  op_law (at.InitMemory n) c byte o b = closed_law (init_op n) c o b
  op_law at.FirstZero c byte o b = first_zero_law c o b
  op_law (at.Memory m) c byte o b = closed_law (memory_op m) c o b
  op_law (at.Const32 r) c byte o b =
      makes_law (SignedRest 32) r c const_32_op (λ t. at.Const32 t) (λ t o b. same_left) (signed_push 32 r c) (λ z b. signed_law 32 r z c b byte) o b
  op_law (at.Const64 r) c byte o b =
      makes_law (SignedRest 64) r c const_64_op (λ t. at.Const64 t) (λ t o b. same_left) (signed_push 64 r c) (λ z b. signed_law 64 r z c b byte) o b
  op_law (at.Float32 left low) c byte o b = float_32_law left low c byte o b
  op_law (at.Float64 left low) c byte o b = float_64_law left low c byte o b
  op_law (at.Align a r) c byte o b =
      leads_law Left r c (λ n. Makes (at_offset a n) (Left fresh)) (λ t. at.Align a t) (λ n. at.Offset a n fresh) left_nil (λ t o b. same_left) (λ n o b. same_left) (unsigned_push 32 r c) (λ n b. unsigned_law 32 r n c b byte) o b
  op_law (at.Offset a n r) c byte o b =
      makes_law Left r c (at_offset a n) (λ t. at.Offset a n t) (λ t o b. same_left) (unsigned_push 32 r c) (λ m b. unsigned_law 32 r m c b byte) o b

  -- an op goes on for a byte at least
  block_some : (t : Option ValType) → SpellsBlockType t [] → ⊥
  block_some Nothing h = not_nil 0x40 [] (sym h)
  block_some (Some t) h = not_nil (type_byte t) [] (sym h)

  lead_some : {T : Type 0} (rest : T → Form ℕ) → ((v : T) → rest v [] → ⊥) → (v : T) (front back : List ℕ) → [] ≡ front ++ back → rest v front → ⊥
  lead_some rest some v [] back e u = some v u
  lead_some rest some v (d ∷ f) back e u = not_nil d (f ++ back) (sym e)

  lead_front : (P : Form ℕ) → (P [] → ⊥) → (front back : List ℕ) → [] ≡ front ++ back → P front → ⊥
  lead_front P some [] back e u = some u
  lead_front P some (d ∷ f) back e u = not_nil d (f ++ back) (sym e)

  rest_some : (r : InOp) (o : Op) → op_rest p r o [] → ⊥
  rest_some at.First o h = op_some p o h.0 h.2
  rest_some at.Code o h = lead_front (SpellsU32 h.0) (λ e. e) h.1.0 h.1.1 h.1.2 h.1.3
  rest_some (at.Padding n left) o h = lead_front (Zeros left) (zeros_nil left) h.0 h.1 h.2 h.3
  rest_some (at.BlockType i) o h = block_some h.0 h.2.1
  rest_some (at.Index i r) o h = left_nil r h.0 h.2
  rest_some (at.CallType r) o h = lead_some (Left r) (left_nil r) h.0 h.1 h.2 h.3 h.4
  rest_some (at.Table t left) o h =
      let rest : Form ℕ = TableRest p (table_feature t) left in
      lead_front rest (λ z. zeros_nil left (table_zeros p (table_feature t) left [] z)) h.1.0 h.1.1 h.1.2 h.1.3
  rest_some (at.InitElement r) o h = lead_some (Left r) (left_nil r) h.0 h.1 h.2 h.3 h.4
  rest_some (at.InitSegment r) o h = lead_some (Left r) (left_nil r) h.0 h.1 h.2 h.3 h.4
  rest_some (at.InitMemory n) o h = not_nil 0x00 [] (sym h.1)
  rest_some at.FirstZero o h = not_nil 0x00 h.1.1 (sym (h.1.2 ∙ ap (λ y. y ++ h.1.1) h.1.3))
  rest_some (at.Memory m) o h = not_nil 0x00 [] (sym h.1)
  rest_some (at.Const32 r) o h = h.2.3
  rest_some (at.Const64 r) o h = h.2.3
  rest_some (at.Float32 left low) o h = float_some (2 ^ 24) left low h.0 h.2
  rest_some (at.Float64 left low) o h = float_some (2 ^ 56) left low h.0 h.2
  rest_some (at.Align a r) o h = lead_some (Left r) (left_nil r) h.0 h.1 h.2 h.3 h.4
  rest_some (at.Offset a n r) o h = left_nil r h.0 h.2

  pub op_reader : IsReader (op_rest p) (op_push p)
  op_reader = record { law = λ r c byte o b. op_law r c byte o b; some = rest_some }

  -- what comes of an op past its first byte has immediates
  block_has : (i : BlockOp) (t : Option ValType) → HasImmediates (block_op i t)
  block_has opening.Block t = (k.Block opening.Block, refl)
  block_has opening.Loop t = (k.Block opening.Loop, refl)
  block_has opening.If t = (k.Block opening.If, refl)

  index_has : (i : Indexed) (n : ℕ) → HasImmediates (index_op i n)
  index_has indexed.Br n = (k.Index indexed.Br, refl)
  index_has indexed.BrIf n = (k.Index indexed.BrIf, refl)
  index_has indexed.BrTable n = (k.Index indexed.BrTable, refl)
  index_has indexed.Call n = (k.Index indexed.Call, refl)
  index_has indexed.LocalGet n = (k.Index indexed.LocalGet, refl)
  index_has indexed.LocalSet n = (k.Index indexed.LocalSet, refl)
  index_has indexed.LocalTee n = (k.Index indexed.LocalTee, refl)
  index_has indexed.GlobalGet n = (k.Index indexed.GlobalGet, refl)
  index_has indexed.GlobalSet n = (k.Index indexed.GlobalSet, refl)
  index_has indexed.DataDrop n = (k.Index indexed.DataDrop, refl)
  index_has indexed.ElemDrop n = (k.Index indexed.ElemDrop, refl)

  table_has : (t : TableOp) → HasImmediates (table_op t)
  table_has (table.Call n) = (k.CallIndirect, refl)
  table_has (table.Init n) = (k.TableInit, refl)
  table_has table.CopyTo = (k.TableCopy, refl)
  table_has table.CopyFrom = (k.TableCopy, refl)

  memory_has : (m : MemoryOp) → HasImmediates (memory_op m)
  memory_has memory.MemorySize = (k.Memory memory.MemorySize, refl)
  memory_has memory.MemoryGrow = (k.Memory memory.MemoryGrow, refl)
  memory_has memory.MemoryCopy = (k.Memory memory.MemoryCopy, refl)
  memory_has memory.MemoryFill = (k.Memory memory.MemoryFill, refl)

  access_has : (a : LoadOrStore) (m : MemArg) → HasImmediates (access_op a m)
  access_has (accesses.Load i) m = (k.Access (accesses.Load i), refl)
  access_has (accesses.Store i) m = (k.Access (accesses.Store i), refl)

  named : (o f : Op) → o ≡ f → HasImmediates f → NoLabel o
  named o f e h = subst NoLabel (sym e) (no_label f h)

  -- what is read is no label
  pub rest_named : (r : InOp) (o : Op) (b : List ℕ) → op_rest p r o b → NoLabel o
  rest_named at.First o b h = h.0
  rest_named at.Code o b h = coded_named o (0x100 + h.0) h.1.4.0
  rest_named (at.Padding n left) o b h = coded_named o (0x100 + n) h.4.0
  rest_named (at.BlockType i) o b h = named o (block_op i h.0) h.1 (block_has i h.0)
  rest_named (at.Index i r) o b h = named o (index_op i h.0) h.1 (index_has i h.0)
  rest_named (at.CallType r) o b h = let c = h.5 in named o (call_op h.0) c.0 (k.CallIndirect, refl)
  rest_named (at.Table t left) o b h = named o (table_op t) h.0 (table_has t)
  rest_named (at.InitElement r) o b h = let c = h.5 in named o (init_table_op h.0) c.0 (k.TableInit, refl)
  rest_named (at.InitSegment r) o b h = let c = h.5 in named o (init_op h.0) c.0 (k.MemoryInit, refl)
  rest_named (at.InitMemory n) o b h = named o (init_op n) h.0 (k.MemoryInit, refl)
  rest_named at.FirstZero o b h = named o (memory_op memory.MemoryCopy) h.0 (memory_has memory.MemoryCopy)
  rest_named (at.Memory m) o b h = named o (memory_op m) h.0 (memory_has m)
  rest_named (at.Const32 r) o b h = named o (const_32_op h.0) h.1 (k.I32Const, refl)
  rest_named (at.Const64 r) o b h = named o (const_64_op h.0) h.1 (k.I64Const, refl)
  rest_named (at.Float32 left low) o b h = named o (float_32_op h.0) h.1 (k.F32Const, refl)
  rest_named (at.Float64 left low) o b h = named o (float_64_op h.0) h.1 (k.F64Const, refl)
  rest_named (at.Align a r) o b h = let m = h.5 in named o (at_offset a h.0 m.0) m.1 (access_has a (record { align = h.0; offset = m.0 }))
  rest_named (at.Offset a n r) o b h = named o (at_offset a n h.0) h.1 (access_has a (record { align = n; offset = h.0 }))
