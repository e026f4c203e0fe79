-- Ops that lie whole in a list of bytes.
use Rattle.std.proofs.Common.{◌≡◌, ℕ, Bool, IsTrue, zero, suc, ◌+◌, ◌-◌, ◌<◌, ◌≤◌, ◌^◌, List, [], ◌∷◌, ◌++◌, Option, Some, None as Nothing, ◌⊎◌, inl, inr, length, refl, sym, ◌∙◌, ap, subst, arith, slice_range, slice_index, slice_get, take, drop, ℤ, nat_eq, nat_lt, true, cond, length-drop, length-take, Result, IfSome}
use Rattle.std.proofs.lemmas.Bool.{cond_both, cond-true, eqb-true, lt-ltb}
use Rattle.std.proofs.Math.Bool.{◌||◌, or-true, true-or}
use Rattle.std.proofs.Math.Seq.{take-add}
use Rattle.std.proofs.lemmas.List.{drop-drop}
use Rattle.wm_syntax.specs.declared.why.Why.{Why}
use Rattle.wm_syntax.specs.declared.why.Why.TheVariants as why
use Rattle.wm_syntax.specs.declared.numbers.Step.{Step}
use Rattle.wm_syntax.specs.declared.numbers.Step.TheVariants as step
use Rattle.wm_syntax.specs.inner.Numbers.{Partial}
use Rattle.wm_syntax.specs.exact.Reading.{fresh, unsigned_push, signed_push}
use Rattle.wm_syntax.specs.exact.ByteTable.{class_feature, class_under, classes, left_out, row_in}
use Rattle.wm_syntax.specs.declared.profile.Profile.{Profile}
use Rattle.wm_syntax.specs.declared.types.ValType.{ValType}
use Rattle.wm_syntax.specs.declared.instructions.MemArg.{MemArg}
use Rattle.wm_syntax.specs.declared.instructions.Op.{Op}
use Rattle.wm_syntax.specs.declared.instructions.Op.TheVariants as op
use Rattle.wm_syntax.specs.declared.instructions.op_class.Immediates.TheVariants as kinds
use Rattle.wm_syntax.specs.declared.instructions.op_class.OpClass.{OpClass}
use Rattle.wm_syntax.specs.declared.instructions.op_class.OpClass.TheVariants as class
use Rattle.wm_syntax.specs.declared.instructions.Numeric.TheVariants as numeric
use Rattle.wm_syntax.specs.declared.instructions.Saturation.{Saturation as ASaturation}
use Rattle.wm_syntax.specs.declared.instructions.Simple.TheVariants as simple
use Rattle.wm_machine.specs.declared.step.reading.Reading.{Reading}
use Rattle.wm_machine.specs.declared.step.reading.Reading.TheVariants.{More, Done, Bad}
use Rattle.wm_syntax.specs.declared.instructions.op_class.Indexed.{Indexed}
use Rattle.wm_syntax.specs.declared.instructions.op_class.Indexed.TheVariants as indexed
use Rattle.wm_syntax.specs.declared.instructions.op_class.LoadOrStore.{LoadOrStore}
use Rattle.wm_syntax.specs.declared.instructions.op_class.LoadOrStore.TheVariants as accesses
use Rattle.wm_syntax.specs.declared.instructions.op_class.BlockOp.{BlockOp}
use Rattle.wm_syntax.specs.declared.instructions.op_class.BlockOp.TheVariants as openings
use Rattle.wm_syntax.specs.declared.instructions.op_class.MemoryOp.{MemoryOp}
use Rattle.wm_syntax.specs.declared.instructions.op_class.MemoryOp.TheVariants as memories
use Rattle.wm_machine.specs.declared.step.ops.InOp.{InOp}
use Rattle.wm_machine.specs.declared.step.ops.InOp.TheVariants as at
use Rattle.wm_machine.specs.exact.OpSteps.{op_push, after_table, class_step, copy_table_op, init_op, init_table_op, on_answer, call_op, block_step, const_32_op, const_64_op, float_32_op, float_64_op, fresh_index, fresh_access, pushed_32, pushed_64}
use Rattle.wm_syntax.specs.exact.OpShapes.{index_op, access_op, memory_op, block_op}
use Rattle.wm_machine.specs.exact.ExpressionSteps.{at_next_op, deeper, after_op}
use Rattle.wm_shortcuts.specs.exact.WholeOps.{GaveAs, TookAs, NumberGoes, IsNumber, LiesAt, OpGoes, IsOp, IsDrop, HasNumeric, OpUnder, WholeOp, class_row, first_read}
use Rattle.wm_shortcuts.specs.declared.whole_ops.Read.{Read}
use Rattle.wm_shortcuts.specs.declared.whole_ops.Took.{Took}
use Rattle.wm_shortcuts.specs.declared.whole_ops.Took.TheVariants as took
use Rattle.wm_machine.specs.Items.{Item}
use Rattle.wm_shortcuts.proofs.WholeNumbers.{one_range}
use Rattle.std.specs.Prelude.{if◌then◌else◌}
use Rattle.wm_syntax.specs.Profiles.{has, has_prefix}
use Rattle.wm_syntax.specs.declared.profile.Feature.{Feature}
use Rattle.wm_syntax.specs.declared.profile.Feature.TheVariants.{BulkMemory, Copies, LongIndex, Saturation}
use Rattle.wm_machine.specs.declared.step.ops.TableOp.{TableOp}
use Rattle.wm_machine.specs.declared.step.ops.TableOp.TheVariants as tables

-- a slice in two
drop_drop : (xs : List ℕ) (i j : ℕ) → drop j (drop i xs) ≡ drop (i + j) xs
drop_drop xs i j = drop-drop j i xs

pub range_split : (xs : List ℕ) (i j k : ℕ) → i ≤ j → j ≤ k → slice_range xs i k ≡ slice_range xs i j ++ slice_range xs j k
range_split xs i j k a b =
    let e : k - i ≡ (j - i) + (k - j) = omega arith in
    let f : i + (j - i) ≡ j = omega arith in
    ap (λ n. take n (drop i xs)) e
    ∙ (take-add (j - i) (k - j) (drop i xs)
    ∙ ap (λ (y : List ℕ). take (j - i) (drop i xs) ++ take (k - j) y) (drop_drop xs i (j - i) ∙ ap (λ n. drop n xs) f))

pub range_length : (xs : List ℕ) (i j : ℕ) → j ≤ length xs → length (slice_range xs i j) ≡ j - i
range_length xs i j within = omega (arith, length-take (j - i) (drop i xs), length-drop i xs)

pub range_first : (xs : List ℕ) (i k : ℕ) → i < length xs → i < k → slice_range xs i k ≡ slice_index xs i ∷ slice_range xs (i + 1) k
range_first xs i k within less = range_split xs i (i + 1) k (omega arith) (omega arith) ∙ ap (λ (y : List ℕ). y ++ slice_range xs (i + 1) k) (one_range xs i within)

second_range : (xs : List ℕ) (i : ℕ) → i + 1 < length xs → slice_range xs (i + 1) (i + 2) ≡ slice_index xs (i + 1) ∷ []
second_range xs i within =
    let two : i + 1 + 1 ≡ i + 2 = omega arith in
    ap (λ n. slice_range xs (i + 1) n) (sym two) ∙ one_range xs (i + 1) within

-- the byte step on the first byte of an op: a code, which is not FC
by_code : (p : Profile) (c : ℕ) → (c ≡ 0xFC → ⊥) → op_push p at.First c ≡ first_read p c
unfolding class_under
by_code p c other = cond_both (nat_eq c 0xFC) _ _ (λ (a : Reading InOp Op). a ≡ first_read p c) (λ z. absurd (other (eqb-true c 0xFC z))) (λ _. refl)

prefix_read : (p : Profile) (c : ℕ) → c ≡ 0xFC → first_read p c ≡ Bad why.BadOpcode
prefix_read p c z = ap (first_read p) z

begins_more : (p : Profile) (c : ℕ) (q : InOp) → first_read p c ≡ More q → op_push p at.First c ≡ More q
begins_more p c q e = by_code p c (λ z. let f : More q ≡ Bad why.BadOpcode = sym e ∙ prefix_read p c z in cc) ∙ e

pub is_alone : (p : Profile) (c : ℕ) (o : Op) → first_read p c ≡ Done o → op_push p at.First c ≡ Done o
is_alone p c o e = by_code p c (λ z. let f : Done o ≡ Bad why.BadOpcode = sym e ∙ prefix_read p c z in cc) ∙ e

-- the byte FC, and a number of one byte
prefix_more : (p : Profile) (c : ℕ) → c ≡ 0xFC → IsTrue (has_prefix p) → op_push p at.First c ≡ More at.Code
prefix_more p c z h = ap (op_push p at.First) z ∙ cond-true (has_prefix p) _ _ h

by_number : (p : Profile) (c : ℕ) → c < 0x80 → op_push p at.Code c ≡ class_step (class_under p (0x100 + c))
by_number p c l = cond-true (nat_lt c 0x80) _ _ (lt-ltb c 0x80 l)

pub prefixed : (p : Profile) (bytes : List ℕ) (i k : ℕ) (class : OpClass) (o : Op) → i + 1 < length bytes → i + 1 < k → IsTrue (has_prefix p) → slice_index bytes i ≡ 0xFC → slice_index bytes (i + 1) < 0x80
    → class ≡ class_under p (0x100 + slice_index bytes (i + 1)) → OpGoes (class_step class) (λ r. IsOp p r (slice_range bytes (i + 2) k) o) (slice_range bytes (i + 2) k) o → IsOp p at.First (slice_range bytes i k) o
prefixed p bytes i k class o within less has first small is rest =
    let two : i + 1 + 1 ≡ i + 2 = omega arith in
    let inner : IsOp p at.Code (slice_range bytes (i + 1) k) o =
    subst (λ (y : List ℕ). IsOp p at.Code y o) (sym (range_first bytes (i + 1) k within less))
    (subst (λ y. OpGoes y (λ r. IsOp p r (slice_range bytes (i + 1 + 1) k) o) (slice_range bytes (i + 1 + 1) k) o) (ap class_step is ∙ sym (by_number p (slice_index bytes (i + 1)) small))
    (subst (λ n. OpGoes (class_step class) (λ r. IsOp p r (slice_range bytes n k) o) (slice_range bytes n k) o) (sym two) rest)) in
    subst (λ (y : List ℕ). IsOp p at.First y o) (sym (range_first bytes i k (omega arith) (omega arith)))
    (subst (λ y. OpGoes y (λ r. IsOp p r (slice_range bytes (i + 1) k) o) (slice_range bytes (i + 1) k) o) (sym (prefix_more p (slice_index bytes i) first has)) inner)

-- a number that ends an op, and one after which it goes on
module _ {T : Type 0} (p : Profile) (push : Partial → ℕ → Step T × Partial) (from : Partial → InOp) where
  module _ (done : T → Op) (same : (r : Partial) (c : ℕ) → op_push p (from r) c ≡ on_answer (push r c) (λ s. More (from s)) (λ n. Done (done n)) (Bad why.BadNumber)) where
    pub number_ends : (r : Partial) (b : List ℕ) (v : T) → IsNumber push r b v → IsOp p (from r) b (done v)
    number_ends r [] v i = absurd i
    number_ends r (c ∷ b) v i =
        subst (λ y. OpGoes y (λ q. IsOp p q b (done v)) b (done v)) (sym (same r c)) (go (λ s h. number_ends s b v h) (push r c) i)
      where
        go : ((s : Partial) → IsNumber push s b v → IsOp p (from s) b (done v)) → (x : Step T × Partial) → NumberGoes x (λ s. IsNumber push s b v) b v
            → OpGoes (on_answer x (λ s. More (from s)) (λ n. Done (done n)) (Bad why.BadNumber)) (λ q. IsOp p q b (done v)) b (done v)
        go again (step.More, s) h = again s h
        go again (step.Done w, s) h = (ap done h.0, h.1)
        go again (step.Bad, s) h = absurd h

  module _ (next : T → InOp) (same : (r : Partial) (c : ℕ) → op_push p (from r) c ≡ on_answer (push r c) (λ s. More (from s)) (λ n. More (next n)) (Bad why.BadNumber)) where
    pub number_then : (r : Partial) (b rest : List ℕ) (v : T) (o : Op) → IsNumber push r b v → IsOp p (next v) rest o → IsOp p (from r) (b ++ rest) o
    number_then r [] rest v o i j = absurd i
    number_then r (c ∷ b) rest v o i j =
        subst (λ y. OpGoes y (λ q. IsOp p q (b ++ rest) o) (b ++ rest) o) (sym (same r c)) (go (λ s h. number_then s b rest v o h j) (push r c) i)
      where
        go : ((s : Partial) → IsNumber push s b v → IsOp p (from s) (b ++ rest) o) → (x : Step T × Partial) → NumberGoes x (λ s. IsNumber push s b v) b v
            → OpGoes (on_answer x (λ s. More (from s)) (λ n. More (next n)) (Bad why.BadNumber)) (λ q. IsOp p q (b ++ rest) o) (b ++ rest) o
        go again (step.More, s) h = again s h
        go again (step.Done w, s) h =
            let last : [] ≡ b = sym h.1 in
            subst (λ (y : List ℕ). IsOp p (next w) (y ++ rest) o) last (subst (λ u. IsOp p (next u) rest o) (sym h.0) j)
        go again (step.Bad, s) h = absurd h

-- an op by its first byte and what comes after it
abbrev Begins : List ℕ → ℕ → InOp → Type 0
Begins bytes i q = (p : Profile) → first_read p (slice_index bytes i) ≡ More q

first_under : (p : Profile) (bytes : List ℕ) (i k : ℕ) (q : InOp) (o : Op) → i < length bytes → i < k → first_read p (slice_index bytes i) ≡ More q
    → IsOp p q (slice_range bytes (i + 1) k) o → IsOp p at.First (slice_range bytes i k) o
first_under p bytes i k q o within less first rest =
    subst (λ (y : List ℕ). IsOp p at.First y o) (sym (range_first bytes i k within less))
    (subst (λ y. OpGoes y (λ r. IsOp p r (slice_range bytes (i + 1) k) o) (slice_range bytes (i + 1) k) o) (sym (begins_more p (slice_index bytes i) q first)) rest)

pub first_then : (bytes : List ℕ) (i k : ℕ) (q : InOp) (o : Op) → i < length bytes → i < k → Begins bytes i q
    → ((p : Profile) → IsOp p q (slice_range bytes (i + 1) k) o) → (p : Profile) → IsOp p at.First (slice_range bytes i k) o
first_then bytes i k q o within less first rest p = first_under p bytes i k q o within less (first p) (rest p)

-- an op of one byte
pub under_alone : (p : Profile) (bytes : List ℕ) (i depth inside : ℕ) (o : Op) → i < length bytes → class_row p (slice_index bytes i) ≡ class.Plain o → after_op depth o ≡ at_next_op inside
    → OpUnder p bytes i (i + 1) depth inside o
under_alone p bytes i depth inside o within is opens = record {
  some = omega arith;
  within = omega arith;
  spelled =
      subst (λ (y : List ℕ). IsOp p at.First y o) (sym (one_range bytes i within))
      (subst (λ y. OpGoes y (λ r. IsOp p r [] o) [] o) (sym (is_alone p (slice_index bytes i) o (ap class_step is))) (refl, refl));
  opens = opens;
}

-- what is an op of each profile is one of this
pub under_whole : (p : Profile) (bytes : List ℕ) (start next depth inside : ℕ) (o : Op) → WholeOp bytes start next depth inside o → OpUnder p bytes start next depth inside o
under_whole p bytes start next depth inside o whole = record {
  some = whole.some;
  within = whole.within;
  spelled = whole.spelled p;
  opens = whole.opens;
}

pub whole_index : (bytes : List ℕ) (i next depth n : ℕ) (x : Indexed) → Begins bytes i (fresh_index x) → LiesAt (unsigned_push 32) bytes (i + 1) next n → after_op depth (index_op x n) ≡ at_next_op depth
    → WholeOp bytes i next depth depth (index_op x n)
whole_index bytes i next depth n x first lies opens = record {
  some = omega arith;
  within = lies.within;
  spelled = first_then bytes i next (fresh_index x) (index_op x n) (omega arith) (omega arith) first
      (λ p. number_ends p (unsigned_push 32) (at.Index x) (index_op x) (λ r c. refl) fresh (slice_range bytes (i + 1) next) n lies.spelled);
  opens = opens;
}

pub whole_const_32 : (bytes : List ℕ) (i next depth : ℕ) (z : ℤ) → Begins bytes i (at.Const32 fresh) → LiesAt (signed_push 32) bytes (i + 1) next z
    → WholeOp bytes i next depth depth (const_32_op z)
whole_const_32 bytes i next depth z first lies = record {
  some = omega arith;
  within = lies.within;
  spelled = first_then bytes i next (at.Const32 fresh) (const_32_op z) (omega arith) (omega arith) first
      (λ p. number_ends p (signed_push 32) at.Const32 const_32_op (λ r c. refl) fresh (slice_range bytes (i + 1) next) z lies.spelled);
  opens = refl;
}

pub whole_const_64 : (bytes : List ℕ) (i next depth : ℕ) (z : ℤ) → Begins bytes i (at.Const64 fresh) → LiesAt (signed_push 64) bytes (i + 1) next z
    → WholeOp bytes i next depth depth (const_64_op z)
whole_const_64 bytes i next depth z first lies = record {
  some = omega arith;
  within = lies.within;
  spelled = first_then bytes i next (at.Const64 fresh) (const_64_op z) (omega arith) (omega arith) first
      (λ p. number_ends p (signed_push 64) at.Const64 const_64_op (λ r c. refl) fresh (slice_range bytes (i + 1) next) z lies.spelled);
  opens = refl;
}

access_opens : (a : LoadOrStore) (m : MemArg) (depth : ℕ) → after_op depth (access_op a m) ≡ at_next_op depth
access_opens (accesses.Load o) m depth = refl
access_opens (accesses.Store o) m depth = refl

access_rest : (p : Profile) (bytes : List ℕ) (i middle next m n : ℕ) (a : LoadOrStore) → LiesAt (unsigned_push 32) bytes (i + 1) middle m → LiesAt (unsigned_push 32) bytes middle next n
    → IsOp p (fresh_access a) (slice_range bytes (i + 1) next) (access_op a (record { align = m; offset = n }))
access_rest p bytes i middle next m n a align offset =
    subst (λ (y : List ℕ). IsOp p (fresh_access a) y (access_op a (record { align = m; offset = n }))) (sym (range_split bytes (i + 1) middle next (omega arith) (omega arith)))
    (number_then p (unsigned_push 32) (at.Align a) (λ v. at.Offset a v fresh) (λ r c. refl) fresh (slice_range bytes (i + 1) middle) (slice_range bytes middle next) m (access_op a (record { align = m; offset = n })) align.spelled
    (number_ends p (unsigned_push 32) (at.Offset a m) (λ v. access_op a (record { align = m; offset = v })) (λ r c. refl) fresh (slice_range bytes middle next) n offset.spelled))

access_begins : (a : LoadOrStore) → class_step (class.With (kinds.Access a)) ≡ More (fresh_access a)
access_begins a = refl

pub under_access : (p : Profile) (bytes : List ℕ) (i middle next depth m n : ℕ) (a : LoadOrStore) → class_row p (slice_index bytes i) ≡ class.With (kinds.Access a) → LiesAt (unsigned_push 32) bytes (i + 1) middle m
    → LiesAt (unsigned_push 32) bytes middle next n → OpUnder p bytes i next depth depth (access_op a (record { align = m; offset = n }))
under_access p bytes i middle next depth m n a is align offset = record {
  some = omega arith;
  within = offset.within;
  spelled = first_under p bytes i next (fresh_access a) (access_op a (record { align = m; offset = n })) (omega arith) (omega arith)
      (ap class_step is ∙ access_begins a) (access_rest p bytes i middle next m n a align offset);
  opens = access_opens a (record { align = m; offset = n }) depth;
}

-- the table index of an indirect call: the byte 00, or four bytes 80 before it
table_more : (p : Profile) (bytes : List ℕ) (i j k n left : ℕ) → IsTrue (has p LongIndex) → i < length bytes → i < k → i + 1 ≡ j → slice_index bytes i ≡ 0x80
    → IsOp p (at.Table (tables.Call n) left) (slice_range bytes j k) (call_op n) → IsOp p (at.Table (tables.Call n) (suc left)) (slice_range bytes i k) (call_op n)
table_more p bytes i j k n left long within less next is rest =
    let r : List ℕ = slice_range bytes (i + 1) k in
    let o : Op = call_op n in
    subst (λ (y : List ℕ). IsOp p (at.Table (tables.Call n) (suc left)) y o) (sym (range_first bytes i k within less))
    (subst (λ c. IsOp p (at.Table (tables.Call n) (suc left)) (c ∷ r) o) (sym is)
    (subst (λ (b : Bool). OpGoes (if b then More (at.Table (tables.Call n) left) else Bad why.BadByte) (λ q. IsOp p q r o) r o) (sym long)
    (subst (λ m. IsOp p (at.Table (tables.Call n) left) (slice_range bytes m k) o) (sym next) rest)))

-- the byte 00 of a table index, after which the op goes on or ends
table_at : (p : Profile) (bytes : List ℕ) (i j k : ℕ) (t : TableOp) (o : Op) (left : ℕ) → i < length bytes → i < k → i + 1 ≡ j → slice_index bytes i ≡ 0x00
    → OpGoes (after_table t) (λ q. IsOp p q (slice_range bytes j k) o) (slice_range bytes j k) o → IsOp p (at.Table t left) (slice_range bytes i k) o
table_at p bytes i j k t o left within less next is rest =
    subst (λ (y : List ℕ). IsOp p (at.Table t left) y o) (sym (range_first bytes i k within less))
    (subst (λ c. IsOp p (at.Table t left) (c ∷ slice_range bytes (i + 1) k) o) (sym is)
    (subst (λ m. OpGoes (after_table t) (λ q. IsOp p q (slice_range bytes m k) o) (slice_range bytes m k) o) (sym next) rest))

table_ends : (p : Profile) (bytes : List ℕ) (i j : ℕ) (t : TableOp) (o : Op) (left : ℕ) → i < length bytes → i + 1 ≡ j → after_table t ≡ Done o → slice_index bytes i ≡ 0x00
    → IsOp p (at.Table t left) (slice_range bytes i j) o
table_ends p bytes i j t o left within next ends is =
    table_at p bytes i (i + 1) j t o left within (omega arith) refl is
    (subst (λ m. OpGoes (after_table t) (λ q. IsOp p q (slice_range bytes (i + 1) m) o) (slice_range bytes (i + 1) m) o) next
    (subst (λ y. OpGoes y (λ q. IsOp p q (slice_range bytes (i + 1) (i + 1)) o) (slice_range bytes (i + 1) (i + 1)) o) (sym ends) (refl, none)))
  where
    none : slice_range bytes (i + 1) (i + 1) ≡ []
    none = ap (λ n. take n (drop (i + 1) bytes)) (let e : (i + 1) - (i + 1) ≡ 0 = omega arith in e)

pub table_of_one : (p : Profile) (bytes : List ℕ) (i j left : ℕ) → i < length bytes → i + 1 ≡ j → slice_index bytes i ≡ 0x00 → (n : ℕ) → IsOp p (at.Table (tables.Call n) left) (slice_range bytes i j) (call_op n)
table_of_one p bytes i j left within next is n = table_ends p bytes i j (tables.Call n) (call_op n) left within next refl is

pub table_of_five : (p : Profile) (bytes : List ℕ) (i : ℕ) → IsTrue (has p LongIndex) → i + 4 < length bytes → slice_index bytes i ≡ 0x80 → slice_index bytes (i + 1) ≡ 0x80 → slice_index bytes (i + 2) ≡ 0x80
    → slice_index bytes (i + 3) ≡ 0x80 → slice_index bytes (i + 4) ≡ 0x00 → (n : ℕ) → IsOp p (at.Table (tables.Call n) 4) (slice_range bytes i (i + 5)) (call_op n)
table_of_five p bytes i long within a b c d e n =
    table_more p bytes i (i + 1) (i + 5) n 3 long (omega arith) (omega arith) refl a
    (table_more p bytes (i + 1) (i + 2) (i + 5) n 2 long (omega arith) (omega arith) (omega arith) b
    (table_more p bytes (i + 2) (i + 3) (i + 5) n 1 long (omega arith) (omega arith) (omega arith) c
    (table_more p bytes (i + 3) (i + 4) (i + 5) n 0 long (omega arith) (omega arith) (omega arith) d
    (table_of_one p bytes (i + 4) (i + 5) 0 within (omega arith) e n))))

-- an indirect call: the number of a type, and the table index
pub under_call_indirect : (p : Profile) (bytes : List ℕ) (i middle next depth n : ℕ) → class_row p (slice_index bytes i) ≡ class.With kinds.CallIndirect → LiesAt (unsigned_push 32) bytes (i + 1) middle n
    → middle < next → next ≤ length bytes → ((n : ℕ) → IsOp p (at.Table (tables.Call n) 4) (slice_range bytes middle next) (call_op n)) → OpUnder p bytes i next depth depth (call_op n)
under_call_indirect p bytes i middle next depth n is ty more within table = record {
  some = omega arith;
  within = within;
  spelled = first_under p bytes i next (at.CallType fresh) (call_op n) (omega arith) (omega arith) (ap class_step is)
      (subst (λ (y : List ℕ). IsOp p (at.CallType fresh) y (call_op n)) (sym (range_split bytes (i + 1) middle next (omega arith) (omega arith)))
      (number_then p (unsigned_push 32) at.CallType (λ v. at.Table (tables.Call v) 4) (λ r c. refl) fresh (slice_range bytes (i + 1) middle) (slice_range bytes middle next) n (call_op n) ty.spelled (table n)));
  opens = refl;
}

-- a memory instruction: the byte 00
memory_opens : (x : MemoryOp) (depth : ℕ) → after_op depth (memory_op x) ≡ at_next_op depth
memory_opens memories.MemorySize depth = refl
memory_opens memories.MemoryGrow depth = refl
memory_opens memories.MemoryCopy depth = refl
memory_opens memories.MemoryFill depth = refl

pub whole_memory : (bytes : List ℕ) (i depth : ℕ) (x : MemoryOp) → i + 1 < length bytes → Begins bytes i (at.Memory x) → slice_index bytes (i + 1) ≡ 0x00
    → WholeOp bytes i (i + 2) depth depth (memory_op x)
whole_memory bytes i depth x within first closed = record {
  some = omega arith;
  within = omega arith;
  spelled = first_then bytes i (i + 2) (at.Memory x) (memory_op x) (omega arith) (omega arith) first
      (λ p. subst (λ (y : List ℕ). IsOp p (at.Memory x) y (memory_op x)) (sym (second_range bytes i within))
      (subst (λ c. IsOp p (at.Memory x) (c ∷ []) (memory_op x)) (sym closed) (refl, refl)));
  opens = memory_opens x depth;
}

closed_at : (p : Profile) (bytes : List ℕ) (i k : ℕ) (x : MemoryOp) → i < length bytes → i + 1 ≡ k → slice_index bytes i ≡ 0x00 → IsOp p (at.Memory x) (slice_range bytes i k) (memory_op x)
closed_at p bytes i k x within next closed =
    subst (λ (y : List ℕ). IsOp p (at.Memory x) y (memory_op x)) (sym (ap (slice_range bytes i) (sym next) ∙ one_range bytes i within))
    (subst (λ c. IsOp p (at.Memory x) (c ∷ []) (memory_op x)) (sym closed) (refl, refl))

two_closed : (p : Profile) (bytes : List ℕ) (i k : ℕ) → i + 1 < length bytes → i + 2 ≡ k → slice_index bytes i ≡ 0x00 → slice_index bytes (i + 1) ≡ 0x00 → IsOp p at.FirstZero (slice_range bytes i k) (memory_op memories.MemoryCopy)
two_closed p bytes i k within next first second =
    subst (λ (y : List ℕ). IsOp p at.FirstZero y (memory_op memories.MemoryCopy)) (sym (range_first bytes i k (omega arith) (omega arith)))
    (subst (λ c. IsOp p at.FirstZero (c ∷ slice_range bytes (i + 1) k) (memory_op memories.MemoryCopy)) (sym first) (closed_at p bytes (i + 1) k memories.MemoryCopy within (omega arith) second))

-- an op behind FC: alone, with its zeros, or with the index of a segment
either_feature : (p : Profile) (f : Feature) → f ≡ Saturation ⊎ f ≡ Copies ⊎ f ≡ BulkMemory → IsTrue (has p f) → IsTrue (has_prefix p)
either_feature p f (inl is) sure = ap (λ b. b || (has p Copies || has p BulkMemory)) (subst (λ g. IsTrue (has p g)) is sure) ∙ true-or (has p Copies || has p BulkMemory)
either_feature p f (inr (inl is)) sure =
    ap (λ b. has p Saturation || (b || has p BulkMemory)) (subst (λ g. IsTrue (has p g)) is sure)
    ∙ (ap (λ b. has p Saturation || b) (true-or (has p BulkMemory)) ∙ or-true (has p Saturation))
either_feature p f (inr (inr is)) sure =
    ap (λ b. has p Saturation || (has p Copies || b)) (subst (λ g. IsTrue (has p g)) is sure)
    ∙ (ap (λ b. has p Saturation || b) (or-true (has p Copies)) ∙ or-true (has p Saturation))

row_under : (p : Profile) (code : ℕ) (row : OpClass) → slice_get classes code ≡ Some row → IsTrue (has p (class_feature row)) → row ≡ class_under p code
unfolding class_under
row_under p code row is sure = sym (ap (row_in p) is ∙ cond-true (has p (class_feature row)) row (left_out (class_feature row)) sure)

row_behind : (row : Option OpClass) (byte n : ℕ) → slice_get classes (0x100 + n) ≡ row → byte ≡ n → slice_get classes (0x100 + byte) ≡ row
row_behind row byte n is same = ap (λ b. slice_get classes (0x100 + b)) same ∙ is

pub drops_data : (byte : ℕ) → byte ≡ 0x09 → IsDrop byte indexed.DataDrop
drops_data byte is = (row_behind (Some (class.With (kinds.Index indexed.DataDrop))) byte 0x09 refl is, omega arith, refl, λ depth n. refl)

pub drops_element : (byte : ℕ) → byte ≡ 0x0D → IsDrop byte indexed.ElemDrop
drops_element byte is = (row_behind (Some (class.With (kinds.Index indexed.ElemDrop))) byte 0x0D refl is, omega arith, refl, λ depth n. refl)

module _ (p : Profile) (bytes : List ℕ) (i depth : ℕ) (within : i + 1 < length bytes) (first : slice_index bytes i ≡ 0xFC) where
  behind : (row : OpClass) (k : ℕ) (o : Op) → i + 1 < k → slice_get classes (0x100 + slice_index bytes (i + 1)) ≡ Some row → slice_index bytes (i + 1) < 0x80
      → class_feature row ≡ Saturation ⊎ class_feature row ≡ Copies ⊎ class_feature row ≡ BulkMemory → IsTrue (has p (class_feature row))
      → OpGoes (class_step row) (λ r. IsOp p r (slice_range bytes (i + 2) k) o) (slice_range bytes (i + 2) k) o → IsOp p at.First (slice_range bytes i k) o
  behind row k o less is small feature sure rest =
      prefixed p bytes i k row o within less (either_feature p (class_feature row) feature sure) first small (row_under p (0x100 + slice_index bytes (i + 1)) row is sure) rest

  pub behind_saturation : (x : ASaturation) → HasNumeric (0x100 + slice_index bytes (i + 1)) (numeric.Saturate x) → slice_index bytes (i + 1) < 0x80 → IsTrue (has p Saturation)
      → OpUnder p bytes i (i + 2) depth depth (op.Simple (simple.Numeric (numeric.Saturate x)))
  behind_saturation x is small sure = record {
    some = omega arith;
    within = omega arith;
    spelled = behind (class.Plain (op.Simple (simple.Numeric (numeric.Saturate x)))) (i + 2) (op.Simple (simple.Numeric (numeric.Saturate x))) (omega arith) is small (inl refl) sure (refl, none);
    opens = refl;
  }
    where
      none : slice_range bytes (i + 2) (i + 2) ≡ []
      none = ap (λ n. take n (drop (i + 2) bytes)) (let e : (i + 2) - (i + 2) ≡ 0 = omega arith in e)

  pub behind_fill : slice_index bytes (i + 1) ≡ 0x0B → IsTrue (has p Copies) → i + 2 < length bytes → slice_index bytes (i + 2) ≡ 0x00 → OpUnder p bytes i (i + 3) depth depth (memory_op memories.MemoryFill)
  behind_fill is sure more closed = record {
    some = omega arith;
    within = omega arith;
    spelled = behind (class.With (kinds.Memory memories.MemoryFill)) (i + 3) (memory_op memories.MemoryFill) (omega arith)
        (row_behind (Some (class.With (kinds.Memory memories.MemoryFill))) (slice_index bytes (i + 1)) 0x0B refl is) (omega arith) (inr (inl refl)) sure
        (closed_at p bytes (i + 2) (i + 3) memories.MemoryFill more (omega arith) closed);
    opens = refl;
  }

  pub behind_copy : slice_index bytes (i + 1) ≡ 0x0A → IsTrue (has p Copies) → i + 3 < length bytes → slice_index bytes (i + 2) ≡ 0x00 → slice_index bytes (i + 2 + 1) ≡ 0x00
      → OpUnder p bytes i (i + 4) depth depth (memory_op memories.MemoryCopy)
  behind_copy is sure more closed next = record {
    some = omega arith;
    within = omega arith;
    spelled = behind (class.With (kinds.Memory memories.MemoryCopy)) (i + 4) (memory_op memories.MemoryCopy) (omega arith)
        (row_behind (Some (class.With (kinds.Memory memories.MemoryCopy))) (slice_index bytes (i + 1)) 0x0A refl is) (omega arith) (inr (inl refl)) sure
        (two_closed p bytes (i + 2) (i + 4) (omega arith) (omega arith) closed next);
    opens = refl;
  }

  pub behind_table_copy : slice_index bytes (i + 1) ≡ 0x0E → IsTrue (has p BulkMemory) → i + 3 < length bytes → slice_index bytes (i + 2) ≡ 0x00 → slice_index bytes (i + 2 + 1) ≡ 0x00
      → OpUnder p bytes i (i + 4) depth depth copy_table_op
  behind_table_copy is sure more closed next = record {
    some = omega arith;
    within = omega arith;
    spelled = behind (class.With kinds.TableCopy) (i + 4) copy_table_op (omega arith) (row_behind (Some (class.With kinds.TableCopy)) (slice_index bytes (i + 1)) 0x0E refl is) (omega arith) (inr (inr refl)) sure
        (table_at p bytes (i + 2) (i + 2 + 1) (i + 4) tables.CopyTo copy_table_op 4 (omega arith) (omega arith) refl closed
        (table_ends p bytes (i + 2 + 1) (i + 4) tables.CopyFrom copy_table_op 4 (omega arith) (omega arith) refl next));
    opens = refl;
  }

  pub behind_drop : (x : Indexed) (next n : ℕ) → IsDrop (slice_index bytes (i + 1)) x → IsTrue (has p BulkMemory) → LiesAt (unsigned_push 32) bytes (i + 2) next n → OpUnder p bytes i next depth depth (index_op x n)
  behind_drop x next n is sure lies = record {
    some = omega arith;
    within = lies.within;
    spelled = behind (class.With (kinds.Index x)) next (index_op x n) (omega arith) is.0 is.1 (inr (inr is.2)) (subst (λ f. IsTrue (has p f)) (sym is.2) sure)
        (number_ends p (unsigned_push 32) (at.Index x) (index_op x) (λ r c. refl) fresh (slice_range bytes (i + 2) next) n lies.spelled);
    opens = is.3 depth n;
  }

  pub behind_memory_init : (middle n : ℕ) → slice_index bytes (i + 1) ≡ 0x08 → IsTrue (has p BulkMemory) → LiesAt (unsigned_push 32) bytes (i + 2) middle n → middle < length bytes → slice_index bytes middle ≡ 0x00
      → OpUnder p bytes i (middle + 1) depth depth (init_op n)
  behind_memory_init middle n is sure lies more closed = record {
    some = omega arith;
    within = omega arith;
    spelled = behind (class.With kinds.MemoryInit) (middle + 1) (init_op n) (omega arith) (row_behind (Some (class.With kinds.MemoryInit)) (slice_index bytes (i + 1)) 0x08 refl is) (omega arith) (inr (inr refl)) sure
        (subst (λ (y : List ℕ). IsOp p (at.InitSegment fresh) y (init_op n)) (sym (range_split bytes (i + 2) middle (middle + 1) (omega arith) (omega arith)))
        (number_then p (unsigned_push 32) at.InitSegment at.InitMemory (λ r c. refl) fresh (slice_range bytes (i + 2) middle) (slice_range bytes middle (middle + 1)) n (init_op n) lies.spelled
        (subst (λ (y : List ℕ). IsOp p (at.InitMemory n) y (init_op n)) (sym (one_range bytes middle more))
        (subst (λ c. IsOp p (at.InitMemory n) (c ∷ []) (init_op n)) (sym closed) (refl, refl)))));
    opens = refl;
  }

  pub behind_table_init : (middle n : ℕ) → slice_index bytes (i + 1) ≡ 0x0C → IsTrue (has p BulkMemory) → LiesAt (unsigned_push 32) bytes (i + 2) middle n → middle < length bytes → slice_index bytes middle ≡ 0x00
      → OpUnder p bytes i (middle + 1) depth depth (init_table_op n)
  behind_table_init middle n is sure lies more closed = record {
    some = omega arith;
    within = omega arith;
    spelled = behind (class.With kinds.TableInit) (middle + 1) (init_table_op n) (omega arith) (row_behind (Some (class.With kinds.TableInit)) (slice_index bytes (i + 1)) 0x0C refl is) (omega arith) (inr (inr refl)) sure
        (subst (λ (y : List ℕ). IsOp p (at.InitElement fresh) y (init_table_op n)) (sym (range_split bytes (i + 2) middle (middle + 1) (omega arith) (omega arith)))
        (number_then p (unsigned_push 32) at.InitElement (λ v. at.Table (tables.Init v) 4) (λ r c. refl) fresh (slice_range bytes (i + 2) middle) (slice_range bytes middle (middle + 1)) n (init_table_op n) lies.spelled
        (table_ends p bytes middle (middle + 1) (tables.Init n) (init_table_op n) 4 more refl refl closed)));
    opens = refl;
  }

-- the bytes of a float
more_32 : (p : Profile) (bytes : List ℕ) (i j k left low : ℕ) (o : Op) → i < length bytes → i < k → i + 1 ≡ j
    → IsOp p (at.Float32 left (pushed_32 low (slice_index bytes i))) (slice_range bytes j k) o → IsOp p (at.Float32 (suc left) low) (slice_range bytes i k) o
more_32 p bytes i j k left low o within less next rest =
    subst (λ (y : List ℕ). IsOp p (at.Float32 (suc left) low) y o) (sym (range_first bytes i k within less))
    (subst (λ n. IsOp p (at.Float32 left (pushed_32 low (slice_index bytes i))) (slice_range bytes n k) o) (sym next) rest)

last_32 : (p : Profile) (bytes : List ℕ) (i k low : ℕ) → i < length bytes → i + 1 ≡ k → IsOp p (at.Float32 0 low) (slice_range bytes i k) (float_32_op (pushed_32 low (slice_index bytes i)))
last_32 p bytes i k low within next =
    subst (λ (y : List ℕ). IsOp p (at.Float32 0 low) y (float_32_op (pushed_32 low (slice_index bytes i)))) (sym (ap (slice_range bytes i) (sym next) ∙ one_range bytes i within)) (refl, refl)

more_64 : (p : Profile) (bytes : List ℕ) (i j k left low : ℕ) (o : Op) → i < length bytes → i < k → i + 1 ≡ j
    → IsOp p (at.Float64 left (pushed_64 low (slice_index bytes i))) (slice_range bytes j k) o → IsOp p (at.Float64 (suc left) low) (slice_range bytes i k) o
more_64 p bytes i j k left low o within less next rest =
    subst (λ (y : List ℕ). IsOp p (at.Float64 (suc left) low) y o) (sym (range_first bytes i k within less))
    (subst (λ n. IsOp p (at.Float64 left (pushed_64 low (slice_index bytes i))) (slice_range bytes n k) o) (sym next) rest)

last_64 : (p : Profile) (bytes : List ℕ) (i k low : ℕ) → i < length bytes → i + 1 ≡ k → IsOp p (at.Float64 0 low) (slice_range bytes i k) (float_64_op (pushed_64 low (slice_index bytes i)))
last_64 p bytes i k low within next =
    subst (λ (y : List ℕ). IsOp p (at.Float64 0 low) y (float_64_op (pushed_64 low (slice_index bytes i)))) (sym (ap (slice_range bytes i) (sym next) ∙ one_range bytes i within)) (refl, refl)

-- a float whose bits so far are these after each of its bytes
pub under_float_32 : (p : Profile) (bytes : List ℕ) (i depth one two three bits : ℕ) → i + 4 < length bytes → class_row p (slice_index bytes i) ≡ class.With kinds.F32Const
    → one ≡ pushed_32 0 (slice_index bytes (i + 1)) → two ≡ pushed_32 one (slice_index bytes (i + 2)) → three ≡ pushed_32 two (slice_index bytes (i + 3)) → bits ≡ pushed_32 three (slice_index bytes (i + 4))
    → OpUnder p bytes i (i + 5) depth depth (float_32_op bits)
under_float_32 p bytes i depth one two three bits within is a b c d =
    let o : Op = float_32_op bits in
    let last : IsOp p (at.Float32 0 three) (slice_range bytes (i + 4) (i + 5)) o = subst (λ n. IsOp p (at.Float32 0 three) (slice_range bytes (i + 4) (i + 5)) (float_32_op n)) (sym d) (last_32 p bytes (i + 4) (i + 5) three (omega arith) (omega arith)) in
    let third : IsOp p (at.Float32 1 two) (slice_range bytes (i + 3) (i + 5)) o = more_32 p bytes (i + 3) (i + 4) (i + 5) 0 two o (omega arith) (omega arith) (omega arith) (subst (λ n. IsOp p (at.Float32 0 n) (slice_range bytes (i + 4) (i + 5)) o) c last) in
    let second : IsOp p (at.Float32 2 one) (slice_range bytes (i + 2) (i + 5)) o = more_32 p bytes (i + 2) (i + 3) (i + 5) 1 one o (omega arith) (omega arith) (omega arith) (subst (λ n. IsOp p (at.Float32 1 n) (slice_range bytes (i + 3) (i + 5)) o) b third) in
    let first : IsOp p (at.Float32 3 0) (slice_range bytes (i + 1) (i + 5)) o = more_32 p bytes (i + 1) (i + 2) (i + 5) 2 0 o (omega arith) (omega arith) (omega arith) (subst (λ n. IsOp p (at.Float32 2 n) (slice_range bytes (i + 2) (i + 5)) o) a second) in
    record {
      some = omega arith;
      within = omega arith;
      spelled = first_under p bytes i (i + 5) (at.Float32 3 0) o (omega arith) (omega arith) (ap class_step is) first;
      opens = refl;
    }

pub under_float_64 : (p : Profile) (bytes : List ℕ) (i depth one two three four five six seven bits : ℕ) → i + 8 < length bytes → class_row p (slice_index bytes i) ≡ class.With kinds.F64Const
    → one ≡ pushed_64 0 (slice_index bytes (i + 1)) → two ≡ pushed_64 one (slice_index bytes (i + 2)) → three ≡ pushed_64 two (slice_index bytes (i + 3)) → four ≡ pushed_64 three (slice_index bytes (i + 4))
    → five ≡ pushed_64 four (slice_index bytes (i + 5)) → six ≡ pushed_64 five (slice_index bytes (i + 6)) → seven ≡ pushed_64 six (slice_index bytes (i + 7)) → bits ≡ pushed_64 seven (slice_index bytes (i + 8))
    → OpUnder p bytes i (i + 9) depth depth (float_64_op bits)
under_float_64 p bytes i depth one two three four five six seven bits within is a b c d e f g h =
    let o : Op = float_64_op bits in
    let last : IsOp p (at.Float64 0 seven) (slice_range bytes (i + 8) (i + 9)) o = subst (λ n. IsOp p (at.Float64 0 seven) (slice_range bytes (i + 8) (i + 9)) (float_64_op n)) (sym h) (last_64 p bytes (i + 8) (i + 9) seven (omega arith) (omega arith)) in
    let at_seven : IsOp p (at.Float64 1 six) (slice_range bytes (i + 7) (i + 9)) o = more_64 p bytes (i + 7) (i + 8) (i + 9) 0 six o (omega arith) (omega arith) (omega arith) (subst (λ n. IsOp p (at.Float64 0 n) (slice_range bytes (i + 8) (i + 9)) o) g last) in
    let at_six : IsOp p (at.Float64 2 five) (slice_range bytes (i + 6) (i + 9)) o = more_64 p bytes (i + 6) (i + 7) (i + 9) 1 five o (omega arith) (omega arith) (omega arith) (subst (λ n. IsOp p (at.Float64 1 n) (slice_range bytes (i + 7) (i + 9)) o) f at_seven) in
    let at_five : IsOp p (at.Float64 3 four) (slice_range bytes (i + 5) (i + 9)) o = more_64 p bytes (i + 5) (i + 6) (i + 9) 2 four o (omega arith) (omega arith) (omega arith) (subst (λ n. IsOp p (at.Float64 2 n) (slice_range bytes (i + 6) (i + 9)) o) e at_six) in
    let at_four : IsOp p (at.Float64 4 three) (slice_range bytes (i + 4) (i + 9)) o = more_64 p bytes (i + 4) (i + 5) (i + 9) 3 three o (omega arith) (omega arith) (omega arith) (subst (λ n. IsOp p (at.Float64 3 n) (slice_range bytes (i + 5) (i + 9)) o) d at_five) in
    let at_three : IsOp p (at.Float64 5 two) (slice_range bytes (i + 3) (i + 9)) o = more_64 p bytes (i + 3) (i + 4) (i + 9) 4 two o (omega arith) (omega arith) (omega arith) (subst (λ n. IsOp p (at.Float64 4 n) (slice_range bytes (i + 4) (i + 9)) o) c at_four) in
    let at_two : IsOp p (at.Float64 6 one) (slice_range bytes (i + 2) (i + 9)) o = more_64 p bytes (i + 2) (i + 3) (i + 9) 5 one o (omega arith) (omega arith) (omega arith) (subst (λ n. IsOp p (at.Float64 5 n) (slice_range bytes (i + 3) (i + 9)) o) b at_three) in
    let at_one : IsOp p (at.Float64 7 0) (slice_range bytes (i + 1) (i + 9)) o = more_64 p bytes (i + 1) (i + 2) (i + 9) 6 0 o (omega arith) (omega arith) (omega arith) (subst (λ n. IsOp p (at.Float64 6 n) (slice_range bytes (i + 2) (i + 9)) o) a at_two) in
    record {
      some = omega arith;
      within = omega arith;
      spelled = first_under p bytes i (i + 9) (at.Float64 7 0) o (omega arith) (omega arith) (ap class_step is) at_one;
      opens = refl;
    }

pub whole_block : (bytes : List ℕ) (i depth inside : ℕ) (x : BlockOp) (t : Option ValType) → i + 1 < length bytes → Begins bytes i (at.BlockType x) → ((p : Profile) → block_step p x (slice_index bytes (i + 1)) ≡ Done (block_op x t))
    → after_op depth (block_op x t) ≡ at_next_op inside → WholeOp bytes i (i + 2) depth inside (block_op x t)
whole_block bytes i depth inside x t within first type opens = record {
  some = omega arith;
  within = omega arith;
  spelled = first_then bytes i (i + 2) (at.BlockType x) (block_op x t) (omega arith) (omega arith) first
      (λ p. subst (λ (y : List ℕ). IsOp p (at.BlockType x) y (block_op x t)) (sym (second_range bytes i within))
      (subst (λ y. OpGoes y (λ r. IsOp p r [] (block_op x t)) [] (block_op x t)) (sym (type p)) (refl, refl)));
  opens = opens;
}

one_deeper : (depth : ℕ) → depth < 2 ^ 32 - 1 → deeper depth ≡ depth + 1
one_deeper depth less =
    let e : nat_lt depth (2 ^ 32 - 1) ≡ true = lt-ltb depth (2 ^ 32 - 1) less in
    ap (λ y. cond y (suc depth) depth) e ∙ (omega arith)

block_opens : (x : BlockOp) (t : Option ValType) (depth : ℕ) → depth < 2 ^ 32 - 1 → after_op depth (block_op x t) ≡ at_next_op (depth + 1)
block_opens openings.Block t depth less = ap at_next_op (one_deeper depth less)
block_opens openings.Loop t depth less = ap at_next_op (one_deeper depth less)
block_opens openings.If t depth less = ap at_next_op (one_deeper depth less)

-- a block of a type that this byte names
pub whole_typed : (bytes : List ℕ) (i depth c : ℕ) (x : BlockOp) (t : Option ValType) → i + 1 < length bytes → depth < 2 ^ 32 - 1 → Begins bytes i (at.BlockType x)
    → slice_index bytes (i + 1) ≡ c → ((p : Profile) → block_step p x c ≡ Done (block_op x t)) → WholeOp bytes i (i + 2) depth (depth + 1) (block_op x t)
whole_typed bytes i depth c x t within less first same type =
    whole_block bytes i depth (depth + 1) x t within first (λ p. ap (block_step p x) same ∙ type p) (block_opens x t depth less)

-- what was read whole and given
pub gave_took : {H : Type 0} (after : H → Item → Result H Why) (p : Profile) (h g : H) (bytes : List ℕ) (start depth room : ℕ) (x : Option Read) (r : Took)
    → IfSome x (λ y. OpUnder p bytes start y.next depth y.depth y.op) → GaveAs after h room x r g → TookAs after p h bytes start depth room r g
gave_took after p h g bytes start depth room (Some y) (took.Next n d) whole gave =
    (y.op, subst (λ m. OpUnder p bytes start m depth d y.op) gave.0 (subst (λ e. OpUnder p bytes start y.next depth e y.op) gave.1 whole), gave.2, gave.3)
gave_took after p h g bytes start depth room (Some y) (took.Refused n w) whole gave =
    (y.op, y.depth, subst (λ m. OpUnder p bytes start m depth y.depth y.op) gave.0 whole, gave.1, gave.2)
gave_took after p h g bytes start depth room (Some y) took.Left whole gave = gave
gave_took after p h g bytes start depth room Nothing took.Left whole gave = gave
gave_took after p h g bytes start depth room Nothing (took.Next n d) whole gave = absurd gave
gave_took after p h g bytes start depth room Nothing (took.Refused n w) whole gave = absurd gave

pub gave_whole : {H : Type 0} (after : H → Item → Result H Why) (p : Profile) (h g : H) (bytes : List ℕ) (start depth room : ℕ) (x : Option Read) (r : Took)
    → IfSome x (λ y. WholeOp bytes start y.next depth y.depth y.op) → GaveAs after h room x r g → TookAs after p h bytes start depth room r g
gave_whole after p h g bytes start depth room (Some y) r whole gave = gave_took after p h g bytes start depth room (Some y) r (under_whole p bytes start y.next depth y.depth y.op whole) gave
gave_whole after p h g bytes start depth room Nothing r whole gave = gave_took after p h g bytes start depth room Nothing r tt gave

ends_open : (depth : ℕ) → 0 < depth → after_op depth op.End ≡ at_next_op (depth - 1)
ends_open zero less = absurd (omega arith)
ends_open (suc n) less = ap at_next_op (omega arith)

pub under_end : (p : Profile) (bytes : List ℕ) (i depth : ℕ) → i < length bytes → class_row p (slice_index bytes i) ≡ class.Plain op.End → 0 < depth
    → OpUnder p bytes i (i + 1) depth (depth - 1) op.End
under_end p bytes i depth within is less = under_alone p bytes i depth (depth - 1) op.End within is (ends_open depth less)
