-- The possible states of the reader of an op: something may still come in each. Also, where it gives the name Float.
use Rattle.std.proofs.Common.{◌≡◌, IsTrue, ℕ, zero, suc, Some, sym, Result, Ok, Err, ap, ◌+◌, ◌-◌, ◌*◌, ◌<◌, ◌≤◌, ◌^◌, inl, inr, List, [], ◌∷◌, ℤ, pos, refl, subst, arith, nat_eq, nat_lt, nat_le, pow_pos}
use Rattle.std.specs.Prelude.{None as Nothing}
use Rattle.std.proofs.lemmas.Bool.{cond_both, eqb-true, ltb-true}
use Rattle.wm_syntax.specs.declared.profile.Profile.{Profile}
use Rattle.wm_syntax.specs.Profiles.{has, has_prefix, type_feature}
use Rattle.wm_syntax.specs.declared.types.ValType.{ValType}
use Rattle.wm_syntax.specs.declared.types.ValType.TheVariants.{I32, I64, F32, F64}
use Rattle.wm_syntax.specs.declared.why.Why.{Why}
use Rattle.wm_syntax.specs.declared.why.Why.TheVariants as why
use Rattle.wm_syntax.specs.declared.instructions.Op.{Op}
use Rattle.wm_syntax.specs.declared.instructions.Op.TheVariants as op
use Rattle.wm_syntax.specs.declared.instructions.Simple.TheVariants as simple
use Rattle.wm_machine.proofs.TableIndex.{one_zero}
use Rattle.wm_syntax.specs.declared.instructions.op_class.OpClass.{OpClass}
use Rattle.wm_syntax.specs.declared.instructions.op_class.OpClass.TheVariants.{Plain, With, Float, None}
use Rattle.wm_syntax.specs.declared.instructions.op_class.Immediates.{Immediates}
use Rattle.wm_syntax.specs.declared.instructions.op_class.Immediates.TheVariants as k
use Rattle.wm_syntax.specs.declared.numbers.Step.{Step}
use Rattle.wm_syntax.specs.declared.numbers.Step.TheVariants as step
use Rattle.wm_syntax.specs.inner.Numbers.{Partial, SignedRest}
use Rattle.wm_syntax.specs.exact.Reading.{fresh, last_signed, unsigned_push, signed_push}
use Rattle.wm_syntax.specs.exact.ByteTable.{class_under}
use Rattle.wm_syntax.proofs.Room.{room_more}
use Rattle.wm_syntax.proofs.FirstBytes.{behind_no_float, float_under, found_under, some_behind}
use Rattle.wm_syntax.specs.OpClasses.{IsClassOfOp, class_of}
use Rattle.wm_machine.specs.declared.step.reading.Reading.{Reading}
use Rattle.wm_machine.specs.declared.step.reading.Reading.TheVariants.{More, Done, Bad}
use Rattle.wm_syntax.specs.declared.instructions.op_class.BlockOp.{BlockOp}
use Rattle.wm_syntax.specs.declared.instructions.op_class.MemoryOp.TheVariants as memory
use Rattle.wm_machine.specs.declared.step.ops.InOp.{InOp}
use Rattle.wm_machine.specs.declared.step.ops.InOp.TheVariants as at
use Rattle.wm_machine.specs.exact.OpSteps.{call_op, init_op, init_table_op, copy_table_op, table_feature, after_table, const_32_op, const_64_op, float_32_op, float_64_op, pushed_32, pushed_64, on_answer, immediates, class_step, prefix_step, begin_step, padded, code_step, more_padding, padding_step, block_step, first_zero_step, closing_step, long_step, table_step, op_push}
use Rattle.wm_syntax.specs.exact.OpShapes.{block_op, index_op, memory_op}
use Rattle.wm_machine.specs.exact.ValueSteps.{read_type, type_under, value_type_of}
use Rattle.wm_machine.proofs.Numbers.{Left}
use Rattle.wm_machine.proofs.FloatBytes.{float_comes}
use Rattle.wm_machine.proofs.OpRest.{Coded, at_offset, coded_from, op_rest}
use Rattle.wm_machine.proofs.ValueBytes.{type_given}
use Rattle.wm_machine.specs.Decoding.{IsFloatByte}
use Rattle.wm_machine.specs.declared.step.ops.TableOp.{TableOp}
use Rattle.wm_machine.specs.declared.step.ops.TableOp.TheVariants as table
use Rattle.wm_machine.proofs.OpRest.{table_op, after_comes}

-- the number so far can still be ended, and is as small as its bytes say
abbrev pub HasRoom : ℕ → Partial → Type 0
HasRoom bits r = (7 * r.count < bits) × (r.low < 2 ^ (7 * r.count))

pub fresh_room : (bits : ℕ) → 0 < bits → HasRoom bits fresh
fresh_room bits some = (omega arith, omega arith)

-- the same of an answer
abbrev pub RoomAfter : {T : Type 0} → ℕ → Step T × Partial → Type 0
RoomAfter bits (step.More, r) = HasRoom bits r
RoomAfter bits (step.Done v, r) = Unit {0}
RoomAfter bits (step.Bad, r) = Unit {0}

more_room : (bits : ℕ) (r : Partial) (c : ℕ) → HasRoom bits r → c < 2 ^ 8 → 7 * r.count + 7 < bits → HasRoom bits (record { low = r.low + (c - 128) * 2 ^ (7 * r.count); count = r.count + 1 })
more_room bits r c h byte few = (omega (arith, few), room_more r.low (c - 128) r.count (2 ^ (7 * r.count)) refl h.1 (omega (arith, byte)))

pub unsigned_room : (bits : ℕ) (r : Partial) (c : ℕ) → HasRoom bits r → c < 2 ^ 8 → RoomAfter bits (unsigned_push bits r c)
unfolding unsigned_push
unsigned_room bits r c h byte =
    let P : Step ℕ × Partial → Type 0 = RoomAfter bits in
    cond_both (nat_lt (7 * r.count) bits) _ _ P
    (λ _. cond_both (nat_lt c (2 ^ 7)) _ _ P
    (λ _. cond_both (nat_lt c (2 ^ (bits - 7 * r.count))) _ _ P (λ _. tt) (λ _. tt))
    (λ _. cond_both (nat_lt (7 * r.count + 7) bits) _ _ P (λ a. more_room bits r c h byte (ltb-true (7 * r.count + 7) bits a)) (λ _. tt)))
    (λ _. tt)

pub signed_room : (bits : ℕ) (r : Partial) (c : ℕ) → HasRoom bits r → c < 2 ^ 8 → RoomAfter bits (signed_push bits r c)
unfolding signed_push
signed_room bits r c h byte =
    let P : Step ℤ × Partial → Type 0 = RoomAfter bits in
    cond_both (nat_lt (7 * r.count) bits) _ _ P
    (λ _. cond_both (nat_lt c (2 ^ 6)) _ _ P
    (λ _. cond_both (nat_lt c (2 ^ (bits - 7 * r.count - 1))) _ _ P (λ _. tt) (λ _. tt))
    (λ _. cond_both (nat_lt c (2 ^ 7)) _ _ P
    (λ _. cond_both (nat_le (2 ^ 7) (c + 2 ^ (bits - 7 * r.count - 1))) _ _ P (λ _. tt) (λ _. tt))
    (λ _. cond_both (nat_lt (7 * r.count + 7) bits) _ _ P (λ a. more_room bits r c h byte (ltb-true (7 * r.count + 7) bits a)) (λ _. tt))))
    (λ _. tt)

-- the states in which something may still come
abbrev pub SoundOp : Profile → InOp → Type 0
SoundOp p at.Code = IsTrue (has_prefix p)
SoundOp p (at.Padding n left) = IsClassOfOp (class_under p (0x100 + n)) × (left ≤ 3)
SoundOp p (at.Index i r) = HasRoom 32 r
SoundOp p (at.CallType r) = HasRoom 32 r
SoundOp p (at.InitElement r) = HasRoom 32 r
SoundOp p (at.InitSegment r) = HasRoom 32 r
SoundOp p (at.Const32 r) = HasRoom 32 r
SoundOp p (at.Const64 r) = HasRoom 64 r
SoundOp p (at.Align a r) = HasRoom 32 r
SoundOp p (at.Offset a n r) = HasRoom 32 r
SoundOp p _ = Unit {0}

abbrev pub FineOp : Profile → Reading InOp Op → Type 0
FineOp p (More r) = SoundOp p r
FineOp p (Done o) = Unit {0}
FineOp p (Bad w) = Unit {0}

pub fresh_32 : HasRoom 32 fresh
fresh_32 = fresh_room 32 (omega arith)

immediates_sound : (p : Profile) (kind : Immediates) → SoundOp p (immediates kind)
immediates_sound p (k.Block o) = tt
immediates_sound p (k.Memory memory.MemorySize) = tt
immediates_sound p (k.Memory memory.MemoryGrow) = tt
immediates_sound p (k.Memory memory.MemoryCopy) = tt
immediates_sound p (k.Memory memory.MemoryFill) = tt
immediates_sound p k.TableCopy = tt
immediates_sound p k.I64Const = fresh_room 64 (omega arith)
immediates_sound p k.F32Const = tt
immediates_sound p k.F64Const = tt
immediates_sound p _ = fresh_32

class_fine : (p : Profile) (class : OpClass) → FineOp p (class_step class)
class_fine p (Plain o) = tt
class_fine p (With kind) = immediates_sound p kind
class_fine p Float = tt
class_fine p None = tt

prefix_fine : (p : Profile) → FineOp p (prefix_step p)
prefix_fine p = cond_both (has_prefix p) _ _ (λ (a : Reading InOp Op). FineOp p a) (λ y. y) (λ _. tt)

begin_fine : (p : Profile) (c : ℕ) → FineOp p (begin_step p c)
begin_fine p c = cond_both (nat_eq c 0xFC) _ _ (λ (a : Reading InOp Op). FineOp p a) (λ _. prefix_fine p) (λ _. class_fine p (class_under p c))

padded_fine : (p : Profile) (n : ℕ) (class : OpClass) → class_under p (0x100 + n) ≡ class → FineOp p (padded (class_step class) n)
padded_fine p n (Plain o) e = (subst IsClassOfOp (sym e) tt, omega arith)
padded_fine p n (With kind) e = (subst IsClassOfOp (sym e) tt, omega arith)
padded_fine p n Float e = tt
padded_fine p n None e = tt

code_fine : (p : Profile) (c : ℕ) → FineOp p (code_step p c)
code_fine p c = cond_both (nat_lt c 0x80) _ _ (λ (a : Reading InOp Op). FineOp p a) (λ _. class_fine p (class_under p (0x100 + c))) (λ _. padded_fine p (c - 0x80) (class_under p (0x100 + (c - 0x80))) refl)

more_fine : (p : Profile) (n left c : ℕ) → IsClassOfOp (class_under p (0x100 + n)) × (left ≤ 3) → FineOp p (more_padding n left c)
more_fine p n zero c h = tt
more_fine p n (suc left) c h = cond_both (nat_eq c 0x80) _ _ (λ (a : Reading InOp Op). FineOp p a) (λ _. (h.0, omega (arith, h.1))) (λ _. tt)

padding_fine : (p : Profile) (n left c : ℕ) → IsClassOfOp (class_under p (0x100 + n)) × (left ≤ 3) → FineOp p (padding_step p n left c)
padding_fine p n left c h = cond_both (nat_eq c 0x00) _ _ (λ (a : Reading InOp Op). FineOp p a) (λ _. class_fine p (class_under p (0x100 + n))) (λ _. more_fine p n left c h)

first_zero_fine : (p : Profile) (c : ℕ) → FineOp p (first_zero_step c)
first_zero_fine p c = cond_both (nat_eq c 0x00) _ _ (λ (a : Reading InOp Op). FineOp p a) (λ _. tt) (λ _. tt)

type_fine : (p : Profile) (q : Result ValType Why) (f : ValType → Reading InOp Op) → ((t : ValType) → FineOp p (f t)) → FineOp p (read_type q f)
type_fine p (Ok t) f h = h t
type_fine p (Err w) f h = tt

block_fine : (p : Profile) (i : BlockOp) (c : ℕ) → FineOp p (block_step p i c)
block_fine p i c = cond_both (nat_eq c 0x40) _ _ (λ (a : Reading InOp Op). FineOp p a) (λ _. tt) (λ _. type_fine p (value_type_of p c) (λ t. Done (block_op i (Some t))) (λ t. tt))

closing_fine : (p : Profile) (o : Op) (c : ℕ) → FineOp p (closing_step o c)
closing_fine p o c = cond_both (nat_eq c 0x00) _ _ (λ (a : Reading InOp Op). FineOp p a) (λ _. tt) (λ _. tt)

long_fine : (p : Profile) (t : TableOp) (left c : ℕ) → FineOp p (long_step t left c)
long_fine p t zero c = tt
long_fine p t (suc left) c = cond_both (nat_eq c 0x80) _ _ (λ (a : Reading InOp Op). FineOp p a) (λ _. tt) (λ _. tt)

after_fine : (p : Profile) (t : TableOp) → FineOp p (after_table t)
after_fine p (table.Call n) = tt
after_fine p (table.Init n) = tt
after_fine p table.CopyTo = tt
after_fine p table.CopyFrom = tt

table_fine : (p : Profile) (t : TableOp) (left c : ℕ) → FineOp p (table_step p t left c)
table_fine p t left c = cond_both (nat_eq c 0x00) _ _ (λ (a : Reading InOp Op). FineOp p a) (λ _. after_fine p t) (λ _. cond_both (has p (table_feature t)) _ _ (λ (a : Reading InOp Op). FineOp p a) (λ _. long_fine p t left c) (λ _. tt))

answer_fine : {T : Type 0} (p : Profile) (bits : ℕ) (q : Step T × Partial) (more : Partial → InOp) (done : T → Reading InOp Op) → RoomAfter bits q → ((r : Partial) → HasRoom bits r → SoundOp p (more r)) → ((v : T) → FineOp p (done v)) → FineOp p (on_answer q (λ r. More (more r)) done (Bad why.BadNumber))
answer_fine p bits (step.More, r) more done h f g = f r h
answer_fine p bits (step.Done v, r) more done h f g = g v
answer_fine p bits (step.Bad, r) more done h f g = tt

pub op_fine : (p : Profile) (r : InOp) (c : ℕ) → c < 2 ^ 8 → SoundOp p r → FineOp p (op_push p r c)
op_fine p at.First c byte h = begin_fine p c
op_fine p at.Code c byte h = code_fine p c
op_fine p (at.Padding n left) c byte h = padding_fine p n left c h
op_fine p (at.BlockType i) c byte h = block_fine p i c
op_fine p (at.Index i r) c byte h = answer_fine p 32 (unsigned_push 32 r c) (λ t. at.Index i t) (λ n. Done (index_op i n)) (unsigned_room 32 r c h byte) (λ t g. g) (λ n. tt)
op_fine p (at.CallType r) c byte h = answer_fine p 32 (unsigned_push 32 r c) (λ t. at.CallType t) (λ n. More (at.Table (table.Call n) 4)) (unsigned_room 32 r c h byte) (λ t g. g) (λ n. tt)
op_fine p (at.Table t left) c byte h = table_fine p t left c
op_fine p (at.InitElement r) c byte h = answer_fine p 32 (unsigned_push 32 r c) (λ t. at.InitElement t) (λ n. More (at.Table (table.Init n) 4)) (unsigned_room 32 r c h byte) (λ t g. g) (λ n. tt)
op_fine p (at.InitSegment r) c byte h = answer_fine p 32 (unsigned_push 32 r c) (λ t. at.InitSegment t) (λ n. More (at.InitMemory n)) (unsigned_room 32 r c h byte) (λ t g. g) (λ n. tt)
op_fine p (at.InitMemory n) c byte h = closing_fine p (init_op n) c
op_fine p at.FirstZero c byte h = first_zero_fine p c
op_fine p (at.Memory m) c byte h = closing_fine p (memory_op m) c
op_fine p (at.Const32 r) c byte h = answer_fine p 32 (signed_push 32 r c) (λ t. at.Const32 t) (λ z. Done (const_32_op z)) (signed_room 32 r c h byte) (λ t g. g) (λ z. tt)
op_fine p (at.Const64 r) c byte h = answer_fine p 64 (signed_push 64 r c) (λ t. at.Const64 t) (λ z. Done (const_64_op z)) (signed_room 64 r c h byte) (λ t g. g) (λ z. tt)
op_fine p (at.Float32 zero low) c byte h = tt
op_fine p (at.Float32 (suc left) low) c byte h = tt
op_fine p (at.Float64 zero low) c byte h = tt
op_fine p (at.Float64 (suc left) low) c byte h = tt
op_fine p (at.Align a r) c byte h = answer_fine p 32 (unsigned_push 32 r c) (λ t. at.Align a t) (λ n. More (at.Offset a n fresh)) (unsigned_room 32 r c h byte) (λ t g. g) (λ n. fresh_32)
op_fine p (at.Offset a n r) c byte h = answer_fine p 32 (unsigned_push 32 r c) (λ t. at.Offset a n t) (λ m. Done (at_offset a n m)) (unsigned_room 32 r c h byte) (λ t g. g) (λ m. tt)

-- the last byte of a number
pub last_byte : (r : Partial) → 7 * r.count < 32 → Left r r.low (0 ∷ [])
last_byte r h = (h, 0, omega arith, inl (omega arith, pow_pos (32 - 7 * r.count), refl, refl))

pub last_signed_byte : (bits : ℕ) (r : Partial) → 7 * r.count < bits → SignedRest bits r (last_signed r (pos 0)) (0 ∷ [])
last_signed_byte bits r h = (h, pos 0, refl, inl (omega arith, pow_pos (bits - 7 * r.count - 1), refl, refl))

fresh_last : Left fresh 0 (0 ∷ [])
fresh_last = last_byte fresh (omega arith)

-- a state outside of the number behind the prefix
abbrev PastCode : InOp → Type 0
PastCode at.Code = ⊥
PastCode (at.Padding n left) = ⊥
PastCode _ = Unit {0}

immediates_past : (kind : Immediates) → PastCode (immediates kind)
immediates_past (k.Memory memory.MemoryCopy) = tt
immediates_past (k.Memory _) = tt
immediates_past _ = tt

some_rest : (p : Profile) (r : InOp) → SoundOp p r → PastCode r → (o : Op) × (b : List ℕ) × op_rest p r o b
some_rest p at.First h k = (op.End, 0x0B ∷ [], (tt, tt, refl))
some_rest p at.Code h k = absurd k
some_rest p (at.Padding n left) h k = absurd k
some_rest p (at.BlockType i) h k = (block_op i Nothing, 0x40 ∷ [], (Nothing, refl, (tt, refl)))
some_rest p (at.Index i r) h k = (index_op i r.low, 0 ∷ [], (r.low, refl, last_byte r h.0))
some_rest p (at.CallType r) h k = (call_op r.low, 0 ∷ 0 ∷ [], (r.low, 0 ∷ [], 0 ∷ [], refl, last_byte r h.0, (refl, (0 ∷ [], [], refl, inl refl, refl))))
some_rest p (at.Table t left) h k = let g = after_comes p t in (table_op t, 0 ∷ g.0, (refl, (0 ∷ [], g.0, refl, inl refl, g.1)))
some_rest p (at.InitElement r) h k = (init_table_op r.low, 0 ∷ 0 ∷ [], (r.low, 0 ∷ [], 0 ∷ [], refl, last_byte r h.0, (refl, (0 ∷ [], [], refl, inl refl, refl))))
some_rest p (at.InitSegment r) h k = (init_op r.low, 0 ∷ 0 ∷ [], (r.low, 0 ∷ [], 0 ∷ [], refl, last_byte r h.0, (refl, refl)))
some_rest p (at.InitMemory n) h k = (init_op n, 0 ∷ [], (refl, refl))
some_rest p at.FirstZero h k = (memory_op memory.MemoryCopy, 0 ∷ 0 ∷ [], (refl, (0 ∷ [], 0 ∷ [], refl, refl, refl)))
some_rest p (at.Memory m) h k = (memory_op m, 0 ∷ [], (refl, refl))
some_rest p (at.Const32 r) h k = (const_32_op (last_signed r (pos 0)), 0 ∷ [], (last_signed r (pos 0), refl, last_signed_byte 32 r h.0))
some_rest p (at.Const64 r) h k = (const_64_op (last_signed r (pos 0)), 0 ∷ [], (last_signed r (pos 0), refl, last_signed_byte 64 r h.0))
some_rest p (at.Float32 left low) h k = let g = float_comes (2 ^ 24) left low in (float_32_op g.0, g.1, (g.0, refl, g.2))
some_rest p (at.Float64 left low) h k = let g = float_comes (2 ^ 56) left low in (float_64_op g.0, g.1, (g.0, refl, g.2))
some_rest p (at.Align a r) h k = (at_offset a r.low 0, 0 ∷ 0 ∷ [], (r.low, 0 ∷ [], 0 ∷ [], refl, last_byte r h.0, (0, refl, fresh_last)))
some_rest p (at.Offset a n r) h k = (at_offset a n r.low, 0 ∷ [], (r.low, refl, last_byte r h.0))

-- behind the code of an op
class_comes : (p : Profile) (x : ℕ) (class : OpClass) → class_under p x ≡ class → IsClassOfOp class → (o : Op) × (b : List ℕ) × Coded p x o b
class_comes p x (Plain v) e h = (v, [], coded_from p x (Plain v) e v [] (refl, refl))
class_comes p x (With kind) e h = let r = some_rest p (immediates kind) (immediates_sound p kind) (immediates_past kind) in (r.0, r.1, coded_from p x (With kind) e r.0 r.1 r.2)
class_comes p x Float e h = absurd h
class_comes p x None e h = absurd h

is_class : (o : Op) → IsClassOfOp (class_of o)
is_class (op.Simple (simple.Br l)) = tt
is_class (op.Simple _) = tt
is_class _ = tt

pub some_op : (p : Profile) (r : InOp) → SoundOp p r → (o : Op) × (b : List ℕ) × op_rest p r o b
some_op p at.Code h =
    let f = some_behind p h in
    let class : IsClassOfOp (class_under p (0x100 + f.1)) = subst IsClassOfOp (sym (found_under p (0x100 + f.1) f.0 f.2 f.3)) (is_class f.0) in
    let g = class_comes p (0x100 + f.1) (class_under p (0x100 + f.1)) refl class in
    (g.0, f.1 ∷ g.1, (f.1, (f.1 ∷ [], g.1, refl, inl (omega (arith, f.4), omega (arith, f.4), refl, refl), g.2)))
some_op p (at.Padding n left) h =
    let g = class_comes p (0x100 + n) (class_under p (0x100 + n)) refl h.0 in
    (g.0, 0 ∷ g.1, (0 ∷ [], g.1, refl, one_zero left (0 ∷ []) refl, g.2))
some_op p at.First h = some_rest p at.First h tt
some_op p r h = some_rest p r h tt

-- The names by which an op or a member fails, whatever the byte. Float is none: it has bytes of its own.
abbrev pub IsOther : Why → Type 0
IsOther why.BadNumber = Unit {0}
IsOther why.BadByte = Unit {0}
IsOther why.BadOpcode = Unit {0}
IsOther w = ⊥

same_bad : (v w : Why) → ◌≡◌ {A = Reading InOp Op} (Bad v) (Bad w) → v ≡ w
same_bad v w e = cc

same_err : (v w : Why) → ◌≡◌ {A = Result ValType Why} (Err v) (Err w) → v ≡ w
same_err v w e = cc

-- An op is refused by one of those two names only where that is so of the byte.
module _ (name : Why) (Fault : ℕ → Type 0) (other : (w : Why) → IsOther w → w ≡ name → ⊥) (float : (c : ℕ) → why.Float ≡ name → IsFloatByte c → Fault c) where
  abbrev Faults : ℕ → Reading InOp Op → Type 0
  Faults c a = a ≡ Bad name → Fault c

  no_fault : (c : ℕ) (w : Why) → IsOther w → Faults c (Bad w)
  no_fault c w i e = absurd (other w i (same_bad w name e))

  more_faults : (c : ℕ) (r : InOp) → Faults c (More r)
  more_faults c r e = cc

  done_faults : (c : ℕ) (o : Op) → Faults c (Done o)
  done_faults c o e = cc

  class_faults : (p : Profile) (c : ℕ) (class : OpClass) → class_under p c ≡ class → Faults c (class_step class)
  class_faults p c (Plain o) e = done_faults c o
  class_faults p c (With kind) e = more_faults c (immediates kind)
  class_faults p c Float e = λ f. float c (same_bad why.Float name f) (inr (inr (float_under p c e)))
  class_faults p c None e = no_fault c why.BadOpcode tt

  begin_faults : (p : Profile) (c : ℕ) → Faults c (begin_step p c)
  begin_faults p c = cond_both (nat_eq c 0xFC) _ _ (λ (a : Reading InOp Op). Faults c a)
      (λ _. cond_both (has_prefix p) _ _ (λ (a : Reading InOp Op). Faults c a) (λ _. more_faults c at.Code) (λ _. no_fault c why.BadOpcode tt))
      (λ _. class_faults p c (class_under p c) refl)

  -- none behind the prefix is a float's
  behind_faults : (p : Profile) (n c : ℕ) (class : OpClass) → class_under p (0x100 + n) ≡ class → Faults c (class_step class)
  behind_faults p n c (Plain o) e = done_faults c o
  behind_faults p n c (With kind) e = more_faults c (immediates kind)
  behind_faults p n c Float e = absurd (behind_no_float p n e)
  behind_faults p n c None e = no_fault c why.BadOpcode tt

  padded_faults : (p : Profile) (n c : ℕ) (class : OpClass) → class_under p (0x100 + n) ≡ class → Faults c (padded (class_step class) n)
  padded_faults p n c (Plain o) e = more_faults c (at.Padding n 3)
  padded_faults p n c (With kind) e = more_faults c (at.Padding n 3)
  padded_faults p n c Float e = absurd (behind_no_float p n e)
  padded_faults p n c None e = no_fault c why.BadOpcode tt

  code_faults : (p : Profile) (c : ℕ) → Faults c (code_step p c)
  code_faults p c = cond_both (nat_lt c 0x80) _ _ (λ (a : Reading InOp Op). Faults c a)
      (λ _. behind_faults p c c (class_under p (0x100 + c)) refl) (λ _. padded_faults p (c - 0x80) c (class_under p (0x100 + (c - 0x80))) refl)

  padding_more : (n left c : ℕ) → Faults c (more_padding n left c)
  padding_more n zero c = no_fault c why.BadOpcode tt
  padding_more n (suc left) c = cond_both (nat_eq c 0x80) _ _ (λ (a : Reading InOp Op). Faults c a) (λ _. more_faults c (at.Padding n left)) (λ _. no_fault c why.BadOpcode tt)

  padding_faults : (p : Profile) (n left c : ℕ) → Faults c (padding_step p n left c)
  padding_faults p n left c = cond_both (nat_eq c 0x00) _ _ (λ (a : Reading InOp Op). Faults c a) (λ _. behind_faults p n c (class_under p (0x100 + n)) refl) (λ _. padding_more n left c)

  first_zero_faults : (c : ℕ) → Faults c (first_zero_step c)
  first_zero_faults c = cond_both (nat_eq c 0x00) _ _ (λ (a : Reading InOp Op). Faults c a) (λ _. more_faults c (at.Memory memory.MemoryCopy)) (λ _. no_fault c why.BadByte tt)

  -- a type of floating-point numbers, where the profile may have it
  under_faults : (p : Profile) (t : ValType) (c : ℕ) → IsFloatByte c → type_under p t ≡ Err name → Fault c
  under_faults p t c i =
      cond_both (has p (type_feature t)) _ _ (λ (q : Result ValType Why). q ≡ Err name → Fault c) (λ _ e. type_given t name e) (λ _ e. float c (same_err why.Float name e) i)

  type_faults : (p : Profile) (c : ℕ) → value_type_of p c ≡ Err name → Fault c
  type_faults p c =
      let P : Result ValType Why → Type 0 = λ q. q ≡ Err name → Fault c in
      cond_both (nat_eq c 0x7F) _ _ P (λ _ e. type_given I32 name e) (λ _. cond_both (nat_eq c 0x7E) _ _ P (λ _ e. type_given I64 name e)
      (λ _. cond_both (nat_eq c 0x7D) _ _ P (λ a. under_faults p F32 c (inl (eqb-true c 0x7D a)))
      (λ _. cond_both (nat_eq c 0x7C) _ _ P (λ a. under_faults p F64 c (inr (inl (eqb-true c 0x7C a)))) (λ _ e. absurd (other why.BadByte tt (same_err why.BadByte name e))))))

  read_faults : (c : ℕ) (i : BlockOp) (q : Result ValType Why) → (q ≡ Err name → Fault c) → Faults c (read_type q (λ t. Done (block_op i (Some t))))
  read_faults c i (Ok t) h = done_faults c (block_op i (Some t))
  read_faults c i (Err w) h = λ e. h (ap Err (same_bad w name e))

  block_faults : (p : Profile) (i : BlockOp) (c : ℕ) → Faults c (block_step p i c)
  block_faults p i c = cond_both (nat_eq c 0x40) _ _ (λ (a : Reading InOp Op). Faults c a) (λ _. done_faults c (block_op i Nothing)) (λ _. read_faults c i (value_type_of p c) (type_faults p c))

  closing_faults : (o : Op) (c : ℕ) → Faults c (closing_step o c)
  closing_faults o c = cond_both (nat_eq c 0x00) _ _ (λ (a : Reading InOp Op). Faults c a) (λ _. done_faults c o) (λ _. no_fault c why.BadByte tt)

  long_faults : (t : TableOp) (left c : ℕ) → Faults c (long_step t left c)
  long_faults t zero c = no_fault c why.BadNumber tt
  long_faults t (suc left) c = cond_both (nat_eq c 0x80) _ _ (λ (a : Reading InOp Op). Faults c a) (λ _. more_faults c (at.Table t left)) (λ _. no_fault c why.BadNumber tt)

  after_faults : (t : TableOp) (c : ℕ) → Faults c (after_table t)
  after_faults (table.Call n) c = done_faults c (call_op n)
  after_faults (table.Init n) c = done_faults c (init_table_op n)
  after_faults table.CopyTo c = more_faults c (at.Table table.CopyFrom 4)
  after_faults table.CopyFrom c = done_faults c copy_table_op

  table_faults : (p : Profile) (t : TableOp) (left c : ℕ) → Faults c (table_step p t left c)
  table_faults p t left c = cond_both (nat_eq c 0x00) _ _ (λ (a : Reading InOp Op). Faults c a) (λ _. after_faults t c) (λ _. cond_both (has p (table_feature t)) _ _ (λ (a : Reading InOp Op). Faults c a) (λ _. long_faults t left c) (λ _. no_fault c why.BadByte tt))

  answer_faults : {T : Type 0} (c : ℕ) (q : Step T × Partial) (more : Partial → InOp) (done : T → Reading InOp Op) → ((v : T) → Faults c (done v)) → Faults c (on_answer q (λ r. More (more r)) done (Bad why.BadNumber))
  answer_faults c (step.More, r) more done g = more_faults c (more r)
  answer_faults c (step.Done v, r) more done g = g v
  answer_faults c (step.Bad, r) more done g = no_fault c why.BadNumber tt

  pub op_faults : (p : Profile) (r : InOp) (c : ℕ) → op_push p r c ≡ Bad name → Fault c
  op_faults p at.First c = begin_faults p c
  op_faults p at.Code c = code_faults p c
  op_faults p (at.Padding n left) c = padding_faults p n left c
  op_faults p (at.BlockType i) c = block_faults p i c
  op_faults p (at.Index i r) c = answer_faults c (unsigned_push 32 r c) (λ t. at.Index i t) (λ n. Done (index_op i n)) (λ n. done_faults c (index_op i n))
  op_faults p (at.CallType r) c = answer_faults c (unsigned_push 32 r c) (λ t. at.CallType t) (λ n. More (at.Table (table.Call n) 4)) (λ n. more_faults c (at.Table (table.Call n) 4))
  op_faults p (at.Table t left) c = table_faults p t left c
  op_faults p (at.InitElement r) c = answer_faults c (unsigned_push 32 r c) (λ t. at.InitElement t) (λ n. More (at.Table (table.Init n) 4)) (λ n. more_faults c (at.Table (table.Init n) 4))
  op_faults p (at.InitSegment r) c = answer_faults c (unsigned_push 32 r c) (λ t. at.InitSegment t) (λ n. More (at.InitMemory n)) (λ n. more_faults c (at.InitMemory n))
  op_faults p (at.InitMemory n) c = closing_faults (init_op n) c
  op_faults p at.FirstZero c = first_zero_faults c
  op_faults p (at.Memory m) c = closing_faults (memory_op m) c
  op_faults p (at.Const32 r) c = answer_faults c (signed_push 32 r c) (λ t. at.Const32 t) (λ z. Done (const_32_op z)) (λ z. done_faults c (const_32_op z))
  op_faults p (at.Const64 r) c = answer_faults c (signed_push 64 r c) (λ t. at.Const64 t) (λ z. Done (const_64_op z)) (λ z. done_faults c (const_64_op z))
  op_faults p (at.Float32 zero low) c = done_faults c (float_32_op (pushed_32 low c))
  op_faults p (at.Float32 (suc left) low) c = more_faults c (at.Float32 left (pushed_32 low c))
  op_faults p (at.Float64 zero low) c = done_faults c (float_64_op (pushed_64 low c))
  op_faults p (at.Float64 (suc left) low) c = more_faults c (at.Float64 left (pushed_64 low c))
  op_faults p (at.Align a r) c = answer_faults c (unsigned_push 32 r c) (λ t. at.Align a t) (λ n. More (at.Offset a n fresh)) (λ n. more_faults c (at.Offset a n fresh))
  op_faults p (at.Offset a n r) c = answer_faults c (unsigned_push 32 r c) (λ t. at.Offset a n t) (λ m. Done (at_offset a n m)) (λ m. done_faults c (at_offset a n m))

pub op_floats : (p : Profile) (r : InOp) (c : ℕ) → op_push p r c ≡ Bad why.Float → IsFloatByte c
op_floats = op_faults why.Float IsFloatByte (λ w i e. subst IsOther e i) (λ c e h. h)
