-- Exact answers about numbers and ops that lie whole in a list of bytes, as the slow path reads them.
use Rattle.std.specs.Prelude.{◌≡◌, ◌≢◌, ◌≤◌, ◌<◌, ◌+◌, ℕ, ◌^◌, nat_lt, if◌then◌else◌, ℤ, pos, ◌-ℤ◌, List, [], ◌∷◌}
use Rattle.std.specs.Prelude.{length, slice_range, Result, Ok, Err, Option, Some, None as Nothing, slice_get, slice_index}
use Rattle.wm_syntax.specs.declared.why.Why.{Why}
use Rattle.wm_syntax.specs.declared.why.Why.TheVariants as why
use Rattle.wm_syntax.specs.declared.numbers.Step.{Step}
use Rattle.wm_syntax.specs.declared.numbers.Step.TheVariants as step
use Rattle.wm_syntax.specs.inner.Numbers.{Partial}
use Rattle.wm_syntax.specs.exact.Reading.{fresh}
use Rattle.wm_syntax.specs.declared.profile.Profile.{Profile}
use Rattle.wm_syntax.specs.declared.instructions.Op.{Op}
use Rattle.wm_machine.specs.declared.machine.Counts.{Counts}
use Rattle.wm_machine.specs.declared.machine.Machine.{Machine}
use Rattle.wm_machine.specs.declared.machine.Machine.TheVariants as machine
use Rattle.wm_machine.specs.declared.machine.member.SectionKind.{SectionKind}
use Rattle.wm_machine.specs.declared.machine.member.InMember.TheVariants as at
use Rattle.wm_machine.specs.declared.machine.member.InEntry.TheVariants as entry
use Rattle.wm_machine.specs.declared.step.expressions.InExpression.TheVariants as expression
use Rattle.wm_shortcuts.specs.declared.in_body.InBody.{InBody}
use Rattle.wm_shortcuts.specs.declared.whole_ops.OpStart.{OpStart}
use Rattle.wm_shortcuts.specs.declared.whole_ops.Read.{Read}
use Rattle.wm_shortcuts.specs.declared.whole_ops.Took.{Took}
use Rattle.wm_shortcuts.specs.declared.whole_ops.Took.TheVariants as took
use Rattle.wm_machine.specs.declared.step.reading.Reading.{Reading}
use Rattle.wm_machine.specs.declared.step.reading.Reading.TheVariants.{More, Done, Bad}
use Rattle.wm_machine.specs.declared.step.ops.InOp.{InOp}
use Rattle.wm_machine.specs.declared.step.ops.InOp.TheVariants.{First}
use Rattle.wm_machine.specs.Items.{Item, body_op}
use Rattle.wm_syntax.specs.declared.instructions.Numeric.{Numeric}
use Rattle.wm_syntax.specs.declared.instructions.Simple.TheVariants as s
use Rattle.wm_syntax.specs.declared.instructions.Op.TheVariants as op
use Rattle.wm_syntax.specs.declared.instructions.op_class.OpClass.{OpClass}
use Rattle.wm_syntax.specs.declared.instructions.op_class.OpClass.TheVariants.{Plain, With}
use Rattle.wm_syntax.specs.declared.instructions.op_class.Immediates.TheVariants.{Access, Index}
use Rattle.wm_syntax.specs.declared.profile.Feature.TheVariants.{Base, BulkMemory}
use Rattle.wm_syntax.specs.exact.ByteTable.{class_feature, classes, row_in}
use Rattle.wm_syntax.specs.declared.instructions.op_class.Indexed.{Indexed}
use Rattle.wm_syntax.specs.declared.instructions.op_class.LoadOrStore.{LoadOrStore}
use Rattle.wm_syntax.specs.exact.OpShapes.{index_op}
use Rattle.wm_machine.specs.exact.OpSteps.{class_step, op_push}
use Rattle.wm_machine.specs.exact.ExpressionSteps.{at_next_op, after_op}

-- after a byte of a number: the number v is complete and no byte follows, or the rest continues it
abbrev pub NumberGoes : {T : Type 0} → Step T × Partial → (Partial → Type 0) → List ℕ → T → Type 0
NumberGoes (step.More, s) rest b v = rest s
NumberGoes (step.Done w, s) rest b v = (w ≡ v) × (b ≡ [])
NumberGoes (step.Bad, s) rest b v = ⊥

-- exactly these bytes complete the number v, for a reader with this step
abbrev pub IsNumber : {T : Type 0} → (Partial → ℕ → Step T × Partial) → Partial → List ℕ → T → Type 0
IsNumber push r [] v = ⊥
IsNumber push r (c ∷ b) v = NumberGoes (push r c) (λ s. IsNumber push s b v) b v

abbrev pub OpGoes : Reading InOp Op → (InOp → Type 0) → List ℕ → Op → Type 0
OpGoes (More q) rest b o = rest q
OpGoes (Done v) rest b o = (v ≡ o) × (b ≡ [])
OpGoes (Bad w) rest b o = ⊥

-- exactly these bytes complete the op o
abbrev pub IsOp : Profile → InOp → List ℕ → Op → Type 0
IsOp p q [] o = ⊥
IsOp p q (c ∷ b) o = OpGoes (op_push p q c) (λ r. IsOp p r b o) b o

-- the number v lies in the list from `start` up to `next`
pub record LiesAt {T : Type 0} (push : Partial → ℕ → Step T × Partial) (bytes : List ℕ) (start next : ℕ)
    (v : T) : Type 0 where
  pub some : start < next
  pub within : next ≤ length bytes
  pub spelled : IsNumber push fresh (slice_range bytes start next) v

-- the number that one byte below 2^7 spells
abbrev pub one_signed : ℕ → ℤ
one_signed c = if nat_lt c (2 ^ 6) then pos c else pos c -ℤ pos (2 ^ 7)

-- the class of ops whose code is this byte under a profile, as its row of the table says
abbrev pub class_row : Profile → ℕ → OpClass
class_row p byte = row_in p (slice_get classes byte)

-- the row of the byte has this numeric op, whichever profiles have it
abbrev pub HasNumeric : ℕ → Numeric → Type 0
HasNumeric byte o = slice_get classes byte ≡ Some (Plain (op.Simple (s.Numeric o)))

-- The byte behind FC begins this op on a segment, which bulk memory has. An index follows it.
abbrev pub IsDrop : ℕ → Indexed → Type 0
IsDrop byte i = (slice_get classes (0x100 + byte) ≡ Some (With (Index i))) × (byte < 0x80)
    × (class_feature (With (Index i)) ≡ BulkMemory) × ((depth n : ℕ) → after_op depth (index_op i n) ≡ at_next_op depth)

-- the byte begins this load or store under every profile
abbrev pub HasAccess : ℕ → LoadOrStore → Type 0
HasAccess byte a = (slice_get classes byte ≡ Some (With (Access a))) × (class_feature (With (Access a)) ≡ Base)

-- the result of the reader of an op after this first byte, if it is not FC
abbrev pub first_read : Profile → ℕ → Reading InOp Op
first_read p c = class_step (class_row p c)

-- an op of every profile lies in the list from `start` up to `next`; before it `depth` blocks are open, after it
-- `inside`
pub record WholeOp (bytes : List ℕ) (start next depth inside : ℕ) (o : Op) : Type 0 where
  pub some : start < next
  pub within : next ≤ length bytes
  pub spelled : (p : Profile) → IsOp p First (slice_range bytes start next) o
  pub opens : after_op depth o ≡ at_next_op inside

-- as `WholeOp`, for an op of this profile
pub record OpUnder (p : Profile) (bytes : List ℕ) (start next depth inside : ℕ) (o : Op) : Type 0 where
  pub some : start < next
  pub within : next ≤ length bytes
  pub spelled : IsOp p First (slice_range bytes start next) o
  pub opens : after_op depth o ≡ at_next_op inside

-- what was read of the op that begins here
abbrev pub OpFrom : OpStart → Read → Type 0
OpFrom s r = OpUnder s.profile.now s.bytes.now s.at r.next s.depth r.depth r.op

-- the class of the op that begins here
abbrev pub class_at : OpStart → OpClass
class_at s = class_row s.profile.now (slice_index s.bytes.now s.at)

-- the result of passing to the sink the op that was read, if it ends within `room` bytes
abbrev pub GaveAs : {H : Type 0} → (H → Item → Result H Why) → H → ℕ → Option Read → Took → H → Type 0
GaveAs after h room (Some r) (took.Next n d) g = (r.next ≡ n) × (r.depth ≡ d) × (n ≤ room)
    × (after h (body_op r.op) ≡ Ok g)
GaveAs after h room (Some r) (took.Refused w n) g = (r.next ≡ n) × (n ≤ room)
    × (w ≢ why.Memory → after h (body_op r.op) ≡ Err w)
GaveAs after h room Nothing (took.Next n d) g = ⊥
GaveAs after h room Nothing (took.Refused w n) g = ⊥
GaveAs after h room x took.Left g = h ≡ g

-- the result for the op at `start`: the sink took it, it takes the slow path, or the sink refused it
abbrev pub TookAs : {H : Type 0} → (H → Item → Result H Why) → Profile → H → List ℕ → ℕ → ℕ → ℕ → Took → H
    → Type 0
TookAs after p h bytes start depth room (took.Next n d) g =
    (o : Op) × OpUnder p bytes start n depth d o × (n ≤ room) × (after h (body_op o) ≡ Ok g)
TookAs after p h bytes start depth room took.Left g = h ≡ g
TookAs after p h bytes start depth room (took.Refused w n) g =
    (o : Op) × (d : ℕ) × OpUnder p bytes start n depth d o × (n ≤ room)
    × (w ≢ why.Memory → after h (body_op o) ≡ Err w)

-- whole ops lie from `start` up to another index, and the sink took them
pub data OpsTaken {H : Type 0} (after : H → Item → Result H Why) (p : Profile) (bytes : List ℕ)
    (room start depth : ℕ)
    (h : H) : ℕ → ℕ → H → Type 0 where
  no_ops : OpsTaken after p bytes room start depth h start depth h
  one_more : {n d : ℕ} {g : H} → OpsTaken after p bytes room start depth h n d g → (o : Op) (m e : ℕ) (f : H)
      → OpUnder p bytes n m d e o → m ≤ room
      → after g (body_op o) ≡ Ok f → OpsTaken after p bytes room start depth h m e f

-- The result for consecutive ops: the sink took some. If it refused another, the bytes used include that op.
abbrev pub RanTo : {H : Type 0} → (H → Item → Result H Why) → Profile → H → List ℕ → ℕ → ℕ → ℕ → ℕ
    → Option Why → H → Type 0
RanTo after p h bytes room start used depth Nothing g = OpsTaken after p bytes room 0 start h used depth g
RanTo {H} after p h bytes room start used depth (Some w) g =
    (n d e : ℕ) × (f : H) × (o : Op) × OpsTaken after p bytes room 0 start h n d f
    × OpUnder p bytes n used d e o × (used ≤ room)
    × (w ≢ why.Memory → after f (body_op o) ≡ Err w)

-- the machine inside an op of a code entry
abbrev pub in_body : SectionKind → Counts → ℕ → ℕ → ℕ → ℕ → InOp → Machine
in_body of counts more left rest depth q =
    machine.Section of counts more left (at.Entry rest (entry.Body (expression.Op depth q)))

abbrev pub before_op : InBody → Machine
before_op b = in_body b.of b.counts b.more b.left b.rest b.depth First
