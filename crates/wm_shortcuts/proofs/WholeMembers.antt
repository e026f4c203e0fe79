-- The fast paths for members with a constant expression have the effect of the slow path.
use Rattle.std.proofs.Common.{◌≡◌, ℕ, ◌+◌, ◌-◌, ◌<◌, ◌≤◌, List, [], ◌∷◌, Option, Some, None, Ok, length, slice_index, refl, ◌∙◌, ap, arith}
use Rattle.wm_syntax.specs.declared.profile.Profile.{Profile}
use Rattle.wm_syntax.specs.declared.types.ValType.{ValType}
use Rattle.wm_syntax.specs.declared.types.GlobalType.{GlobalType}
use Rattle.wm_syntax.specs.declared.instructions.Op.{Op}
use Rattle.wm_syntax.specs.declared.instructions.Op.TheVariants as op
use Rattle.wm_machine.specs.declared.machine.Counts.{Counts}
use Rattle.wm_machine.specs.declared.machine.Machine.{Machine}
use Rattle.wm_machine.specs.declared.machine.Machine.TheVariants as machine
use Rattle.wm_machine.specs.declared.machine.Event.TheVariants as event
use Rattle.wm_machine.specs.declared.machine.Plain.TheVariants as plain
use Rattle.wm_machine.specs.declared.machine.member.SectionKind.{SectionKind}
use Rattle.wm_machine.specs.declared.machine.member.SectionKind.TheVariants as section_kind
use Rattle.wm_machine.specs.declared.machine.member.ConstantOf.{ConstantOf}
use Rattle.wm_machine.specs.declared.machine.member.ConstantOf.TheVariants as constant
use Rattle.wm_machine.specs.declared.machine.member.InMember.TheVariants as at
use Rattle.wm_machine.specs.declared.step.reading.Reading.TheVariants.{More, Done}
use Rattle.wm_machine.specs.declared.step.values.InGlobalType.TheVariants as global_type
use Rattle.wm_machine.specs.declared.step.ops.InOp.TheVariants.{First}
use Rattle.wm_machine.specs.declared.step.expressions.InExpression.TheVariants as expression
use Rattle.wm_shortcuts.specs.declared.in_section.InSection.{InSection}
use Rattle.wm_machine.specs.exact.Steps.{machine_in_member}
use Rattle.wm_machine.specs.exact.ExpressionSteps.{after_reading, at_next_op}
use Rattle.wm_machine.specs.exact.MemberSteps.{after_constant, constant_over, member_step, on_value, op_event, with_item_given}
use Rattle.wm_machine.specs.exact.ValueSteps.{read_type, value_type_of, var_step}
use Rattle.wm_shortcuts.specs.exact.ShortSteps.{StepsTo}
use Rattle.wm_shortcuts.specs.exact.Completed.{Completed, Completes, with_last}
use Rattle.wm_shortcuts.specs.exact.Completed.Completed.{part}
use Rattle.wm_shortcuts.specs.exact.Completed.Completes.{no_byte}
use Rattle.wm_shortcuts.specs.exact.WholeMembers.{before_member}
use Rattle.wm_shortcuts.specs.exact.WholeOps.{WholeOp}
use Rattle.wm_shortcuts.proofs.Completed.{byte_on, byte_over}
use Rattle.wm_shortcuts.proofs.NumberSteps.{framed}
use Rattle.wm_shortcuts.proofs.OpLists.{is_alone}
use Rattle.wm_shortcuts.proofs.WholeOps.{op_completes}

-- the end of a constant expression
pub constant_closed : (p : Profile) (kind : ConstantOf) (c : ℕ) → c ≡ 0x0B → member_step p (at.Constant kind (at_next_op 0)) c ≡ (constant_over kind, event.Complete (plain.ConstOp op.End))
constant_closed p kind c is =
    ap (λ y. member_step p (at.Constant kind (at_next_op 0)) y) is
    ∙ ap (λ y. (after_constant kind (after_reading 0 y).0, op_event plain.ConstOp (after_reading 0 y).1)) (is_alone p 0x0B op.End refl)

-- an instruction that lies whole, in a constant expression
pub constant_completes : {p : Profile} {bytes : List ℕ} {start : ℕ} {m : Machine} {xs : List Completed} {last : Option Completed} {of : SectionKind} {f : Counts} {more left : ℕ} {kind : ConstantOf} {i stop : ℕ} {o : Op} (n : Machine) → WholeOp bytes i stop 0 0 o → Completes p bytes start m xs last i (machine.Section of f more left (at.Constant kind (at_next_op 0)))
    → stop ≤ i + more → n ≡ machine.Section of f (more - (stop - i)) left (at.Constant kind (at_next_op 0))
    → Completes p bytes start m (with_last last xs) (Some (part (plain.ConstOp o))) stop n
constant_completes {p = p} {xs = xs} {last = last} {of = of} {more = more} {left = left} {kind = kind} {i = i} {stop = stop} {o = o} n whole steps room en =
    let some : i < stop = whole.some in
    op_completes (λ k q. at.Constant kind (expression.Op 0 q)) (λ k. at.Constant kind (at_next_op 0)) (plain.ConstOp o) o whole.within
    (λ k q r c is f more. ap (λ y. framed of f more left (after_constant kind (after_reading 0 y).0, op_event plain.ConstOp (after_reading 0 y).1)) is)
    (λ k q c is f more. ap (λ y. framed of f more left (after_constant kind (after_reading 0 y).0, op_event plain.ConstOp (after_reading 0 y).1)) is
    ∙ ap (λ y. framed of f more left (after_constant kind y, event.Complete (plain.ConstOp o))) whole.opens)
    n xs last (stop - i) i more (stop - i) First (omega arith) (omega arith) (omega arith) (whole.spelled p) steps en

-- a global's type
type_step : (p : Profile) (left c : ℕ) (t : ValType) → value_type_of p c ≡ Ok t → StepsTo p section_kind.Global left (at.GlobalType global_type.Type) c (record { left = left; at = at.GlobalType (global_type.Var t); part = None })
type_step p left c t is f more =
    ap (λ y. framed section_kind.Global f more left (on_value (read_type y (λ t. More (global_type.Var t))) at.GlobalType (λ x. with_item_given (at.Constant constant.Global (at_next_op 0)) (plain.Global x)) at.Failed)) is

var_given : (p : Profile) (left c : ℕ) (t : ValType) (x : GlobalType) → var_step t c ≡ Done x
    → StepsTo p section_kind.Global left (at.GlobalType (global_type.Var t)) c (record { left = left; at = at.Constant constant.Global (at_next_op 0); part = Some (plain.Global x) })
var_given p left c t x is f more =
    ap (λ y. framed section_kind.Global f more left (on_value y at.GlobalType (λ x. with_item_given (at.Constant constant.Global (at_next_op 0)) (plain.Global x)) at.Failed)) is

-- in the value of a global, after so many bytes of it
abbrev in_value : InSection → ℕ → Machine
in_value i used = machine.Section section_kind.Global i.counts (i.more - used) i.left (at.Constant constant.Global (at_next_op 0))

-- a global at the front: its type, its value, and the end of its value
module _ {p : Profile} {bytes : List ℕ} (i : InSection) (x : GlobalType) (type : value_type_of p (slice_index bytes 0) ≡ Ok x.ty) (var : var_step x.ty (slice_index bytes 1) ≡ Done x) where
  pub global_typed : 1 < length bytes → 1 < i.more → Completes p bytes 0 (before_member section_kind.Global i) [] (Some (part (plain.Global x))) 2 (in_value i 2)
  global_typed inside room =
      let place : i.more - 2 ≡ i.more - 1 - 1 = omega arith in
      byte_on (record { left = i.left; at = at.Constant constant.Global (at_next_op 0); part = Some (plain.Global x) })
      (byte_on (record { left = i.left; at = at.GlobalType (global_type.Var x.ty); part = None }) no_byte (omega arith) (omega arith) (type_step p i.left (slice_index bytes 0) x.ty type) refl)
      inside (omega arith) (var_given p i.left (slice_index bytes 1) x.ty x var) (ap (λ y. machine.Section section_kind.Global i.counts y i.left (at.Constant constant.Global (at_next_op 0))) place)

  module _ {stop : ℕ} {o : Op} (whole : WholeOp bytes 2 stop 0 0 o) (inside : stop < length bytes) (room : stop ≤ i.more) where
    pub global_valued : Completes p bytes 0 (before_member section_kind.Global i) (part (plain.Global x) ∷ []) (Some (part (plain.ConstOp o))) stop (in_value i stop)
    global_valued =
        let some : 2 < stop = whole.some in
        let place : i.more - stop ≡ i.more - 2 - (stop - 2) = omega arith in
        constant_completes (in_value i stop) whole (global_typed (omega arith) (omega arith)) (omega arith) (ap (λ y. machine.Section section_kind.Global i.counts y i.left (at.Constant constant.Global (at_next_op 0))) place)

    pub global_closed : slice_index bytes stop ≡ 0x0B
        → Completes p bytes 0 (before_member section_kind.Global i) (part (plain.ConstOp o) ∷ part (plain.Global x) ∷ []) (Some (part (plain.ConstOp op.End))) (stop + 1) (machine_in_member section_kind.Global i.counts (i.more - stop) i.left at.Over)
    global_closed byte = byte_over at.Over (Some (plain.ConstOp op.End)) global_valued inside (constant_closed p constant.Global (slice_index bytes stop) byte)
