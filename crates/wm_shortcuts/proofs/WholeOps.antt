-- Whole ops, in a constant expression or a body, are passed to the sink as those ops.
use Rattle.std.proofs.Common.{◌≡◌, ℕ, zero, suc, ◌+◌, ◌-◌, ◌<◌, ◌≤◌, List, [], Option, Some, None, Result, Err, length, min, take, drop, slice_index, slice_range, refl, ◌∙◌, ap, subst, arith}
use Rattle.wm_syntax.specs.declared.profile.Profile.{Profile}
use Rattle.wm_syntax.specs.declared.why.Why.{Why}
use Rattle.wm_syntax.specs.declared.instructions.Op.{Op}
use Rattle.wm_machine.specs.declared.machine.Counts.{Counts}
use Rattle.wm_machine.specs.declared.machine.Machine.{Machine}
use Rattle.wm_machine.specs.declared.machine.Machine.TheVariants as machine
use Rattle.wm_machine.specs.declared.machine.Event.TheVariants as event
use Rattle.wm_machine.specs.declared.machine.Plain.{Plain}
use Rattle.wm_machine.specs.declared.machine.Plain.TheVariants as plain
use Rattle.wm_machine.specs.declared.machine.member.SectionKind.{SectionKind}
use Rattle.wm_machine.specs.declared.machine.member.InMember.{InMember}
use Rattle.wm_machine.specs.declared.machine.member.InMember.TheVariants as at
use Rattle.wm_machine.specs.declared.machine.member.InEntry.TheVariants as entry
use Rattle.wm_machine.specs.declared.step.expressions.InExpression.TheVariants as expression
use Rattle.wm_machine.specs.declared.step.reading.Reading.{Reading}
use Rattle.wm_machine.specs.declared.step.reading.Reading.TheVariants.{More, Done, Bad}
use Rattle.wm_machine.specs.declared.step.ops.InOp.{InOp}
use Rattle.wm_machine.specs.declared.step.ops.InOp.TheVariants.{First}
use Rattle.wm_shortcuts.specs.declared.ways.Shortcut.{Shortcut}
use Rattle.wm_shortcuts.specs.declared.in_body.InBody.{InBody}
use Rattle.wm_machine.specs.Items.{Item}
use Rattle.wm_shortcuts.specs.exact.Completed.{Completed, Completes, with_last}
use Rattle.wm_shortcuts.specs.exact.Completed.Completed.{part}
use Rattle.wm_shortcuts.specs.exact.Completed.Completes.{no_byte}
use Rattle.wm_machine.specs.exact.OpSteps.{op_push}
use Rattle.wm_machine.specs.exact.ExpressionSteps.{at_next_op, after_reading}
use Rattle.wm_machine.specs.exact.MemberSteps.{member_in_entry, entry_after_op, op_event}
use Rattle.wm_shortcuts.specs.exact.ShortSteps.{StepsTo}
use Rattle.wm_shortcuts.specs.exact.Shortcuts.{Advances}
use Rattle.wm_shortcuts.specs.exact.WholeOps.{IsOp, OpGoes, OpUnder, OpsTaken, RanTo, before_op}
use Rattle.wm_shortcuts.specs.exact.WholeOps.OpsTaken.{no_ops, one_more}
use Rattle.wm_shortcuts.proofs.Advances.{advances_out}
use Rattle.wm_shortcuts.proofs.Completed.{Gave, alone, byte_on, gave_last, ok}
use Rattle.wm_shortcuts.proofs.Completed.Gave.{also, nothing}
use Rattle.wm_shortcuts.proofs.NumberSteps.{framed}
use Rattle.wm_shortcuts.proofs.OpLists.{range_first, range_length}

-- an op where so many bytes of what it lies in come after the next: a byte of it goes on so, and its last ends so
module _ {p : Profile} {bytes : List ℕ} {start : ℕ} {m : Machine} {of : SectionKind} {f : Counts} {left stop : ℕ} (with : ℕ → InOp → InMember) (next : ℕ → InMember) (given : Plain) (o : Op) (inside : stop ≤ length bytes)
    (goes : (room : ℕ) (q r : InOp) (c : ℕ) → op_push p q c ≡ More r → StepsTo p of left (with (suc room) q) c (record { left = left; at = with room r; part = None }))
    (ends : (room : ℕ) (q : InOp) (c : ℕ) → op_push p q c ≡ Done o → StepsTo p of left (with (suc room) q) c (record { left = left; at = next room; part = Some given })) where
  pub op_completes : (n : Machine) (xs : List Completed) (last : Option Completed) (size i more room : ℕ) (q : InOp) → i + size ≡ stop → size ≤ more → size ≤ room → IsOp p q (slice_range bytes i stop) o → Completes p bytes start m xs last i (machine.Section of f more left (with room q))
      → n ≡ machine.Section of f (more - size) left (next (room - size)) → Completes p bytes start m (with_last last xs) (Some (part given)) stop n
  op_completes n xs last zero i more room q e less fewer is steps en =
      let none : stop - i ≡ 0 = omega arith in
      absurd (subst (λ y. IsOp p q (take y (drop i bytes)) o) none is)
  op_completes n xs last (suc k) i more room q e less fewer is steps en =
      go (λ s b a. op_completes n (with_last last xs) None k (i + 1) (more - 1) (room - 1) s (omega arith) (omega arith) (omega arith) b a (en ∙ shifted))
      (op_push p q (slice_index bytes i)) refl (subst (λ (y : List ℕ). IsOp p q y o) (range_first bytes i stop (omega arith) (omega arith)) is)
    where
      one : suc (room - 1) ≡ room
      one = omega arith

      shifted : machine.Section of f (more - suc k) left (next (room - suc k)) ≡ machine.Section of f (more - 1 - k) left (next (room - 1 - k))
      shifted =
          let a : more - suc k ≡ more - 1 - k = omega arith in
          let b : room - suc k ≡ room - 1 - k = omega arith in
          ap (λ y. machine.Section of f y left (next (room - suc k))) a ∙ ap (λ y. machine.Section of f (more - 1 - k) left (next y)) b

      go : ((s : InOp) → IsOp p s (slice_range bytes (i + 1) stop) o → Completes p bytes start m (with_last last xs) None (i + 1) (machine.Section of f (more - 1) left (with (room - 1) s)) → Completes p bytes start m (with_last last xs) (Some (part given)) stop n)
          → (x : Reading InOp Op) → op_push p q (slice_index bytes i) ≡ x → OpGoes x (λ s. IsOp p s (slice_range bytes (i + 1) stop) o) (slice_range bytes (i + 1) stop) o → Completes p bytes start m (with_last last xs) (Some (part given)) stop n
      go again (More s) is rest =
          let next : StepsTo p of left (with room q) (slice_index bytes i) (record { left = left; at = with (room - 1) s; part = None }) =
          subst (λ y. StepsTo p of left (with y q) (slice_index bytes i) (record { left = left; at = with (room - 1) s; part = None })) one (goes (room - 1) q s (slice_index bytes i) is) in
          again s rest (byte_on (record { left = left; at = with (room - 1) s; part = None }) steps (omega arith) (omega arith) next refl)
      go again (Done w) is rest =
          let same : w ≡ o = rest.0 in
          let none : length (slice_range bytes (i + 1) stop) ≡ 0 = ap length rest.1 in
          let size : length (slice_range bytes (i + 1) stop) ≡ stop - (i + 1) = range_length bytes (i + 1) stop inside in
          let alone : k ≡ 0 = omega arith in
          let end : i + 1 ≡ stop = omega arith in
          let a : more - 1 - k ≡ more - 1 = omega arith in
          let b : room - 1 - k ≡ room - 1 = omega arith in
          let last_byte : StepsTo p of left (with room q) (slice_index bytes i) (record { left = left; at = next (room - 1); part = Some given }) =
          subst (λ y. StepsTo p of left (with y q) (slice_index bytes i) (record { left = left; at = next (room - 1); part = Some given })) one (ends (room - 1) q (slice_index bytes i) (is ∙ ap Done same)) in
          subst (λ y. Completes p bytes start m (with_last last xs) (Some (part given)) y n) end
          (byte_on (record { left = left; at = next (room - 1); part = Some given }) steps (omega arith) (omega arith) last_byte
          (en ∙ (shifted ∙ (ap (λ y. machine.Section of f y left (next (room - 1 - k))) a ∙ ap (λ y. machine.Section of f (more - 1) left (next y)) b))))
      go again (Bad w) is rest = absurd rest

-- ops of a body, in the bytes of its entry and its section
module _ {H : Type 0} (after : H → Item → Result H Why) (p : Profile) (bytes : List ℕ) (b : InBody) (h : H) where
  abbrev at_op : ℕ → ℕ → Machine
  at_op n d = before_op (record b { more = b.more - n; rest = b.rest - n; depth = d })

  abbrev Ops : List Completed → Option Completed → ℕ → ℕ → Type 0
  Ops xs last n d = Completes p bytes 0 (before_op b) xs last n (at_op n d)

  one_op : {xs : List Completed} {last : Option Completed} {n m d e : ℕ} {o : Op} → OpUnder p bytes n m d e o → m ≤ min b.more b.rest → Ops xs last n d → Ops (with_last last xs) (Some (part (plain.BodyOp o))) m e
  one_op {xs = xs} {last = last} {n = n} {m = m} {d = d} {e = e} {o = o} whole room steps =
      let some : n < m = whole.some in
      let x : b.more - m ≡ b.more - n - (m - n) = omega arith in
      let y : b.rest - m ≡ b.rest - n - (m - n) = omega arith in
      op_completes (λ k q. at.Entry k (entry.Body (expression.Op d q))) (λ k. at.Entry k (entry.Body (at_next_op e))) (plain.BodyOp o) o whole.within
      (λ k q r c is f more. ap (λ y. framed b.of f more b.left (member_in_entry (suc k) (entry_after_op (after_reading d y).0), op_event plain.BodyOp (after_reading d y).1)) is)
      (λ k q c is f more. ap (λ y. framed b.of f more b.left (member_in_entry (suc k) (entry_after_op (after_reading d y).0), op_event plain.BodyOp (after_reading d y).1)) is
      ∙ ap (λ y. framed b.of f more b.left (member_in_entry (suc k) (entry_after_op y), event.Complete (plain.BodyOp o))) whole.opens)
      (at_op m e) xs last (m - n) n (b.more - n) (b.rest - n) First (omega arith) (omega arith) (omega arith) whole.spelled steps
      (ap (λ z. machine.Section b.of b.counts z b.left (at.Entry (b.rest - m) (entry.Body (at_next_op e)))) x ∙ ap (λ z. machine.Section b.of b.counts (b.more - n - (m - n)) b.left (at.Entry z (entry.Body (at_next_op e)))) y)

  -- those that a sink took
  ops_complete : (n d : ℕ) (g : H) → OpsTaken after p bytes (min b.more b.rest) 0 b.depth h n d g → (xs : List Completed) × (last : Option Completed) × Ops xs last n d × Gave after (with_last last xs) h g
  ops_complete n d g no_ops = ([], None, subst (λ y. Completes p bytes 0 (before_op b) [] None 0 y) started no_byte, nothing)
    where
      started : before_op b ≡ at_op 0 b.depth
      started =
          let x : b.more ≡ b.more - 0 = omega arith in
          let y : b.rest ≡ b.rest - 0 = omega arith in
          ap (λ z. before_op (record b { more = z })) x ∙ ap (λ z. before_op (record b { more = b.more - 0; rest = z })) y
  ops_complete n d g (one_more {n = i} {d = j} {g = q} taken o m e f whole within given) =
      let r = ops_complete i j q taken in
      (with_last r.1 r.0, Some (part (plain.BodyOp o)), one_op whole within r.2, also r.3 given)

  pub advances_ops : (may : H → Item → Type 0) (g : H) (s : Shortcut) (d : ℕ) → RanTo after p h bytes (min b.more b.rest) b.depth s.used d s.refused g → s.used ≤ length bytes → 0 < s.used → (length bytes ≤ 1 → s.used ≡ 0)
      → Advances after may p bytes (before_op b) h s (at_op s.used d) g
  advances_ops may g s d ran within some one = by_answer s.refused refl ran
    where
      none : 0 ≤ length bytes
      none = omega arith

      by_answer : (r : Option Why) → s.refused ≡ r → RanTo after p h bytes (min b.more b.rest) b.depth s.used d r g → Advances after may p bytes (before_op b) h s (at_op s.used d) g
      by_answer None er ran =
          let r = ops_complete s.used d g ran in
          let t = gave_last after r.1 r.0 h g r.3 in
          alone p bytes 0 (before_op b) after none may r.0 r.1 s.used (at_op s.used d) r.2 some refl (λ k far. omega arith) h t.0 g t.1 s (omega arith) ok er t.2 (λ short. tt)
      by_answer (Some w) er (n, i, e, q, o, taken, whole, room, refused) =
          let r = ops_complete n i q taken in
          advances_out after may p bytes (before_op b) (at_op s.used e) (at_op s.used d) h g g s w er some
          (alone p bytes 0 (before_op b) after none {U = Unit {0}} may (with_last r.1 r.0) (Some (part (plain.BodyOp o))) s.used (at_op s.used e) (one_op whole room r.2) some refl (λ k far. omega arith) h q g r.3 s (omega arith) (Err w) er refused
          (λ short. absurd (let none : s.used ≡ 0 = one short in omega arith)))

-- where no byte was used nothing was taken
none_taken : {H : Type 0} (after : H → Item → Result H Why) (p : Profile) (bytes : List ℕ) (room start n d : ℕ) (h g : H) → OpsTaken after p bytes room 0 start h n d g → n ≡ 0 → h ≡ g
none_taken after p bytes room start n d h g no_ops z = refl
none_taken after p bytes room start n d h g (one_more taken o m e f2 whole within given) z = let less = whole.some in absurd (omega arith)

pub none_ran : {H : Type 0} (after : H → Item → Result H Why) (p : Profile) (bytes : List ℕ) (room start used d : ℕ) (r : Option Why) (h g : H) → RanTo after p h bytes room start used d r g → used ≡ 0 → h ≡ g
none_ran after p bytes room start used d None h g ran z = none_taken after p bytes room start used d h g ran z
none_ran after p bytes room start used d (Some w) h g (n, i, e, q, o, taken, whole, within, refused) z = let less = whole.some in absurd (omega arith)
