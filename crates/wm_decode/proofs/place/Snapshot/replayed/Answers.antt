use Rattle.std.proofs.Common.{ap, sym, ◌∙◌, get_or}
use Rattle.wm_machine.specs.declared.machine.Event.{Event}
use Rattle.wm_machine.specs.declared.machine.Machine.{Machine}
use Rattle.wm_machine.specs.exact.Steps.{step_of}
use Rattle.wm_decode.proofs.Places.{from_more}
use Rattle.wm_decode.proofs.place.Snapshot.replayed.Goals as goal

pub loop-byte-preserved : goal.loop-byte-preserved
loop-byte-preserved c =
    let s = c.args.self.now in
    let byte = get_or c.args.piece.now c.loop-byte.byte-index 0 in
    ap (λ (q : Machine × Event). q.0) c.step.ensures
    ∙ (ap (λ m. (step_of s.profile m byte).0) c.loop-byte.invariant
    ∙ sym (from_more s.profile s.machine c.args.piece.now c.loop-byte.byte-index c.loop-byte-test.true))
