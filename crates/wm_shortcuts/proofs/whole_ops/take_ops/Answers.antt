use Rattle.std.proofs.Common.{arith, refl, subst}
use Rattle.wm_shortcuts.specs.exact.WholeOps.{OpsTaken}
use Rattle.wm_shortcuts.specs.exact.WholeOps.OpsTaken.{no_ops, one_more}
use Rattle.wm_shortcuts.proofs.whole_ops.take_ops.Goals as goal

pub loop-used-init : goal.loop-used-init
loop-used-init g c = record { one = λ _. refl; within = omega arith; inside = omega arith; ran = no_ops }

pub loop-used-preserved-in-Next : goal.loop-used-preserved-in-Next
loop-used-preserved-in-Next g c =
    let took = c.in-Next.ensures in
    record {
      one = λ e. absurd (omega (arith, e));
      within = took.2;
      inside = took.1.within;
      ran = one_more c.loop-used.invariant.ran took.0 c.in-Next.next c.in-Next.inside (g.S.Sink.held c.take_common.new.sink) took.1 took.2 took.3;
    }

pub loop-used-preserved-then-bytes-used : goal.loop-used-preserved-then-bytes-used
loop-used-preserved-then-bytes-used g c =
    let took = c.in-Next-take_prefixed.ensures in
    let l = c.loop-used in
    record {
      one = λ e. absurd (omega (arith, e));
      within = took.2;
      inside = took.1.within;
      ran = one_more (subst (λ h. OpsTaken g.S.Sink.after c.args.profile c.args.bytes.now c.args.room 0 c.args.start (g.S.Sink.held c.args.sink.now) l.used l.depth h) c.in-Left.ensures l.invariant.ran)
          took.0 c.in-Next-take_prefixed.next c.in-Next-take_prefixed.inside (g.S.Sink.held c.take_prefixed.new.sink) took.1 took.2 took.3;
    }

pub loop-used-preserved : goal.loop-used-preserved
loop-used-preserved g c =
    let took = c.in-Next-take_uncommon.ensures in
    let l = c.loop-used in
    record {
      one = λ e. absurd (omega (arith, e));
      within = took.2;
      inside = took.1.within;
      ran = one_more (subst (λ h. OpsTaken g.S.Sink.after c.args.profile c.args.bytes.now c.args.room 0 c.args.start (g.S.Sink.held c.args.sink.now) l.used l.depth h) c.in-Left.ensures l.invariant.ran)
          took.0 c.in-Next-take_uncommon.next c.in-Next-take_uncommon.inside (g.S.Sink.held c.take_uncommon.new.sink) took.1 took.2 took.3;
    }
