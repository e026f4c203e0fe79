use Rattle.std.proofs.Common.{◌+◌, arith}
use Rattle.wm_tokens.specs.inner.PlainSpans.{here}
use Rattle.wm_tokens.proofs.PlainSpans.{At, at_start, at_eight, at_end}
use Rattle.wm_tokens.proofs.plain_spans.after_span.Goals as goal

pub loop-i-init : goal.loop-i-init
loop-i-init c = record { within = omega arith; at = at_start c.args.text.now; «end» = omega arith; passes = here }

pub loop-i-preserved-then-hand-eq-NOTHING : goal.loop-i-preserved-then-hand-eq-NOTHING
loop-i-preserved-then-hand-eq-NOTHING c =
    let at : At c.args.text.now (c.loop-i.i + 8) c.after-hand-in-loop-i-7.result =
    at_eight c.args.text.now c.loop-i.i _ _ _ _ _ _ _ _ _ (omega arith)
    c.after-hand.ensures c.after-hand-in-loop-i.ensures c.after-hand-in-loop-i-2.ensures c.after-hand-in-loop-i-3.ensures
    c.after-hand-in-loop-i-4.ensures c.after-hand-in-loop-i-5.ensures c.after-hand-in-loop-i-6.ensures c.after-hand-in-loop-i-7.ensures c.loop-i.invariant.at in
    record { within = omega arith; at = at; «end» = omega arith; passes = at_end c.args.text.now (c.loop-i.i + 8) c.after-hand-in-loop-i-7.result c.if-hand-eq-NOTHING.true at }

pub loop-i-preserved : goal.loop-i-preserved
loop-i-preserved c =
    let at : At c.args.text.now (c.loop-i.i + 8) c.after-hand-in-loop-i-7.result =
    at_eight c.args.text.now c.loop-i.i _ _ _ _ _ _ _ _ _ (omega arith)
    c.after-hand.ensures c.after-hand-in-loop-i.ensures c.after-hand-in-loop-i-2.ensures c.after-hand-in-loop-i-3.ensures
    c.after-hand-in-loop-i-4.ensures c.after-hand-in-loop-i-5.ensures c.after-hand-in-loop-i-6.ensures c.after-hand-in-loop-i-7.ensures c.loop-i.invariant.at in
    record { within = omega arith; at = at; «end» = c.loop-i.invariant.«end»; passes = c.loop-i.invariant.passes }
