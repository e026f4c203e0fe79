use Rattle.std.proofs.Common.{◌≤◌, ◌-◌, length, drop}
use Rattle.wm_tokens.specs.inner.PlainSpans.{Passes}
use Rattle.wm_tokens.proofs.PlainSpans.{At}
use Rattle.wm_tokens.proofs.plain_spans.after_span.Given as goal

abbrev pub invariant-loop-i : goal.invariant-loop-i
invariant-loop-i l = record { within : l.i ≤ length l.text; at : At l.text l.i l.hand; «end» : l.«end» ≤ length l.text; passes : Passes l.text (drop l.«end» l.text) }

abbrev pub decreases-loop-i : goal.decreases-loop-i
decreases-loop-i l = length l.text - l.i
