use Rattle.std.proofs.Common.{◌≤◌, ◌-◌}
use Rattle.wm_syntax.proofs.NameSearch.{Below, Above}
use Rattle.wm_syntax.proofs.instructions.op_names.op_named.Given as goal

abbrev pub invariant-loop-low : goal.invariant-loop-low
invariant-loop-low l = record {
  order : l.low ≤ l.high;
  size : l.high ≤ 192;
  below : Below l.word l.low;
  above : Above l.word l.high;
}

abbrev pub decreases-loop-low : goal.decreases-loop-low
decreases-loop-low l = l.high - l.low
