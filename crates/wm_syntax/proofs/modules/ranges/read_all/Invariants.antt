-- If the property holds for the rest of the values, it holds for all of them.
use Rattle.std.proofs.Common.{length}
use Rattle.std.specs.List.{AllByRecursion}
use Rattle.wm_syntax.proofs.modules.ranges.read_all.Given as goal

abbrev pub invariant-loop-value : goal.invariant-loop-value
invariant-loop-value g l = AllByRecursion g.T.Ranged.holds l.rest → AllByRecursion g.T.Ranged.holds l.values

abbrev pub decreases-loop-value : goal.decreases-loop-value
decreases-loop-value g l = length l.rest
