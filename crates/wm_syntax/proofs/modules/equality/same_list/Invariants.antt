-- The rests of both lists are equal if and only if the lists are.
use Rattle.std.proofs.Common.{◌≡◌, ◌↔◌, length}
use Rattle.wm_syntax.proofs.modules.equality.same_list.Given as goal

abbrev pub invariant-loop-x : goal.invariant-loop-x
invariant-loop-x g l = (l.left ≡ l.right) ↔ (l.a ≡ l.b)

abbrev pub decreases-loop-x : goal.decreases-loop-x
decreases-loop-x g l = length l.left
