use Rattle.std.proofs.Common.{length}
use Rattle.wm_bodies.proofs.named.earlier_fault.Given as goal

abbrev pub decreases-loop-atom : goal.decreases-loop-atom
decreases-loop-atom l = length l.rest
