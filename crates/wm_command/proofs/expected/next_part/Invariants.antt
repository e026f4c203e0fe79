use Rattle.std.proofs.Common.{length}
use Rattle.wm_command.proofs.expected.next_part.Given as goal

abbrev pub decreases-loop-rest : goal.decreases-loop-rest
decreases-loop-rest l = length l.rest
