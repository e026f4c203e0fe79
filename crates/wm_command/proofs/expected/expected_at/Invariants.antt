use Rattle.std.proofs.Common.{length}
use Rattle.wm_command.proofs.expected.expected_at.Given as goal

abbrev pub decreases-loop-token : goal.decreases-loop-token
decreases-loop-token l = length l.rest
