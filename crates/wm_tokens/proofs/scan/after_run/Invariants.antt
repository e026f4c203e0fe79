use Rattle.std.proofs.Common.{◌≡◌, length}
use Rattle.wm_tokens.specs.exact.Scan.{after_spaces}
use Rattle.wm_tokens.proofs.scan.after_run.Given as goal

abbrev pub invariant-loop-rest : goal.invariant-loop-rest
invariant-loop-rest l = after_spaces l.rest ≡ after_spaces l.text

abbrev pub decreases-loop-rest : goal.decreases-loop-rest
decreases-loop-rest l = length l.rest
