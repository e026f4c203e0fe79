use Rattle.std.proofs.Common.{◌-◌, length}
use Rattle.wm_shortcuts.specs.exact.Frames.{LeadsTo}
use Rattle.wm_shortcuts.proofs.frames.sections.Given as goal

abbrev pub invariant-loop-used : goal.invariant-loop-used
invariant-loop-used l = LeadsTo l.fn.profile l.bytes l.fn.machine l.used l.machine

abbrev pub decreases-loop-used : goal.decreases-loop-used
decreases-loop-used l = length l.bytes - l.used
