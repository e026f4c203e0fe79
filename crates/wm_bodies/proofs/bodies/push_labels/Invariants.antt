use Rattle.std.proofs.Common.{◌≡◌, Some, take}
use Rattle.wm_syntax.specs.inner.Building.{place_after}
use Rattle.wm_bodies.proofs.BuiltBodies.{label_ops}
use Rattle.wm_bodies.proofs.bodies.push_labels.Given as goal

abbrev pub invariant-loop-l : goal.invariant-loop-l
invariant-loop-l l = place_after l.fn.builder (label_ops (take l.l-index l.labels)) ≡ Some l.builder
