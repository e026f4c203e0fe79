use Rattle.std.proofs.Common.{◌≡◌, take}
use Rattle.wm_tokens.specs.Written.{types_of}
use Rattle.wm_bodies.specs.inner.Named.{named_list}
use Rattle.wm_bodies.proofs.named_uses.types_of.Given as goal

abbrev pub invariant-loop-run : goal.invariant-loop-run
invariant-loop-run l = l.types.items ≡ types_of (named_list (take l.run-index l.params))
