use Rattle.std.proofs.Common.{◌≡◌, ◌++◌, ◌<◌, length}
use Rattle.std.specs.Prelude.{◌^◌}
use Rattle.wm_tokens.specs.Written.{types_of}
use Rattle.wm_bodies.specs.inner.Named.{named_list}
use Rattle.wm_read.proofs.fields.functions.local_types.Given as goal

abbrev pub invariant-loop-rest : goal.invariant-loop-rest
invariant-loop-rest l = record {
  types : l.types ++ types_of (named_list l.rest) ≡ types_of (named_list l.locals);
  few : length l.types < 2 ^ 32;
}

abbrev pub decreases-loop-rest : goal.decreases-loop-rest
decreases-loop-rest l = length l.rest
