use Rattle.std.proofs.Common.{arith}
use Rattle.wm_c.proofs.convert.built.Goals as goal

pub returns-clause-unbuilt : goal.returns-clause-unbuilt
returns-clause-unbuilt c = (
  omega arith,
  (λ n m t. c.in-Err.ensures.refused n t.0 m t.1 t.2),
  c.in-Err.ensures.at,
  (c.in-Err.ensures.utf8, c.in-Err.ensures.utf8_at, c.in-Err.ensures.fault, c.in-Err.ensures.end),
)
