-- The last run's end is the number of types.
use Rattle.std.proofs.Common.{None, length, ap, arith}
use Rattle.wm_syntax.specs.inner.Runs.{last_end}
use Rattle.wm_syntax.proofs.RunLists.{types_length}
use Rattle.wm_syntax.proofs.modules.locals.Locals.len.Goals as goal

pub returns : goal.returns
returns c =
    omega (arith, c.last_end_of.ensures, ap (last_end 0) c.deref.ensures.value, types_length c.self.inside.runs.items None 0 c.self.invariant, ap length c.self.view_is)
