use Rattle.std.proofs.Common.{subst}
use Rattle.std.specs.List.{AllByRecursion}
use Rattle.wm_syntax.specs.inner.Ranges.{IsInRange}
use Rattle.wm_syntax.proofs.ValueRanges.{instructions_in}
use Rattle.wm_syntax.proofs.modules.ranges.BodyRanged.read.Goals as goal

pub returns : goal.returns
returns c = instructions_in c.args.self.now (subst (AllByRecursion IsInRange) c.ops.ensures c.read_all.ensures)
