use Rattle.wm_syntax.proofs.ValueRanges.{all_bytes}
use Rattle.wm_syntax.proofs.modules.ranges.bytes.Goals as goal

pub returns : goal.returns
returns c = all_bytes _ c.read_all.ensures
