-- No kinds are no operands, whatever the widths.
use Rattle.wm_stacks.proofs.KindsAndWidths.{empty}
use Rattle.wm_stacks.proofs.operands.Operands.clear.Goals as goal

pub returns : goal.returns
returns c = empty c.clear.new.self c.forget.new.self c.clear.ensures
