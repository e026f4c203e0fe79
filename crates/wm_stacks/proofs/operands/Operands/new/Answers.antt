-- No kinds are no operands, whatever the widths.
use Rattle.wm_stacks.proofs.KindsAndWidths.{empty}
use Rattle.wm_stacks.proofs.operands.Operands.new.Goals as goal

pub returns : goal.returns
returns c = empty c.new-packed.result c.new-widths.result c.new-packed.ensures
