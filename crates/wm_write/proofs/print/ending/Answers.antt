use Rattle.std.proofs.Common.{◌∙◌, sym}
use Rattle.wm_syntax.specs.Values.{value_of}
use Rattle.wm_write.proofs.PrintedModules.{ends_empty, ends_line}
use Rattle.wm_write.proofs.print.ending.Goals as goal

pub returns-then-is_empty : goal.returns-then-is_empty
returns-then-is_empty c = ends_empty (value_of c.args.m.now) (sym c.is_empty.ensures ∙ c.if-is_empty.true)

pub returns-else-is_empty : goal.returns-else-is_empty
returns-else-is_empty c = ends_line (value_of c.args.m.now) (sym c.is_empty.ensures ∙ c.if-is_empty.false)
