use Rattle.std.proofs.Common.{sym, arith}
use Rattle.std.proofs.lemmas.List.{get_or_past}
use Rattle.wm_syntax.specs.exact.NameTable.{by_name}
use Rattle.wm_syntax.proofs.instructions.op_names.code_at.Goals as goal

pub returns-in-None : goal.returns-in-None
returns-in-None c = sym (get_or_past by_name c.args.rank 0 (omega (arith, c.in-None.ensures.lookup)))
