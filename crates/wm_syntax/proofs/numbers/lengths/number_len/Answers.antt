use Rattle.std.proofs.Common.{arith}
use Rattle.wm_syntax.proofs.Lengths.{one_byte}
use Rattle.wm_syntax.proofs.numbers.lengths.number_len.Goals as goal

pub returns-then-value-lt128-clause-value : goal.returns-then-value-lt128-clause-value
returns-then-value-lt128-clause-value c = omega (arith, one_byte c.args.value (omega arith))
