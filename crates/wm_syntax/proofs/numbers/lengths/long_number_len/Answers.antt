use Rattle.std.proofs.Common.{arith}
use Rattle.wm_syntax.proofs.Lengths.{two_bytes, three_bytes, four_bytes, five_bytes}
use Rattle.wm_syntax.proofs.numbers.lengths.long_number_len.Goals as goal

pub returns-in-0-to-16383-clause-value : goal.returns-in-0-to-16383-clause-value
returns-in-0-to-16383-clause-value c = omega (arith, two_bytes c.args.value (omega arith) (omega arith))

pub returns-in-16384-to-2097151-clause-value : goal.returns-in-16384-to-2097151-clause-value
returns-in-16384-to-2097151-clause-value c = omega (arith, three_bytes c.args.value (omega arith) (omega arith))

pub returns-in-2097152-to-268435455-clause-value : goal.returns-in-2097152-to-268435455-clause-value
returns-in-2097152-to-268435455-clause-value c = omega (arith, four_bytes c.args.value (omega arith) (omega arith))

pub returns-in_default-clause-value : goal.returns-in_default-clause-value
returns-in_default-clause-value c = omega (arith, five_bytes c.args.value (omega arith))
