use Rattle.std.proofs.Common.{arith}
use Rattle.std.proofs.lemmas.Bool.Decides.{nat_tests}
use Rattle.wm_write.proofs.print.tokens.hex_digit.Goals as goal

pub returns-then-n-lt10 : goal.returns-then-n-lt10
returns-then-n-lt10 c = grind (arith, nat_tests)

pub returns-else-n-lt10 : goal.returns-else-n-lt10
returns-else-n-lt10 c = grind (arith, nat_tests)
