use Rattle.std.proofs.Common.{sym, arith}
use Rattle.std.proofs.lemmas.Int.{ints}
use Rattle.wm_syntax.proofs.Lengths.{one_signed_len}
use Rattle.wm_syntax.proofs.numbers.lengths.signed_len.Goals as goal

pub returns-then-value-lt64-clause-value : goal.returns-then-value-lt64-clause-value
returns-then-value-lt64-clause-value c = sym (one_signed_len c.args.most c.args.value c.requires.some (omega (arith, ints, c.if-value-geminus64.true)) (omega (arith, ints, c.if-value-lt64.true)))
