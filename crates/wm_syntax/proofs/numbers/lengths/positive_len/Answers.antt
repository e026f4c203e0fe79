use Rattle.std.proofs.Common.{◌-◌, arith}
use Rattle.wm_syntax.proofs.Lengths.{last_signed_len, more_signed_len, none_signed_len}
use Rattle.wm_syntax.proofs.numbers.lengths.positive_len.Goals as goal

pub returns-then-rest-lt64-clause-value : goal.returns-then-rest-lt64-clause-value
returns-then-rest-lt64-clause-value c =
    omega (arith, last_signed_len (c.args.most - c.loop-before.before) c.loop-before.rest (omega arith) c.if-rest-lt64.true, c.loop-before.invariant)

pub loop-before-preserved : goal.loop-before-preserved
loop-before-preserved c =
    omega (arith, more_signed_len c.args.most c.loop-before.before c.loop-before.rest c.loop-before-test.true c.if-rest-lt64.false, c.loop-before.invariant)

pub returns-clause-value : goal.returns-clause-value
returns-clause-value c = omega (arith, none_signed_len (c.args.most - c.loop-before.before) c.loop-before.rest (omega arith), c.loop-before.invariant)
