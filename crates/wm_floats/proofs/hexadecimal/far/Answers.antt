use Rattle.std.proofs.Common.{arith}
use Rattle.wm_floats.specs.inner.Parts.{parts_of}
use Rattle.wm_floats.proofs.Far.{far_negative, far_none, far_positive}
use Rattle.wm_floats.proofs.Underscores.{plain_short}
use Rattle.wm_floats.proofs.hexadecimal.far.Goals as goal

pub returns-then-negative : goal.returns-then-negative
returns-then-negative c =
    far_negative c.args.width (parts_of c.args.number) c.read_both-digits.result c.if-negative.true c.read_both-digits.ensures.leads (omega arith)
    (omega (arith, c.read_both-digits.ensures.left, c.requires.short)) c.requires.far

pub returns-then-digits-eq0 : goal.returns-then-digits-eq0
returns-then-digits-eq0 c = far_none c.args.width (parts_of c.args.number) c.read_both-digits.result c.read_both-digits.ensures.leads c.if-digits-eq0.true

pub returns : goal.returns
returns c =
    far_positive c.args.width (parts_of c.args.number) c.read_both-digits.result c.if-negative.false c.read_both-digits.ensures.leads (omega (arith, c.if-digits-eq0.false))
    (omega (arith, plain_short c.args.number.part.now, c.requires.short)) c.requires.far
