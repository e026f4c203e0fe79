use Rattle.std.proofs.Common.{◌∙◌, ap, arith, length, length-append}
use Rattle.wm_syntax.proofs.NumberLoops.{short}
use Rattle.wm_write.proofs.encode.spell.push_long_number.Goals as goal

pub push-requires : goal.push-requires
push-requires c =
    omega (arith, ap length (c.as_slice.ensures ∙ c.number.ensures), short 5 c.from.result)

pub returns-clause-short : goal.returns-clause-short
returns-clause-short c =
    omega (arith, ap length c.push.ensures, length-append c.args.batch.now c.as_slice.result.now, ap length (c.as_slice.ensures ∙ c.number.ensures), short 5 c.from.result)
