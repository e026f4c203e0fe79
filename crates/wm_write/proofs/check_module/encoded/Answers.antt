use Rattle.wm_syntax.specs.Values.{value_of}
use Rattle.wm_write.proofs.Checks.{encoded_for}
use Rattle.wm_write.proofs.check_module.encoded.Goals as goal

pub returns-in-Ok-clause-written : goal.returns-in-Ok-clause-written
returns-in-Ok-clause-written c =
    encoded_for c.args.profile (value_of c.args.m.now) _ c.in_range.ensures (λ n. let e = c.in-Ok.ensures.too_large.1 n in cc) c.in-Ok.ensures.written

pub returns-in-Ok-clause-too_large : goal.returns-in-Ok-clause-too_large
returns-in-Ok-clause-too_large c = (λ e f. cc, λ n. let e = c.in-Ok.ensures.too_large.1 n in cc)
