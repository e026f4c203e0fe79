use Rattle.std.proofs.Common.{◌++◌, ◌∙◌, ap, arith, sym, List, ℕ}
use Rattle.wm_syntax.proofs.NumberLoops.{last_byte}
use Rattle.wm_write.proofs.encode.spell.push_number.Goals as goal

pub returns-then-value-lt128-clause-text : goal.returns-then-value-lt128-clause-text
returns-then-value-lt128-clause-text c =
    c.push_byte.ensures ∙ ap (λ (z : List ℕ). c.args.batch.now ++ z) (sym (last_byte 5 c.args.value (omega arith) c.if-value-lt128.true))
