use Rattle.std.proofs.Common.{◌++◌, ◌∷◌, ◌∙◌, ap, arith, sym, List, ℕ}
use Rattle.wm_syntax.proofs.NumberLoops.{last_positive}
use Rattle.wm_write.proofs.encode.spell.push_positive_const.Goals as goal

pub returns-then-value-lt64-clause-text : goal.returns-then-value-lt64-clause-text
returns-then-value-lt64-clause-text c =
    c.push_two.ensures ∙ ap (λ (z : List ℕ). c.args.batch.now ++ 65 ∷ z) (sym (last_positive 5 c.args.value (omega arith) c.if-value-lt64.true))
