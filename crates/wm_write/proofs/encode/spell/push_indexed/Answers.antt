use Rattle.std.proofs.Common.{◌++◌, ◌∷◌, ◌∙◌, ap, arith, sym, List, ℕ}
use Rattle.wm_syntax.proofs.NumberLoops.{last_byte}
use Rattle.wm_write.proofs.encode.spell.push_indexed.Goals as goal

pub returns-then-index-lt128-clause-text : goal.returns-then-index-lt128-clause-text
returns-then-index-lt128-clause-text c =
    c.push_two.ensures ∙ ap (λ (z : List ℕ). c.args.batch.now ++ c.args.byte ∷ z) (sym (last_byte 5 c.args.index (omega arith) c.if-index-lt128.true))
