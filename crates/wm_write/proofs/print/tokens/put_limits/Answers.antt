use Rattle.std.proofs.Common.{[], ◌∷◌}
use Rattle.wm_write.specs.Layout.{max_words, number}
use Rattle.wm_write.proofs.PrintedWords.{sent_word, sent_words}
use Rattle.wm_write.proofs.print.tokens.put_limits.Goals as goal

pub returns : goal.returns
returns g c =
    sent_words (number c.args.limits.min ∷ []) (max_words c.args.limits.max) _ _ _ (sent_word (number c.args.limits.min) _ _ c.put_counted.ensures)
    c.put_max.ensures
