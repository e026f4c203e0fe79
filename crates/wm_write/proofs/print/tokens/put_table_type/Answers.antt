use Rattle.std.proofs.Common.{[], ◌∷◌}
use Rattle.std.specs.Prelude.{codes}
use Rattle.wm_write.specs.Layout.{limits_words, spaced}
use Rattle.wm_write.proofs.PrintedWords.{sent_words}
use Rattle.wm_write.proofs.print.tokens.put_table_type.Goals as goal

pub returns : goal.returns
returns g c = sent_words (limits_words c.args.limits) (spaced (codes "funcref") ∷ []) _ _ _ c.put_limits.ensures c.put_bytes.ensures
