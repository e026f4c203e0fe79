use Rattle.wm_write.proofs.PrintedWords.{sent_var}
use Rattle.wm_write.proofs.print.tokens.put_global_type.Goals as goal

pub returns-then-ty : goal.returns-then-ty
returns-then-ty g c = sent_var c.args.ty _ _ _ _ c.if-ty.true c.put_bytes.ensures c.put.ensures c.put_bytes-then-ty.ensures
