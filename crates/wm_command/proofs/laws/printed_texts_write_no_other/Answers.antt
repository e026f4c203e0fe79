use Rattle.std.proofs.Common.{subst}
use Rattle.wm_write.specs.Layout.{layout, module_words}
use Rattle.wm_tokens.specs.Fields.{Writes}
use Rattle.wm_write.specs.inner.Printed.{tokens}
use Rattle.wm_read.proofs.ModuleLaws.{one_module}
use Rattle.wm_write.proofs.PrintedTexts.{printed_writes}
use Rattle.wm_tokens.proofs.Whole.{one_list}
use Rattle.wm_command.proofs.laws.printed_texts_write_no_other.Goals as goal

pub returns : goal.returns
returns c = λ p limit q b m n k loads t w.
    let h = printed_writes p limit q b m loads in
    one_module p (tokens (module_words m)) n m (subst (λ z. Writes p z n) (one_list (layout m) k (tokens (module_words m)) t h.0) w) h.1
