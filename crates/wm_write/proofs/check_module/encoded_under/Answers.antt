use Rattle.std.proofs.Common.{◌≡◌, Err}
use Rattle.std.specs.Prelude.{◌↔◌, IfOk}
use Rattle.wm_syntax.specs.Values.{value_of}
use Rattle.wm_write.specs.Canon.{FitsWith, canon_with}
use Rattle.wm_write.specs.declared.in_memory.MakeFault.TheVariants as made
use Rattle.std.proofs.Common.{subst}
use Rattle.wm_write.proofs.check_module.encoded_under.Goals as goal

pub returns-clause-written : goal.returns-clause-written
returns-clause-written c = subst (λ f. IfOk c.encoded_with.result (λ b. b.items ≡ canon_with f (value_of c.args.m.now))) c.reads_flags-flagged.ensures c.encoded_with.ensures.written

pub returns-clause-too_large : goal.returns-clause-too_large
returns-clause-too_large c = subst (λ f. (c.encoded_with.result ≡ Err made.TooLarge) ↔ (¬ FitsWith f (value_of c.args.m.now))) c.reads_flags-flagged.ensures c.encoded_with.ensures.too_large
