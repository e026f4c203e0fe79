use Rattle.std.proofs.Common.{Result, subst}
use Rattle.wm_machine.specs.declared.refusal.Refusal.{Refusal}
use Rattle.wm_decode.specs.declared.decoder.state.Decoder.{Decoder}
use Rattle.wm_rules.specs.declared.checker.Checker.{Checker}
use Rattle.wm_rules.specs.inner.Validators.{StateRead, validator_setting}
use Rattle.wm_rules.proofs.validator.Validator.snapshot.Goals as goal

pub returns-in-Ok-clause-after : goal.returns-in-Ok-clause-after
returns-in-Ok-clause-after c = λ none p limit q bytes h.
    let a = subst (λ (s : Result (Decoder Checker) Refusal). StateRead s p limit q bytes) c.in-Ok.is h in
    c.snapshot.ensures a.1 (validator_setting p limit q) bytes a.0
