use Rattle.std.proofs.Common.{Result, subst}
use Rattle.wm_machine.specs.declared.refusal.Refusal.{Refusal}
use Rattle.wm_rules.specs.inner.Loading.{LoaderRead, Reading, loader_setting}
use Rattle.wm_rules.proofs.loader.state.Loader.snapshot.Goals as goal

pub returns-in-Ok-clause-after : goal.returns-in-Ok-clause-after
returns-in-Ok-clause-after c = λ none p limit q bytes h.
    let a = subst (λ (s : Result Reading Refusal). LoaderRead s p limit q bytes) c.in-Ok.is h in
    c.snapshot.ensures a.1 (loader_setting p limit q) bytes a.0
