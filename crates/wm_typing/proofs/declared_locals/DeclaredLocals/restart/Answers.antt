-- There are no locals.
use Rattle.std.proofs.Common.{ap, ◌∙◌}
use Rattle.wm_typing.specs.inner.DeclaredLocals.{Declared}
use Rattle.wm_typing.proofs.KnownTypes.{none_found}
use Rattle.wm_typing.proofs.declared_locals.DeclaredLocals.restart.Goals as goal

pub invariant_of-self : goal.invariant_of-self
invariant_of-self c =
    let s = c.self.inside in
    none_found s.known s.table s.probes 0 c.self.invariant (ap (λ (d : Declared). d.types) (c.self.view_is ∙ c.clear.ensures))
