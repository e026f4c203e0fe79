-- A local that is known was searched before.
use Rattle.std.proofs.Common.{◌≡◌, subst}
use Rattle.wm_stacks.specs.Probes.{probes_for}
use Rattle.wm_typing.specs.inner.DeclaredLocals.{Declared, with_probes}
use Rattle.wm_typing.proofs.KnownTypes.{searched_before}
use Rattle.wm_typing.proofs.declared_locals.DeclaredLocals.find.Goals as goal

pub returns-in-Some-clause-searched : goal.returns-in-Some-clause-searched
returns-in-Some-clause-searched c =
    let p = c.self.invariant c.args.index c.in-Some.ty c.in-Some.ensures in
    subst (λ (d : Declared). d ≡ with_probes (probes_for d.types c.args.index) d) c.self.view_is (searched_before _ _ p.1)
