use Rattle.std.proofs.Common.{◌≤◌, arith, length, subst, sym}
use Rattle.wm_write.proofs.CanonSpells.{spells}
use Rattle.wm_write.specs.Canon.{FitsWith, canon_with}
use Rattle.wm_machine.specs.Sections.{Spells}
use Rattle.wm_write.proofs.Ranges.{flags_are, locals_have, modes_have, module_in, counts_have}
use Rattle.wm_write.proofs.Shortest.{canon_shortest, spelled_fits}
use Rattle.wm_write.proofs.laws.spelled_has_canon.Goals as goal

pub returns-clause-range : goal.returns-clause-range
returns-clause-range c = λ p limit m b h. module_in p m b h.1

pub returns-clause-fits : goal.returns-clause-fits
returns-clause-fits c = λ p limit m b h. subst (λ f. FitsWith f m) (sym (flags_are p m (modes_have p m b h.1) (counts_have p m b h.1))) (spelled_fits p m b h.1)

pub returns-clause-canon : goal.returns-clause-canon
returns-clause-canon c = λ p limit m b h.
    let modes = modes_have p m b h.1 in
    let may = counts_have p m b h.1 in
    subst (λ f. Spells p limit m (canon_with f m)) (sym (flags_are p m modes may))
    (omega (arith, h.0, canon_shortest p m b h.1), spells p m (locals_have p m b h.1) modes may (module_in p m b h.1) (spelled_fits p m b h.1))

pub returns-clause-shortest : goal.returns-clause-shortest
returns-clause-shortest c = λ p limit m b h.
    subst (λ f. length (canon_with f m) ≤ length b) (sym (flags_are p m (modes_have p m b h.1) (counts_have p m b h.1))) (canon_shortest p m b h.1)
