use Rattle.std.proofs.Common.{◌^◌, arith, subst, sym}
use Rattle.wm_write.proofs.CanonSpells.{spells}
use Rattle.wm_write.specs.Canon.{FitsWith, canon_with}
use Rattle.wm_machine.specs.Sections.{Spells}
use Rattle.wm_syntax.specs.declared.profile.Feature.TheVariants.{BulkMemory}
use Rattle.wm_syntax.specs.Profiles.{has}
use Rattle.wm_write.proofs.Ranges.{flags_are, locals_of_profile, modes_of_profile, count_of_profile}
use Rattle.wm_write.proofs.SectionLemmas.{canon_short}
use Rattle.wm_write.proofs.laws.canon_spells.Goals as goal

pub returns : goal.returns
returns c = λ p m of h fit.
    let modes = modes_of_profile p m of in
    let may = count_of_profile p m of in
    let flags = flags_are p m modes may in
    let fits = subst (λ f. FitsWith f m) flags fit in
    subst (λ f. Spells p (2 ^ 62) m (canon_with f m)) (sym flags)
    (omega (arith, canon_short (has p BulkMemory) m fits), spells p m (locals_of_profile p m of) modes may h fits)
