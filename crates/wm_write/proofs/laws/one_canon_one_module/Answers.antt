use Rattle.std.proofs.Common.{◌∙◌, ap, false, refl, subst, sym}
use Rattle.wm_syntax.specs.declared.profile.Profile.{Profile}
use Rattle.wm_syntax.specs.Modules.{IsModule, Module}
use Rattle.wm_syntax.specs.Profiles.{IsOf}
use Rattle.wm_machine.specs.Sections.{SpellsModule}
use Rattle.wm_machine.proofs.OneSpelling.{one_spelling}
use Rattle.wm_write.specs.Canon.{FitsUnder, canon, canon_under, canon_with, with_flags}
use Rattle.wm_write.proofs.Ranges.{count_of_profile, flags_are, modes_of_profile}
use Rattle.wm_write.proofs.Checks.{spelled, unflagged_spells, unflagged}
use Rattle.wm_write.proofs.SegmentFronts.{canon_same}
use Rattle.wm_write.proofs.laws.one_canon_one_module.Goals as goal

whole : (p : Profile) (m : Module) → IsOf p m → IsModule m → FitsUnder p m → SpellsModule p m (canon_under p m)
whole p m of h fit = (spelled p m (canon_under p m) (record { is = refl; in_range = h; fits = fit }) of).1

pub returns-clause-under : goal.returns-clause-under
returns-clause-under c = λ p m n of h fit own k fits same.
    one_spelling p p m n (canon_under p m) refl (whole p m of h fit) (subst (SpellsModule p n) (sym same) (whole p n own k fits))

pub returns-clause-plain : goal.returns-clause-plain
returns-clause-plain c = λ m n none h fit nothing k fits same.
    one_spelling unflagged unflagged m n (canon m) refl (unflagged_spells m none h fit) (subst (SpellsModule unflagged n) (sym same) (unflagged_spells n nothing k fits))

pub returns-clause-same : goal.returns-clause-same
returns-clause-same c = λ p m l. canon_same (with_flags p m) false m l.loads.valid

pub returns-clause-old : goal.returns-clause-old
returns-clause-old c = λ p m without of.
    ap (λ f. canon_with f m) (flags_are p m (modes_of_profile p m of) (count_of_profile p m of) ∙ without)
