use Rattle.std.proofs.Common.{ap, subst, Option, ◌∙◌}
use Rattle.wm_decode.specs.declared.place.Snapshot.{Snapshot}
use Rattle.wm_rules.specs.inner.Finding.{IsAfterAny}
use Rattle.wm_c.specs.Places.{place_numbers}
use Rattle.wm_c.proofs.session.refused_place.Goals as goal

pub returns-in-Some-clause-found : goal.returns-in-Some-clause-found
returns-in-Some-clause-found c p bytes after late high = c.of.ensures ∙ ap place_numbers (c.in_piece.ensures p bytes after late high).place

pub returns-in-None-clause-found : goal.returns-in-None-clause-found
returns-in-None-clause-found c p bytes after late high = absurd (subst (λ (s : Option Snapshot). IsAfterAny s p bytes) c.in-None.is after)
