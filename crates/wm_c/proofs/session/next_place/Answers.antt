use Rattle.std.proofs.Common.{ap, subst, Option, ◌∙◌}
use Rattle.wm_decode.specs.declared.place.Snapshot.{Snapshot}
use Rattle.wm_rules.specs.inner.Finding.{IsAfterAny}
use Rattle.wm_c.specs.Places.{place_numbers}
use Rattle.wm_c.proofs.session.next_place.Goals as goal

pub returns-in-Some-clause-next : goal.returns-in-Some-clause-next
returns-in-Some-clause-next c none p limit q bytes read = c.of.ensures ∙ ap place_numbers (c.at_end.ensures p bytes (c.snapshot-next.ensures.after none p limit q bytes read)).place

pub returns-in-None-clause-next : goal.returns-in-None-clause-next
returns-in-None-clause-next c none p limit q bytes read =
    absurd (subst (λ (s : Option Snapshot). IsAfterAny s p bytes) c.in-None.is (c.snapshot-next.ensures.after none p limit q bytes read))
