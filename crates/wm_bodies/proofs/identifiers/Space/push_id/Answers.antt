use Rattle.std.proofs.Common.{◌≡◌, ◌+◌, ◌++◌, ◌∷◌, [], Some, ◌∙◌, rules}
use Rattle.wm_bodies.specs.declared.identifiers.Identified.{Identified}
use Rattle.wm_bodies.specs.inner.Ids.{place_in, spaced}
use Rattle.wm_bodies.proofs.Spaces.{identified_length, identified_more, identified_places}
use Rattle.wm_bodies.proofs.identifiers.Space.push_id.Goals as goal

pub invariant_of-self-in-Ok : goal.invariant_of-self-in-Ok
invariant_of-self-in-Ok c =
    let item : Identified = record { before = c.self.inside.unnamed; id = c.args.id } in
    let total : c.in-Some.total ≡ c.self.inside.count + 1 = search rules in (
      identified_places (place_in c.self.inside.places) (place_in c.define.new.places) c.self.inside.identified.items c.push.new.self.items item c.self.inside.count
          c.in_ok-push.ensures.items c.self.invariant.1 c.self.invariant.0 c.in-Ok.ensures.noted,
      total ∙ identified_length c.self.inside.identified.items c.push.new.self.items item c.self.inside.count c.in_ok-push.ensures.items c.self.invariant.1,
    )

pub returns-in-Ok-clause-added : goal.returns-in-Ok-clause-added
returns-in-Ok-clause-added c =
    let item : Identified = record { before = c.self.inside.unnamed; id = c.args.id } in
    let more : spaced c.push.new.self.items 0 ≡ spaced c.self.inside.identified.items c.self.inside.unnamed ++ Some c.args.id.now ∷ [] =
    identified_more c.self.inside.identified.items c.push.new.self.items item c.in_ok-push.ensures.items in
    (cc)
