use Rattle.std.proofs.Common.{◌≡◌, ◌+◌, refl, ◌∙◌, rules}
use Rattle.wm_bodies.proofs.Spaces.{unnamed_length, unnamed_places}
use Rattle.wm_bodies.proofs.identifiers.Space.push_unnamed.Goals as goal

pub invariant_of-self : goal.invariant_of-self
invariant_of-self c =
    let total : c.in-Some.total ≡ c.self.inside.count + c.args.count = search rules in (
      unnamed_places c.self.inside.places c.self.inside.identified.items c.self.inside.unnamed c.args.count (c.self.inside.unnamed + c.args.count) refl c.self.invariant.0,
      total ∙ unnamed_length c.self.inside.identified.items c.self.inside.unnamed c.args.count (c.self.inside.unnamed + c.args.count) c.self.inside.count refl c.self.invariant.1,
    )
