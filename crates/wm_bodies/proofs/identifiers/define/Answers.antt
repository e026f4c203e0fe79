use Rattle.std.proofs.Common.{ap, ◌∙◌}
use Rattle.std.specs.Prelude.{not}
use Rattle.std.proofs.lemmas.Map.Text.{btree_map_updates_str}
use Rattle.wm_bodies.specs.inner.Ids.{place_in}
use Rattle.wm_bodies.proofs.Spaces.{known, noted}
use Rattle.wm_bodies.proofs.identifiers.define.Goals as goal

pub returns-in_ok-insert-clause-noted : goal.returns-in_ok-insert-clause-noted
returns-in_ok-insert-clause-noted c =
    noted (place_in c.args.places.now) (place_in c.insert.new.self) c.args.id.now c.args.at c.get.result c.get.ensures.value (c.is_none.ensures ∙ ap not c.if-is_none.true)
    (btree_map_updates_str c.args.id.now c.args.places.now c.insert.new.self _ c.in_ok-insert.ensures.updates)

pub returns-else-is_none-clause-noted : goal.returns-else-is_none-clause-noted
returns-else-is_none-clause-noted c =
    known (place_in c.args.places.now) c.args.id.now c.args.at c.get.result c.get.ensures.value (c.is_none.ensures ∙ ap not c.if-is_none.false)
