use Rattle.std.proofs.Common.{Some, None, sym, ap, ◌∙◌}
use Rattle.std.proofs.lemmas.Map.Text.{btree_map_updates_str}
use Rattle.wm_bodies.specs.inner.Blocks.{changed}
use Rattle.wm_bodies.specs.inner.Ids.{id_of, place_in}
use Rattle.wm_bodies.proofs.blocks.put.Goals as goal

pub returns-in_ok-insert-in-Some-place-clause-put : goal.returns-in_ok-insert-in-Some-place-clause-put
returns-in_ok-insert-in-Some-place-clause-put c = λ name.
    btree_map_updates_str c.in-Some.name.now c.args.places.now c.insert.new.self _ c.in_ok-insert-in-Some-place.ensures.updates name
    ∙ ap (λ i. changed (id_of i) (Some c.in-Some-place.place) (place_in c.args.places.now) name) (sym c.in-Some.is)
    ∙ ap (λ p. changed (id_of c.args.id) p (place_in c.args.places.now) name) (sym c.in-Some-place.is)

pub returns-in-None-clause-put : goal.returns-in-None-clause-put
returns-in-None-clause-put c = λ name.
    btree_map_updates_str c.in-Some.name.now c.args.places.now c.remove-removed.new.self _ c.remove-removed.ensures.updates name
    ∙ ap (λ i. changed (id_of i) None (place_in c.args.places.now) name) (sym c.in-Some.is)
    ∙ ap (λ p. changed (id_of c.args.id) p (place_in c.args.places.now) name) (sym c.in-None.is)
