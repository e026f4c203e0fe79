use Rattle.std.proofs.Common.{length}
use Rattle.std.specs.Prelude.{reverse}
use Rattle.wm_bodies.specs.inner.Blocks.{HasInnermost, HasOuter, place_from}
use Rattle.wm_bodies.specs.inner.Ids.{place_in}
use Rattle.wm_bodies.proofs.OpenBlocks.{at_last, not_missing, popped}
use Rattle.wm_bodies.proofs.blocks.OpenBlocks.close.Goals as goal

pub unreachable-requires : goal.unreachable-requires
unreachable-requires c =
    not_missing c.in-Some.block.id (length (reverse c.pop.new.self.items)) (place_from (reverse c.pop.new.self.items)) (place_in c.self.inside.places)
    (at_last (HasInnermost c.self.inside.places) c.self.inside.blocks.items c.pop.new.self.items c.in-Some.block c.in-Some.ensures.items c.self.invariant.0)
    c.in-Err.ensures.missing

pub invariant_of-self : goal.invariant_of-self
invariant_of-self c =
    let before = at_last HasOuter c.self.inside.blocks.items c.pop.new.self.items c.in-Some.block c.in-Some.ensures.items c.self.invariant.1 in (
      popped c.in-Some.block.id c.in-Some.block.outer (length (reverse c.pop.new.self.items)) (place_from (reverse c.pop.new.self.items)) (place_in c.self.inside.places)
          (place_in c.put.new.places) before.0
          (at_last (HasInnermost c.self.inside.places) c.self.inside.blocks.items c.pop.new.self.items c.in-Some.block c.in-Some.ensures.items c.self.invariant.0)
          c.in-Ok.ensures.put,
      before.1,
    )
