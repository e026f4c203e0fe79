use Rattle.std.proofs.Common.{◌≡◌, ◌<◌, ◌-◌, Some, None, length, sym, ap, ◌∙◌, arith, rules}
use Rattle.std.specs.Prelude.{reverse}
use Rattle.wm_bodies.specs.exact.Reading.{place_of}
use Rattle.wm_bodies.specs.inner.Blocks.{place_from}
use Rattle.wm_bodies.specs.inner.Pieces.{labels}
use Rattle.wm_bodies.proofs.OpenBlocks.{depth_none, depth_some, place_below}
use Rattle.wm_bodies.proofs.blocks.OpenBlocks.depth.Goals as goal

pub overflow_sub-depth : goal.overflow_sub-depth
overflow_sub-depth c =
    let size : c.len.result ≡ length c.self.inside.blocks.items = search rules in
    let found : place_from (reverse c.self.inside.blocks.items) c.args.name.now ≡ Some c.in-Some.place = sym (c.self.invariant.0 c.args.name.now) ∙ sym c.get.ensures.value ∙ sym c.copied.ensures ∙ c.in-Some.is in
    let lt : c.in-Some.place < length c.self.inside.blocks.items = place_below c.self.inside.blocks.items c.args.name.now c.in-Some.place found in
    omega (arith, size, lt)

pub overflow_sub-depth-in-Some : goal.overflow_sub-depth-in-Some
overflow_sub-depth-in-Some c =
    let size : c.len.result ≡ length c.self.inside.blocks.items = search rules in
    let found : place_from (reverse c.self.inside.blocks.items) c.args.name.now ≡ Some c.in-Some.place = sym (c.self.invariant.0 c.args.name.now) ∙ sym c.get.ensures.value ∙ sym c.copied.ensures ∙ c.in-Some.is in
    let lt : c.in-Some.place < length c.self.inside.blocks.items = place_below c.self.inside.blocks.items c.args.name.now c.in-Some.place found in
    omega (arith, size, lt)

pub returns-in-Some : goal.returns-in-Some
returns-in-Some c =
    let size : c.len.result ≡ length c.self.inside.blocks.items = search rules in
    let found : place_from (reverse c.self.inside.blocks.items) c.args.name.now ≡ Some c.in-Some.place = sym (c.self.invariant.0 c.args.name.now) ∙ sym c.get.ensures.value ∙ sym c.copied.ensures ∙ c.in-Some.is in
    ap (λ n. Some (n - 1 - c.in-Some.place)) size ∙ depth_some c.self.inside.blocks.items c.args.name.now c.in-Some.place found
    ∙ ap (λ bs. place_of (labels bs) c.args.name.now) c.self.view_is

pub returns-in-None : goal.returns-in-None
returns-in-None c =
    let found : place_from (reverse c.self.inside.blocks.items) c.args.name.now ≡ None = sym (c.self.invariant.0 c.args.name.now) ∙ sym c.get.ensures.value ∙ sym c.copied.ensures ∙ c.in-None.is in
    depth_none c.self.inside.blocks.items c.args.name.now found ∙ ap (λ bs. place_of (labels bs) c.args.name.now) c.self.view_is
