use Rattle.std.proofs.Common.{◌≡◌, ◌<◌, Ok, arith, length, rules, slice_index, subst}
use Rattle.wm_shortcuts.specs.exact.Indices.{index_item_in}
use Rattle.wm_machine.proofs.TakenItems.{number_taken}
use Rattle.wm_shortcuts.proofs.indices.give_indices.Goals as goal

pub loop-i-preserved : goal.loop-i-preserved
loop-i-preserved g c =
    let less : c.loop-i.i < length c.args.bytes.now = omega arith in
    let index : c.from.result ≡ slice_index c.args.bytes.now c.loop-i.i = search rules in
    number_taken g.S.Sink.after (index_item_in c.args.list) (g.S.Sink.held c.args.sink.now) (g.S.Sink.held c.loop-i.sink) (g.S.Sink.held c.give_short_index.new.sink) c.args.bytes.now c.loop-i.i less c.loop-i.invariant
    (subst (λ y. g.S.Sink.after (g.S.Sink.held c.loop-i.sink) (index_item_in c.args.list y) ≡ Ok (g.S.Sink.held c.give_short_index.new.sink)) index c.in_default.ensures.given)
