use Rattle.std.proofs.Common.{◌≡◌, Ok, take, map}
use Rattle.wm_machine.specs.Sinks.{all_taken}
use Rattle.wm_shortcuts.specs.exact.Indices.{index_item_in}
use Rattle.wm_shortcuts.proofs.indices.give_indices.Given as goal

abbrev pub invariant-loop-i : goal.invariant-loop-i
invariant-loop-i g l = all_taken g.S.Sink.after (g.S.Sink.held l.initial.sink) (map (index_item_in l.fn.list) (take l.i l.bytes)) ≡ Ok (g.S.Sink.held l.sink)
