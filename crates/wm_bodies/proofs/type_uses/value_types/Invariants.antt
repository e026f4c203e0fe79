use Rattle.std.proofs.Common.{◌≡◌, length}
use Rattle.wm_tokens.specs.exact.Scan.{lexed}
use Rattle.wm_bodies.specs.exact.TypeUses.{adding, types_at}
use Rattle.wm_bodies.proofs.type_uses.value_types.Given as goal

abbrev pub invariant-loop-atom : goal.invariant-loop-atom
invariant-loop-atom l = adding l.types.items (types_at l.profile (lexed l.rest)) ≡ adding l.fn.types.items (types_at l.profile (lexed l.text))

abbrev pub decreases-loop-atom : goal.decreases-loop-atom
decreases-loop-atom l = length l.rest
