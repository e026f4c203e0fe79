use Rattle.std.proofs.Common.{◌≡◌, length}
use Rattle.wm_bodies.specs.exact.Reading.{made}
use Rattle.wm_tokens.specs.exact.Scan.{lexed}
use Rattle.wm_bodies.specs.exact.TypeUses.{adding_named, types_at, unnamed}
use Rattle.wm_bodies.specs.inner.Named.{named_list}
use Rattle.wm_bodies.proofs.named.unnamed.Given as goal

abbrev pub invariant-loop-atom : goal.invariant-loop-atom
invariant-loop-atom l =
    adding_named (named_list l.named.items) (made unnamed (types_at l.profile (lexed l.rest)))
    ≡ adding_named (named_list l.fn.named.items) (made unnamed (types_at l.profile (lexed l.text)))

abbrev pub decreases-loop-atom : goal.decreases-loop-atom
decreases-loop-atom l = length l.rest
