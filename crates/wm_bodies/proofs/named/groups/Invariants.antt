use Rattle.std.proofs.Common.{◌≡◌, length}
use Rattle.wm_tokens.specs.exact.Scan.{lexed}
use Rattle.wm_bodies.specs.exact.TypeUses.{named_at, named_groups_at}
use Rattle.wm_bodies.specs.inner.Named.{named_list}
use Rattle.wm_bodies.proofs.NamedGroups.{after_named}
use Rattle.wm_bodies.proofs.named.groups.Given as goal

abbrev pub invariant-loop-profile : goal.invariant-loop-profile
invariant-loop-profile l = after_named (named_list l.named.items) (named_groups_at l.profile l.name (lexed l.rest)) ≡ named_at l.profile l.name (lexed l.text)

abbrev pub decreases-loop-profile : goal.decreases-loop-profile
decreases-loop-profile l = length (lexed l.rest)
