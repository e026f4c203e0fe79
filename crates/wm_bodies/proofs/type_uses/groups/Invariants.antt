use Rattle.std.proofs.Common.{◌≡◌, length}
use Rattle.wm_bodies.specs.exact.Reading.{made}
use Rattle.wm_tokens.specs.exact.Scan.{lexed}
use Rattle.wm_bodies.specs.exact.TypeUses.{groups_at, joined}
use Rattle.wm_bodies.proofs.Groups.{after_groups}
use Rattle.wm_bodies.proofs.type_uses.groups.Given as goal

abbrev pub invariant-loop-profile : goal.invariant-loop-profile
invariant-loop-profile l = after_groups l.types.items (groups_at l.profile l.name (lexed l.rest)) ≡ made joined (groups_at l.profile l.name (lexed l.text))

abbrev pub decreases-loop-profile : goal.decreases-loop-profile
decreases-loop-profile l = length (lexed l.rest)
