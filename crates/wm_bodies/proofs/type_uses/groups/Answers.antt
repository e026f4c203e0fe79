use Rattle.wm_tokens.specs.exact.Scan.{lexed}
use Rattle.wm_bodies.proofs.Groups.{group_shrinks}
use Rattle.wm_bodies.proofs.type_uses.groups.Goals as goal

pub loop-profile-smaller : goal.loop-profile-smaller
loop-profile-smaller c =
    group_shrinks c.args.profile c.args.name.now c.loop-profile.types.items c.group.new.types.items (lexed c.loop-profile.rest.now) (lexed c.in_ok-rest.rest.now) c.in_ok-rest.ensures
