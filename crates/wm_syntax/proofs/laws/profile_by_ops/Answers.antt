use Rattle.wm_syntax.proofs.ProfileLaws.{by_ops}
use Rattle.wm_syntax.proofs.laws.profile_by_ops.Goals as goal

pub returns : goal.returns
returns c = by_ops
