-- The proof closes each list.
use Rattle.std.proofs.Common.{refl}
use Rattle.wm_typing.specs.Contexts.{body_context}
use Rattle.wm_typing.proofs.BegunBodies.{begun_body}
use Rattle.wm_typing.proofs.laws.open_ops_begin_a_body.Goals as goal

pub returns : goal.returns
returns c d x locals hs ws ops o can = begun_body (body_context d x locals) hs ws ops refl o can
