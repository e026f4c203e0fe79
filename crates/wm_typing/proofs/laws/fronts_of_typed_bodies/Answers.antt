-- A typing of all ops gives one of each front.
use Rattle.std.proofs.Common.{◌++◌, refl}
use Rattle.wm_typing.specs.Contexts.{body_context}
use Rattle.wm_typing.proofs.StacksAfterOps.{front_typed, body_can}
use Rattle.wm_typing.proofs.laws.fronts_of_typed_bodies.Goals as goal

pub returns : goal.returns
returns c d x locals front back h =
    front_typed (body_context d x locals) front back (body_can (body_context d x locals) (front ++ back) refl h)
