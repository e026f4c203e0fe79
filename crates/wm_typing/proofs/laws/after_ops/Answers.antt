-- The heights and the figures are those of the open lists.
use Rattle.wm_typing.specs.Contexts.{body_context}
use Rattle.wm_typing.proofs.StacksAfterOps.{can_be_typed}
use Rattle.wm_typing.proofs.AfterCalls.{nested_said, controls_said}
use Rattle.wm_typing.proofs.Folds.{ended_iff}
use Rattle.wm_typing.proofs.laws.after_ops.Goals as goal

pub returns-clause-typed : goal.returns-clause-typed
returns-clause-typed c d x locals ops b a = can_be_typed (body_context d x locals) ops b.state.table b.state.stacks a.keeps

pub returns-clause-ended : goal.returns-clause-ended
returns-clause-ended c d x locals ops b a = ended_iff d x locals ops b a

pub returns-clause-nested : goal.returns-clause-nested
returns-clause-nested c d x locals ops b a = nested_said d x locals ops b a

pub returns-clause-controls : goal.returns-clause-controls
returns-clause-controls c d x locals ops b a = controls_said d x locals ops b a
