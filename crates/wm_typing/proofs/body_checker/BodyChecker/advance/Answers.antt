-- A height that the op cannot have grown is at most the one counted before.
use Rattle.std.proofs.Common.{arith, sym, ◌∙◌}
use Rattle.wm_typing.specs.Contexts.{in_function}
use Rattle.wm_typing.proofs.Raises.{step_lower}
use Rattle.wm_typing.proofs.body_checker.BodyChecker.advance.Goals as goal

pub count_raised-requires-clause-operands : goal.count_raised-requires-clause-operands
count_raised-requires-clause-operands c h =
    let s = c.self.inside in
    let l =
    step_lower (in_function c.args.context.now s.function.type_index s.function.result s.declared.types) c.args.op s.table s.stacks _
    c.in_default-take_op.ensures.acts.0 in
    let low = l.0 (sym c.raised_by-raised.ensures.operands ∙ h) in
    omega (arith, low, c.self.invariant.3)

pub count_raised-requires-clause-frames : goal.count_raised-requires-clause-frames
count_raised-requires-clause-frames c h =
    let s = c.self.inside in
    let l =
    step_lower (in_function c.args.context.now s.function.type_index s.function.result s.declared.types) c.args.op s.table s.stacks _
    c.in_default-take_op.ensures.acts.0 in
    let low = l.1 (sym c.raised_by-raised.ensures.frames ∙ h) in
    omega (arith, low, c.self.invariant.4)
