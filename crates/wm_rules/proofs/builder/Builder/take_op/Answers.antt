use Rattle.std.proofs.Common.{subst}
use Rattle.wm_machine.specs.Sinks.{Taken}
use Rattle.wm_rules.specs.exact.Built.{op_taken}
use Rattle.wm_rules.specs.inner.Builders.{built, code_at}
use Rattle.wm_rules.proofs.builder.Builder.take_op.Goals as goal
use Rattle.wm_rules.proofs.builder.Builder.take_op.Goals.{else-is_some-via-then-is_some+else-push_fast, else-is_some-via-else-is_some}

-- src/builder.rt:406:5
pub returns : goal.returns
returns c = elim c.else-is_some.branch [
  | else-is_some-via-then-is_some+else-push_fast w ↦
      subst (λ b. Taken (op_taken c.args.op.now (record (built c.args.self.now) { code = code_at c.args.self.now.locals b }) (code_at c.args.self.now.locals b)) c.take_any_op.result (built c.take_any_op.new.self)) (w.push_fast.ensures.left w.if-push_fast.false)
      (subst (λ s. Taken (op_taken c.args.op.now (built s) (code_at s.locals s.body)) c.take_any_op.result (built c.take_any_op.new.self)) w.self-is c.take_any_op.ensures)
  | else-is_some-via-else-is_some w ↦
      subst (λ s. Taken (op_taken c.args.op.now (built s) (code_at s.locals s.body)) c.take_any_op.result (built c.take_any_op.new.self)) w.self-is c.take_any_op.ensures
]
